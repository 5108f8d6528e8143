-- Lists between any two tokens, lists that nothing closes, and parts with an operator between them: what is spelled is read.
use Rattle.std.proofs.Common.{◌≡◌, ℕ, zero, suc, ◌≤◌, ◌<◌, Bool, true, false, List, [], ◌∷◌, ◌++◌, map, length, drop, codes, Some, inl, inr, refl, sym, ap, subst, ◌∙◌, append_assoc, append-nil, arith}
use Rattle.std.specs.List.{list_all}
use Rattle.std.proofs.lemmas.Bool.{and_parts}
use Rattle.lay_piece.specs.Forms.{closing}
use Rattle.lay_piece.specs.declared.kind.Delim.{Delim}
use Rattle.lay_piece.specs.declared.kind.Delim.TheVariants.{Paren}
use Rattle.lay_piece.specs.declared.kind.Kind.TheVariants.{Punct, Closer}
use Rattle.lay_token.specs.Operators.{is_op}
use Rattle.lay_token.specs.declared.token.Token.{Token}
use Rattle.lay_form.specs.Form.{Bit, Fixed, Form, comma, closer}
use Rattle.lay_form.specs.Notation.{each, comma_gap, comma_list}
use Rattle.lay_form.specs.Spelled.{IsOne, IsBit, MayBe, Spells}
use Rattle.lay_form.proofs.FormLaws.{shorter}
use Rattle.lay_node.specs.Ahead.{Tokens, first, tail, is_mark, closes}
use Rattle.lay_node.specs.nodes.Types.{greater}
use Rattle.lay_node.specs.reader.Loops.{Got, Read, nodes, deepest, element_end, elements_from, elements, behind_open, open_elements_from, open_elements}
use Rattle.lay_node.specs.reader.Types.{chain}
use Rattle.lay_node.proofs.Fronts.{one_front, one_shorter, closer_first}
use Rattle.lay_node.proofs.Parts.{Rows, bit_alone, piece_bit}
use Rattle.lay_node.proofs.reader.Exact.{IsRead}
use Rattle.lay_node.proofs.reader.Loops.{Turn, repeat_complete}
use Rattle.lay_node.proofs.reader.TypesFronts.{Ends, comma_ends, greater_ends, closer_ends}

pub forms_of : {A B : Type 0} (form : B → Form) (about : A → B) (xs : List A) → map form (map about xs) ≡ map (λ x. form (about x)) xs
forms_of form about [] = refl
forms_of form about (x ∷ xs) = ap (λ fs. form (about x) ∷ fs) (forms_of form about xs)

-- ---- parts with an operator between them

pub chain_complete : {A : Type 0} (op : List ℕ) (one : Tokens → Got A) (x : A) (xs : List A) (ts mid rest : Tokens) → one ts ≡ Some (x, mid)
    → Rows (Turn (is_op op) (λ us. one (drop (length op) us))) xs mid rest → is_op op rest ≡ false → chain op one ts ≡ Some (x ∷ xs, rest)
unfolding chain
chain_complete op one x xs ts mid rest h rows stops =
    rw (h, repeat_complete (λ us. one (drop (length op) us)) (is_op op) xs mid rest rows stops) refl

-- ---- elements up to what closes them

-- What closes a list ends its last element.
pub record Closing (close : Bit) (ends : Token → Bool) (ts rest : Tokens) : Type 0 where
  pub there : first ends ts ≡ true
  pub left : tail ts ≡ rest
  pub kept : element_end ends ts ≡ Some ts
  pub quiet : Ends ts
  pub less : length rest < length ts

abbrev pub ClosedBy : Bit → (Token → Bool) → Type 0
ClosedBy close ends = (ts rest : Tokens) → IsBit close ts rest → Closing close ends ts rest

pub closer_closes : (d : Delim) → ClosedBy (closer d) (closes d)
closer_closes d ts rest o =
    let f = closer_first d ts rest o in
    let no_comma : first (is_mark (codes ",")) ts ≡ false = rw (one_front (Closer d) (closing d ∷ []) ts rest o).1 refl in
    record {
      there = f.0;
      left = f.1;
      kept = rw (no_comma, f.0) refl;
      quiet = closer_ends d ts rest o;
      less = one_shorter (Closer d) (closing d ∷ []) ts rest o;
    }

pub paren_closes : ClosedBy (closer Paren) (closes Paren)
paren_closes = closer_closes Paren

pub greater_closes : ClosedBy greater (is_mark (codes ">"))
greater_closes ts rest o =
    let f = one_front Punct (codes ">") ts rest o in
    record { there = rw f.1 refl; left = rw f.1 refl; kept = rw f.1 refl; quiet = greater_ends ts rest o; less = one_shorter Punct (codes ">") ts rest o }

comma_passed : (ends : Token → Bool) (ts rest : Tokens) → IsOne Punct (codes ",") ts rest → element_end ends ts ≡ Some rest
comma_passed ends ts rest o = rw (one_front Punct (codes ",") ts rest o).1 refl

-- what was read of each part
abbrev pub Each : {A B : Type 0} → (A → B → Type 0) → List A → List B → Type 0
Each Is [] [] = Unit {0}
Each Is (x ∷ xs) (y ∷ ys) = Is x y × Each Is xs ys
Each Is _ _ = ⊥

module _ {A B : Type 0} (Is : A → B → Type 0) (close : Bit) (ends : Token → Bool) (closed : ClosedBy close ends) (read : Tokens → Got B) (spelling : A → Form)
    (good : A → Bool) (depth : ℕ)
    (reads : (x : A) (ts rest : Tokens) → Spells (spelling x) depth ts rest → good x ≡ true → Ends rest → (y : B) × Is x y × (read ts ≡ Some (y, rest)))
    (begins : (x : A) (ts rest : Tokens) → Spells (spelling x) depth ts rest → good x ≡ true → (first ends ts ≡ false) × (length rest < length ts)) where
  -- a comma or none, and what closes the list
  abbrev pub Last : Tokens → Tokens → Type 0
  Last ts rest = (end : Tokens) × MayBe comma ts end × IsBit close end rest

  abbrev Further : List A → Tokens → Tokens → Type 0
  Further xs ts end = Spells (each comma_gap (map spelling xs)) depth ts end

  further_ends : (xs : List A) (ts end rest : Tokens) → Further xs ts end → Last end rest → Ends ts
  further_ends [] ts end rest s last = elim last.1 [
    | inl e ↦ let here : IsBit close ts rest = rw (s, e) last.2 in (closed ts rest here).quiet
    | inr b ↦ let here : IsOne Punct (codes ",") ts last.0 = rw s (bit_alone (Fixed Punct (codes ",")) end last.0 b) in comma_ends ts last.0 here
  ]
  further_ends (x ∷ xs) ts end rest s last = comma_ends ts s.0 (bit_alone (Fixed Punct (codes ",")) ts s.0 s.1)

  last_less : (ts end rest : Tokens) → length end ≤ length ts → Last end rest → length rest < length ts
  last_less ts end rest le last = elim last.1 [
    | inl e ↦ omega (arith, le, (closed last.0 rest last.2).less, ap length e)
    | inr b ↦ omega (arith, le, (closed last.0 rest last.2).less, one_shorter Punct (codes ",") end last.0 (bit_alone (Fixed Punct (codes ",")) end last.0 b))
  ]

  abbrev ReadOn : ℕ → List B → List A → Tokens → Tokens → Type 0
  ReadOn n found xs ts rest = (ys : List B) × Each Is xs ys × (elements_from ends read n found ts ≡ Some (found ++ ys, rest))

  closed_read : (n : ℕ) (found : List B) (ts rest : Tokens) → IsBit close ts rest → ReadOn (suc n) found [] ts rest
  unfolding elements_from
  closed_read n found ts rest o = let c = closed ts rest o in ([], tt, rw (c.there, c.left, append-nil found) refl)

  further_read : (xs : List A) (n : ℕ) (found : List B) (ts end rest : Tokens) → length ts ≤ n → list_all good xs ≡ true
      → Further xs ts end → Last end rest → (behind : Tokens) × (element_end ends ts ≡ Some behind) × ReadOn n found xs behind rest
  unfolding elements_from
  further_read xs zero found ts end rest le g s last =
      absurd (omega (arith, le, last_less ts end rest (shorter (each comma_gap (map spelling xs)) depth ts end s) last))
  further_read [] (suc n) found ts end rest le g s last = elim last.1 [
    | inl e ↦ let here : IsBit close ts rest = rw (s, e) last.2 in (ts, (closed ts rest here).kept, closed_read n found ts rest here)
    | inr b ↦
        let here : IsOne Punct (codes ",") ts last.0 = rw s (bit_alone (Fixed Punct (codes ",")) end last.0 b) in
        (last.0, comma_passed ends ts last.0 here, closed_read n found last.0 rest last.2)
  ]
  further_read (x ∷ xs) (suc n) found ts end rest le g s last =
      let here : IsOne Punct (codes ",") ts s.0 = bit_alone (Fixed Punct (codes ",")) ts s.0 s.1 in
      let goods = and_parts (good x) (list_all good xs) g in
      let part = s.2 in
      let b = begins x s.0 part.0 part.1 goods.0 in
      let less : length part.0 ≤ n = omega (arith, le, one_shorter Punct (codes ",") ts s.0 here, b.1) in
      let r = reads x s.0 part.0 part.1 goods.0 (further_ends xs part.0 end rest part.2 last) in
      let more = further_read xs n (found ++ r.0 ∷ []) part.0 end rest less goods.1 part.2 last in
      let go = more.2 in (
        s.0,
        comma_passed ends ts s.0 here,
        (
          r.0 ∷ go.0,
          (r.1, go.1),
          rw (b.0, r.2, more.1, go.2, append_assoc found (r.0 ∷ []) go.0) refl,
        ),
      )

  abbrev pub EachRead : List A → Tokens → Tokens → Type 0
  EachRead xs ts rest = (ys : List B) × Each Is xs ys × (elements ends read ts ≡ Some (ys, rest))

  -- elements, what follows each, and what closes them
  pub each_some_read : (x : A) (xs : List A) (ts mid end rest : Tokens) → list_all good (x ∷ xs) ≡ true → Spells (spelling x) depth ts mid
      → Further xs mid end → Last end rest → EachRead (x ∷ xs) ts rest
  unfolding elements elements_from
  each_some_read x xs ts mid end rest g one s last =
      let goods = and_parts (good x) (list_all good xs) g in
      let b = begins x ts mid one goods.0 in
      let r = reads x ts mid one goods.0 (further_ends xs mid end rest s last) in
      let less : length mid ≤ length ts = omega (arith, b.1) in
      let more = further_read xs (length ts) (r.0 ∷ []) mid end rest less goods.1 s last in
      let go = more.2 in
      (r.0 ∷ go.0, (r.1, go.1), rw (b.0, r.2, more.1, go.2) refl)

  pub each_none_read : (ts rest : Tokens) → IsBit close ts rest → EachRead [] ts rest
  unfolding elements
  each_none_read ts rest o = closed_read (length ts) [] ts rest o

  pub each_list_read : (o : Bit) (xs : List A) (ts rest : Tokens) → list_all good xs ≡ true → Spells (comma_list true o close (map spelling xs)) depth ts rest
      → (inside : Tokens) × IsBit o ts inside × EachRead xs inside rest
  each_list_read o [] ts rest g s =
      let inside = s.1.0 in
      let here : IsBit close inside rest = subst (λ us. IsBit close inside us) s.2 (bit_alone close inside s.0 s.1.2) in
      (inside, s.1.1, each_none_read inside rest here)
  each_list_read o (x ∷ xs) ts rest g s =
      let inside = s.1.0 in
      let row = s.1.2 in
      let more = row.2 in
      let last = more.2 in
      let here : IsBit close last.0 rest = subst (λ us. IsBit close last.0 us) s.2 (piece_bit close depth last.0 s.0 last.2) in
      (inside, bit_alone o ts inside s.1.1, each_some_read x xs inside row.0 more.0 rest g row.1 more.1 (last.0, last.1, here))

-- parts that are themselves what is read
pub each_same : {A : Type 0} (xs ys : List A) → Each (λ x y. y ≡ x) xs ys → ys ≡ xs
each_same [] [] e = refl
each_same [] (y ∷ ys) e = absurd e
each_same (x ∷ xs) [] e = absurd e
each_same (x ∷ xs) (y ∷ ys) e = ap (λ z. z ∷ ys) e.0 ∙ ap (λ zs. x ∷ zs) (each_same xs ys e.1)

-- a node, read with its need
abbrev pub WithNeed : {A : Type 0} → ℕ → A → A × ℕ → Type 0
WithNeed depth x y = (y.0 ≡ x) × (y.1 ≤ depth)

pub each_node : {A : Type 0} (depth : ℕ) (xs : List A) (ys : List (A × ℕ)) → Each (WithNeed depth) xs ys → (nodes ys ≡ xs) × (deepest ys ≤ depth)
each_node depth [] [] e = (refl, omega arith)
each_node depth [] (y ∷ ys) e = absurd e
each_node depth (x ∷ xs) [] e = absurd e
each_node depth (x ∷ xs) (y ∷ ys) e =
    let more = each_node depth xs ys e.1 in
    (ap (λ z. z ∷ nodes ys) e.0.0 ∙ ap (λ zs. x ∷ zs) more.0, omega (arith, e.0.1, more.1))

module _ {A : Type 0} (close : Bit) (ends : Token → Bool) (closed : ClosedBy close ends) (read : Tokens → Read A) (spelling : A → Form) (good : A → Bool)
    (depth : ℕ) (reads : (x : A) (ts rest : Tokens) → Spells (spelling x) depth ts rest → good x ≡ true → Ends rest → IsRead depth read x ts rest)
    (begins : (x : A) (ts rest : Tokens) → Spells (spelling x) depth ts rest → good x ≡ true → (first ends ts ≡ false) × (length rest < length ts)) where
  node_read : (x : A) (ts rest : Tokens) → Spells (spelling x) depth ts rest → good x ≡ true → Ends rest
      → (y : A × ℕ) × WithNeed depth x y × (read ts ≡ Some (y, rest))
  node_read x ts rest s g e = let r = reads x ts rest s g e in ((x, r.0), (refl, r.1), r.2)

  abbrev pub ElementsRead : List A → Tokens → Tokens → Type 0
  ElementsRead xs ts rest = (ys : List (A × ℕ)) × (nodes ys ≡ xs) × (deepest ys ≤ depth) × (elements ends read ts ≡ Some (ys, rest))

  elements_read : (xs : List A) (ts rest : Tokens) → (ys : List (A × ℕ)) × Each (WithNeed depth) xs ys × (elements ends read ts ≡ Some (ys, rest))
      → ElementsRead xs ts rest
  elements_read xs ts rest e = let n = each_node depth xs e.0 e.1 in (e.0, n.0, n.1, e.2)

  pub some_read : (x : A) (xs : List A) (ts mid end rest : Tokens) → list_all good (x ∷ xs) ≡ true → Spells (spelling x) depth ts mid
      → Spells (each comma_gap (map spelling xs)) depth mid end → (last : Tokens) × MayBe comma end last × IsBit close last rest → ElementsRead (x ∷ xs) ts rest
  some_read x xs ts mid end rest g one s last =
      elements_read (x ∷ xs) ts rest
      (each_some_read (WithNeed depth) close ends closed read spelling good depth node_read begins x xs ts mid end rest g one s last)

  pub none_read : (ts rest : Tokens) → IsBit close ts rest → ElementsRead [] ts rest
  none_read ts rest o =
      elements_read [] ts rest (each_none_read (WithNeed depth) close ends closed read spelling good depth node_read begins ts rest o)

  pub list_read : (o : Bit) (xs : List A) (ts rest : Tokens) → list_all good xs ≡ true → Spells (comma_list true o close (map spelling xs)) depth ts rest
      → (inside : Tokens) × IsBit o ts inside × ElementsRead xs inside rest
  list_read o xs ts rest g s =
      let l = each_list_read (WithNeed depth) close ends closed read spelling good depth node_read begins o xs ts rest g s in
      (l.0, l.1, elements_read xs l.0 rest l.2)

-- ---- elements that nothing closes

abbrev pub LastFollows : {A : Type 0} → (A → Tokens → Type 0) → List A → Tokens → Type 0
LastFollows follows [] ts = Unit {0}
LastFollows follows (x ∷ []) ts = follows x ts
LastFollows follows (x ∷ y ∷ ys) ts = LastFollows follows (y ∷ ys) ts

-- What may follow every element may follow the last.
pub last_of_all : {A : Type 0} (P : Tokens → Type 0) (xs : List A) (ts : Tokens) → P ts → LastFollows (λ (x : A) us. P us) xs ts
last_of_all P [] ts p = tt
last_of_all P (x ∷ []) ts p = p
last_of_all P (x ∷ y ∷ ys) ts p = last_of_all P (y ∷ ys) ts p

-- what follows the last element, with a comma or without one
abbrev pub Ending : {A : Type 0} → (Tokens → Bool) → (A → Tokens → Type 0) → Bool → List A → Tokens → Tokens → Type 0
Ending begins follows true xs ts rest = IsOne Punct (codes ",") ts rest × (begins rest ≡ false)
Ending begins follows false xs ts rest = (ts ≡ rest) × (first (is_mark (codes ",")) rest ≡ false) × LastFollows follows xs rest

pub open_none : {A : Type 0} (begins : Tokens → Bool) (read : Tokens → Read A) (ts : Tokens) → begins ts ≡ false
    → open_elements begins read ts ≡ Some (([], true), ts)
unfolding open_elements open_elements_from
open_none begins read ts h = rw h refl

module _ {A : Type 0} (begins : Tokens → Bool) (read : Tokens → Read A) (spelling : A → Form) (good : A → Bool) (follows : A → Tokens → Type 0) (depth : ℕ)
    (reads : (x : A) (ts rest : Tokens) → Spells (spelling x) depth ts rest → good x ≡ true → follows x rest → IsRead depth read x ts rest)
    (goes_on : (x : A) (ts rest : Tokens) → Spells (spelling x) depth ts rest → good x ≡ true → (begins ts ≡ true) × (length rest < length ts))
    (comma_follows : (x : A) (ts rest : Tokens) → IsOne Punct (codes ",") ts rest → good x ≡ true → follows x ts) where
  abbrev OpenRead : ℕ → List (A × ℕ) → List A → Bool → Tokens → Tokens → Type 0
  OpenRead n found xs last ts rest =
      (ys : List (A × ℕ)) × (nodes ys ≡ xs) × (deepest ys ≤ depth) × (open_elements_from begins read n found ts ≡ Some ((found ++ ys, last), rest))

  last_behind : (last : Bool) (x : A) (n : ℕ) (found : List (A × ℕ)) (ts rest : Tokens) → length ts ≤ n → Ending begins follows last (x ∷ []) ts rest
      → behind_open (open_elements_from begins read n found) found ts ≡ Some ((found, last), rest)
  unfolding open_elements_from
  last_behind true x zero found ts rest le e = absurd (omega (arith, le, one_shorter Punct (codes ",") ts rest e.0))
  last_behind true x (suc n) found ts rest le e = rw ((one_front Punct (codes ",") ts rest e.0).1, e.1) refl
  last_behind false x n found ts rest le e = rw (e.0, e.1) refl

  last_follows : (last : Bool) (x : A) (ts rest : Tokens) → good x ≡ true → Ending begins follows last (x ∷ []) ts rest → follows x ts
  last_follows true x ts rest g e = comma_follows x ts rest e.0 g
  last_follows false x ts rest g e = subst (follows x) (sym e.0) e.2

  open_from : (last : Bool) (x : A) (xs : List A) (n : ℕ) (found : List (A × ℕ)) (ts mid end rest : Tokens) → length ts ≤ n → list_all good (x ∷ xs) ≡ true
      → Spells (spelling x) depth ts mid → Spells (each comma_gap (map spelling xs)) depth mid end → Ending begins follows last (x ∷ xs) end rest
      → OpenRead (suc n) found (x ∷ xs) last ts rest
  unfolding open_elements_from
  open_from last x [] n found ts mid end rest le g one s ending =
      let goods = and_parts (good x) true g in
      let b = goes_on x ts mid one goods.0 in
      let e : Ending begins follows last (x ∷ []) mid rest = subst (λ us. Ending begins follows last (x ∷ []) us rest) (sym s) ending in
      let r = reads x ts mid one goods.0 (last_follows last x mid rest goods.0 e) in
      let less : length mid ≤ n = omega (arith, le, b.1) in
      ((x, r.0) ∷ [], refl, omega (arith, r.1), rw (b.0, r.2, last_behind last x n (found ++ (x, r.0) ∷ []) mid rest less e) refl)
  open_from last x (y ∷ ys) zero found ts mid end rest le g one s ending =
      absurd (omega (arith, le, (goes_on x ts mid one (and_parts (good x) (list_all good (y ∷ ys)) g).0).1))
  open_from last x (y ∷ ys) (suc n) found ts mid end rest le g one s ending =
      let goods = and_parts (good x) (list_all good (y ∷ ys)) g in
      let b = goes_on x ts mid one goods.0 in
      let here : IsOne Punct (codes ",") mid s.0 = bit_alone (Fixed Punct (codes ",")) mid s.0 s.1 in
      let r = reads x ts mid one goods.0 (comma_follows x mid s.0 here goods.0) in
      let part = s.2 in
      let less : length s.0 ≤ n = omega (arith, le, b.1, one_shorter Punct (codes ",") mid s.0 here) in
      let go = open_from last y ys n (found ++ (x, r.0) ∷ []) s.0 part.0 end rest less goods.1 part.1 part.2 (same last ending) in
      let f = one_front Punct (codes ",") mid s.0 here in
      let comma_there : first (is_mark (codes ",")) mid ≡ true = rw f.1 refl in
      let left : tail mid ≡ s.0 = rw f.1 refl in (
        (x, r.0) ∷ go.0,
        ap (λ l. x ∷ l) go.1,
        omega (arith, r.1, go.2),
        rw (b.0, r.2, comma_there, left, go.3, append_assoc found ((x, r.0) ∷ []) go.0) refl,
      )
    where
      same : (last : Bool) → Ending begins follows last (x ∷ y ∷ ys) end rest → Ending begins follows last (y ∷ ys) end rest
      same true e = e
      same false e = e

  pub open_read : (last : Bool) (x : A) (xs : List A) (ts mid end rest : Tokens) → list_all good (x ∷ xs) ≡ true
      → Spells (spelling x) depth ts mid → Spells (each comma_gap (map spelling xs)) depth mid end → Ending begins follows last (x ∷ xs) end rest
      → (ys : List (A × ℕ)) × (nodes ys ≡ x ∷ xs) × (deepest ys ≤ depth) × (open_elements begins read ts ≡ Some ((ys, last), rest))
  unfolding open_elements
  open_read last x xs ts mid end rest g one s ending =
      let le : length ts ≤ length ts = omega arith in open_from last x xs (length ts) [] ts mid end rest le g one s ending
