-- Parts that stand one after the other, and the forms that lay them out so: lines, bodies, and lists in delimiters.
use Rattle.std.proofs.Common.{◌≡◌, ℕ, Bool, true, false, List, [], ◌∷◌, ◌++◌, map, refl, sym, subst, ◌∙◌, codes}
use Rattle.std.specs.List.{list_all}
use Rattle.std.proofs.lemmas.Bool.{and_parts, and_from}
use Rattle.std.proofs.lemmas.List.Folds.{list_all-map}
use Rattle.lay_piece.specs.Forms.{opening, closing}
use Rattle.lay_piece.specs.declared.kind.Delim.{Delim}
use Rattle.lay_piece.specs.declared.kind.Delim.TheVariants.{Brace}
use Rattle.lay_piece.specs.declared.kind.Kind.{Kind}
use Rattle.lay_piece.specs.declared.kind.Kind.TheVariants.{Ident, RawIdent, Punct, Opener, Closer}
use Rattle.lay_form.specs.Form.{Bit, Blank, Fixed, Form, Done, Part, opener, closer, comma}
use Rattle.lay_form.specs.Notation.{H, piece, each, comma_gap, comma_list, body, lines, behind_attrs}
use Rattle.lay_form.specs.Spelled.{Then, IsOne, IsBit, AreBits, MayBe, Spells}
use Rattle.lay_node.specs.Ahead.{Tokens}
use Rattle.lay_node.specs.Words.{leaf_of}
use Rattle.lay_node.specs.nodes.Facts.{Facts, forms, all_good}
use Rattle.lay_node.specs.nodes.Fields.{blank_if}

-- ---- rows

-- parts one after the other, each with what holds of it and of the tokens up to the next
abbrev pub Rows : {A : Type 0} → (A → Tokens → Tokens → Type 0) → List A → Tokens → Tokens → Type 0
Rows P [] ts rest = ts ≡ rest
Rows P (x ∷ xs) ts rest = (mid : Tokens) × P x ts mid × Rows P xs mid rest

pub rows_to : {A : Type 0} (P Q : A → Tokens → Tokens → Type 0) → ((x : A) (ts mid : Tokens) → P x ts mid → Q x ts mid)
    → (xs : List A) (ts rest : Tokens) → Rows P xs ts rest → Rows Q xs ts rest
rows_to P Q to [] ts rest r = r
rows_to P Q to (x ∷ xs) ts rest r = (r.0, to x ts r.0 r.1, rows_to P Q to xs r.0 rest r.2)

pub rows_joined : {A : Type 0} (P : A → Tokens → Tokens → Type 0) (xs ys : List A) (ts mid rest : Tokens)
    → Rows P xs ts mid → Rows P ys mid rest → Rows P (xs ++ ys) ts rest
rows_joined P [] ys ts mid rest r s = rw r s
rows_joined P (x ∷ xs) ys ts mid rest r s = (r.0, r.1, rows_joined P xs ys r.0 mid rest r.2 s)

pub rows_parts : {A : Type 0} (P : A → Tokens → Tokens → Type 0) (xs ys : List A) (ts rest : Tokens)
    → Rows P (xs ++ ys) ts rest → (mid : Tokens) × Rows P xs ts mid × Rows P ys mid rest
rows_parts P [] ys ts rest r = (ts, refl, r)
rows_parts P (x ∷ xs) ys ts rest r = let s = rows_parts P xs ys r.0 rest r.2 in (s.0, (r.0, r.1, s.1), s.2)

pub rows_map : {A B : Type 0} (f : A → B) (P : B → Tokens → Tokens → Type 0) (xs : List A) (ts rest : Tokens)
    → Rows (λ x. P (f x)) xs ts rest → Rows P (map f xs) ts rest
rows_map f P [] ts rest r = r
rows_map f P (x ∷ xs) ts rest r = (r.0, r.1, rows_map f P xs r.0 rest r.2)

pub rows_of_map : {A B : Type 0} (f : A → B) (P : B → Tokens → Tokens → Type 0) (xs : List A) (ts rest : Tokens)
    → Rows P (map f xs) ts rest → Rows (λ x. P (f x)) xs ts rest
rows_of_map f P [] ts rest r = r
rows_of_map f P (x ∷ xs) ts rest r = (r.0, r.1, rows_of_map f P xs r.0 rest r.2)

-- a test of each part, out of its row and into it
pub rows_pass : {A : Type 0} (p : A → Bool) (P : A → Tokens → Tokens → Type 0) (xs : List A) (ts rest : Tokens)
    → Rows (λ x us mid. P x us mid × (p x ≡ true)) xs ts rest → list_all p xs ≡ true
rows_pass p P [] ts rest r = refl
rows_pass p P (x ∷ xs) ts rest r = and_from (p x) (list_all p xs) r.1.1 (rows_pass p P xs r.0 rest r.2)

pub rows_with : {A : Type 0} (p : A → Bool) (P : A → Tokens → Tokens → Type 0) (xs : List A) (ts rest : Tokens)
    → list_all p xs ≡ true → Rows P xs ts rest → Rows (λ x us mid. P x us mid × (p x ≡ true)) xs ts rest
rows_with p P [] ts rest g r = r
rows_with p P (x ∷ xs) ts rest g r =
    let b = and_parts (p x) (list_all p xs) g in (r.0, (r.1, b.0), rows_with p P xs r.0 rest b.1 r.2)

-- ---- forms

abbrev pub SpelledAt : ℕ → Form → Tokens → Tokens → Type 0
SpelledAt depth f ts rest = Spells f depth ts rest

-- A node is spelled at the depth, and is good.
abbrev pub GoodAt : {A : Type 0} → (A → Facts) → ℕ → A → Tokens → Tokens → Type 0
GoodAt about depth x ts rest = Spells (about x).form depth ts rest × ((about x).good ≡ true)

-- Good nodes one after the other: their forms are spelled so, and all of them are good.
pub rows_spelled : {A : Type 0} (about : A → Facts) (depth : ℕ) (xs : List A) (ts rest : Tokens) → Rows (GoodAt about depth) xs ts rest
    → Rows (SpelledAt depth) (forms (map about xs)) ts rest × (all_good (map about xs) ≡ true)
rows_spelled about depth xs ts rest r = (
  rows_map (λ (x : Facts). x.form) (SpelledAt depth) (map about xs) ts rest
      (rows_map about (λ (x : Facts). SpelledAt depth x.form) xs ts rest
      (rows_to (GoodAt about depth) (λ x. SpelledAt depth (about x).form) (λ x us mid g. g.0) xs ts rest r)),
  list_all-map (λ (x : Facts). x.good) about xs
      ∙ rows_pass (λ x. (about x).good) (λ x. SpelledAt depth (about x).form) xs ts rest r,
)

pub rows_good : {A : Type 0} (about : A → Facts) (depth : ℕ) (xs : List A) (ts rest : Tokens)
    → Rows (SpelledAt depth) (forms (map about xs)) ts rest → all_good (map about xs) ≡ true → Rows (GoodAt about depth) xs ts rest
rows_good about depth xs ts rest r g =
    rows_with (λ x. (about x).good) (λ x. SpelledAt depth (about x).form) xs ts rest (sym (list_all-map (λ (x : Facts). x.good) about xs) ∙ g)
    (rows_of_map about (λ (x : Facts). SpelledAt depth x.form) xs ts rest
    (rows_of_map (λ (x : Facts). x.form) (SpelledAt depth) (map about xs) ts rest r))

pub lines_spelled : (fs : List Form) (depth : ℕ) (ts rest : Tokens) → Rows (SpelledAt depth) fs ts rest → Spells (lines fs) depth ts rest
lines_spelled [] depth ts rest r = r
lines_spelled (f ∷ fs) depth ts rest r = (r.0, r.1, lines_spelled fs depth r.0 rest r.2)

pub lines_rows : (fs : List Form) (depth : ℕ) (ts rest : Tokens) → Spells (lines fs) depth ts rest → Rows (SpelledAt depth) fs ts rest
lines_rows [] depth ts rest s = s
lines_rows (f ∷ fs) depth ts rest s = (s.0, s.1, lines_rows fs depth s.0 rest s.2)

pub behind_attrs_spelled : (fs : List Form) (f : Form) (depth : ℕ) (ts mid rest : Tokens) → Rows (SpelledAt depth) fs ts mid
    → Spells f depth mid rest → Spells (behind_attrs fs f) depth ts rest
behind_attrs_spelled [] f depth ts mid rest r s = rw r s
behind_attrs_spelled (e ∷ fs) f depth ts mid rest r s = (r.0, r.1, behind_attrs_spelled fs f depth r.0 mid rest r.2 s)

pub behind_attrs_rows : (fs : List Form) (f : Form) (depth : ℕ) (ts rest : Tokens) → Spells (behind_attrs fs f) depth ts rest
    → (mid : Tokens) × Rows (SpelledAt depth) fs ts mid × Spells f depth mid rest
behind_attrs_rows [] f depth ts rest s = (ts, refl, s)
behind_attrs_rows (e ∷ fs) f depth ts rest s = let r = behind_attrs_rows fs f depth s.0 rest s.2 in (r.0, (s.0, s.1, r.1), r.2)

each_line_spelled : (fs : List Form) (depth : ℕ) (ts rest : Tokens) → Rows (SpelledAt depth) fs ts rest → Spells (each H fs) depth ts rest
each_line_spelled [] depth ts rest r = r
each_line_spelled (f ∷ fs) depth ts rest r = (r.0, r.1, each_line_spelled fs depth r.0 rest r.2)

each_line_rows : (fs : List Form) (depth : ℕ) (ts rest : Tokens) → Spells (each H fs) depth ts rest → Rows (SpelledAt depth) fs ts rest
each_line_rows [] depth ts rest s = s
each_line_rows (f ∷ fs) depth ts rest s = (s.0, s.1, each_line_rows fs depth s.0 rest s.2)

-- ---- bits

pub bits_joined : (bs cs : List Bit) (ts mid rest : Tokens) → AreBits bs ts mid → AreBits cs mid rest → AreBits (bs ++ cs) ts rest
bits_joined [] cs ts mid rest s r = rw s r
bits_joined (b ∷ bs) cs ts mid rest s r = (s.0, s.1, bits_joined bs cs s.0 mid rest s.2 r)

pub bits_parts : (bs cs : List Bit) (ts rest : Tokens) → AreBits (bs ++ cs) ts rest → (mid : Tokens) × AreBits bs ts mid × AreBits cs mid rest
bits_parts [] cs ts rest s = (ts, refl, s)
bits_parts (b ∷ bs) cs ts rest s = let r = bits_parts bs cs s.0 rest s.2 in (r.0, (s.0, s.1, r.1), r.2)

pub bit_alone : (b : Bit) (ts rest : Tokens) → AreBits (b ∷ []) ts rest → IsBit b ts rest
bit_alone b ts rest s = subst (λ us. IsBit b ts us) s.2 s.1

pub behind_blank : (bs : List Bit) (ts rest : Tokens) → AreBits (Blank ∷ bs) ts rest → AreBits bs ts rest
behind_blank bs ts rest s = subst (λ us. AreBits bs us rest) (sym s.1) s.2

pub before_blank : (b : Bit) (ts rest : Tokens) → AreBits (b ∷ Blank ∷ []) ts rest → IsBit b ts rest
before_blank b ts rest s = subst (λ us. IsBit b ts us) (bit_alone Blank s.0 rest s.2) s.1

pub bit_piece : (b : Bit) (depth : ℕ) (ts rest : Tokens) → IsBit b ts rest → Spells (piece (b ∷ [])) depth ts rest
bit_piece b depth ts rest s = (rest, (rest, s, refl), refl)

pub piece_bit : (b : Bit) (depth : ℕ) (ts rest : Tokens) → Spells (piece (b ∷ [])) depth ts rest → IsBit b ts rest
piece_bit b depth ts rest s = subst (λ us. IsBit b ts us) s.2 (bit_alone b ts s.0 s.1)

pub part_alone : (f : Form) (depth : ℕ) (ts rest : Tokens) → Spells (Part f Done) depth ts rest → Spells f depth ts rest
part_alone f depth ts rest s = subst (λ us. Spells f depth ts us) s.2 s.1

-- ---- leaves

-- the kind of a word
abbrev pub word_kind : Bool → Kind
word_kind true = RawIdent
word_kind false = Ident

-- what is told of both kinds is told of the word's
pub word_kinds : (p : Kind → Bool) → p RawIdent ≡ false → p Ident ≡ false → (raw : Bool) → p (word_kind raw) ≡ false
word_kinds p a b true = a
word_kinds p a b false = b

pub leaf_spelled : (raw : Bool) (text : List ℕ) (f : Form) (depth : ℕ) (ts mid rest : Tokens) → IsOne (word_kind raw) text ts mid
    → Spells f depth mid rest → Spells (leaf_of raw text f) depth ts rest
leaf_spelled true text f depth ts mid rest o s = (mid, o, s)
leaf_spelled false text f depth ts mid rest o s = (mid, o, s)

pub leaf_parts : (raw : Bool) (text : List ℕ) (f : Form) (depth : ℕ) (ts rest : Tokens) → Spells (leaf_of raw text f) depth ts rest
    → (mid : Tokens) × IsOne (word_kind raw) text ts mid × Spells f depth mid rest
leaf_parts true text f depth ts rest s = s
leaf_parts false text f depth ts rest s = s

pub leaf_alone : (raw : Bool) (text : List ℕ) (depth : ℕ) (ts rest : Tokens) → Spells (leaf_of raw text Done) depth ts rest
    → IsOne (word_kind raw) text ts rest
leaf_alone raw text depth ts rest s =
    let l = leaf_parts raw text Done depth ts rest s in subst (λ us. IsOne (word_kind raw) text ts us) l.2 l.1

-- ---- bodies

pub body_spelled : (before skipped : List Bit) (fs : List Form) (depth : ℕ) (ts at inside start end rest : Tokens) → AreBits before ts at
    → IsBit (opener Brace) at inside → AreBits skipped inside start → Rows (SpelledAt depth) fs start end → IsBit (closer Brace) end rest
    → Spells (body before skipped fs) depth ts rest
body_spelled before skipped [] depth ts at inside start end rest b o s r c =
    let closed : AreBits (closer Brace ∷ []) start rest = rw r (rest, c, refl) in
    let opened : AreBits (opener Brace ∷ (skipped ++ closer Brace ∷ [])) at rest =
    (inside, o, bits_joined skipped (closer Brace ∷ []) inside start rest s closed) in
    (rest, bits_joined before (opener Brace ∷ (skipped ++ closer Brace ∷ [])) ts at rest b opened, refl)
body_spelled before skipped (f ∷ fs) depth ts at inside start end rest b o s r c = (
  start,
  bits_joined before (opener Brace ∷ skipped) ts at start b (inside, o, s),
  (end, (end, each_line_spelled (f ∷ fs) depth start end r, refl), bit_piece (closer Brace) depth end rest c),
)

-- A leading blank is no token.
unled : (lead : Bool) (bs : List Bit) (ts rest : Tokens) → AreBits (blank_if lead ++ bs) ts rest → AreBits bs ts rest
unled true bs ts rest s = behind_blank bs ts rest s
unled false bs ts rest s = s

pub led_blank : (lead : Bool) (ts : Tokens) → AreBits (blank_if lead) ts ts
led_blank true ts = (ts, refl, refl)
led_blank false ts = refl

-- a body, after a blank or not, with nothing that isn't laid out
pub body_rows : (lead : Bool) (fs : List Form) (depth : ℕ) (ts rest : Tokens) → Spells (body (blank_if lead) [] fs) depth ts rest
    → (inside end : Tokens) × IsBit (opener Brace) ts inside × Rows (SpelledAt depth) fs inside end × IsBit (closer Brace) end rest
body_rows lead [] depth ts rest s =
    let bits = unled lead (opener Brace ∷ closer Brace ∷ []) ts s.0 s.1 in
    let closing : IsBit (closer Brace) bits.0 s.0 = bit_alone (closer Brace) bits.0 s.0 bits.2 in
    (bits.0, bits.0, bits.1, refl, subst (λ us. IsBit (closer Brace) bits.0 us) s.2 closing)
body_rows lead (f ∷ fs) depth ts rest s =
    let opening : IsBit (opener Brace) ts s.0 = bit_alone (opener Brace) ts s.0 (unled lead (opener Brace ∷ []) ts s.0 s.1) in
    let inside = each_line_rows (f ∷ fs) depth s.0 s.2.0 (part_alone (each H (f ∷ fs)) depth s.0 s.2.0 s.2.1) in
    (s.0, s.2.0, opening, inside, piece_bit (closer Brace) depth s.2.0 rest s.2.2)

-- ---- lists

-- an element after its comma
abbrev pub Further : {A : Type 0} → (A → Tokens → Tokens → Type 0) → A → Tokens → Tokens → Type 0
Further P x = Then (IsOne Punct (codes ",")) (P x)

abbrev pub Closed : Delim → Tokens → Tokens → Type 0
Closed d = IsOne (Closer d) (closing d ∷ [])

-- further elements, a last comma that may be left out, and what closes the list
abbrev pub Behind : {A : Type 0} → Delim → (A → Tokens → Tokens → Type 0) → List A → Tokens → Tokens → Type 0
Behind d P xs = Then (Rows (Further P) xs) (Then (MayBe comma) (Closed d))

-- the elements of a list, and what closes it
abbrev pub Elements : {A : Type 0} → Delim → (A → Tokens → Tokens → Type 0) → List A → Tokens → Tokens → Type 0
Elements d P [] = Closed d
Elements d P (x ∷ xs) = Then (P x) (Behind d P xs)

pub each_comma_spelled : (fs : List Form) (depth : ℕ) (ts rest : Tokens) → Rows (Further (SpelledAt depth)) fs ts rest → Spells (each comma_gap fs) depth ts rest
each_comma_spelled [] depth ts rest r = r
each_comma_spelled (f ∷ fs) depth ts rest r =
    let one = r.1 in (one.0, (one.0, one.1, refl), (r.0, one.2, each_comma_spelled fs depth r.0 rest r.2))

each_comma_rows : (fs : List Form) (depth : ℕ) (ts rest : Tokens) → Spells (each comma_gap fs) depth ts rest → Rows (Further (SpelledAt depth)) fs ts rest
each_comma_rows [] depth ts rest s = s
each_comma_rows (f ∷ fs) depth ts rest s =
    let one = s.2 in (one.0, (s.0, bit_alone (Fixed Punct (codes ",")) ts s.0 s.1, one.1), each_comma_rows fs depth one.0 rest one.2)

-- A list is spelled by what opens it and its elements.
pub list_spelled : (d : Delim) (fs : List Form) (depth : ℕ) (ts inside rest : Tokens) → IsOne (Opener d) (opening d ∷ []) ts inside
    → Elements d (SpelledAt depth) fs inside rest → Spells (comma_list true (opener d) (closer d) fs) depth ts rest
list_spelled d [] depth ts inside rest o r = (rest, (inside, o, (rest, r, refl)), refl)
list_spelled d (f ∷ fs) depth ts inside rest o r =
    let behind = r.2 in
    let last = behind.2 in (
      rest,
      (
        inside,
        (inside, o, refl),
        (r.0, r.1, (behind.0, each_comma_spelled fs depth r.0 behind.0 behind.1, (last.0, last.1, bit_piece (closer d) depth last.0 rest last.2))),
      ),
      refl,
    )

pub list_elements : (d : Delim) (fs : List Form) (depth : ℕ) (ts rest : Tokens) → Spells (comma_list true (opener d) (closer d) fs) depth ts rest
    → (inside : Tokens) × IsOne (Opener d) (opening d ∷ []) ts inside × Elements d (SpelledAt depth) fs inside rest
list_elements d [] depth ts rest s =
    let closing : Closed d s.1.0 s.0 = bit_alone (closer d) s.1.0 s.0 s.1.2 in
    (s.1.0, s.1.1, subst (λ us. Closed d s.1.0 us) s.2 closing)
list_elements d (f ∷ fs) depth ts rest s =
    let inside = s.1.0 in
    let one = s.1.2 in
    let behind = one.2 in
    let last = behind.2 in
    let closed : Closed d last.0 rest = subst (λ us. Closed d last.0 us) s.2 (piece_bit (closer d) depth last.0 s.0 last.2) in
    (inside, bit_alone (opener d) ts inside s.1.1, (one.0, one.1, (behind.0, each_comma_rows fs depth one.0 behind.0 behind.1, (last.0, last.1, closed))))
