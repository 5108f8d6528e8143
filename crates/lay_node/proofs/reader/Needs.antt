-- The two loops over nodes, which are read with their needs: rows of nodes, and lists of nodes in delimiters.
use Rattle.std.proofs.Common.{◌≡◌, ℕ, ◌<◌, ◌≤◌, Bool, true, false, List, [], ◌∷◌, length, map, Some, refl, ap, arith}
use Rattle.std.proofs.lemmas.Bool.{and_parts, and_from}
use Rattle.lay_piece.specs.Forms.{opening}
use Rattle.lay_piece.specs.declared.kind.Delim.{Delim}
use Rattle.lay_piece.specs.declared.kind.Kind.TheVariants.{Opener}
use Rattle.lay_form.specs.Form.{opener, closer}
use Rattle.lay_form.specs.Notation.{comma_list}
use Rattle.lay_form.specs.Spelled.{IsOne, Spells}
use Rattle.lay_form.proofs.FormLaws.{deeper, is_end}
use Rattle.lay_node.specs.Ahead.{Tokens, first, closes}
use Rattle.lay_node.specs.nodes.Facts.{Facts, forms, all_good}
use Rattle.lay_node.specs.reader.Exact.{InText}
use Rattle.lay_node.specs.reader.Loops.{Read, nodes, deepest, repeat, elements}
use Rattle.lay_node.proofs.Fronts.{texts_behind}
use Rattle.lay_node.proofs.Parts.{Rows, rows_to, GoodAt, SpelledAt, Further, Elements, list_spelled, list_elements}
use Rattle.lay_node.proofs.reader.Exact.{Stands, Sound, IsRead}
use Rattle.lay_node.proofs.reader.Loops.{SoundStep, repeat_sound, elements_sound, Turn, Element, repeat_complete, elements_complete, Ends, Ended, elements_end}

-- ---- what is read

-- A node stands there at the depth that stands with it, which is within the budget.
abbrev Within : {A : Type 0} → (A → Facts) → ℕ → (A × ℕ) → Tokens → Tokens → Type 0
Within about budget x ts rest = (x.1 ≤ budget) × Stands (about x.0) x.1 ts rest

step_within : {A : Type 0} (about : A → Facts) (budget : ℕ) (read : Tokens → Read A) → Sound about budget read → SoundStep read (Within about budget)
step_within about budget read sound ts x rest t h =
    let s = sound ts x.0 x.1 rest t h in (s, texts_behind ts rest (is_end (about x.0).form x.1 ts rest s.1.0) t)

-- the greatest need of all is within the budget too
rows_within : {A : Type 0} (P : (A × ℕ) → Tokens → Tokens → Type 0) (budget : ℕ) → ((x : A × ℕ) (ts mid : Tokens) → P x ts mid → x.1 ≤ budget)
    → (xs : List (A × ℕ)) (ts rest : Tokens) → Rows P xs ts rest → deepest xs ≤ budget
rows_within P budget le [] ts rest r = omega arith
rows_within P budget le (x ∷ xs) ts rest r = let a = le x ts r.0 r.1 in let b = rows_within P budget le xs r.0 rest r.2 in omega (arith, a, b)

-- rows of nodes with their needs are rows of nodes at any depth that all of them need at the most
rows_deepest : {A : Type 0} (P : (A × ℕ) → Tokens → Tokens → Type 0) (Q : A → Tokens → Tokens → Type 0) (most : ℕ)
    → ((x : A × ℕ) (ts mid : Tokens) → x.1 ≤ most → P x ts mid → Q x.0 ts mid)
    → (xs : List (A × ℕ)) (ts rest : Tokens) → deepest xs ≤ most → Rows P xs ts rest → Rows Q (nodes xs) ts rest
rows_deepest P Q most to [] ts rest le r = r
rows_deepest P Q most to (x ∷ xs) ts rest le r =
    (r.0, to x ts r.0 (omega (arith, le)) r.1, rows_deepest P Q most to xs r.0 rest (omega (arith, le)) r.2)

good_at : {A : Type 0} (about : A → Facts) (budget most : ℕ) (x : A × ℕ) (ts rest : Tokens) → x.1 ≤ most → Within about budget x ts rest
    → GoodAt about most x.0 ts rest
good_at about budget most x ts rest le w = let s = w.1 in (deeper (about x.0).form x.1 most ts rest le s.0, s.1)

further_good : {A : Type 0} (about : A → Facts) (budget most : ℕ) (x : A × ℕ) (ts rest : Tokens) → x.1 ≤ most → Further (Within about budget) x ts rest
    → Further (GoodAt about most) x.0 ts rest
further_good about budget most x ts rest le f = (f.0, f.1, good_at about budget most x f.0 rest le f.2)

elements_within : {A : Type 0} (about : A → Facts) (budget : ℕ) (d : Delim) (xs : List (A × ℕ)) (ts rest : Tokens)
    → Elements d (Within about budget) xs ts rest → (deepest xs ≤ budget) × Elements d (GoodAt about (deepest xs)) (nodes xs) ts rest
elements_within about budget d [] ts rest r = (omega arith, r)
elements_within about budget d (x ∷ xs) ts rest r =
    let behind = r.2 in
    let le = rows_within (Further (Within about budget)) budget (λ y us mid f. f.2.0) xs r.0 behind.0 behind.1 in
    let most = deepest (x ∷ xs) in
    let further = rows_deepest (Further (Within about budget)) (Further (GoodAt about most)) most (further_good about budget most) xs r.0 behind.0
    (omega arith) behind.1 in
    (omega (arith, le, r.1.0), (r.0, good_at about budget most x ts r.0 (omega arith) r.1, (behind.0, further, behind.2)))

further_spelled : {A : Type 0} (about : A → Facts) (depth : ℕ) (xs : List A) (ts rest : Tokens) → Rows (Further (GoodAt about depth)) xs ts rest
    → Rows (Further (SpelledAt depth)) (forms (map about xs)) ts rest × (all_good (map about xs) ≡ true)
further_spelled about depth [] ts rest r = (r, refl)
further_spelled about depth (x ∷ xs) ts rest r =
    let row = r.1 in
    let more = further_spelled about depth xs r.0 rest r.2 in
    ((r.0, (row.0, row.1, row.2.0), more.0), and_from (about x).good (all_good (map about xs)) row.2.1 more.1)

further_rows : {A : Type 0} (about : A → Facts) (depth : ℕ) (xs : List A) (ts rest : Tokens) → Rows (Further (SpelledAt depth)) (forms (map about xs)) ts rest
    → all_good (map about xs) ≡ true → Rows (Further (GoodAt about depth)) xs ts rest
further_rows about depth [] ts rest r g = r
further_rows about depth (x ∷ xs) ts rest r g =
    let row = r.1 in
    let goods = and_parts (about x).good (all_good (map about xs)) g in
    (r.0, (row.0, row.1, (row.2, goods.0)), further_rows about depth xs r.0 rest r.2 goods.1)

elements_spelled : {A : Type 0} (about : A → Facts) (depth : ℕ) (d : Delim) (xs : List A) (ts rest : Tokens) → Elements d (GoodAt about depth) xs ts rest
    → Elements d (SpelledAt depth) (forms (map about xs)) ts rest × (all_good (map about xs) ≡ true)
elements_spelled about depth d [] ts rest r = (r, refl)
elements_spelled about depth d (x ∷ xs) ts rest r =
    let behind = r.2 in
    let more = further_spelled about depth xs r.0 behind.0 behind.1 in
    ((r.0, r.1.0, (behind.0, more.0, behind.2)), and_from (about x).good (all_good (map about xs)) r.1.1 more.1)

elements_good : {A : Type 0} (about : A → Facts) (depth : ℕ) (d : Delim) (xs : List A) (ts rest : Tokens)
    → Elements d (SpelledAt depth) (forms (map about xs)) ts rest → all_good (map about xs) ≡ true → Elements d (GoodAt about depth) xs ts rest
elements_good about depth d [] ts rest r g = r
elements_good about depth d (x ∷ xs) ts rest r g =
    let behind = r.2 in
    let goods = and_parts (about x).good (all_good (map about xs)) g in
    (r.0, (r.1, goods.0), (behind.0, further_rows about depth xs r.0 behind.0 behind.1 goods.1, behind.2))

module _ {A : Type 0} (about : A → Facts) (budget : ℕ) (read : Tokens → Read A) (sound : Sound about budget read) where
  -- a row of nodes is spelled at the greatest need of theirs
  pub nodes_sound : (more : Tokens → Bool) (ts : Tokens) (xs : List (A × ℕ)) (rest : Tokens) → InText ts → repeat more read ts ≡ Some (xs, rest)
      → (deepest xs ≤ budget) × Rows (GoodAt about (deepest xs)) (nodes xs) ts rest × InText rest × (more rest ≡ false)
  nodes_sound more ts xs rest t h =
      let r = repeat_sound more read (Within about budget) (λ us x left p m g. step_within about budget read sound us x left p g) ts xs rest t h in (
        rows_within (Within about budget) budget (λ y us mid w. w.0) xs ts rest r.0,
        rows_deepest (Within about budget) (GoodAt about (deepest xs)) (deepest xs) (good_at about budget (deepest xs)) xs ts rest (omega arith) r.0,
        r.1,
        r.2,
      )

  -- so is a list in delimiters
  pub list_sound : (d : Delim) (ts inside : Tokens) (xs : List (A × ℕ)) (rest : Tokens) → IsOne (Opener d) (opening d ∷ []) ts inside → InText inside
      → elements (closes d) read inside ≡ Some (xs, rest)
      → (deepest xs ≤ budget) × Spells (comma_list true (opener d) (closer d) (forms (map about (nodes xs)))) (deepest xs) ts rest
      × (all_good (map about (nodes xs)) ≡ true)
  list_sound d ts inside xs rest o t h =
      let r = elements_sound read (Within about budget) (step_within about budget read sound) d inside xs rest t h in
      let w = elements_within about budget d xs inside rest r.0 in
      let s = elements_spelled about (deepest xs) d (nodes xs) inside rest w.1 in
      (w.0, list_spelled d (forms (map about (nodes xs))) (deepest xs) ts inside rest o s.0, s.1)

-- ---- what is spelled

-- nodes are read, each with its need, which together with the others' is within the depth
rows_read : {A : Type 0} (P : (A × ℕ) → Tokens → Tokens → Type 0) (depth : ℕ) (xs : List A) (ts rest : Tokens)
    → Rows (λ x us mid. (n : ℕ) × (n ≤ depth) × P (x, n) us mid) xs ts rest
    → (ys : List (A × ℕ)) × (nodes ys ≡ xs) × (deepest ys ≤ depth) × Rows P ys ts rest
rows_read P depth [] ts rest r = ([], refl, omega arith, r)
rows_read P depth (x ∷ xs) ts rest r =
    let one = r.1 in
    let s = rows_read P depth xs r.0 rest r.2 in
    ((x, one.0) ∷ s.0, ap (λ l. x ∷ l) s.1, omega (arith, one.1, s.2), (r.0, one.2, s.3))

module _ {A : Type 0} (about : A → Facts) (depth : ℕ) (read : Tokens → Read A) where
  pub nodes_complete : (more : Tokens → Bool)
      → ((x : A) (ts rest : Tokens) → GoodAt about depth x ts rest → (more ts ≡ true) × IsRead depth read x ts rest × (length rest < length ts))
      → (xs : List A) (ts rest : Tokens) → Rows (GoodAt about depth) xs ts rest → more rest ≡ false
      → (ys : List (A × ℕ)) × (nodes ys ≡ xs) × (deepest ys ≤ depth) × (repeat more read ts ≡ Some (ys, rest))
  nodes_complete more turn xs ts rest r h =
      let one : (x : A) (us mid : Tokens) → GoodAt about depth x us mid → (n : ℕ) × (n ≤ depth) × Turn more read (x, n) us mid =
      λ x us mid g. let t = turn x us mid g in let is = t.1 in (is.0, is.1, (t.0, is.2, t.2)) in
      let rows = rows_to (GoodAt about depth) (λ x us mid. (n : ℕ) × (n ≤ depth) × Turn more read (x, n) us mid) one xs ts rest r in
      let s = rows_read (Turn more read) depth xs ts rest rows in
      (s.0, s.1, s.2, repeat_complete read more s.0 ts rest s.3 h)

  module _ (d : Delim)
      (one : (x : A) (ts rest : Tokens) → GoodAt about depth x ts rest → Ends d rest
      → (first (closes d) ts ≡ false) × IsRead depth read x ts rest × (length rest < length ts)) where
    element : (x : A) (us mid : Tokens) → Ended d (GoodAt about depth) x us mid → (n : ℕ) × (n ≤ depth) × Element d read (x, n) us mid
    element x us mid e = let t = one x us mid e.0 e.1 in let is = t.1 in (is.0, is.1, (t.0, is.2, t.2))

    further : (x : A) (us mid : Tokens) → Further (Ended d (GoodAt about depth)) x us mid
        → (n : ℕ) × (n ≤ depth) × Further (Element d read) (x, n) us mid
    further x us mid f = let e = element x f.0 mid f.2 in (e.0, e.1, (f.0, f.1, e.2))

    elements_read : (xs : List A) (ts rest : Tokens) → Elements d (Ended d (GoodAt about depth)) xs ts rest
        → (ys : List (A × ℕ)) × (nodes ys ≡ xs) × (deepest ys ≤ depth) × Elements d (Element d read) ys ts rest
    elements_read [] ts rest r = ([], refl, omega arith, r)
    elements_read (x ∷ xs) ts rest r =
        let e = element x ts r.0 r.1 in
        let behind = r.2 in
        let rows = rows_to (Further (Ended d (GoodAt about depth))) (λ y us mid. (n : ℕ) × (n ≤ depth) × Further (Element d read) (y, n) us mid)
        further xs r.0 behind.0 behind.1 in
        let s = rows_read (Further (Element d read)) depth xs r.0 behind.0 rows in
        ((x, e.0) ∷ s.0, ap (λ l. x ∷ l) s.1, omega (arith, e.1, s.2), (r.0, e.2, (behind.0, s.3, behind.2)))

    pub list_complete : (xs : List A) (ts rest : Tokens) → Spells (comma_list true (opener d) (closer d) (forms (map about xs))) depth ts rest
        → all_good (map about xs) ≡ true
        → (inside : Tokens) × IsOne (Opener d) (opening d ∷ []) ts inside
        × (ys : List (A × ℕ)) × (nodes ys ≡ xs) × (deepest ys ≤ depth) × (elements (closes d) read inside ≡ Some (ys, rest))
    list_complete xs ts rest s g =
        let l = list_elements d (forms (map about xs)) depth ts rest s in
        let e = elements_end d (GoodAt about depth) xs l.0 rest (elements_good about depth d xs l.0 rest l.2 g) in
        let r = elements_read xs l.0 rest e in
        (l.0, l.1, r.0, r.1, r.2, elements_complete read d r.0 l.0 rest r.3)
