-- Lists and chains of nodes with their needs, and forms one level deeper, are spelled as they are read.
use Rattle.std.proofs.Common.{◌≡◌, ℕ, zero, suc, ◌≤◌, Bool, true, List, [], ◌∷◌, map, codes, Some, refl, sym, ap, subst, arith}
use Rattle.std.specs.List.{list_all}
use Rattle.std.proofs.lemmas.Bool.{and_from}
use Rattle.std.proofs.lemmas.List.Folds.{list_all-map}
use Rattle.lay_piece.specs.declared.kind.Kind.TheVariants as kind
use Rattle.lay_token.specs.declared.token.Token.{Token}
use Rattle.lay_form.specs.Form.{Bit, Form, Deeper}
use Rattle.lay_form.specs.Notation.{comma_list}
use Rattle.lay_form.specs.Spelled.{Then, IsOne, IsOperator, IsBit, Spells}
use Rattle.lay_form.proofs.FormLaws.{deeper as raise}
use Rattle.lay_node.specs.Ahead.{Tokens, opens}
use Rattle.lay_node.specs.nodes.Facts.{Facts, forms, all_good}
use Rattle.lay_node.specs.nodes.Types.{joined}
use Rattle.lay_node.specs.nodes.Types as types
use Rattle.lay_node.specs.reader.Exact.{InText}
use Rattle.lay_node.specs.reader.Loops.{Read, nodes, deepest, elements}
use Rattle.lay_node.proofs.Parts.{Rows, SpelledAt}
use Rattle.lay_node.proofs.reader.Exact.{Stands}
use Rattle.lay_node.proofs.reader.Loops.{SoundStep}
use Rattle.lay_node.proofs.reader.TypesSoundParts.{Shuts, Chain, ElementsBy, elements_by, list_by, chain_spelled}

-- ---- nodes with their needs

-- A node with these facts stands there at the depth that stands with it, which is within the budget.
abbrev pub Held : {A : Type 0} → (A → Facts) → ℕ → (A × ℕ) → Tokens → Tokens → Type 0
Held told budget x ts rest = (x.1 ≤ budget) × Stands (told x.0) x.1 ts rest

pub held : (F G : Facts) (budget n : ℕ) (ts rest : Tokens) → F ≡ G → n ≤ budget → Stands G n ts rest
    → (n ≤ budget) × Stands F n ts rest
held F G budget n ts rest e le s = (le, subst (λ (x : Facts). Stands x n ts rest) (sym e) s)

pub forms_of : {A : Type 0} (told : A → Facts) (xs : List A) → forms (map told xs) ≡ map (λ x. (told x).form) xs
forms_of told [] = refl
forms_of told (x ∷ xs) = ap (λ fs. (told x).form ∷ fs) (forms_of told xs)

pub goods_of : {A : Type 0} (told : A → Facts) (xs : List A) → all_good (map told xs) ≡ list_all (λ x. (told x).good) xs
goods_of told xs = list_all-map (λ (x : Facts). x.good) told xs

-- Lists of nodes are spelled at the greatest need of theirs.
module _ {A : Type 0} (budget : ℕ) (form : A → Form) (good : A → Bool) (P : A × ℕ → Tokens → Tokens → Type 0)
    (to : (x : A × ℕ) (ts mid : Tokens) → P x ts mid
    → (x.1 ≤ budget) × Spells (form x.0) x.1 ts mid × (good x.0 ≡ true)) where
  pub rows_most : (S : Tokens → Tokens → Type 0) (most : ℕ) (xs : List (A × ℕ)) (ts rest : Tokens) → deepest xs ≤ most
      → Rows (λ x. Then S (P x)) xs ts rest
      → Rows (λ x. Then S (SpelledAt most (form x))) (nodes xs) ts rest × (deepest xs ≤ budget)
      × (list_all good (nodes xs) ≡ true)
  rows_most S most [] ts rest le r = (r, omega arith, refl)
  rows_most S most (x ∷ xs) ts rest le r =
      let row = r.1 in
      let one = to x row.0 r.0 row.2 in
      let more = rows_most S most xs r.0 rest (omega (arith, le)) r.2 in (
        (r.0, (row.0, row.1, raise (form x.0) x.1 most row.0 r.0 (omega (arith, le)) one.1), more.0),
        omega (arith, one.0, more.1),
        and_from (good x.0) (list_all good (nodes xs)) one.2 more.2,
      )

  pub list_held : (opens shut : Bit) (xs : List (A × ℕ)) (ts inside rest : Tokens) → IsBit opens ts inside
      → ElementsBy shut P xs inside rest
      → (deepest xs ≤ budget) × Spells (comma_list true opens shut (map form (nodes xs))) (deepest xs) ts rest
      × (list_all good (nodes xs) ≡ true)
  list_held opens shut [] ts inside rest o r = (omega arith, list_by form 0 opens shut [] ts inside rest o r, refl)
  list_held opens shut (x ∷ xs) ts inside rest o r =
      let behind = r.2 in
      let most = deepest (x ∷ xs) in
      let one = to x inside r.0 r.1 in
      let more = rows_most (IsOne kind.Punct (codes ",")) most xs r.0 behind.0 (omega arith) behind.1 in
      let elements : ElementsBy shut (λ y. SpelledAt most (form y)) (nodes (x ∷ xs)) inside rest =
      (r.0, raise (form x.0) x.1 most inside r.0 (omega arith) one.1, (behind.0, more.0, behind.2)) in (
        omega (arith, one.0, more.1),
        list_by form most opens shut (nodes (x ∷ xs)) ts inside rest o elements,
        and_from (good x.0) (list_all good (nodes xs)) one.2 more.2,
      )

  pub listed : (closed : Token → Bool) (opens shut : Bit) → Shuts closed shut → (one : Tokens → Read A)
      → SoundStep one P → (ts inside : Tokens) (xs : List (A × ℕ)) (rest : Tokens)
      → IsBit opens ts inside → InText inside → elements closed one inside ≡ Some (xs, rest)
      → (deepest xs ≤ budget) × Spells (comma_list true opens shut (map form (nodes xs))) (deepest xs) ts rest
      × (list_all good (nodes xs) ≡ true) × InText rest
  listed closed opens shut shuts one sound ts inside xs rest o t h =
      let e = elements_by one P sound closed shut shuts inside xs rest t h in
      let l = list_held opens shut xs ts inside rest o e.0 in (l.0, l.1, l.2, e.1)

  pub chained : (op : List ℕ) (lead : Form → Form)
      → ((f : Form) (depth : ℕ) (ts mid rest : Tokens) → IsOperator op ts mid → Spells f depth mid rest
      → Spells (lead f) depth ts rest)
      → (xs : List (A × ℕ)) (ts rest : Tokens) → Chain op P xs ts rest
      → (deepest xs ≤ budget) × Spells (joined lead (map form (nodes xs))) (deepest xs) ts rest
      × (list_all good (nodes xs) ≡ true)
  chained op lead leads [] ts rest c = absurd c
  chained op lead leads (x ∷ xs) ts rest c =
      let most = deepest (x ∷ xs) in
      let one = to x ts c.0 c.1 in
      let more = rows_most (IsOperator op) most xs c.0 rest (omega arith) c.2 in
      let rows : Chain op (λ y. SpelledAt most (form y)) (nodes (x ∷ xs)) ts rest =
      (c.0, raise (form x.0) x.1 most ts c.0 (omega arith) one.1, more.0) in (
        omega (arith, one.0, more.1),
        chain_spelled op lead leads form most (nodes (x ∷ xs)) ts rest rows,
        and_from (good x.0) (list_all good (nodes xs)) one.2 more.2,
      )

-- ---- a level

-- two forms one after the other, each spelled one level deeper
pub both_deeper : (f g : Form) (n : ℕ) (ts mid rest : Tokens) → Spells (types.deeper f) n ts mid
    → Spells (types.deeper g) n mid rest
    → (k : ℕ) × (n ≡ suc k) × Spells f k ts mid × Spells g k mid rest
both_deeper f g zero ts mid rest s r = absurd s
both_deeper f g (suc k) ts mid rest s r =
    (k, refl, subst (λ us. Spells f k ts us) s.2 s.1, subst (λ us. Spells g k mid us) r.2 r.1)

pub deeper_then : (f g : Form) (n : ℕ) (ts mid rest : Tokens) → Spells (types.deeper f) n ts mid → Spells g n mid rest
    → Spells (Deeper f g) n ts rest
deeper_then f g zero ts mid rest s r = absurd s
deeper_then f g (suc k) ts mid rest s r = (s.0, s.1, subst (λ us. Spells g (suc k) us rest) (sym s.2) r)
