-- Elements with commas that nothing closes: what is read of them is spelled.
use Rattle.std.proofs.Common.{◌≡◌, ℕ, zero, suc, ◌≤◌, Bool, true, false, List, [], ◌∷◌, ◌++◌, inl, inr, length, codes, Some, refl, sym, subst, append-nil, arith}
use Rattle.std.specs.List.{list_all}
use Rattle.std.proofs.lemmas.Bool.{and_from}
use Rattle.lay_piece.specs.declared.kind.Kind.TheVariants as kind
use Rattle.lay_form.specs.Form.{Bit, Fixed, Form, comma}
use Rattle.lay_form.specs.Notation.{comma_list}
use Rattle.lay_form.specs.Spelled.{Then, IsOne, IsBit, MayBe, Spells}
use Rattle.lay_form.proofs.FormLaws.{deeper as raise}
use Rattle.lay_node.specs.Ahead.{Tokens, first, tail, is_mark}
use Rattle.lay_node.specs.reader.Exact.{InText}
use Rattle.lay_node.specs.reader.Loops.{Got, nodes, deepest, open_elements_from, open_elements}
use Rattle.lay_node.proofs.Fronts.{mark_one}
use Rattle.lay_node.proofs.Parts.{Rows, SpelledAt, Further, each_comma_spelled}
use Rattle.lay_node.proofs.Steps.{same_some, chosen, bind_some, one_more}
use Rattle.lay_node.proofs.reader.TypesSoundNeeds.{rows_most}
use Rattle.lay_node.proofs.reader.TypesSoundParts.{bit_texts, ElementsBy}

-- what follows the last element: a `,`, and none begins there, or no `,`
abbrev pub LastOpen : (Tokens → Bool) → Bool → Tokens → Tokens → Type 0
LastOpen begins true ts rest = IsOne kind.Punct (codes ",") ts rest × (begins rest ≡ false)
LastOpen begins false ts rest = (ts ≡ rest) × (first (is_mark (codes ",")) rest ≡ false)

abbrev pub OpenBy : {A : Type 0} → (Tokens → Bool) → (A → Tokens → Tokens → Type 0) → List A → Bool → Tokens → Tokens
    → Type 0
OpenBy begins P [] last ts rest = (last ≡ true) × (ts ≡ rest) × (begins rest ≡ false)
OpenBy begins P (x ∷ xs) last ts rest = Then (P x) (Then (Rows (Further P) xs) (LastOpen begins last)) ts rest

open_more : {A : Type 0} (begins : Tokens → Bool) (P : A → Tokens → Tokens → Type 0) (x : A) (xs : List A) (last : Bool)
    (ts mid next rest : Tokens) → P x ts mid
    → IsOne kind.Punct (codes ",") mid next → OpenBy begins P xs last next rest → OpenBy begins P (x ∷ xs) last ts rest
open_more begins P x [] last ts mid next rest p m r =
    let comma : IsOne kind.Punct (codes ",") mid rest = subst (IsOne kind.Punct (codes ",") mid) r.1 m in
    let end : LastOpen begins true mid rest = (comma, r.2) in
    (mid, p, (mid, refl, subst (λ b. LastOpen begins b mid rest) (sym r.0) end))
open_more begins P x (y ∷ ys) last ts mid next rest p m r =
    let behind = r.2 in (mid, p, (behind.0, (r.0, (next, m, r.1), behind.1), behind.2))

module _ {A : Type 0} (begins : Tokens → Bool) (one : Tokens → Got A) (P : A → Tokens → Tokens → Type 0)
    (sound : (ts : Tokens) (x : A) (rest : Tokens) → InText ts → begins ts ≡ true → one ts ≡ Some (x, rest)
    → P x ts rest × InText rest) where
  -- what is found after those that were found before
  abbrev Found : List A → Tokens → (List A × Bool) × Tokens → Type 0
  Found found ts r = (ys : List A) × (r.0.0 ≡ found ++ ys) × OpenBy begins P ys r.0.1 ts r.1 × InText r.1

  from_sound : (n : ℕ) (found : List A) (ts : Tokens) (r : (List A × Bool) × Tokens) → InText ts
      → open_elements_from begins one n found ts ≡ Some r
      → Found found ts r
  unfolding open_elements_from
  from_sound zero found ts r t h = absurd (cc)
  from_sound (suc n) found ts r t h =
      elim (chosen (begins ts) _ _ _ h) [
        | inl g ↦
            let b = bind_some (one ts) _ _ g.1 in
            let s = sound ts b.0.0 b.0.1 t g.0 b.1 in
            let all = found ++ b.0.0 ∷ [] in
            elim (chosen (first (is_mark (codes ",")) b.0.1) _ _ _ b.2) [
              | inl m ↦
                  let o = mark_one (codes ",") b.0.1 m.0 in
                  let k = from_sound n all (tail b.0.1) r (bit_texts (Fixed kind.Punct (codes ",")) b.0.1 (tail b.0.1)
                  o s.1) m.1 in (
                    b.0.0 ∷ k.0,
                    one_more found b.0.0 k.0 r.0.0 k.1,
                    open_more begins P b.0.0 k.0 r.0.1 ts b.0.1 (tail b.0.1) r.1 s.0 o k.2,
                    k.3,
                  )
              | inr m ↦
                  same_some (Found found ts) ((all, false), b.0.1) r m.1
                  (b.0.0 ∷ [], refl, (b.0.1, s.0, (b.0.1, refl, (refl, m.0))), s.1)
            ]
        | inr g ↦
            same_some (Found found ts) ((found, true), ts) r g.1 ([], sym (append-nil found), (refl, refl, g.0), t)
      ]

  pub open_sound : (ts : Tokens) (xs : List A) (last : Bool) (rest : Tokens) → InText ts
      → open_elements begins one ts ≡ Some ((xs, last), rest)
      → OpenBy begins P xs last ts rest × InText rest
  unfolding open_elements
  open_sound ts xs last rest t h =
      let k = from_sound (suc (length ts)) [] ts ((xs, last), rest) t h in
      (subst (λ ys. OpenBy begins P ys last ts rest) (sym k.1) k.2, k.3)

-- Nodes with their needs are spelled at the greatest of them.
module _ {A : Type 0} (begins : Tokens → Bool) (budget : ℕ) (form : A → Form) (good : A → Bool)
    (P : A × ℕ → Tokens → Tokens → Type 0)
    (to : (x : A × ℕ) (ts mid : Tokens) → P x ts mid
    → (x.1 ≤ budget) × Spells (form x.0) x.1 ts mid × (good x.0 ≡ true)) where
  pub open_held : (xs : List (A × ℕ)) (last : Bool) (ts rest : Tokens) → OpenBy begins P xs last ts rest
      → OpenBy begins (λ x. SpelledAt (deepest xs) (form x)) (nodes xs) last ts rest × (deepest xs ≤ budget)
      × (list_all good (nodes xs) ≡ true)
  open_held [] last ts rest r = (r, omega arith, refl)
  open_held (x ∷ xs) last ts rest r =
      let behind = r.2 in
      let most = deepest (x ∷ xs) in
      let one = to x ts r.0 r.1 in
      let more = rows_most budget form good P to (IsOne kind.Punct (codes ",")) most xs r.0 behind.0 (omega arith)
      behind.1 in (
        (r.0, raise (form x.0) x.1 most ts r.0 (omega arith) one.1, (behind.0, more.0, behind.2)),
        omega (arith, one.0, more.1),
        and_from (good x.0) (list_all good (nodes xs)) one.2 more.2,
      )

-- Where something closes them they are a list.
pub open_shut : {A : Type 0} (begins : Tokens → Bool) (P : A → Tokens → Tokens → Type 0) (shut : Bit) (xs : List A)
    (last : Bool) (ts end rest : Tokens)
    → OpenBy begins P xs last ts end → IsBit shut end rest → ElementsBy shut P xs ts rest
open_shut begins P shut [] last ts end rest r c = subst (λ us. IsBit shut us rest) (sym r.1) c
open_shut begins P shut (x ∷ xs) last ts end rest r c =
    let behind = r.2 in (r.0, r.1, (behind.0, behind.1, at last behind.0 behind.2))
  where
    at : (last : Bool) (mid : Tokens) → LastOpen begins last mid end → Then (MayBe comma) (IsBit shut) mid rest
    at true mid l = (end, inr (end, l.0, refl), c)
    at false mid l = (end, inl l.0, c)

-- A list after whose last element no comma may stand.
pub shut_list : (opens shut : Bit) (f : Form) (fs : List Form) (depth : ℕ) (ts inside mid end rest : Tokens)
    → IsBit opens ts inside → Spells f depth inside mid
    → Rows (Further (SpelledAt depth)) fs mid end → IsBit shut end rest
    → Spells (comma_list false opens shut (f ∷ fs)) depth ts rest
shut_list opens shut f fs depth ts inside mid end rest o s r c = (
  rest,
  (inside, (inside, o, refl), (mid, s, (end, each_comma_spelled fs depth mid end r, (rest, (rest, c, refl), refl)))),
  refl,
)
