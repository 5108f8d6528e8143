-- The last element of a list.
use Rattle.std.proofs.Common.{◌≡◌, suc, ◌-◌, List, [], ◌∷◌, length, Option, Some, None, refl, ap, ◌∙◌, arith}
use Rattle.std.specs.Prelude.{slice_get}

-- the last element, if there is one
abbrev pub last : {A : Type 0} → List A → Option A
last [] = None
last (x ∷ []) = Some x
last (x ∷ y ∷ more) = last (y ∷ more)

-- It is the element before the length.
pub last_is : {A : Type 0} (xs : List A) → slice_get xs (length xs - 1) ≡ last xs
last_is [] = refl
last_is (x ∷ []) = refl
last_is (x ∷ y ∷ more) =
    let e : length (x ∷ y ∷ more) - 1 ≡ suc (length (y ∷ more) - 1) = omega arith in
    ap (slice_get (x ∷ y ∷ more)) e ∙ last_is (y ∷ more)

-- A list without a last element has none.
pub no_last : {A : Type 0} (xs : List A) → None ≡ last xs → xs ≡ []
no_last [] h = refl
no_last (x ∷ []) h = absurd (cc)
no_last (x ∷ y ∷ more) h = absurd (none_below y more h)
  where
    none_below : {A : Type 0} (y : A) (more : List A) → None ≡ last (y ∷ more) → ⊥
    none_below y [] h = cc
    none_below y (z ∷ more) h = none_below z more h
