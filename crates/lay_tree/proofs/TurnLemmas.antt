-- A loop over two lists side by side, which tells whether the one becomes the other.
use Rattle.std.proofs.Common.{arith, ◌≡◌, ◌↔◌, IsTrue, false, ℕ, zero, suc, ◌+◌, ◌<◌, List, [], ◌∷◌, ◌++◌, map, take, length, length-append, get_or, refl, sym, ap, ap₂, ◌∙◌}

-- where a turn's pair is
abbrev pub IsTurn : {A B : Type 0} → List A → List B → ℕ → A → B → Type 0
IsTurn {A = A} {B = B} xs ys n x y =
    (n < length xs) × (n < length ys) × ((d : A) → x ≡ get_or xs n d) × ((d : B) → y ≡ get_or ys n d)

next : (n : ℕ) → n + 1 ≡ suc n
next n = omega arith

module _ {A B : Type 0} (f : A → B) where
  one_more : (xs : List A) (ys : List B) (n : ℕ) (x : A) (y : B) → map f (take n xs) ≡ take n ys → IsTurn xs ys n x y → f x ≡ y
      → map f (take (suc n) xs) ≡ take (suc n) ys
  one_more [] ys n x y so_far at is = absurd (omega (arith, at.0))
  one_more (a ∷ xs) [] n x y so_far at is = absurd (omega (arith, at.1))
  one_more (a ∷ xs) (b ∷ ys) zero x y so_far at is = ap (λ (z : B). z ∷ []) (ap f (sym (at.2 a)) ∙ is ∙ at.3 b)
  one_more (a ∷ xs) (b ∷ ys) (suc n) x y so_far at is =
      ap₂ ◌∷◌ (ap first so_far)
      (one_more xs ys n x y (ap rest so_far) (omega (arith, at.0), omega (arith, at.1), at.2, at.3) is)
    where
      first : List B → B
      first [] = b
      first (z ∷ zs) = z

      rest : List B → List B
      rest [] = []
      rest (z ∷ zs) = zs

  -- It becomes it so far where this pair does too.
  pub turn_more : {C : Type 0} (xs : List A) (ys : List B) (yielded : List C) (p : C) {x : A} {y : B}
      → map f (take (length yielded) xs) ≡ take (length yielded) ys → IsTurn xs ys (length yielded) x y → f x ≡ y
      → map f (take (length (yielded ++ p ∷ [])) xs) ≡ take (length (yielded ++ p ∷ [])) ys
  turn_more xs ys yielded p so_far at is = rw (length-append yielded (p ∷ []), next (length yielded)) (one_more xs ys (length yielded) _ _ so_far at is)

  -- It doesn't become it where this pair doesn't.
  pub turn_stops : (xs : List A) (ys : List B) (n : ℕ) {x : A} {y : B} → IsTurn xs ys n x y → (f x ≡ y → ⊥)
      → IsTrue false ↔ map f xs ≡ ys
  turn_stops xs ys n {x} {y} at unlike = (
    (λ t. cc),
    (λ e. absurd (unlike (ap f (at.2 x) ∙ get_map xs n (at.0) ∙ ap (λ (zs : List B). get_or zs n y) e ∙ sym (at.3 y)))),
  )
    where
      get_map : (xs : List A) (n : ℕ) → n < length xs → f (get_or xs n x) ≡ get_or (map f xs) n y
      get_map [] n h = absurd (omega (arith, h))
      get_map (a ∷ xs) zero h = refl
      get_map (a ∷ xs) (suc n) h = get_map xs n (omega (arith, h))
