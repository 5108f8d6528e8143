-- The entry at a place gets a size.
use Rattle.std.proofs.Common.{◌≡◌, ℕ, zero, suc, List, [], ◌∷◌, set, slice_get, Some, None, refl, ap}
use Rattle.lay_ring.specs.declared.entry.Size.{Size}
use Rattle.lay_ring.specs.declared.entry.Entry.{Entry}
use Rattle.lay_ring.specs.Held.{sized_at, IsUnknownAt}

pub set_sized : (xs : List Entry) (i : ℕ) (e : Entry) (size : Size) → Some e ≡ slice_get xs i → set xs i (record { tok = e.tok; size = size }) ≡ sized_at xs i size
set_sized [] i e size h = refl
set_sized (x ∷ xs) zero e size h = let k : e ≡ x = cc in ap (λ (y : Entry). record { tok = y.tok; size = size } ∷ xs) k
set_sized (x ∷ xs) (suc i) e size h = ap (λ (y : List Entry). x ∷ y) (set_sized xs i e size h)

-- an entry of unknown size is there
pub some_at : (xs : List Entry) (i : ℕ) → IsUnknownAt xs i → None ≡ slice_get xs i → ⊥
some_at [] i u h = u
some_at (x ∷ xs) zero u h = cc
some_at (x ∷ xs) (suc i) u h = some_at xs i u h
