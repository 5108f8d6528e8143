-- What contracts see of a ring of entries, and of a queue of marks.
use Rattle.std.specs.Prelude.{◌≡◌, ℕ, zero, suc, ◌+◌, ◌-◌, ◌%◌, ◌^◌, List, [], ◌∷◌}
use Rattle.lay_ring.specs.declared.entry.Size.{Size}
use Rattle.lay_ring.specs.declared.entry.Size.TheVariants.{Unknown}
use Rattle.lay_ring.specs.declared.entry.Entry.{Entry}

-- The entries of a ring, the number of the first one, and for how many more there is room.
pub record Held : Type 0 where
  pub entries : List Entry
  pub first : ℕ
  pub spare : ℕ

-- The marks, the oldest first, and for how many more there is room.
pub record Marked (T : Type 0) : Type 0 where
  pub items : List T
  pub spare : ℕ

-- the number of the entry at a place; that of the first entry is `first`
abbrev pub number_of : ℕ → ℕ → ℕ
number_of first place = (first + place) % 2 ^ 64

-- the place of the entry with a number; that of the first entry is `first`
abbrev pub place_of : ℕ → ℕ → ℕ
place_of first number = (number + (2 ^ 64 - first)) % 2 ^ 64

-- the number of the first entry after a pop; without an entry it stays
abbrev pub number_after_pop : List Entry → ℕ → ℕ
number_after_pop [] first = first
number_after_pop (e ∷ es) first = number_of first 1

-- There is an entry at the place, and its size is unknown.
abbrev pub IsUnknownAt : List Entry → ℕ → Type 0
IsUnknownAt [] i = ⊥
IsUnknownAt (e ∷ es) zero = e.size ≡ Unknown
IsUnknownAt (e ∷ es) (suc i) = IsUnknownAt es i

-- the entries, where the one at the place gets this size
abbrev pub sized_at : List Entry → ℕ → Size → List Entry
sized_at [] i size = []
sized_at (e ∷ es) zero size = record { tok = e.tok; size = size } ∷ es
sized_at (e ∷ es) (suc i) size = e ∷ sized_at es i size
