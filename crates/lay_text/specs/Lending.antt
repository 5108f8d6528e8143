-- A list after its items were lent as a mutable slice, by what the slice is when the loan ends.
use Rattle.std.specs.Prelude.{ℕ, List, ◌++◌, length, take, drop}
use Rattle.std.specs.Borrow.{Lends, Fml, RattleType, MutBor, Array}
use Rattle.lay_text.specs.contracts.list.List.{the_row}

-- the items `v`, where those of `w` replace the first of them; the length stays
abbrev pub refilled : {A : Type 0} → List A → List A → List A
refilled v w = take (length v) (w ++ drop (length w) v)

-- When the loan ends, the items that the slice then has replace those of the list.
abbrev pub LendsItems : (T : RattleType) → MutBor (List T.Denot) → MutBor (List T.Denot) → Fml
LendsItems T b r = Lends (the_row T) (Array T 0) b r (refilled b.now)
