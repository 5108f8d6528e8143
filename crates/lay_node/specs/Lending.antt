-- A box after its value was lent to be changed, by what the value is when the loan ends.
use Rattle.std.specs.Borrow.{Lends, Fml, RattleType, MutBor}
use Rattle.lay_node.specs.contracts.boxed.Boxed.{the_row}

-- When the loan ends, the box holds the value that the loan ends with.
abbrev pub LendsInner : (T : RattleType) → MutBor T.Denot → MutBor T.Denot → Fml
LendsInner T b r = Lends (the_row T) T b r (λ w. w)
