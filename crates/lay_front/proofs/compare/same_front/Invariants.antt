use Rattle.std.proofs.Common.{◌≡◌, take}
use Rattle.lay_front.proofs.compare.same_front.Given as goal

abbrev pub invariant-loop-number : goal.invariant-loop-number
invariant-loop-number l = take l.number l.piece ≡ take l.number l.expected
