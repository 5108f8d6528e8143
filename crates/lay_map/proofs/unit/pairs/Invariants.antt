-- The pairs so far and those of the rest are all.
use Rattle.std.proofs.Common.{◌≡◌, ◌++◌, length}
use Rattle.lay_map.specs.Pairs.{paired}
use Rattle.lay_map.proofs.unit.pairs.Given as goal

abbrev pub invariant-loop-unit : goal.invariant-loop-unit
invariant-loop-unit l = paired l.fn.source l.fn.output ≡ l.list ++ paired l.units l.others

abbrev pub decreases-loop-unit : goal.decreases-loop-unit
decreases-loop-unit l = length l.units
