-- What was taken stands before the others.
use Rattle.std.proofs.Common.{◌≡◌, ◌++◌, length}
use Rattle.lay_map.proofs.unit.units_of_spans.Given as goal

abbrev pub invariant-loop-span : goal.invariant-loop-span
invariant-loop-span l = l.list ++ l.rest ≡ l.spans

abbrev pub decreases-loop-span : goal.decreases-loop-span
decreases-loop-span l = length l.rest
