use Rattle.std.proofs.Common.{◌≡◌, length}
use Rattle.lay_node.specs.reader.Types.{returns_last}
use Rattle.lay_read_types.proofs.paths.returns_last.Given as goal

-- what is left tells it
abbrev pub invariant-loop-rest : goal.invariant-loop-rest
invariant-loop-rest l = returns_last l.rest ≡ returns_last l.segments

abbrev pub decreases-loop-rest : goal.decreases-loop-rest
decreases-loop-rest l = length l.rest
