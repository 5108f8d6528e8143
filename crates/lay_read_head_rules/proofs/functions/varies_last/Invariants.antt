use Rattle.std.proofs.Common.{◌≡◌, length}
use Rattle.lay_node.specs.nodes.Functions.{varies_last}
use Rattle.lay_read_head_rules.proofs.functions.varies_last.Given as goal

-- what is left tells it
abbrev pub invariant-loop-rest : goal.invariant-loop-rest
invariant-loop-rest l = varies_last l.rest ≡ varies_last l.params

abbrev pub decreases-loop-rest : goal.decreases-loop-rest
decreases-loop-rest l = length l.rest
