use Rattle.std.proofs.Common.{◌≡◌, length}
use Rattle.lay_node.specs.nodes.Functions.{ends_variadic}
use Rattle.lay_read_head_rules.proofs.functions.ends_variadic.Given as goal

-- what is left tells it
abbrev pub invariant-loop-rest : goal.invariant-loop-rest
invariant-loop-rest l = ends_variadic l.rest ≡ ends_variadic l.params

abbrev pub decreases-loop-rest : goal.decreases-loop-rest
decreases-loop-rest l = length l.rest
