use Rattle.std.proofs.Common.{◌≡◌}
use Rattle.lay_code.specs.nodes.Code.{about_expr}
use Rattle.lay_ops_ends.proofs.brace_ends.ends_in_closure.Given as goal

-- what is left tells it
abbrev pub invariant-loop-operand : goal.invariant-loop-operand
invariant-loop-operand l = (about_expr l.last).tail.closure ≡ (about_expr l.expr).tail.closure
