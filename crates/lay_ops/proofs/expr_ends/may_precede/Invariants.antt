use Rattle.std.proofs.Common.{◌≡◌}
use Rattle.lay_code.specs.nodes.Code.{about_expr}
use Rattle.lay_code.specs.nodes.Exprs.{is_open, is_typed}
use Rattle.lay_ops.proofs.expr_ends.may_precede.Given as goal

-- what is left tells it
abbrev pub invariant-loop-operand : goal.invariant-loop-operand
invariant-loop-operand l =
    (is_open (about_expr l.last).tail ≡ is_open (about_expr l.expr).tail)
    × (is_typed (about_expr l.last).tail ≡ is_typed (about_expr l.expr).tail)
