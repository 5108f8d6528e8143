use Rattle.std.proofs.Common.{◌≡◌}
use Rattle.lay_code.specs.nodes.Code.{about_expr}
use Rattle.lay_ops.proofs.edges.is_tight.Given as goal

-- what is left tells it
abbrev pub invariant-loop-answer : goal.invariant-loop-answer
invariant-loop-answer l = (about_expr l.last).tight ≡ (about_expr l.expr).tight
