use Rattle.std.proofs.Common.{◌≡◌}
use Rattle.lay_code.specs.nodes.Code.{about_expr}
use Rattle.lay_code.specs.nodes.Exprs.{is_brace_lead}
use Rattle.lay_ops.proofs.edges.begins_with_brace.Given as goal

-- what is left tells it
abbrev pub invariant-loop-answer : goal.invariant-loop-answer
invariant-loop-answer l = is_brace_lead (about_expr l.first).lead ≡ is_brace_lead (about_expr l.expr).lead
