use Rattle.std.proofs.Common.{◌≡◌}
use Rattle.lay_code.specs.nodes.Code.{about_expr}
use Rattle.lay_code.specs.nodes.Ends.{ends_in_brace}
use Rattle.lay_ops_ends.proofs.brace_ends.ends_in_brace.Given as goal

-- what is left tells it
abbrev pub invariant-loop-brace : goal.invariant-loop-brace
invariant-loop-brace l = ends_in_brace (about_expr l.last).form ≡ ends_in_brace (about_expr l.expr).form
