use Rattle.std.proofs.Common.{◌≡◌}
use Rattle.lay_node.specs.nodes.Types.{about_type}
use Rattle.lay_code.specs.nodes.Ends.{ends_in_brace}
use Rattle.lay_ops_ends.proofs.brace_ends.type_ends_in_brace.Given as goal

-- what is left tells it
abbrev pub invariant-loop-brace : goal.invariant-loop-brace
invariant-loop-brace l = ends_in_brace (about_type l.last).told.form ≡ ends_in_brace (about_type l.ty).told.form
