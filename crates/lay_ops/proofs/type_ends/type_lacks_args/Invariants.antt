use Rattle.std.proofs.Common.{◌≡◌}
use Rattle.lay_node.specs.nodes.Types.{about_type}
use Rattle.lay_code.specs.nodes.Exprs.{lacks_args}
use Rattle.lay_ops.proofs.type_ends.type_lacks_args.Given as goal

-- what is left tells it
abbrev pub invariant-loop-inner : goal.invariant-loop-inner
invariant-loop-inner l = lacks_args (about_type l.last).told.refuses ≡ lacks_args (about_type l.ty).told.refuses
