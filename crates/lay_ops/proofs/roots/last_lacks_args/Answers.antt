use Rattle.std.proofs.Common.{◌∙◌}
use Rattle.lay_ops.proofs.RootFacts.{of_types}
use Rattle.lay_ops.proofs.roots.last_lacks_args.Goals as goal

pub returns-in-Some : goal.returns-in-Some
returns-in-Some c = c.type_lacks_args.ensures ∙ of_types c.args.types.now c.in-Some.ty.now c.in-Some.ensures.value
