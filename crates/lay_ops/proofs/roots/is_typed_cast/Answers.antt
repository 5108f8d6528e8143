use Rattle.std.proofs.Common.{◌∙◌}
use Rattle.lay_ops.proofs.RootFacts.{of_cast}
use Rattle.lay_ops.proofs.roots.is_typed_cast.Goals as goal

pub returns-in-Cast : goal.returns-in-Cast
returns-in-Cast c =
    let x = c.in-Cast in
    c.last_lacks_args.ensures ∙ of_cast c.args.expr.now x.operand x.types c.as_slice.result.now x.is c.as_slice.ensures
