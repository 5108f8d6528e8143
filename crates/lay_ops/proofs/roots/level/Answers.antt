use Rattle.std.proofs.Common.{◌∙◌}
use Rattle.lay_ops.proofs.RootFacts.{of_chain}
use Rattle.lay_ops.proofs.roots.level.Goals as goal

pub returns-in-Chain : goal.returns-in-Chain
returns-in-Chain c =
    let x = c.in-Chain in
    c.first_level.ensures ∙ of_chain c.args.expr.now x.first x.rest c.as_slice.result.now x.is c.as_slice.ensures
