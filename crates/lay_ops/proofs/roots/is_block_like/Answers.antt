use Rattle.std.proofs.Common.{◌∙◌}
use Rattle.lay_ops.proofs.RootFacts.{of_call}
use Rattle.lay_ops.proofs.roots.is_block_like.Goals as goal

pub returns-in-Call : goal.returns-in-Call
returns-in-Call c = c.is_brace.ensures ∙ of_call c.args.expr.now c.in-Call.call c.in-Call.is
