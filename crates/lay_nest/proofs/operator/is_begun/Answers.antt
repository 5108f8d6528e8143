use Rattle.std.proofs.Common.{sym, ◌∙◌}
use Rattle.lay_nest.proofs.OperatorLemmas.{not_joint}
use Rattle.lay_nest.proofs.operator.is_begun.Goals as goal

pub returns-else-front : goal.returns-else-front
returns-else-front c =
    c.is_alone.ensures ∙ sym (not_joint c.args.op.now c.args.front.now c.args.behind.now c.if-front.false)
