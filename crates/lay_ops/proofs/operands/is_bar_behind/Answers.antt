use Rattle.std.proofs.Common.{codes, ◌∙◌}
use Rattle.lay_node.specs.Ahead.{is_mark}
use Rattle.lay_ops.proofs.FirstCharacter.{first_behind}
use Rattle.lay_ops.proofs.operands.is_bar_behind.Goals as goal

pub returns-in-Some : goal.returns-in-Some
returns-in-Some c =
    c.is_bar.ensures
    ∙ first_behind (is_mark (codes "|")) c.args.at.now c.args.others c.in-Some.token.now c.in-Some.ensures.token
