use Rattle.std.proofs.Common.{◌∙◌}
use Rattle.lay_node.specs.Ahead.{is_keyword}
use Rattle.lay_ops.proofs.FirstCharacter.{first_behind}
use Rattle.lay_ops.proofs.operators.is_word.Goals as goal

pub returns-in-Some : goal.returns-in-Some
returns-in-Some c =
    c.is_keyword.ensures
    ∙ first_behind (is_keyword c.args.word.now) c.args.at.now c.args.others c.in-Some.token.now c.in-Some.ensures.token
