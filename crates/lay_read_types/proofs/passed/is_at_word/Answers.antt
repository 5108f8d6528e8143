use Rattle.std.proofs.Common.{◌∙◌}
use Rattle.lay_read_types.proofs.Passing.{word_at_front}
use Rattle.lay_read_types.proofs.passed.is_at_word.Goals as goal

pub returns-in-Some : goal.returns-in-Some
returns-in-Some c =
    c.is_word.ensures ∙ word_at_front c.args.at.now c.in-Some.token.now c.in-Some.ensures.token
