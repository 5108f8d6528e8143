use Rattle.std.proofs.Common.{Some, sym, ap, ◌∙◌}
use Rattle.lay_node.specs.reader.Words.{word}
use Rattle.lay_read_types.proofs.Passing.{no_word, word_passed}
use Rattle.lay_read_types.proofs.passed.takes_word.Goals as goal

pub returns-then-is_at_word : goal.returns-then-is_at_word
returns-then-is_at_word c =
    let p = word_passed c.args.at.now (sym c.if-is_at_word.ensures) in (
      p.0,
      p.1 ∙ ap (λ left. Some (p.0, left)) (sym c.pass.ensures),
    )

pub returns-else-is_at_word : goal.returns-else-is_at_word
returns-else-is_at_word c = no_word (word c.args.at.now) (sym c.if-is_at_word.ensures)
