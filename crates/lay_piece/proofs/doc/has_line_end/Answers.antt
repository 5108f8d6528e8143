use Rattle.std.proofs.Common.{sym, ◌∙◌}
use Rattle.lay_piece.proofs.Nesting.{line_ends}
use Rattle.lay_piece.proofs.doc.has_line_end.Goals as goal

pub returns-else-contains : goal.returns-else-contains
returns-else-contains c =
    c.contains-else-contains.ensures.value ∙ line_ends c.args.text.now (sym c.if-contains.ensures.value)
