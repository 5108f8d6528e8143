use Rattle.std.proofs.Common.{sym, ◌∙◌}
use Rattle.lay_out_tokens.specs.Separations.{seen_of, told_of}
use Rattle.lay_out_tokens.proofs.Rows.{and_false, no_rows, rows_behind}
use Rattle.lay_out_tokens.proofs.separation.before_mark.Goals as goal

pub returns : goal.returns
returns c =
    c.around_group.ensures
    ∙ rows_behind (seen_of c.args.seen.now) (told_of c.args.next.now) (sym c.if-is_punct.ensures)
    ∙ no_rows _ _ _ _ _ _ (sym c.if-is_end_mark.ensures) (and_false _ _ (sym c.if-is_punct.ensures))
    (sym c.if-is_point_behind_number.ensures) (sym c.if-is_mark_without_gap.ensures) (sym c.if-is_bang_of_call.ensures)
