use Rattle.std.proofs.Common.{sym, ◌∙◌}
use Rattle.lay_out_tokens.specs.Separations.{seen_of, told_of}
use Rattle.lay_out_tokens.proofs.Rows.{rows_before, rows_behind}
use Rattle.lay_out_tokens.proofs.separation.between_tokens.Goals as goal

pub returns-then-is_punct-2 : goal.returns-then-is_punct-2
returns-then-is_punct-2 c =
    c.behind_mark.ensures ∙ rows_before (seen_of c.args.seen.now) (told_of c.args.next.now)
    (sym c.if-is_punct.ensures)

pub returns : goal.returns
returns c =
    let s = seen_of c.args.seen.now in
    let r = told_of c.args.next.now in
    c.around_group.ensures ∙ rows_behind s r (sym c.if-is_punct-2.ensures) ∙ rows_before s r (sym c.if-is_punct.ensures)
