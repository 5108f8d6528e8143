use Rattle.std.proofs.Common.{◌-◌, ◌++◌, length, take, ap, sym, ◌∙◌}
use Rattle.std.specs.Str.{chars}
use Rattle.lay_piece.specs.Chars.{front}
use Rattle.lay_piece.proofs.Fronts.{front-after}
use Rattle.lay_piece.proofs.Texts.{bytes_before}
use Rattle.lay_cook.specs.Steps.{is_unmarked}
use Rattle.lay_cook.proofs.strings.run.Goals as goal

pub returns-clause-run : goal.returns-clause-run
returns-clause-run c =
    let s = c.args.s.now in
    let cs = chars s in
    let r = c.after_run-rest.result.now in
    ap (take (length s - length r)) c.as_bytes.ensures.value
    ∙ bytes_before s r (front is_unmarked cs) c.utf8.s c.after_run-rest.utf8
    (front-after is_unmarked cs ∙ ap (λ l. front is_unmarked cs ++ l) (sym c.after_run-rest.ensures.run))
