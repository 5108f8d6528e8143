-- The iterator gives the text's first character and keeps what follows it.
use Rattle.std.proofs.Common.{◌≡◌, ◌++◌, sym, ap, ◌∙◌}
use lib.Utf8.{encode}
use Rattle.std.proofs.lemmas.Str.{chars_past_char}
use Rattle.lay_piece.proofs.piece.chars.first.Goals as goal

pub returns-clause-parts : goal.returns-clause-parts
returns-clause-parts c =
    let cut : c.args.s.now ≡ encode c.in_ok-c.c ++ c.as_str.result.now =
    sym c.chars-rest.ensures.rest ∙ c.in_ok-c.ensures.steps.0
    ∙ ap (λ r. encode c.in_ok-c.c ++ r) (sym c.as_str.ensures) in
    chars_past_char c.args.s.now c.as_str.result.now c.in_ok-c.c c.utf8.s cut
