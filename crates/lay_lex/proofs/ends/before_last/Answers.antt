use Rattle.std.proofs.Common.{◌≡◌, ◌++◌, length, sym, ap, ◌∙◌}
use lib.Utf8.{encode}
use Rattle.lay_lex.proofs.Cuts.{without_last, without_none}
use Rattle.lay_lex.proofs.ends.before_last.Goals as goal

pub returns-in-Some : goal.returns-in-Some
returns-in-Some c =
    let cut : c.args.s.now ≡ c.as_str.result.now ++ encode c.in-Some.field-0 =
    sym c.chars-rest.ensures.rest ∙ c.in-Some.ensures.steps
    ∙ ap (λ r. r ++ encode c.in-Some.field-0) (sym c.as_str.ensures) in
    without_last c.args.s.now c.as_str.result.now c.in-Some.field-0 c.utf8.s c.as_str.utf8 cut

pub returns-in-None : goal.returns-in-None
returns-in-None c = without_none c.args.s.now 1 (ap length (sym c.chars-rest.ensures.rest) ∙ c.in-None.ensures.steps.0)
