use Rattle.std.proofs.Common.{ap, ◌∙◌}
use Rattle.std.specs.Prelude.{option_and_then}
use Rattle.lay_token.specs.Operators.{op_at}
use Rattle.lay_code.specs.Operators.{named}
use Rattle.lay_ops.proofs.FirstCharacter.{by_first, no_text, none_ahead}
use Rattle.lay_ops.proofs.operators.binary.Goals as goal

pub returns-in-empty : goal.returns-in-empty
returns-in-empty c =
    no_text c.args.at.now c.in-Some.token.now c.as_bytes.result.now c.in-Some.ensures.token c.as_bytes.ensures
    c.in-empty.len_below

pub returns-in-len1-up : goal.returns-in-len1-up
returns-in-len1-up c =
    c.first_of.ensures ∙ ap (λ os. option_and_then (named os) (op_at c.args.at.now)) c.led_by.ensures
    ∙ by_first c.args.at.now c.in-Some.token.now c.as_bytes.result.now c.in-Some.ensures.token c.as_bytes.ensures
    c.in-len1-up.len_at_least

pub returns-in-None : goal.returns-in-None
returns-in-None c = none_ahead c.args.at.now c.in-None.ensures.within
