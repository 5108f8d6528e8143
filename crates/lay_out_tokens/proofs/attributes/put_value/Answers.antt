use Rattle.lay_stream.proofs.Calls.{last, call_on, leave_on}
use Rattle.lay_out_tokens.proofs.StreamParts.{value_parts}
use Rattle.lay_out_tokens.proofs.attributes.put_value.Goals as goal

pub returns-in_err-text : goal.returns-in_err-text
returns-in_err-text g c =
    last (leave_on c.in_err-text.ensures c.from_residual.ensures.1) (value_parts c.args.tokens.now)

pub returns : goal.returns
returns g c = last (call_on c.in_ok-text.ensures c.put_tokens.ensures) (value_parts c.args.tokens.now)
