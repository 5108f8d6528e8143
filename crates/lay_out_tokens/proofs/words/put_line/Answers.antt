use Rattle.lay_stream.proofs.Calls.{last, call_on, leave_on}
use Rattle.lay_out_tokens.proofs.StreamParts.{line_parts}
use Rattle.lay_out_tokens.proofs.words.put_line.Goals as goal

pub returns-in_err-put_either : goal.returns-in_err-put_either
returns-in_err-put_either g c =
    last (leave_on c.in_err-put_either.ensures c.from_residual.ensures.1) (line_parts c.args.inner c.args.text.now)

pub returns : goal.returns
returns g c =
    last (call_on c.in_ok-put_either.ensures c.put_text.ensures) (line_parts c.args.inner c.args.text.now)
