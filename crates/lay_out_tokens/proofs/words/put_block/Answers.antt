use Rattle.lay_stream.proofs.Calls.{last, call_on, stream_on, leave_on, stream_leave}
use Rattle.lay_out_tokens.proofs.StreamParts.{block_parts}
use Rattle.lay_out_tokens.proofs.words.put_block.Goals as goal

pub returns-in_err-put_either : goal.returns-in_err-put_either
returns-in_err-put_either g c =
    last (leave_on c.in_err-put_either.ensures c.from_residual.ensures.1) (block_parts c.args.inner c.args.text.now)

pub returns-in_err-put_text : goal.returns-in_err-put_text
returns-in_err-put_text g c =
    last (call_on c.in_ok-put_either.ensures
    (stream_leave _ c.in_err-put_text.ensures c.from_residual-in_err-put_text.ensures.1))
    (block_parts c.args.inner c.args.text.now)

pub returns : goal.returns
returns g c =
    last (call_on c.in_ok-put_either.ensures (stream_on c.in_ok-put_text.ensures c.text.ensures))
    (block_parts c.args.inner c.args.text.now)
