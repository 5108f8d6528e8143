use Rattle.lay_stream.proofs.Calls.{last, call_on, stream_on, leave_on, stream_leave}
use Rattle.lay_out_tokens.proofs.StreamParts.{call_parts}
use Rattle.lay_out_tokens.proofs.calls.put_call.Goals as goal

pub returns-in_err-put_simple_path : goal.returns-in_err-put_simple_path
returns-in_err-put_simple_path g c =
    last (stream_leave _ c.in_err-put_simple_path.ensures c.from_residual.ensures.1) (call_parts c.args.call.now)

pub returns-in_err-put_bang : goal.returns-in_err-put_bang
returns-in_err-put_bang g c =
    last (stream_on c.in_ok-put_simple_path.ensures
    (leave_on c.in_err-put_bang.ensures c.from_residual-in_err-put_bang.ensures.1))
    (call_parts c.args.call.now)

pub returns : goal.returns
returns g c =
    last (stream_on c.in_ok-put_simple_path.ensures (call_on c.in_ok-put_bang.ensures c.put_group.ensures))
    (call_parts c.args.call.now)
