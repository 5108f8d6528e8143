use Rattle.lay_stream.proofs.Calls.{last, call_on, stream_on, leave_on, stream_leave}
use Rattle.lay_out_tokens.proofs.StreamParts.{meta_parts}
use Rattle.lay_out_tokens.proofs.attributes.put_meta.Goals as goal

pub returns-in_err-put_either : goal.returns-in_err-put_either
returns-in_err-put_either g c =
    last (leave_on c.in_err-put_either.ensures c.from_residual.ensures.1)
    (meta_parts c.args.inner c.args.path.now c.args.input.now)

pub returns-in_err-put_meta_path : goal.returns-in_err-put_meta_path
returns-in_err-put_meta_path g c =
    last (call_on c.in_ok-put_either.ensures
    (stream_leave _ c.in_err-put_meta_path.ensures c.from_residual-in_err-put_meta_path.ensures.1))
    (meta_parts c.args.inner c.args.path.now c.args.input.now)

pub returns-in_err-put_input : goal.returns-in_err-put_input
returns-in_err-put_input g c =
    last (call_on c.in_ok-put_either.ensures
    (stream_on c.in_ok-put_meta_path.ensures
    (stream_leave _ c.in_err-put_input.ensures c.from_residual-in_err-put_input.ensures.1)))
    (meta_parts c.args.inner c.args.path.now c.args.input.now)

pub returns : goal.returns
returns g c =
    last (call_on c.in_ok-put_either.ensures
    (stream_on c.in_ok-put_meta_path.ensures (stream_on c.in_ok-put_input.ensures c.text.ensures)))
    (meta_parts c.args.inner c.args.path.now c.args.input.now)
