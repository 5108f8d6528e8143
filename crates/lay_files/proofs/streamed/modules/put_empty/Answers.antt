use Rattle.lay_stream.proofs.Calls.{call_on, leave_on, stream_on, stream_leave}
use Rattle.lay_files.proofs.streamed.modules.put_empty.Goals as goal

pub returns-in_err-put_head : goal.returns-in_err-put_head
returns-in_err-put_head g c = stream_leave _ c.in_err-put_head.ensures c.from_residual.ensures.1

pub returns-in_err-text : goal.returns-in_err-text
returns-in_err-text g c = stream_on c.in_ok-put_head.ensures (leave_on c.in_err-text.ensures c.from_residual-in_err-text.ensures.1)

pub returns : goal.returns
returns g c = stream_on c.in_ok-put_head.ensures (call_on c.in_ok-text.ensures c.put_line_behind.ensures)
