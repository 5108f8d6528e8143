use Rattle.lay_stream.proofs.Calls.{stream_on, stream_leave}
use Rattle.lay_files.proofs.streamed.modules.put_head.Goals as goal

pub returns-in_err-put_line_before : goal.returns-in_err-put_line_before
returns-in_err-put_line_before g c = stream_leave _ c.in_err-put_line_before.ensures c.from_residual.ensures.1

pub returns : goal.returns
returns g c = stream_on c.in_ok-put_line_before.ensures c.put_module_head.ensures
