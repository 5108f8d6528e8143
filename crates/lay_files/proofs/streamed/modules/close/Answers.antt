use Rattle.std.proofs.Common.{refl}
use Rattle.lay_stream.proofs.Calls.{stream_on, stream_leave}
use Rattle.lay_files.proofs.streamed.modules.close.Goals as goal

pub returns-in_err-close_body : goal.returns-in_err-close_body
returns-in_err-close_body g c = stream_leave _ (c.in_err-close_body.ensures.goes_on _ refl) c.from_residual.ensures.1

pub returns : goal.returns
returns g c = stream_on (c.in_ok-close_body.ensures.goes_on _ refl) c.put_line_behind.ensures
