use Rattle.std.proofs.Common.{refl}
use Rattle.lay_stream.proofs.Calls.{stream_on, stream_leave}
use Rattle.lay_files.proofs.streamed.modules.open.Goals as goal

pub returns-in_err-put_head : goal.returns-in_err-put_head
returns-in_err-put_head g c = stream_leave _ c.in_err-put_head.ensures c.from_residual.ensures.1

pub returns : goal.returns
returns g c = stream_on c.in_ok-put_head.ensures (c.open_body.ensures.goes_on _ refl)
