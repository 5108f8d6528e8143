use Rattle.std.proofs.Common.{refl}
use Rattle.lay_stream.proofs.Calls.{last, stream_on, stream_leave}
use Rattle.lay_out_tokens.proofs.StreamParts.{simple_path_parts}
use Rattle.lay_out_tokens.proofs.simple_paths.put_simple_path.Goals as goal

pub returns-in_err-put_global : goal.returns-in_err-put_global
returns-in_err-put_global g c =
    last (stream_leave _ c.in_err-put_global.ensures c.from_residual.ensures.1)
    (simple_path_parts c.args.path.now _ refl)

pub returns : goal.returns
returns g c =
    last (stream_on c.in_ok-put_global.ensures c.put_words.ensures)
    (simple_path_parts c.args.path.now _ c.as_slice.ensures)
