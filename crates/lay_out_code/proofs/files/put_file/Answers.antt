use Rattle.std.proofs.Common.{refl}
use Rattle.lay_stream.proofs.Calls.{last, stream_on, stream_leave}
use Rattle.lay_out_code.proofs.OutLemmas.{file_parts}
use Rattle.lay_out_code.proofs.files.put_file.Goals as goal

pub returns-in_err-put_shebang : goal.returns-in_err-put_shebang
returns-in_err-put_shebang g c =
    let file = c.args.file.now in
    last (stream_leave _ c.in_err-put_shebang.ensures c.from_residual.ensures.1)
    (file_parts file file.attrs file.items refl refl)

pub returns-in_err-add_attrs : goal.returns-in_err-add_attrs
returns-in_err-add_attrs g c =
    let file = c.args.file.now in
    last (stream_on c.in_ok-put_shebang.ensures
    (stream_leave _ (c.in_err-add_attrs.ensures.goes_on _ refl) c.from_residual-in_err-add_attrs.ensures.1))
    (file_parts file _ file.items c.as_slice.ensures refl)

pub returns : goal.returns
returns g c =
    last (stream_on c.in_ok-put_shebang.ensures (stream_on (c.in_ok-add_attrs.ensures.goes_on _ refl) c.put_items.ensures))
    (file_parts c.args.file.now _ _ c.as_slice.ensures c.as_slice-2.ensures)
