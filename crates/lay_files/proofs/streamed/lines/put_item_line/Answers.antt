use Rattle.lay_stream.proofs.Calls.{last, stream_on, stream_leave}
use Rattle.lay_code.specs.nodes.Code.{form_of_item}
use Rattle.lay_files.proofs.streamed_lemmas.Rows.{one_row}
use Rattle.lay_files.proofs.streamed.lines.put_item_line.Goals as goal

pub returns-in_err-put_line_before : goal.returns-in_err-put_line_before
returns-in_err-put_line_before g c =
    last (stream_leave _ c.in_err-put_line_before.ensures c.from_residual.ensures.1) (one_row c.args.within (form_of_item c.args.item.now))

pub returns-in_err-put_item : goal.returns-in_err-put_item
returns-in_err-put_item g c =
    last (stream_on c.in_ok-put_line_before.ensures (stream_leave _ c.in_err-put_item.ensures c.from_residual-in_err-put_item.ensures.1))
    (one_row c.args.within (form_of_item c.args.item.now))

pub returns : goal.returns
returns g c =
    last (stream_on c.in_ok-put_line_before.ensures (stream_on c.in_ok-put_item.ensures c.put_line_behind.ensures)) (one_row c.args.within (form_of_item c.args.item.now))
