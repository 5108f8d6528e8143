use Rattle.lay_stream.proofs.Calls.{last, stream_on, stream_leave}
use Rattle.lay_node.specs.nodes.Attr.{attr_form}
use Rattle.lay_files.proofs.streamed_lemmas.Rows.{one_row}
use Rattle.lay_files.proofs.streamed.lines.put_attr_line.Goals as goal

pub returns-in_err-put_line_before : goal.returns-in_err-put_line_before
returns-in_err-put_line_before g c =
    last (stream_leave _ c.in_err-put_line_before.ensures c.from_residual.ensures.1) (one_row c.args.within (attr_form c.args.attr.now))

pub returns-in_err-put_bare_attr : goal.returns-in_err-put_bare_attr
returns-in_err-put_bare_attr g c =
    last (stream_on c.in_ok-put_line_before.ensures (stream_leave _ c.in_err-put_bare_attr.ensures c.from_residual-in_err-put_bare_attr.ensures.1))
    (one_row c.args.within (attr_form c.args.attr.now))

pub returns : goal.returns
returns g c =
    last (stream_on c.in_ok-put_line_before.ensures (stream_on c.in_ok-put_bare_attr.ensures c.put_line_behind.ensures)) (one_row c.args.within (attr_form c.args.attr.now))
