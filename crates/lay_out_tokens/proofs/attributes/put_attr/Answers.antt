use Rattle.lay_stream.proofs.Calls.{last, stream_on, stream_leave}
use Rattle.lay_out_tokens.proofs.StreamParts.{attr_parts}
use Rattle.lay_out_tokens.proofs.attributes.put_attr.Goals as goal

pub returns-in_err-put_bare_attr : goal.returns-in_err-put_bare_attr
returns-in_err-put_bare_attr g c =
    last (stream_leave _ c.in_err-put_bare_attr.ensures c.from_residual.ensures.1)
    (attr_parts c.args.own_line c.args.attr.now)

pub returns : goal.returns
returns g c =
    last (stream_on c.in_ok-put_bare_attr.ensures c.put_behind_attr.ensures)
    (attr_parts c.args.own_line c.args.attr.now)
