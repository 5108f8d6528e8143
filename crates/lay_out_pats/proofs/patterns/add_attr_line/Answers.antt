use Rattle.lay_stream.proofs.Calls.{last, stream_on, stream_leave}
use Rattle.lay_out_types.proofs.Adding.{went_well}
use Rattle.lay_out_pats.proofs.FieldLemmas.{line_is}
use Rattle.lay_out_pats.proofs.patterns.add_attr_line.Goals as goal

pub returns-in_err-put_bare_attr : goal.returns-in_err-put_bare_attr
returns-in_err-put_bare_attr g c =
    went_well c.in_ok-before.was
    (last (stream_leave _ c.in_err-put_bare_attr.ensures c.from_residual-in_err-put_bare_attr.ensures.1)
    (line_is c.args.attr.now))

pub returns : goal.returns
returns g c =
    went_well c.in_ok-before.was
    (last (stream_on c.in_ok-put_bare_attr.ensures c.brk.ensures) (line_is c.args.attr.now))
