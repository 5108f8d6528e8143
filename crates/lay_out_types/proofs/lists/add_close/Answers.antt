use Rattle.lay_stream.proofs.Calls.{last, call_on, leave_on}
use Rattle.lay_out_types.proofs.Adding.{went_well}
use Rattle.lay_out_types.proofs.FormRows.{closed_is}
use Rattle.lay_out_types.proofs.lists.add_close.Goals as goal

pub returns-in_err-brk : goal.returns-in_err-brk
returns-in_err-brk g c =
    went_well c.in_ok-before.was
    (last (leave_on c.in_err-brk.ensures c.from_residual-in_err-brk.ensures.1)
    (closed_is c.args.may c.args.bare c.args.both.now c.args.closer.now _ c.if-bare.false c.last_break.ensures))

pub returns-in_err-text : goal.returns-in_err-text
returns-in_err-text g c =
    went_well c.in_ok-before.was
    (last (call_on c.in_ok-brk.ensures (leave_on c.in_err-text.ensures c.from_residual-in_err-text.ensures.1))
    (closed_is c.args.may c.args.bare c.args.both.now c.args.closer.now _ c.if-bare.false c.last_break.ensures))

pub returns : goal.returns
returns g c =
    went_well c.in_ok-before.was
    (last (call_on c.in_ok-brk.ensures (call_on c.in_ok-text.ensures c.end.ensures))
    (closed_is c.args.may c.args.bare c.args.both.now c.args.closer.now _ c.if-bare.false c.last_break.ensures))
