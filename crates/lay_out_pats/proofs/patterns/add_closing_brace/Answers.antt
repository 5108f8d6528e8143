use Rattle.lay_stream.proofs.Calls.{last, call_on, leave_on}
use Rattle.lay_out_types.proofs.Adding.{went_well}
use Rattle.lay_out_pats.proofs.FieldLemmas.{closing_is}
use Rattle.lay_out_pats.proofs.patterns.add_closing_brace.Goals as goal

pub returns-in_err-brk : goal.returns-in_err-brk
returns-in_err-brk g c =
    went_well c.in_ok-before.was
    (last (leave_on c.in_err-brk.ensures c.from_residual-in_err-brk.ensures.1)
    (closing_is c.args.may c.args.bare _ c.if-bare.false c.closing_break.ensures))

pub returns-in_err-end : goal.returns-in_err-end
returns-in_err-end g c =
    went_well c.in_ok-before.was
    (last (call_on c.in_ok-brk.ensures (leave_on c.in_err-end.ensures c.from_residual-in_err-end.ensures.1))
    (closing_is c.args.may c.args.bare _ c.if-bare.false c.closing_break.ensures))

pub returns : goal.returns
returns g c =
    went_well c.in_ok-before.was
    (last (call_on c.in_ok-brk.ensures (call_on c.in_ok-end.ensures c.text-2.ensures))
    (closing_is c.args.may c.args.bare _ c.if-bare.false c.closing_break.ensures))
