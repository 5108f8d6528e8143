use Rattle.lay_stream.proofs.Calls.{last, call_on, leave_on}
use Rattle.lay_out_types.proofs.Adding.{went_well}
use Rattle.lay_out_exprs.proofs.Feeds.{assignment_row}
use Rattle.lay_out_exprs.proofs.operators.add_assignment.Goals as goal

pub returns-in_err-text : goal.returns-in_err-text
returns-in_err-text g c =
    went_well c.in_ok-before.was (leave_on c.in_err-text.ensures c.from_residual-in_err-text.ensures.1)

pub returns-in_err-text-2 : goal.returns-in_err-text-2
returns-in_err-text-2 g c =
    went_well c.in_ok-before.was
    (last (call_on c.in_ok-text.ensures (leave_on c.in_err-text-2.ensures c.from_residual-in_err-text-2.ensures.1))
    (assignment_row c.text-2.ensures))

pub returns-in_err-text-3 : goal.returns-in_err-text-3
returns-in_err-text-3 g c =
    went_well c.in_ok-before.was
    (last (call_on c.in_ok-text.ensures (call_on c.in_ok-text-2.ensures
    (leave_on c.in_err-text-3.ensures c.from_residual-in_err-text-3.ensures.1))) (assignment_row c.text-2.ensures))

pub returns : goal.returns
returns g c =
    went_well c.in_ok-before.was
    (last (call_on c.in_ok-text.ensures (call_on c.in_ok-text-2.ensures (call_on c.in_ok-text-3.ensures c.brk.ensures)))
    (assignment_row c.text-2.ensures))
