use Rattle.lay_stream.proofs.Calls.{last, call_on, leave_on}
use Rattle.lay_out_types.proofs.Adding.{went_well}
use Rattle.lay_out_exprs.proofs.Feeds.{operator_row}
use Rattle.lay_out_exprs.proofs.operators.add_operator.Goals as goal

pub returns-in_err-brk : goal.returns-in_err-brk
returns-in_err-brk g c =
    went_well c.in_ok-before.was (leave_on c.in_err-brk.ensures c.from_residual-in_err-brk.ensures.1)

pub returns-in_err-text : goal.returns-in_err-text
returns-in_err-text g c =
    went_well c.in_ok-before.was
    (last (call_on c.in_ok-brk.ensures (leave_on c.in_err-text.ensures c.from_residual-in_err-text.ensures.1))
    (operator_row c.text.ensures))

pub returns : goal.returns
returns g c =
    went_well c.in_ok-before.was
    (last (call_on c.in_ok-brk.ensures (call_on c.in_ok-text.ensures c.text-3.ensures)) (operator_row c.text.ensures))
