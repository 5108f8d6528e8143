use Rattle.lay_stream.proofs.Calls.{call_on, leave_on}
use Rattle.lay_out_types.proofs.lists.open_predicates.Goals as goal

pub returns-in_err-brk : goal.returns-in_err-brk
returns-in_err-brk g c = leave_on c.in_err-brk.ensures c.from_residual.ensures.1

pub returns-in_err-begin : goal.returns-in_err-begin
returns-in_err-begin g c =
    call_on c.in_ok-brk.ensures (leave_on c.in_err-begin.ensures c.from_residual-in_err-begin.ensures.1)

pub returns-in_err-brk-2 : goal.returns-in_err-brk-2
returns-in_err-brk-2 g c =
    call_on c.in_ok-brk.ensures
    (call_on c.in_ok-begin.ensures (leave_on c.in_err-brk-2.ensures c.from_residual-in_err-brk-2.ensures.1))

pub returns-in_err-text : goal.returns-in_err-text
returns-in_err-text g c =
    call_on c.in_ok-brk.ensures
    (call_on c.in_ok-begin.ensures
    (call_on c.in_ok-brk-2.ensures (leave_on c.in_err-text.ensures c.from_residual-in_err-text.ensures.1)))

pub returns : goal.returns
returns g c =
    call_on c.in_ok-brk.ensures
    (call_on c.in_ok-begin.ensures (call_on c.in_ok-brk-2.ensures (call_on c.in_ok-text.ensures c.brk-3.ensures)))
