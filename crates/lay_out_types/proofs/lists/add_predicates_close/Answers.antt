use Rattle.lay_stream.proofs.Calls.{last, call_on, leave_on}
use Rattle.lay_out_types.proofs.Adding.{went_well}
use Rattle.lay_out_types.proofs.FormRows.{body_closed}
use Rattle.lay_out_types.proofs.lists.add_predicates_close.Goals as goal

pub returns-in_err-brk : goal.returns-in_err-brk
returns-in_err-brk g c =
    went_well c.in_ok-before.was
    (last (leave_on c.in_err-brk.ensures c.from_residual-in_err-brk.ensures.1)
    (body_closed c.args.body c.args.bare c.if-bare.false c.if-body.true))

pub returns-then-body : goal.returns-then-body
returns-then-body g c =
    went_well c.in_ok-before.was
    (last (call_on c.in_ok-brk.ensures c.end.ensures)
    (body_closed c.args.body c.args.bare c.if-bare.false c.if-body.true))
