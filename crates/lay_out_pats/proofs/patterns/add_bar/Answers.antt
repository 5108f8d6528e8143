use Rattle.lay_stream.proofs.Calls.{last, call_on, leave_on}
use Rattle.lay_out_types.proofs.Adding.{other, went_well}
use Rattle.lay_out_pats.proofs.patterns.add_bar.Goals as goal

pub returns-in_err-brk : goal.returns-in_err-brk
returns-in_err-brk g c =
    went_well c.in_ok-before.was
    (last (leave_on c.in_err-brk.ensures c.from_residual-in_err-brk.ensures.1)
    (other _ _ c.args.first c.if-first.false))

pub returns : goal.returns
returns g c =
    went_well c.in_ok-before.was
    (last (call_on c.in_ok-brk.ensures c.text.ensures) (other _ _ c.args.first c.if-first.false))
