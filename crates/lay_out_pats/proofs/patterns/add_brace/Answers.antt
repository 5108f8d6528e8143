use Rattle.lay_stream.proofs.Calls.{last, call_on, leave_on}
use Rattle.lay_out_types.proofs.Adding.{other, went_well}
use Rattle.lay_out_pats.proofs.FieldLemmas.{chosen}
use Rattle.lay_out_pats.proofs.patterns.add_brace.Goals as goal

pub returns-in_err-text : goal.returns-in_err-text
returns-in_err-text g c =
    went_well c.in_ok-before.was
    (last (leave_on c.in_err-text.ensures c.from_residual-in_err-text.ensures.1)
    (chosen _ _ c.args.first c.if-first.true))

pub returns-in_err-begin : goal.returns-in_err-begin
returns-in_err-begin g c =
    went_well c.in_ok-before.was
    (last (call_on c.in_ok-text.ensures (leave_on c.in_err-begin.ensures c.from_residual-in_err-begin.ensures.1))
    (chosen _ _ c.args.first c.if-first.true))

pub returns-then-first : goal.returns-then-first
returns-then-first g c =
    went_well c.in_ok-before.was
    (last (call_on c.in_ok-text.ensures (call_on c.in_ok-begin.ensures c.brk.ensures))
    (chosen _ _ c.args.first c.if-first.true))

pub returns-in_err-text-2 : goal.returns-in_err-text-2
returns-in_err-text-2 g c =
    went_well c.in_ok-before.was
    (last (leave_on c.in_err-text-2.ensures c.from_residual-in_err-text-2.ensures.1)
    (other _ _ c.args.first c.if-first.false))

pub returns : goal.returns
returns g c =
    went_well c.in_ok-before.was
    (last (call_on c.in_ok-text-2.ensures c.brk-2.ensures) (other _ _ c.args.first c.if-first.false))
