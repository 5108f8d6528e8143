use Rattle.std.proofs.Common.{refl}
use Rattle.lay_stream.proofs.Calls.{last, call_on, leave_on}
use Rattle.lay_out_tokens.proofs.StreamParts.{opened_parts}
use Rattle.lay_out_tokens.proofs.tokens.open_group.Goals as goal

pub returns-in_err-begin : goal.returns-in_err-begin
returns-in_err-begin g c =
    last (leave_on c.in_err-begin.ensures c.from_residual.ensures.1) (opened_parts c.args.delim _ _ refl refl)

pub returns-in_err-text : goal.returns-in_err-text
returns-in_err-text g c =
    last (call_on c.in_ok-begin.ensures (leave_on c.in_err-text.ensures c.from_residual-in_err-text.ensures.1))
    (opened_parts c.args.delim _ _ c.opening.ensures refl)

pub returns-in_err-brk : goal.returns-in_err-brk
returns-in_err-brk g c =
    last
    (call_on c.in_ok-begin.ensures
    (call_on c.in_ok-text.ensures (leave_on c.in_err-brk.ensures c.from_residual-in_err-brk.ensures.1)))
    (opened_parts c.args.delim _ _ c.opening.ensures c.opening_break.ensures)

pub returns : goal.returns
returns g c =
    last (call_on c.in_ok-begin.ensures (call_on c.in_ok-text.ensures (call_on c.in_ok-brk.ensures c.begin-2.ensures)))
    (opened_parts c.args.delim _ _ c.opening.ensures c.opening_break.ensures)
