use Rattle.std.proofs.Common.{refl}
use Rattle.lay_stream.proofs.Calls.{last, call_on, leave_on}
use Rattle.lay_out_tokens.proofs.StreamParts.{closed_parts}
use Rattle.lay_out_tokens.proofs.tokens.close_group.Goals as goal

pub returns-in_err-end : goal.returns-in_err-end
returns-in_err-end g c =
    last (leave_on c.in_err-end.ensures c.from_residual.ensures.1) (closed_parts c.args.line c.args.delim _ _ refl refl)

pub returns-in_err-brk : goal.returns-in_err-brk
returns-in_err-brk g c =
    last (call_on c.in_ok-end.ensures (leave_on c.in_err-brk.ensures c.from_residual-in_err-brk.ensures.1))
    (closed_parts c.args.line c.args.delim _ _ refl c.closing_break.ensures)

pub returns-in_err-text : goal.returns-in_err-text
returns-in_err-text g c =
    last
    (call_on c.in_ok-end.ensures
    (call_on c.in_ok-brk.ensures (leave_on c.in_err-text.ensures c.from_residual-in_err-text.ensures.1)))
    (closed_parts c.args.line c.args.delim _ _ c.closing.ensures c.closing_break.ensures)

pub returns : goal.returns
returns g c =
    last (call_on c.in_ok-end.ensures (call_on c.in_ok-brk.ensures (call_on c.in_ok-text.ensures c.end-2.ensures)))
    (closed_parts c.args.line c.args.delim _ _ c.closing.ensures c.closing_break.ensures)
