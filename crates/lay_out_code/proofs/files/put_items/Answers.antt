use Rattle.std.proofs.Common.{List, map}
use Rattle.lay_stream.proofs.Calls.{last, call_on, stream_on, leave_on, stream_leave, no_call}
use Rattle.lay_form.specs.Notation.{lines}
use Rattle.lay_form.specs.Stream.{stream_of}
use Rattle.lay_code.specs.nodes.Code.{form_of_item}
use Rattle.lay_code.specs.declared.item.Item.{Item}
use Rattle.lay_out_tokens.proofs.StreamParts.{loop_step, loop_done}
use Rattle.lay_out_code.proofs.OutLemmas.{next_own_line}
use Rattle.lay_out_code.proofs.files.put_items.Goals as goal

pub returns-in_err-put_item : goal.returns-in_err-put_item
returns-in_err-put_item g c =
    let step = loop_step (λ (xs : List Item). stream_of
    (lines (map form_of_item xs))) c.args.items.now _ _ _ c.loop-item-test.true c.item-item.is
    (next_own_line (form_of_item _) (map form_of_item _)) in
    c.loop-item.invariant _ _ (last (stream_leave _ c.in_err-put_item.ensures c.from_residual.ensures.1) step)

pub returns-in_err-brk : goal.returns-in_err-brk
returns-in_err-brk g c =
    let step = loop_step (λ (xs : List Item). stream_of
    (lines (map form_of_item xs))) c.args.items.now _ _ _ c.loop-item-test.true c.item-item.is
    (next_own_line (form_of_item _) (map form_of_item _)) in
    c.loop-item.invariant _ _ (last
    (stream_on c.in_ok-put_item.ensures (leave_on c.in_err-brk.ensures c.from_residual-in_err-brk.ensures.1)) step)

pub loop-item-preserved : goal.loop-item-preserved
loop-item-preserved g c = λ r end h.
    let step = loop_step (λ (xs : List Item). stream_of
    (lines (map form_of_item xs))) c.args.items.now _ _ _ c.loop-item-test.true c.item-item.is
    (next_own_line (form_of_item _) (map form_of_item _)) in
    c.loop-item.invariant r end (last (stream_on c.in_ok-put_item.ensures (call_on c.in_ok-brk.ensures h)) step)

pub returns : goal.returns
returns g c =
    c.loop-item.invariant _ _ (last no_call
    (loop_done (λ (xs : List Item). stream_of
    (lines (map form_of_item xs))) c.args.items.now _ c.loop-item-test.false))
