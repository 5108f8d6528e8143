use Rattle.std.proofs.Common.{sym}
use Rattle.std.proofs.lemmas.Result.{err_from_is_err_and}
use Rattle.lay_node.specs.reader.Attr.{begins_attr, attribute, attributes}
use Rattle.lay_read_tokens.proofs.Left.{attribute_left, shorter}
use Rattle.lay_read_tokens.proofs.Steps.{lost}
use Rattle.lay_read_tokens.proofs.Turns.{repeat-start, repeat-end, repeat-none, repeat-step}
use Rattle.lay_read_tokens.proofs.attributes.attrs_ahead.Goals as goal

pub loop-alloc-init : goal.loop-alloc-init
unfolding attributes
loop-alloc-init c = rw c.new-attrs.ensures (repeat-start (begins_attr c.args.inner) (attribute c.args.inner) c.args.at.now)

pub returns-in_err-attr : goal.returns-in_err-attr
returns-in_err-attr c =
    let ts = c.loop-alloc.at in
    let whole = attributes c.args.inner c.args.at.now in
    let p = err_from_is_err_and c.from_residual.result c.from_residual.ensures.1 in
    rw (p.1, p.2) (lost (attribute c.args.inner ts) whole c.in_err-attr.field-0.0 c.in_err-attr.ensures
    (repeat-none (begins_attr c.args.inner) (attribute c.args.inner) whole c.loop-alloc.attrs ts
    c.loop-alloc.invariant (sym c.loop-alloc-test.ensures)))

pub loop-alloc-smaller : goal.loop-alloc-smaller
loop-alloc-smaller c =
    let ts = c.loop-alloc.at in
    shorter ts (attribute c.args.inner ts) c.in_ok-attr.attr c.attr_ahead.new.at (attribute_left c.args.inner ts)
    c.in_ok-attr.ensures

pub loop-alloc-preserved : goal.loop-alloc-preserved
loop-alloc-preserved c =
    let ts = c.loop-alloc.at in
    let one = attribute c.args.inner in
    let less = shorter ts (one ts) c.in_ok-attr.attr c.attr_ahead.new.at (attribute_left c.args.inner ts)
    c.in_ok-attr.ensures in
    rw c.in_ok-keep.ensures.ok (repeat-step (begins_attr c.args.inner) one
    (attributes c.args.inner c.args.at.now) c.loop-alloc.attrs ts
    c.loop-alloc.invariant c.in_ok-attr.attr c.attr_ahead.new.at (sym c.loop-alloc-test.ensures)
    c.in_ok-attr.ensures less)

pub returns : goal.returns
returns c =
    repeat-end (begins_attr c.args.inner) (attribute c.args.inner) (attributes c.args.inner c.args.at.now)
    c.loop-alloc.attrs c.loop-alloc.at
    c.loop-alloc.invariant (sym c.loop-alloc-test.ensures)
