use Rattle.std.proofs.Common.{◌≡◌, ◌+◌, ◌-◌, ◌<◌, ◌++◌, ◌∷◌, [], Ok, false, refl, sym, arith}
use Rattle.std.proofs.lemmas.Result.{err_from_is_err_and}
use Rattle.lay_node.specs.Ahead.{more_items}
use Rattle.lay_node.specs.reader.Attr.{attributes}
use Rattle.lay_node.specs.reader.Vis.{visibility}
use Rattle.lay_code.specs.reader.Code.{expr_at, item_at}
use Rattle.lay_code.specs.reader.Exprs.{expr_by}
use Rattle.lay_code.specs.reader.Item.{items_by, kind_at}
use Rattle.lay_read_tokens.proofs.Left.{shorter}
use Rattle.lay_read_shared.proofs.Left.{item_left}
use Rattle.lay_read_tokens.proofs.Steps.{lost}
use Rattle.lay_read_tokens.proofs.Turns.{repeat-start, repeat-end, repeat-none, repeat-step}
use Rattle.lay_read_tokens.proofs.Holding.{holding_more}
use Rattle.lay_read_types.proofs.Steps.{found_by}
use Rattle.lay_read_shared.specs.Code.{code_within}
use Rattle.lay_read_begun.specs.Begun.{begun_at, deeper}
use Rattle.lay_read_begun.proofs.ItemBodies.{block_in, block_made, braced, items_in, items_made, kind_none, value_in, value_made, whole_made}
use Rattle.lay_read_code.proofs.Steps.{block_found, block_nowhere, expr_deeper, expr_nowhere, item_kept, item_no_attrs, item_no_kind, item_no_vis, item_nowhere}
use Rattle.lay_read_code.proofs.knot.+code.Goals as goal

-- ---- expressions

pub expr_ahead-returns-then-depth-eq0-clause-read : goal.expr_ahead-returns-then-depth-eq0-clause-read
expr_ahead-returns-then-depth-eq0-clause-read t c =
    let zero : c.args.depth ≡ 0 = omega arith in
    expr_nowhere c.args.place c.args.depth c.args.at.now zero

pub expr_ahead-returns-clause-read : goal.expr_ahead-returns-clause-read
expr_ahead-returns-clause-read t c =
    let ts = c.args.at.now in
    let depth = c.args.depth in
    found_by (expr_at c.args.place depth ts) (expr_by (code_within (depth - 1)) (depth - 1 + 1) c.args.place ts) c.expr_by.result
    c.expr_by.new.at (expr_deeper c.args.place depth ts (omega arith)) c.expr_by.ensures.read

-- ---- blocks

pub block_ahead-returns-then-depth-eq0-clause-read : goal.block_ahead-returns-then-depth-eq0-clause-read
block_ahead-returns-then-depth-eq0-clause-read t c =
    let zero : c.args.depth ≡ 0 = omega arith in
    block_nowhere c.args.depth c.args.at.now zero

pub block_ahead-returns-clause-read : goal.block_ahead-returns-clause-read
block_ahead-returns-clause-read t c =
    block_found c.args.depth c.args.at.now c.deeper_block.result c.deeper_block.new.at (omega arith) c.deeper_block.ensures.read

-- ---- items in a body

pub read_items-loop-alloc-init : goal.read_items-loop-alloc-init
unfolding items_by
read_items-loop-alloc-init t c = record {
  held = record {
    found = [];
    turn = repeat-start more_items (item_at c.args.site c.args.depth) c.args.at.now;
    holds =
        (sym c.new-items.ensures, refl);
  };
  within = omega arith;
}

pub read_items-returns-in_err-item-clause-read : goal.read_items-returns-in_err-item-clause-read
read_items-returns-in_err-item-clause-read t c =
    let within = item_at c.args.site c.args.depth in
    let whole = items_by within c.args.at.now in
    let held = c.loop-alloc.invariant.held in
    let p = err_from_is_err_and c.from_residual.result c.from_residual.ensures.1 in
    rw (p.1, p.2) (lost (within c.loop-alloc.at) whole c.in_err-item.field-0.0 c.in_err-item.ensures.read
    (repeat-none more_items within whole held.found c.loop-alloc.at held.turn (sym c.loop-alloc-test.ensures)))

pub read_items-loop-alloc-smaller : goal.read_items-loop-alloc-smaller
read_items-loop-alloc-smaller t c =
    let ts = c.loop-alloc.at in
    let item = c.in_ok-item.item in
    shorter ts (item_at c.args.site c.args.depth ts) (item.node, item.need) c.item_ahead.new.at (item_left c.args.depth c.args.site ts)
    c.in_ok-item.ensures.read

pub read_items-loop-alloc-preserved : goal.read_items-loop-alloc-preserved
read_items-loop-alloc-preserved t c =
    let ts = c.loop-alloc.at in
    let within = item_at c.args.site c.args.depth in
    let held = c.loop-alloc.invariant.held in
    let item = c.in_ok-item.item in
    let less = shorter ts (within ts) (item.node, item.need) c.item_ahead.new.at (item_left c.args.depth c.args.site ts)
    c.in_ok-item.ensures.read in
    record {
      held = record {
        found = held.found ++ (item.node, item.need) ∷ [];
        turn = repeat-step more_items within (items_by within c.args.at.now) held.found ts held.turn
            (item.node, item.need) c.item_ahead.new.at
            (sym c.loop-alloc-test.ensures) c.in_ok-item.ensures.read less;
        holds = rw (c.in_ok-keep.ensures.ok, c.greater-need.ensures)
            (holding_more c.loop-alloc.items c.loop-alloc.need held.found item.node item.need held.holds);
      };
      within = omega (arith, c.greater-need.ensures, c.in_ok-item.ensures.within, c.loop-alloc.invariant.within);
    }

pub read_items-returns-clause-read : goal.read_items-returns-clause-read
read_items-returns-clause-read t c =
    let within = item_at c.args.site c.args.depth in
    let held = c.loop-alloc.invariant.held in (
      held.found,
      repeat-end more_items within (items_by within c.args.at.now) held.found c.loop-alloc.at held.turn
          (sym c.loop-alloc-test.ensures),
      held.holds,
    )

-- ---- items

pub item_ahead-returns-then-depth-eq0-clause-read : goal.item_ahead-returns-then-depth-eq0-clause-read
item_ahead-returns-then-depth-eq0-clause-read t c =
    let zero : c.args.depth ≡ 0 = omega arith in
    item_nowhere c.args.site c.args.depth c.args.at.now zero

pub item_ahead-returns-in_err-attrs-clause-read : goal.item_ahead-returns-in_err-attrs-clause-read
item_ahead-returns-in_err-attrs-clause-read t c =
    let some : 0 < c.args.depth = omega arith in
    let p = err_from_is_err_and c.from_residual.result c.from_residual.ensures.1 in
    rw (p.1, p.2) (lost (attributes false c.args.at.now) (item_at c.args.site c.args.depth c.args.at.now) c.in_err-attrs.field-0.0
    c.in_err-attrs.ensures (item_no_attrs c.args.site c.args.depth c.args.at.now some))

pub item_ahead-returns-in_err-vis-clause-read : goal.item_ahead-returns-in_err-vis-clause-read
item_ahead-returns-in_err-vis-clause-read t c =
    let some : 0 < c.args.depth = omega arith in
    let p = err_from_is_err_and c.from_residual-in_err-vis.result c.from_residual-in_err-vis.ensures.1 in
    rw (p.1, p.2) (lost (visibility c.attrs_ahead.new.at) (item_at c.args.site c.args.depth c.args.at.now) c.in_err-vis.field-0.0
    c.in_err-vis.ensures (item_no_vis c.args.site c.args.depth c.args.at.now some c.in_ok-attrs.attrs c.attrs_ahead.new.at c.in_ok-attrs.ensures))

pub item_ahead-returns-in_err-kind-clause-read : goal.item_ahead-returns-in_err-kind-clause-read
item_ahead-returns-in_err-kind-clause-read t c =
    let some : 0 < c.args.depth = omega arith in
    let p = err_from_is_err_and c.from_residual-in_err-kind.result c.from_residual-in_err-kind.ensures.1 in
    rw (p.1, p.2) (lost (kind_at c.args.site (deeper (c.args.depth - 1)) c.vis_ahead.new.at) (item_at c.args.site c.args.depth c.args.at.now)
    c.in_err-kind.field-0.0 c.in_err-kind.ensures.read
    (item_no_kind c.args.site c.args.depth c.args.at.now some c.in_ok-attrs.attrs c.attrs_ahead.new.at c.in_ok-attrs.ensures
    c.in_ok-vis.vis c.vis_ahead.new.at c.in_ok-vis.ensures))

pub item_ahead-returns-clause-read : goal.item_ahead-returns-clause-read
item_ahead-returns-clause-read t c =
    let some : 0 < c.args.depth = omega arith in
    let kind = c.in_ok-kind.kind in
    item_kept c.args.site c.args.depth c.args.at.now some c.in_ok-attrs.attrs c.attrs_ahead.new.at c.in_ok-attrs.ensures
    c.in_ok-vis.vis c.vis_ahead.new.at c.in_ok-vis.ensures kind.node kind.need c.read_kind.new.at c.in_ok-kind.ensures.read
    c.may_have-keeps.result (rw c.get.ensures at c.may_have-keeps.ensures) c.kept_if.result c.kept_if.ensures

-- ---- what items are

pub read_kind-returns-in-Err-clause-read : goal.read_kind-returns-in-Err-clause-read
read_kind-returns-in-Err-clause-read t c =
    let within = deeper c.args.depth in
    lost (begun_at c.args.site within c.args.at.now) (kind_at c.args.site within c.args.at.now) c.in-Err.none c.in-Err.ensures.read
    (kind_none c.args.site within c.args.at.now)

pub read_kind-returns-in-None-clause-read : goal.read_kind-returns-in-None-clause-read
read_kind-returns-in-None-clause-read t c =
    whole_made c.args.site (deeper c.args.depth) c.args.at.now c.in-Ok.begun c.read_begun.new.at c.in-Ok.ensures.read c.items_kind.result
    (sym c.in-None.ensures) c.new.result c.new-in-None.result c.new.ensures c.new-in-None.ensures c.items_kind.ensures

pub read_kind-returns-in-None-clause-within : goal.read_kind-returns-in-None-clause-within
read_kind-returns-in-None-clause-within t c =
    items_in c.in-Ok.begun c.args.depth c.in-Ok.ensures.within c.items_kind.result
    (Ok (record { node = (c.new.result, c.new-in-None.result); need = 0 })) (omega arith) c.items_kind.ensures

pub read_kind-returns-in-Items-clause-read : goal.read_kind-returns-in-Items-clause-read
read_kind-returns-in-Items-clause-read t c =
    let body = c.read_body-body in
    items_made c.args.site (deeper c.args.depth) c.args.at.now c.in-Ok.begun c.read_begun.new.at c.in-Ok.ensures.read
    c.items_kind-in-Items.result c.in-Items.inner (sym c.in-Items.ensures) body.result body.new.at body.ensures.read
    c.items_kind-in-Items.ensures

pub read_kind-returns-in-Items-clause-within : goal.read_kind-returns-in-Items-clause-within
read_kind-returns-in-Items-clause-within t c =
    items_in c.in-Ok.begun c.args.depth c.in-Ok.ensures.within c.items_kind-in-Items.result c.read_body-body.result
    c.read_body-body.ensures.within c.items_kind-in-Items.ensures

pub read_kind-returns-in-Block-clause-read : goal.read_kind-returns-in-Block-clause-read
read_kind-returns-in-Block-clause-read t c =
    let body = c.read_block_if-body in
    block_made c.args.site (deeper c.args.depth) c.args.at.now c.in-Ok.begun c.read_begun.new.at c.in-Ok.ensures.read c.block_kind.result
    (sym c.in-Block.ensures) body.result body.new.at body.ensures.read c.block_kind.ensures

pub read_kind-returns-in-Block-clause-within : goal.read_kind-returns-in-Block-clause-within
read_kind-returns-in-Block-clause-within t c =
    block_in c.in-Ok.begun c.args.depth c.in-Ok.ensures.within c.block_kind.result c.args.site c.read_block_if-body.result
    c.read_block_if-body.ensures.within c.block_kind.ensures

pub read_kind-returns-in-Value-clause-read : goal.read_kind-returns-in-Value-clause-read
read_kind-returns-in-Value-clause-read t c =
    let value = c.read_value_if-value in
    value_made c.args.site (deeper c.args.depth) c.args.at.now c.in-Ok.begun c.read_begun.new.at c.in-Ok.ensures.read c.value_kind.result
    (sym c.in-Value.ensures) value.result value.new.at value.ensures.read c.value_kind.ensures

pub read_kind-returns-in-Value-clause-within : goal.read_kind-returns-in-Value-clause-within
read_kind-returns-in-Value-clause-within t c =
    value_in c.in-Ok.begun c.args.depth c.in-Ok.ensures.within c.value_kind.result c.args.site c.read_value_if-value.result
    c.read_value_if-value.ensures.within c.value_kind.ensures

-- ---- inner attributes and items in braces

pub read_body-returns-clause-read : goal.read_body-returns-clause-read
read_body-returns-clause-read t c =
    let items = c.in_ok-items.items in
    let held = c.in_ok-items.ensures.read in
    let keeps = c.takes_closer-keeps in
    braced (deeper c.args.depth) c.args.site c.args.at.now c.takes_opener.new.at c.attrs_ahead.new.at c.read_items.new.at
    c.in_ok-attrs.attrs held.0 items (sym c.if-not-takes_opener.ensures.found) c.if-not-takes_opener.ensures.passed
    c.in_ok-attrs.ensures held.1 held.2 keeps.result keeps.new.at keeps.ensures.found keeps.ensures.passed
    c.kept_if.result c.kept_if.ensures
