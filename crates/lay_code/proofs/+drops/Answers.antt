use Rattle.std.proofs.Common.{ℕ, ◌≡◌, length, ap, arith}
use Rattle.std.specs.Prelude.{max}
use Rattle.lay_code.specs.declared.blocks.Arm.{size-Arm}
use Rattle.lay_code.specs.declared.blocks.Branch.{size-Branch}
use Rattle.lay_code.specs.declared.blocks.Stmt.{size-Stmt}
use Rattle.lay_code.specs.declared.conditions.Link.{size-Link}
use Rattle.lay_code.specs.declared.exprs.Expr.{Expr, size-Expr}
use Rattle.lay_code.specs.declared.exprs.FieldExpr.{size-FieldExpr}
use Rattle.lay_code.specs.declared.exprs.Step.{size-Step}
use Rattle.lay_code.specs.declared.item.Item.{size-Item}
use Rattle.lay_code.specs.declared.operators.Op.{Op}
use Rattle.lay_code.proofs.Popped.{popped_under}
use Rattle.lay_code.proofs.+drops.Goals as goal

-- Each node out of a list is smaller than the list.
pub drops::discard_exprs-drop-requires : goal.drops::discard_exprs-drop-requires
drops::discard_exprs-drop-requires t c =
    let left = c.loop-node.left.items in
    let under = popped_under size-Expr c.args.nodes left c.pop.new.self.items (length left) c.pop.result
    c.in-Some.node c.loop-node.invariant c.pop.ensures.items c.in-Some.is in
    (omega (arith, under, c.decreases), tt)

pub drops::discard_fields-drop-requires : goal.drops::discard_fields-drop-requires
drops::discard_fields-drop-requires t c =
    let left = c.loop-node.left.items in
    let under = popped_under size-FieldExpr c.args.nodes left c.pop.new.self.items (length left) c.pop.result
    c.in-Some.node c.loop-node.invariant c.pop.ensures.items c.in-Some.is in
    (omega (arith, under, c.decreases), tt)

pub drops::discard_steps-drop-requires : goal.drops::discard_steps-drop-requires
drops::discard_steps-drop-requires t c =
    let left = c.loop-node.left.items in
    let under = popped_under size-Step c.args.nodes left c.pop.new.self.items (length left) c.pop.result
    c.in-Some.node c.loop-node.invariant c.pop.ensures.items c.in-Some.is in
    (omega (arith, under, c.decreases), tt)

pub drops::discard_branches-drop-requires : goal.drops::discard_branches-drop-requires
drops::discard_branches-drop-requires t c =
    let left = c.loop-node.left.items in
    let under = popped_under size-Branch c.args.nodes left c.pop.new.self.items (length left) c.pop.result
    c.in-Some.node c.loop-node.invariant c.pop.ensures.items c.in-Some.is in
    (omega (arith, under, c.decreases), tt)

pub drops::discard_links-drop-requires : goal.drops::discard_links-drop-requires
drops::discard_links-drop-requires t c =
    let left = c.loop-node.left.items in
    let under = popped_under size-Link c.args.nodes left c.pop.new.self.items (length left) c.pop.result
    c.in-Some.node c.loop-node.invariant c.pop.ensures.items c.in-Some.is in
    (omega (arith, under, c.decreases), tt)

pub drops::discard_arms-drop-requires : goal.drops::discard_arms-drop-requires
drops::discard_arms-drop-requires t c =
    let left = c.loop-node.left.items in
    let under = popped_under size-Arm c.args.nodes left c.pop.new.self.items (length left) c.pop.result
    c.in-Some.node c.loop-node.invariant c.pop.ensures.items c.in-Some.is in
    (omega (arith, under, c.decreases), tt)

pub drops::discard_stmts-drop-requires : goal.drops::discard_stmts-drop-requires
drops::discard_stmts-drop-requires t c =
    let left = c.loop-node.left.items in
    let under = popped_under size-Stmt c.args.nodes left c.pop.new.self.items (length left) c.pop.result
    c.in-Some.node c.loop-node.invariant c.pop.ensures.items c.in-Some.is in
    (omega (arith, under, c.decreases), tt)

pub drops::discard_items-drop-requires : goal.drops::discard_items-drop-requires
drops::discard_items-drop-requires t c =
    let left = c.loop-node.left.items in
    let under = popped_under size-Item c.args.nodes left c.pop.new.self.items (length left) c.pop.result
    c.in-Some.node c.loop-node.invariant c.pop.ensures.items c.in-Some.is in
    (omega (arith, under, c.decreases), tt)

pub drops::discard_operands-drop-requires : goal.drops::discard_operands-drop-requires
drops::discard_operands-drop-requires t c =
    let weight : Op × Expr → ℕ = λ p. max 0 (max (size-Expr p.1) 0) in
    let left = c.loop-node.left.items in
    let under = popped_under weight c.args.nodes left c.pop.new.self.items (length left) c.pop.result
    (c.in-Some.field-0-0, c.in-Some.node) c.loop-node.invariant c.pop.ensures.items c.in-Some.is in
    let held : size-Expr c.into_inner.result ≡ size-Expr c.in-Some.node = ap size-Expr c.into_inner.ensures in
    (omega (arith, under, held, c.decreases), tt)

pub drops::discard_targets-drop-requires : goal.drops::discard_targets-drop-requires
drops::discard_targets-drop-requires t c =
    let weight : Expr × Op → ℕ = λ p. max (size-Expr p.0) (max 0 0) in
    let left = c.loop-node.left.items in
    let under = popped_under weight c.args.nodes left c.pop.new.self.items (length left) c.pop.result
    (c.in-Some.node, c.in-Some.field-0-1) c.loop-node.invariant c.pop.ensures.items c.in-Some.is in
    let held : size-Expr c.into_inner.result ≡ size-Expr c.in-Some.node = ap size-Expr c.into_inner.ensures in
    (omega (arith, under, held, c.decreases), tt)
