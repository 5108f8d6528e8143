use Rattle.std.proofs.Common.{rules, ◌≡◌, ◌≤◌, ◌+◌, suc, drop, length, slice_index_or, ap, ◌∙◌, arith}
use Rattle.std.specs.Prelude.{eqb, ltb}
use Rattle.lay_code.specs.nodes.Places.{begins}
use Rattle.lay_paren.specs.InPlace.{arm_least, branch_least, field_least, free_least, is_single, item_least, link_least, operand_before, step_least, stmt_least}
use Rattle.lay_paren_defs.specs.Traversal.{operand_at}
use Rattle.lay_paren.proofs.Becoming.{kind_stays}
use Rattle.lay_paren.proofs.Turning.{before_end, before_next, later_at, link_put, link_told, links_done, operand_put, operand_told, operands_done, target_put, target_told, targets_done, turn, turn_at}
use Rattle.lay_paren.proofs.+code.Goals as goal
use Rattle.lay_paren.proofs.+code.Goals.{exprs::place_each_operand-then-index-count, exprs::place_each_operand-else-index-count}

-- ---- each item by itself

pub exprs::place_each_expr-loop-expr-preserved : goal.exprs::place_each_expr-loop-expr-preserved
exprs::place_each_expr-loop-expr-preserved t c = (
  search rules,
  turn free_least c.args.exprs.now c.loop-expr.exprs c.loop-expr.expr-index c.place_expr.new.expr c.expr-item.result c.loop-expr.invariant.1
      (search rules) (search rules),
)

pub exprs::place_each_field-loop-field-preserved : goal.exprs::place_each_field-loop-field-preserved
exprs::place_each_field-loop-field-preserved t c = (
  search rules,
  turn field_least c.args.fields.now c.loop-field.fields c.loop-field.field-index c.place_field.new.field c.field-item.result c.loop-field.invariant.1
      (search rules) (search rules),
)

pub exprs::place_each_step-loop-step-preserved : goal.exprs::place_each_step-loop-step-preserved
exprs::place_each_step-loop-step-preserved t c = (
  search rules,
  turn step_least c.args.steps.now c.loop-step.steps c.loop-step.step-index c.place_step.new.step c.step-item.result c.loop-step.invariant.1
      (search rules) (search rules),
)

pub blocks::place_each_stmt-loop-stmt-preserved : goal.blocks::place_each_stmt-loop-stmt-preserved
blocks::place_each_stmt-loop-stmt-preserved t c = (
  search rules,
  turn stmt_least c.args.stmts.now c.loop-stmt.stmts c.loop-stmt.stmt-index c.place_stmt.new.stmt c.stmt-item.result c.loop-stmt.invariant.1
      (search rules) (search rules),
)

pub blocks::place_each_branch-loop-branch-preserved : goal.blocks::place_each_branch-loop-branch-preserved
blocks::place_each_branch-loop-branch-preserved t c = (
  search rules,
  turn branch_least c.args.branches.now c.loop-branch.branches c.loop-branch.branch-index c.place_branch.new.branch c.branch-item.result c.loop-branch.invariant.1
      (search rules) (search rules),
)

pub blocks::place_each_arm-loop-arm-preserved : goal.blocks::place_each_arm-loop-arm-preserved
blocks::place_each_arm-loop-arm-preserved t c = (
  search rules,
  turn arm_least c.args.arms.now c.loop-arm.arms c.loop-arm.arm-index c.place_arm.new.arm c.arm-item.result c.loop-arm.invariant.1
      (search rules) (search rules),
)

pub items::place_each_item-loop-item-preserved : goal.items::place_each_item-loop-item-preserved
items::place_each_item-loop-item-preserved t c = (
  search rules,
  turn item_least c.args.items.now c.loop-item.items c.loop-item.item-index c.place_item.new.item c.item-item.result c.loop-item.invariant.1
      (search rules) (search rules),
)

-- ---- each by its place

pub exprs::place_each_operand-returns : goal.exprs::place_each_operand-returns
exprs::place_each_operand-returns t c =
    let end : length c.args.operands.now ≤ c.loop-index.index = omega arith in
    operands_done c.args.place c.args.level c.args.operands.now c.loop-index.operands c.loop-index.index c.loop-index.invariant.1 end

pub exprs::place_each_target-returns : goal.exprs::place_each_target-returns
exprs::place_each_target-returns t c =
    let end : length c.args.targets.now ≤ c.loop-target.target-index = omega arith in
    targets_done c.args.place (begins c.args.place.start) c.args.targets.now c.loop-target.targets c.loop-target.target-index
    c.loop-target.invariant.1 end

pub conditions::place_each_link-returns : goal.conditions::place_each_link-returns
conditions::place_each_link-returns t c =
    let end : length c.args.links.now ≤ c.loop-index.index = omega arith in
    links_done c.args.links.now c.loop-index.links c.loop-index.index c.loop-index.invariant.1 end

pub conditions::place_each_link-loop-index-preserved : goal.conditions::place_each_link-loop-index-preserved
conditions::place_each_link-loop-index-preserved t c =
    let xs = c.args.links.now in
    let i = c.loop-index.index in
    let told : c.place_link.new.link ≡ link_least (eqb (length xs) 1) (ltb (i + 1) (length xs)) (slice_index_or c.loop-index.links i c.index-links-index.result)
    = c.in_ok-place_link.ensures in (
      search rules,
      turn_at (link_put (is_single xs) xs) xs c.loop-index.links i c.place_link.new.link c.index-links-index.result c.loop-index.invariant.1
          (search rules) (link_told xs i _ c.place_link.new.link told),
    )

pub exprs::place_each_operand-loop-index-preserved : goal.exprs::place_each_operand-loop-index-preserved
exprs::place_each_operand-loop-index-preserved t c =
    let p = c.args.place in
    let level = c.args.level in
    let xs = c.args.operands.now in
    let i = c.loop-index.index in
    let so_far = c.loop-index.invariant.1 in
    let d = c.index-operands-index-in-loop-index.result in
    let next_is : operand_before p level c.if-index-count.next ≡ operand_at p level (drop (suc i) xs) = elim c.if-index-count.branch [
      | exprs::place_each_operand-then-index-count w ↦
          ap (operand_before p level) w.next-is
          ∙ before_next p level (operand_put p level xs) xs c.loop-index.operands i w.index-operands-index.result so_far w.if-index-count.true
      | exprs::place_each_operand-else-index-count w ↦
          ap (operand_before p level) w.next-is ∙ before_end p level xs i w.if-index-count.false
    ] in (
      search rules,
      turn_at (operand_put p level xs) xs c.loop-index.operands i _ d so_far (search rules)
          (operand_told p level xs i (slice_index_or c.loop-index.operands i d) c.get_mut.result.now c.place_expr.new.expr c.operand_place-at.result
          c.get_mut.ensures.value (c.operand_place-at.ensures ∙ next_is) c.in_ok-place_expr.ensures),
    )

pub exprs::place_each_target-loop-target-preserved : goal.exprs::place_each_target-loop-target-preserved
exprs::place_each_target-loop-target-preserved t c =
    let p = c.args.place in
    let i = c.loop-target.target-index in
    let d = c.targets-item.result in (
      search rules,
      turn_at (target_put p (begins p.start)) c.args.targets.now c.loop-target.targets i _ d c.loop-target.invariant.1 (search rules)
          (target_told p (begins p.start) i (slice_index_or c.loop-target.targets i d) c.get_mut.result.now c.place_expr.new.expr c.before_op-at.result
          c.loop-target.first c.get_mut.ensures.value c.before_op-at.ensures c.loop-target.invariant.2 c.in_ok-place_expr.ensures),
      later_at (begins p.start) i,
    )

-- ---- items

pub items::place_kind-returns-in_default : goal.items::place_kind-returns-in_default
items::place_kind-returns-in_default t c =
    kind_stays c.args.kind.now (record {
      not_module = c.in_default.not-Module;
      not_function = c.in_default.not-Function;
      not_value = c.in_default.not-Value;
      not_trait = c.in_default.not-Trait;
      not_impl = c.in_default.not-Impl;
      not_foreign = c.in_default.not-Foreign;
    })
