use Rattle.std.proofs.Common.{◌≡◌, ◌≤◌, ℕ, ◌++◌, map, take, drop, length, slice_index_or}
use Rattle.lay_code.specs.nodes.Places.{begins}
use Rattle.lay_code.specs.declared.exprs.Expr.{Expr}
use Rattle.lay_code.specs.declared.operators.Op.{Op}
use Rattle.lay_paren.specs.InPlace.{arm_least, branch_least, exprs_least, field_least, is_single, item_least, step_least, stmt_least}
use Rattle.lay_paren.proofs.Turning.{first_at, link_put, operand_put, target_put, turned}
use Rattle.lay_paren.proofs.+code.Given as goal

-- ---- each item by itself: those before are put, and those after are as they were

abbrev pub invariant-exprs::place_each_expr-loop-expr : goal.invariant-exprs::place_each_expr-loop-expr
invariant-exprs::place_each_expr-loop-expr l =
    goal.unvisited-exprs::place_each_expr-loop-expr l × (l.exprs ≡ exprs_least (take l.expr-index l.fn.exprs) ++ drop l.expr-index l.fn.exprs)

abbrev pub invariant-exprs::place_each_field-loop-field : goal.invariant-exprs::place_each_field-loop-field
invariant-exprs::place_each_field-loop-field l =
    goal.unvisited-exprs::place_each_field-loop-field l
    × (l.fields ≡ map field_least (take l.field-index l.fn.fields) ++ drop l.field-index l.fn.fields)

abbrev pub invariant-exprs::place_each_step-loop-step : goal.invariant-exprs::place_each_step-loop-step
invariant-exprs::place_each_step-loop-step l =
    goal.unvisited-exprs::place_each_step-loop-step l
    × (l.steps ≡ map step_least (take l.step-index l.fn.steps) ++ drop l.step-index l.fn.steps)

abbrev pub invariant-blocks::place_each_stmt-loop-stmt : goal.invariant-blocks::place_each_stmt-loop-stmt
invariant-blocks::place_each_stmt-loop-stmt l =
    goal.unvisited-blocks::place_each_stmt-loop-stmt l
    × (l.stmts ≡ map stmt_least (take l.stmt-index l.fn.stmts) ++ drop l.stmt-index l.fn.stmts)

abbrev pub invariant-blocks::place_each_branch-loop-branch : goal.invariant-blocks::place_each_branch-loop-branch
invariant-blocks::place_each_branch-loop-branch l =
    goal.unvisited-blocks::place_each_branch-loop-branch l
    × (l.branches ≡ map branch_least (take l.branch-index l.fn.branches) ++ drop l.branch-index l.fn.branches)

abbrev pub invariant-blocks::place_each_arm-loop-arm : goal.invariant-blocks::place_each_arm-loop-arm
invariant-blocks::place_each_arm-loop-arm l =
    goal.unvisited-blocks::place_each_arm-loop-arm l × (l.arms ≡ map arm_least (take l.arm-index l.fn.arms) ++ drop l.arm-index l.fn.arms)

abbrev pub invariant-items::place_each_item-loop-item : goal.invariant-items::place_each_item-loop-item
invariant-items::place_each_item-loop-item l =
    goal.unvisited-items::place_each_item-loop-item l
    × (l.items ≡ map item_least (take l.item-index l.fn.items) ++ drop l.item-index l.fn.items)

-- ---- each by its place

abbrev pub invariant-exprs::place_each_operand-loop-index : goal.invariant-exprs::place_each_operand-loop-index
invariant-exprs::place_each_operand-loop-index l =
    (length l.operands ≡ length l.fn.operands
    × ((k : ℕ) (d : Op × Expr) → l.index ≤ k → slice_index_or l.operands k d ≡ slice_index_or l.fn.operands k d))
    × (l.operands ≡ turned (operand_put l.fn.place l.fn.level l.fn.operands) l.index l.fn.operands)

abbrev pub invariant-exprs::place_each_target-loop-target : goal.invariant-exprs::place_each_target-loop-target
invariant-exprs::place_each_target-loop-target l =
    goal.unvisited-exprs::place_each_target-loop-target l
    × (l.targets ≡ turned (target_put l.fn.place (begins l.fn.place.start)) l.target-index l.fn.targets)
    × (l.first ≡ first_at (begins l.fn.place.start) l.target-index)

abbrev pub invariant-conditions::place_each_link-loop-index : goal.invariant-conditions::place_each_link-loop-index
invariant-conditions::place_each_link-loop-index l =
    goal.unvisited-conditions::place_each_link-loop-index l
    × (l.links ≡ turned (link_put (is_single l.fn.links) l.fn.links) l.index l.fn.links)
