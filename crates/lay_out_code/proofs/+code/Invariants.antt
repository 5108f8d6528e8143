use Rattle.std.proofs.Common.{[], false, drop, map, take, ◌∷◌}
use Rattle.lay_form.specs.Form.{Done}
use Rattle.lay_form.specs.Stream.{fed, stream_of}
use Rattle.lay_code.specs.nodes.Code.{about_step, form_of_item}
use Rattle.lay_code.specs.nodes.Exprs.{operands_form, steps_form, targets_form}
use Rattle.lay_code.specs.declared.blocks.Arm.{Arm}
use Rattle.lay_code.specs.declared.blocks.Branch.{Branch}
use Rattle.lay_code.specs.declared.blocks.Stmt.{Stmt}
use Rattle.lay_code.specs.declared.conditions.Link.{Link}
use Rattle.lay_code.specs.declared.exprs.Expr.{Expr}
use Rattle.lay_code.specs.declared.exprs.FieldExpr.{FieldExpr}
use Rattle.lay_code.specs.declared.item.Item.{Item}
use Rattle.lay_paren_defs.specs.Enclosed.{enclose_arm, enclose_branch, enclose_field, enclose_item, enclose_link, enclose_step, enclose_stmt, operand_part, part, target_part}
use Rattle.lay_out_types.specs.Calls.{Adds}
use Rattle.lay_out_pats.specs.PatternRows.{braces_opened}
use Rattle.lay_out_types.specs.Rows.{comma_between, list_opened, row}
use Rattle.lay_out_exprs.specs.Parts.{before_op, behind_op, expr_told, field_told}
use Rattle.lay_out_exprs.proofs.Turns.{SoFar}
use Rattle.lay_out_heads.specs.FieldRows.{line}
use Rattle.lay_out_exprs.specs.Blocks.{else_between, link_between}
use Rattle.lay_out_code.specs.Parts.{arm_told, branch_told, link_told, stmt_told}
use Rattle.lay_layout.specs.declared.layout.Tok.TheVariants as tok
use Rattle.lay_out_code.proofs.+code.Given as goal

-- the elements so far are put
abbrev pub invariant-exprs::add_exprs-loop-index : goal.invariant-exprs::add_exprs-loop-index
invariant-exprs::add_exprs-loop-index g l =
    Adds g.E.Emit.meanings l.fn.before l.fn.out
    (row (list_opened l.opener) comma_between (map (λ (x : Expr). expr_told (part g.X.Enclose.on x)) (take l.index l.exprs))) l.done l.out

abbrev pub invariant-operands::add_fields-loop-index : goal.invariant-operands::add_fields-loop-index
invariant-operands::add_fields-loop-index g l =
    Adds g.E.Emit.meanings l.fn.before l.fn.out
    (row braces_opened comma_between (map (λ (x : FieldExpr). field_told (enclose_field g.X.Enclose.on x)) (take l.index l.fields))) l.done l.out

-- what is put so far, and what is left, are all
abbrev pub invariant-operands::add_operands-loop-op : goal.invariant-operands::add_operands-loop-op
invariant-operands::add_operands-loop-op g l =
    SoFar g.E.Emit.meanings l.fn.before l.fn.out (stream_of (operands_form (map behind_op (map (operand_part g.X.Enclose.on) (drop l.op-index l.operands)))))
    (stream_of (operands_form (map behind_op (map (operand_part g.X.Enclose.on) l.operands)))) l.done l.out

abbrev pub invariant-operands::add_targets-loop-target : goal.invariant-operands::add_targets-loop-target
invariant-operands::add_targets-loop-target g l =
    SoFar g.E.Emit.meanings l.fn.before l.fn.out
    (fed l.point (targets_form (map before_op (map (target_part g.X.Enclose.on) (drop l.target-index l.targets))) Done) [])
    (fed l.fn.point (targets_form (map before_op (map (target_part g.X.Enclose.on) l.targets)) Done) []) l.done l.out

abbrev pub invariant-operands::add_steps-loop-step : goal.invariant-operands::add_steps-loop-step
invariant-operands::add_steps-loop-step g l =
    SoFar g.E.Emit.meanings l.fn.before l.fn.out
    (fed l.point (steps_form l.several l.behind (map about_step (map (enclose_step g.X.Enclose.on) (drop l.step-index l.steps)))) [])
    (fed l.fn.point (steps_form l.several false (map about_step (map (enclose_step g.X.Enclose.on) l.steps))) []) l.done l.out

-- the items so far are put
abbrev pub invariant-items::add_lines-loop-item : goal.invariant-items::add_lines-loop-item
invariant-items::add_lines-loop-item g l =
    Adds g.E.Emit.meanings l.fn.before l.fn.out (row line line
    (map (λ (x : Item). form_of_item (enclose_item g.X.Enclose.on x)) (take l.item-index l.items))) l.done l.out

-- the statements, the links, the branches and the arms so far are put
abbrev pub invariant-blocks::add_stmts-loop-stmt : goal.invariant-blocks::add_stmts-loop-stmt
invariant-blocks::add_stmts-loop-stmt g l =
    Adds g.E.Emit.meanings l.fn.before l.fn.out
    (row (tok.Break l.lead ∷ []) (tok.Break l.lead ∷ []) (map (λ (x : Stmt). stmt_told (enclose_stmt g.X.Enclose.on x)) (take l.stmt-index l.stmts))) l.done l.out

abbrev pub invariant-conditions::add_link_row-loop-index : goal.invariant-conditions::add_link_row-loop-index
invariant-conditions::add_link_row-loop-index g l =
    Adds g.E.Emit.meanings l.fn.before l.fn.out (row [] link_between
    (map (λ (x : Link). link_told (enclose_link g.X.Enclose.on x)) (take l.index l.links))) l.done l.out

abbrev pub invariant-branches::add_branches-loop-index : goal.invariant-branches::add_branches-loop-index
invariant-branches::add_branches-loop-index g l =
    Adds g.E.Emit.meanings l.fn.before l.fn.out
    (row [] else_between (map (λ (x : Branch). branch_told (enclose_branch g.X.Enclose.on x)) (take l.index l.branches))) l.done l.out

abbrev pub invariant-branches::add_arm_lines-loop-arm : goal.invariant-branches::add_arm_lines-loop-arm
invariant-branches::add_arm_lines-loop-arm g l =
    Adds g.E.Emit.meanings l.fn.before l.fn.out (row line line
    (map (λ (x : Arm). arm_told (enclose_arm g.X.Enclose.on x)) (take l.arm-index l.arms))) l.done l.out
