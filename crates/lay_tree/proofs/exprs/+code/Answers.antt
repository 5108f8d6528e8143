use Rattle.std.proofs.Common.{rules, length, sym, ◌∙◌}
use Rattle.std.proofs.lemmas.Slice.Zip.{zip_turn}
use Rattle.lay_paren_defs.specs.Enclosed.{enclose_field, enclose_link, enclose_step, enclose_stmt}
use Rattle.lay_paren_defs.proofs.KeptLemmas.{body_enclosed, body_whole}
use Rattle.lay_paren_defs.proofs.ShellLemmas.{shell_arm_is, shell_block_is, shell_branch_is, shell_condition_is, shell_field_is, shell_is, shell_item_is, shell_kind_is, shell_link_is, shell_step_is, shell_stmt_is}
use Rattle.lay_tree.proofs.ListLemmas.{apply_whole, array_whole, assign_other, assign_whole, chain_whole, method_whole, tuple_whole}
use Rattle.lay_tree.proofs.PartLemmas.{part_other, part_whole, part_within, told, was, was_not}
use Rattle.lay_tree.proofs.StmtLemmas.{stmt_whole}
use Rattle.lay_tree.proofs.TurnLemmas.{turn_more, turn_stops}
use Rattle.lay_tree.proofs.exprs.+code.Goals as goal
use Rattle.lay_tree.proofs.exprs.+code.Goals.{same_stmt-else-same-4, same_stmt-then-same-4}

-- ---- parts and bodies

pub same_part-returns-then-not-on : goal.same_part-returns-then-not-on
same_part-returns-then-not-on g t c =
    part_whole g.X.Enclose.on c.args.expr.now c.args.other.now c.same_whole.result (search rules) c.same_whole.ensures

pub same_part-returns-in-Paren : goal.same_part-returns-in-Paren
same_part-returns-in-Paren g t c =
    part_within g.X.Enclose.on c.args.expr.now c.get.result.now c.args.other.now c.same_whole-in-Paren.result (search rules) (search rules)
    c.same_whole-in-Paren.ensures

pub same_part-returns-in_default : goal.same_part-returns-in_default
same_part-returns-in_default g t c =
    part_other g.X.Enclose.on c.args.expr.now c.args.other.now (search rules) c.in_default.not-Paren

pub same_body_part-returns-then-is_body_enclosed : goal.same_body_part-returns-then-is_body_enclosed
same_body_part-returns-then-is_body_enclosed g t c =
    told (sym (body_enclosed g.X.Enclose.on c.args.body.now (sym c.is_body_enclosed.ensures ∙ c.if-is_body_enclosed.true)))
    c.same_part.ensures

pub same_body_part-returns-else-is_body_enclosed : goal.same_body_part-returns-else-is_body_enclosed
same_body_part-returns-else-is_body_enclosed g t c =
    told (shell_is g.X.Enclose.on c.args.body.now
    ∙ sym (body_whole g.X.Enclose.on c.args.body.now (sym c.is_body_enclosed.ensures ∙ c.if-is_body_enclosed.false)))
    c.same_whole.ensures

-- ---- lists

pub same_fields-returns-then-not-same_field : goal.same_fields-returns-then-not-same_field
same_fields-returns-then-not-same_field g t c =
    turn_stops (enclose_field g.X.Enclose.on) c.args.fields.now c.args.others.now (length c.loop-field.yielded)
    (zip_turn c.args.fields.now c.args.others.now c.loop-field.yielded c.into_iter-field-iterator.result c.loop-field.field-iterator
    c.next.new.self c.next.result (search rules) (search rules) c.loop-field.yielded_by _ c.in-Some.is c.next.ensures.steps)
    (was_not c.if-not-same_field.true (shell_field_is g.X.Enclose.on c.in-Some.field.now) c.same_field.ensures)

pub same_fields-loop-field-preserved : goal.same_fields-loop-field-preserved
same_fields-loop-field-preserved g t c =
    turn_more (enclose_field g.X.Enclose.on) c.args.fields.now c.args.others.now c.loop-field.yielded _ c.loop-field.invariant
    (zip_turn c.args.fields.now c.args.others.now c.loop-field.yielded c.into_iter-field-iterator.result c.loop-field.field-iterator
    c.next.new.self c.next.result (search rules) (search rules) c.loop-field.yielded_by _ c.in-Some.is c.next.ensures.steps)
    (was c.if-not-same_field.false (shell_field_is g.X.Enclose.on c.in-Some.field.now) c.same_field.ensures)

pub same_steps-returns-then-not-same_step : goal.same_steps-returns-then-not-same_step
same_steps-returns-then-not-same_step g t c =
    turn_stops (enclose_step g.X.Enclose.on) c.args.steps.now c.args.others.now (length c.loop-step.yielded)
    (zip_turn c.args.steps.now c.args.others.now c.loop-step.yielded c.into_iter-step-iterator.result c.loop-step.step-iterator
    c.next.new.self c.next.result (search rules) (search rules) c.loop-step.yielded_by _ c.in-Some.is c.next.ensures.steps)
    (was_not c.if-not-same_step.true (shell_step_is g.X.Enclose.on c.in-Some.step.now) c.same_step.ensures)

pub same_steps-loop-step-preserved : goal.same_steps-loop-step-preserved
same_steps-loop-step-preserved g t c =
    turn_more (enclose_step g.X.Enclose.on) c.args.steps.now c.args.others.now c.loop-step.yielded _ c.loop-step.invariant
    (zip_turn c.args.steps.now c.args.others.now c.loop-step.yielded c.into_iter-step-iterator.result c.loop-step.step-iterator
    c.next.new.self c.next.result (search rules) (search rules) c.loop-step.yielded_by _ c.in-Some.is c.next.ensures.steps)
    (was c.if-not-same_step.false (shell_step_is g.X.Enclose.on c.in-Some.step.now) c.same_step.ensures)

pub same_stmts-returns-then-not-same_stmt : goal.same_stmts-returns-then-not-same_stmt
same_stmts-returns-then-not-same_stmt g t c =
    turn_stops (enclose_stmt g.X.Enclose.on) c.args.stmts.now c.args.others.now (length c.loop-stmt.yielded)
    (zip_turn c.args.stmts.now c.args.others.now c.loop-stmt.yielded c.into_iter-stmt-iterator.result c.loop-stmt.stmt-iterator
    c.next.new.self c.next.result (search rules) (search rules) c.loop-stmt.yielded_by _ c.in-Some.is c.next.ensures.steps)
    (was_not c.if-not-same_stmt.true (shell_stmt_is g.X.Enclose.on c.in-Some.stmt.now) c.same_stmt.ensures)

pub same_stmts-loop-stmt-preserved : goal.same_stmts-loop-stmt-preserved
same_stmts-loop-stmt-preserved g t c =
    turn_more (enclose_stmt g.X.Enclose.on) c.args.stmts.now c.args.others.now c.loop-stmt.yielded _ c.loop-stmt.invariant
    (zip_turn c.args.stmts.now c.args.others.now c.loop-stmt.yielded c.into_iter-stmt-iterator.result c.loop-stmt.stmt-iterator
    c.next.new.self c.next.result (search rules) (search rules) c.loop-stmt.yielded_by _ c.in-Some.is c.next.ensures.steps)
    (was c.if-not-same_stmt.false (shell_stmt_is g.X.Enclose.on c.in-Some.stmt.now) c.same_stmt.ensures)

pub same_links-returns-then-not-same_link : goal.same_links-returns-then-not-same_link
same_links-returns-then-not-same_link g t c =
    turn_stops (enclose_link g.X.Enclose.on) c.args.links.now c.args.others.now (length c.loop-link.yielded)
    (zip_turn c.args.links.now c.args.others.now c.loop-link.yielded c.into_iter-link-iterator.result c.loop-link.link-iterator
    c.next.new.self c.next.result (search rules) (search rules) c.loop-link.yielded_by _ c.in-Some.is c.next.ensures.steps)
    (was_not c.if-not-same_link.true (shell_link_is g.X.Enclose.on c.in-Some.link.now) c.same_link.ensures)

pub same_links-loop-link-preserved : goal.same_links-loop-link-preserved
same_links-loop-link-preserved g t c =
    turn_more (enclose_link g.X.Enclose.on) c.args.links.now c.args.others.now c.loop-link.yielded _ c.loop-link.invariant
    (zip_turn c.args.links.now c.args.others.now c.loop-link.yielded c.into_iter-link-iterator.result c.loop-link.link-iterator
    c.next.new.self c.next.result (search rules) (search rules) c.loop-link.yielded_by _ c.in-Some.is c.next.ensures.steps)
    (was c.if-not-same_link.false (shell_link_is g.X.Enclose.on c.in-Some.link.now) c.same_link.ensures)

-- ---- nodes of one kind

pub same_block-returns-then-same : goal.same_block-returns-then-same
same_block-returns-then-same g t c = told (shell_block_is g.X.Enclose.on c.args.block.now) (search rules)

pub same_block-returns-else-same : goal.same_block-returns-else-same
same_block-returns-else-same g t c = told (shell_block_is g.X.Enclose.on c.args.block.now) (search rules)

pub same_branch-returns-then-same_condition : goal.same_branch-returns-then-same_condition
same_branch-returns-then-same_condition g t c = told (shell_branch_is g.X.Enclose.on c.args.branch.now) (search rules)

pub same_branch-returns-else-same_condition : goal.same_branch-returns-else-same_condition
same_branch-returns-else-same_condition g t c = told (shell_branch_is g.X.Enclose.on c.args.branch.now) (search rules)

pub same_condition-returns : goal.same_condition-returns
same_condition-returns g t c = told (shell_condition_is g.X.Enclose.on c.args.condition.now) (search rules)

pub same_arm-returns-then-same_operand : goal.same_arm-returns-then-same_operand
same_arm-returns-then-same_operand g t c = told (shell_arm_is g.X.Enclose.on c.args.arm.now) (search rules)

pub same_arm-returns-else-same_operand : goal.same_arm-returns-else-same_operand
same_arm-returns-else-same_operand g t c = told (shell_arm_is g.X.Enclose.on c.args.arm.now) (search rules)

pub same_item-returns-else-same-2 : goal.same_item-returns-else-same-2
same_item-returns-else-same-2 g t c = told (shell_item_is g.X.Enclose.on c.args.item.now) (search rules)

pub same_item-returns-then-same-2 : goal.same_item-returns-then-same-2
same_item-returns-then-same-2 g t c = told (shell_item_is g.X.Enclose.on c.args.item.now) (search (rules, shell_kind_is))

-- ---- a statement that is an expression

pub same_stmt-returns-then-ended-other_ended : goal.same_stmt-returns-then-ended-other_ended
same_stmt-returns-then-ended-other_ended g t c =
    stmt_whole g.X.Enclose.on c.args.stmt.now c.args.other.now c.in-Expr.attrs c.in-Expr-other.other_attrs c.in-Expr.expr
    c.in-Expr-other.other_expr c.in-Expr.ended c.in-Expr-other.other_ended c.same_whole.result c.in-Expr.is c.in-Expr-other.is
    (elim c.if-same-4.branch [ same_stmt-then-same-4 w ↦ (search rules, search rules) | same_stmt-else-same-4 w ↦ search rules ])
    (told (shell_is g.X.Enclose.on c.in-Expr.expr) (search rules))

-- ---- nodes with lists of parts

pub same_whole-returns-in-Tuple-other : goal.same_whole-returns-in-Tuple-other
same_whole-returns-in-Tuple-other g t c =
    tuple_whole g.X.Enclose.on c.args.expr.now c.args.other.now c.in-Tuple.elements c.in-Tuple-other.given c.same_parts.result
    c.in-Tuple.is c.in-Tuple-other.is (search rules)

pub same_whole-returns-in-Array-other : goal.same_whole-returns-in-Array-other
same_whole-returns-in-Array-other g t c =
    array_whole g.X.Enclose.on c.args.expr.now c.args.other.now c.in-Array.elements c.in-Array-other.given c.same_parts-in-Array-other.result
    c.in-Array.is c.in-Array-other.is (search rules)

pub same_whole-returns-then-same_part-2 : goal.same_whole-returns-then-same_part-2
same_whole-returns-then-same_part-2 g t c =
    chain_whole g.X.Enclose.on c.args.expr.now c.args.other.now c.in-Chain.first c.in-Chain-other.other_first c.in-Chain.rest
    c.in-Chain-other.other_rest c.same_operands.result c.in-Chain.is c.in-Chain-other.is (search rules) (search rules)

pub same_whole-returns-then-same_targets : goal.same_whole-returns-then-same_targets
same_whole-returns-then-same_targets g t c =
    assign_whole g.X.Enclose.on c.args.expr.now c.args.other.now c.in-Assign.value c.in-Assign-other.other_value c.in-Assign.targets
    c.in-Assign-other.other_targets c.same_part-then-same_targets.result c.in-Assign.is c.in-Assign-other.is (search rules) (search rules)

pub same_whole-returns-else-same_targets : goal.same_whole-returns-else-same_targets
same_whole-returns-else-same_targets g t c =
    assign_other g.X.Enclose.on c.args.expr.now c.args.other.now c.in-Assign.value c.in-Assign-other.other_value c.in-Assign.targets
    c.in-Assign-other.other_targets c.same_targets.result c.in-Assign.is c.in-Assign-other.is c.if-same_targets.false (search rules)

pub same_step-returns-then-same-2 : goal.same_step-returns-then-same-2
same_step-returns-then-same-2 g t c =
    method_whole g.X.Enclose.on c.args.step.now c.args.other.now c.in-Method.name c.in-Method-other.other_name c.in-Method.generics
    c.in-Method-other.other_generics c.in-Method.args c.in-Method-other.other_args c.same_parts.result c.in-Method.is c.in-Method-other.is
    (search rules) (search rules) (search rules)

pub same_step-returns-in-Apply-other : goal.same_step-returns-in-Apply-other
same_step-returns-in-Apply-other g t c =
    apply_whole g.X.Enclose.on c.args.step.now c.args.other.now c.in-Apply.args c.in-Apply-other.given c.same_parts-in-Apply-other.result
    c.in-Apply.is c.in-Apply-other.is (search rules)
