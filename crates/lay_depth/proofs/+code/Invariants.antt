use Rattle.std.proofs.Common.{◌≡◌, map, take}
use Rattle.lay_code.specs.nodes.Code.{about_field_expr, form_of_item}
use Rattle.lay_depth.specs.nodes.Depths.{counted, greatest}
use Rattle.lay_depth.proofs.nodes_lemmas.Loops.{form_of}
use Rattle.lay_depth.specs.Parts.{arm_form, branch_form, link_form, operand_form, step_form, target_form}
use Rattle.lay_depth.proofs.BlockLemmas.{stmt_told}
use Rattle.lay_depth.proofs.ExprLemmas.{expr_told}
use Rattle.lay_depth.proofs.+code.Given as goal

-- the depth so far is that of the deepest so far
abbrev pub invariant-exprs::exprs_depth-loop-expr : goal.invariant-exprs::exprs_depth-loop-expr
invariant-exprs::exprs_depth-loop-expr l = l.most ≡ counted (greatest (map expr_told (take l.expr-index l.exprs)))

abbrev pub invariant-exprs::operands_depth-loop-operand : goal.invariant-exprs::operands_depth-loop-operand
invariant-exprs::operands_depth-loop-operand l = l.most ≡ counted (greatest (map operand_form (take l.operand-index l.operands)))

abbrev pub invariant-exprs::targets_depth-loop-target : goal.invariant-exprs::targets_depth-loop-target
invariant-exprs::targets_depth-loop-target l = l.most ≡ counted (greatest (map target_form (take l.target-index l.targets)))

abbrev pub invariant-exprs::fields_depth-loop-field : goal.invariant-exprs::fields_depth-loop-field
invariant-exprs::fields_depth-loop-field l = l.most ≡ counted (greatest (map (form_of about_field_expr) (take l.field-index l.fields)))

abbrev pub invariant-exprs::steps_depth-loop-step : goal.invariant-exprs::steps_depth-loop-step
invariant-exprs::steps_depth-loop-step l = l.most ≡ counted (greatest (map step_form (take l.step-index l.steps)))

abbrev pub invariant-blocks::block_depth-loop-stmt : goal.invariant-blocks::block_depth-loop-stmt
invariant-blocks::block_depth-loop-stmt l = l.most ≡ counted (greatest (map stmt_told (take l.stmt-index l.block.stmts)))

abbrev pub invariant-blocks::branches_depth-loop-branch : goal.invariant-blocks::branches_depth-loop-branch
invariant-blocks::branches_depth-loop-branch l = l.most ≡ counted (greatest (map branch_form (take l.branch-index l.branches)))

abbrev pub invariant-blocks::arms_depth-loop-arm : goal.invariant-blocks::arms_depth-loop-arm
invariant-blocks::arms_depth-loop-arm l = l.most ≡ counted (greatest (map arm_form (take l.arm-index l.arms)))

abbrev pub invariant-conditions::links_depth-loop-link : goal.invariant-conditions::links_depth-loop-link
invariant-conditions::links_depth-loop-link l = l.most ≡ counted (greatest (map link_form (take l.link-index l.links)))

abbrev pub invariant-items::items_depth-loop-item : goal.invariant-items::items_depth-loop-item
invariant-items::items_depth-loop-item l = l.most ≡ counted (greatest (map form_of_item (take l.item-index l.items)))
