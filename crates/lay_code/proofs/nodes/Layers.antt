-- The facts about a node whose nodes within it are trees, by its layer.
use Rattle.std.proofs.Common.{◌≡◌}
use Rattle.lay_node.specs.nodes.Facts.{Facts}
use Rattle.lay_code.specs.nodes.Blocks.{arm_facts, block_facts, branch_facts, stmt_facts}
use Rattle.lay_code.specs.nodes.Code.{about_arm, about_block, about_branch, about_condition, about_expr, about_field_expr, about_link, about_step, about_stmt, told_of_item, told_of_kind}
use Rattle.lay_code.specs.nodes.CodeFacts.{ArmFacts, BlockFacts, BranchFacts, ConditionFacts, ItemFacts, KindFacts, LinkFacts, StmtFacts}
use Rattle.lay_code.specs.nodes.Conditions.{condition_facts, link_facts}
use Rattle.lay_code.specs.nodes.Exprs.{ExprFacts, ExprLayer, FieldLayer, KindLayer, LinkLayer, StepFacts, StepLayer, StmtLayer, expr_facts, field_facts, step_facts}
use Rattle.lay_code.specs.nodes.Item.{item_facts, kind_facts}
use Rattle.lay_code.specs.nodes.Layers.{ExprNode, FieldNode, KindNode, LinkNode, StepNode, StmtNode}
use Rattle.lay_code.specs.declared.blocks.Arm.{Arm}
use Rattle.lay_code.specs.declared.blocks.Block.{Block}
use Rattle.lay_code.specs.declared.blocks.Branch.{Branch}
use Rattle.lay_code.specs.declared.blocks.Stmt.{Stmt}
use Rattle.lay_code.specs.declared.blocks.Stmt.TheFolds as fold
use Rattle.lay_code.specs.declared.blocks.Stmt.TheViews as views
use Rattle.lay_code.specs.declared.conditions.Condition.{Condition}
use Rattle.lay_code.specs.declared.conditions.Link.{Link}
use Rattle.lay_code.specs.declared.exprs.Expr.{Expr}
use Rattle.lay_code.specs.declared.exprs.FieldExpr.{FieldExpr}
use Rattle.lay_code.specs.declared.exprs.Step.{Step}
use Rattle.lay_code.specs.declared.item.Item.{Item}
use Rattle.lay_code.specs.declared.item.ItemKind.{ItemKind}

abbrev pub stmt_told : StmtNode → StmtLayer
stmt_told y = fold.map-Stmt Stmt Link Expr FieldExpr Step ItemKind Arm Block Branch Condition Item
    StmtFacts LinkFacts ExprFacts Facts StepFacts KindFacts ArmFacts BlockFacts BranchFacts ConditionFacts ItemFacts
    about_stmt about_link about_expr about_field_expr about_step told_of_kind about_arm about_block about_branch about_condition told_of_item y

pub stmt_is : (y : StmtNode) → about_stmt (views.roll-Stmt y) ≡ stmt_facts (stmt_told y)
unfolding about_expr about_field_expr about_step about_stmt about_block about_branch about_condition about_link about_arm told_of_item told_of_kind
stmt_is y = fold.fold-roll-Stmt StmtFacts LinkFacts ExprFacts Facts StepFacts KindFacts ArmFacts BlockFacts BranchFacts ConditionFacts ItemFacts
    stmt_facts link_facts expr_facts field_facts step_facts kind_facts arm_facts block_facts branch_facts condition_facts item_facts y

abbrev pub link_told : LinkNode → LinkLayer
link_told y = fold.map-Link Stmt Link Expr FieldExpr Step ItemKind Arm Block Branch Condition Item
    StmtFacts LinkFacts ExprFacts Facts StepFacts KindFacts ArmFacts BlockFacts BranchFacts ConditionFacts ItemFacts
    about_stmt about_link about_expr about_field_expr about_step told_of_kind about_arm about_block about_branch about_condition told_of_item y

pub link_is : (y : LinkNode) → about_link (views.roll-Link y) ≡ link_facts (link_told y)
unfolding about_expr about_field_expr about_step about_stmt about_block about_branch about_condition about_link about_arm told_of_item told_of_kind
link_is y = fold.fold-roll-Link StmtFacts LinkFacts ExprFacts Facts StepFacts KindFacts ArmFacts BlockFacts BranchFacts ConditionFacts ItemFacts
    stmt_facts link_facts expr_facts field_facts step_facts kind_facts arm_facts block_facts branch_facts condition_facts item_facts y

abbrev pub expr_told : ExprNode → ExprLayer
expr_told y = fold.map-Expr Stmt Link Expr FieldExpr Step ItemKind Arm Block Branch Condition Item
    StmtFacts LinkFacts ExprFacts Facts StepFacts KindFacts ArmFacts BlockFacts BranchFacts ConditionFacts ItemFacts
    about_stmt about_link about_expr about_field_expr about_step told_of_kind about_arm about_block about_branch about_condition told_of_item y

pub expr_is : (y : ExprNode) → about_expr (views.roll-Expr y) ≡ expr_facts (expr_told y)
unfolding about_expr about_field_expr about_step about_stmt about_block about_branch about_condition about_link about_arm told_of_item told_of_kind
expr_is y = fold.fold-roll-Expr StmtFacts LinkFacts ExprFacts Facts StepFacts KindFacts ArmFacts BlockFacts BranchFacts ConditionFacts ItemFacts
    stmt_facts link_facts expr_facts field_facts step_facts kind_facts arm_facts block_facts branch_facts condition_facts item_facts y

abbrev pub field_told : FieldNode → FieldLayer
field_told y = fold.map-FieldExpr Stmt Link Expr FieldExpr Step ItemKind Arm Block Branch Condition Item
    StmtFacts LinkFacts ExprFacts Facts StepFacts KindFacts ArmFacts BlockFacts BranchFacts ConditionFacts ItemFacts
    about_stmt about_link about_expr about_field_expr about_step told_of_kind about_arm about_block about_branch about_condition told_of_item y

pub field_is : (y : FieldNode) → about_field_expr (views.roll-FieldExpr y) ≡ field_facts (field_told y)
unfolding about_expr about_field_expr about_step about_stmt about_block about_branch about_condition about_link about_arm told_of_item told_of_kind
field_is y = fold.fold-roll-FieldExpr StmtFacts LinkFacts ExprFacts Facts StepFacts KindFacts ArmFacts BlockFacts BranchFacts ConditionFacts ItemFacts
    stmt_facts link_facts expr_facts field_facts step_facts kind_facts arm_facts block_facts branch_facts condition_facts item_facts y

abbrev pub step_told : StepNode → StepLayer
step_told y = fold.map-Step Stmt Link Expr FieldExpr Step ItemKind Arm Block Branch Condition Item
    StmtFacts LinkFacts ExprFacts Facts StepFacts KindFacts ArmFacts BlockFacts BranchFacts ConditionFacts ItemFacts
    about_stmt about_link about_expr about_field_expr about_step told_of_kind about_arm about_block about_branch about_condition told_of_item y

pub step_is : (y : StepNode) → about_step (views.roll-Step y) ≡ step_facts (step_told y)
unfolding about_expr about_field_expr about_step about_stmt about_block about_branch about_condition about_link about_arm told_of_item told_of_kind
step_is y = fold.fold-roll-Step StmtFacts LinkFacts ExprFacts Facts StepFacts KindFacts ArmFacts BlockFacts BranchFacts ConditionFacts ItemFacts
    stmt_facts link_facts expr_facts field_facts step_facts kind_facts arm_facts block_facts branch_facts condition_facts item_facts y

abbrev pub kind_told : KindNode → KindLayer
kind_told y = fold.map-ItemKind Stmt Link Expr FieldExpr Step ItemKind Arm Block Branch Condition Item
    StmtFacts LinkFacts ExprFacts Facts StepFacts KindFacts ArmFacts BlockFacts BranchFacts ConditionFacts ItemFacts
    about_stmt about_link about_expr about_field_expr about_step told_of_kind about_arm about_block about_branch about_condition told_of_item y

pub kind_is : (y : KindNode) → told_of_kind (views.roll-ItemKind y) ≡ kind_facts (kind_told y)
unfolding about_expr about_field_expr about_step about_stmt about_block about_branch about_condition about_link about_arm told_of_item told_of_kind
kind_is y = fold.fold-roll-ItemKind StmtFacts LinkFacts ExprFacts Facts StepFacts KindFacts ArmFacts BlockFacts BranchFacts ConditionFacts ItemFacts
    stmt_facts link_facts expr_facts field_facts step_facts kind_facts arm_facts block_facts branch_facts condition_facts item_facts y
