-- The facts about shielded nodes, by their layers.
use Rattle.std.proofs.Common.{◌≡◌}
use Rattle.lay_node.specs.nodes.Facts.{Facts}
use Rattle.lay_code.specs.nodes.Blocks.{arm_facts, block_facts, branch_facts, stmt_facts}
use Rattle.lay_code.specs.nodes.CodeFacts.{ArmFacts, BlockFacts, BranchFacts, ConditionFacts, ItemFacts, KindFacts, LinkFacts, StmtFacts}
use Rattle.lay_code.specs.nodes.Conditions.{condition_facts, link_facts}
use Rattle.lay_code.specs.nodes.Exprs.{ExprFacts, Layer, StepFacts, field_facts, step_facts}
use Rattle.lay_code.specs.nodes.Item.{item_facts, kind_facts}
use Rattle.lay_code.specs.nodes.Layers.{ArmNode, BlockNode, BranchNode, ConditionNode, ExprNode, FieldNode, ItemNode, KindNode, LinkNode, StepNode, StmtNode}
use Rattle.lay_code.specs.declared.blocks.Arm.{Arm}
use Rattle.lay_code.specs.declared.blocks.Block.{Block}
use Rattle.lay_code.specs.declared.blocks.Branch.{Branch}
use Rattle.lay_code.specs.declared.blocks.Stmt.{Stmt}
use Rattle.lay_code.specs.declared.blocks.Stmt.TheFolds as fold
use Rattle.lay_code.specs.declared.blocks.Stmt.TheOpen.{Arm-F, Block-F, Branch-F, Condition-F, Expr-F, FieldExpr-F, Item-F, ItemKind-F, Link-F, Step-F, Stmt-F}
use Rattle.lay_code.specs.declared.blocks.Stmt.TheViews as views
use Rattle.lay_code.specs.declared.conditions.Condition.{Condition}
use Rattle.lay_code.specs.declared.conditions.Link.{Link}
use Rattle.lay_code.specs.declared.exprs.Expr.{Expr}
use Rattle.lay_code.specs.declared.exprs.FieldExpr.{FieldExpr}
use Rattle.lay_code.specs.declared.exprs.Step.{Step}
use Rattle.lay_code.specs.declared.item.Item.{Item}
use Rattle.lay_code.specs.declared.item.ItemKind.{ItemKind}
use Rattle.lay_paren_defs.specs.loose.Loose.{loose_about, shielded_facts}

abbrev pub loose_stmt : Stmt → StmtFacts
loose_stmt = fold.fold-Stmt StmtFacts LinkFacts ExprFacts Facts StepFacts KindFacts ArmFacts BlockFacts BranchFacts ConditionFacts ItemFacts
    stmt_facts link_facts shielded_facts field_facts step_facts kind_facts arm_facts block_facts branch_facts condition_facts item_facts

abbrev pub loose_link : Link → LinkFacts
loose_link = fold.fold-Link StmtFacts LinkFacts ExprFacts Facts StepFacts KindFacts ArmFacts BlockFacts BranchFacts ConditionFacts ItemFacts
    stmt_facts link_facts shielded_facts field_facts step_facts kind_facts arm_facts block_facts branch_facts condition_facts item_facts

abbrev pub loose_field : FieldExpr → Facts
loose_field = fold.fold-FieldExpr StmtFacts LinkFacts ExprFacts Facts StepFacts KindFacts ArmFacts BlockFacts BranchFacts ConditionFacts ItemFacts
    stmt_facts link_facts shielded_facts field_facts step_facts kind_facts arm_facts block_facts branch_facts condition_facts item_facts

abbrev pub loose_step : Step → StepFacts
loose_step = fold.fold-Step StmtFacts LinkFacts ExprFacts Facts StepFacts KindFacts ArmFacts BlockFacts BranchFacts ConditionFacts ItemFacts
    stmt_facts link_facts shielded_facts field_facts step_facts kind_facts arm_facts block_facts branch_facts condition_facts item_facts

abbrev pub loose_kind : ItemKind → KindFacts
loose_kind = fold.fold-ItemKind StmtFacts LinkFacts ExprFacts Facts StepFacts KindFacts ArmFacts BlockFacts BranchFacts ConditionFacts ItemFacts
    stmt_facts link_facts shielded_facts field_facts step_facts kind_facts arm_facts block_facts branch_facts condition_facts item_facts

abbrev pub loose_arm : Arm → ArmFacts
loose_arm = fold.fold-Arm StmtFacts LinkFacts ExprFacts Facts StepFacts KindFacts ArmFacts BlockFacts BranchFacts ConditionFacts ItemFacts
    stmt_facts link_facts shielded_facts field_facts step_facts kind_facts arm_facts block_facts branch_facts condition_facts item_facts

abbrev pub loose_block : Block → BlockFacts
loose_block = fold.fold-Block StmtFacts LinkFacts ExprFacts Facts StepFacts KindFacts ArmFacts BlockFacts BranchFacts ConditionFacts ItemFacts
    stmt_facts link_facts shielded_facts field_facts step_facts kind_facts arm_facts block_facts branch_facts condition_facts item_facts

abbrev pub loose_branch : Branch → BranchFacts
loose_branch = fold.fold-Branch StmtFacts LinkFacts ExprFacts Facts StepFacts KindFacts ArmFacts BlockFacts BranchFacts ConditionFacts ItemFacts
    stmt_facts link_facts shielded_facts field_facts step_facts kind_facts arm_facts block_facts branch_facts condition_facts item_facts

abbrev pub loose_condition : Condition → ConditionFacts
loose_condition = fold.fold-Condition StmtFacts LinkFacts ExprFacts Facts StepFacts KindFacts ArmFacts BlockFacts BranchFacts ConditionFacts ItemFacts
    stmt_facts link_facts shielded_facts field_facts step_facts kind_facts arm_facts block_facts branch_facts condition_facts item_facts

abbrev pub loose_item : Item → ItemFacts
loose_item = fold.fold-Item StmtFacts LinkFacts ExprFacts Facts StepFacts KindFacts ArmFacts BlockFacts BranchFacts ConditionFacts ItemFacts
    stmt_facts link_facts shielded_facts field_facts step_facts kind_facts arm_facts block_facts branch_facts condition_facts item_facts

abbrev pub stmt_shielded : StmtNode → Layer Stmt-F
stmt_shielded y = fold.map-Stmt Stmt Link Expr FieldExpr Step ItemKind Arm Block Branch Condition Item
    StmtFacts LinkFacts ExprFacts Facts StepFacts KindFacts ArmFacts BlockFacts BranchFacts ConditionFacts ItemFacts
    loose_stmt loose_link loose_about loose_field loose_step loose_kind loose_arm loose_block loose_branch loose_condition loose_item y

pub stmt_shielded_is : (y : StmtNode) → loose_stmt (views.roll-Stmt y) ≡ stmt_facts (stmt_shielded y)
unfolding loose_about
stmt_shielded_is y = fold.fold-roll-Stmt StmtFacts LinkFacts ExprFacts Facts StepFacts KindFacts ArmFacts BlockFacts BranchFacts ConditionFacts ItemFacts
    stmt_facts link_facts shielded_facts field_facts step_facts kind_facts arm_facts block_facts branch_facts condition_facts item_facts y

abbrev pub link_shielded : LinkNode → Layer Link-F
link_shielded y = fold.map-Link Stmt Link Expr FieldExpr Step ItemKind Arm Block Branch Condition Item
    StmtFacts LinkFacts ExprFacts Facts StepFacts KindFacts ArmFacts BlockFacts BranchFacts ConditionFacts ItemFacts
    loose_stmt loose_link loose_about loose_field loose_step loose_kind loose_arm loose_block loose_branch loose_condition loose_item y

pub link_shielded_is : (y : LinkNode) → loose_link (views.roll-Link y) ≡ link_facts (link_shielded y)
unfolding loose_about
link_shielded_is y = fold.fold-roll-Link StmtFacts LinkFacts ExprFacts Facts StepFacts KindFacts ArmFacts BlockFacts BranchFacts ConditionFacts ItemFacts
    stmt_facts link_facts shielded_facts field_facts step_facts kind_facts arm_facts block_facts branch_facts condition_facts item_facts y

abbrev pub expr_shielded : ExprNode → Layer Expr-F
expr_shielded y = fold.map-Expr Stmt Link Expr FieldExpr Step ItemKind Arm Block Branch Condition Item
    StmtFacts LinkFacts ExprFacts Facts StepFacts KindFacts ArmFacts BlockFacts BranchFacts ConditionFacts ItemFacts
    loose_stmt loose_link loose_about loose_field loose_step loose_kind loose_arm loose_block loose_branch loose_condition loose_item y

pub expr_shielded_is : (y : ExprNode) → loose_about (views.roll-Expr y) ≡ shielded_facts (expr_shielded y)
unfolding loose_about
expr_shielded_is y = fold.fold-roll-Expr StmtFacts LinkFacts ExprFacts Facts StepFacts KindFacts ArmFacts BlockFacts BranchFacts ConditionFacts ItemFacts
    stmt_facts link_facts shielded_facts field_facts step_facts kind_facts arm_facts block_facts branch_facts condition_facts item_facts y

abbrev pub field_shielded : FieldNode → Layer FieldExpr-F
field_shielded y = fold.map-FieldExpr Stmt Link Expr FieldExpr Step ItemKind Arm Block Branch Condition Item
    StmtFacts LinkFacts ExprFacts Facts StepFacts KindFacts ArmFacts BlockFacts BranchFacts ConditionFacts ItemFacts
    loose_stmt loose_link loose_about loose_field loose_step loose_kind loose_arm loose_block loose_branch loose_condition loose_item y

pub field_shielded_is : (y : FieldNode) → loose_field (views.roll-FieldExpr y) ≡ field_facts (field_shielded y)
unfolding loose_about
field_shielded_is y = fold.fold-roll-FieldExpr StmtFacts LinkFacts ExprFacts Facts StepFacts KindFacts ArmFacts BlockFacts BranchFacts ConditionFacts ItemFacts
    stmt_facts link_facts shielded_facts field_facts step_facts kind_facts arm_facts block_facts branch_facts condition_facts item_facts y

abbrev pub step_shielded : StepNode → Layer Step-F
step_shielded y = fold.map-Step Stmt Link Expr FieldExpr Step ItemKind Arm Block Branch Condition Item
    StmtFacts LinkFacts ExprFacts Facts StepFacts KindFacts ArmFacts BlockFacts BranchFacts ConditionFacts ItemFacts
    loose_stmt loose_link loose_about loose_field loose_step loose_kind loose_arm loose_block loose_branch loose_condition loose_item y

pub step_shielded_is : (y : StepNode) → loose_step (views.roll-Step y) ≡ step_facts (step_shielded y)
unfolding loose_about
step_shielded_is y = fold.fold-roll-Step StmtFacts LinkFacts ExprFacts Facts StepFacts KindFacts ArmFacts BlockFacts BranchFacts ConditionFacts ItemFacts
    stmt_facts link_facts shielded_facts field_facts step_facts kind_facts arm_facts block_facts branch_facts condition_facts item_facts y

abbrev pub kind_shielded : KindNode → Layer ItemKind-F
kind_shielded y = fold.map-ItemKind Stmt Link Expr FieldExpr Step ItemKind Arm Block Branch Condition Item
    StmtFacts LinkFacts ExprFacts Facts StepFacts KindFacts ArmFacts BlockFacts BranchFacts ConditionFacts ItemFacts
    loose_stmt loose_link loose_about loose_field loose_step loose_kind loose_arm loose_block loose_branch loose_condition loose_item y

pub kind_shielded_is : (y : KindNode) → loose_kind (views.roll-ItemKind y) ≡ kind_facts (kind_shielded y)
unfolding loose_about
kind_shielded_is y = fold.fold-roll-ItemKind StmtFacts LinkFacts ExprFacts Facts StepFacts KindFacts ArmFacts BlockFacts BranchFacts ConditionFacts ItemFacts
    stmt_facts link_facts shielded_facts field_facts step_facts kind_facts arm_facts block_facts branch_facts condition_facts item_facts y

abbrev pub arm_shielded : ArmNode → Layer Arm-F
arm_shielded y = fold.map-Arm Stmt Link Expr FieldExpr Step ItemKind Arm Block Branch Condition Item
    StmtFacts LinkFacts ExprFacts Facts StepFacts KindFacts ArmFacts BlockFacts BranchFacts ConditionFacts ItemFacts
    loose_stmt loose_link loose_about loose_field loose_step loose_kind loose_arm loose_block loose_branch loose_condition loose_item y

pub arm_shielded_is : (y : ArmNode) → loose_arm (views.roll-Arm y) ≡ arm_facts (arm_shielded y)
unfolding loose_about
arm_shielded_is y = fold.fold-roll-Arm StmtFacts LinkFacts ExprFacts Facts StepFacts KindFacts ArmFacts BlockFacts BranchFacts ConditionFacts ItemFacts
    stmt_facts link_facts shielded_facts field_facts step_facts kind_facts arm_facts block_facts branch_facts condition_facts item_facts y

abbrev pub block_shielded : BlockNode → Layer Block-F
block_shielded y = fold.map-Block Stmt Link Expr FieldExpr Step ItemKind Arm Block Branch Condition Item
    StmtFacts LinkFacts ExprFacts Facts StepFacts KindFacts ArmFacts BlockFacts BranchFacts ConditionFacts ItemFacts
    loose_stmt loose_link loose_about loose_field loose_step loose_kind loose_arm loose_block loose_branch loose_condition loose_item y

pub block_shielded_is : (y : BlockNode) → loose_block (views.roll-Block y) ≡ block_facts (block_shielded y)
unfolding loose_about
block_shielded_is y = fold.fold-roll-Block StmtFacts LinkFacts ExprFacts Facts StepFacts KindFacts ArmFacts BlockFacts BranchFacts ConditionFacts ItemFacts
    stmt_facts link_facts shielded_facts field_facts step_facts kind_facts arm_facts block_facts branch_facts condition_facts item_facts y

abbrev pub branch_shielded : BranchNode → Layer Branch-F
branch_shielded y = fold.map-Branch Stmt Link Expr FieldExpr Step ItemKind Arm Block Branch Condition Item
    StmtFacts LinkFacts ExprFacts Facts StepFacts KindFacts ArmFacts BlockFacts BranchFacts ConditionFacts ItemFacts
    loose_stmt loose_link loose_about loose_field loose_step loose_kind loose_arm loose_block loose_branch loose_condition loose_item y

pub branch_shielded_is : (y : BranchNode) → loose_branch (views.roll-Branch y) ≡ branch_facts (branch_shielded y)
unfolding loose_about
branch_shielded_is y = fold.fold-roll-Branch StmtFacts LinkFacts ExprFacts Facts StepFacts KindFacts ArmFacts BlockFacts BranchFacts ConditionFacts ItemFacts
    stmt_facts link_facts shielded_facts field_facts step_facts kind_facts arm_facts block_facts branch_facts condition_facts item_facts y

abbrev pub condition_shielded : ConditionNode → Layer Condition-F
condition_shielded y = fold.map-Condition Stmt Link Expr FieldExpr Step ItemKind Arm Block Branch Condition Item
    StmtFacts LinkFacts ExprFacts Facts StepFacts KindFacts ArmFacts BlockFacts BranchFacts ConditionFacts ItemFacts
    loose_stmt loose_link loose_about loose_field loose_step loose_kind loose_arm loose_block loose_branch loose_condition loose_item y

pub condition_shielded_is : (y : ConditionNode) → loose_condition (views.roll-Condition y) ≡ condition_facts (condition_shielded y)
unfolding loose_about
condition_shielded_is y = fold.fold-roll-Condition StmtFacts LinkFacts ExprFacts Facts StepFacts KindFacts ArmFacts BlockFacts BranchFacts ConditionFacts ItemFacts
    stmt_facts link_facts shielded_facts field_facts step_facts kind_facts arm_facts block_facts branch_facts condition_facts item_facts y

abbrev pub item_shielded : ItemNode → Layer Item-F
item_shielded y = fold.map-Item Stmt Link Expr FieldExpr Step ItemKind Arm Block Branch Condition Item
    StmtFacts LinkFacts ExprFacts Facts StepFacts KindFacts ArmFacts BlockFacts BranchFacts ConditionFacts ItemFacts
    loose_stmt loose_link loose_about loose_field loose_step loose_kind loose_arm loose_block loose_branch loose_condition loose_item y

pub item_shielded_is : (y : ItemNode) → loose_item (views.roll-Item y) ≡ item_facts (item_shielded y)
unfolding loose_about
item_shielded_is y = fold.fold-roll-Item StmtFacts LinkFacts ExprFacts Facts StepFacts KindFacts ArmFacts BlockFacts BranchFacts ConditionFacts ItemFacts
    stmt_facts link_facts shielded_facts field_facts step_facts kind_facts arm_facts block_facts branch_facts condition_facts item_facts y
