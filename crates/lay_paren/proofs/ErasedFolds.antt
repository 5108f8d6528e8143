-- Nodes without parentheses, by their layers.
use Rattle.std.proofs.Common.{◌≡◌}
use Rattle.lay_code.specs.nodes.Layers.{ArmNode, BlockNode, BranchNode, ConditionNode, ExprNode, FieldNode, ItemNode, KindNode, LinkNode, StepNode, StmtNode}
use Rattle.lay_code.specs.declared.blocks.Arm.{Arm}
use Rattle.lay_code.specs.declared.blocks.Block.{Block}
use Rattle.lay_code.specs.declared.blocks.Branch.{Branch}
use Rattle.lay_code.specs.declared.blocks.Stmt.{Stmt}
use Rattle.lay_code.specs.declared.blocks.Stmt.TheFolds as fold
use Rattle.lay_code.specs.declared.blocks.Stmt.TheViews as views
use Rattle.lay_code.specs.declared.conditions.Condition.{Condition}
use Rattle.lay_code.specs.declared.conditions.Link.{Link}
use Rattle.lay_code.specs.declared.exprs.Expr.{Expr}
use Rattle.lay_code.specs.declared.exprs.FieldExpr.{FieldExpr}
use Rattle.lay_code.specs.declared.exprs.Step.{Step}
use Rattle.lay_code.specs.declared.item.Item.{Item}
use Rattle.lay_code.specs.declared.item.ItemKind.{ItemKind}
use Rattle.lay_paren.specs.Erased.{erase, without_parens}

abbrev pub stmt_erased : Stmt → Stmt
stmt_erased = fold.fold-Stmt Stmt Link Expr FieldExpr Step ItemKind Arm Block Branch Condition Item
    views.roll-Stmt views.roll-Link without_parens views.roll-FieldExpr views.roll-Step views.roll-ItemKind views.roll-Arm views.roll-Block views.roll-Branch views.roll-Condition views.roll-Item

abbrev pub link_erased : Link → Link
link_erased = fold.fold-Link Stmt Link Expr FieldExpr Step ItemKind Arm Block Branch Condition Item
    views.roll-Stmt views.roll-Link without_parens views.roll-FieldExpr views.roll-Step views.roll-ItemKind views.roll-Arm views.roll-Block views.roll-Branch views.roll-Condition views.roll-Item

abbrev pub field_erased : FieldExpr → FieldExpr
field_erased = fold.fold-FieldExpr Stmt Link Expr FieldExpr Step ItemKind Arm Block Branch Condition Item
    views.roll-Stmt views.roll-Link without_parens views.roll-FieldExpr views.roll-Step views.roll-ItemKind views.roll-Arm views.roll-Block views.roll-Branch views.roll-Condition views.roll-Item

abbrev pub step_erased : Step → Step
step_erased = fold.fold-Step Stmt Link Expr FieldExpr Step ItemKind Arm Block Branch Condition Item
    views.roll-Stmt views.roll-Link without_parens views.roll-FieldExpr views.roll-Step views.roll-ItemKind views.roll-Arm views.roll-Block views.roll-Branch views.roll-Condition views.roll-Item

abbrev pub kind_erased : ItemKind → ItemKind
kind_erased = fold.fold-ItemKind Stmt Link Expr FieldExpr Step ItemKind Arm Block Branch Condition Item
    views.roll-Stmt views.roll-Link without_parens views.roll-FieldExpr views.roll-Step views.roll-ItemKind views.roll-Arm views.roll-Block views.roll-Branch views.roll-Condition views.roll-Item

abbrev pub arm_erased : Arm → Arm
arm_erased = fold.fold-Arm Stmt Link Expr FieldExpr Step ItemKind Arm Block Branch Condition Item
    views.roll-Stmt views.roll-Link without_parens views.roll-FieldExpr views.roll-Step views.roll-ItemKind views.roll-Arm views.roll-Block views.roll-Branch views.roll-Condition views.roll-Item

abbrev pub block_erased : Block → Block
block_erased = fold.fold-Block Stmt Link Expr FieldExpr Step ItemKind Arm Block Branch Condition Item
    views.roll-Stmt views.roll-Link without_parens views.roll-FieldExpr views.roll-Step views.roll-ItemKind views.roll-Arm views.roll-Block views.roll-Branch views.roll-Condition views.roll-Item

abbrev pub branch_erased : Branch → Branch
branch_erased = fold.fold-Branch Stmt Link Expr FieldExpr Step ItemKind Arm Block Branch Condition Item
    views.roll-Stmt views.roll-Link without_parens views.roll-FieldExpr views.roll-Step views.roll-ItemKind views.roll-Arm views.roll-Block views.roll-Branch views.roll-Condition views.roll-Item

abbrev pub condition_erased : Condition → Condition
condition_erased = fold.fold-Condition Stmt Link Expr FieldExpr Step ItemKind Arm Block Branch Condition Item
    views.roll-Stmt views.roll-Link without_parens views.roll-FieldExpr views.roll-Step views.roll-ItemKind views.roll-Arm views.roll-Block views.roll-Branch views.roll-Condition views.roll-Item

abbrev pub item_erased : Item → Item
item_erased = fold.fold-Item Stmt Link Expr FieldExpr Step ItemKind Arm Block Branch Condition Item
    views.roll-Stmt views.roll-Link without_parens views.roll-FieldExpr views.roll-Step views.roll-ItemKind views.roll-Arm views.roll-Block views.roll-Branch views.roll-Condition views.roll-Item

abbrev pub stmt_without : StmtNode → StmtNode
stmt_without y = fold.map-Stmt Stmt Link Expr FieldExpr Step ItemKind Arm Block Branch Condition Item
    Stmt Link Expr FieldExpr Step ItemKind Arm Block Branch Condition Item
    stmt_erased link_erased erase field_erased step_erased kind_erased arm_erased block_erased branch_erased condition_erased item_erased y

pub stmt_without_is : (y : StmtNode) → stmt_erased (views.roll-Stmt y) ≡ views.roll-Stmt (stmt_without y)
unfolding erase
stmt_without_is y = fold.fold-roll-Stmt Stmt Link Expr FieldExpr Step ItemKind Arm Block Branch Condition Item
    views.roll-Stmt views.roll-Link without_parens views.roll-FieldExpr views.roll-Step views.roll-ItemKind views.roll-Arm views.roll-Block views.roll-Branch views.roll-Condition views.roll-Item y

abbrev pub link_without : LinkNode → LinkNode
link_without y = fold.map-Link Stmt Link Expr FieldExpr Step ItemKind Arm Block Branch Condition Item
    Stmt Link Expr FieldExpr Step ItemKind Arm Block Branch Condition Item
    stmt_erased link_erased erase field_erased step_erased kind_erased arm_erased block_erased branch_erased condition_erased item_erased y

pub link_without_is : (y : LinkNode) → link_erased (views.roll-Link y) ≡ views.roll-Link (link_without y)
unfolding erase
link_without_is y = fold.fold-roll-Link Stmt Link Expr FieldExpr Step ItemKind Arm Block Branch Condition Item
    views.roll-Stmt views.roll-Link without_parens views.roll-FieldExpr views.roll-Step views.roll-ItemKind views.roll-Arm views.roll-Block views.roll-Branch views.roll-Condition views.roll-Item y

abbrev pub expr_without : ExprNode → ExprNode
expr_without y = fold.map-Expr Stmt Link Expr FieldExpr Step ItemKind Arm Block Branch Condition Item
    Stmt Link Expr FieldExpr Step ItemKind Arm Block Branch Condition Item
    stmt_erased link_erased erase field_erased step_erased kind_erased arm_erased block_erased branch_erased condition_erased item_erased y

pub expr_without_is : (y : ExprNode) → erase (views.roll-Expr y) ≡ without_parens (expr_without y)
unfolding erase
expr_without_is y = fold.fold-roll-Expr Stmt Link Expr FieldExpr Step ItemKind Arm Block Branch Condition Item
    views.roll-Stmt views.roll-Link without_parens views.roll-FieldExpr views.roll-Step views.roll-ItemKind views.roll-Arm views.roll-Block views.roll-Branch views.roll-Condition views.roll-Item y

abbrev pub field_without : FieldNode → FieldNode
field_without y = fold.map-FieldExpr Stmt Link Expr FieldExpr Step ItemKind Arm Block Branch Condition Item
    Stmt Link Expr FieldExpr Step ItemKind Arm Block Branch Condition Item
    stmt_erased link_erased erase field_erased step_erased kind_erased arm_erased block_erased branch_erased condition_erased item_erased y

pub field_without_is : (y : FieldNode) → field_erased (views.roll-FieldExpr y) ≡ views.roll-FieldExpr (field_without y)
unfolding erase
field_without_is y = fold.fold-roll-FieldExpr Stmt Link Expr FieldExpr Step ItemKind Arm Block Branch Condition Item
    views.roll-Stmt views.roll-Link without_parens views.roll-FieldExpr views.roll-Step views.roll-ItemKind views.roll-Arm views.roll-Block views.roll-Branch views.roll-Condition views.roll-Item y

abbrev pub step_without : StepNode → StepNode
step_without y = fold.map-Step Stmt Link Expr FieldExpr Step ItemKind Arm Block Branch Condition Item
    Stmt Link Expr FieldExpr Step ItemKind Arm Block Branch Condition Item
    stmt_erased link_erased erase field_erased step_erased kind_erased arm_erased block_erased branch_erased condition_erased item_erased y

pub step_without_is : (y : StepNode) → step_erased (views.roll-Step y) ≡ views.roll-Step (step_without y)
unfolding erase
step_without_is y = fold.fold-roll-Step Stmt Link Expr FieldExpr Step ItemKind Arm Block Branch Condition Item
    views.roll-Stmt views.roll-Link without_parens views.roll-FieldExpr views.roll-Step views.roll-ItemKind views.roll-Arm views.roll-Block views.roll-Branch views.roll-Condition views.roll-Item y

abbrev pub kind_without : KindNode → KindNode
kind_without y = fold.map-ItemKind Stmt Link Expr FieldExpr Step ItemKind Arm Block Branch Condition Item
    Stmt Link Expr FieldExpr Step ItemKind Arm Block Branch Condition Item
    stmt_erased link_erased erase field_erased step_erased kind_erased arm_erased block_erased branch_erased condition_erased item_erased y

pub kind_without_is : (y : KindNode) → kind_erased (views.roll-ItemKind y) ≡ views.roll-ItemKind (kind_without y)
unfolding erase
kind_without_is y = fold.fold-roll-ItemKind Stmt Link Expr FieldExpr Step ItemKind Arm Block Branch Condition Item
    views.roll-Stmt views.roll-Link without_parens views.roll-FieldExpr views.roll-Step views.roll-ItemKind views.roll-Arm views.roll-Block views.roll-Branch views.roll-Condition views.roll-Item y

abbrev pub arm_without : ArmNode → ArmNode
arm_without y = fold.map-Arm Stmt Link Expr FieldExpr Step ItemKind Arm Block Branch Condition Item
    Stmt Link Expr FieldExpr Step ItemKind Arm Block Branch Condition Item
    stmt_erased link_erased erase field_erased step_erased kind_erased arm_erased block_erased branch_erased condition_erased item_erased y

pub arm_without_is : (y : ArmNode) → arm_erased (views.roll-Arm y) ≡ views.roll-Arm (arm_without y)
unfolding erase
arm_without_is y = fold.fold-roll-Arm Stmt Link Expr FieldExpr Step ItemKind Arm Block Branch Condition Item
    views.roll-Stmt views.roll-Link without_parens views.roll-FieldExpr views.roll-Step views.roll-ItemKind views.roll-Arm views.roll-Block views.roll-Branch views.roll-Condition views.roll-Item y

abbrev pub block_without : BlockNode → BlockNode
block_without y = fold.map-Block Stmt Link Expr FieldExpr Step ItemKind Arm Block Branch Condition Item
    Stmt Link Expr FieldExpr Step ItemKind Arm Block Branch Condition Item
    stmt_erased link_erased erase field_erased step_erased kind_erased arm_erased block_erased branch_erased condition_erased item_erased y

pub block_without_is : (y : BlockNode) → block_erased (views.roll-Block y) ≡ views.roll-Block (block_without y)
unfolding erase
block_without_is y = fold.fold-roll-Block Stmt Link Expr FieldExpr Step ItemKind Arm Block Branch Condition Item
    views.roll-Stmt views.roll-Link without_parens views.roll-FieldExpr views.roll-Step views.roll-ItemKind views.roll-Arm views.roll-Block views.roll-Branch views.roll-Condition views.roll-Item y

abbrev pub branch_without : BranchNode → BranchNode
branch_without y = fold.map-Branch Stmt Link Expr FieldExpr Step ItemKind Arm Block Branch Condition Item
    Stmt Link Expr FieldExpr Step ItemKind Arm Block Branch Condition Item
    stmt_erased link_erased erase field_erased step_erased kind_erased arm_erased block_erased branch_erased condition_erased item_erased y

pub branch_without_is : (y : BranchNode) → branch_erased (views.roll-Branch y) ≡ views.roll-Branch (branch_without y)
unfolding erase
branch_without_is y = fold.fold-roll-Branch Stmt Link Expr FieldExpr Step ItemKind Arm Block Branch Condition Item
    views.roll-Stmt views.roll-Link without_parens views.roll-FieldExpr views.roll-Step views.roll-ItemKind views.roll-Arm views.roll-Block views.roll-Branch views.roll-Condition views.roll-Item y

abbrev pub condition_without : ConditionNode → ConditionNode
condition_without y = fold.map-Condition Stmt Link Expr FieldExpr Step ItemKind Arm Block Branch Condition Item
    Stmt Link Expr FieldExpr Step ItemKind Arm Block Branch Condition Item
    stmt_erased link_erased erase field_erased step_erased kind_erased arm_erased block_erased branch_erased condition_erased item_erased y

pub condition_without_is : (y : ConditionNode) → condition_erased (views.roll-Condition y) ≡ views.roll-Condition (condition_without y)
unfolding erase
condition_without_is y = fold.fold-roll-Condition Stmt Link Expr FieldExpr Step ItemKind Arm Block Branch Condition Item
    views.roll-Stmt views.roll-Link without_parens views.roll-FieldExpr views.roll-Step views.roll-ItemKind views.roll-Arm views.roll-Block views.roll-Branch views.roll-Condition views.roll-Item y

abbrev pub item_without : ItemNode → ItemNode
item_without y = fold.map-Item Stmt Link Expr FieldExpr Step ItemKind Arm Block Branch Condition Item
    Stmt Link Expr FieldExpr Step ItemKind Arm Block Branch Condition Item
    stmt_erased link_erased erase field_erased step_erased kind_erased arm_erased block_erased branch_erased condition_erased item_erased y

pub item_without_is : (y : ItemNode) → item_erased (views.roll-Item y) ≡ views.roll-Item (item_without y)
unfolding erase
item_without_is y = fold.fold-roll-Item Stmt Link Expr FieldExpr Step ItemKind Arm Block Branch Condition Item
    views.roll-Stmt views.roll-Link without_parens views.roll-FieldExpr views.roll-Step views.roll-ItemKind views.roll-Arm views.roll-Block views.roll-Branch views.roll-Condition views.roll-Item y
