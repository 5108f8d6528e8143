-- What is made of nodes, by their layers.
use Rattle.std.proofs.Common.{◌≡◌}
use Rattle.lay_code.specs.nodes.Layers.{ArmNode, BlockNode, BranchNode, ConditionNode, ExprNode, FieldNode, ItemNode, KindNode, LinkNode, StepNode, StmtNode}
use Rattle.lay_code.specs.declared.blocks.Arm.{Arm}
use Rattle.lay_code.specs.declared.blocks.Block.{Block}
use Rattle.lay_code.specs.declared.blocks.Branch.{Branch}
use Rattle.lay_code.specs.declared.blocks.Stmt.{Stmt}
use Rattle.lay_code.specs.declared.blocks.Stmt.TheFolds as fold
use Rattle.lay_code.specs.declared.blocks.Stmt.TheViews as views
use Rattle.lay_code.specs.declared.conditions.Condition.{Condition}
use Rattle.lay_code.specs.declared.exprs.FieldExpr.{FieldExpr}
use Rattle.lay_code.specs.declared.exprs.Step.{Step}
use Rattle.lay_code.specs.declared.item.Item.{Item}
use Rattle.lay_code.specs.declared.item.ItemKind.{ItemKind}
use Rattle.lay_paren.specs.Least.{least_made, made_of}
use Rattle.lay_paren.specs.Made.{Made}
use Rattle.lay_paren.specs.Parts.{Linked, Placed, arm_made, block_made, branch_made, condition_made, field_made, item_made, kind_made, link_made, step_made, stmt_made}
use Rattle.lay_paren.specs.Nodes.{arm_parts, block_parts, branch_parts, condition_parts, expr_parts, field_parts, item_parts, kind_parts, link_parts, made_arm, made_block, made_branch, made_condition, made_field, made_item, made_kind, made_link, made_step, made_stmt, step_parts, stmt_parts}

pub stmt_parts_is : (y : StmtNode) → made_stmt (views.roll-Stmt y) ≡ stmt_made (stmt_parts y)
unfolding made_of
stmt_parts_is y = fold.fold-roll-Stmt (Made Stmt) Linked Placed (Made FieldExpr) (Made Step) (Made ItemKind) (Made Arm) (Made Block) (Made Branch) (Made Condition) (Made Item)
    stmt_made link_made least_made field_made step_made kind_made arm_made block_made branch_made condition_made item_made y

pub link_parts_is : (y : LinkNode) → made_link (views.roll-Link y) ≡ link_made (link_parts y)
unfolding made_of
link_parts_is y = fold.fold-roll-Link (Made Stmt) Linked Placed (Made FieldExpr) (Made Step) (Made ItemKind) (Made Arm) (Made Block) (Made Branch) (Made Condition) (Made Item)
    stmt_made link_made least_made field_made step_made kind_made arm_made block_made branch_made condition_made item_made y

pub expr_parts_is : (y : ExprNode) → made_of (views.roll-Expr y) ≡ least_made (expr_parts y)
unfolding made_of
expr_parts_is y = fold.fold-roll-Expr (Made Stmt) Linked Placed (Made FieldExpr) (Made Step) (Made ItemKind) (Made Arm) (Made Block) (Made Branch) (Made Condition) (Made Item)
    stmt_made link_made least_made field_made step_made kind_made arm_made block_made branch_made condition_made item_made y

pub field_parts_is : (y : FieldNode) → made_field (views.roll-FieldExpr y) ≡ field_made (field_parts y)
unfolding made_of
field_parts_is y = fold.fold-roll-FieldExpr (Made Stmt) Linked Placed (Made FieldExpr) (Made Step) (Made ItemKind) (Made Arm) (Made Block) (Made Branch) (Made Condition) (Made Item)
    stmt_made link_made least_made field_made step_made kind_made arm_made block_made branch_made condition_made item_made y

pub step_parts_is : (y : StepNode) → made_step (views.roll-Step y) ≡ step_made (step_parts y)
unfolding made_of
step_parts_is y = fold.fold-roll-Step (Made Stmt) Linked Placed (Made FieldExpr) (Made Step) (Made ItemKind) (Made Arm) (Made Block) (Made Branch) (Made Condition) (Made Item)
    stmt_made link_made least_made field_made step_made kind_made arm_made block_made branch_made condition_made item_made y

pub kind_parts_is : (y : KindNode) → made_kind (views.roll-ItemKind y) ≡ kind_made (kind_parts y)
unfolding made_of
kind_parts_is y = fold.fold-roll-ItemKind (Made Stmt) Linked Placed (Made FieldExpr) (Made Step) (Made ItemKind) (Made Arm) (Made Block) (Made Branch) (Made Condition) (Made Item)
    stmt_made link_made least_made field_made step_made kind_made arm_made block_made branch_made condition_made item_made y

pub arm_parts_is : (y : ArmNode) → made_arm (views.roll-Arm y) ≡ arm_made (arm_parts y)
unfolding made_of
arm_parts_is y = fold.fold-roll-Arm (Made Stmt) Linked Placed (Made FieldExpr) (Made Step) (Made ItemKind) (Made Arm) (Made Block) (Made Branch) (Made Condition) (Made Item)
    stmt_made link_made least_made field_made step_made kind_made arm_made block_made branch_made condition_made item_made y

pub block_parts_is : (y : BlockNode) → made_block (views.roll-Block y) ≡ block_made (block_parts y)
unfolding made_of
block_parts_is y = fold.fold-roll-Block (Made Stmt) Linked Placed (Made FieldExpr) (Made Step) (Made ItemKind) (Made Arm) (Made Block) (Made Branch) (Made Condition) (Made Item)
    stmt_made link_made least_made field_made step_made kind_made arm_made block_made branch_made condition_made item_made y

pub branch_parts_is : (y : BranchNode) → made_branch (views.roll-Branch y) ≡ branch_made (branch_parts y)
unfolding made_of
branch_parts_is y = fold.fold-roll-Branch (Made Stmt) Linked Placed (Made FieldExpr) (Made Step) (Made ItemKind) (Made Arm) (Made Block) (Made Branch) (Made Condition) (Made Item)
    stmt_made link_made least_made field_made step_made kind_made arm_made block_made branch_made condition_made item_made y

pub condition_parts_is : (y : ConditionNode) → made_condition (views.roll-Condition y) ≡ condition_made (condition_parts y)
unfolding made_of
condition_parts_is y = fold.fold-roll-Condition (Made Stmt) Linked Placed (Made FieldExpr) (Made Step) (Made ItemKind) (Made Arm) (Made Block) (Made Branch) (Made Condition) (Made Item)
    stmt_made link_made least_made field_made step_made kind_made arm_made block_made branch_made condition_made item_made y

pub item_parts_is : (y : ItemNode) → made_item (views.roll-Item y) ≡ item_made (item_parts y)
unfolding made_of
item_parts_is y = fold.fold-roll-Item (Made Stmt) Linked Placed (Made FieldExpr) (Made Step) (Made ItemKind) (Made Arm) (Made Block) (Made Branch) (Made Condition) (Made Item)
    stmt_made link_made least_made field_made step_made kind_made arm_made block_made branch_made condition_made item_made y
