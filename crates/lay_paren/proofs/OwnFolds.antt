-- Nodes as they are, with what is left of each without one of its pairs, by their layers.
use Rattle.std.proofs.Common.{◌≡◌}
use Rattle.lay_code.specs.nodes.Layers.{ArmNode, BlockNode, BranchNode, ConditionNode, ExprNode, FieldNode, ItemNode, KindNode, LinkNode, StepNode, StmtNode}
use Rattle.lay_code.specs.declared.blocks.Arm.{Arm}
use Rattle.lay_code.specs.declared.blocks.Block.{Block}
use Rattle.lay_code.specs.declared.blocks.Branch.{Branch}
use Rattle.lay_code.specs.declared.blocks.Stmt.{Stmt}
use Rattle.lay_code.specs.declared.blocks.Stmt.TheFolds as fold
use Rattle.lay_code.specs.declared.blocks.Stmt.TheOpen.{Arm-F, Block-F, Branch-F, Condition-F, Expr-F, FieldExpr-F, Item-F, ItemKind-F, Link-F, Step-F, Stmt-F}
use Rattle.lay_code.specs.declared.blocks.Stmt.TheViews as views
use Rattle.lay_code.specs.declared.conditions.Condition.{Condition}
use Rattle.lay_code.specs.declared.conditions.Link.{Link}
use Rattle.lay_code.specs.declared.exprs.Expr.{Expr}
use Rattle.lay_code.specs.declared.exprs.FieldExpr.{FieldExpr}
use Rattle.lay_code.specs.declared.exprs.Step.{Step}
use Rattle.lay_code.specs.declared.item.Item.{Item}
use Rattle.lay_code.specs.declared.item.ItemKind.{ItemKind}
use Rattle.lay_paren.specs.LeftOut.{own, own_made}
use Rattle.lay_paren.specs.Made.{Made}
use Rattle.lay_paren.specs.Parts.{Linked, Parts, Placed, arm_made, block_made, branch_made, condition_made, field_made, item_made, kind_made, link_made, step_made, stmt_made}

abbrev pub own_stmt : Stmt → Made Stmt
own_stmt = fold.fold-Stmt (Made Stmt) Linked Placed (Made FieldExpr) (Made Step) (Made ItemKind) (Made Arm) (Made Block) (Made Branch) (Made Condition) (Made Item)
    stmt_made link_made own_made field_made step_made kind_made arm_made block_made branch_made condition_made item_made

abbrev pub own_link : Link → Linked
own_link = fold.fold-Link (Made Stmt) Linked Placed (Made FieldExpr) (Made Step) (Made ItemKind) (Made Arm) (Made Block) (Made Branch) (Made Condition) (Made Item)
    stmt_made link_made own_made field_made step_made kind_made arm_made block_made branch_made condition_made item_made

abbrev pub own_field : FieldExpr → Made FieldExpr
own_field = fold.fold-FieldExpr (Made Stmt) Linked Placed (Made FieldExpr) (Made Step) (Made ItemKind) (Made Arm) (Made Block) (Made Branch) (Made Condition) (Made Item)
    stmt_made link_made own_made field_made step_made kind_made arm_made block_made branch_made condition_made item_made

abbrev pub own_step : Step → Made Step
own_step = fold.fold-Step (Made Stmt) Linked Placed (Made FieldExpr) (Made Step) (Made ItemKind) (Made Arm) (Made Block) (Made Branch) (Made Condition) (Made Item)
    stmt_made link_made own_made field_made step_made kind_made arm_made block_made branch_made condition_made item_made

abbrev pub own_kind : ItemKind → Made ItemKind
own_kind = fold.fold-ItemKind (Made Stmt) Linked Placed (Made FieldExpr) (Made Step) (Made ItemKind) (Made Arm) (Made Block) (Made Branch) (Made Condition) (Made Item)
    stmt_made link_made own_made field_made step_made kind_made arm_made block_made branch_made condition_made item_made

abbrev pub own_arm : Arm → Made Arm
own_arm = fold.fold-Arm (Made Stmt) Linked Placed (Made FieldExpr) (Made Step) (Made ItemKind) (Made Arm) (Made Block) (Made Branch) (Made Condition) (Made Item)
    stmt_made link_made own_made field_made step_made kind_made arm_made block_made branch_made condition_made item_made

abbrev pub own_block : Block → Made Block
own_block = fold.fold-Block (Made Stmt) Linked Placed (Made FieldExpr) (Made Step) (Made ItemKind) (Made Arm) (Made Block) (Made Branch) (Made Condition) (Made Item)
    stmt_made link_made own_made field_made step_made kind_made arm_made block_made branch_made condition_made item_made

abbrev pub own_branch : Branch → Made Branch
own_branch = fold.fold-Branch (Made Stmt) Linked Placed (Made FieldExpr) (Made Step) (Made ItemKind) (Made Arm) (Made Block) (Made Branch) (Made Condition) (Made Item)
    stmt_made link_made own_made field_made step_made kind_made arm_made block_made branch_made condition_made item_made

abbrev pub own_condition : Condition → Made Condition
own_condition = fold.fold-Condition (Made Stmt) Linked Placed (Made FieldExpr) (Made Step) (Made ItemKind) (Made Arm) (Made Block) (Made Branch) (Made Condition) (Made Item)
    stmt_made link_made own_made field_made step_made kind_made arm_made block_made branch_made condition_made item_made

abbrev pub own_item : Item → Made Item
own_item = fold.fold-Item (Made Stmt) Linked Placed (Made FieldExpr) (Made Step) (Made ItemKind) (Made Arm) (Made Block) (Made Branch) (Made Condition) (Made Item)
    stmt_made link_made own_made field_made step_made kind_made arm_made block_made branch_made condition_made item_made

abbrev pub stmt_own : StmtNode → Parts Stmt-F
stmt_own y = fold.map-Stmt Stmt Link Expr FieldExpr Step ItemKind Arm Block Branch Condition Item
    (Made Stmt) Linked Placed (Made FieldExpr) (Made Step) (Made ItemKind) (Made Arm) (Made Block) (Made Branch) (Made Condition) (Made Item)
    own_stmt own_link own own_field own_step own_kind own_arm own_block own_branch own_condition own_item y

pub stmt_own_is : (y : StmtNode) → own_stmt (views.roll-Stmt y) ≡ stmt_made (stmt_own y)
unfolding own
stmt_own_is y = fold.fold-roll-Stmt (Made Stmt) Linked Placed (Made FieldExpr) (Made Step) (Made ItemKind) (Made Arm) (Made Block) (Made Branch) (Made Condition) (Made Item)
    stmt_made link_made own_made field_made step_made kind_made arm_made block_made branch_made condition_made item_made y

abbrev pub link_own : LinkNode → Parts Link-F
link_own y = fold.map-Link Stmt Link Expr FieldExpr Step ItemKind Arm Block Branch Condition Item
    (Made Stmt) Linked Placed (Made FieldExpr) (Made Step) (Made ItemKind) (Made Arm) (Made Block) (Made Branch) (Made Condition) (Made Item)
    own_stmt own_link own own_field own_step own_kind own_arm own_block own_branch own_condition own_item y

pub link_own_is : (y : LinkNode) → own_link (views.roll-Link y) ≡ link_made (link_own y)
unfolding own
link_own_is y = fold.fold-roll-Link (Made Stmt) Linked Placed (Made FieldExpr) (Made Step) (Made ItemKind) (Made Arm) (Made Block) (Made Branch) (Made Condition) (Made Item)
    stmt_made link_made own_made field_made step_made kind_made arm_made block_made branch_made condition_made item_made y

abbrev pub expr_own : ExprNode → Parts Expr-F
expr_own y = fold.map-Expr Stmt Link Expr FieldExpr Step ItemKind Arm Block Branch Condition Item
    (Made Stmt) Linked Placed (Made FieldExpr) (Made Step) (Made ItemKind) (Made Arm) (Made Block) (Made Branch) (Made Condition) (Made Item)
    own_stmt own_link own own_field own_step own_kind own_arm own_block own_branch own_condition own_item y

pub expr_own_is : (y : ExprNode) → own (views.roll-Expr y) ≡ own_made (expr_own y)
unfolding own
expr_own_is y = fold.fold-roll-Expr (Made Stmt) Linked Placed (Made FieldExpr) (Made Step) (Made ItemKind) (Made Arm) (Made Block) (Made Branch) (Made Condition) (Made Item)
    stmt_made link_made own_made field_made step_made kind_made arm_made block_made branch_made condition_made item_made y

abbrev pub field_own : FieldNode → Parts FieldExpr-F
field_own y = fold.map-FieldExpr Stmt Link Expr FieldExpr Step ItemKind Arm Block Branch Condition Item
    (Made Stmt) Linked Placed (Made FieldExpr) (Made Step) (Made ItemKind) (Made Arm) (Made Block) (Made Branch) (Made Condition) (Made Item)
    own_stmt own_link own own_field own_step own_kind own_arm own_block own_branch own_condition own_item y

pub field_own_is : (y : FieldNode) → own_field (views.roll-FieldExpr y) ≡ field_made (field_own y)
unfolding own
field_own_is y = fold.fold-roll-FieldExpr (Made Stmt) Linked Placed (Made FieldExpr) (Made Step) (Made ItemKind) (Made Arm) (Made Block) (Made Branch) (Made Condition) (Made Item)
    stmt_made link_made own_made field_made step_made kind_made arm_made block_made branch_made condition_made item_made y

abbrev pub step_own : StepNode → Parts Step-F
step_own y = fold.map-Step Stmt Link Expr FieldExpr Step ItemKind Arm Block Branch Condition Item
    (Made Stmt) Linked Placed (Made FieldExpr) (Made Step) (Made ItemKind) (Made Arm) (Made Block) (Made Branch) (Made Condition) (Made Item)
    own_stmt own_link own own_field own_step own_kind own_arm own_block own_branch own_condition own_item y

pub step_own_is : (y : StepNode) → own_step (views.roll-Step y) ≡ step_made (step_own y)
unfolding own
step_own_is y = fold.fold-roll-Step (Made Stmt) Linked Placed (Made FieldExpr) (Made Step) (Made ItemKind) (Made Arm) (Made Block) (Made Branch) (Made Condition) (Made Item)
    stmt_made link_made own_made field_made step_made kind_made arm_made block_made branch_made condition_made item_made y

abbrev pub kind_own : KindNode → Parts ItemKind-F
kind_own y = fold.map-ItemKind Stmt Link Expr FieldExpr Step ItemKind Arm Block Branch Condition Item
    (Made Stmt) Linked Placed (Made FieldExpr) (Made Step) (Made ItemKind) (Made Arm) (Made Block) (Made Branch) (Made Condition) (Made Item)
    own_stmt own_link own own_field own_step own_kind own_arm own_block own_branch own_condition own_item y

pub kind_own_is : (y : KindNode) → own_kind (views.roll-ItemKind y) ≡ kind_made (kind_own y)
unfolding own
kind_own_is y = fold.fold-roll-ItemKind (Made Stmt) Linked Placed (Made FieldExpr) (Made Step) (Made ItemKind) (Made Arm) (Made Block) (Made Branch) (Made Condition) (Made Item)
    stmt_made link_made own_made field_made step_made kind_made arm_made block_made branch_made condition_made item_made y

abbrev pub arm_own : ArmNode → Parts Arm-F
arm_own y = fold.map-Arm Stmt Link Expr FieldExpr Step ItemKind Arm Block Branch Condition Item
    (Made Stmt) Linked Placed (Made FieldExpr) (Made Step) (Made ItemKind) (Made Arm) (Made Block) (Made Branch) (Made Condition) (Made Item)
    own_stmt own_link own own_field own_step own_kind own_arm own_block own_branch own_condition own_item y

pub arm_own_is : (y : ArmNode) → own_arm (views.roll-Arm y) ≡ arm_made (arm_own y)
unfolding own
arm_own_is y = fold.fold-roll-Arm (Made Stmt) Linked Placed (Made FieldExpr) (Made Step) (Made ItemKind) (Made Arm) (Made Block) (Made Branch) (Made Condition) (Made Item)
    stmt_made link_made own_made field_made step_made kind_made arm_made block_made branch_made condition_made item_made y

abbrev pub block_own : BlockNode → Parts Block-F
block_own y = fold.map-Block Stmt Link Expr FieldExpr Step ItemKind Arm Block Branch Condition Item
    (Made Stmt) Linked Placed (Made FieldExpr) (Made Step) (Made ItemKind) (Made Arm) (Made Block) (Made Branch) (Made Condition) (Made Item)
    own_stmt own_link own own_field own_step own_kind own_arm own_block own_branch own_condition own_item y

pub block_own_is : (y : BlockNode) → own_block (views.roll-Block y) ≡ block_made (block_own y)
unfolding own
block_own_is y = fold.fold-roll-Block (Made Stmt) Linked Placed (Made FieldExpr) (Made Step) (Made ItemKind) (Made Arm) (Made Block) (Made Branch) (Made Condition) (Made Item)
    stmt_made link_made own_made field_made step_made kind_made arm_made block_made branch_made condition_made item_made y

abbrev pub branch_own : BranchNode → Parts Branch-F
branch_own y = fold.map-Branch Stmt Link Expr FieldExpr Step ItemKind Arm Block Branch Condition Item
    (Made Stmt) Linked Placed (Made FieldExpr) (Made Step) (Made ItemKind) (Made Arm) (Made Block) (Made Branch) (Made Condition) (Made Item)
    own_stmt own_link own own_field own_step own_kind own_arm own_block own_branch own_condition own_item y

pub branch_own_is : (y : BranchNode) → own_branch (views.roll-Branch y) ≡ branch_made (branch_own y)
unfolding own
branch_own_is y = fold.fold-roll-Branch (Made Stmt) Linked Placed (Made FieldExpr) (Made Step) (Made ItemKind) (Made Arm) (Made Block) (Made Branch) (Made Condition) (Made Item)
    stmt_made link_made own_made field_made step_made kind_made arm_made block_made branch_made condition_made item_made y

abbrev pub condition_own : ConditionNode → Parts Condition-F
condition_own y = fold.map-Condition Stmt Link Expr FieldExpr Step ItemKind Arm Block Branch Condition Item
    (Made Stmt) Linked Placed (Made FieldExpr) (Made Step) (Made ItemKind) (Made Arm) (Made Block) (Made Branch) (Made Condition) (Made Item)
    own_stmt own_link own own_field own_step own_kind own_arm own_block own_branch own_condition own_item y

pub condition_own_is : (y : ConditionNode) → own_condition (views.roll-Condition y) ≡ condition_made (condition_own y)
unfolding own
condition_own_is y = fold.fold-roll-Condition (Made Stmt) Linked Placed (Made FieldExpr) (Made Step) (Made ItemKind) (Made Arm) (Made Block) (Made Branch) (Made Condition) (Made Item)
    stmt_made link_made own_made field_made step_made kind_made arm_made block_made branch_made condition_made item_made y

abbrev pub item_own : ItemNode → Parts Item-F
item_own y = fold.map-Item Stmt Link Expr FieldExpr Step ItemKind Arm Block Branch Condition Item
    (Made Stmt) Linked Placed (Made FieldExpr) (Made Step) (Made ItemKind) (Made Arm) (Made Block) (Made Branch) (Made Condition) (Made Item)
    own_stmt own_link own own_field own_step own_kind own_arm own_block own_branch own_condition own_item y

pub item_own_is : (y : ItemNode) → own_item (views.roll-Item y) ≡ item_made (item_own y)
unfolding own
item_own_is y = fold.fold-roll-Item (Made Stmt) Linked Placed (Made FieldExpr) (Made Step) (Made ItemKind) (Made Arm) (Made Block) (Made Branch) (Made Condition) (Made Item)
    stmt_made link_made own_made field_made step_made kind_made arm_made block_made branch_made condition_made item_made y
