-- What each kind of node becomes with parentheses added, as a fold over the syntax tree.
use Rattle.lay_code.specs.nodes.Layers.{ArmNode, BlockNode, BranchNode, ConditionNode, ExprNode, FieldNode, ItemNode, KindNode, LinkNode, StepNode, StmtNode}
use Rattle.lay_code.specs.declared.blocks.Arm.{Arm}
use Rattle.lay_code.specs.declared.blocks.Block.{Block}
use Rattle.lay_code.specs.declared.blocks.Branch.{Branch}
use Rattle.lay_code.specs.declared.blocks.Stmt.{Stmt}
use Rattle.lay_code.specs.declared.blocks.Stmt.TheFolds as fold
use Rattle.lay_code.specs.declared.blocks.Stmt.TheOpen.{Arm-F, Block-F, Branch-F, Condition-F, Expr-F, FieldExpr-F, Item-F, ItemKind-F, Link-F, Step-F, Stmt-F}
use Rattle.lay_code.specs.declared.conditions.Condition.{Condition}
use Rattle.lay_code.specs.declared.conditions.Link.{Link}
use Rattle.lay_code.specs.declared.exprs.Expr.{Expr}
use Rattle.lay_code.specs.declared.exprs.FieldExpr.{FieldExpr}
use Rattle.lay_code.specs.declared.exprs.Step.{Step}
use Rattle.lay_code.specs.declared.item.Item.{Item}
use Rattle.lay_code.specs.declared.item.ItemKind.{ItemKind}
use Rattle.lay_paren.specs.Least.{least_made, made_of}
use Rattle.lay_paren.specs.Made.{Made}
use Rattle.lay_paren.specs.Parts.{Linked, Parts, Placed, arm_made, block_made, branch_made, condition_made, field_made, item_made, kind_made, link_made, step_made, stmt_made}

abbrev pub made_stmt : Stmt → Made Stmt
made_stmt = fold.fold-Stmt (Made Stmt) Linked Placed (Made FieldExpr) (Made Step) (Made ItemKind) (Made Arm) (Made Block) (Made Branch) (Made Condition) (Made Item)
    stmt_made link_made least_made field_made step_made kind_made arm_made block_made branch_made condition_made item_made

abbrev pub made_link : Link → Linked
made_link = fold.fold-Link (Made Stmt) Linked Placed (Made FieldExpr) (Made Step) (Made ItemKind) (Made Arm) (Made Block) (Made Branch) (Made Condition) (Made Item)
    stmt_made link_made least_made field_made step_made kind_made arm_made block_made branch_made condition_made item_made

abbrev pub made_field : FieldExpr → Made FieldExpr
made_field = fold.fold-FieldExpr (Made Stmt) Linked Placed (Made FieldExpr) (Made Step) (Made ItemKind) (Made Arm) (Made Block) (Made Branch) (Made Condition) (Made Item)
    stmt_made link_made least_made field_made step_made kind_made arm_made block_made branch_made condition_made item_made

abbrev pub made_step : Step → Made Step
made_step = fold.fold-Step (Made Stmt) Linked Placed (Made FieldExpr) (Made Step) (Made ItemKind) (Made Arm) (Made Block) (Made Branch) (Made Condition) (Made Item)
    stmt_made link_made least_made field_made step_made kind_made arm_made block_made branch_made condition_made item_made

abbrev pub made_kind : ItemKind → Made ItemKind
made_kind = fold.fold-ItemKind (Made Stmt) Linked Placed (Made FieldExpr) (Made Step) (Made ItemKind) (Made Arm) (Made Block) (Made Branch) (Made Condition) (Made Item)
    stmt_made link_made least_made field_made step_made kind_made arm_made block_made branch_made condition_made item_made

abbrev pub made_arm : Arm → Made Arm
made_arm = fold.fold-Arm (Made Stmt) Linked Placed (Made FieldExpr) (Made Step) (Made ItemKind) (Made Arm) (Made Block) (Made Branch) (Made Condition) (Made Item)
    stmt_made link_made least_made field_made step_made kind_made arm_made block_made branch_made condition_made item_made

abbrev pub made_block : Block → Made Block
made_block = fold.fold-Block (Made Stmt) Linked Placed (Made FieldExpr) (Made Step) (Made ItemKind) (Made Arm) (Made Block) (Made Branch) (Made Condition) (Made Item)
    stmt_made link_made least_made field_made step_made kind_made arm_made block_made branch_made condition_made item_made

abbrev pub made_branch : Branch → Made Branch
made_branch = fold.fold-Branch (Made Stmt) Linked Placed (Made FieldExpr) (Made Step) (Made ItemKind) (Made Arm) (Made Block) (Made Branch) (Made Condition) (Made Item)
    stmt_made link_made least_made field_made step_made kind_made arm_made block_made branch_made condition_made item_made

abbrev pub made_condition : Condition → Made Condition
made_condition = fold.fold-Condition (Made Stmt) Linked Placed (Made FieldExpr) (Made Step) (Made ItemKind) (Made Arm) (Made Block) (Made Branch) (Made Condition) (Made Item)
    stmt_made link_made least_made field_made step_made kind_made arm_made block_made branch_made condition_made item_made

abbrev pub made_item : Item → Made Item
made_item = fold.fold-Item (Made Stmt) Linked Placed (Made FieldExpr) (Made Step) (Made ItemKind) (Made Arm) (Made Block) (Made Branch) (Made Condition) (Made Item)
    stmt_made link_made least_made field_made step_made kind_made arm_made block_made branch_made condition_made item_made

-- ---- the parts of a node, as they are made

abbrev pub stmt_parts : StmtNode → Parts Stmt-F
stmt_parts y = fold.map-Stmt Stmt Link Expr FieldExpr Step ItemKind Arm Block Branch Condition Item
    (Made Stmt) Linked Placed (Made FieldExpr) (Made Step) (Made ItemKind) (Made Arm) (Made Block) (Made Branch) (Made Condition) (Made Item)
    made_stmt made_link made_of made_field made_step made_kind made_arm made_block made_branch made_condition made_item y

abbrev pub link_parts : LinkNode → Parts Link-F
link_parts y = fold.map-Link Stmt Link Expr FieldExpr Step ItemKind Arm Block Branch Condition Item
    (Made Stmt) Linked Placed (Made FieldExpr) (Made Step) (Made ItemKind) (Made Arm) (Made Block) (Made Branch) (Made Condition) (Made Item)
    made_stmt made_link made_of made_field made_step made_kind made_arm made_block made_branch made_condition made_item y

abbrev pub expr_parts : ExprNode → Parts Expr-F
expr_parts y = fold.map-Expr Stmt Link Expr FieldExpr Step ItemKind Arm Block Branch Condition Item
    (Made Stmt) Linked Placed (Made FieldExpr) (Made Step) (Made ItemKind) (Made Arm) (Made Block) (Made Branch) (Made Condition) (Made Item)
    made_stmt made_link made_of made_field made_step made_kind made_arm made_block made_branch made_condition made_item y

abbrev pub field_parts : FieldNode → Parts FieldExpr-F
field_parts y = fold.map-FieldExpr Stmt Link Expr FieldExpr Step ItemKind Arm Block Branch Condition Item
    (Made Stmt) Linked Placed (Made FieldExpr) (Made Step) (Made ItemKind) (Made Arm) (Made Block) (Made Branch) (Made Condition) (Made Item)
    made_stmt made_link made_of made_field made_step made_kind made_arm made_block made_branch made_condition made_item y

abbrev pub step_parts : StepNode → Parts Step-F
step_parts y = fold.map-Step Stmt Link Expr FieldExpr Step ItemKind Arm Block Branch Condition Item
    (Made Stmt) Linked Placed (Made FieldExpr) (Made Step) (Made ItemKind) (Made Arm) (Made Block) (Made Branch) (Made Condition) (Made Item)
    made_stmt made_link made_of made_field made_step made_kind made_arm made_block made_branch made_condition made_item y

abbrev pub kind_parts : KindNode → Parts ItemKind-F
kind_parts y = fold.map-ItemKind Stmt Link Expr FieldExpr Step ItemKind Arm Block Branch Condition Item
    (Made Stmt) Linked Placed (Made FieldExpr) (Made Step) (Made ItemKind) (Made Arm) (Made Block) (Made Branch) (Made Condition) (Made Item)
    made_stmt made_link made_of made_field made_step made_kind made_arm made_block made_branch made_condition made_item y

abbrev pub arm_parts : ArmNode → Parts Arm-F
arm_parts y = fold.map-Arm Stmt Link Expr FieldExpr Step ItemKind Arm Block Branch Condition Item
    (Made Stmt) Linked Placed (Made FieldExpr) (Made Step) (Made ItemKind) (Made Arm) (Made Block) (Made Branch) (Made Condition) (Made Item)
    made_stmt made_link made_of made_field made_step made_kind made_arm made_block made_branch made_condition made_item y

abbrev pub block_parts : BlockNode → Parts Block-F
block_parts y = fold.map-Block Stmt Link Expr FieldExpr Step ItemKind Arm Block Branch Condition Item
    (Made Stmt) Linked Placed (Made FieldExpr) (Made Step) (Made ItemKind) (Made Arm) (Made Block) (Made Branch) (Made Condition) (Made Item)
    made_stmt made_link made_of made_field made_step made_kind made_arm made_block made_branch made_condition made_item y

abbrev pub branch_parts : BranchNode → Parts Branch-F
branch_parts y = fold.map-Branch Stmt Link Expr FieldExpr Step ItemKind Arm Block Branch Condition Item
    (Made Stmt) Linked Placed (Made FieldExpr) (Made Step) (Made ItemKind) (Made Arm) (Made Block) (Made Branch) (Made Condition) (Made Item)
    made_stmt made_link made_of made_field made_step made_kind made_arm made_block made_branch made_condition made_item y

abbrev pub condition_parts : ConditionNode → Parts Condition-F
condition_parts y = fold.map-Condition Stmt Link Expr FieldExpr Step ItemKind Arm Block Branch Condition Item
    (Made Stmt) Linked Placed (Made FieldExpr) (Made Step) (Made ItemKind) (Made Arm) (Made Block) (Made Branch) (Made Condition) (Made Item)
    made_stmt made_link made_of made_field made_step made_kind made_arm made_block made_branch made_condition made_item y

abbrev pub item_parts : ItemNode → Parts Item-F
item_parts y = fold.map-Item Stmt Link Expr FieldExpr Step ItemKind Arm Block Branch Condition Item
    (Made Stmt) Linked Placed (Made FieldExpr) (Made Step) (Made ItemKind) (Made Arm) (Made Block) (Made Branch) (Made Condition) (Made Item)
    made_stmt made_link made_of made_field made_step made_kind made_arm made_block made_branch made_condition made_item y
