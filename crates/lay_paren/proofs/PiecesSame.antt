-- Nodes whose tokens are pieces exactly where they are without parentheses, and layers of such nodes.
use Rattle.std.proofs.Common.{◌≡◌, Bool}
use Rattle.lay_form.specs.Pieces.{are_pieces}
use Rattle.lay_node.specs.declared.vis.Vis.{Vis}
use Rattle.lay_code.specs.nodes.Code.{about_arm, about_block, about_branch, about_condition, about_expr, about_field_expr, about_link, about_step, about_stmt, told_of_item, told_of_kind}
use Rattle.lay_code.specs.nodes.Item.{kind_form}
use Rattle.lay_code.specs.nodes.Layers.{ArmNode, BlockNode, BranchNode, ConditionNode, ExprNode, FieldNode, ItemNode, KindNode, LinkNode, StepNode, StmtNode}
use Rattle.lay_code.specs.declared.blocks.Arm.{Arm}
use Rattle.lay_code.specs.declared.blocks.Block.{Block}
use Rattle.lay_code.specs.declared.blocks.Branch.{Branch}
use Rattle.lay_code.specs.declared.blocks.Stmt.{Stmt}
use Rattle.lay_code.specs.declared.blocks.Stmt.TheFolds as fold
use Rattle.lay_code.specs.declared.blocks.Stmt.TheOpen.{Arm-F, Block-F, Branch-F, Condition-F, Expr-F, FieldExpr-F, Item-F, ItemKind-F, Link-F, Step-F, Stmt-F}
use Rattle.lay_code.specs.declared.conditions.Condition.{Condition}
use Rattle.lay_code.specs.declared.conditions.Link.{Link}
use Rattle.lay_code.specs.declared.exprs.Expr.{Expr}
use Rattle.lay_code.specs.declared.exprs.FieldExpr.{FieldExpr}
use Rattle.lay_code.specs.declared.exprs.Step.{Step}
use Rattle.lay_code.specs.declared.item.Item.{Item}
use Rattle.lay_code.specs.declared.item.ItemKind.{ItemKind}
use Rattle.lay_paren.specs.Erased.{erase}
use Rattle.lay_paren.proofs.ErasedFolds.{arm_erased, block_erased, branch_erased, condition_erased, field_erased, item_erased, kind_erased, link_erased, step_erased, stmt_erased}

abbrev pub ExprSame : Expr → Type 0
ExprSame x = are_pieces (about_expr (erase x)).form ≡ are_pieces (about_expr x).form

abbrev pub StmtSame : Stmt → Type 0
StmtSame x = are_pieces (about_stmt (stmt_erased x)).form ≡ are_pieces (about_stmt x).form

abbrev pub LinkSame : Link → Type 0
LinkSame x = are_pieces (about_link (link_erased x)).form ≡ are_pieces (about_link x).form

abbrev pub FieldSame : FieldExpr → Type 0
FieldSame x = are_pieces (about_field_expr (field_erased x)).form ≡ are_pieces (about_field_expr x).form

abbrev pub StepSame : Step → Type 0
StepSame x = are_pieces (about_step (step_erased x)).form ≡ are_pieces (about_step x).form

abbrev pub KindSame : ItemKind → Type 0
KindSame x = (v : Vis) → are_pieces (kind_form v (told_of_kind (kind_erased x)).head (told_of_kind (kind_erased x)).tail)
    ≡ are_pieces (kind_form v (told_of_kind x).head (told_of_kind x).tail)

abbrev pub ArmSame : Arm → Type 0
ArmSame x = (last : Bool) → are_pieces ((about_arm (arm_erased x)).form last) ≡ are_pieces ((about_arm x).form last)

pub record BlockSame (x : Block) : Type 0 where
  pub form : (lead : Bool) → are_pieces ((about_block (block_erased x)).form lead) ≡ are_pieces ((about_block x).form lead)
  pub soft : are_pieces (about_block (block_erased x)).soft ≡ are_pieces (about_block x).soft

pub record BranchSame (x : Branch) : Type 0 where
  pub condition : are_pieces (about_branch (branch_erased x)).condition ≡ are_pieces (about_branch x).condition
  pub soft : are_pieces (about_branch (branch_erased x)).soft ≡ are_pieces (about_branch x).soft

abbrev pub ConditionSame : Condition → Type 0
ConditionSame x = are_pieces (about_condition (condition_erased x)).form ≡ are_pieces (about_condition x).form

abbrev pub ItemSame : Item → Type 0
ItemSame x = are_pieces (told_of_item (item_erased x)).form ≡ are_pieces (told_of_item x).form

abbrev pub SameStmt : Type 0
SameStmt = (x : Stmt) × StmtSame x

abbrev pub SameLink : Type 0
SameLink = (x : Link) × LinkSame x

abbrev pub SameExpr : Type 0
SameExpr = (x : Expr) × ExprSame x

abbrev pub SameField : Type 0
SameField = (x : FieldExpr) × FieldSame x

abbrev pub SameStep : Type 0
SameStep = (x : Step) × StepSame x

abbrev pub SameKind : Type 0
SameKind = (x : ItemKind) × KindSame x

abbrev pub SameArm : Type 0
SameArm = (x : Arm) × ArmSame x

abbrev pub SameBlock : Type 0
SameBlock = (x : Block) × BlockSame x

abbrev pub SameBranch : Type 0
SameBranch = (x : Branch) × BranchSame x

abbrev pub SameCondition : Type 0
SameCondition = (x : Condition) × ConditionSame x

abbrev pub SameItem : Type 0
SameItem = (x : Item) × ItemSame x

-- what stands in a node, where this holds of the nodes within it
abbrev pub Same : (Type 0 → Type 0 → Type 0 → Type 0 → Type 0 → Type 0 → Type 0 → Type 0 → Type 0 → Type 0 → Type 0 → Type 0) → Type 0
Same F = F SameStmt SameLink SameExpr SameField SameStep SameKind SameArm SameBlock SameBranch SameCondition SameItem

abbrev pub stmt_layer : Same Stmt-F → StmtNode
stmt_layer y = fold.map-Stmt SameStmt SameLink SameExpr SameField SameStep SameKind SameArm SameBlock SameBranch SameCondition SameItem
    Stmt Link Expr FieldExpr Step ItemKind Arm Block Branch Condition Item
    (λ y. y.0) (λ y. y.0) (λ y. y.0) (λ y. y.0) (λ y. y.0) (λ y. y.0) (λ y. y.0) (λ y. y.0) (λ y. y.0) (λ y. y.0) (λ y. y.0) y

abbrev pub link_layer : Same Link-F → LinkNode
link_layer y = fold.map-Link SameStmt SameLink SameExpr SameField SameStep SameKind SameArm SameBlock SameBranch SameCondition SameItem
    Stmt Link Expr FieldExpr Step ItemKind Arm Block Branch Condition Item
    (λ y. y.0) (λ y. y.0) (λ y. y.0) (λ y. y.0) (λ y. y.0) (λ y. y.0) (λ y. y.0) (λ y. y.0) (λ y. y.0) (λ y. y.0) (λ y. y.0) y

abbrev pub expr_layer : Same Expr-F → ExprNode
expr_layer y = fold.map-Expr SameStmt SameLink SameExpr SameField SameStep SameKind SameArm SameBlock SameBranch SameCondition SameItem
    Stmt Link Expr FieldExpr Step ItemKind Arm Block Branch Condition Item
    (λ y. y.0) (λ y. y.0) (λ y. y.0) (λ y. y.0) (λ y. y.0) (λ y. y.0) (λ y. y.0) (λ y. y.0) (λ y. y.0) (λ y. y.0) (λ y. y.0) y

abbrev pub field_layer : Same FieldExpr-F → FieldNode
field_layer y = fold.map-FieldExpr SameStmt SameLink SameExpr SameField SameStep SameKind SameArm SameBlock SameBranch SameCondition SameItem
    Stmt Link Expr FieldExpr Step ItemKind Arm Block Branch Condition Item
    (λ y. y.0) (λ y. y.0) (λ y. y.0) (λ y. y.0) (λ y. y.0) (λ y. y.0) (λ y. y.0) (λ y. y.0) (λ y. y.0) (λ y. y.0) (λ y. y.0) y

abbrev pub step_layer : Same Step-F → StepNode
step_layer y = fold.map-Step SameStmt SameLink SameExpr SameField SameStep SameKind SameArm SameBlock SameBranch SameCondition SameItem
    Stmt Link Expr FieldExpr Step ItemKind Arm Block Branch Condition Item
    (λ y. y.0) (λ y. y.0) (λ y. y.0) (λ y. y.0) (λ y. y.0) (λ y. y.0) (λ y. y.0) (λ y. y.0) (λ y. y.0) (λ y. y.0) (λ y. y.0) y

abbrev pub kind_layer : Same ItemKind-F → KindNode
kind_layer y = fold.map-ItemKind SameStmt SameLink SameExpr SameField SameStep SameKind SameArm SameBlock SameBranch SameCondition SameItem
    Stmt Link Expr FieldExpr Step ItemKind Arm Block Branch Condition Item
    (λ y. y.0) (λ y. y.0) (λ y. y.0) (λ y. y.0) (λ y. y.0) (λ y. y.0) (λ y. y.0) (λ y. y.0) (λ y. y.0) (λ y. y.0) (λ y. y.0) y

abbrev pub arm_layer : Same Arm-F → ArmNode
arm_layer y = fold.map-Arm SameStmt SameLink SameExpr SameField SameStep SameKind SameArm SameBlock SameBranch SameCondition SameItem
    Stmt Link Expr FieldExpr Step ItemKind Arm Block Branch Condition Item
    (λ y. y.0) (λ y. y.0) (λ y. y.0) (λ y. y.0) (λ y. y.0) (λ y. y.0) (λ y. y.0) (λ y. y.0) (λ y. y.0) (λ y. y.0) (λ y. y.0) y

abbrev pub block_layer : Same Block-F → BlockNode
block_layer y = fold.map-Block SameStmt SameLink SameExpr SameField SameStep SameKind SameArm SameBlock SameBranch SameCondition SameItem
    Stmt Link Expr FieldExpr Step ItemKind Arm Block Branch Condition Item
    (λ y. y.0) (λ y. y.0) (λ y. y.0) (λ y. y.0) (λ y. y.0) (λ y. y.0) (λ y. y.0) (λ y. y.0) (λ y. y.0) (λ y. y.0) (λ y. y.0) y

abbrev pub branch_layer : Same Branch-F → BranchNode
branch_layer y = fold.map-Branch SameStmt SameLink SameExpr SameField SameStep SameKind SameArm SameBlock SameBranch SameCondition SameItem
    Stmt Link Expr FieldExpr Step ItemKind Arm Block Branch Condition Item
    (λ y. y.0) (λ y. y.0) (λ y. y.0) (λ y. y.0) (λ y. y.0) (λ y. y.0) (λ y. y.0) (λ y. y.0) (λ y. y.0) (λ y. y.0) (λ y. y.0) y

abbrev pub condition_layer : Same Condition-F → ConditionNode
condition_layer y = fold.map-Condition SameStmt SameLink SameExpr SameField SameStep SameKind SameArm SameBlock SameBranch SameCondition SameItem
    Stmt Link Expr FieldExpr Step ItemKind Arm Block Branch Condition Item
    (λ y. y.0) (λ y. y.0) (λ y. y.0) (λ y. y.0) (λ y. y.0) (λ y. y.0) (λ y. y.0) (λ y. y.0) (λ y. y.0) (λ y. y.0) (λ y. y.0) y

abbrev pub item_layer : Same Item-F → ItemNode
item_layer y = fold.map-Item SameStmt SameLink SameExpr SameField SameStep SameKind SameArm SameBlock SameBranch SameCondition SameItem
    Stmt Link Expr FieldExpr Step ItemKind Arm Block Branch Condition Item
    (λ y. y.0) (λ y. y.0) (λ y. y.0) (λ y. y.0) (λ y. y.0) (λ y. y.0) (λ y. y.0) (λ y. y.0) (λ y. y.0) (λ y. y.0) (λ y. y.0) y
