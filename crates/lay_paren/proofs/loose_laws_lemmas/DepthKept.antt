-- How deep a node is, how deep it is enclosed, and layers of nodes that are enclosed within the bound.
use Rattle.std.proofs.Common.{ℕ, ◌+◌, ◌*◌, ◌≤◌, true}
use Rattle.lay_form.specs.Depth.{least_depth}
use Rattle.lay_code.specs.nodes.Code.{about_block, about_condition, about_field_expr, form_of_item}
use Rattle.lay_code.specs.nodes.Layers.{ArmNode, BlockNode, BranchNode, ConditionNode, ExprNode, FieldNode, ItemNode, KindNode, LinkNode, StepNode, StmtNode}
use Rattle.lay_code.specs.declared.blocks.Arm.{Arm}
use Rattle.lay_code.specs.declared.blocks.Block.{Block}
use Rattle.lay_code.specs.declared.blocks.Branch.{Branch}
use Rattle.lay_code.specs.declared.blocks.Stmt.{Stmt}
use Rattle.lay_code.specs.declared.blocks.Stmt.TheFolds as fold
use Rattle.lay_code.specs.declared.blocks.Stmt.TheOpen.{Arm-F, Block-F, Branch-F, Condition-F, Expr-F, FieldExpr-F, Item-F, ItemKind-F, Link-F, Step-F, Stmt-F}
use Rattle.lay_code.specs.declared.conditions.Condition.{Condition}
use Rattle.lay_code.specs.declared.conditions.Link.{Link}
use Rattle.lay_code.specs.declared.exprs.Expr.{Expr}
use Rattle.lay_code.specs.declared.exprs.FieldExpr.{FieldExpr}
use Rattle.lay_code.specs.declared.exprs.Step.{Step}
use Rattle.lay_code.specs.declared.item.Item.{Item}
use Rattle.lay_code.specs.declared.item.ItemKind.{ItemKind}
use Rattle.lay_paren_defs.specs.Enclosed.{enclosed, enclosed_arm, enclosed_block, enclosed_branch, enclosed_condition, enclosed_field, enclosed_item, enclosed_kind, enclosed_link, enclosed_step, enclosed_stmt}
use Rattle.lay_depth.specs.Parts.{arm_form, branch_form, kind_need, link_form, step_form}
use Rattle.lay_depth.proofs.BlockLemmas.{stmt_told}
use Rattle.lay_depth.proofs.ExprLemmas.{expr_told}

-- ---- what a node needs

abbrev pub stmt_depth : Stmt → ℕ
stmt_depth x = least_depth (stmt_told x)

abbrev pub link_depth : Link → ℕ
link_depth x = least_depth (link_form x)

abbrev pub expr_depth : Expr → ℕ
expr_depth x = least_depth (expr_told x)

abbrev pub field_depth : FieldExpr → ℕ
field_depth x = least_depth (about_field_expr x).form

abbrev pub step_depth : Step → ℕ
step_depth x = least_depth (step_form x)

abbrev pub kind_depth : ItemKind → ℕ
kind_depth x = kind_need x

abbrev pub arm_depth : Arm → ℕ
arm_depth x = least_depth (arm_form x)

abbrev pub block_depth : Block → ℕ
block_depth x = least_depth ((about_block x).form true)

abbrev pub branch_depth : Branch → ℕ
branch_depth x = least_depth (branch_form x)

abbrev pub condition_depth : Condition → ℕ
condition_depth x = least_depth (about_condition x).form

abbrev pub item_depth : Item → ℕ
item_depth x = least_depth (form_of_item x)

-- ---- nodes that need no more than this when they are enclosed

-- at most twice as much, and one more where a part's parentheses aren't within a level of the node's own
abbrev pub ExprDeep : Expr → Type 0
ExprDeep x = expr_depth (enclosed x) ≤ 2 * expr_depth x

abbrev pub StmtDeep : Stmt → Type 0
StmtDeep x = stmt_depth (enclosed_stmt x) ≤ 2 * stmt_depth x + 1

abbrev pub LinkDeep : Link → Type 0
LinkDeep x = link_depth (enclosed_link x) ≤ 2 * link_depth x + 1

abbrev pub FieldDeep : FieldExpr → Type 0
FieldDeep x = field_depth (enclosed_field x) ≤ 2 * field_depth x + 1

abbrev pub StepDeep : Step → Type 0
StepDeep x = step_depth (enclosed_step x) ≤ 2 * step_depth x + 1

abbrev pub KindDeep : ItemKind → Type 0
KindDeep x = kind_depth (enclosed_kind x) ≤ 2 * kind_depth x + 1

abbrev pub ArmDeep : Arm → Type 0
ArmDeep x = arm_depth (enclosed_arm x) ≤ 2 * arm_depth x + 1

abbrev pub BlockDeep : Block → Type 0
BlockDeep x = block_depth (enclosed_block x) ≤ 2 * block_depth x + 1

abbrev pub BranchDeep : Branch → Type 0
BranchDeep x = branch_depth (enclosed_branch x) ≤ 2 * branch_depth x + 1

abbrev pub ConditionDeep : Condition → Type 0
ConditionDeep x = condition_depth (enclosed_condition x) ≤ 2 * condition_depth x + 1

abbrev pub ItemDeep : Item → Type 0
ItemDeep x = item_depth (enclosed_item x) ≤ 2 * item_depth x + 1

abbrev pub DeepStmt : Type 0
DeepStmt = (x : Stmt) × StmtDeep x

abbrev pub DeepLink : Type 0
DeepLink = (x : Link) × LinkDeep x

abbrev pub DeepExpr : Type 0
DeepExpr = (x : Expr) × ExprDeep x

abbrev pub DeepField : Type 0
DeepField = (x : FieldExpr) × FieldDeep x

abbrev pub DeepStep : Type 0
DeepStep = (x : Step) × StepDeep x

abbrev pub DeepKind : Type 0
DeepKind = (x : ItemKind) × KindDeep x

abbrev pub DeepArm : Type 0
DeepArm = (x : Arm) × ArmDeep x

abbrev pub DeepBlock : Type 0
DeepBlock = (x : Block) × BlockDeep x

abbrev pub DeepBranch : Type 0
DeepBranch = (x : Branch) × BranchDeep x

abbrev pub DeepCondition : Type 0
DeepCondition = (x : Condition) × ConditionDeep x

abbrev pub DeepItem : Type 0
DeepItem = (x : Item) × ItemDeep x

-- what stands in a node, where this holds of the nodes within it
abbrev pub AllDeep : (Type 0 → Type 0 → Type 0 → Type 0 → Type 0 → Type 0 → Type 0 → Type 0 → Type 0 → Type 0 → Type 0 → Type 0) → Type 0
AllDeep F = F DeepStmt DeepLink DeepExpr DeepField DeepStep DeepKind DeepArm DeepBlock DeepBranch DeepCondition DeepItem

abbrev pub stmt_layer : AllDeep Stmt-F → StmtNode
stmt_layer y = fold.map-Stmt DeepStmt DeepLink DeepExpr DeepField DeepStep DeepKind DeepArm DeepBlock DeepBranch DeepCondition DeepItem
    Stmt Link Expr FieldExpr Step ItemKind Arm Block Branch Condition Item
    (λ y. y.0) (λ y. y.0) (λ y. y.0) (λ y. y.0) (λ y. y.0) (λ y. y.0) (λ y. y.0) (λ y. y.0) (λ y. y.0) (λ y. y.0) (λ y. y.0) y

abbrev pub link_layer : AllDeep Link-F → LinkNode
link_layer y = fold.map-Link DeepStmt DeepLink DeepExpr DeepField DeepStep DeepKind DeepArm DeepBlock DeepBranch DeepCondition DeepItem
    Stmt Link Expr FieldExpr Step ItemKind Arm Block Branch Condition Item
    (λ y. y.0) (λ y. y.0) (λ y. y.0) (λ y. y.0) (λ y. y.0) (λ y. y.0) (λ y. y.0) (λ y. y.0) (λ y. y.0) (λ y. y.0) (λ y. y.0) y

abbrev pub expr_layer : AllDeep Expr-F → ExprNode
expr_layer y = fold.map-Expr DeepStmt DeepLink DeepExpr DeepField DeepStep DeepKind DeepArm DeepBlock DeepBranch DeepCondition DeepItem
    Stmt Link Expr FieldExpr Step ItemKind Arm Block Branch Condition Item
    (λ y. y.0) (λ y. y.0) (λ y. y.0) (λ y. y.0) (λ y. y.0) (λ y. y.0) (λ y. y.0) (λ y. y.0) (λ y. y.0) (λ y. y.0) (λ y. y.0) y

abbrev pub field_layer : AllDeep FieldExpr-F → FieldNode
field_layer y = fold.map-FieldExpr DeepStmt DeepLink DeepExpr DeepField DeepStep DeepKind DeepArm DeepBlock DeepBranch DeepCondition DeepItem
    Stmt Link Expr FieldExpr Step ItemKind Arm Block Branch Condition Item
    (λ y. y.0) (λ y. y.0) (λ y. y.0) (λ y. y.0) (λ y. y.0) (λ y. y.0) (λ y. y.0) (λ y. y.0) (λ y. y.0) (λ y. y.0) (λ y. y.0) y

abbrev pub step_layer : AllDeep Step-F → StepNode
step_layer y = fold.map-Step DeepStmt DeepLink DeepExpr DeepField DeepStep DeepKind DeepArm DeepBlock DeepBranch DeepCondition DeepItem
    Stmt Link Expr FieldExpr Step ItemKind Arm Block Branch Condition Item
    (λ y. y.0) (λ y. y.0) (λ y. y.0) (λ y. y.0) (λ y. y.0) (λ y. y.0) (λ y. y.0) (λ y. y.0) (λ y. y.0) (λ y. y.0) (λ y. y.0) y

abbrev pub kind_layer : AllDeep ItemKind-F → KindNode
kind_layer y = fold.map-ItemKind DeepStmt DeepLink DeepExpr DeepField DeepStep DeepKind DeepArm DeepBlock DeepBranch DeepCondition DeepItem
    Stmt Link Expr FieldExpr Step ItemKind Arm Block Branch Condition Item
    (λ y. y.0) (λ y. y.0) (λ y. y.0) (λ y. y.0) (λ y. y.0) (λ y. y.0) (λ y. y.0) (λ y. y.0) (λ y. y.0) (λ y. y.0) (λ y. y.0) y

abbrev pub arm_layer : AllDeep Arm-F → ArmNode
arm_layer y = fold.map-Arm DeepStmt DeepLink DeepExpr DeepField DeepStep DeepKind DeepArm DeepBlock DeepBranch DeepCondition DeepItem
    Stmt Link Expr FieldExpr Step ItemKind Arm Block Branch Condition Item
    (λ y. y.0) (λ y. y.0) (λ y. y.0) (λ y. y.0) (λ y. y.0) (λ y. y.0) (λ y. y.0) (λ y. y.0) (λ y. y.0) (λ y. y.0) (λ y. y.0) y

abbrev pub block_layer : AllDeep Block-F → BlockNode
block_layer y = fold.map-Block DeepStmt DeepLink DeepExpr DeepField DeepStep DeepKind DeepArm DeepBlock DeepBranch DeepCondition DeepItem
    Stmt Link Expr FieldExpr Step ItemKind Arm Block Branch Condition Item
    (λ y. y.0) (λ y. y.0) (λ y. y.0) (λ y. y.0) (λ y. y.0) (λ y. y.0) (λ y. y.0) (λ y. y.0) (λ y. y.0) (λ y. y.0) (λ y. y.0) y

abbrev pub branch_layer : AllDeep Branch-F → BranchNode
branch_layer y = fold.map-Branch DeepStmt DeepLink DeepExpr DeepField DeepStep DeepKind DeepArm DeepBlock DeepBranch DeepCondition DeepItem
    Stmt Link Expr FieldExpr Step ItemKind Arm Block Branch Condition Item
    (λ y. y.0) (λ y. y.0) (λ y. y.0) (λ y. y.0) (λ y. y.0) (λ y. y.0) (λ y. y.0) (λ y. y.0) (λ y. y.0) (λ y. y.0) (λ y. y.0) y

abbrev pub condition_layer : AllDeep Condition-F → ConditionNode
condition_layer y = fold.map-Condition DeepStmt DeepLink DeepExpr DeepField DeepStep DeepKind DeepArm DeepBlock DeepBranch DeepCondition DeepItem
    Stmt Link Expr FieldExpr Step ItemKind Arm Block Branch Condition Item
    (λ y. y.0) (λ y. y.0) (λ y. y.0) (λ y. y.0) (λ y. y.0) (λ y. y.0) (λ y. y.0) (λ y. y.0) (λ y. y.0) (λ y. y.0) (λ y. y.0) y

abbrev pub item_layer : AllDeep Item-F → ItemNode
item_layer y = fold.map-Item DeepStmt DeepLink DeepExpr DeepField DeepStep DeepKind DeepArm DeepBlock DeepBranch DeepCondition DeepItem
    Stmt Link Expr FieldExpr Step ItemKind Arm Block Branch Condition Item
    (λ y. y.0) (λ y. y.0) (λ y. y.0) (λ y. y.0) (λ y. y.0) (λ y. y.0) (λ y. y.0) (λ y. y.0) (λ y. y.0) (λ y. y.0) (λ y. y.0) y
