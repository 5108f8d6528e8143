-- Nodes of code that tell their units, and layers of such nodes: expressions, blocks and items are one family.
use Rattle.lay_code.specs.nodes.Code.{about_arm, about_block, about_branch, about_condition, about_expr, about_field_expr, about_link, about_step, about_stmt, told_of_item, told_of_kind}
use Rattle.lay_code.specs.nodes.Layers.{ArmNode, BlockNode, BranchNode, ConditionNode, ExprNode, FieldNode, ItemNode, KindNode, LinkNode, StepNode, StmtNode}
use Rattle.lay_code.specs.declared.blocks.Arm.{Arm}
use Rattle.lay_code.specs.declared.blocks.Block.{Block}
use Rattle.lay_code.specs.declared.blocks.Branch.{Branch}
use Rattle.lay_code.specs.declared.blocks.Stmt.{Stmt}
use Rattle.lay_code.specs.declared.blocks.Stmt.TheFolds as fold
use Rattle.lay_code.specs.declared.blocks.Stmt.TheOpen.{Arm-F, Block-F, Branch-F, Condition-F, Expr-F, FieldExpr-F, Item-F, ItemKind-F, Link-F, Step-F, Stmt-F}
use Rattle.lay_code.specs.declared.conditions.Condition.{Condition}
use Rattle.lay_code.specs.declared.conditions.Link.{Link}
use Rattle.lay_code.specs.declared.exprs.Expr.{Expr}
use Rattle.lay_code.specs.declared.exprs.FieldExpr.{FieldExpr}
use Rattle.lay_code.specs.declared.exprs.Step.{Step}
use Rattle.lay_code.specs.declared.item.Item.{Item}
use Rattle.lay_code.specs.declared.item.ItemKind.{ItemKind}
use Rattle.lay_map.proofs.nodes.ArmKinds.{ArmTells}
use Rattle.lay_map.proofs.nodes.BlockKinds.{BlockTells, BranchTells, ConditionTells, ItemTells, LinkTells, StmtTells}
use Rattle.lay_map.proofs.nodes.ExprParts.{ExprTells, FieldTells, StepTells}
use Rattle.lay_map.proofs.nodes.ItemKinds.{KindTells}

-- ---- each node

abbrev pub StmtIs : Stmt → Type 0
StmtIs x = StmtTells (about_stmt x)

abbrev pub LinkIs : Link → Type 0
LinkIs x = LinkTells (about_link x)

abbrev pub ExprIs : Expr → Type 0
ExprIs x = ExprTells (about_expr x)

abbrev pub FieldIs : FieldExpr → Type 0
FieldIs x = FieldTells (about_field_expr x)

abbrev pub StepIs : Step → Type 0
StepIs x = StepTells (about_step x)

abbrev pub KindIs : ItemKind → Type 0
KindIs x = KindTells (told_of_kind x)

abbrev pub ArmIs : Arm → Type 0
ArmIs x = ArmTells (about_arm x)

abbrev pub BlockIs : Block → Type 0
BlockIs x = BlockTells (about_block x)

abbrev pub BranchIs : Branch → Type 0
BranchIs x = BranchTells (about_branch x)

abbrev pub ConditionIs : Condition → Type 0
ConditionIs x = ConditionTells (about_condition x)

abbrev pub ItemIs : Item → Type 0
ItemIs x = ItemTells (told_of_item x)

-- a node that tells its units
abbrev pub KeptStmt : Type 0
KeptStmt = (x : Stmt) × StmtIs x

abbrev pub KeptLink : Type 0
KeptLink = (x : Link) × LinkIs x

abbrev pub KeptExpr : Type 0
KeptExpr = (x : Expr) × ExprIs x

abbrev pub KeptField : Type 0
KeptField = (x : FieldExpr) × FieldIs x

abbrev pub KeptStep : Type 0
KeptStep = (x : Step) × StepIs x

abbrev pub KeptKind : Type 0
KeptKind = (x : ItemKind) × KindIs x

abbrev pub KeptArm : Type 0
KeptArm = (x : Arm) × ArmIs x

abbrev pub KeptBlock : Type 0
KeptBlock = (x : Block) × BlockIs x

abbrev pub KeptBranch : Type 0
KeptBranch = (x : Branch) × BranchIs x

abbrev pub KeptCondition : Type 0
KeptCondition = (x : Condition) × ConditionIs x

abbrev pub KeptItem : Type 0
KeptItem = (x : Item) × ItemIs x

-- what stands in a node, where the nodes within it do so
abbrev pub Kept : (Type 0 → Type 0 → Type 0 → Type 0 → Type 0 → Type 0 → Type 0 → Type 0 → Type 0 → Type 0 → Type 0 → Type 0) → Type 0
Kept F = F KeptStmt KeptLink KeptExpr KeptField KeptStep KeptKind KeptArm KeptBlock KeptBranch KeptCondition KeptItem

abbrev pub stmt_layer : Kept Stmt-F → StmtNode
stmt_layer y = fold.map-Stmt KeptStmt KeptLink KeptExpr KeptField KeptStep KeptKind KeptArm KeptBlock KeptBranch KeptCondition KeptItem
    Stmt Link Expr FieldExpr Step ItemKind Arm Block Branch Condition Item
    (λ y. y.0) (λ y. y.0) (λ y. y.0) (λ y. y.0) (λ y. y.0) (λ y. y.0) (λ y. y.0) (λ y. y.0) (λ y. y.0) (λ y. y.0) (λ y. y.0) y

abbrev pub expr_layer : Kept Expr-F → ExprNode
expr_layer y = fold.map-Expr KeptStmt KeptLink KeptExpr KeptField KeptStep KeptKind KeptArm KeptBlock KeptBranch KeptCondition KeptItem
    Stmt Link Expr FieldExpr Step ItemKind Arm Block Branch Condition Item
    (λ y. y.0) (λ y. y.0) (λ y. y.0) (λ y. y.0) (λ y. y.0) (λ y. y.0) (λ y. y.0) (λ y. y.0) (λ y. y.0) (λ y. y.0) (λ y. y.0) y

abbrev pub field_layer : Kept FieldExpr-F → FieldNode
field_layer y = fold.map-FieldExpr KeptStmt KeptLink KeptExpr KeptField KeptStep KeptKind KeptArm KeptBlock KeptBranch KeptCondition KeptItem
    Stmt Link Expr FieldExpr Step ItemKind Arm Block Branch Condition Item
    (λ y. y.0) (λ y. y.0) (λ y. y.0) (λ y. y.0) (λ y. y.0) (λ y. y.0) (λ y. y.0) (λ y. y.0) (λ y. y.0) (λ y. y.0) (λ y. y.0) y

abbrev pub step_layer : Kept Step-F → StepNode
step_layer y = fold.map-Step KeptStmt KeptLink KeptExpr KeptField KeptStep KeptKind KeptArm KeptBlock KeptBranch KeptCondition KeptItem
    Stmt Link Expr FieldExpr Step ItemKind Arm Block Branch Condition Item
    (λ y. y.0) (λ y. y.0) (λ y. y.0) (λ y. y.0) (λ y. y.0) (λ y. y.0) (λ y. y.0) (λ y. y.0) (λ y. y.0) (λ y. y.0) (λ y. y.0) y

abbrev pub kind_layer : Kept ItemKind-F → KindNode
kind_layer y = fold.map-ItemKind KeptStmt KeptLink KeptExpr KeptField KeptStep KeptKind KeptArm KeptBlock KeptBranch KeptCondition KeptItem
    Stmt Link Expr FieldExpr Step ItemKind Arm Block Branch Condition Item
    (λ y. y.0) (λ y. y.0) (λ y. y.0) (λ y. y.0) (λ y. y.0) (λ y. y.0) (λ y. y.0) (λ y. y.0) (λ y. y.0) (λ y. y.0) (λ y. y.0) y

abbrev pub arm_layer : Kept Arm-F → ArmNode
arm_layer y = fold.map-Arm KeptStmt KeptLink KeptExpr KeptField KeptStep KeptKind KeptArm KeptBlock KeptBranch KeptCondition KeptItem
    Stmt Link Expr FieldExpr Step ItemKind Arm Block Branch Condition Item
    (λ y. y.0) (λ y. y.0) (λ y. y.0) (λ y. y.0) (λ y. y.0) (λ y. y.0) (λ y. y.0) (λ y. y.0) (λ y. y.0) (λ y. y.0) (λ y. y.0) y

abbrev pub block_layer : Kept Block-F → BlockNode
block_layer y = fold.map-Block KeptStmt KeptLink KeptExpr KeptField KeptStep KeptKind KeptArm KeptBlock KeptBranch KeptCondition KeptItem
    Stmt Link Expr FieldExpr Step ItemKind Arm Block Branch Condition Item
    (λ y. y.0) (λ y. y.0) (λ y. y.0) (λ y. y.0) (λ y. y.0) (λ y. y.0) (λ y. y.0) (λ y. y.0) (λ y. y.0) (λ y. y.0) (λ y. y.0) y

abbrev pub branch_layer : Kept Branch-F → BranchNode
branch_layer y = fold.map-Branch KeptStmt KeptLink KeptExpr KeptField KeptStep KeptKind KeptArm KeptBlock KeptBranch KeptCondition KeptItem
    Stmt Link Expr FieldExpr Step ItemKind Arm Block Branch Condition Item
    (λ y. y.0) (λ y. y.0) (λ y. y.0) (λ y. y.0) (λ y. y.0) (λ y. y.0) (λ y. y.0) (λ y. y.0) (λ y. y.0) (λ y. y.0) (λ y. y.0) y

abbrev pub link_layer : Kept Link-F → LinkNode
link_layer y = fold.map-Link KeptStmt KeptLink KeptExpr KeptField KeptStep KeptKind KeptArm KeptBlock KeptBranch KeptCondition KeptItem
    Stmt Link Expr FieldExpr Step ItemKind Arm Block Branch Condition Item
    (λ y. y.0) (λ y. y.0) (λ y. y.0) (λ y. y.0) (λ y. y.0) (λ y. y.0) (λ y. y.0) (λ y. y.0) (λ y. y.0) (λ y. y.0) (λ y. y.0) y

abbrev pub condition_layer : Kept Condition-F → ConditionNode
condition_layer y = fold.map-Condition KeptStmt KeptLink KeptExpr KeptField KeptStep KeptKind KeptArm KeptBlock KeptBranch KeptCondition KeptItem
    Stmt Link Expr FieldExpr Step ItemKind Arm Block Branch Condition Item
    (λ y. y.0) (λ y. y.0) (λ y. y.0) (λ y. y.0) (λ y. y.0) (λ y. y.0) (λ y. y.0) (λ y. y.0) (λ y. y.0) (λ y. y.0) (λ y. y.0) y

abbrev pub item_layer : Kept Item-F → ItemNode
item_layer y = fold.map-Item KeptStmt KeptLink KeptExpr KeptField KeptStep KeptKind KeptArm KeptBlock KeptBranch KeptCondition KeptItem
    Stmt Link Expr FieldExpr Step ItemKind Arm Block Branch Condition Item
    (λ y. y.0) (λ y. y.0) (λ y. y.0) (λ y. y.0) (λ y. y.0) (λ y. y.0) (λ y. y.0) (λ y. y.0) (λ y. y.0) (λ y. y.0) (λ y. y.0) y
