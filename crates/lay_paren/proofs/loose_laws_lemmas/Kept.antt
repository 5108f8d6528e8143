-- What holds of each node that is enclosed: it is as good as it is loose, and without parentheses it is what it was; and layers of
-- such nodes: expressions, blocks and items are one family.
use Rattle.std.proofs.Common.{◌≡◌, Bool, false, is_some}
use Rattle.lay_node.specs.declared.heads.Site.{Site}
use Rattle.lay_node.specs.nodes.Facts.{Facts}
use Rattle.lay_code.specs.nodes.Bodies.{is_lone_body, is_macro}
use Rattle.lay_code.specs.nodes.Code.{about_arm, about_block, about_branch, about_condition, about_expr, about_field_expr, about_link, about_step, about_stmt, told_of_item, told_of_kind}
use Rattle.lay_code.specs.nodes.CodeFacts.{ArmFacts, BlockFacts, BranchFacts, ConditionFacts, ItemFacts, KindFacts, LinkFacts, StmtFacts}
use Rattle.lay_code.specs.nodes.Exprs.{ExprFacts, StepFacts}
use Rattle.lay_code.specs.nodes.Layers.{ArmNode, BlockNode, BranchNode, ConditionNode, ExprNode, FieldNode, ItemNode, KindNode, LinkNode, StepNode, StmtNode}
use Rattle.lay_code.specs.declared.blocks.Arm.{Arm}
use Rattle.lay_code.specs.declared.blocks.Block.{Block}
use Rattle.lay_code.specs.declared.blocks.Branch.{Branch}
use Rattle.lay_code.specs.declared.blocks.Stmt.{Stmt}
use Rattle.lay_code.specs.declared.blocks.Stmt.TheFolds as fold
use Rattle.lay_code.specs.declared.blocks.Stmt.TheOpen.{Arm-F, Block-F, Branch-F, Condition-F, Expr-F, FieldExpr-F, Item-F, ItemKind-F, Link-F, Step-F, Stmt-F}
use Rattle.lay_code.specs.declared.conditions.Condition.{Condition}
use Rattle.lay_code.specs.declared.conditions.Link.{Link}
use Rattle.lay_code.specs.declared.exprs.Expr.{Expr}
use Rattle.lay_code.specs.declared.exprs.FieldExpr.{FieldExpr}
use Rattle.lay_code.specs.declared.exprs.Step.{Step}
use Rattle.lay_code.specs.declared.item.Item.{Item}
use Rattle.lay_code.specs.declared.item.ItemKind.{ItemKind}
use Rattle.lay_paren_defs.specs.Enclosed.{enclosed, enclosed_arm, enclosed_block, enclosed_branch, enclosed_condition, enclosed_field, enclosed_item, enclosed_kind, enclosed_link, enclosed_step, enclosed_stmt}
use Rattle.lay_paren_defs.specs.loose.Loose.{loose_about}
use Rattle.lay_paren.specs.Erased.{erase}
use Rattle.lay_paren.proofs.ErasedFolds.{arm_erased, block_erased, branch_erased, condition_erased, field_erased, item_erased, kind_erased, link_erased, step_erased, stmt_erased}
use Rattle.lay_paren.proofs.LooseFolds.{loose_arm, loose_block, loose_branch, loose_condition, loose_field, loose_item, loose_kind, loose_link, loose_step, loose_stmt}

-- ---- an expression

-- Whether it begins a statement makes no difference to what is within it.
pub record ExprGood (loose : ExprFacts) (closed erased : Expr) : Type 0 where
  pub within : (first : Bool) → (about_expr closed).within false first ≡ loose.within false false
  pub block_like : (about_expr closed).block_like ≡ loose.block_like
  pub macro : is_macro (about_expr closed).kind ≡ is_macro loose.kind
  pub lone : is_lone_body (about_expr closed).kind ≡ is_lone_body loose.kind
  pub erases : erase closed ≡ erased

-- ---- other nodes

pub record StmtGood (loose : StmtFacts) (closed erased : Stmt) : Type 0 where
  pub good : (about_stmt closed).good ≡ loose.good
  pub ends : (about_stmt closed).ends ≡ loose.ends
  pub bare : (about_stmt closed).bare ≡ loose.bare
  pub call : (about_stmt closed).call ≡ loose.call
  pub erases : stmt_erased closed ≡ erased

pub record LinkGood (loose : LinkFacts) (closed erased : Link) : Type 0 where
  pub is_let : (about_link closed).is_let ≡ loose.is_let
  pub alone : (about_link closed).alone ≡ loose.alone
  pub good : (more : Bool) → (about_link closed).good more ≡ loose.good more
  pub erases : link_erased closed ≡ erased

pub record FieldGood (loose : Facts) (closed erased : FieldExpr) : Type 0 where
  pub good : (about_field_expr closed).good ≡ loose.good
  pub erases : field_erased closed ≡ erased

pub record StepGood (loose : StepFacts) (closed erased : Step) : Type 0 where
  pub kind : (about_step closed).kind ≡ loose.kind
  pub good : (about_step closed).good ≡ loose.good
  pub erases : step_erased closed ≡ erased

pub record KindGood (loose : KindFacts) (closed erased : ItemKind) : Type 0 where
  pub head : is_some (told_of_kind closed).head ≡ is_some loose.head
  pub call : (told_of_kind closed).call ≡ loose.call
  pub good : (site : Site) → (told_of_kind closed).good site ≡ loose.good site
  pub erases : kind_erased closed ≡ erased

pub record ArmGood (loose : ArmFacts) (closed erased : Arm) : Type 0 where
  pub good : (about_arm closed).good ≡ loose.good
  pub erases : arm_erased closed ≡ erased

pub record BlockGood (loose : BlockFacts) (closed erased : Block) : Type 0 where
  pub good : (about_block closed).good ≡ loose.good
  pub lone : (about_block closed).lone ≡ loose.lone
  pub erases : block_erased closed ≡ erased

pub record BranchGood (loose : BranchFacts) (closed erased : Branch) : Type 0 where
  pub good : (about_branch closed).good ≡ loose.good
  pub erases : branch_erased closed ≡ erased

pub record ConditionGood (loose : ConditionFacts) (closed erased : Condition) : Type 0 where
  pub good : (about_condition closed).good ≡ loose.good
  pub erases : condition_erased closed ≡ erased

pub record ItemGood (loose : ItemFacts) (closed erased : Item) : Type 0 where
  pub call : (told_of_item closed).call ≡ loose.call
  pub good : (site : Site) → (told_of_item closed).good site ≡ loose.good site
  pub erases : item_erased closed ≡ erased

-- ---- each node, and layers of nodes

abbrev pub StmtIs : Stmt → Type 0
StmtIs x = StmtGood (loose_stmt x) (enclosed_stmt x) (stmt_erased x)

abbrev pub LinkIs : Link → Type 0
LinkIs x = LinkGood (loose_link x) (enclosed_link x) (link_erased x)

abbrev pub ExprIs : Expr → Type 0
ExprIs x = ExprGood (loose_about x) (enclosed x) (erase x)

abbrev pub FieldIs : FieldExpr → Type 0
FieldIs x = FieldGood (loose_field x) (enclosed_field x) (field_erased x)

abbrev pub StepIs : Step → Type 0
StepIs x = StepGood (loose_step x) (enclosed_step x) (step_erased x)

abbrev pub KindIs : ItemKind → Type 0
KindIs x = KindGood (loose_kind x) (enclosed_kind x) (kind_erased x)

abbrev pub ArmIs : Arm → Type 0
ArmIs x = ArmGood (loose_arm x) (enclosed_arm x) (arm_erased x)

abbrev pub BlockIs : Block → Type 0
BlockIs x = BlockGood (loose_block x) (enclosed_block x) (block_erased x)

abbrev pub BranchIs : Branch → Type 0
BranchIs x = BranchGood (loose_branch x) (enclosed_branch x) (branch_erased x)

abbrev pub ConditionIs : Condition → Type 0
ConditionIs x = ConditionGood (loose_condition x) (enclosed_condition x) (condition_erased x)

abbrev pub ItemIs : Item → Type 0
ItemIs x = ItemGood (loose_item x) (enclosed_item x) (item_erased x)

abbrev pub KeptStmt : Type 0
KeptStmt = (x : Stmt) × StmtIs x

abbrev pub KeptLink : Type 0
KeptLink = (x : Link) × LinkIs x

abbrev pub KeptExpr : Type 0
KeptExpr = (x : Expr) × ExprIs x

abbrev pub KeptField : Type 0
KeptField = (x : FieldExpr) × FieldIs x

abbrev pub KeptStep : Type 0
KeptStep = (x : Step) × StepIs x

abbrev pub KeptKind : Type 0
KeptKind = (x : ItemKind) × KindIs x

abbrev pub KeptArm : Type 0
KeptArm = (x : Arm) × ArmIs x

abbrev pub KeptBlock : Type 0
KeptBlock = (x : Block) × BlockIs x

abbrev pub KeptBranch : Type 0
KeptBranch = (x : Branch) × BranchIs x

abbrev pub KeptCondition : Type 0
KeptCondition = (x : Condition) × ConditionIs x

abbrev pub KeptItem : Type 0
KeptItem = (x : Item) × ItemIs x

-- what stands in a node, where these hold of the nodes within it
abbrev pub Kept : (Type 0 → Type 0 → Type 0 → Type 0 → Type 0 → Type 0 → Type 0 → Type 0 → Type 0 → Type 0 → Type 0 → Type 0) → Type 0
Kept F = F KeptStmt KeptLink KeptExpr KeptField KeptStep KeptKind KeptArm KeptBlock KeptBranch KeptCondition KeptItem

abbrev pub stmt_layer : Kept Stmt-F → StmtNode
stmt_layer y = fold.map-Stmt KeptStmt KeptLink KeptExpr KeptField KeptStep KeptKind KeptArm KeptBlock KeptBranch KeptCondition KeptItem
    Stmt Link Expr FieldExpr Step ItemKind Arm Block Branch Condition Item
    (λ y. y.0) (λ y. y.0) (λ y. y.0) (λ y. y.0) (λ y. y.0) (λ y. y.0) (λ y. y.0) (λ y. y.0) (λ y. y.0) (λ y. y.0) (λ y. y.0) y

abbrev pub link_layer : Kept Link-F → LinkNode
link_layer y = fold.map-Link KeptStmt KeptLink KeptExpr KeptField KeptStep KeptKind KeptArm KeptBlock KeptBranch KeptCondition KeptItem
    Stmt Link Expr FieldExpr Step ItemKind Arm Block Branch Condition Item
    (λ y. y.0) (λ y. y.0) (λ y. y.0) (λ y. y.0) (λ y. y.0) (λ y. y.0) (λ y. y.0) (λ y. y.0) (λ y. y.0) (λ y. y.0) (λ y. y.0) y

abbrev pub expr_layer : Kept Expr-F → ExprNode
expr_layer y = fold.map-Expr KeptStmt KeptLink KeptExpr KeptField KeptStep KeptKind KeptArm KeptBlock KeptBranch KeptCondition KeptItem
    Stmt Link Expr FieldExpr Step ItemKind Arm Block Branch Condition Item
    (λ y. y.0) (λ y. y.0) (λ y. y.0) (λ y. y.0) (λ y. y.0) (λ y. y.0) (λ y. y.0) (λ y. y.0) (λ y. y.0) (λ y. y.0) (λ y. y.0) y

abbrev pub field_layer : Kept FieldExpr-F → FieldNode
field_layer y = fold.map-FieldExpr KeptStmt KeptLink KeptExpr KeptField KeptStep KeptKind KeptArm KeptBlock KeptBranch KeptCondition KeptItem
    Stmt Link Expr FieldExpr Step ItemKind Arm Block Branch Condition Item
    (λ y. y.0) (λ y. y.0) (λ y. y.0) (λ y. y.0) (λ y. y.0) (λ y. y.0) (λ y. y.0) (λ y. y.0) (λ y. y.0) (λ y. y.0) (λ y. y.0) y

abbrev pub step_layer : Kept Step-F → StepNode
step_layer y = fold.map-Step KeptStmt KeptLink KeptExpr KeptField KeptStep KeptKind KeptArm KeptBlock KeptBranch KeptCondition KeptItem
    Stmt Link Expr FieldExpr Step ItemKind Arm Block Branch Condition Item
    (λ y. y.0) (λ y. y.0) (λ y. y.0) (λ y. y.0) (λ y. y.0) (λ y. y.0) (λ y. y.0) (λ y. y.0) (λ y. y.0) (λ y. y.0) (λ y. y.0) y

abbrev pub kind_layer : Kept ItemKind-F → KindNode
kind_layer y = fold.map-ItemKind KeptStmt KeptLink KeptExpr KeptField KeptStep KeptKind KeptArm KeptBlock KeptBranch KeptCondition KeptItem
    Stmt Link Expr FieldExpr Step ItemKind Arm Block Branch Condition Item
    (λ y. y.0) (λ y. y.0) (λ y. y.0) (λ y. y.0) (λ y. y.0) (λ y. y.0) (λ y. y.0) (λ y. y.0) (λ y. y.0) (λ y. y.0) (λ y. y.0) y

abbrev pub arm_layer : Kept Arm-F → ArmNode
arm_layer y = fold.map-Arm KeptStmt KeptLink KeptExpr KeptField KeptStep KeptKind KeptArm KeptBlock KeptBranch KeptCondition KeptItem
    Stmt Link Expr FieldExpr Step ItemKind Arm Block Branch Condition Item
    (λ y. y.0) (λ y. y.0) (λ y. y.0) (λ y. y.0) (λ y. y.0) (λ y. y.0) (λ y. y.0) (λ y. y.0) (λ y. y.0) (λ y. y.0) (λ y. y.0) y

abbrev pub block_layer : Kept Block-F → BlockNode
block_layer y = fold.map-Block KeptStmt KeptLink KeptExpr KeptField KeptStep KeptKind KeptArm KeptBlock KeptBranch KeptCondition KeptItem
    Stmt Link Expr FieldExpr Step ItemKind Arm Block Branch Condition Item
    (λ y. y.0) (λ y. y.0) (λ y. y.0) (λ y. y.0) (λ y. y.0) (λ y. y.0) (λ y. y.0) (λ y. y.0) (λ y. y.0) (λ y. y.0) (λ y. y.0) y

abbrev pub branch_layer : Kept Branch-F → BranchNode
branch_layer y = fold.map-Branch KeptStmt KeptLink KeptExpr KeptField KeptStep KeptKind KeptArm KeptBlock KeptBranch KeptCondition KeptItem
    Stmt Link Expr FieldExpr Step ItemKind Arm Block Branch Condition Item
    (λ y. y.0) (λ y. y.0) (λ y. y.0) (λ y. y.0) (λ y. y.0) (λ y. y.0) (λ y. y.0) (λ y. y.0) (λ y. y.0) (λ y. y.0) (λ y. y.0) y

abbrev pub condition_layer : Kept Condition-F → ConditionNode
condition_layer y = fold.map-Condition KeptStmt KeptLink KeptExpr KeptField KeptStep KeptKind KeptArm KeptBlock KeptBranch KeptCondition KeptItem
    Stmt Link Expr FieldExpr Step ItemKind Arm Block Branch Condition Item
    (λ y. y.0) (λ y. y.0) (λ y. y.0) (λ y. y.0) (λ y. y.0) (λ y. y.0) (λ y. y.0) (λ y. y.0) (λ y. y.0) (λ y. y.0) (λ y. y.0) y

abbrev pub item_layer : Kept Item-F → ItemNode
item_layer y = fold.map-Item KeptStmt KeptLink KeptExpr KeptField KeptStep KeptKind KeptArm KeptBlock KeptBranch KeptCondition KeptItem
    Stmt Link Expr FieldExpr Step ItemKind Arm Block Branch Condition Item
    (λ y. y.0) (λ y. y.0) (λ y. y.0) (λ y. y.0) (λ y. y.0) (λ y. y.0) (λ y. y.0) (λ y. y.0) (λ y. y.0) (λ y. y.0) (λ y. y.0) y
