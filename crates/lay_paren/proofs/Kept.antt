-- What holds of each node that gets parentheses, where it is loose, where it stands, and without parentheses; and layers of such
-- nodes: expressions, blocks and items are one family.
use Rattle.std.proofs.Common.{◌≡◌, ◌≤◌, Bool, true, false, is_some}
use Rattle.lay_node.specs.declared.heads.Site.{Site}
use Rattle.lay_node.specs.nodes.Facts.{Facts}
use Rattle.lay_code.specs.nodes.Bodies.{is_lone_body, is_macro}
use Rattle.lay_code.specs.nodes.Code.{about_arm, about_block, about_branch, about_condition, about_expr, about_field_expr, about_link, about_step, about_stmt, told_of_item, told_of_kind}
use Rattle.lay_code.specs.nodes.CodeFacts.{ArmFacts, BlockFacts, BranchFacts, ConditionFacts, ItemFacts, KindFacts, LinkFacts, StmtFacts}
use Rattle.lay_code.specs.nodes.Exprs.{ExprFacts, StepFacts}
use Rattle.lay_code.specs.nodes.Layers.{ArmNode, BlockNode, BranchNode, ConditionNode, ExprNode, FieldNode, ItemNode, KindNode, LinkNode, StepNode, StmtNode}
use Rattle.lay_code.specs.nodes.Places.{statement}
use Rattle.lay_code.specs.declared.blocks.Arm.{Arm}
use Rattle.lay_code.specs.declared.blocks.Block.{Block}
use Rattle.lay_code.specs.declared.blocks.Branch.{Branch}
use Rattle.lay_code.specs.declared.blocks.Stmt.{Stmt}
use Rattle.lay_code.specs.declared.blocks.Stmt.TheFolds as fold
use Rattle.lay_code.specs.declared.blocks.Stmt.TheOpen.{Arm-F, Block-F, Branch-F, Condition-F, Expr-F, FieldExpr-F, Item-F, ItemKind-F, Link-F, Step-F, Stmt-F}
use Rattle.lay_code.specs.declared.conditions.Condition.{Condition}
use Rattle.lay_code.specs.declared.conditions.Link.{Link}
use Rattle.lay_code.specs.declared.exprs.Expr.{Expr}
use Rattle.lay_code.specs.declared.exprs.FieldExpr.{FieldExpr}
use Rattle.lay_code.specs.declared.exprs.Place.{Place}
use Rattle.lay_code.specs.declared.exprs.Step.{Step}
use Rattle.lay_code.specs.declared.item.Item.{Item}
use Rattle.lay_code.specs.declared.item.ItemKind.{ItemKind}
use Rattle.lay_paren_defs.specs.loose.Loose.{loose_about}
use Rattle.lay_paren_defs.specs.loose.Slots.{Any, Slot}
use Rattle.lay_paren.specs.Erased.{erase}
use Rattle.lay_paren.specs.Least.{made_of}
use Rattle.lay_paren.specs.Made.{Made}
use Rattle.lay_paren.specs.Parts.{Linked, Placed}
use Rattle.lay_paren.proofs.Choice.{Sure, written}
use Rattle.lay_paren.proofs.ErasedFolds.{arm_erased, block_erased, branch_erased, condition_erased, field_erased, item_erased, kind_erased, link_erased, step_erased, stmt_erased}
use Rattle.lay_paren.proofs.LeadLemmas.{Apt, Leads}
use Rattle.lay_paren.proofs.LooseFolds.{loose_arm, loose_block, loose_branch, loose_condition, loose_field, loose_item, loose_kind, loose_link, loose_step, loose_stmt}
use Rattle.lay_paren.specs.Nodes.{made_arm, made_block, made_branch, made_condition, made_field, made_item, made_kind, made_link, made_step, made_stmt}

-- ---- an expression

abbrev pub Stands : ExprFacts → Placed → Type 0
Stands loose made = loose.within false false ≡ true → (p : Place) (s : Slot) → p.level ≤ 14 → written p s (made p s).result ≡ true

-- What statements and arms ask of the whole of it stays; a body that isn't lone stays one, or is wrapped.
pub record Whole (loose : ExprFacts) (made : Placed) : Type 0 where
  pub block_like : (about_expr (made statement Any).result).block_like ≡ loose.block_like
  pub macro : is_macro (about_expr (made statement Any).result).kind ≡ is_macro loose.kind
  pub lone : (p : Place) (s : Slot) → is_lone_body (about_expr (made p s).result).kind ≡ true → is_lone_body loose.kind ≡ true

-- No pair that it gets is needless, and it gets none where it is written.
abbrev pub Needed : Placed → Expr → Type 0
Needed made x = (p : Place) (s : Slot) → Apt p s → Sure (written p s) (made p s) x

abbrev pub Erases : Placed → Expr → Type 0
Erases made erased = (p : Place) (s : Slot) → erase (made p s).result ≡ erased

pub record ExprGood (loose : ExprFacts) (made : Placed) (erased x : Expr) : Type 0 where
  pub stands : Stands loose made
  pub whole : Whole loose made
  pub leads : Leads made
  pub needed : Needed made x
  pub erases : Erases made erased

-- ---- other nodes

pub record StmtGood (loose : StmtFacts) (made : Made Stmt) (erased x : Stmt) : Type 0 where
  pub good : loose.good ≡ true → (about_stmt made.result).good ≡ true
  pub ends : (about_stmt made.result).ends ≡ loose.ends
  pub bare : (about_stmt made.result).bare ≡ loose.bare
  pub call : (about_stmt made.result).call ≡ loose.call
  pub needed : Sure (λ (z : Stmt). (about_stmt z).good) made x
  pub erases : stmt_erased made.result ≡ erased

pub record LinkGood (loose : LinkFacts) (made : Linked) (erased x : Link) : Type 0 where
  pub is_let : (alone more : Bool) → (about_link (made alone more).result).is_let ≡ loose.is_let
  pub alone : loose.alone ≡ true → (about_link (made true false).result).alone ≡ true
  pub good : (more : Bool) → loose.good more ≡ true → (about_link (made false more).result).good more ≡ true
  pub alone_needed : Sure (λ (z : Link). (about_link z).alone) (made true false) x
  pub needed : (more : Bool) → Sure (λ (z : Link). (about_link z).good more) (made false more) x
  pub erases : (alone more : Bool) → link_erased (made alone more).result ≡ erased

pub record FieldGood (loose : Facts) (made : Made FieldExpr) (erased x : FieldExpr) : Type 0 where
  pub good : loose.good ≡ true → (about_field_expr made.result).good ≡ true
  pub needed : Sure (λ (z : FieldExpr). (about_field_expr z).good) made x
  pub erases : field_erased made.result ≡ erased

pub record StepGood (loose : StepFacts) (made : Made Step) (erased x : Step) : Type 0 where
  pub kind : (about_step made.result).kind ≡ loose.kind
  pub good : loose.good ≡ true → (about_step made.result).good ≡ true
  pub needed : Sure (λ (z : Step). (about_step z).good) made x
  pub erases : step_erased made.result ≡ erased

pub record KindGood (loose : KindFacts) (made : Made ItemKind) (erased x : ItemKind) : Type 0 where
  pub head : is_some (told_of_kind made.result).head ≡ is_some loose.head
  pub call : (told_of_kind made.result).call ≡ loose.call
  pub good : (site : Site) → loose.good site ≡ true → (told_of_kind made.result).good site ≡ true
  pub needed : (site : Site) → Sure (λ (z : ItemKind). (told_of_kind z).good site) made x
  pub erases : kind_erased made.result ≡ erased

pub record ArmGood (loose : ArmFacts) (made : Made Arm) (erased x : Arm) : Type 0 where
  pub good : loose.good ≡ true → (about_arm made.result).good ≡ true
  pub needed : Sure (λ (z : Arm). (about_arm z).good) made x
  pub erases : arm_erased made.result ≡ erased

pub record BlockGood (loose : BlockFacts) (made : Made Block) (erased x : Block) : Type 0 where
  pub good : loose.good ≡ true → (about_block made.result).good ≡ true
  pub lone : (about_block made.result).lone ≡ loose.lone
  pub needed : Sure (λ (z : Block). (about_block z).good) made x
  pub erases : block_erased made.result ≡ erased

pub record BranchGood (loose : BranchFacts) (made : Made Branch) (erased x : Branch) : Type 0 where
  pub good : loose.good ≡ true → (about_branch made.result).good ≡ true
  pub needed : Sure (λ (z : Branch). (about_branch z).good) made x
  pub erases : branch_erased made.result ≡ erased

pub record ConditionGood (loose : ConditionFacts) (made : Made Condition) (erased x : Condition) : Type 0 where
  pub good : loose.good ≡ true → (about_condition made.result).good ≡ true
  pub needed : Sure (λ (z : Condition). (about_condition z).good) made x
  pub erases : condition_erased made.result ≡ erased

pub record ItemGood (loose : ItemFacts) (made : Made Item) (erased x : Item) : Type 0 where
  pub call : (told_of_item made.result).call ≡ loose.call
  pub good : (site : Site) → loose.good site ≡ true → (told_of_item made.result).good site ≡ true
  pub needed : (site : Site) → Sure (λ (z : Item). (told_of_item z).good site) made x
  pub erases : item_erased made.result ≡ erased

-- ---- each node, and layers of nodes

abbrev pub StmtIs : Stmt → Type 0
StmtIs x = StmtGood (loose_stmt x) (made_stmt x) (stmt_erased x) x

abbrev pub LinkIs : Link → Type 0
LinkIs x = LinkGood (loose_link x) (made_link x) (link_erased x) x

abbrev pub ExprIs : Expr → Type 0
ExprIs x = ExprGood (loose_about x) (made_of x) (erase x) x

abbrev pub FieldIs : FieldExpr → Type 0
FieldIs x = FieldGood (loose_field x) (made_field x) (field_erased x) x

abbrev pub StepIs : Step → Type 0
StepIs x = StepGood (loose_step x) (made_step x) (step_erased x) x

abbrev pub KindIs : ItemKind → Type 0
KindIs x = KindGood (loose_kind x) (made_kind x) (kind_erased x) x

abbrev pub ArmIs : Arm → Type 0
ArmIs x = ArmGood (loose_arm x) (made_arm x) (arm_erased x) x

abbrev pub BlockIs : Block → Type 0
BlockIs x = BlockGood (loose_block x) (made_block x) (block_erased x) x

abbrev pub BranchIs : Branch → Type 0
BranchIs x = BranchGood (loose_branch x) (made_branch x) (branch_erased x) x

abbrev pub ConditionIs : Condition → Type 0
ConditionIs x = ConditionGood (loose_condition x) (made_condition x) (condition_erased x) x

abbrev pub ItemIs : Item → Type 0
ItemIs x = ItemGood (loose_item x) (made_item x) (item_erased x) x

abbrev pub KeptStmt : Type 0
KeptStmt = (x : Stmt) × StmtIs x

abbrev pub KeptLink : Type 0
KeptLink = (x : Link) × LinkIs x

abbrev pub KeptExpr : Type 0
KeptExpr = (x : Expr) × ExprIs x

abbrev pub KeptField : Type 0
KeptField = (x : FieldExpr) × FieldIs x

abbrev pub KeptStep : Type 0
KeptStep = (x : Step) × StepIs x

abbrev pub KeptKind : Type 0
KeptKind = (x : ItemKind) × KindIs x

abbrev pub KeptArm : Type 0
KeptArm = (x : Arm) × ArmIs x

abbrev pub KeptBlock : Type 0
KeptBlock = (x : Block) × BlockIs x

abbrev pub KeptBranch : Type 0
KeptBranch = (x : Branch) × BranchIs x

abbrev pub KeptCondition : Type 0
KeptCondition = (x : Condition) × ConditionIs x

abbrev pub KeptItem : Type 0
KeptItem = (x : Item) × ItemIs x

-- what stands in a node, where these hold of the nodes within it
abbrev pub Kept : (Type 0 → Type 0 → Type 0 → Type 0 → Type 0 → Type 0 → Type 0 → Type 0 → Type 0 → Type 0 → Type 0 → Type 0) → Type 0
Kept F = F KeptStmt KeptLink KeptExpr KeptField KeptStep KeptKind KeptArm KeptBlock KeptBranch KeptCondition KeptItem

abbrev pub stmt_layer : Kept Stmt-F → StmtNode
stmt_layer y = fold.map-Stmt KeptStmt KeptLink KeptExpr KeptField KeptStep KeptKind KeptArm KeptBlock KeptBranch KeptCondition KeptItem
    Stmt Link Expr FieldExpr Step ItemKind Arm Block Branch Condition Item
    (λ y. y.0) (λ y. y.0) (λ y. y.0) (λ y. y.0) (λ y. y.0) (λ y. y.0) (λ y. y.0) (λ y. y.0) (λ y. y.0) (λ y. y.0) (λ y. y.0) y

abbrev pub link_layer : Kept Link-F → LinkNode
link_layer y = fold.map-Link KeptStmt KeptLink KeptExpr KeptField KeptStep KeptKind KeptArm KeptBlock KeptBranch KeptCondition KeptItem
    Stmt Link Expr FieldExpr Step ItemKind Arm Block Branch Condition Item
    (λ y. y.0) (λ y. y.0) (λ y. y.0) (λ y. y.0) (λ y. y.0) (λ y. y.0) (λ y. y.0) (λ y. y.0) (λ y. y.0) (λ y. y.0) (λ y. y.0) y

abbrev pub expr_layer : Kept Expr-F → ExprNode
expr_layer y = fold.map-Expr KeptStmt KeptLink KeptExpr KeptField KeptStep KeptKind KeptArm KeptBlock KeptBranch KeptCondition KeptItem
    Stmt Link Expr FieldExpr Step ItemKind Arm Block Branch Condition Item
    (λ y. y.0) (λ y. y.0) (λ y. y.0) (λ y. y.0) (λ y. y.0) (λ y. y.0) (λ y. y.0) (λ y. y.0) (λ y. y.0) (λ y. y.0) (λ y. y.0) y

abbrev pub field_layer : Kept FieldExpr-F → FieldNode
field_layer y = fold.map-FieldExpr KeptStmt KeptLink KeptExpr KeptField KeptStep KeptKind KeptArm KeptBlock KeptBranch KeptCondition KeptItem
    Stmt Link Expr FieldExpr Step ItemKind Arm Block Branch Condition Item
    (λ y. y.0) (λ y. y.0) (λ y. y.0) (λ y. y.0) (λ y. y.0) (λ y. y.0) (λ y. y.0) (λ y. y.0) (λ y. y.0) (λ y. y.0) (λ y. y.0) y

abbrev pub step_layer : Kept Step-F → StepNode
step_layer y = fold.map-Step KeptStmt KeptLink KeptExpr KeptField KeptStep KeptKind KeptArm KeptBlock KeptBranch KeptCondition KeptItem
    Stmt Link Expr FieldExpr Step ItemKind Arm Block Branch Condition Item
    (λ y. y.0) (λ y. y.0) (λ y. y.0) (λ y. y.0) (λ y. y.0) (λ y. y.0) (λ y. y.0) (λ y. y.0) (λ y. y.0) (λ y. y.0) (λ y. y.0) y

abbrev pub kind_layer : Kept ItemKind-F → KindNode
kind_layer y = fold.map-ItemKind KeptStmt KeptLink KeptExpr KeptField KeptStep KeptKind KeptArm KeptBlock KeptBranch KeptCondition KeptItem
    Stmt Link Expr FieldExpr Step ItemKind Arm Block Branch Condition Item
    (λ y. y.0) (λ y. y.0) (λ y. y.0) (λ y. y.0) (λ y. y.0) (λ y. y.0) (λ y. y.0) (λ y. y.0) (λ y. y.0) (λ y. y.0) (λ y. y.0) y

abbrev pub arm_layer : Kept Arm-F → ArmNode
arm_layer y = fold.map-Arm KeptStmt KeptLink KeptExpr KeptField KeptStep KeptKind KeptArm KeptBlock KeptBranch KeptCondition KeptItem
    Stmt Link Expr FieldExpr Step ItemKind Arm Block Branch Condition Item
    (λ y. y.0) (λ y. y.0) (λ y. y.0) (λ y. y.0) (λ y. y.0) (λ y. y.0) (λ y. y.0) (λ y. y.0) (λ y. y.0) (λ y. y.0) (λ y. y.0) y

abbrev pub block_layer : Kept Block-F → BlockNode
block_layer y = fold.map-Block KeptStmt KeptLink KeptExpr KeptField KeptStep KeptKind KeptArm KeptBlock KeptBranch KeptCondition KeptItem
    Stmt Link Expr FieldExpr Step ItemKind Arm Block Branch Condition Item
    (λ y. y.0) (λ y. y.0) (λ y. y.0) (λ y. y.0) (λ y. y.0) (λ y. y.0) (λ y. y.0) (λ y. y.0) (λ y. y.0) (λ y. y.0) (λ y. y.0) y

abbrev pub branch_layer : Kept Branch-F → BranchNode
branch_layer y = fold.map-Branch KeptStmt KeptLink KeptExpr KeptField KeptStep KeptKind KeptArm KeptBlock KeptBranch KeptCondition KeptItem
    Stmt Link Expr FieldExpr Step ItemKind Arm Block Branch Condition Item
    (λ y. y.0) (λ y. y.0) (λ y. y.0) (λ y. y.0) (λ y. y.0) (λ y. y.0) (λ y. y.0) (λ y. y.0) (λ y. y.0) (λ y. y.0) (λ y. y.0) y

abbrev pub condition_layer : Kept Condition-F → ConditionNode
condition_layer y = fold.map-Condition KeptStmt KeptLink KeptExpr KeptField KeptStep KeptKind KeptArm KeptBlock KeptBranch KeptCondition KeptItem
    Stmt Link Expr FieldExpr Step ItemKind Arm Block Branch Condition Item
    (λ y. y.0) (λ y. y.0) (λ y. y.0) (λ y. y.0) (λ y. y.0) (λ y. y.0) (λ y. y.0) (λ y. y.0) (λ y. y.0) (λ y. y.0) (λ y. y.0) y

abbrev pub item_layer : Kept Item-F → ItemNode
item_layer y = fold.map-Item KeptStmt KeptLink KeptExpr KeptField KeptStep KeptKind KeptArm KeptBlock KeptBranch KeptCondition KeptItem
    Stmt Link Expr FieldExpr Step ItemKind Arm Block Branch Condition Item
    (λ y. y.0) (λ y. y.0) (λ y. y.0) (λ y. y.0) (λ y. y.0) (λ y. y.0) (λ y. y.0) (λ y. y.0) (λ y. y.0) (λ y. y.0) (λ y. y.0) y
