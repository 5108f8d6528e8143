-- Nodes of which each pair that they get is one that can be left out, where they have none of their own; and layers of such nodes.
use Rattle.std.proofs.Common.{◌≡◌, Bool, []}
use Rattle.lay_code.specs.nodes.Layers.{ArmNode, BlockNode, BranchNode, ConditionNode, ExprNode, FieldNode, ItemNode, KindNode, LinkNode, StepNode, StmtNode}
use Rattle.lay_code.specs.declared.blocks.Arm.{Arm}
use Rattle.lay_code.specs.declared.blocks.Block.{Block}
use Rattle.lay_code.specs.declared.blocks.Branch.{Branch}
use Rattle.lay_code.specs.declared.blocks.Stmt.{Stmt}
use Rattle.lay_code.specs.declared.blocks.Stmt.TheFolds as fold
use Rattle.lay_code.specs.declared.blocks.Stmt.TheOpen.{Arm-F, Block-F, Branch-F, Condition-F, Expr-F, FieldExpr-F, Item-F, ItemKind-F, Link-F, Step-F, Stmt-F}
use Rattle.lay_code.specs.declared.conditions.Condition.{Condition}
use Rattle.lay_code.specs.declared.conditions.Link.{Link}
use Rattle.lay_code.specs.declared.exprs.Expr.{Expr}
use Rattle.lay_code.specs.declared.exprs.FieldExpr.{FieldExpr}
use Rattle.lay_code.specs.declared.exprs.Place.{Place}
use Rattle.lay_code.specs.declared.exprs.Step.{Step}
use Rattle.lay_code.specs.declared.item.Item.{Item}
use Rattle.lay_code.specs.declared.item.ItemKind.{ItemKind}
use Rattle.lay_paren_defs.specs.loose.Slots.{Slot}
use Rattle.lay_paren.specs.LeftOut.{own}
use Rattle.lay_paren.specs.Least.{made_of}
use Rattle.lay_paren.specs.Made.{Made}
use Rattle.lay_paren.specs.Parts.{Placed}
use Rattle.lay_paren.specs.Nodes.{made_arm, made_block, made_branch, made_condition, made_field, made_item, made_kind, made_link, made_step, made_stmt}
use Rattle.lay_paren.proofs.OwnFolds.{own_arm, own_block, own_branch, own_condition, own_field, own_item, own_kind, own_link, own_step, own_stmt}

-- The node has no pair of its own: then what is made of it has those that it got.
abbrev pub Counted : {A : Type 0} → (A → Made A) → Made A → Made A → Type 0
Counted of own made = own.cuts ≡ [] → of made.result ≡ made

-- wherever it stands
abbrev pub PlacedCounted : Placed → Placed → Type 0
PlacedCounted is made = (q : Place) (t : Slot) → (is q t).cuts ≡ [] → (p r : Place) (s u : Slot) → own (made p s).result r u ≡ made p s

abbrev pub ExprCounted : Expr → Type 0
ExprCounted x = PlacedCounted (own x) (made_of x)

abbrev pub LinkCounted : Link → Type 0
LinkCounted x = (alone more : Bool) → Counted (λ (z : Link). own_link z alone more) (own_link x alone more) (made_link x alone more)

abbrev pub StmtCounted : Stmt → Type 0
StmtCounted x = Counted own_stmt (own_stmt x) (made_stmt x)

abbrev pub FieldCounted : FieldExpr → Type 0
FieldCounted x = Counted own_field (own_field x) (made_field x)

abbrev pub StepCounted : Step → Type 0
StepCounted x = Counted own_step (own_step x) (made_step x)

abbrev pub KindCounted : ItemKind → Type 0
KindCounted x = Counted own_kind (own_kind x) (made_kind x)

abbrev pub ArmCounted : Arm → Type 0
ArmCounted x = Counted own_arm (own_arm x) (made_arm x)

abbrev pub BlockCounted : Block → Type 0
BlockCounted x = Counted own_block (own_block x) (made_block x)

abbrev pub BranchCounted : Branch → Type 0
BranchCounted x = Counted own_branch (own_branch x) (made_branch x)

abbrev pub ConditionCounted : Condition → Type 0
ConditionCounted x = Counted own_condition (own_condition x) (made_condition x)

abbrev pub ItemCounted : Item → Type 0
ItemCounted x = Counted own_item (own_item x) (made_item x)

abbrev pub CountedStmt : Type 0
CountedStmt = (x : Stmt) × StmtCounted x

abbrev pub CountedLink : Type 0
CountedLink = (x : Link) × LinkCounted x

abbrev pub CountedExpr : Type 0
CountedExpr = (x : Expr) × ExprCounted x

abbrev pub CountedField : Type 0
CountedField = (x : FieldExpr) × FieldCounted x

abbrev pub CountedStep : Type 0
CountedStep = (x : Step) × StepCounted x

abbrev pub CountedKind : Type 0
CountedKind = (x : ItemKind) × KindCounted x

abbrev pub CountedArm : Type 0
CountedArm = (x : Arm) × ArmCounted x

abbrev pub CountedBlock : Type 0
CountedBlock = (x : Block) × BlockCounted x

abbrev pub CountedBranch : Type 0
CountedBranch = (x : Branch) × BranchCounted x

abbrev pub CountedCondition : Type 0
CountedCondition = (x : Condition) × ConditionCounted x

abbrev pub CountedItem : Type 0
CountedItem = (x : Item) × ItemCounted x

-- what stands in a node, where this holds of the nodes within it
abbrev pub AllCounted : (Type 0 → Type 0 → Type 0 → Type 0 → Type 0 → Type 0 → Type 0 → Type 0 → Type 0 → Type 0 → Type 0 → Type 0) → Type 0
AllCounted F = F CountedStmt CountedLink CountedExpr CountedField CountedStep CountedKind CountedArm CountedBlock CountedBranch CountedCondition CountedItem

abbrev pub stmt_layer : AllCounted Stmt-F → StmtNode
stmt_layer y = fold.map-Stmt CountedStmt CountedLink CountedExpr CountedField CountedStep CountedKind CountedArm CountedBlock CountedBranch CountedCondition CountedItem
    Stmt Link Expr FieldExpr Step ItemKind Arm Block Branch Condition Item
    (λ y. y.0) (λ y. y.0) (λ y. y.0) (λ y. y.0) (λ y. y.0) (λ y. y.0) (λ y. y.0) (λ y. y.0) (λ y. y.0) (λ y. y.0) (λ y. y.0) y

abbrev pub link_layer : AllCounted Link-F → LinkNode
link_layer y = fold.map-Link CountedStmt CountedLink CountedExpr CountedField CountedStep CountedKind CountedArm CountedBlock CountedBranch CountedCondition CountedItem
    Stmt Link Expr FieldExpr Step ItemKind Arm Block Branch Condition Item
    (λ y. y.0) (λ y. y.0) (λ y. y.0) (λ y. y.0) (λ y. y.0) (λ y. y.0) (λ y. y.0) (λ y. y.0) (λ y. y.0) (λ y. y.0) (λ y. y.0) y

abbrev pub expr_layer : AllCounted Expr-F → ExprNode
expr_layer y = fold.map-Expr CountedStmt CountedLink CountedExpr CountedField CountedStep CountedKind CountedArm CountedBlock CountedBranch CountedCondition CountedItem
    Stmt Link Expr FieldExpr Step ItemKind Arm Block Branch Condition Item
    (λ y. y.0) (λ y. y.0) (λ y. y.0) (λ y. y.0) (λ y. y.0) (λ y. y.0) (λ y. y.0) (λ y. y.0) (λ y. y.0) (λ y. y.0) (λ y. y.0) y

abbrev pub field_layer : AllCounted FieldExpr-F → FieldNode
field_layer y = fold.map-FieldExpr CountedStmt CountedLink CountedExpr CountedField CountedStep CountedKind CountedArm CountedBlock CountedBranch CountedCondition CountedItem
    Stmt Link Expr FieldExpr Step ItemKind Arm Block Branch Condition Item
    (λ y. y.0) (λ y. y.0) (λ y. y.0) (λ y. y.0) (λ y. y.0) (λ y. y.0) (λ y. y.0) (λ y. y.0) (λ y. y.0) (λ y. y.0) (λ y. y.0) y

abbrev pub step_layer : AllCounted Step-F → StepNode
step_layer y = fold.map-Step CountedStmt CountedLink CountedExpr CountedField CountedStep CountedKind CountedArm CountedBlock CountedBranch CountedCondition CountedItem
    Stmt Link Expr FieldExpr Step ItemKind Arm Block Branch Condition Item
    (λ y. y.0) (λ y. y.0) (λ y. y.0) (λ y. y.0) (λ y. y.0) (λ y. y.0) (λ y. y.0) (λ y. y.0) (λ y. y.0) (λ y. y.0) (λ y. y.0) y

abbrev pub kind_layer : AllCounted ItemKind-F → KindNode
kind_layer y = fold.map-ItemKind CountedStmt CountedLink CountedExpr CountedField CountedStep CountedKind CountedArm CountedBlock CountedBranch CountedCondition CountedItem
    Stmt Link Expr FieldExpr Step ItemKind Arm Block Branch Condition Item
    (λ y. y.0) (λ y. y.0) (λ y. y.0) (λ y. y.0) (λ y. y.0) (λ y. y.0) (λ y. y.0) (λ y. y.0) (λ y. y.0) (λ y. y.0) (λ y. y.0) y

abbrev pub arm_layer : AllCounted Arm-F → ArmNode
arm_layer y = fold.map-Arm CountedStmt CountedLink CountedExpr CountedField CountedStep CountedKind CountedArm CountedBlock CountedBranch CountedCondition CountedItem
    Stmt Link Expr FieldExpr Step ItemKind Arm Block Branch Condition Item
    (λ y. y.0) (λ y. y.0) (λ y. y.0) (λ y. y.0) (λ y. y.0) (λ y. y.0) (λ y. y.0) (λ y. y.0) (λ y. y.0) (λ y. y.0) (λ y. y.0) y

abbrev pub block_layer : AllCounted Block-F → BlockNode
block_layer y = fold.map-Block CountedStmt CountedLink CountedExpr CountedField CountedStep CountedKind CountedArm CountedBlock CountedBranch CountedCondition CountedItem
    Stmt Link Expr FieldExpr Step ItemKind Arm Block Branch Condition Item
    (λ y. y.0) (λ y. y.0) (λ y. y.0) (λ y. y.0) (λ y. y.0) (λ y. y.0) (λ y. y.0) (λ y. y.0) (λ y. y.0) (λ y. y.0) (λ y. y.0) y

abbrev pub branch_layer : AllCounted Branch-F → BranchNode
branch_layer y = fold.map-Branch CountedStmt CountedLink CountedExpr CountedField CountedStep CountedKind CountedArm CountedBlock CountedBranch CountedCondition CountedItem
    Stmt Link Expr FieldExpr Step ItemKind Arm Block Branch Condition Item
    (λ y. y.0) (λ y. y.0) (λ y. y.0) (λ y. y.0) (λ y. y.0) (λ y. y.0) (λ y. y.0) (λ y. y.0) (λ y. y.0) (λ y. y.0) (λ y. y.0) y

abbrev pub condition_layer : AllCounted Condition-F → ConditionNode
condition_layer y = fold.map-Condition CountedStmt CountedLink CountedExpr CountedField CountedStep CountedKind CountedArm CountedBlock CountedBranch CountedCondition CountedItem
    Stmt Link Expr FieldExpr Step ItemKind Arm Block Branch Condition Item
    (λ y. y.0) (λ y. y.0) (λ y. y.0) (λ y. y.0) (λ y. y.0) (λ y. y.0) (λ y. y.0) (λ y. y.0) (λ y. y.0) (λ y. y.0) (λ y. y.0) y

abbrev pub item_layer : AllCounted Item-F → ItemNode
item_layer y = fold.map-Item CountedStmt CountedLink CountedExpr CountedField CountedStep CountedKind CountedArm CountedBlock CountedBranch CountedCondition CountedItem
    Stmt Link Expr FieldExpr Step ItemKind Arm Block Branch Condition Item
    (λ y. y.0) (λ y. y.0) (λ y. y.0) (λ y. y.0) (λ y. y.0) (λ y. y.0) (λ y. y.0) (λ y. y.0) (λ y. y.0) (λ y. y.0) (λ y. y.0) y
