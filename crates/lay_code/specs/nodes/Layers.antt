-- The nodes of each kind, one level deep: the nodes within them are whole syntax trees.
use Rattle.lay_code.specs.declared.blocks.Arm.{Arm}
use Rattle.lay_code.specs.declared.blocks.Block.{Block}
use Rattle.lay_code.specs.declared.blocks.Branch.{Branch}
use Rattle.lay_code.specs.declared.blocks.Stmt.{Stmt}
use Rattle.lay_code.specs.declared.blocks.Stmt.TheOpen.{Arm-F, Block-F, Branch-F, Condition-F, Expr-F, FieldExpr-F, Item-F, ItemKind-F, Link-F, Step-F, Stmt-F}
use Rattle.lay_code.specs.declared.conditions.Condition.{Condition}
use Rattle.lay_code.specs.declared.conditions.Link.{Link}
use Rattle.lay_code.specs.declared.exprs.Expr.{Expr}
use Rattle.lay_code.specs.declared.exprs.FieldExpr.{FieldExpr}
use Rattle.lay_code.specs.declared.exprs.Step.{Step}
use Rattle.lay_code.specs.declared.item.Item.{Item}
use Rattle.lay_code.specs.declared.item.ItemKind.{ItemKind}

-- a node of this kind, with trees within it
abbrev pub Node : (Type 0 → Type 0 → Type 0 → Type 0 → Type 0 → Type 0 → Type 0 → Type 0 → Type 0 → Type 0 → Type 0 → Type 0) → Type 0
Node F = F Stmt Link Expr FieldExpr Step ItemKind Arm Block Branch Condition Item

abbrev pub StmtNode : Type 0
StmtNode = Node Stmt-F

abbrev pub ExprNode : Type 0
ExprNode = Node Expr-F

abbrev pub FieldNode : Type 0
FieldNode = Node FieldExpr-F

abbrev pub StepNode : Type 0
StepNode = Node Step-F

abbrev pub KindNode : Type 0
KindNode = Node ItemKind-F

abbrev pub ArmNode : Type 0
ArmNode = Node Arm-F

abbrev pub BlockNode : Type 0
BlockNode = Node Block-F

abbrev pub BranchNode : Type 0
BranchNode = Node Branch-F

abbrev pub ConditionNode : Type 0
ConditionNode = Node Condition-F

abbrev pub LinkNode : Type 0
LinkNode = Node Link-F

abbrev pub ItemNode : Type 0
ItemNode = Node Item-F
