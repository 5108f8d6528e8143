-- The tokens of each expression are pieces exactly where they are without parentheses, by the induction of its family.
use Rattle.std.proofs.Common.{◌≡◌, Option, Some, None, subst}
use Rattle.lay_code.specs.nodes.Layers.{ArmNode, BlockNode, BranchNode, ConditionNode, ExprNode, FieldNode, ItemNode, KindNode, LinkNode, StepNode, StmtNode}
use Rattle.lay_code.specs.declared.blocks.Stmt.TheFolds as fold
use Rattle.lay_code.specs.declared.blocks.Stmt.TheOpen.{Arm-F, Block-F, Branch-F, Condition-F, Expr-F, FieldExpr-F, Item-F, ItemKind-F, Link-F, Step-F, Stmt-F}
use Rattle.lay_code.specs.declared.blocks.Stmt.TheViews as views
use Rattle.lay_code.specs.declared.exprs.Expr.{Expr}
use Rattle.lay_paren.proofs.PiecesBlocks.{arm_pieces, block_pieces, branch_pieces, condition_pieces, item_pieces, kind_pieces, link_pieces, stmt_pieces}
use Rattle.lay_paren.proofs.PiecesExprs.{expr_pieces, field_pieces, step_pieces}
use Rattle.lay_paren.proofs.PiecesSame.{ArmSame, BlockSame, BranchSame, ConditionSame, ExprSame, FieldSame, ItemSame, KindSame, LinkSame, Same, SameExpr, StepSame, StmtSame, arm_layer, block_layer, branch_layer, condition_layer, expr_layer, field_layer, item_layer, kind_layer, link_layer, step_layer, stmt_layer}

stmt_rolled : (x : StmtNode) (y : Same Stmt-F) → stmt_layer y ≡ x → StmtSame (views.roll-Stmt x)
stmt_rolled x y is = subst (λ (z : StmtNode). StmtSame (views.roll-Stmt z)) is (stmt_pieces y)

link_rolled : (x : LinkNode) (y : Same Link-F) → link_layer y ≡ x → LinkSame (views.roll-Link x)
link_rolled x y is = subst (λ (z : LinkNode). LinkSame (views.roll-Link z)) is (link_pieces y)

expr_rolled : (x : ExprNode) (y : Same Expr-F) → expr_layer y ≡ x → ExprSame (views.roll-Expr x)
expr_rolled x y is = subst (λ (z : ExprNode). ExprSame (views.roll-Expr z)) is (expr_pieces y)

field_rolled : (x : FieldNode) (y : Same FieldExpr-F) → field_layer y ≡ x → FieldSame (views.roll-FieldExpr x)
field_rolled x y is = subst (λ (z : FieldNode). FieldSame (views.roll-FieldExpr z)) is (field_pieces y)

step_rolled : (x : StepNode) (y : Same Step-F) → step_layer y ≡ x → StepSame (views.roll-Step x)
step_rolled x y is = subst (λ (z : StepNode). StepSame (views.roll-Step z)) is (step_pieces y)

kind_rolled : (x : KindNode) (y : Same ItemKind-F) → kind_layer y ≡ x → KindSame (views.roll-ItemKind x)
kind_rolled x y is = subst (λ (z : KindNode). KindSame (views.roll-ItemKind z)) is (kind_pieces y)

arm_same : (y : Same Arm-F) → ArmSame (views.roll-Arm (arm_layer y))
arm_same y = by y.guard
  where
    by : (guard : Option SameExpr) → ArmSame (views.roll-Arm (arm_layer (record { attrs = y.attrs; pat = y.pat; guard = guard; body = y.body })))
    by None = arm_pieces y.attrs y.pat None y.body
    by (Some g) = arm_pieces y.attrs y.pat (Some g) y.body

arm_rolled : (x : ArmNode) (y : Same Arm-F) → arm_layer y ≡ x → ArmSame (views.roll-Arm x)
arm_rolled x y is = subst (λ (z : ArmNode). ArmSame (views.roll-Arm z)) is (arm_same y)

block_rolled : (x : BlockNode) (y : Same Block-F) → block_layer y ≡ x → BlockSame (views.roll-Block x)
block_rolled x y is = subst (λ (z : BlockNode). BlockSame (views.roll-Block z)) is (block_pieces y.attrs y.stmts)

branch_rolled : (x : BranchNode) (y : Same Branch-F) → branch_layer y ≡ x → BranchSame (views.roll-Branch x)
branch_rolled x y is = subst (λ (z : BranchNode). BranchSame (views.roll-Branch z)) is (branch_pieces y.condition y.body)

condition_rolled : (x : ConditionNode) (y : Same Condition-F) → condition_layer y ≡ x → ConditionSame (views.roll-Condition x)
condition_rolled x y is = subst (λ (z : ConditionNode). ConditionSame (views.roll-Condition z)) is (condition_pieces y.links)

item_rolled : (x : ItemNode) (y : Same Item-F) → item_layer y ≡ x → ItemSame (views.roll-Item x)
item_rolled x y is = subst (λ (z : ItemNode). ItemSame (views.roll-Item z)) is (item_pieces y.attrs y.vis y.kind.0 y.kind.1)

pub pieces_same : (x : Expr) → ExprSame x
pieces_same = fold.ind-Expr StmtSame LinkSame ExprSame FieldSame StepSame KindSame ArmSame BlockSame BranchSame ConditionSame ItemSame
    stmt_rolled link_rolled expr_rolled field_rolled step_rolled kind_rolled arm_rolled block_rolled branch_rolled condition_rolled item_rolled
