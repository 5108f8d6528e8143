-- Each pair that an expression got can be left out, where it has none of its own, by the induction of its family.
use Rattle.std.proofs.Common.{◌≡◌, [], Option, Some, None, sym, ap, subst}
use Rattle.lay_code.specs.nodes.Layers.{ArmNode, BlockNode, BranchNode, ConditionNode, ExprNode, FieldNode, ItemNode, KindNode, LinkNode, StepNode, StmtNode}
use Rattle.lay_code.specs.nodes.Places.{FREE}
use Rattle.lay_code.specs.declared.blocks.Stmt.TheFolds as fold
use Rattle.lay_code.specs.declared.blocks.Stmt.TheOpen.{Arm-F, Block-F, Branch-F, Condition-F, Expr-F, FieldExpr-F, Item-F, ItemKind-F, Link-F, Step-F, Stmt-F}
use Rattle.lay_code.specs.declared.blocks.Stmt.TheViews as views
use Rattle.lay_code.specs.declared.exprs.Expr.{Expr}
use Rattle.lay_code.specs.declared.exprs.Place.{Place}
use Rattle.lay_paren_defs.specs.loose.Slots.{Any}
use Rattle.lay_paren.specs.LeftOut.{left_out, own_made}
use Rattle.lay_paren.specs.Least.{cuts, least, made_of}
use Rattle.lay_paren.specs.Made.{Made}
use Rattle.lay_paren.specs.Parts.{Placed}
use Rattle.lay_paren.proofs.Counted.{AllCounted, ArmCounted, BlockCounted, BranchCounted, ConditionCounted, CountedExpr, ExprCounted, FieldCounted, ItemCounted, KindCounted, LinkCounted, PlacedCounted, StepCounted, StmtCounted, arm_layer, block_layer, branch_layer, condition_layer, expr_layer, field_layer, item_layer, kind_layer, link_layer, step_layer, stmt_layer}
use Rattle.lay_paren.proofs.CountedBlocks.{bare_arm_counted, block_counted, branch_counted, condition_counted, field_counted, guarded_arm_counted, item_counted, kind_counted, link_counted, step_counted, stmt_counted}
use Rattle.lay_paren.proofs.CountedExprs.{layer_counted}
use Rattle.lay_paren.proofs.MadeFolds.{expr_parts_is}
use Rattle.lay_paren.proofs.OwnFolds.{expr_own, expr_own_is}

expr_counted : (y : AllCounted Expr-F) → ExprCounted (views.roll-Expr (expr_layer y))
expr_counted y =
    let layer = expr_layer y in
    subst (λ (f : Placed). PlacedCounted f (made_of (views.roll-Expr layer))) (sym (expr_own_is layer))
    (subst (λ (f : Placed). PlacedCounted (own_made (expr_own layer)) f) (sym (expr_parts_is layer)) (layer_counted y))

arm_counted : (y : AllCounted Arm-F) → ArmCounted (views.roll-Arm (arm_layer y))
arm_counted y = by y.guard
  where
    by : (guard : Option CountedExpr) → ArmCounted (views.roll-Arm (arm_layer (record { attrs = y.attrs; pat = y.pat; guard = guard; body = y.body })))
    by None = bare_arm_counted y.attrs y.pat y.body
    by (Some g) = guarded_arm_counted y.attrs y.pat g y.body

stmt_rolled : (x : StmtNode) (y : AllCounted Stmt-F) → stmt_layer y ≡ x → StmtCounted (views.roll-Stmt x)
stmt_rolled x y is = subst (λ (z : StmtNode). StmtCounted (views.roll-Stmt z)) is (stmt_counted y)

link_rolled : (x : LinkNode) (y : AllCounted Link-F) → link_layer y ≡ x → LinkCounted (views.roll-Link x)
link_rolled x y is = subst (λ (z : LinkNode). LinkCounted (views.roll-Link z)) is (link_counted y)

expr_rolled : (x : ExprNode) (y : AllCounted Expr-F) → expr_layer y ≡ x → ExprCounted (views.roll-Expr x)
expr_rolled x y is = subst (λ (z : ExprNode). ExprCounted (views.roll-Expr z)) is (expr_counted y)

field_rolled : (x : FieldNode) (y : AllCounted FieldExpr-F) → field_layer y ≡ x → FieldCounted (views.roll-FieldExpr x)
field_rolled x y is = subst (λ (z : FieldNode). FieldCounted (views.roll-FieldExpr z)) is (field_counted y)

step_rolled : (x : StepNode) (y : AllCounted Step-F) → step_layer y ≡ x → StepCounted (views.roll-Step x)
step_rolled x y is = subst (λ (z : StepNode). StepCounted (views.roll-Step z)) is (step_counted y)

kind_rolled : (x : KindNode) (y : AllCounted ItemKind-F) → kind_layer y ≡ x → KindCounted (views.roll-ItemKind x)
kind_rolled x y is = subst (λ (z : KindNode). KindCounted (views.roll-ItemKind z)) is (kind_counted y)

arm_rolled : (x : ArmNode) (y : AllCounted Arm-F) → arm_layer y ≡ x → ArmCounted (views.roll-Arm x)
arm_rolled x y is = subst (λ (z : ArmNode). ArmCounted (views.roll-Arm z)) is (arm_counted y)

block_rolled : (x : BlockNode) (y : AllCounted Block-F) → block_layer y ≡ x → BlockCounted (views.roll-Block x)
block_rolled x y is = subst (λ (z : BlockNode). BlockCounted (views.roll-Block z)) is (block_counted y.attrs y.stmts)

branch_rolled : (x : BranchNode) (y : AllCounted Branch-F) → branch_layer y ≡ x → BranchCounted (views.roll-Branch x)
branch_rolled x y is = subst (λ (z : BranchNode). BranchCounted (views.roll-Branch z)) is (branch_counted y.condition y.body)

condition_rolled : (x : ConditionNode) (y : AllCounted Condition-F) → condition_layer y ≡ x → ConditionCounted (views.roll-Condition x)
condition_rolled x y is = subst (λ (z : ConditionNode). ConditionCounted (views.roll-Condition z)) is (condition_counted y.links)

item_rolled : (x : ItemNode) (y : AllCounted Item-F) → item_layer y ≡ x → ItemCounted (views.roll-Item x)
item_rolled x y is = subst (λ (z : ItemNode). ItemCounted (views.roll-Item z)) is (item_counted y.attrs y.vis y.kind)

all_counted : (x : Expr) → ExprCounted x
all_counted = fold.ind-Expr StmtCounted LinkCounted ExprCounted FieldCounted StepCounted KindCounted ArmCounted BlockCounted BranchCounted ConditionCounted ItemCounted
    stmt_rolled link_rolled expr_rolled field_rolled step_rolled kind_rolled arm_rolled block_rolled branch_rolled condition_rolled item_rolled

-- Where an expression has no pair, those of the result are those that it got.
pub all_cut : (x : Expr) (p : Place) → left_out x ≡ [] → cuts x p ≡ left_out (least x p)
all_cut x p h = sym (ap (λ (m : Made Expr). m.cuts) (all_counted x FREE Any h p FREE Any Any))
