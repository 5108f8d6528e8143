-- With each part in parentheses an expression is at most twice as deep, by the induction of its family.
use Rattle.std.proofs.Common.{◌≡◌, ◌+◌, ◌*◌, ◌≤◌, sym, subst}
use Rattle.lay_code.specs.nodes.Layers.{ArmNode, BlockNode, BranchNode, ConditionNode, ExprNode, FieldNode, ItemNode, KindNode, LinkNode, StepNode, StmtNode}
use Rattle.lay_code.specs.declared.blocks.Stmt.TheFolds as fold
use Rattle.lay_code.specs.declared.blocks.Stmt.TheOpen.{Arm-F, Block-F, Branch-F, Condition-F, Expr-F, FieldExpr-F, Item-F, ItemKind-F, Link-F, Step-F, Stmt-F}
use Rattle.lay_code.specs.declared.blocks.Stmt.TheViews as views
use Rattle.lay_code.specs.declared.exprs.Expr.{Expr}
use Rattle.lay_code.specs.declared.blocks.Stmt.{Stmt}
use Rattle.lay_code.specs.declared.blocks.Arm.{Arm}
use Rattle.lay_code.specs.declared.blocks.Block.{Block}
use Rattle.lay_code.specs.declared.blocks.Branch.{Branch}
use Rattle.lay_code.specs.declared.conditions.Link.{Link}
use Rattle.lay_code.specs.declared.conditions.Condition.{Condition}
use Rattle.lay_code.specs.declared.exprs.FieldExpr.{FieldExpr}
use Rattle.lay_code.specs.declared.exprs.Step.{Step}
use Rattle.lay_code.specs.declared.item.Item.{Item}
use Rattle.lay_code.specs.declared.item.ItemKind.{ItemKind}
use Rattle.lay_paren.proofs.loose_laws_lemmas.Closed.{arm_closed, block_closed, branch_closed, condition_closed, expr_closed, field_closed, item_closed, kind_closed, link_closed, step_closed, stmt_closed}
use Rattle.lay_paren.proofs.loose_laws_lemmas.DepthKept.{AllDeep, ArmDeep, BlockDeep, BranchDeep, ConditionDeep, ExprDeep, FieldDeep, ItemDeep, KindDeep, LinkDeep, StepDeep, StmtDeep, arm_depth, arm_layer, block_depth, block_layer, branch_depth, branch_layer, condition_depth, condition_layer, expr_depth, expr_layer, field_depth, field_layer, item_depth, item_layer, kind_depth, kind_layer, link_depth, link_layer, step_depth, step_layer, stmt_depth, stmt_layer}
use Rattle.lay_paren.proofs.loose_laws_lemmas.DepthBlocks.{arm_step, block_step, branch_step, condition_step, field_step, link_step, step_step, stmt_step}
use Rattle.lay_paren.proofs.loose_laws_lemmas.DepthExprs.{expr_step}
use Rattle.lay_paren.proofs.loose_laws_lemmas.DepthItems.{item_step, kind_step}

-- ---- each layer that is one whose nodes are enclosed within the bound

stmt_rolled : (x : StmtNode) (y : AllDeep Stmt-F) → stmt_layer y ≡ x → StmtDeep (views.roll-Stmt x)
stmt_rolled x y is =
    let layer = stmt_layer y in
    subst (λ (z : StmtNode). StmtDeep (views.roll-Stmt z)) is
    (subst (λ (c : Stmt). stmt_depth c ≤ 2 * stmt_depth (views.roll-Stmt layer) + 1) (sym (stmt_closed layer)) (stmt_step y))

link_rolled : (x : LinkNode) (y : AllDeep Link-F) → link_layer y ≡ x → LinkDeep (views.roll-Link x)
link_rolled x y is =
    let layer = link_layer y in
    subst (λ (z : LinkNode). LinkDeep (views.roll-Link z)) is
    (subst (λ (c : Link). link_depth c ≤ 2 * link_depth (views.roll-Link layer) + 1) (sym (link_closed layer)) (link_step y))

expr_rolled : (x : ExprNode) (y : AllDeep Expr-F) → expr_layer y ≡ x → ExprDeep (views.roll-Expr x)
expr_rolled x y is =
    let layer = expr_layer y in
    subst (λ (z : ExprNode). ExprDeep (views.roll-Expr z)) is
    (subst (λ (c : Expr). expr_depth c ≤ 2 * expr_depth (views.roll-Expr layer)) (sym (expr_closed layer)) (expr_step y))

field_rolled : (x : FieldNode) (y : AllDeep FieldExpr-F) → field_layer y ≡ x → FieldDeep (views.roll-FieldExpr x)
field_rolled x y is =
    let layer = field_layer y in
    subst (λ (z : FieldNode). FieldDeep (views.roll-FieldExpr z)) is
    (subst (λ (c : FieldExpr). field_depth c ≤ 2 * field_depth (views.roll-FieldExpr layer) + 1) (sym (field_closed layer)) (field_step y))

step_rolled : (x : StepNode) (y : AllDeep Step-F) → step_layer y ≡ x → StepDeep (views.roll-Step x)
step_rolled x y is =
    let layer = step_layer y in
    subst (λ (z : StepNode). StepDeep (views.roll-Step z)) is
    (subst (λ (c : Step). step_depth c ≤ 2 * step_depth (views.roll-Step layer) + 1) (sym (step_closed layer)) (step_step y))

kind_rolled : (x : KindNode) (y : AllDeep ItemKind-F) → kind_layer y ≡ x → KindDeep (views.roll-ItemKind x)
kind_rolled x y is =
    let layer = kind_layer y in
    subst (λ (z : KindNode). KindDeep (views.roll-ItemKind z)) is
    (subst (λ (c : ItemKind). kind_depth c ≤ 2 * kind_depth (views.roll-ItemKind layer) + 1) (sym (kind_closed layer)) (kind_step y))

arm_rolled : (x : ArmNode) (y : AllDeep Arm-F) → arm_layer y ≡ x → ArmDeep (views.roll-Arm x)
arm_rolled x y is =
    let layer = arm_layer y in
    subst (λ (z : ArmNode). ArmDeep (views.roll-Arm z)) is
    (subst (λ (c : Arm). arm_depth c ≤ 2 * arm_depth (views.roll-Arm layer) + 1) (sym (arm_closed layer)) (arm_step y))

block_rolled : (x : BlockNode) (y : AllDeep Block-F) → block_layer y ≡ x → BlockDeep (views.roll-Block x)
block_rolled x y is =
    let layer = block_layer y in
    subst (λ (z : BlockNode). BlockDeep (views.roll-Block z)) is
    (subst (λ (c : Block). block_depth c ≤ 2 * block_depth (views.roll-Block layer) + 1) (sym (block_closed layer)) (block_step y))

branch_rolled : (x : BranchNode) (y : AllDeep Branch-F) → branch_layer y ≡ x → BranchDeep (views.roll-Branch x)
branch_rolled x y is =
    let layer = branch_layer y in
    subst (λ (z : BranchNode). BranchDeep (views.roll-Branch z)) is
    (subst (λ (c : Branch). branch_depth c ≤ 2 * branch_depth (views.roll-Branch layer) + 1) (sym (branch_closed layer)) (branch_step y))

condition_rolled : (x : ConditionNode) (y : AllDeep Condition-F) → condition_layer y ≡ x → ConditionDeep (views.roll-Condition x)
condition_rolled x y is =
    let layer = condition_layer y in
    subst (λ (z : ConditionNode). ConditionDeep (views.roll-Condition z)) is
    (subst (λ (c : Condition). condition_depth c ≤ 2 * condition_depth (views.roll-Condition layer) + 1) (sym (condition_closed layer)) (condition_step y))

item_rolled : (x : ItemNode) (y : AllDeep Item-F) → item_layer y ≡ x → ItemDeep (views.roll-Item x)
item_rolled x y is =
    let layer = item_layer y in
    subst (λ (z : ItemNode). ItemDeep (views.roll-Item z)) is
    (subst (λ (c : Item). item_depth c ≤ 2 * item_depth (views.roll-Item layer) + 1) (sym (item_closed layer)) (item_step y))

-- ---- and so each expression is

pub enclosed_deep : (x : Expr) → ExprDeep x
enclosed_deep = fold.ind-Expr StmtDeep LinkDeep ExprDeep FieldDeep StepDeep KindDeep ArmDeep BlockDeep BranchDeep ConditionDeep ItemDeep
    stmt_rolled link_rolled expr_rolled field_rolled step_rolled kind_rolled arm_rolled block_rolled branch_rolled condition_rolled item_rolled
