-- Each node that gets parentheses is good, by the induction of its family: each layer whose nodes are good is.
use Rattle.std.proofs.Common.{◌≡◌, sym, subst}
use Rattle.lay_code.specs.nodes.Layers.{ArmNode, BlockNode, BranchNode, ConditionNode, ExprNode, FieldNode, ItemNode, KindNode, LinkNode, StepNode, StmtNode}
use Rattle.lay_code.specs.declared.blocks.Stmt.TheFolds as fold
use Rattle.lay_code.specs.declared.blocks.Stmt.TheOpen.{Arm-F, Block-F, Branch-F, Condition-F, Expr-F, FieldExpr-F, Item-F, ItemKind-F, Link-F, Step-F, Stmt-F}
use Rattle.lay_code.specs.declared.blocks.Stmt.TheViews as views
use Rattle.lay_code.specs.declared.exprs.Expr.{Expr}
use Rattle.lay_paren_defs.specs.loose.Loose.{shielded_facts}
use Rattle.lay_paren.specs.Erased.{without_parens}
use Rattle.lay_paren.specs.Least.{least_made}
use Rattle.lay_paren.proofs.Arms.{arm_step, branch_step, condition_step, link_step}
use Rattle.lay_paren.proofs.BlockLemmas.{block_step, stmt_step}
use Rattle.lay_paren.proofs.ErasedFolds as erased
use Rattle.lay_paren.proofs.ExprErased.{layer_erases}
use Rattle.lay_paren.proofs.ExprLeads.{layer_leads}
use Rattle.lay_paren.proofs.ExprNeeded.{layer_needed}
use Rattle.lay_paren.proofs.ExprStands.{layer_stands}
use Rattle.lay_paren.proofs.ItemLemmas.{item_step, kind_step}
use Rattle.lay_paren.proofs.Kept.{ArmGood, ArmIs, BlockGood, BlockIs, BranchGood, BranchIs, ConditionGood, ConditionIs, ExprGood, ExprIs, FieldGood, FieldIs, ItemGood, ItemIs, Kept, KindGood, KindIs, LinkGood, LinkIs, StepGood, StepIs, StmtGood, StmtIs, arm_layer, block_layer, branch_layer, condition_layer, expr_layer, field_layer, item_layer, kind_layer, link_layer, step_layer, stmt_layer}
use Rattle.lay_paren.proofs.LooseFolds as loose
use Rattle.lay_paren.specs.Nodes as nodes
use Rattle.lay_paren.proofs.MadeFolds as made
use Rattle.lay_paren.proofs.Steps.{field_step, step_step}
use Rattle.lay_paren.proofs.Whole.{layer_whole}

-- what is told, made and erased of a node, where this is told, made and erased of its layer
folded : {L M E : Type 0} (Good : L → M → E → Type 0) (l m : L) (a b : M) (x y : E) → l ≡ m → a ≡ b → x ≡ y → Good m b y → Good l a x
folded {L = L} {M = M} {E = E} Good l m a b x y e f g good =
    subst (λ (k : L). Good k a x) (sym e) (subst (λ (c : M). Good m c x) (sym f) (subst (λ (z : E). Good m b z) (sym g) good))

expr_step : (y : Kept Expr-F) → ExprIs (views.roll-Expr (expr_layer y))
expr_step y =
    let layer = expr_layer y in
    folded (λ l m e. ExprGood l m e (views.roll-Expr layer)) _ (shielded_facts (loose.expr_shielded layer)) _
    (least_made (nodes.expr_parts layer)) _ (without_parens (erased.expr_without layer))
    (loose.expr_shielded_is layer) (made.expr_parts_is layer) (erased.expr_without_is layer)
    (record { stands = layer_stands y; whole = layer_whole y; leads = layer_leads y; needed = layer_needed y; erases = layer_erases y })

-- ---- each layer that is one whose nodes are good

stmt_rolled : (x : StmtNode) (y : Kept Stmt-F) → stmt_layer y ≡ x → StmtIs (views.roll-Stmt x)
stmt_rolled x y is =
    subst (λ (z : StmtNode). StmtIs (views.roll-Stmt z)) is
    (folded (λ l m e. StmtGood l m e (views.roll-Stmt (stmt_layer y))) _ _ _ _ _ _
    (loose.stmt_shielded_is (stmt_layer y)) (made.stmt_parts_is (stmt_layer y)) (erased.stmt_without_is (stmt_layer y)) (stmt_step y))

link_rolled : (x : LinkNode) (y : Kept Link-F) → link_layer y ≡ x → LinkIs (views.roll-Link x)
link_rolled x y is =
    subst (λ (z : LinkNode). LinkIs (views.roll-Link z)) is
    (folded (λ l m e. LinkGood l m e (views.roll-Link (link_layer y))) _ _ _ _ _ _
    (loose.link_shielded_is (link_layer y)) (made.link_parts_is (link_layer y)) (erased.link_without_is (link_layer y)) (link_step y))

expr_rolled : (x : ExprNode) (y : Kept Expr-F) → expr_layer y ≡ x → ExprIs (views.roll-Expr x)
expr_rolled x y is =
    subst (λ (z : ExprNode). ExprIs (views.roll-Expr z)) is
    (expr_step y)

field_rolled : (x : FieldNode) (y : Kept FieldExpr-F) → field_layer y ≡ x → FieldIs (views.roll-FieldExpr x)
field_rolled x y is =
    subst (λ (z : FieldNode). FieldIs (views.roll-FieldExpr z)) is
    (folded (λ l m e. FieldGood l m e (views.roll-FieldExpr (field_layer y))) _ _ _ _ _ _
    (loose.field_shielded_is (field_layer y)) (made.field_parts_is (field_layer y)) (erased.field_without_is (field_layer y)) (field_step y))

step_rolled : (x : StepNode) (y : Kept Step-F) → step_layer y ≡ x → StepIs (views.roll-Step x)
step_rolled x y is =
    subst (λ (z : StepNode). StepIs (views.roll-Step z)) is
    (folded (λ l m e. StepGood l m e (views.roll-Step (step_layer y))) _ _ _ _ _ _
    (loose.step_shielded_is (step_layer y)) (made.step_parts_is (step_layer y)) (erased.step_without_is (step_layer y)) (step_step y))

kind_rolled : (x : KindNode) (y : Kept ItemKind-F) → kind_layer y ≡ x → KindIs (views.roll-ItemKind x)
kind_rolled x y is =
    subst (λ (z : KindNode). KindIs (views.roll-ItemKind z)) is
    (folded (λ l m e. KindGood l m e (views.roll-ItemKind (kind_layer y))) _ _ _ _ _ _
    (loose.kind_shielded_is (kind_layer y)) (made.kind_parts_is (kind_layer y)) (erased.kind_without_is (kind_layer y)) (kind_step y))

arm_rolled : (x : ArmNode) (y : Kept Arm-F) → arm_layer y ≡ x → ArmIs (views.roll-Arm x)
arm_rolled x y is =
    subst (λ (z : ArmNode). ArmIs (views.roll-Arm z)) is
    (folded (λ l m e. ArmGood l m e (views.roll-Arm (arm_layer y))) _ _ _ _ _ _
    (loose.arm_shielded_is (arm_layer y)) (made.arm_parts_is (arm_layer y)) (erased.arm_without_is (arm_layer y)) (arm_step y))

block_rolled : (x : BlockNode) (y : Kept Block-F) → block_layer y ≡ x → BlockIs (views.roll-Block x)
block_rolled x y is =
    subst (λ (z : BlockNode). BlockIs (views.roll-Block z)) is
    (folded (λ l m e. BlockGood l m e (views.roll-Block (block_layer y))) _ _ _ _ _ _
    (loose.block_shielded_is (block_layer y)) (made.block_parts_is (block_layer y)) (erased.block_without_is (block_layer y)) (block_step y))

branch_rolled : (x : BranchNode) (y : Kept Branch-F) → branch_layer y ≡ x → BranchIs (views.roll-Branch x)
branch_rolled x y is =
    subst (λ (z : BranchNode). BranchIs (views.roll-Branch z)) is
    (folded (λ l m e. BranchGood l m e (views.roll-Branch (branch_layer y))) _ _ _ _ _ _
    (loose.branch_shielded_is (branch_layer y)) (made.branch_parts_is (branch_layer y)) (erased.branch_without_is (branch_layer y)) (branch_step y))

condition_rolled : (x : ConditionNode) (y : Kept Condition-F) → condition_layer y ≡ x → ConditionIs (views.roll-Condition x)
condition_rolled x y is =
    subst (λ (z : ConditionNode). ConditionIs (views.roll-Condition z)) is
    (folded (λ l m e. ConditionGood l m e (views.roll-Condition (condition_layer y))) _ _ _ _ _ _
    (loose.condition_shielded_is (condition_layer y)) (made.condition_parts_is (condition_layer y)) (erased.condition_without_is (condition_layer y)) (condition_step y))

item_rolled : (x : ItemNode) (y : Kept Item-F) → item_layer y ≡ x → ItemIs (views.roll-Item x)
item_rolled x y is =
    subst (λ (z : ItemNode). ItemIs (views.roll-Item z)) is
    (folded (λ l m e. ItemGood l m e (views.roll-Item (item_layer y))) _ _ _ _ _ _
    (loose.item_shielded_is (item_layer y)) (made.item_parts_is (item_layer y)) (erased.item_without_is (item_layer y)) (item_step y))

-- ---- and so each expression is

pub expr_good : (x : Expr) → ExprIs x
expr_good = fold.ind-Expr StmtIs LinkIs ExprIs FieldIs StepIs KindIs ArmIs BlockIs BranchIs ConditionIs ItemIs
    stmt_rolled link_rolled expr_rolled field_rolled step_rolled kind_rolled arm_rolled block_rolled branch_rolled condition_rolled item_rolled
