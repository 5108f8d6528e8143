-- Each node is as good enclosed as it is loose, by the induction of its family: each layer whose nodes are so is.
use Rattle.std.proofs.Common.{◌≡◌, true, sym, ◌∙◌, subst}
use Rattle.lay_code.specs.nodes.Exprs.{expr_facts}
use Rattle.lay_code.specs.nodes.Layers.{ArmNode, BlockNode, BranchNode, ConditionNode, ExprNode, FieldNode, ItemNode, KindNode, LinkNode, StepNode, StmtNode}
use Rattle.lay_code.specs.declared.blocks.Stmt.TheFolds as fold
use Rattle.lay_code.specs.declared.blocks.Stmt.TheOpen.{Arm-F, Block-F, Branch-F, Condition-F, Expr-F, FieldExpr-F, Item-F, ItemKind-F, Link-F, Step-F, Stmt-F}
use Rattle.lay_code.specs.declared.blocks.Stmt.TheViews as views
use Rattle.lay_code.specs.declared.exprs.Expr.{Expr}
use Rattle.lay_paren_defs.specs.Enclosed.{expr_shell}
use Rattle.lay_paren_defs.specs.loose.Loose.{shielded_facts}
use Rattle.lay_paren.specs.Erased.{without_parens}
use Rattle.lay_paren.proofs.ErasedFolds as erased
use Rattle.lay_paren.proofs.ErasedFolds.{expr_without}
use Rattle.lay_paren.proofs.LooseFolds as loose
use Rattle.lay_paren.proofs.LooseFolds.{expr_shielded}
use Rattle.lay_paren.proofs.loose_laws_lemmas.BlockLemmas.{arm_step, block_step, branch_step, condition_step, link_step, stmt_step}
use Rattle.lay_paren.proofs.loose_laws_lemmas.Closed.{arm_closed, block_closed, branch_closed, condition_closed, expr_closed, field_closed, item_closed, kind_closed, link_closed, step_closed, stmt_closed}
use Rattle.lay_paren.proofs.loose_laws_lemmas.ExprErased.{expr_erased}
use Rattle.lay_paren.proofs.loose_laws_lemmas.ExprLemmas.{expr_alike}
use Rattle.lay_paren.proofs.loose_laws_lemmas.ItemLemmas.{item_step, kind_step}
use Rattle.lay_paren.proofs.loose_laws_lemmas.Kept.{ArmGood, ArmIs, BlockGood, BlockIs, BranchGood, BranchIs, ConditionGood, ConditionIs, ExprGood, ExprIs, FieldGood, FieldIs, ItemGood, ItemIs, Kept, KindGood, KindIs, LinkGood, LinkIs, StepGood, StepIs, StmtGood, StmtIs, arm_layer, block_layer, branch_layer, condition_layer, expr_layer, field_layer, item_layer, kind_layer, link_layer, step_layer, stmt_layer}
use Rattle.lay_paren.proofs.loose_laws_lemmas.PartLemmas.{free_placed}
use Rattle.lay_paren.proofs.loose_laws_lemmas.StepLemmas.{field_step, step_step}

-- From a layer to its node: the facts about it, the enclosed node, and the node without parentheses are those of the layer.
folded : {L N : Type 0} (Good : L → N → N → Type 0) (l m : L) (a b x y : N) → l ≡ m → a ≡ b → x ≡ y → Good m b y → Good l a x
folded {L = L} {N = N} Good l m a b x y e f g good =
    subst (λ (k : L). Good k a x) (sym e) (subst (λ (c : N). Good m c x) (sym f) (subst (λ (z : N). Good m b z) (sym g) good))

-- ---- each layer that is one whose nodes are good

expr_step : (y : Kept Expr-F)
    → ExprGood (shielded_facts (expr_shielded (expr_layer y))) (expr_shell true (expr_layer y)) (without_parens (expr_without (expr_layer y)))
expr_step y =
    let alike = expr_alike y in
    record {
      within = λ first. alike.within first ∙ sym (free_placed (expr_facts (expr_shielded (expr_layer y))));
      block_like = alike.block_like;
      macro = alike.macro;
      lone = alike.lone;
      erases = expr_erased y;
    }

stmt_rolled : (x : StmtNode) (y : Kept Stmt-F) → stmt_layer y ≡ x → StmtIs (views.roll-Stmt x)
stmt_rolled x y is =
    subst (λ (z : StmtNode). StmtIs (views.roll-Stmt z)) is
    (folded StmtGood _ _ _ _ _ _ (loose.stmt_shielded_is (stmt_layer y)) (stmt_closed (stmt_layer y)) (erased.stmt_without_is (stmt_layer y)) (stmt_step y))

link_rolled : (x : LinkNode) (y : Kept Link-F) → link_layer y ≡ x → LinkIs (views.roll-Link x)
link_rolled x y is =
    subst (λ (z : LinkNode). LinkIs (views.roll-Link z)) is
    (folded LinkGood _ _ _ _ _ _ (loose.link_shielded_is (link_layer y)) (link_closed (link_layer y)) (erased.link_without_is (link_layer y)) (link_step y))

expr_rolled : (x : ExprNode) (y : Kept Expr-F) → expr_layer y ≡ x → ExprIs (views.roll-Expr x)
expr_rolled x y is =
    subst (λ (z : ExprNode). ExprIs (views.roll-Expr z)) is
    (folded ExprGood _ _ _ _ _ _ (loose.expr_shielded_is (expr_layer y)) (expr_closed (expr_layer y)) (erased.expr_without_is (expr_layer y)) (expr_step y))

field_rolled : (x : FieldNode) (y : Kept FieldExpr-F) → field_layer y ≡ x → FieldIs (views.roll-FieldExpr x)
field_rolled x y is =
    subst (λ (z : FieldNode). FieldIs (views.roll-FieldExpr z)) is
    (folded FieldGood _ _ _ _ _ _ (loose.field_shielded_is (field_layer y)) (field_closed (field_layer y)) (erased.field_without_is (field_layer y)) (field_step y))

step_rolled : (x : StepNode) (y : Kept Step-F) → step_layer y ≡ x → StepIs (views.roll-Step x)
step_rolled x y is =
    subst (λ (z : StepNode). StepIs (views.roll-Step z)) is
    (folded StepGood _ _ _ _ _ _ (loose.step_shielded_is (step_layer y)) (step_closed (step_layer y)) (erased.step_without_is (step_layer y)) (step_step y))

kind_rolled : (x : KindNode) (y : Kept ItemKind-F) → kind_layer y ≡ x → KindIs (views.roll-ItemKind x)
kind_rolled x y is =
    subst (λ (z : KindNode). KindIs (views.roll-ItemKind z)) is
    (folded KindGood _ _ _ _ _ _ (loose.kind_shielded_is (kind_layer y)) (kind_closed (kind_layer y)) (erased.kind_without_is (kind_layer y)) (kind_step y))

arm_rolled : (x : ArmNode) (y : Kept Arm-F) → arm_layer y ≡ x → ArmIs (views.roll-Arm x)
arm_rolled x y is =
    subst (λ (z : ArmNode). ArmIs (views.roll-Arm z)) is
    (folded ArmGood _ _ _ _ _ _ (loose.arm_shielded_is (arm_layer y)) (arm_closed (arm_layer y)) (erased.arm_without_is (arm_layer y)) (arm_step y))

block_rolled : (x : BlockNode) (y : Kept Block-F) → block_layer y ≡ x → BlockIs (views.roll-Block x)
block_rolled x y is =
    subst (λ (z : BlockNode). BlockIs (views.roll-Block z)) is
    (folded BlockGood _ _ _ _ _ _ (loose.block_shielded_is (block_layer y)) (block_closed (block_layer y)) (erased.block_without_is (block_layer y)) (block_step y))

branch_rolled : (x : BranchNode) (y : Kept Branch-F) → branch_layer y ≡ x → BranchIs (views.roll-Branch x)
branch_rolled x y is =
    subst (λ (z : BranchNode). BranchIs (views.roll-Branch z)) is
    (folded BranchGood _ _ _ _ _ _ (loose.branch_shielded_is (branch_layer y)) (branch_closed (branch_layer y)) (erased.branch_without_is (branch_layer y)) (branch_step y))

condition_rolled : (x : ConditionNode) (y : Kept Condition-F) → condition_layer y ≡ x → ConditionIs (views.roll-Condition x)
condition_rolled x y is =
    subst (λ (z : ConditionNode). ConditionIs (views.roll-Condition z)) is
    (folded ConditionGood _ _ _ _ _ _ (loose.condition_shielded_is (condition_layer y)) (condition_closed (condition_layer y)) (erased.condition_without_is (condition_layer y)) (condition_step y))

item_rolled : (x : ItemNode) (y : Kept Item-F) → item_layer y ≡ x → ItemIs (views.roll-Item x)
item_rolled x y is =
    subst (λ (z : ItemNode). ItemIs (views.roll-Item z)) is
    (folded ItemGood _ _ _ _ _ _ (loose.item_shielded_is (item_layer y)) (item_closed (item_layer y)) (erased.item_without_is (item_layer y)) (item_step y))

-- ---- and so each expression is

pub expr_good : (x : Expr) → ExprIs x
expr_good = fold.ind-Expr StmtIs LinkIs ExprIs FieldIs StepIs KindIs ArmIs BlockIs BranchIs ConditionIs ItemIs
    stmt_rolled link_rolled expr_rolled field_rolled step_rolled kind_rolled arm_rolled block_rolled branch_rolled condition_rolled item_rolled
