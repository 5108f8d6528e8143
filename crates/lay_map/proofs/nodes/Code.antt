-- Items tell their units, by the induction of the family of expressions, blocks and items: each layer whose nodes do so does.
use Rattle.std.proofs.Common.{◌≡◌, subst}
use Rattle.lay_code.specs.nodes.Code.{told_of_item}
use Rattle.lay_code.specs.nodes.Layers.{ArmNode, BlockNode, BranchNode, ConditionNode, ExprNode, FieldNode, ItemNode, KindNode, LinkNode, StepNode, StmtNode}
use Rattle.lay_code.specs.declared.blocks.Stmt.TheFolds as fold
use Rattle.lay_code.specs.declared.blocks.Stmt.TheOpen.{Arm-F, Block-F, Branch-F, Condition-F, Expr-F, FieldExpr-F, Item-F, ItemKind-F, Link-F, Step-F, Stmt-F}
use Rattle.lay_code.specs.declared.blocks.Stmt.TheViews as views
use Rattle.lay_code.specs.declared.item.Item.{Item}
use Rattle.lay_map.proofs.nodes.BlockKinds.{ItemTells}
use Rattle.lay_map.proofs.nodes.Blocks.{arm_step, block_step, branch_step, condition_step, link_step, stmt_step}
use Rattle.lay_map.proofs.nodes.CodeKept.{ArmIs, BlockIs, BranchIs, ConditionIs, ExprIs, FieldIs, ItemIs, Kept, KindIs, LinkIs, StepIs, StmtIs, arm_layer, block_layer, branch_layer, condition_layer, expr_layer, field_layer, item_layer, kind_layer, link_layer, step_layer, stmt_layer}
use Rattle.lay_map.proofs.nodes.Exprs.{expr_step, field_step, step_step}
use Rattle.lay_map.proofs.nodes.Items.{item_step, kind_step}

-- ---- each layer that is one whose nodes do so

stmt_rolled : (x : StmtNode) (y : Kept Stmt-F) → stmt_layer y ≡ x → StmtIs (views.roll-Stmt x)
stmt_rolled x y is = subst (λ z. StmtIs (views.roll-Stmt z)) is (stmt_step y)

expr_rolled : (x : ExprNode) (y : Kept Expr-F) → expr_layer y ≡ x → ExprIs (views.roll-Expr x)
expr_rolled x y is = subst (λ z. ExprIs (views.roll-Expr z)) is (expr_step y)

field_rolled : (x : FieldNode) (y : Kept FieldExpr-F) → field_layer y ≡ x → FieldIs (views.roll-FieldExpr x)
field_rolled x y is = subst (λ z. FieldIs (views.roll-FieldExpr z)) is (field_step y)

step_rolled : (x : StepNode) (y : Kept Step-F) → step_layer y ≡ x → StepIs (views.roll-Step x)
step_rolled x y is = subst (λ z. StepIs (views.roll-Step z)) is (step_step y)

kind_rolled : (x : KindNode) (y : Kept ItemKind-F) → kind_layer y ≡ x → KindIs (views.roll-ItemKind x)
kind_rolled x y is = subst (λ z. KindIs (views.roll-ItemKind z)) is (kind_step y)

arm_rolled : (x : ArmNode) (y : Kept Arm-F) → arm_layer y ≡ x → ArmIs (views.roll-Arm x)
arm_rolled x y is = subst (λ z. ArmIs (views.roll-Arm z)) is (arm_step y)

block_rolled : (x : BlockNode) (y : Kept Block-F) → block_layer y ≡ x → BlockIs (views.roll-Block x)
block_rolled x y is = subst (λ z. BlockIs (views.roll-Block z)) is (block_step y)

branch_rolled : (x : BranchNode) (y : Kept Branch-F) → branch_layer y ≡ x → BranchIs (views.roll-Branch x)
branch_rolled x y is = subst (λ z. BranchIs (views.roll-Branch z)) is (branch_step y)

link_rolled : (x : LinkNode) (y : Kept Link-F) → link_layer y ≡ x → LinkIs (views.roll-Link x)
link_rolled x y is = subst (λ z. LinkIs (views.roll-Link z)) is (link_step y)

condition_rolled : (x : ConditionNode) (y : Kept Condition-F) → condition_layer y ≡ x → ConditionIs (views.roll-Condition x)
condition_rolled x y is = subst (λ z. ConditionIs (views.roll-Condition z)) is (condition_step y)

item_rolled : (x : ItemNode) (y : Kept Item-F) → item_layer y ≡ x → ItemIs (views.roll-Item x)
item_rolled x y is = subst (λ z. ItemIs (views.roll-Item z)) is (item_step y)

-- ---- and so does each item

pub each_item : (x : Item) → ItemTells (told_of_item x)
each_item = fold.ind-Item StmtIs LinkIs ExprIs FieldIs StepIs KindIs ArmIs BlockIs BranchIs ConditionIs ItemIs
    stmt_rolled link_rolled expr_rolled field_rolled step_rolled kind_rolled arm_rolled block_rolled branch_rolled condition_rolled item_rolled
