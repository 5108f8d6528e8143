-- The facts about blocks, statements, conditions, branches and arms.
use Rattle.std.proofs.Common.{◌≡◌, Bool, List, map, Option, option_map, Some, None, sym, ap, ◌∙◌, subst}
use Rattle.lay_node.specs.nodes.Facts.{Facts}
use Rattle.lay_node.specs.declared.attr.Attr.{Attr}
use Rattle.lay_node.specs.declared.patterns.Pat.{Pat}
use Rattle.lay_node.specs.declared.types.Ty.{Ty}
use Rattle.lay_code.specs.nodes.Blocks.{arm_facts, block_facts, branch_facts, stmt_facts}
use Rattle.lay_code.specs.nodes.Code.{about_arm, about_block, about_branch, about_condition, about_expr, about_field_expr, about_link, about_step, about_stmt, told_of_item, told_of_kind}
use Rattle.lay_code.specs.nodes.CodeFacts.{ArmFacts, BlockFacts, BranchFacts, ConditionFacts, ItemFacts, KindFacts, LinkFacts, StmtFacts}
use Rattle.lay_code.specs.nodes.Conditions.{condition_facts, link_facts}
use Rattle.lay_code.specs.nodes.Exprs.{ExprFacts, StepFacts, expr_facts, field_facts, step_facts}
use Rattle.lay_code.specs.nodes.Item.{item_facts, kind_facts}
use Rattle.lay_code.specs.nodes.Layers.{LinkNode, StmtNode}
use Rattle.lay_code.specs.declared.blocks.Arm.{Arm}
use Rattle.lay_code.specs.declared.blocks.Block.{Block}
use Rattle.lay_code.specs.declared.blocks.Branch.{Branch}
use Rattle.lay_code.specs.declared.blocks.Stmt.{Stmt}
use Rattle.lay_code.specs.declared.blocks.Stmt.TheFolds.{fold_out-Arm, fold_out-Block, fold_out-Branch, fold_out-Condition}
use Rattle.lay_code.specs.declared.blocks.Stmt.TheOpen.{Link-F, Stmt-F}
use Rattle.lay_code.specs.declared.blocks.Stmt.TheVariants as stmt
use Rattle.lay_code.specs.declared.blocks.Stmt.TheViews as views
use Rattle.lay_code.specs.declared.conditions.Condition.{Condition}
use Rattle.lay_code.specs.declared.conditions.Link.{Link}
use Rattle.lay_code.specs.declared.conditions.Link.TheVariants as link
use Rattle.lay_code.specs.declared.exprs.Expr.{Expr}
use Rattle.lay_code.specs.declared.item.Item.{Item}
use Rattle.lay_code.proofs.nodes.Layers.{link_is, stmt_is}

-- which kind of statement it is
pub data StmtView : Stmt → Type 0 where
  IsLet : (attrs : List Attr) (pat : Pat) (ty : Option Ty) (value : Option Expr) (otherwise : Option Block) → StmtView (stmt.Let attrs pat ty value otherwise)
  IsItem : (item : Item) → StmtView (stmt.Item item)
  IsExpr : (attrs : List Attr) (x : Expr) (ended : Bool) → StmtView (stmt.Expr attrs x ended)

stmt_layer : (layer : StmtNode) → StmtView (views.roll-Stmt layer)
stmt_layer (Stmt-F.Stmt::Let attrs pat ty value otherwise) = subst StmtView (sym (views.rolls-Stmt::Let attrs pat ty value otherwise)) (IsLet attrs pat ty value otherwise)
stmt_layer (Stmt-F.Item item) = subst StmtView (sym (views.rolls-Item item)) (IsItem item)
stmt_layer (Stmt-F.Stmt::Expr attrs x ended) = subst StmtView (sym (views.rolls-Stmt::Expr attrs x ended)) (IsExpr attrs x ended)

pub stmt_view : (x : Stmt) → StmtView x
stmt_view x = subst StmtView (views.roll-out-Stmt x) (stmt_layer (views.out-Stmt x))

pub stmt_let_is : (attrs : List Attr) (pat : Pat) (ty : Option Ty) (value : Option Expr) (otherwise : Option Block) → about_stmt (stmt.Let attrs pat ty value otherwise) ≡ stmt_facts (Stmt-F.Stmt::Let attrs pat ty (option_map about_expr value) (option_map about_block otherwise))
stmt_let_is attrs pat ty None None =
    ap about_stmt (sym (views.rolls-Stmt::Let attrs pat ty None None))
    ∙ stmt_is (Stmt-F.Stmt::Let attrs pat ty None None)
stmt_let_is attrs pat ty None (Some x1) =
    ap about_stmt (sym (views.rolls-Stmt::Let attrs pat ty None (Some x1)))
    ∙ stmt_is (Stmt-F.Stmt::Let attrs pat ty None (Some x1))
stmt_let_is attrs pat ty (Some x0) None =
    ap about_stmt (sym (views.rolls-Stmt::Let attrs pat ty (Some x0) None))
    ∙ stmt_is (Stmt-F.Stmt::Let attrs pat ty (Some x0) None)
stmt_let_is attrs pat ty (Some x0) (Some x1) =
    ap about_stmt (sym (views.rolls-Stmt::Let attrs pat ty (Some x0) (Some x1)))
    ∙ stmt_is (Stmt-F.Stmt::Let attrs pat ty (Some x0) (Some x1))

pub stmt_item_is : (item : Item) → about_stmt (stmt.Item item) ≡ stmt_facts (Stmt-F.Item (told_of_item item))
stmt_item_is item =
    ap about_stmt (sym (views.rolls-Item item))
    ∙ stmt_is (Stmt-F.Item item)

pub stmt_expr_is : (attrs : List Attr) (x : Expr) (ended : Bool) → about_stmt (stmt.Expr attrs x ended) ≡ stmt_facts (Stmt-F.Stmt::Expr attrs (about_expr x) ended)
stmt_expr_is attrs x ended =
    ap about_stmt (sym (views.rolls-Stmt::Expr attrs x ended))
    ∙ stmt_is (Stmt-F.Stmt::Expr attrs x ended)

pub block_is : (b : Block) → about_block b ≡ block_facts (record { attrs = b.attrs; stmts = map about_stmt b.stmts })
unfolding about_expr about_field_expr about_step about_stmt about_block about_branch about_condition about_link about_arm told_of_item told_of_kind
block_is b = fold_out-Block StmtFacts LinkFacts ExprFacts Facts StepFacts KindFacts ArmFacts BlockFacts BranchFacts ConditionFacts ItemFacts stmt_facts link_facts expr_facts field_facts step_facts kind_facts arm_facts block_facts branch_facts condition_facts item_facts b

-- which kind of link it is
pub data LinkView : Link → Type 0 where
  IsExprLink : (x : Expr) → LinkView (link.Expr x)
  IsLetLink : (pat : Pat) (x : Expr) → LinkView (link.Let pat x)

link_layer : (layer : LinkNode) → LinkView (views.roll-Link layer)
link_layer (Link-F.Link::Expr x) = subst LinkView (sym (views.rolls-Link::Expr x)) (IsExprLink x)
link_layer (Link-F.Link::Let pat x) = subst LinkView (sym (views.rolls-Link::Let pat x)) (IsLetLink pat x)

pub link_view : (x : Link) → LinkView x
link_view x = subst LinkView (views.roll-out-Link x) (link_layer (views.out-Link x))

pub link_expr_is : (x : Expr) → about_link (link.Expr x) ≡ link_facts (Link-F.Link::Expr (about_expr x))
link_expr_is x =
    ap about_link (sym (views.rolls-Link::Expr x))
    ∙ link_is (Link-F.Link::Expr x)

pub link_let_is : (pat : Pat) (x : Expr) → about_link (link.Let pat x) ≡ link_facts (Link-F.Link::Let pat (about_expr x))
link_let_is pat x =
    ap about_link (sym (views.rolls-Link::Let pat x))
    ∙ link_is (Link-F.Link::Let pat x)

pub condition_is : (c : Condition) → about_condition c ≡ condition_facts (record { links = map about_link c.links })
unfolding about_expr about_field_expr about_step about_stmt about_block about_branch about_condition about_link about_arm told_of_item told_of_kind
condition_is c = fold_out-Condition StmtFacts LinkFacts ExprFacts Facts StepFacts KindFacts ArmFacts BlockFacts BranchFacts ConditionFacts ItemFacts stmt_facts link_facts expr_facts field_facts step_facts kind_facts arm_facts block_facts branch_facts condition_facts item_facts c

pub branch_is : (b : Branch) → about_branch b ≡ branch_facts (record { condition = about_condition b.condition; body = about_block b.body })
unfolding about_expr about_field_expr about_step about_stmt about_block about_branch about_condition about_link about_arm told_of_item told_of_kind
branch_is b = fold_out-Branch StmtFacts LinkFacts ExprFacts Facts StepFacts KindFacts ArmFacts BlockFacts BranchFacts ConditionFacts ItemFacts stmt_facts link_facts expr_facts field_facts step_facts kind_facts arm_facts block_facts branch_facts condition_facts item_facts b

-- an arm with this guard
arm_by : (a : Arm) (guard : Option Expr) → about_arm (record a { guard = guard }) ≡ arm_facts (record { attrs = a.attrs; pat = a.pat; guard = option_map about_expr guard; body = about_expr a.body })
unfolding about_expr about_field_expr about_step about_stmt about_block about_branch about_condition about_link about_arm told_of_item told_of_kind
arm_by a None = fold_out-Arm StmtFacts LinkFacts ExprFacts Facts StepFacts KindFacts ArmFacts BlockFacts BranchFacts ConditionFacts ItemFacts stmt_facts link_facts expr_facts field_facts step_facts kind_facts arm_facts block_facts branch_facts condition_facts item_facts (record a { guard = None })
arm_by a (Some x) = fold_out-Arm StmtFacts LinkFacts ExprFacts Facts StepFacts KindFacts ArmFacts BlockFacts BranchFacts ConditionFacts ItemFacts stmt_facts link_facts expr_facts field_facts step_facts kind_facts arm_facts block_facts branch_facts condition_facts item_facts (record a { guard = Some x })

pub arm_is : (a : Arm) → about_arm a ≡ arm_facts (record { attrs = a.attrs; pat = a.pat; guard = option_map about_expr a.guard; body = about_expr a.body })
arm_is a = arm_by a a.guard
