-- Layers of statements, blocks, conditions, branches and arms pass, where the nodes within them do.
use Rattle.std.proofs.Common.{◌≡◌, List, true, refl, sym, subst, map, Option, option_map, Some, None}
use Rattle.lay_node.specs.declared.attr.Attr.{Attr}
use Rattle.lay_node.specs.declared.patterns.Pat.{Pat}
use Rattle.lay_code.specs.nodes.Blocks.{stmt_facts}
use Rattle.lay_code.specs.nodes.Code.{about_block, about_condition, about_expr, about_link, about_stmt, told_of_item}
use Rattle.lay_code.specs.nodes.Conditions.{link_facts}
use Rattle.lay_code.specs.nodes.Exprs.{ExprLayer, expr_facts}
use Rattle.lay_code.specs.declared.blocks.Arm.{Arm}
use Rattle.lay_code.specs.declared.blocks.Block.{Block}
use Rattle.lay_code.specs.declared.blocks.Branch.{Branch}
use Rattle.lay_code.specs.declared.blocks.Stmt.TheOpen.{Arm-F, Block-F, Branch-F, Condition-F, Expr-F, Link-F, Stmt-F}
use Rattle.lay_code.specs.declared.blocks.Stmt.TheViews as views
use Rattle.lay_code.specs.declared.conditions.Condition.{Condition}
use Rattle.lay_code.specs.declared.exprs.Expr.{Expr}
use Rattle.lay_code.proofs.nodes.BlocksLaws.{arm_is, block_is, branch_is, condition_is}
use Rattle.lay_code.proofs.nodes.Layers.{expr_is, link_is, link_told, stmt_is, stmt_told}
use Rattle.lay_reparse.proofs.file.TypeArgs.{Any, Each}
use Rattle.lay_reparse.proofs.file.Types.{kept}
use Rattle.lay_reparse.proofs.file.ExprPlaces.{ExprPasses}
use Rattle.lay_reparse.proofs.file.BlockKinds.{BlockPasses, StmtPasses, block_pass, expr_stmt_pass, item_stmt_pass, let_pass}
use Rattle.lay_reparse.proofs.file.ArmKinds.{ArmPasses, BranchPasses, arm_pass, block_free, branch_pass}
use Rattle.lay_reparse.proofs.file.CodeKept.{ArmIs, BlockIs, BranchIs, ConditionIs, ExprIs, Kept, KeptExpr, LinkIs, StmtIs, arm_layer, block_layer, branch_layer, condition_layer, link_layer, stmt_layer}
use Rattle.lay_reparse.proofs.file.Conditions.{ConditionPasses, LinkPasses, condition_pass, expr_link_pass, let_link_pass}

-- ---- statements

stmt_layer_passes : (y : Kept Stmt-F) → StmtPasses (stmt_facts (stmt_told (stmt_layer y)))
stmt_layer_passes (Stmt-F.Stmt::Let attrs pat ty None None) = let_pass attrs pat ty None None tt tt
stmt_layer_passes (Stmt-F.Stmt::Let attrs pat ty None (Some b)) =
    let_pass attrs pat ty None (Some (about_block b.0)) tt b.1
stmt_layer_passes (Stmt-F.Stmt::Let attrs pat ty (Some x) None) =
    let_pass attrs pat ty (Some (about_expr x.0)) None x.1 tt
stmt_layer_passes (Stmt-F.Stmt::Let attrs pat ty (Some x) (Some b)) =
    let_pass attrs pat ty (Some (about_expr x.0)) (Some (about_block b.0)) x.1 b.1
stmt_layer_passes (Stmt-F.Item item) = item_stmt_pass (told_of_item item.0) item.1
stmt_layer_passes (Stmt-F.Stmt::Expr attrs x ended) = expr_stmt_pass attrs (about_expr x.0) ended x.1

pub stmt_step : (y : Kept Stmt-F) → StmtIs (views.roll-Stmt (stmt_layer y))
stmt_step y = subst StmtPasses (sym (stmt_is (stmt_layer y))) (stmt_layer_passes y)

-- ---- blocks, conditions and branches

block_from : (b : Block) → Each StmtPasses (map about_stmt b.stmts) → BlockIs b
block_from b k = subst BlockPasses (sym (block_is b)) (block_pass b.attrs (map about_stmt b.stmts) k)

pub block_step : (y : Kept Block-F) → BlockIs (views.roll-Block (block_layer y))
block_step y = block_from _ (kept StmtPasses about_stmt y.stmts)

link_layer_passes : (y : Kept Link-F) → LinkPasses (link_facts (link_told (link_layer y)))
link_layer_passes (Link-F.Link::Expr x) = expr_link_pass (about_expr x.0) x.1
link_layer_passes (Link-F.Link::Let pat x) = let_link_pass pat (about_expr x.0) x.1

pub link_step : (y : Kept Link-F) → LinkIs (views.roll-Link (link_layer y))
link_step y = subst LinkPasses (sym (link_is (link_layer y))) (link_layer_passes y)

condition_from : (c : Condition) → Each LinkPasses (map about_link c.links) → ConditionIs c
condition_from c k = subst ConditionPasses (sym (condition_is c)) (condition_pass (map about_link c.links) k)

pub condition_step : (y : Kept Condition-F) → ConditionIs (views.roll-Condition (condition_layer y))
condition_step y = condition_from _ (kept LinkPasses about_link y.links)

branch_from : (b : Branch) → ConditionIs b.condition → BlockIs b.body → BranchIs b
branch_from b k l =
    subst BranchPasses (sym (branch_is b)) (branch_pass (about_condition b.condition) (about_block b.body) k l)

pub branch_step : (y : Kept Branch-F) → BranchIs (views.roll-Branch (branch_layer y))
branch_step y = branch_from _ y.condition.1 y.body.1

-- ---- arms

layer_free : (y : ExprLayer) → block_free (expr_facts y) ≡ true
layer_free (Expr-F.Expr::Call call) = refl
layer_free (Expr-F.Block None b) = refl
layer_free (Expr-F.Block (Some l) b) = refl
layer_free _ = refl

-- After a block no comma is asked.
free : (x : Expr) → block_free (about_expr x) ≡ true
free x = subst (λ z. block_free (about_expr z) ≡ true) (views.roll-out-Expr x)
    (subst (λ z. block_free z ≡ true) (sym (expr_is (views.out-Expr x))) (layer_free _))

arm_from : (a : Arm) → Any ExprPasses (option_map about_expr a.guard) → ExprIs a.body → ArmIs a
arm_from a k l = subst ArmPasses (sym (arm_is a))
    (arm_pass a.attrs a.pat (option_map about_expr a.guard) (about_expr a.body) k l (free a.body))

arm_by : (attrs : List Attr) (pat : Pat) (guard : Option KeptExpr) (body : KeptExpr)
    → ArmIs (views.roll-Arm (arm_layer (record { attrs = attrs; pat = pat; guard = guard; body = body })))
arm_by attrs pat None body = arm_from _ tt body.1
arm_by attrs pat (Some x) body = arm_from _ x.1 body.1

pub arm_step : (y : Kept Arm-F) → ArmIs (views.roll-Arm (arm_layer y))
arm_step y = arm_by y.attrs y.pat y.guard y.body
