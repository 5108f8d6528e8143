-- Layers of statements, blocks, conditions, branches and arms tell their units, where the nodes within them do.
use Rattle.std.proofs.Common.{List, sym, subst, map, Option, option_map, Some, None}
use Rattle.lay_node.specs.declared.attr.Attr.{Attr}
use Rattle.lay_node.specs.declared.patterns.Pat.{Pat}
use Rattle.lay_code.specs.nodes.Blocks.{stmt_facts}
use Rattle.lay_code.specs.nodes.Code.{about_block, about_condition, about_expr, about_link, about_stmt, told_of_item}
use Rattle.lay_code.specs.nodes.Conditions.{link_facts}
use Rattle.lay_code.specs.declared.blocks.Arm.{Arm}
use Rattle.lay_code.specs.declared.blocks.Block.{Block}
use Rattle.lay_code.specs.declared.blocks.Branch.{Branch}
use Rattle.lay_code.specs.declared.blocks.Stmt.TheOpen.{Arm-F, Block-F, Branch-F, Condition-F, Link-F, Stmt-F}
use Rattle.lay_code.specs.declared.blocks.Stmt.TheViews as views
use Rattle.lay_code.specs.declared.conditions.Condition.{Condition}
use Rattle.lay_code.proofs.nodes.BlocksLaws.{arm_is, block_is, branch_is, condition_is}
use Rattle.lay_code.proofs.nodes.Layers.{link_is, link_told, stmt_is, stmt_told}
use Rattle.lay_map.proofs.nodes.ArmKinds.{ArmTells, arm_tells}
use Rattle.lay_map.proofs.nodes.BlockKinds.{BlockTells, BranchTells, ConditionTells, LinkTells, StmtTells, block_tells, branch_tells, condition_tells, expr_link, expr_stmt, item_stmt, let_link, let_stmt}
use Rattle.lay_map.proofs.nodes.CodeKept.{ArmIs, BlockIs, BranchIs, ConditionIs, ExprIs, Kept, KeptExpr, LinkIs, StmtIs, arm_layer, block_layer, branch_layer, condition_layer, link_layer, stmt_layer}
use Rattle.lay_map.proofs.nodes.ExprParts.{ExprTells}
use Rattle.lay_map.proofs.nodes.TypeArgs.{Each, Given}
use Rattle.lay_map.proofs.nodes.Types.{kept}

-- ---- statements

stmt_layer_tells : (y : Kept Stmt-F) → StmtTells (stmt_facts (stmt_told (stmt_layer y)))
stmt_layer_tells (Stmt-F.Stmt::Let attrs pat ty None None) = let_stmt attrs pat ty None None tt tt
stmt_layer_tells (Stmt-F.Stmt::Let attrs pat ty None (Some b)) =
    let_stmt attrs pat ty None (Some (about_block b.0)) tt b.1
stmt_layer_tells (Stmt-F.Stmt::Let attrs pat ty (Some x) None) =
    let_stmt attrs pat ty (Some (about_expr x.0)) None x.1 tt
stmt_layer_tells (Stmt-F.Stmt::Let attrs pat ty (Some x) (Some b)) =
    let_stmt attrs pat ty (Some (about_expr x.0)) (Some (about_block b.0)) x.1 b.1
stmt_layer_tells (Stmt-F.Item item) = item_stmt (told_of_item item.0) item.1
stmt_layer_tells (Stmt-F.Stmt::Expr attrs x ended) = expr_stmt attrs (about_expr x.0) ended x.1

pub stmt_step : (y : Kept Stmt-F) → StmtIs (views.roll-Stmt (stmt_layer y))
stmt_step y = subst StmtTells (sym (stmt_is (stmt_layer y))) (stmt_layer_tells y)

-- ---- blocks, conditions and branches

block_from : (b : Block) → Each StmtTells (map about_stmt b.stmts) → BlockIs b
block_from b k = subst BlockTells (sym (block_is b)) (block_tells b.attrs (map about_stmt b.stmts) k)

pub block_step : (y : Kept Block-F) → BlockIs (views.roll-Block (block_layer y))
block_step y = block_from _ (kept StmtTells about_stmt y.stmts)

link_layer_tells : (y : Kept Link-F) → LinkTells (link_facts (link_told (link_layer y)))
link_layer_tells (Link-F.Link::Expr x) = expr_link (about_expr x.0) x.1
link_layer_tells (Link-F.Link::Let pat x) = let_link pat (about_expr x.0) x.1

pub link_step : (y : Kept Link-F) → LinkIs (views.roll-Link (link_layer y))
link_step y = subst LinkTells (sym (link_is (link_layer y))) (link_layer_tells y)

condition_from : (c : Condition) → Each LinkTells (map about_link c.links) → ConditionIs c
condition_from c k = subst ConditionTells (sym (condition_is c)) (condition_tells (map about_link c.links) k)

pub condition_step : (y : Kept Condition-F) → ConditionIs (views.roll-Condition (condition_layer y))
condition_step y = condition_from _ (kept LinkTells about_link y.links)

branch_from : (b : Branch) → ConditionIs b.condition → BlockIs b.body → BranchIs b
branch_from b k l =
    subst BranchTells (sym (branch_is b)) (branch_tells (about_condition b.condition) (about_block b.body) k l)

pub branch_step : (y : Kept Branch-F) → BranchIs (views.roll-Branch (branch_layer y))
branch_step y = branch_from _ y.condition.1 y.body.1

-- ---- arms

arm_from : (a : Arm) → Given ExprTells (option_map about_expr a.guard) → ExprIs a.body → ArmIs a
arm_from a k l = subst ArmTells (sym (arm_is a))
    (arm_tells a.attrs a.pat (option_map about_expr a.guard) (about_expr a.body) k l)

arm_by : (attrs : List Attr) (pat : Pat) (guard : Option KeptExpr) (body : KeptExpr)
    → ArmIs (views.roll-Arm (arm_layer (record { attrs = attrs; pat = pat; guard = guard; body = body })))
arm_by attrs pat None body = arm_from _ tt body.1
arm_by attrs pat (Some x) body = arm_from _ x.1 body.1

pub arm_step : (y : Kept Arm-F) → ArmIs (views.roll-Arm (arm_layer y))
arm_step y = arm_by y.attrs y.pat y.guard y.body
