-- Fields, steps, statements, blocks, conditions, branches and arms that are enclosed.
use Rattle.std.proofs.Common.{◌≡◌, ◌+◌, ◌*◌, ◌≤◌, inl, inr, true, List, map, Option, Some, None, refl, ap, arith}
use Rattle.lay_node.specs.declared.attr.Attr.{Attr}
use Rattle.lay_node.specs.declared.patterns.Pat.{Pat}
use Rattle.lay_code.specs.declared.blocks.Stmt.TheOpen.{Arm-F, Block-F, Branch-F, Condition-F, FieldExpr-F, Link-F, Step-F, Stmt-F}
use Rattle.lay_code.specs.declared.blocks.Stmt.TheViews as views
use Rattle.lay_code.specs.declared.exprs.Step.{Step}
use Rattle.lay_code.specs.declared.exprs.Step.TheVariants as step
use Rattle.lay_paren_defs.specs.Enclosed.{arm_shell, block_shell, branch_shell, condition_shell, enclose_block, enclose_item, enclosed, field_shell, link_shell, part, step_shell, stmt_shell}
use Rattle.lay_depth.proofs.BlockLemmas as of
use Rattle.lay_depth.proofs.ExprLemmas as exprs
use Rattle.lay_paren.proofs.loose_laws_lemmas.DepthKept.{AllDeep, DeepExpr, arm_depth, arm_layer, block_depth, block_layer, branch_depth, branch_layer, condition_depth, condition_layer, field_depth, field_layer, link_depth, link_layer, step_depth, step_layer, stmt_depth, stmt_layer}
use Rattle.lay_paren.proofs.loose_laws_lemmas.DepthParts.{body_deep, exprs_deep, links_deep, part_deep, stmts_deep, trees}

-- ---- fields of struct literals

pub field_step : (y : AllDeep FieldExpr-F) → field_depth (field_shell true (field_layer y)) ≤ 2 * field_depth (views.roll-FieldExpr (field_layer y)) + 1
field_step (FieldExpr-F.Named attrs name x) =
    let before = exprs.field_value_is _ x.0 (inl (attrs, name, (views.rolls-Named attrs name x.0))) in
    let now = exprs.field_value_is _ (part true x.0) (inl (attrs, name, refl)) in
    let m = part_deep x in
    omega (arith, before, now, m)
field_step (FieldExpr-F.Numbered attrs index x) =
    let before = exprs.field_value_is _ x.0 (inr (attrs, index, (views.rolls-Numbered attrs index x.0))) in
    let now = exprs.field_value_is _ (part true x.0) (inr (attrs, index, refl)) in
    let m = part_deep x in
    omega (arith, before, now, m)
field_step (FieldExpr-F.Short attrs name) =
    let now = exprs.short_is _ attrs name refl in
    omega (arith, now)

-- ---- steps

-- one with no part that is enclosed
leaf_step : (x y : Step) → y ≡ x → step_depth x ≤ 2 * step_depth y + 1
leaf_step x y is = let m = ap step_depth is in omega (arith, m)

pub step_step : (y : AllDeep Step-F) → step_depth (step_shell true (step_layer y)) ≤ 2 * step_depth (views.roll-Step (step_layer y)) + 1
step_step (Step-F.Field name) = leaf_step (step.Field name) (views.roll-Step (Step-F.Field name)) (views.rolls-Field name)
step_step (Step-F.TupleIndex index) = leaf_step (step.TupleIndex index) (views.roll-Step (Step-F.TupleIndex index)) (views.rolls-TupleIndex index)
step_step Step-F.Try = leaf_step step.Try (views.roll-Step Step-F.Try) views.rolls-Try
step_step Step-F.Await = leaf_step step.Await (views.roll-Step Step-F.Await) views.rolls-Await
step_step (Step-F.Method name None args) =
    let before = exprs.bare_method_is _ name None (trees args) (views.rolls-Method name None (trees args)) refl in
    let now = exprs.bare_method_is _ name None (map (part true) (trees args)) refl refl in
    let m = exprs_deep args in
    omega (arith, before, now, m)
step_step (Step-F.Method name (Some given) args) =
    let before = exprs.given_method_is _ name (Some given) (trees args) given (views.rolls-Method name (Some given) (trees args)) refl in
    let now = exprs.given_method_is _ name (Some given) (map (part true) (trees args)) given refl refl in
    let m = exprs_deep args in
    omega (arith, before, now, m)
step_step (Step-F.Apply args) =
    let before = exprs.apply_is _ (trees args) (views.rolls-Apply (trees args)) in
    let now = exprs.apply_is _ (map (part true) (trees args)) refl in
    let m = exprs_deep args in
    omega (arith, before, now, m)
step_step (Step-F.Index x) =
    let before = exprs.index_is _ x.0 (views.rolls-Index x.0) in
    let now = exprs.index_is _ (part true x.0) refl in
    let m = part_deep x in
    omega (arith, before, now, m)

-- ---- statements and blocks

pub stmt_step : (y : AllDeep Stmt-F) → stmt_depth (stmt_shell true (stmt_layer y)) ≤ 2 * stmt_depth (views.roll-Stmt (stmt_layer y)) + 1
stmt_step (Stmt-F.Stmt::Let attrs pat ty None None) =
    let before = of.let_alone_is _ attrs pat ty None None (views.rolls-Stmt::Let attrs pat ty None None) refl in
    let now = of.let_alone_is _ attrs pat ty None None refl refl in
    omega (arith, before, now)
stmt_step (Stmt-F.Stmt::Let attrs pat ty None (Some c)) =
    let before = of.let_else_is _ attrs pat ty None (Some c.0) c.0 (views.rolls-Stmt::Let attrs pat ty None (Some c.0)) refl in
    let now = of.let_else_is _ attrs pat ty None (Some (enclose_block true c.0)) (enclose_block true c.0) refl refl in
    let n = c.1 in
    omega (arith, before, now, n)
stmt_step (Stmt-F.Stmt::Let attrs pat ty (Some x) None) =
    let before = of.let_alone_is _ attrs pat ty (Some x.0) None (views.rolls-Stmt::Let attrs pat ty (Some x.0) None) refl in
    let now = of.let_alone_is _ attrs pat ty (Some (part true x.0)) None refl refl in
    let m = part_deep x in
    omega (arith, before, now, m)
stmt_step (Stmt-F.Stmt::Let attrs pat ty (Some x) (Some c)) =
    let before = of.let_else_is _ attrs pat ty (Some x.0) (Some c.0) c.0 (views.rolls-Stmt::Let attrs pat ty (Some x.0) (Some c.0)) refl in
    let now = of.let_else_is _ attrs pat ty (Some (part true x.0)) (Some (enclose_block true c.0)) (enclose_block true c.0) refl refl in
    let m = part_deep x in
    let n = c.1 in
    omega (arith, before, now, m, n)
stmt_step (Stmt-F.Item item) =
    let before = of.item_is _ item.0 (views.rolls-Item item.0) in
    let now = of.item_is _ (enclose_item true item.0) refl in
    let m = item.1 in
    omega (arith, before, now, m)
stmt_step (Stmt-F.Stmt::Expr attrs x ended) =
    let before = of.expr_is _ attrs x.0 ended (views.rolls-Stmt::Expr attrs x.0 ended) in
    let now = of.expr_is _ attrs (enclosed x.0) ended refl in
    let m = x.1 in
    omega (arith, before, now, m)

pub block_step : (y : AllDeep Block-F) → block_depth (block_shell true (block_layer y)) ≤ 2 * block_depth (views.roll-Block (block_layer y)) + 1
block_step y =
    let before = of.block_is (views.roll-Block (block_layer y)) true in
    let now = of.block_is (block_shell true (block_layer y)) true in
    let m = stmts_deep y.stmts in
    omega (arith, before, now, m)

-- ---- conditions and branches

pub link_step : (y : AllDeep Link-F) → link_depth (link_shell true (link_layer y)) ≤ 2 * link_depth (views.roll-Link (link_layer y)) + 1
link_step (Link-F.Link::Expr x) =
    let before = of.expr_link_is _ x.0 (views.rolls-Link::Expr x.0) in
    let now = of.expr_link_is _ (part true x.0) refl in
    let m = part_deep x in
    omega (arith, before, now, m)
link_step (Link-F.Link::Let pat x) =
    let before = of.let_link_is _ pat x.0 (views.rolls-Link::Let pat x.0) in
    let now = of.let_link_is _ pat (part true x.0) refl in
    let m = part_deep x in
    omega (arith, before, now, m)

pub condition_step : (y : AllDeep Condition-F)
    → condition_depth (condition_shell true (condition_layer y)) ≤ 2 * condition_depth (views.roll-Condition (condition_layer y)) + 1
condition_step y =
    let before = of.condition_is (views.roll-Condition (condition_layer y)) in
    let now = of.condition_is (condition_shell true (condition_layer y)) in
    let m = links_deep y.links in
    omega (arith, before, now, m)

pub branch_step : (y : AllDeep Branch-F) → branch_depth (branch_shell true (branch_layer y)) ≤ 2 * branch_depth (views.roll-Branch (branch_layer y)) + 1
branch_step y =
    let before = of.branch_is (views.roll-Branch (branch_layer y)) in
    let now = of.branch_is (branch_shell true (branch_layer y)) in
    let m = y.condition.1 in
    let n = y.body.1 in
    omega (arith, before, now, m, n)

-- ---- arms

module _ (attrs : List Attr) (pat : Pat) where
  abbrev node : Option DeepExpr → DeepExpr → AllDeep Arm-F
  node guard x = record { attrs = attrs; pat = pat; guard = guard; body = x }

  of_arm : (guard : Option DeepExpr) (x : DeepExpr)
      → arm_depth (arm_shell true (arm_layer (node guard x))) ≤ 2 * arm_depth (views.roll-Arm (arm_layer (node guard x))) + 1
  of_arm None x =
      let before = of.arm_is (views.roll-Arm (arm_layer (node None x))) true in
      let now = of.arm_is (arm_shell true (arm_layer (node None x))) true in
      let m = body_deep x in
      omega (arith, before, now, m)
  of_arm (Some g) x =
      let before = of.arm_is (views.roll-Arm (arm_layer (node (Some g) x))) true in
      let now = of.arm_is (arm_shell true (arm_layer (node (Some g) x))) true in
      let m = body_deep x in
      let n = part_deep g in
      omega (arith, before, now, m, n)

pub arm_step : (y : AllDeep Arm-F) → arm_depth (arm_shell true (arm_layer y)) ≤ 2 * arm_depth (views.roll-Arm (arm_layer y)) + 1
arm_step y = of_arm y.attrs y.pat y.guard y.body
