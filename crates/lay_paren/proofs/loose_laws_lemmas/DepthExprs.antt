-- Expressions that are enclosed: kind by kind.
use Rattle.std.proofs.Common.{◌≡◌, ◌*◌, ◌≤◌, inl, inr, true, map, Some, None, refl, ap, arith}
use Rattle.lay_code.specs.declared.blocks.Stmt.TheOpen.{Expr-F}
use Rattle.lay_code.specs.declared.blocks.Stmt.TheViews as views
use Rattle.lay_code.specs.declared.exprs.Expr.{Expr}
use Rattle.lay_code.specs.declared.exprs.Expr.TheVariants as expr
use Rattle.lay_paren_defs.specs.Enclosed.{body_part, enclose_arm, enclose_block, enclose_branch, enclose_condition, enclose_field, enclose_step, expr_shell, operand_part, part, target_part}
use Rattle.lay_depth.proofs.ExprLemmas as of
use Rattle.lay_paren.proofs.loose_laws_lemmas.DepthKept.{AllDeep, expr_depth, expr_layer}
use Rattle.lay_paren.proofs.loose_laws_lemmas.DepthParts.{arms, arms_deep, body_deep, branches, branches_deep, exprs_deep, fields, fields_deep, operands, operands_deep, part_deep, steps, steps_deep, targets, targets_deep, trees}

-- one with no part that is enclosed
leaf_step : (x y : Expr) → y ≡ x → expr_depth x ≤ 2 * expr_depth y
leaf_step x y is = let m = ap expr_depth is in omega (arith, m)

pub expr_step : (y : AllDeep Expr-F) → expr_depth (expr_shell true (expr_layer y)) ≤ 2 * expr_depth (views.roll-Expr (expr_layer y))
expr_step (Expr-F.Lit l) = leaf_step (expr.Lit l) (views.roll-Expr (Expr-F.Lit l)) (views.rolls-Lit l)
expr_step (Expr-F.Path path) = leaf_step (expr.Path path) (views.roll-Expr (Expr-F.Path path)) (views.rolls-Path path)
expr_step Expr-F.Underscore = leaf_step expr.Underscore (views.roll-Expr Expr-F.Underscore) views.rolls-Underscore
expr_step (Expr-F.Expr::Call call) = leaf_step (expr.Call call) (views.roll-Expr (Expr-F.Expr::Call call)) (views.rolls-Expr::Call call)
expr_step (Expr-F.Continue label) = leaf_step (expr.Continue label) (views.roll-Expr (Expr-F.Continue label)) (views.rolls-Continue label)
expr_step (Expr-F.Paren x) =
    let before = of.inner_is _ x.0 (inl (views.rolls-Paren x.0)) in
    let now = of.inner_is _ (part true x.0) (inl refl) in
    let m = part_deep x in
    omega (arith, before, now, m)
expr_step (Expr-F.Tuple xs) =
    let before = of.elements_are _ (trees xs) (inl (views.rolls-Tuple (trees xs))) in
    let now = of.elements_are _ (map (part true) (trees xs)) (inl refl) in
    let m = exprs_deep xs in
    omega (arith, before, now, m)
expr_step (Expr-F.Array xs) =
    let before = of.elements_are _ (trees xs) (inr (views.rolls-Array (trees xs))) in
    let now = of.elements_are _ (map (part true) (trees xs)) (inr refl) in
    let m = exprs_deep xs in
    omega (arith, before, now, m)
expr_step (Expr-F.Repeat x length) =
    let before = of.inner_is _ x.0 (inr (inl (length, (views.rolls-Repeat x.0 length)))) in
    let now = of.inner_is _ (part true x.0) (inr (inl (length, refl))) in
    let m = part_deep x in
    omega (arith, before, now, m)
expr_step (Expr-F.Expr::Struct path fs None) =
    let before = of.struct_is _ path (fields fs) None (views.rolls-Expr::Struct path (fields fs) None) in
    let now = of.struct_is _ path (map (enclose_field true) (fields fs)) None refl in
    let m = fields_deep fs in
    omega (arith, before, now, m)
expr_step (Expr-F.Expr::Struct path fs (Some None)) =
    let before = of.struct_is _ path (fields fs) (Some None) (views.rolls-Expr::Struct path (fields fs) (Some None)) in
    let now = of.struct_is _ path (map (enclose_field true) (fields fs)) (Some None) refl in
    let m = fields_deep fs in
    omega (arith, before, now, m)
expr_step (Expr-F.Expr::Struct path fs (Some (Some x))) =
    let before = of.struct_is _ path (fields fs) (Some (Some x.0)) (views.rolls-Expr::Struct path (fields fs) (Some (Some x.0))) in
    let now = of.struct_is _ path (map (enclose_field true) (fields fs)) (Some (Some (part true x.0))) refl in
    let m = fields_deep fs in
    let n = part_deep x in
    omega (arith, before, now, m, n)
expr_step (Expr-F.Chain x rest) =
    let before = of.chain_is _ x.0 (operands rest) (views.rolls-Chain x.0 (operands rest)) in
    let now = of.chain_is _ (part true x.0) (map (operand_part true) (operands rest)) refl in
    let m = part_deep x in
    let n = operands_deep rest in
    omega (arith, before, now, m, n)
expr_step (Expr-F.Cast x types) =
    let before = of.cast_is _ x.0 types (views.rolls-Cast x.0 types) in
    let now = of.cast_is _ (part true x.0) types refl in
    let m = part_deep x in
    omega (arith, before, now, m)
expr_step (Expr-F.Unary ps x) =
    let before = of.inner_is _ x.0 (inr (inr (ps, (views.rolls-Unary ps x.0)))) in
    let now = of.inner_is _ (part true x.0) (inr (inr (ps, refl))) in
    let m = part_deep x in
    omega (arith, before, now, m)
expr_step (Expr-F.Range None inclusive None) =
    let before = of.range_is _ None inclusive None (views.rolls-Range None inclusive None) in
    let now = of.range_is _ None inclusive None refl in
    omega (arith, before, now)
expr_step (Expr-F.Range None inclusive (Some z)) =
    let before = of.range_is _ None inclusive (Some z.0) (views.rolls-Range None inclusive (Some z.0)) in
    let now = of.range_is _ None inclusive (Some (part true z.0)) refl in
    let m = part_deep z in
    omega (arith, before, now, m)
expr_step (Expr-F.Range (Some x) inclusive None) =
    let before = of.range_is _ (Some x.0) inclusive None (views.rolls-Range (Some x.0) inclusive None) in
    let now = of.range_is _ (Some (part true x.0)) inclusive None refl in
    let m = part_deep x in
    omega (arith, before, now, m)
expr_step (Expr-F.Range (Some x) inclusive (Some z)) =
    let before = of.range_is _ (Some x.0) inclusive (Some z.0) (views.rolls-Range (Some x.0) inclusive (Some z.0)) in
    let now = of.range_is _ (Some (part true x.0)) inclusive (Some (part true z.0)) refl in
    let m = part_deep x in
    let n = part_deep z in
    omega (arith, before, now, m, n)
expr_step (Expr-F.Assign ts x) =
    let before = of.assign_is _ (targets ts) x.0 (views.rolls-Assign (targets ts) x.0) in
    let now = of.assign_is _ (map (target_part true) (targets ts)) (part true x.0) refl in
    let m = targets_deep ts in
    let n = part_deep x in
    omega (arith, before, now, m, n)
expr_step (Expr-F.Postfix x ss) =
    let before = of.postfix_is _ x.0 (steps ss) (views.rolls-Postfix x.0 (steps ss)) in
    let now = of.postfix_is _ (part true x.0) (map (enclose_step true) (steps ss)) refl in
    let m = part_deep x in
    let n = steps_deep ss in
    omega (arith, before, now, m, n)
expr_step (Expr-F.Block label b) =
    let before = of.body_depth_is _ b.0 (inl (label, (views.rolls-Block label b.0))) in
    let now = of.body_depth_is _ (enclose_block true b.0) (inl (label, refl)) in
    let m = b.1 in
    omega (arith, before, now, m)
expr_step (Expr-F.Unsafe b) =
    let before = of.body_depth_is _ b.0 (inr (inl (views.rolls-Unsafe b.0))) in
    let now = of.body_depth_is _ (enclose_block true b.0) (inr (inl refl)) in
    let m = b.1 in
    omega (arith, before, now, m)
expr_step (Expr-F.ConstBlock b) =
    let before = of.body_depth_is _ b.0 (inr (inr (inl (views.rolls-ConstBlock b.0)))) in
    let now = of.body_depth_is _ (enclose_block true b.0) (inr (inr (inl refl))) in
    let m = b.1 in
    omega (arith, before, now, m)
expr_step (Expr-F.Async moves b) =
    let before = of.body_depth_is _ b.0 (inr (inr (inr (inl (moves, (views.rolls-Async moves b.0)))))) in
    let now = of.body_depth_is _ (enclose_block true b.0) (inr (inr (inr (inl (moves, refl))))) in
    let m = b.1 in
    omega (arith, before, now, m)
expr_step (Expr-F.Loop label b) =
    let before = of.body_depth_is _ b.0 (inr (inr (inr (inr (label, (views.rolls-Loop label b.0)))))) in
    let now = of.body_depth_is _ (enclose_block true b.0) (inr (inr (inr (inr (label, refl))))) in
    let m = b.1 in
    omega (arith, before, now, m)
expr_step (Expr-F.If bs None) =
    let before = of.if_is _ (branches bs) None (views.rolls-If (branches bs) None) in
    let now = of.if_is _ (map (enclose_branch true) (branches bs)) None refl in
    let m = branches_deep bs in
    omega (arith, before, now, m)
expr_step (Expr-F.If bs (Some b)) =
    let before = of.if_is _ (branches bs) (Some b.0) (views.rolls-If (branches bs) (Some b.0)) in
    let now = of.if_is _ (map (enclose_branch true) (branches bs)) (Some (enclose_block true b.0)) refl in
    let m = branches_deep bs in
    let n = b.1 in
    omega (arith, before, now, m, n)
expr_step (Expr-F.Match x attrs rows) =
    let before = of.match_is _ x.0 attrs (arms rows) (views.rolls-Match x.0 attrs (arms rows)) in
    let now = of.match_is _ (part true x.0) attrs (map (enclose_arm true) (arms rows)) refl in
    let m = part_deep x in
    let n = arms_deep rows in
    omega (arith, before, now, m, n)
expr_step (Expr-F.While label c b) =
    let before = of.while_is _ label c.0 b.0 (views.rolls-While label c.0 b.0) in
    let now = of.while_is _ label (enclose_condition true c.0) (enclose_block true b.0) refl in
    let m = c.1 in
    let n = b.1 in
    omega (arith, before, now, m, n)
expr_step (Expr-F.For label pat x b) =
    let before = of.for_is _ label pat x.0 b.0 (views.rolls-For label pat x.0 b.0) in
    let now = of.for_is _ label pat (part true x.0) (enclose_block true b.0) refl in
    let m = part_deep x in
    let n = b.1 in
    omega (arith, before, now, m, n)
expr_step (Expr-F.Closure is_async moves params x) =
    let before = of.closure_is _ is_async moves params x.0 (views.rolls-Closure is_async moves params x.0) in
    let now = of.closure_is _ is_async moves params (body_part true x.0) refl in
    let m = body_deep x in
    omega (arith, before, now, m)
expr_step (Expr-F.TypedClosure is_async moves params output b) =
    let before = of.typed_closure_is _ is_async moves params output b.0 (views.rolls-TypedClosure is_async moves params output b.0) in
    let now = of.typed_closure_is _ is_async moves params output (enclose_block true b.0) refl in
    let m = b.1 in
    omega (arith, before, now, m)
expr_step (Expr-F.Return None) =
    let before = of.jump_is _ None (inl (views.rolls-Return None)) in
    let now = of.jump_is _ None (inl refl) in
    omega (arith, before, now)
expr_step (Expr-F.Return (Some x)) =
    let before = of.jump_is _ (Some x.0) (inl (views.rolls-Return (Some x.0))) in
    let now = of.jump_is _ (Some (part true x.0)) (inl refl) in
    let m = part_deep x in
    omega (arith, before, now, m)
expr_step (Expr-F.Break label None) =
    let before = of.jump_is _ None (inr (label, (views.rolls-Break label None))) in
    let now = of.jump_is _ None (inr (label, refl)) in
    omega (arith, before, now)
expr_step (Expr-F.Break label (Some x)) =
    let before = of.jump_is _ (Some x.0) (inr (label, (views.rolls-Break label (Some x.0)))) in
    let now = of.jump_is _ (Some (part true x.0)) (inr (label, refl)) in
    let m = part_deep x in
    omega (arith, before, now, m)
