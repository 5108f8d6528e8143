-- Without parentheses an enclosed expression is what it was: kind by kind.
use Rattle.std.proofs.Common.{◌≡◌, true, List, [], ◌∷◌, map, Some, None, refl, sym, ap, ap₂, ◌∙◌}
use Rattle.lay_code.specs.nodes.Layers.{ExprNode}
use Rattle.lay_code.specs.declared.blocks.Arm.{Arm}
use Rattle.lay_code.specs.declared.blocks.Block.{Block}
use Rattle.lay_code.specs.declared.blocks.Branch.{Branch}
use Rattle.lay_code.specs.declared.blocks.Stmt.TheOpen.{Expr-F}
use Rattle.lay_code.specs.declared.blocks.Stmt.TheViews as views
use Rattle.lay_code.specs.declared.conditions.Condition.{Condition}
use Rattle.lay_code.specs.declared.exprs.Expr.{Expr}
use Rattle.lay_code.specs.declared.exprs.Expr.TheVariants as expr
use Rattle.lay_code.specs.declared.exprs.FieldExpr.{FieldExpr}
use Rattle.lay_code.specs.declared.exprs.Step.{Step}
use Rattle.lay_code.specs.declared.operators.Op.{Op}
use Rattle.lay_paren_defs.specs.Enclosed.{body_part, enclose_arm, enclose_block, enclose_branch, enclose_condition, enclose_field, enclose_step, expr_shell, part}
use Rattle.lay_paren.specs.Erased.{erase, without_parens}
use Rattle.lay_paren.proofs.ErasedFolds.{arm_erased, branch_erased, expr_without, expr_without_is, field_erased, step_erased}
use Rattle.lay_paren.proofs.loose_laws_lemmas.ExprLemmas.{arm_trees, arms, branch_trees, branches, field_trees, fields, operand_trees, operands, step_trees, steps, target_trees, targets}
use Rattle.lay_paren.proofs.loose_laws_lemmas.Kept.{ArmIs, BranchIs, FieldIs, Kept, KeptArm, KeptBranch, KeptExpr, KeptField, KeptStep, StepIs, expr_layer}
use Rattle.lay_paren.proofs.loose_laws_lemmas.PartLemmas.{body_erased, nodes_erased, part_erased, parts, parts_erased}

-- ---- lists of parts

abbrev erased_operands : List (Op × Expr) → List (Op × Expr)
erased_operands xs = map (λ (x : Op × Expr). (x.0, erase x.1)) xs

operands_erased : (ys : List (Op × KeptExpr)) → erased_operands (operands ys) ≡ erased_operands (operand_trees ys)
operands_erased [] = refl
operands_erased (y ∷ ys) = ap₂ (λ (x : Expr) (xs : List (Op × Expr)). (y.0, x) ∷ xs) (part_erased y.1) (operands_erased ys)

abbrev erased_targets : List (Expr × Op) → List (Expr × Op)
erased_targets xs = map (λ (x : Expr × Op). (erase x.0, x.1)) xs

targets_erased : (ys : List (KeptExpr × Op)) → erased_targets (targets ys) ≡ erased_targets (target_trees ys)
targets_erased [] = refl
targets_erased (y ∷ ys) = ap₂ (λ (x : Expr) (xs : List (Expr × Op)). (x, y.1) ∷ xs) (part_erased y.0) (targets_erased ys)

steps_erased : (ys : List KeptStep) → map step_erased (steps ys) ≡ map step_erased (step_trees ys)
steps_erased = nodes_erased StepIs (enclose_step true) step_erased (λ x is. is.erases)

fields_erased : (ys : List KeptField) → map field_erased (fields ys) ≡ map field_erased (field_trees ys)
fields_erased = nodes_erased FieldIs (enclose_field true) field_erased (λ x is. is.erases)

branches_erased : (ys : List KeptBranch) → map branch_erased (branches ys) ≡ map branch_erased (branch_trees ys)
branches_erased = nodes_erased BranchIs (enclose_branch true) branch_erased (λ x is. is.erases)

arms_erased : (ys : List KeptArm) → map arm_erased (arms ys) ≡ map arm_erased (arm_trees ys)
arms_erased = nodes_erased ArmIs (enclose_arm true) arm_erased (λ x is. is.erases)

-- ---- each kind

-- a node that is a tree, by its layer
out : (layer : ExprNode) (x : Expr) → views.roll-Expr layer ≡ x → erase x ≡ without_parens (expr_without layer)
out layer x rolls = ap erase (sym rolls) ∙ expr_without_is layer

pub expr_erased : (y : Kept Expr-F) → erase (expr_shell true (expr_layer y)) ≡ without_parens (expr_without (expr_layer y))
expr_erased (Expr-F.Lit l) = out (Expr-F.Lit l) (expr.Lit l) (views.rolls-Lit l)
expr_erased (Expr-F.Path path) = out (Expr-F.Path path) (expr.Path path) (views.rolls-Path path)
expr_erased Expr-F.Underscore = out Expr-F.Underscore expr.Underscore views.rolls-Underscore
expr_erased (Expr-F.Expr::Call call) = out (Expr-F.Expr::Call call) (expr.Call call) (views.rolls-Expr::Call call)
expr_erased (Expr-F.Paren x) =
    let z = part true x.0 in
    out (Expr-F.Paren z) (expr.Paren z) (views.rolls-Paren z) ∙ part_erased x
expr_erased (Expr-F.Continue label) = out (Expr-F.Continue label) (expr.Continue label) (views.rolls-Continue label)
expr_erased (Expr-F.Tuple ys) =
    out (Expr-F.Tuple (parts ys)) (expr.Tuple (parts ys)) (views.rolls-Tuple (parts ys))
    ∙ ap (λ (zs : List Expr). views.roll-Expr (Expr-F.Tuple zs)) (parts_erased ys)
expr_erased (Expr-F.Array ys) =
    out (Expr-F.Array (parts ys)) (expr.Array (parts ys)) (views.rolls-Array (parts ys))
    ∙ ap (λ (zs : List Expr). views.roll-Expr (Expr-F.Array zs)) (parts_erased ys)
expr_erased (Expr-F.Repeat x length) =
    let z = part true x.0 in
    out (Expr-F.Repeat z length) (expr.Repeat z length) (views.rolls-Repeat z length)
    ∙ ap (λ (w : Expr). views.roll-Expr (Expr-F.Repeat w length)) (part_erased x)
expr_erased (Expr-F.Expr::Struct path ys None) =
    out (Expr-F.Expr::Struct path (fields ys) None) (expr.Struct path (fields ys) None) (views.rolls-Expr::Struct path (fields ys) None)
    ∙ ap (λ (zs : List FieldExpr). views.roll-Expr (Expr-F.Expr::Struct path zs None)) (fields_erased ys)
expr_erased (Expr-F.Expr::Struct path ys (Some None)) =
    out (Expr-F.Expr::Struct path (fields ys) (Some None)) (expr.Struct path (fields ys) (Some None))
    (views.rolls-Expr::Struct path (fields ys) (Some None))
    ∙ ap (λ (zs : List FieldExpr). views.roll-Expr (Expr-F.Expr::Struct path zs (Some None))) (fields_erased ys)
expr_erased (Expr-F.Expr::Struct path ys (Some (Some x))) =
    let z = part true x.0 in
    out (Expr-F.Expr::Struct path (fields ys) (Some (Some z))) (expr.Struct path (fields ys) (Some (Some z)))
    (views.rolls-Expr::Struct path (fields ys) (Some (Some z)))
    ∙ ap₂ (λ (zs : List FieldExpr) (w : Expr). views.roll-Expr (Expr-F.Expr::Struct path zs (Some (Some w)))) (fields_erased ys) (part_erased x)
expr_erased (Expr-F.Chain x ys) =
    let z = part true x.0 in
    out (Expr-F.Chain z (operands ys)) (expr.Chain z (operands ys)) (views.rolls-Chain z (operands ys))
    ∙ ap₂ (λ (w : Expr) (zs : List (Op × Expr)). views.roll-Expr (Expr-F.Chain w zs)) (part_erased x) (operands_erased ys)
expr_erased (Expr-F.Cast x types) =
    let z = part true x.0 in
    out (Expr-F.Cast z types) (expr.Cast z types) (views.rolls-Cast z types)
    ∙ ap (λ (w : Expr). views.roll-Expr (Expr-F.Cast w types)) (part_erased x)
expr_erased (Expr-F.Unary ps x) =
    let z = part true x.0 in
    out (Expr-F.Unary ps z) (expr.Unary ps z) (views.rolls-Unary ps z)
    ∙ ap (λ (w : Expr). views.roll-Expr (Expr-F.Unary ps w)) (part_erased x)
expr_erased (Expr-F.Range None inclusive None) =
    out (Expr-F.Range None inclusive None) (expr.Range None inclusive None) (views.rolls-Range None inclusive None)
expr_erased (Expr-F.Range (Some x) inclusive None) =
    let z = part true x.0 in
    out (Expr-F.Range (Some z) inclusive None) (expr.Range (Some z) inclusive None) (views.rolls-Range (Some z) inclusive None)
    ∙ ap (λ (w : Expr). views.roll-Expr (Expr-F.Range (Some w) inclusive None)) (part_erased x)
expr_erased (Expr-F.Range None inclusive (Some y)) =
    let end = part true y.0 in
    out (Expr-F.Range None inclusive (Some end)) (expr.Range None inclusive (Some end)) (views.rolls-Range None inclusive (Some end))
    ∙ ap (λ (w : Expr). views.roll-Expr (Expr-F.Range None inclusive (Some w))) (part_erased y)
expr_erased (Expr-F.Range (Some x) inclusive (Some y)) =
    let z = part true x.0 in
    let end = part true y.0 in
    out (Expr-F.Range (Some z) inclusive (Some end)) (expr.Range (Some z) inclusive (Some end)) (views.rolls-Range (Some z) inclusive (Some end))
    ∙ ap₂ (λ (v w : Expr). views.roll-Expr (Expr-F.Range (Some v) inclusive (Some w))) (part_erased x) (part_erased y)
expr_erased (Expr-F.Assign ys x) =
    let z = part true x.0 in
    out (Expr-F.Assign (targets ys) z) (expr.Assign (targets ys) z) (views.rolls-Assign (targets ys) z)
    ∙ ap₂ (λ (zs : List (Expr × Op)) (w : Expr). views.roll-Expr (Expr-F.Assign zs w)) (targets_erased ys) (part_erased x)
expr_erased (Expr-F.Postfix x ys) =
    let z = part true x.0 in
    out (Expr-F.Postfix z (steps ys)) (expr.Postfix z (steps ys)) (views.rolls-Postfix z (steps ys))
    ∙ ap₂ (λ (w : Expr) (zs : List Step). views.roll-Expr (Expr-F.Postfix w zs)) (part_erased x) (steps_erased ys)
expr_erased (Expr-F.Block label b) =
    let c = enclose_block true b.0 in
    out (Expr-F.Block label c) (expr.Block label c) (views.rolls-Block label c)
    ∙ ap (λ (z : Block). views.roll-Expr (Expr-F.Block label z)) b.1.erases
expr_erased (Expr-F.Unsafe b) =
    let c = enclose_block true b.0 in
    out (Expr-F.Unsafe c) (expr.Unsafe c) (views.rolls-Unsafe c) ∙ ap (λ (z : Block). views.roll-Expr (Expr-F.Unsafe z)) b.1.erases
expr_erased (Expr-F.ConstBlock b) =
    let c = enclose_block true b.0 in
    out (Expr-F.ConstBlock c) (expr.ConstBlock c) (views.rolls-ConstBlock c) ∙ ap (λ (z : Block). views.roll-Expr (Expr-F.ConstBlock z)) b.1.erases
expr_erased (Expr-F.Async moves b) =
    let c = enclose_block true b.0 in
    out (Expr-F.Async moves c) (expr.Async moves c) (views.rolls-Async moves c)
    ∙ ap (λ (z : Block). views.roll-Expr (Expr-F.Async moves z)) b.1.erases
expr_erased (Expr-F.If ys None) =
    out (Expr-F.If (branches ys) None) (expr.If (branches ys) None) (views.rolls-If (branches ys) None)
    ∙ ap (λ (zs : List Branch). views.roll-Expr (Expr-F.If zs None)) (branches_erased ys)
expr_erased (Expr-F.If ys (Some b)) =
    let c = enclose_block true b.0 in
    out (Expr-F.If (branches ys) (Some c)) (expr.If (branches ys) (Some c)) (views.rolls-If (branches ys) (Some c))
    ∙ ap₂ (λ (zs : List Branch) (z : Block). views.roll-Expr (Expr-F.If zs (Some z))) (branches_erased ys) b.1.erases
expr_erased (Expr-F.Match x attrs ys) =
    let z = part true x.0 in
    out (Expr-F.Match z attrs (arms ys)) (expr.Match z attrs (arms ys)) (views.rolls-Match z attrs (arms ys))
    ∙ ap₂ (λ (w : Expr) (zs : List Arm). views.roll-Expr (Expr-F.Match w attrs zs)) (part_erased x) (arms_erased ys)
expr_erased (Expr-F.Loop label b) =
    let c = enclose_block true b.0 in
    out (Expr-F.Loop label c) (expr.Loop label c) (views.rolls-Loop label c) ∙ ap (λ (z : Block). views.roll-Expr (Expr-F.Loop label z)) b.1.erases
expr_erased (Expr-F.While label c b) =
    let condition = enclose_condition true c.0 in
    let d = enclose_block true b.0 in
    out (Expr-F.While label condition d) (expr.While label condition d) (views.rolls-While label condition d)
    ∙ ap₂ (λ (v : Condition) (z : Block). views.roll-Expr (Expr-F.While label v z)) c.1.erases b.1.erases
expr_erased (Expr-F.For label pat x b) =
    let z = part true x.0 in
    let c = enclose_block true b.0 in
    out (Expr-F.For label pat z c) (expr.For label pat z c) (views.rolls-For label pat z c)
    ∙ ap₂ (λ (w : Expr) (d : Block). views.roll-Expr (Expr-F.For label pat w d)) (part_erased x) b.1.erases
expr_erased (Expr-F.Closure is_async moves params x) =
    let z = body_part true x.0 in
    out (Expr-F.Closure is_async moves params z) (expr.Closure is_async moves params z) (views.rolls-Closure is_async moves params z)
    ∙ ap (λ (w : Expr). views.roll-Expr (Expr-F.Closure is_async moves params w)) (body_erased x)
expr_erased (Expr-F.TypedClosure is_async moves params output b) =
    let c = enclose_block true b.0 in
    out (Expr-F.TypedClosure is_async moves params output c) (expr.TypedClosure is_async moves params output c)
    (views.rolls-TypedClosure is_async moves params output c)
    ∙ ap (λ (z : Block). views.roll-Expr (Expr-F.TypedClosure is_async moves params output z)) b.1.erases
expr_erased (Expr-F.Return None) = out (Expr-F.Return None) (expr.Return None) (views.rolls-Return None)
expr_erased (Expr-F.Return (Some x)) =
    let z = part true x.0 in
    out (Expr-F.Return (Some z)) (expr.Return (Some z)) (views.rolls-Return (Some z))
    ∙ ap (λ (w : Expr). views.roll-Expr (Expr-F.Return (Some w))) (part_erased x)
expr_erased (Expr-F.Break label None) = out (Expr-F.Break label None) (expr.Break label None) (views.rolls-Break label None)
expr_erased (Expr-F.Break label (Some x)) =
    let z = part true x.0 in
    out (Expr-F.Break label (Some z)) (expr.Break label (Some z)) (views.rolls-Break label (Some z))
    ∙ ap (λ (w : Expr). views.roll-Expr (Expr-F.Break label (Some w))) (part_erased x)
