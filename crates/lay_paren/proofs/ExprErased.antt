-- Without parentheses what is made of an expression is the expression without its own: kind by kind.
use Rattle.std.proofs.Common.{◌≡◌, ℕ, suc, Bool, true, false, if◌then◌else◌, List, [], ◌∷◌, map, Some, None, refl, sym, ap, ap₂, ◌∙◌}
use Rattle.lay_code.specs.Operators.{is_angle_op, op_level}
use Rattle.lay_code.specs.nodes.Code.{about_expr}
use Rattle.lay_code.specs.nodes.Layers.{ExprNode}
use Rattle.lay_code.specs.nodes.Places.{FREE, before_op, begins, plain}
use Rattle.lay_code.specs.nodes.PlacesTable.{as_node}
use Rattle.lay_code.specs.declared.blocks.Arm.{Arm}
use Rattle.lay_code.specs.declared.blocks.Block.{Block}
use Rattle.lay_code.specs.declared.blocks.Branch.{Branch}
use Rattle.lay_code.specs.declared.blocks.Stmt.TheOpen.{Expr-F}
use Rattle.lay_code.specs.declared.blocks.Stmt.TheViews as views
use Rattle.lay_code.specs.declared.conditions.Condition.{Condition}
use Rattle.lay_code.specs.declared.exprs.Expr.{Expr}
use Rattle.lay_code.specs.declared.exprs.Expr.TheVariants as expr
use Rattle.lay_code.specs.declared.exprs.FieldExpr.{FieldExpr}
use Rattle.lay_code.specs.declared.exprs.Place.{Place}
use Rattle.lay_code.specs.declared.exprs.Step.{Step}
use Rattle.lay_code.specs.declared.operators.Op.{Op}
use Rattle.lay_paren_defs.specs.loose.Slots.{Any, Optional, Prefixed, fits}
use Rattle.lay_paren.specs.Erased.{erase, without_parens}
use Rattle.lay_paren.specs.Least.{least_made, made_of, wrapped}
use Rattle.lay_paren.specs.Made.{Made}
use Rattle.lay_paren_defs.specs.Traversal.{base_place, base_slot, break_slot, operand_at}
use Rattle.lay_paren.specs.Parts.{expr_made, free_made, operands_made, targets_made}
use Rattle.lay_paren.proofs.ErasedFolds.{arm_erased, branch_erased, expr_without, expr_without_is, field_erased, step_erased}
use Rattle.lay_paren.proofs.ExprStands.{made_arms, made_branches, made_fields, made_operands, made_steps, made_targets, operands_of, step_trees, told_steps, trees}
use Rattle.lay_paren.proofs.Kept.{Erases, Kept, KeptArm, KeptBranch, KeptExpr, KeptField, KeptStep, expr_layer}
use Rattle.lay_paren.specs.Nodes.{expr_parts, made_block, made_condition}
use Rattle.lay_paren.proofs.Steps.{free_erased}

-- ---- lists of parts

fields_erased : (ys : List KeptField) → map field_erased (made_fields ys).result ≡ map field_erased (map (λ (y : KeptField). y.0) ys)
fields_erased [] = refl
fields_erased (y ∷ ys) = ap₂ (λ x xs. x ∷ xs) y.1.erases (fields_erased ys)

branches_erased : (ys : List KeptBranch) → map branch_erased (made_branches ys).result ≡ map branch_erased (map (λ (y : KeptBranch). y.0) ys)
branches_erased [] = refl
branches_erased (y ∷ ys) = ap₂ (λ x xs. x ∷ xs) y.1.erases (branches_erased ys)

arms_erased : (ys : List KeptArm) → map arm_erased (made_arms ys).result ≡ map arm_erased (map (λ (y : KeptArm). y.0) ys)
arms_erased [] = refl
arms_erased (y ∷ ys) = ap₂ (λ x xs. x ∷ xs) y.1.erases (arms_erased ys)

steps_erased : (ys : List KeptStep) → map step_erased (made_steps ys).result ≡ map step_erased (step_trees ys)
steps_erased [] = refl
steps_erased (y ∷ ys) = ap₂ (λ x xs. x ∷ xs) y.1.erases (steps_erased ys)

abbrev erased_operands : List (Op × Expr) → List (Op × Expr)
erased_operands xs = map (λ (x : Op × Expr). (x.0, erase x.1)) xs

operands_erased : (p : Place) (level : ℕ) (ys : List (Op × KeptExpr))
    → erased_operands (operands_made p level (made_operands ys)).result ≡ erased_operands (operands_of ys)
operands_erased p level [] = refl
operands_erased p level (y ∷ ys) =
    ap₂ (λ (x : Expr) (xs : List (Op × Expr)). (y.0, x) ∷ xs) (y.1.1.erases (operand_at p level (made_operands ys)) Any) (operands_erased p level ys)

abbrev erased_targets : List (Expr × Op) → List (Expr × Op)
erased_targets xs = map (λ (x : Expr × Op). (erase x.0, x.1)) xs

targets_erased : (p : Place) (first : Bool) (ys : List (KeptExpr × Op))
    → erased_targets (targets_made p first (made_targets ys)).result ≡ erased_targets (map (λ (y : KeptExpr × Op). (y.0.0, y.1)) ys)
targets_erased p first [] = refl
targets_erased p first (y ∷ ys) =
    ap₂ (λ (x : Expr) (xs : List (Expr × Op)). (x, y.1) ∷ xs) (y.0.1.erases (before_op 1 p.no_struct first false) Any) (targets_erased p false ys)

-- ---- each kind

-- a node that is a tree, by its layer
out : (layer : ExprNode) (x : Expr) → views.roll-Expr layer ≡ x → erase x ≡ without_parens (expr_without layer)
out layer x rolls = ap erase (sym rolls) ∙ expr_without_is layer

erased_made : (y : Kept Expr-F) (p : Place) → erase (expr_made p (expr_parts (expr_layer y))).result ≡ without_parens (expr_without (expr_layer y))
erased_made (Expr-F.Lit l) p = out (Expr-F.Lit l) (expr.Lit l) (views.rolls-Lit l)
erased_made (Expr-F.Path path) p = out (Expr-F.Path path) (expr.Path path) (views.rolls-Path path)
erased_made Expr-F.Underscore p = out Expr-F.Underscore expr.Underscore views.rolls-Underscore
erased_made (Expr-F.Expr::Call call) p = out (Expr-F.Expr::Call call) (expr.Call call) (views.rolls-Expr::Call call)
erased_made (Expr-F.Paren x) p =
    let made = (made_of x.0 FREE Any).result in
    out (Expr-F.Paren made) (expr.Paren made) (views.rolls-Paren made) ∙ x.1.erases FREE Any
erased_made (Expr-F.Continue label) p = out (Expr-F.Continue label) (expr.Continue label) (views.rolls-Continue label)
erased_made (Expr-F.Tuple ys) p =
    let made = (free_made (map made_of (trees ys))).result in
    out (Expr-F.Tuple made) (expr.Tuple made) (views.rolls-Tuple made)
    ∙ ap (λ (zs : List Expr). views.roll-Expr (Expr-F.Tuple zs)) (free_erased ys)
erased_made (Expr-F.Array ys) p =
    let made = (free_made (map made_of (trees ys))).result in
    out (Expr-F.Array made) (expr.Array made) (views.rolls-Array made)
    ∙ ap (λ (zs : List Expr). views.roll-Expr (Expr-F.Array zs)) (free_erased ys)
erased_made (Expr-F.Repeat x length) p =
    let made = (made_of x.0 FREE Any).result in
    out (Expr-F.Repeat made length) (expr.Repeat made length) (views.rolls-Repeat made length)
    ∙ ap (λ (z : Expr). views.roll-Expr (Expr-F.Repeat z length)) (x.1.erases FREE Any)
erased_made (Expr-F.Expr::Struct path fields None) p =
    let made = (made_fields fields).result in
    out (Expr-F.Expr::Struct path made None) (expr.Struct path made None) (views.rolls-Expr::Struct path made None)
    ∙ ap (λ (zs : List FieldExpr). views.roll-Expr (Expr-F.Expr::Struct path zs None)) (fields_erased fields)
erased_made (Expr-F.Expr::Struct path fields (Some None)) p =
    let made = (made_fields fields).result in
    out (Expr-F.Expr::Struct path made (Some None)) (expr.Struct path made (Some None)) (views.rolls-Expr::Struct path made (Some None))
    ∙ ap (λ (zs : List FieldExpr). views.roll-Expr (Expr-F.Expr::Struct path zs (Some None))) (fields_erased fields)
erased_made (Expr-F.Expr::Struct path fields (Some (Some x))) p =
    let made = (made_fields fields).result in
    let base = (made_of x.0 FREE Any).result in
    out (Expr-F.Expr::Struct path made (Some (Some base))) (expr.Struct path made (Some (Some base))) (views.rolls-Expr::Struct path made (Some (Some base)))
    ∙ ap₂ (λ (zs : List FieldExpr) (z : Expr). views.roll-Expr (Expr-F.Expr::Struct path zs (Some (Some z)))) (fields_erased fields) (x.1.erases FREE Any)
erased_made (Expr-F.Chain x []) p =
    let place = before_op (suc 0) p.no_struct (begins p.start) false in
    let made = (made_of x.0 place Any).result in
    out (Expr-F.Chain made []) (expr.Chain made []) (views.rolls-Chain made [])
    ∙ ap (λ (z : Expr). views.roll-Expr (Expr-F.Chain z [])) (x.1.erases place Any)
erased_made (Expr-F.Chain x (o ∷ more)) p =
    let level = op_level o.0 in
    let place = before_op (suc level) p.no_struct (begins p.start) (is_angle_op o.0) in
    let made = (made_of x.0 place Any).result in
    let rest = (operands_made p level (made_operands (o ∷ more))).result in
    out (Expr-F.Chain made rest) (expr.Chain made rest) (views.rolls-Chain made rest)
    ∙ ap₂ (λ (z : Expr) (zs : List (Op × Expr)). views.roll-Expr (Expr-F.Chain z zs)) (x.1.erases place Any) (operands_erased p level (o ∷ more))
erased_made (Expr-F.Cast x types) p =
    let place = before_op 12 p.no_struct (begins p.start) false in
    let made = (made_of x.0 place Any).result in
    out (Expr-F.Cast made types) (expr.Cast made types) (views.rolls-Cast made types)
    ∙ ap (λ (z : Expr). views.roll-Expr (Expr-F.Cast z types)) (x.1.erases place Any)
erased_made (Expr-F.Unary ps x) p =
    let made = (made_of x.0 (as_node p 12) Prefixed).result in
    out (Expr-F.Unary ps made) (expr.Unary ps made) (views.rolls-Unary ps made)
    ∙ ap (λ (z : Expr). views.roll-Expr (Expr-F.Unary ps z)) (x.1.erases (as_node p 12) Prefixed)
erased_made (Expr-F.Range None inclusive None) p =
    out (Expr-F.Range None inclusive None) (expr.Range None inclusive None) (views.rolls-Range None inclusive None)
erased_made (Expr-F.Range (Some x) inclusive None) p =
    let place = before_op 2 p.no_struct (begins p.start) false in
    let made = (made_of x.0 place Any).result in
    out (Expr-F.Range (Some made) inclusive None) (expr.Range (Some made) inclusive None) (views.rolls-Range (Some made) inclusive None)
    ∙ ap (λ (z : Expr). views.roll-Expr (Expr-F.Range (Some z) inclusive None)) (x.1.erases place Any)
erased_made (Expr-F.Range None inclusive (Some y)) p =
    let end = (made_of y.0 (as_node p 2) Optional).result in
    out (Expr-F.Range None inclusive (Some end)) (expr.Range None inclusive (Some end)) (views.rolls-Range None inclusive (Some end))
    ∙ ap (λ (z : Expr). views.roll-Expr (Expr-F.Range None inclusive (Some z))) (y.1.erases (as_node p 2) Optional)
erased_made (Expr-F.Range (Some x) inclusive (Some y)) p =
    let place = before_op 2 p.no_struct (begins p.start) false in
    let made = (made_of x.0 place Any).result in
    let end = (made_of y.0 (as_node p 2) Optional).result in
    out (Expr-F.Range (Some made) inclusive (Some end)) (expr.Range (Some made) inclusive (Some end)) (views.rolls-Range (Some made) inclusive (Some end))
    ∙ ap₂ (λ (z w : Expr). views.roll-Expr (Expr-F.Range (Some z) inclusive (Some w))) (x.1.erases place Any) (y.1.erases (as_node p 2) Optional)
erased_made (Expr-F.Assign targets x) p =
    let first = begins p.start in
    let before = (targets_made p first (made_targets targets)).result in
    let made = (made_of x.0 (as_node p 1) Any).result in
    out (Expr-F.Assign before made) (expr.Assign before made) (views.rolls-Assign before made)
    ∙ ap₂ (λ (zs : List (Expr × Op)) (z : Expr). views.roll-Expr (Expr-F.Assign zs z)) (targets_erased p first targets) (x.1.erases (as_node p 1) Any)
erased_made (Expr-F.Postfix x steps) p =
    let told = told_steps steps in
    let made = (made_of x.0 (base_place p told) (base_slot told)).result in
    let all = (made_steps steps).result in
    out (Expr-F.Postfix made all) (expr.Postfix made all) (views.rolls-Postfix made all)
    ∙ ap₂ (λ (z : Expr) (zs : List Step). views.roll-Expr (Expr-F.Postfix z zs)) (x.1.erases (base_place p told) (base_slot told)) (steps_erased steps)
erased_made (Expr-F.Block label b) p =
    let made = (made_block b.0).result in
    out (Expr-F.Block label made) (expr.Block label made) (views.rolls-Block label made)
    ∙ ap (λ (z : Block). views.roll-Expr (Expr-F.Block label z)) b.1.erases
erased_made (Expr-F.Unsafe b) p =
    let made = (made_block b.0).result in
    out (Expr-F.Unsafe made) (expr.Unsafe made) (views.rolls-Unsafe made) ∙ ap (λ (z : Block). views.roll-Expr (Expr-F.Unsafe z)) b.1.erases
erased_made (Expr-F.ConstBlock b) p =
    let made = (made_block b.0).result in
    out (Expr-F.ConstBlock made) (expr.ConstBlock made) (views.rolls-ConstBlock made) ∙ ap (λ (z : Block). views.roll-Expr (Expr-F.ConstBlock z)) b.1.erases
erased_made (Expr-F.Async moves b) p =
    let made = (made_block b.0).result in
    out (Expr-F.Async moves made) (expr.Async moves made) (views.rolls-Async moves made)
    ∙ ap (λ (z : Block). views.roll-Expr (Expr-F.Async moves z)) b.1.erases
erased_made (Expr-F.If branches None) p =
    let made = (made_branches branches).result in
    out (Expr-F.If made None) (expr.If made None) (views.rolls-If made None)
    ∙ ap (λ (zs : List Branch). views.roll-Expr (Expr-F.If zs None)) (branches_erased branches)
erased_made (Expr-F.If branches (Some b)) p =
    let made = (made_branches branches).result in
    let block = (made_block b.0).result in
    out (Expr-F.If made (Some block)) (expr.If made (Some block)) (views.rolls-If made (Some block))
    ∙ ap₂ (λ (zs : List Branch) (z : Block). views.roll-Expr (Expr-F.If zs (Some z))) (branches_erased branches) b.1.erases
erased_made (Expr-F.Match x attrs arms) p =
    let made = (made_of x.0 (plain 0 true) Any).result in
    let all = (made_arms arms).result in
    out (Expr-F.Match made attrs all) (expr.Match made attrs all) (views.rolls-Match made attrs all)
    ∙ ap₂ (λ (z : Expr) (zs : List Arm). views.roll-Expr (Expr-F.Match z attrs zs)) (x.1.erases (plain 0 true) Any) (arms_erased arms)
erased_made (Expr-F.Loop label b) p =
    let made = (made_block b.0).result in
    out (Expr-F.Loop label made) (expr.Loop label made) (views.rolls-Loop label made) ∙ ap (λ (z : Block). views.roll-Expr (Expr-F.Loop label z)) b.1.erases
erased_made (Expr-F.While label c b) p =
    let condition = (made_condition c.0).result in
    let made = (made_block b.0).result in
    out (Expr-F.While label condition made) (expr.While label condition made) (views.rolls-While label condition made)
    ∙ ap₂ (λ (d : Condition) (z : Block). views.roll-Expr (Expr-F.While label d z)) c.1.erases b.1.erases
erased_made (Expr-F.For label pat x b) p =
    let made = (made_of x.0 (plain 0 true) Any).result in
    let block = (made_block b.0).result in
    out (Expr-F.For label pat made block) (expr.For label pat made block) (views.rolls-For label pat made block)
    ∙ ap₂ (λ (z : Expr) (c : Block). views.roll-Expr (Expr-F.For label pat z c)) (x.1.erases (plain 0 true) Any) b.1.erases
erased_made (Expr-F.Closure is_async moves params x) p =
    let place = plain 0 p.no_struct in
    let made = (made_of x.0 place Any).result in
    out (Expr-F.Closure is_async moves params made) (expr.Closure is_async moves params made) (views.rolls-Closure is_async moves params made)
    ∙ ap (λ (z : Expr). views.roll-Expr (Expr-F.Closure is_async moves params z)) (x.1.erases place Any)
erased_made (Expr-F.TypedClosure is_async moves params output b) p =
    let made = (made_block b.0).result in
    out (Expr-F.TypedClosure is_async moves params output made) (expr.TypedClosure is_async moves params output made)
    (views.rolls-TypedClosure is_async moves params output made)
    ∙ ap (λ (z : Block). views.roll-Expr (Expr-F.TypedClosure is_async moves params output z)) b.1.erases
erased_made (Expr-F.Return None) p = out (Expr-F.Return None) (expr.Return None) (views.rolls-Return None)
erased_made (Expr-F.Return (Some x)) p =
    let place = plain 0 p.no_struct in
    let made = (made_of x.0 place Optional).result in
    out (Expr-F.Return (Some made)) (expr.Return (Some made)) (views.rolls-Return (Some made))
    ∙ ap (λ (z : Expr). views.roll-Expr (Expr-F.Return (Some z))) (x.1.erases place Optional)
erased_made (Expr-F.Break label None) p = out (Expr-F.Break label None) (expr.Break label None) (views.rolls-Break label None)
erased_made (Expr-F.Break label (Some x)) p =
    let place = plain 0 p.no_struct in
    let made = (made_of x.0 place (break_slot label)).result in
    out (Expr-F.Break label (Some made)) (expr.Break label (Some made)) (views.rolls-Break label (Some made))
    ∙ ap (λ (z : Expr). views.roll-Expr (Expr-F.Break label (Some z))) (x.1.erases place (break_slot label))

pub layer_erases : (y : Kept Expr-F) → Erases (least_made (expr_parts (expr_layer y))) (without_parens (expr_without (expr_layer y)))
layer_erases y p s = by (fits (about_expr here.result) p s)
  where
    here : Made Expr
    here = expr_made p (expr_parts (expr_layer y))

    free : Made Expr
    free = expr_made FREE (expr_parts (expr_layer y))

    by : (b : Bool) → erase (if b then here else wrapped free).result ≡ without_parens (expr_without (expr_layer y))
    by true = erased_made y p
    by false = out (Expr-F.Paren free.result) (expr.Paren free.result) (views.rolls-Paren free.result) ∙ erased_made y FREE
