-- Each pair that an expression got can be left out, where it has none of its own: kind by kind.
use Rattle.std.proofs.Common.{◌≡◌, suc, Bool, true, false, if◌then◌else◌, List, [], ◌∷◌, map, Option, Some, None, sym, ap, ap₂, ◌∙◌}
use Rattle.lay_code.specs.Operators.{is_angle_op, op_level}
use Rattle.lay_code.specs.nodes.Code.{about_expr, about_step}
use Rattle.lay_code.specs.nodes.Layers.{ExprNode}
use Rattle.lay_code.specs.nodes.Places.{FREE, before_op, begins, plain}
use Rattle.lay_code.specs.nodes.PlacesTable.{as_node}
use Rattle.lay_code.specs.declared.blocks.Arm.{Arm}
use Rattle.lay_code.specs.declared.blocks.Block.{Block}
use Rattle.lay_code.specs.declared.blocks.Branch.{Branch}
use Rattle.lay_code.specs.declared.blocks.Stmt.TheOpen.{Expr-F}
use Rattle.lay_code.specs.declared.blocks.Stmt.TheViews as views
use Rattle.lay_code.specs.declared.conditions.Condition.{Condition}
use Rattle.lay_code.specs.declared.exprs.Expr.{Expr}
use Rattle.lay_code.specs.declared.exprs.Expr.TheVariants as expr
use Rattle.lay_code.specs.declared.exprs.FieldExpr.{FieldExpr}
use Rattle.lay_code.specs.declared.exprs.Place.{Place}
use Rattle.lay_code.specs.declared.exprs.Step.{Step}
use Rattle.lay_code.specs.declared.operators.Op.{Op}
use Rattle.lay_paren_defs.specs.loose.Slots.{Any, Optional, Prefixed, Slot, fits}
use Rattle.lay_paren.specs.LeftOut.{own, own_made}
use Rattle.lay_paren.specs.Least.{least_made, made_of, wrapped}
use Rattle.lay_paren.specs.Made.{Made, all, both, kept, one, making}
use Rattle.lay_paren_defs.specs.Traversal.{base_place, base_slot, break_slot, postfix_of}
use Rattle.lay_paren.specs.Parts.{Placed, expr_made, free_made, made_parts, operands_made, targets_made}
use Rattle.lay_paren.proofs.Counted.{AllCounted, ArmCounted, BranchCounted, CountedArm, CountedBranch, CountedExpr, CountedField, CountedStep, FieldCounted, PlacedCounted, StepCounted, expr_layer}
use Rattle.lay_paren.proofs.CountedParts.{both_bare, free_counted, list_counted, made_operands, made_targets, one_bare, operands_counted, operands_of, own_operands, own_targets, targets_counted, targets_of, trees}
use Rattle.lay_paren.specs.Nodes.{expr_parts, made_arm, made_block, made_branch, made_condition, made_field, made_step}
use Rattle.lay_paren.proofs.OwnFolds.{expr_own, expr_own_is, own_arm, own_block, own_branch, own_condition, own_field, own_step}

-- ---- lists of parts

abbrev all_fields : (FieldExpr → Made FieldExpr) → List CountedField → Made (List FieldExpr)
all_fields made ys = all (map made (map (λ (y : CountedField). y.0) ys))

fields_counted : (ys : List CountedField) → (all_fields own_field ys).cuts ≡ []
    → all (map own_field (all_fields made_field ys).result) ≡ all_fields made_field ys
fields_counted ys = list_counted FieldCounted own_field made_field (λ x is. is) ys

abbrev all_branches : (Branch → Made Branch) → List CountedBranch → Made (List Branch)
all_branches made ys = all (map made (map (λ (y : CountedBranch). y.0) ys))

branches_counted : (ys : List CountedBranch) → (all_branches own_branch ys).cuts ≡ []
    → all (map own_branch (all_branches made_branch ys).result) ≡ all_branches made_branch ys
branches_counted ys = list_counted BranchCounted own_branch made_branch (λ x is. is) ys

abbrev all_arms : (Arm → Made Arm) → List CountedArm → Made (List Arm)
all_arms made ys = all (map made (map (λ (y : CountedArm). y.0) ys))

arms_counted : (ys : List CountedArm) → (all_arms own_arm ys).cuts ≡ [] → all (map own_arm (all_arms made_arm ys).result) ≡ all_arms made_arm ys
arms_counted ys = list_counted ArmCounted own_arm made_arm (λ x is. is) ys

abbrev all_steps : (Step → Made Step) → List CountedStep → Made (List Step)
all_steps made ys = all (map made (map (λ (y : CountedStep). y.0) ys))

steps_counted : (ys : List CountedStep) → (all_steps own_step ys).cuts ≡ []
    → all (map own_step (all_steps made_step ys).result) ≡ all_steps made_step ys
steps_counted ys = list_counted StepCounted own_step made_step (λ x is. is) ys

-- a part that may be left out
pub some_counted : (x : CountedExpr) (q : Place) (t : Slot) → (one Some (own x.0 q t)).cuts ≡ [] → (p : Place) (s : Slot)
    → one Some (own (made_of x.0 p s).result q t) ≡ one Some (made_of x.0 p s)
some_counted x q t h p s = ap (one Some) (x.1 q t (one_bare Some (own x.0 q t) h) p q s t)

-- ---- each kind

-- a tree, by its layer
own_at : (layer : ExprNode) (x : Expr) (r : Place) (u : Slot) → views.roll-Expr layer ≡ x → own x r u ≡ own_made (expr_own layer) r u
own_at layer x r u rolls = ap (λ (z : Expr). own z r u) (sym rolls) ∙ ap (λ (f : Placed). f r u) (expr_own_is layer)

postfix_counted : (x : CountedExpr) (steps : List CountedStep) →
    let y = expr_layer (Expr-F.Postfix x steps) in
    (expr_made FREE (expr_own y)).cuts ≡ [] → (p r : Place) (u : Slot) → own (expr_made p (expr_parts y)).result r u ≡ expr_made p (expr_parts y)
postfix_counted x steps h p r u =
    let made = (made_of x.0 place slot).result in
    own_at (Expr-F.Postfix made told) (expr.Postfix made told) r u (views.rolls-Postfix made told)
    ∙ ap (postfix_of making made_parts FREE (own made)) (steps_counted steps c.1)
    ∙ ap (λ (m : Made Expr). both f m (all_steps made_step steps)) (x.1 free_place free_slot c.0 place here slot here_slot)
  where
    f : Expr → List Step → Expr
    f y ys = expr.Postfix y ys

    told : List Step
    told = (all_steps made_step steps).result

    place : Place
    place = base_place p (map about_step told)

    slot : Slot
    slot = base_slot (map about_step told)

    here : Place
    here = base_place FREE (map about_step told)

    here_slot : Slot
    here_slot = base_slot (map about_step told)

    free_place : Place
    free_place = base_place FREE (map about_step (all_steps own_step steps).result)

    free_slot : Slot
    free_slot = base_slot (map about_step (all_steps own_step steps).result)

    c : ((own x.0 free_place free_slot).cuts ≡ []) × ((all_steps own_step steps).cuts ≡ [])
    c = both_bare f (own x.0 free_place free_slot) (all_steps own_step steps) h

counted_made : (y : AllCounted Expr-F) (q : Place) (t : Slot) → (own_made (expr_own (expr_layer y)) q t).cuts ≡ [] → (p r : Place) (u : Slot)
    → own (expr_made p (expr_parts (expr_layer y))).result r u ≡ expr_made p (expr_parts (expr_layer y))
counted_made (Expr-F.Lit l) q t h p r u =
    own_at (Expr-F.Lit l) (expr.Lit l) r u (views.rolls-Lit l)
counted_made (Expr-F.Path path) q t h p r u =
    own_at (Expr-F.Path path) (expr.Path path) r u (views.rolls-Path path)
counted_made (Expr-F.Expr::Call call) q t h p r u =
    own_at (Expr-F.Expr::Call call) (expr.Call call) r u (views.rolls-Expr::Call call)
counted_made (Expr-F.Continue label) q t h p r u =
    own_at (Expr-F.Continue label) (expr.Continue label) r u (views.rolls-Continue label)
counted_made Expr-F.Underscore q t h p r u = own_at Expr-F.Underscore expr.Underscore r u views.rolls-Underscore
counted_made (Expr-F.Paren x) q t h p r u = absurd (let no : ⊥ = cc in no)
counted_made (Expr-F.Tuple ys) q t h p r u =
    let all = (free_made (map made_of (trees ys))).result in
    own_at (Expr-F.Tuple all) (expr.Tuple all) r u (views.rolls-Tuple all)
    ∙ ap (one expr.Tuple) (free_counted ys (one_bare expr.Tuple (free_made (map own (trees ys))) h))
counted_made (Expr-F.Array ys) q t h p r u =
    let all = (free_made (map made_of (trees ys))).result in
    own_at (Expr-F.Array all) (expr.Array all) r u (views.rolls-Array all)
    ∙ ap (one expr.Array) (free_counted ys (one_bare expr.Array (free_made (map own (trees ys))) h))
counted_made (Expr-F.Repeat x length) q t h p r u =
    let made = (made_of x.0 FREE Any).result in
    own_at (Expr-F.Repeat made length) (expr.Repeat made length) r u (views.rolls-Repeat made length)
    ∙ ap (one (λ y. expr.Repeat y length)) (x.1 FREE Any (one_bare (λ y. expr.Repeat y length) (own x.0 FREE Any) h) FREE FREE Any Any)
counted_made (Expr-F.Expr::Struct path fields None) q t h p r u =
    let all = (all_fields made_field fields).result in
    let f = λ (ys : List FieldExpr) (b : Option (Option Expr)). expr.Struct path ys b in
    let c = both_bare f (all_fields own_field fields) (kept None) h in
    own_at (Expr-F.Expr::Struct path all None) (expr.Struct path all None) r u (views.rolls-Expr::Struct path all None)
    ∙ ap (λ (m : Made (List FieldExpr)). both f m (kept None)) (fields_counted fields c.0)
counted_made (Expr-F.Expr::Struct path fields (Some None)) q t h p r u =
    let all = (all_fields made_field fields).result in
    let f = λ (ys : List FieldExpr) (b : Option (Option Expr)). expr.Struct path ys b in
    let c = both_bare f (all_fields own_field fields) (kept (Some None)) h in
    own_at (Expr-F.Expr::Struct path all (Some None)) (expr.Struct path all (Some None)) r u (views.rolls-Expr::Struct path all (Some None))
    ∙ ap (λ (m : Made (List FieldExpr)). both f m (kept (Some None))) (fields_counted fields c.0)
counted_made (Expr-F.Expr::Struct path fields (Some (Some x))) q t h p r u =
    let all = (all_fields made_field fields).result in
    let f = λ (ys : List FieldExpr) (b : Option (Option Expr)). expr.Struct path ys b in
    let c = both_bare f (all_fields own_field fields) (one (λ y. Some (Some y)) (own x.0 FREE Any)) h in
    own_at (Expr-F.Expr::Struct path all (Some (Some (made_of x.0 FREE Any).result))) (expr.Struct path all (Some (Some (made_of x.0 FREE Any).result))) r u (views.rolls-Expr::Struct path all (Some (Some (made_of x.0 FREE Any).result)))
    ∙ ap₂ (both f) (fields_counted fields c.0) (ap (one (λ y. Some (Some y))) (x.1 FREE Any (one_bare (λ y. Some (Some y)) (own x.0 FREE Any) c.1) FREE FREE Any Any))
counted_made (Expr-F.Chain x []) q t h p r u =
    let place = before_op (suc 0) p.no_struct (begins p.start) false in
    let free = before_op (suc 0) false false false in
    let made = (made_of x.0 place Any).result in
    let f = λ (y : Expr) (ys : List (Op × Expr)). expr.Chain y ys in
    let c = both_bare f (own x.0 free Any) (kept []) h in
    own_at (Expr-F.Chain made []) (expr.Chain made []) r u (views.rolls-Chain made [])
    ∙ ap (λ (m : Made Expr). both f m (kept [])) (x.1 free Any c.0 place free Any Any)
counted_made (Expr-F.Chain x (o ∷ more)) q t h p r u =
    let level = op_level o.0 in
    let place = before_op (suc level) p.no_struct (begins p.start) (is_angle_op o.0) in
    let free = before_op (suc level) false false (is_angle_op o.0) in
    let made = (made_of x.0 place Any).result in
    let rest = (operands_made p level (made_operands (operands_of (o ∷ more)))).result in
    let f = λ (y : Expr) (ys : List (Op × Expr)). expr.Chain y ys in
    let c = both_bare f (own x.0 free Any) (operands_made FREE level (own_operands (operands_of (o ∷ more)))) h in
    own_at (Expr-F.Chain made rest) (expr.Chain made rest) r u (views.rolls-Chain made rest)
    ∙ ap₂ (both f) (x.1 free Any c.0 place free Any Any) (operands_counted p level level (o ∷ more) c.1)
counted_made (Expr-F.Cast x types) q t h p r u =
    let made = (made_of x.0 (before_op 12 p.no_struct (begins p.start) false) Any).result in
    own_at (Expr-F.Cast made types) (expr.Cast made types) r u (views.rolls-Cast made types)
    ∙ ap (one (λ y. expr.Cast y types)) (x.1 (before_op 12 false false false) Any (one_bare (λ y. expr.Cast y types) (own x.0 (before_op 12 false false false) Any) h) (before_op 12 p.no_struct (begins p.start) false) (before_op 12 false false false) Any Any)
counted_made (Expr-F.Unary ps x) q t h p r u =
    let made = (made_of x.0 (as_node p 12) Prefixed).result in
    own_at (Expr-F.Unary ps made) (expr.Unary ps made) r u (views.rolls-Unary ps made)
    ∙ ap (one (λ y. expr.Unary ps y)) (x.1 (as_node FREE 12) Prefixed (one_bare (λ y. expr.Unary ps y) (own x.0 (as_node FREE 12) Prefixed) h) (as_node p 12) (as_node FREE 12) Prefixed Prefixed)
counted_made (Expr-F.Range None inclusive None) q t h p r u =
    own_at (Expr-F.Range None inclusive None) (expr.Range None inclusive None) r u (views.rolls-Range None inclusive None)
counted_made (Expr-F.Range (Some x) inclusive None) q t h p r u =
    let made = (made_of x.0 (before_op 2 p.no_struct (begins p.start) false) Any).result in
    let f = λ (a b : Option Expr). expr.Range a inclusive b in
    let c = both_bare f (one Some (own x.0 (before_op 2 false false false) Any)) (kept None) h in
    own_at (Expr-F.Range (Some made) inclusive None) (expr.Range (Some made) inclusive None) r u (views.rolls-Range (Some made) inclusive None)
    ∙ ap (λ (m : Made (Option Expr)). both f m (kept None)) (some_counted x (before_op 2 false false false) Any c.0 (before_op 2 p.no_struct (begins p.start) false) Any)
counted_made (Expr-F.Range None inclusive (Some y)) q t h p r u =
    let end = (made_of y.0 (as_node p 2) Optional).result in
    let f = λ (a b : Option Expr). expr.Range a inclusive b in
    let c = both_bare f (kept None) (one Some (own y.0 (as_node FREE 2) Optional)) h in
    own_at (Expr-F.Range None inclusive (Some end)) (expr.Range None inclusive (Some end)) r u (views.rolls-Range None inclusive (Some end))
    ∙ ap (both f (kept None)) (some_counted y (as_node FREE 2) Optional c.1 (as_node p 2) Optional)
counted_made (Expr-F.Range (Some x) inclusive (Some y)) q t h p r u =
    let made = (made_of x.0 (before_op 2 p.no_struct (begins p.start) false) Any).result in
    let end = (made_of y.0 (as_node p 2) Optional).result in
    let f = λ (a b : Option Expr). expr.Range a inclusive b in
    let c = both_bare f (one Some (own x.0 (before_op 2 false false false) Any)) (one Some (own y.0 (as_node FREE 2) Optional)) h in
    own_at (Expr-F.Range (Some made) inclusive (Some end)) (expr.Range (Some made) inclusive (Some end)) r u (views.rolls-Range (Some made) inclusive (Some end))
    ∙ ap₂ (both f) (some_counted x (before_op 2 false false false) Any c.0 (before_op 2 p.no_struct (begins p.start) false) Any) (some_counted y (as_node FREE 2) Optional c.1 (as_node p 2) Optional)
counted_made (Expr-F.Assign targets x) q t h p r u =
    let first = begins p.start in
    let before = (targets_made p first (made_targets (targets_of targets))).result in
    let made = (made_of x.0 (as_node p 1) Any).result in
    let f = λ (ys : List (Expr × Op)) (y : Expr). expr.Assign ys y in
    let c = both_bare f (targets_made FREE false (own_targets (targets_of targets))) (own x.0 (as_node FREE 1) Any) h in
    own_at (Expr-F.Assign before made) (expr.Assign before made) r u (views.rolls-Assign before made)
    ∙ ap₂ (both f) (targets_counted p first false targets c.0) (x.1 (as_node FREE 1) Any c.1 (as_node p 1) (as_node FREE 1) Any Any)
counted_made (Expr-F.Postfix x steps) q t h p r u = postfix_counted x steps h p r u
counted_made (Expr-F.Block label b) q t h p r u =
    let made = (made_block b.0).result in
    own_at (Expr-F.Block label made) (expr.Block label made) r u (views.rolls-Block label made)
    ∙ ap (one (λ y. expr.Block label y)) (b.1 (one_bare (λ y. expr.Block label y) (own_block b.0) h))
counted_made (Expr-F.Unsafe b) q t h p r u =
    let made = (made_block b.0).result in
    own_at (Expr-F.Unsafe made) (expr.Unsafe made) r u (views.rolls-Unsafe made)
    ∙ ap (one expr.Unsafe) (b.1 (one_bare expr.Unsafe (own_block b.0) h))
counted_made (Expr-F.ConstBlock b) q t h p r u =
    let made = (made_block b.0).result in
    own_at (Expr-F.ConstBlock made) (expr.ConstBlock made) r u (views.rolls-ConstBlock made)
    ∙ ap (one expr.ConstBlock) (b.1 (one_bare expr.ConstBlock (own_block b.0) h))
counted_made (Expr-F.Async moves b) q t h p r u =
    let made = (made_block b.0).result in
    own_at (Expr-F.Async moves made) (expr.Async moves made) r u (views.rolls-Async moves made)
    ∙ ap (one (λ y. expr.Async moves y)) (b.1 (one_bare (λ y. expr.Async moves y) (own_block b.0) h))
counted_made (Expr-F.If branches None) q t h p r u =
    let all = (all_branches made_branch branches).result in
    let f = λ (ys : List Branch) (o : Option Block). expr.If ys o in
    let c = both_bare f (all_branches own_branch branches) (kept None) h in
    own_at (Expr-F.If all None) (expr.If all None) r u (views.rolls-If all None)
    ∙ ap (λ (m : Made (List Branch)). both f m (kept None)) (branches_counted branches c.0)
counted_made (Expr-F.If branches (Some b)) q t h p r u =
    let all = (all_branches made_branch branches).result in
    let block = (made_block b.0).result in
    let f = λ (ys : List Branch) (o : Option Block). expr.If ys o in
    let c = both_bare f (all_branches own_branch branches) (one Some (own_block b.0)) h in
    own_at (Expr-F.If all (Some block)) (expr.If all (Some block)) r u (views.rolls-If all (Some block))
    ∙ ap₂ (both f) (branches_counted branches c.0) (ap (one Some) (b.1 (one_bare Some (own_block b.0) c.1)))
counted_made (Expr-F.Match x attrs arms) q t h p r u =
    let made = (made_of x.0 (plain 0 true) Any).result in
    let all = (all_arms made_arm arms).result in
    let f = λ (y : Expr) (ys : List Arm). expr.Match y attrs ys in
    let c = both_bare f (own x.0 (plain 0 true) Any) (all_arms own_arm arms) h in
    own_at (Expr-F.Match made attrs all) (expr.Match made attrs all) r u (views.rolls-Match made attrs all)
    ∙ ap₂ (both f) (x.1 (plain 0 true) Any c.0 (plain 0 true) (plain 0 true) Any Any) (arms_counted arms c.1)
counted_made (Expr-F.Loop label b) q t h p r u =
    let made = (made_block b.0).result in
    own_at (Expr-F.Loop label made) (expr.Loop label made) r u (views.rolls-Loop label made)
    ∙ ap (one (λ y. expr.Loop label y)) (b.1 (one_bare (λ y. expr.Loop label y) (own_block b.0) h))
counted_made (Expr-F.While label k b) q t h p r u =
    let condition = (made_condition k.0).result in
    let made = (made_block b.0).result in
    let f = λ (d : Condition) (y : Block). expr.While label d y in
    let c = both_bare f (own_condition k.0) (own_block b.0) h in
    own_at (Expr-F.While label condition made) (expr.While label condition made) r u (views.rolls-While label condition made)
    ∙ ap₂ (both f) (k.1 c.0) (b.1 c.1)
counted_made (Expr-F.For label pat x b) q t h p r u =
    let made = (made_of x.0 (plain 0 true) Any).result in
    let block = (made_block b.0).result in
    let f = λ (y : Expr) (z : Block). expr.For label pat y z in
    let c = both_bare f (own x.0 (plain 0 true) Any) (own_block b.0) h in
    own_at (Expr-F.For label pat made block) (expr.For label pat made block) r u (views.rolls-For label pat made block)
    ∙ ap₂ (both f) (x.1 (plain 0 true) Any c.0 (plain 0 true) (plain 0 true) Any Any) (b.1 c.1)
counted_made (Expr-F.Closure is_async moves params x) q t h p r u =
    let made = (made_of x.0 (plain 0 p.no_struct) Any).result in
    own_at (Expr-F.Closure is_async moves params made) (expr.Closure is_async moves params made) r u (views.rolls-Closure is_async moves params made)
    ∙ ap (one (λ y. expr.Closure is_async moves params y)) (x.1 (plain 0 false) Any (one_bare (λ y. expr.Closure is_async moves params y) (own x.0 (plain 0 false) Any) h) (plain 0 p.no_struct) (plain 0 false) Any Any)
counted_made (Expr-F.TypedClosure is_async moves params output b) q t h p r u =
    let made = (made_block b.0).result in
    own_at (Expr-F.TypedClosure is_async moves params output made) (expr.TypedClosure is_async moves params output made) r u (views.rolls-TypedClosure is_async moves params output made)
    ∙ ap (one (λ y. expr.TypedClosure is_async moves params output y)) (b.1 (one_bare (λ y. expr.TypedClosure is_async moves params output y) (own_block b.0) h))
counted_made (Expr-F.Return None) q t h p r u =
    own_at (Expr-F.Return None) (expr.Return None) r u (views.rolls-Return None)
counted_made (Expr-F.Return (Some x)) q t h p r u =
    let made = (made_of x.0 (plain 0 p.no_struct) Optional).result in
    own_at (Expr-F.Return (Some made)) (expr.Return (Some made)) r u (views.rolls-Return (Some made))
    ∙ ap (one expr.Return) (some_counted x (plain 0 false) Optional (one_bare expr.Return (one Some (own x.0 (plain 0 false) Optional)) h) (plain 0 p.no_struct) Optional)
counted_made (Expr-F.Break label None) q t h p r u =
    own_at (Expr-F.Break label None) (expr.Break label None) r u (views.rolls-Break label None)
counted_made (Expr-F.Break label (Some x)) q t h p r u =
    let slot = break_slot label in
    let made = (made_of x.0 (plain 0 p.no_struct) slot).result in
    let f = λ (y : Option Expr). expr.Break label y in
    own_at (Expr-F.Break label (Some made)) (expr.Break label (Some made)) r u (views.rolls-Break label (Some made))
    ∙ ap (one f) (some_counted x (plain 0 false) slot (one_bare f (one Some (own x.0 (plain 0 false) slot)) h) (plain 0 p.no_struct) slot)

pub layer_counted : (y : AllCounted Expr-F) → PlacedCounted (own_made (expr_own (expr_layer y))) (least_made (expr_parts (expr_layer y)))
layer_counted y q t h p r s u = by (fits (about_expr here.result) p s)
  where
    here : Made Expr
    here = expr_made p (expr_parts (expr_layer y))

    free : Made Expr
    free = expr_made FREE (expr_parts (expr_layer y))

    by : (b : Bool) → own (if b then here else wrapped free).result r u ≡ (if b then here else wrapped free)
    by true = counted_made y q t h p r u
    by false =
        own_at (Expr-F.Paren free.result) (expr.Paren free.result) r u (views.rolls-Paren free.result)
        ∙ ap wrapped (counted_made y q t h FREE FREE Any)
