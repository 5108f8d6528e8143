-- Kinds of expressions that end in no body, so not within braces that the syntax tree doesn't hold:
-- paths, casts, steps, branches, and those of which the last operand is left out.
use Rattle.std.proofs.Common.{◌≡◌, Bool, true, false, ◌&&◌, ◌||◌, nat_le, List, [], ◌∷◌, ◌++◌, map, Option, Some, None, if◌then◌else◌, refl, sym, subst}
use Rattle.std.proofs.lemmas.Bool.{and_from, or_left}
use Rattle.lay_form.specs.Form.{Form, Done, Part}
use Rattle.lay_form.specs.Notation.{I0, body, soft}
use Rattle.lay_node.specs.nodes.Attr.{attr_form}
use Rattle.lay_node.specs.nodes.Facts.{forms}
use Rattle.lay_node.specs.nodes.Fields.{blank_if}
use Rattle.lay_node.specs.nodes.Types.{about_arg, about_type, angle_form}
use Rattle.lay_node.specs.declared.attr.Attr.{Attr}
use Rattle.lay_node.specs.declared.token.Lifetime.{Lifetime}
use Rattle.lay_node.specs.declared.types.Arg.{Arg}
use Rattle.lay_node.specs.declared.types.PathStyle.TheVariants.{Code}
use Rattle.lay_node.specs.declared.types.Ty.{Ty}
use Rattle.lay_code.specs.nodes.Blocks.{attrs_before, block_form, dropped_if, is_plain, soft_form, stmt_form}
use Rattle.lay_code.specs.nodes.Code.{about_branch, about_expr, about_step, about_stmt}
use Rattle.lay_code.specs.nodes.CodeFacts.{BlockFacts, BranchFacts, StmtFacts}
use Rattle.lay_code.specs.nodes.Exprs.{ExprFacts, ExprLayer, StepFacts, args_form, branch_head, break_if, expr_facts, expr_forms, generics_form, group_if, inside, is_method, is_raw_path, methods, more_branches, steps_form, types_form}
use Rattle.lay_code.specs.declared.blocks.Branch.{Branch}
use Rattle.lay_code.specs.declared.blocks.Stmt.TheOpen.{Expr-F}
use Rattle.lay_code.specs.declared.exprs.Expr.{Expr}
use Rattle.lay_code.specs.declared.exprs.Step.{Step}
use Rattle.lay_code.proofs.nodes.BlocksLaws.{block_is, branch_is}
use Rattle.lay_code.proofs.nodes.ExprsLaws.{StepView, IsFieldStep, IsTupleIndexStep, IsMethodStep, IsApplyStep, IsIndexStep, IsTryStep, IsAwaitStep, step_view, step_field_is, step_tuple_index_is, step_method_is, step_apply_is, step_index_is, step_try_is, step_await_is}
use Rattle.lay_code.proofs.reader.BodilessTypes.{EndsBare, angles_bare, behind_bare, leaf_bare, parens_bare, part_bare, path_bare, type_bare}
use Rattle.lay_code.proofs.reader.ExprSoundLevel.{layer_of}
use Rattle.lay_code.proofs.reader.Followed.{bodiless, takes}

-- It takes a token at least, and ends in no body.
abbrev Shut : Form → Type 0
Shut f = (takes f ≡ true) × EndsBare f

-- ---- paths, and what lacks its last operand

-- An expression that is the word `raw` is a path.
pub raw_bare : (x : Expr) → (about_expr x).is_raw ≡ true → EndsBare (about_expr x).form
raw_bare x h =
    let l = layer_of x in
    subst (λ (F : ExprFacts). EndsBare F.form) (sym l.1) (by l.0 (subst (λ (F : ExprFacts). F.is_raw ≡ true) l.1 h))
  where
    by : (F : ExprLayer) → is_raw_path F ≡ true → EndsBare (expr_facts F).form
    by (Expr-F.Path p) g = path_bare Code p
    by _ g = absurd (cc)

pub continue_bare : (label : Option Lifetime) → EndsBare (inside (Expr-F.Continue label))
continue_bare None = refl
continue_bare (Some l) = refl

-- ---- casts

pub types_bare : (x : Ty) (xs : List Ty) → Shut (types_form (map about_type (x ∷ xs)))
types_bare x [] = (refl, type_bare x)
types_bare x (y ∷ ys) =
    let more = types_bare y ys in
    (refl, behind_bare (about_type x).told.form (types_form (map about_type (y ∷ ys))) more.0 more.1)

pub cast_bare : (x : ExprFacts) (y : Ty) (ys : List Ty) → EndsBare (inside (Expr-F.Cast x (y ∷ ys)))
cast_bare x y ys = let t = types_bare y ys in behind_bare x.form (types_form (map about_type (y ∷ ys))) t.0 t.1

-- ---- steps

args_bare : (xs : List ExprFacts) → Shut (args_form xs)
args_bare [] = (refl, refl)
args_bare (x ∷ xs) = (refl, parens_bare true (expr_forms (x ∷ xs)))

generics_bare : (generics : Option (List Arg)) (f : Form) → EndsBare f → EndsBare (generics_form generics f)
generics_bare None f h = h
generics_bare (Some gs) f h = part_bare (angle_form (map about_arg gs)) f h (angles_bare (forms (map about_arg gs)))

abbrev ShutStep : StepFacts → Type 0
ShutStep F = Shut F.form

step_bare : (s : Step) → Shut (about_step s).form
step_bare s = by s (step_view s)
  where
    by : (s : Step) → StepView s → Shut (about_step s).form
    by _ (IsFieldStep n) = subst ShutStep (sym (step_field_is n)) (refl, leaf_bare n.raw n.text Done refl)
    by _ (IsTupleIndexStep i) = subst ShutStep (sym (step_tuple_index_is i)) (refl, refl)
    by _ (IsMethodStep n generics xs) =
        let f : Form = Part (args_form (map about_expr xs)) Done in
        subst ShutStep (sym (step_method_is n generics xs))
        (refl, leaf_bare n.raw n.text (generics_form generics f) (generics_bare generics f (args_bare (map about_expr xs)).1))
    by _ (IsApplyStep xs) = subst ShutStep (sym (step_apply_is xs)) (args_bare (map about_expr xs))
    by _ (IsIndexStep x) = subst ShutStep (sym (step_index_is x)) (refl, refl)
    by _ IsTryStep = subst ShutStep (sym step_try_is) (refl, refl)
    by _ IsAwaitStep = subst ShutStep (sym step_await_is) (refl, refl)

unbroken : (b : Bool) (f : Form) → Shut f → Shut (break_if b f)
unbroken true f h = h
unbroken false f h = h

-- a step, before what ends so
step_then : (b : Bool) (s : Step) (more : Form) → EndsBare (Part (about_step s).form more) → Shut (break_if b (Part (about_step s).form more))
step_then b s more h =
    unbroken b (Part (about_step s).form more) (or_left (takes (about_step s).form) (takes more) (step_bare s).0, h)

steps_bare : (several behind : Bool) (s : Step) (ss : List Step) → Shut (steps_form several behind (map about_step (s ∷ ss)))
steps_bare several behind s [] = step_then (several && (behind && is_method (about_step s).kind)) s Done (step_bare s).1
steps_bare several behind s (t ∷ ts) =
    let next = behind || is_method (about_step s).kind in
    let more : Form = steps_form several next (map about_step (t ∷ ts)) in
    let m = steps_bare several next t ts in
    step_then (several && (behind && is_method (about_step s).kind)) s more (behind_bare (about_step s).form more m.0 m.1)

pub postfix_bare : (x : ExprFacts) (s : Step) (ss : List Step) → EndsBare (inside (Expr-F.Postfix x (map about_step (s ∷ ss))))
postfix_bare x s ss =
    let several = nat_le 2 (methods (map about_step (s ∷ ss))) in
    let t = steps_bare several false s ss in
    grouped several (Part x.form (steps_form several false (map about_step (s ∷ ss))))
    (behind_bare x.form (steps_form several false (map about_step (s ∷ ss))) t.0 t.1)
  where
    grouped : (b : Bool) (f : Form) → EndsBare f → EndsBare (group_if b f)
    grouped true f h = h
    grouped false f h = h

-- ---- branches

body_bare : (lead skips : Bool) (fs : List Form) → Shut (body (blank_if lead) (dropped_if skips) fs)
body_bare true true [] = (refl, refl)
body_bare true false [] = (refl, refl)
body_bare false true [] = (refl, refl)
body_bare false false [] = (refl, refl)
body_bare true true (f ∷ fs) = (refl, refl)
body_bare true false (f ∷ fs) = (refl, refl)
body_bare false true (f ∷ fs) = (refl, refl)
body_bare false false (f ∷ fs) = (refl, refl)

block_form_bare : (attrs : List Attr) (stmts : List StmtFacts) (lead : Bool) → Shut (block_form attrs stmts lead)
block_form_bare attrs stmts lead = body_bare lead (is_plain attrs) (attrs_before (map attr_form attrs) ++ map stmt_form stmts)

soft_form_bare : (attrs : List Attr) (stmts : List StmtFacts) → Shut (soft_form attrs stmts)
soft_form_bare [] [] = block_form_bare [] [] true
soft_form_bare [] (s ∷ []) = by s.bare
  where
    by : (b : Bool) → Shut (if b then soft s.form else block_form [] (s ∷ []) true)
    by true = (refl, refl)
    by false = block_form_bare [] (s ∷ []) true
soft_form_bare [] (s ∷ t ∷ more) = block_form_bare [] (s ∷ t ∷ more) true
soft_form_bare (a ∷ others) stmts = block_form_bare (a ∷ others) stmts true

branch_soft_bare : (b : Branch) → Shut (about_branch b).soft
branch_soft_bare b =
    let inner = b.body in
    subst (λ (F : BranchFacts). Shut F.soft) (sym (branch_is b))
    (subst (λ (F : BlockFacts). Shut F.soft) (sym (block_is inner)) (soft_form_bare inner.attrs (map about_stmt inner.stmts)))

-- a branch, before what ends so
branch_bare : (b : Branch) (more : Form) → EndsBare more → EndsBare (I0 (branch_head (about_branch b)) (Part (about_branch b).soft more))
branch_bare b more h =
    let g = (about_branch b).soft in
    let t = branch_soft_bare b in
    and_from (bodiless (Part g more)) (takes (Part g more) || bodiless (branch_head (about_branch b))) (part_bare g more h t.1)
    (or_left (takes (Part g more)) (bodiless (branch_head (about_branch b))) (or_left (takes g) (takes more) t.0))

more_bare : (bs : List Branch) → EndsBare (more_branches (map about_branch bs) Done)
more_bare [] = refl
more_bare (b ∷ bs) = branch_bare b (more_branches (map about_branch bs) Done) (more_bare bs)

-- Branches without an `else` end in the block of the last of them.
pub if_bare : (b : Branch) (bs : List Branch) → EndsBare (inside (Expr-F.If (map about_branch (b ∷ bs)) None))
if_bare b bs = branch_bare b (more_branches (map about_branch bs) Done) (more_bare bs)
