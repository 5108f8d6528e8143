-- Types, paths, generic arguments and bounds pass, by the induction of their family: from where nothing is asked to the
-- end of a type or of an argument. A path does so from each border where one may begin.
use Rattle.std.proofs.Common.{◌≡◌, ℕ, List, [], ◌∷◌, Bool, true, ◌&&◌, sym, refl, subst, codes, map, Option, Some, None, option_map}
use Rattle.std.specs.List.{list_all}
use Rattle.std.proofs.lemmas.Bool.{and_parts}
use Rattle.lay_piece.specs.declared.kind.Delim.TheVariants.{Paren, Bracket, Brace}
use Rattle.lay_form.specs.Form as form
use Rattle.lay_form.specs.Form.{Bit, Blank, Operator, Form, opener, closer, comma, semicolon}
use Rattle.lay_form.specs.Pieces.{are_pieces}
use Rattle.lay_node.specs.Words.{colons}
use Rattle.lay_node.specs.nodes.Facts.{Facts}
use Rattle.lay_node.specs.nodes.Types.{colon, equals, segments_form, less, greater, about_type, about_path, about_start, about_args, about_arg, about_constraint, about_bound, about_func_param}
use Rattle.lay_node.specs.declared.token.Word.{Word}
use Rattle.lay_node.specs.declared.types.Arg.{Arg}
use Rattle.lay_node.specs.declared.types.Arg.TheFolds as type_fold
use Rattle.lay_node.specs.declared.types.Arg.TheOpen.{Arg-F, Args-F, Bound-F, Constraint-F, PathStart-F, Ty-F, FuncParam-F, Path-F}
use Rattle.lay_node.specs.declared.types.Arg.TheViews as views
use Rattle.lay_node.specs.declared.types.Args.{Args}
use Rattle.lay_node.specs.declared.types.Bound.{Bound}
use Rattle.lay_node.specs.declared.types.Constraint.{Constraint}
use Rattle.lay_node.specs.declared.types.FuncParam.{FuncParam}
use Rattle.lay_node.specs.declared.types.Path.{Path}
use Rattle.lay_node.specs.declared.types.PathStart.{PathStart}
use Rattle.lay_node.specs.declared.types.PathStyle.{PathStyle}
use Rattle.lay_node.specs.declared.types.Ty.{Ty}
use Rattle.lay_node.proofs.nodes.TypesLaws as laws
use Rattle.lay_node.proofs.nodes.TypesLaws.{about_segment}
use Rattle.lay_reparse.proofs.borders.Border.{Border, beyond}
use Rattle.lay_reparse.proofs.borders.Move.{under}
use Rattle.lay_reparse.proofs.forms.Passes.{plain}
use Rattle.lay_reparse.proofs.forms.Rules.{simple, under-refl, tables, From, ends, fixed, part}
use Rattle.lay_reparse.proofs.file.Nodes.{start_path}
use Rattle.lay_reparse.proofs.file.TypeParts.{ends_type, ends_arg}
use Rattle.lay_reparse.proofs.file.TypeArgs.{Any, ArgsPass, Each, Passing, PathPasses, SegmentPasses, TypePasses, angle_pass, const_pass, equal_const_pass, equal_pass, global_pass, limit_pass, local_pass, meets_pass, captures_pass, named_arg_pass, none_pass, outlives_pass, path_pass, plain_pass, qualified_pass, qualified_passes, region_pass, round_pass, segments_pass, words_lead}
use Rattle.lay_reparse.proofs.file.TypeKinds.{array_pass, bounds_type_pass, call_pass, ends_param, func_param_pass, func_pass, infer_pass, never_pass, paren_pass, path_type_pass, pointer_pass, reference_pass, slice_pass, tuple_pass}

-- ---- each node

abbrev ArgIs : Arg → Type 0
ArgIs x = Passing plain ends_arg (about_arg x)

abbrev ArgsAre : Args → Type 0
ArgsAre x = ArgsPass (about_args x)

abbrev BoundIs : Bound → Type 0
BoundIs x = Passing plain ends_type (about_bound x)

abbrev ConstraintIs : Constraint → Type 0
ConstraintIs x = Passing ends_type ends_arg (about_constraint x)

abbrev StartIs : PathStart → Type 0
StartIs x = Passing plain start_path (about_start x)

abbrev TypeIs : Ty → Type 0
TypeIs x = TypePasses (about_type x)

abbrev ParamIs : FuncParam → Type 0
ParamIs x = Passing plain ends_param (about_func_param x)

abbrev PathIs : Path → Type 0
PathIs x = PathPasses (about_path x)

-- a node that passes
abbrev KeptArg : Type 0
KeptArg = (x : Arg) × ArgIs x

abbrev KeptArgs : Type 0
KeptArgs = (x : Args) × ArgsAre x

abbrev KeptBound : Type 0
KeptBound = (x : Bound) × BoundIs x

abbrev KeptConstraint : Type 0
KeptConstraint = (x : Constraint) × ConstraintIs x

abbrev KeptStart : Type 0
KeptStart = (x : PathStart) × StartIs x

abbrev KeptType : Type 0
KeptType = (x : Ty) × TypeIs x

abbrev KeptParam : Type 0
KeptParam = (x : FuncParam) × ParamIs x

abbrev KeptPath : Type 0
KeptPath = (x : Path) × PathIs x

-- one layer of a node, and one whose nodes within it pass
abbrev Layer : (Type 0 → Type 0 → Type 0 → Type 0 → Type 0 → Type 0 → Type 0 → Type 0 → Type 0) → Type 0
Layer F = F Arg Args Bound Constraint PathStart Ty FuncParam Path

abbrev Kept : (Type 0 → Type 0 → Type 0 → Type 0 → Type 0 → Type 0 → Type 0 → Type 0 → Type 0) → Type 0
Kept F = F KeptArg KeptArgs KeptBound KeptConstraint KeptStart KeptType KeptParam KeptPath

abbrev arg_layer : Kept Arg-F → Layer Arg-F
arg_layer y = type_fold.map-Arg KeptArg KeptArgs KeptBound KeptConstraint KeptStart KeptType KeptParam KeptPath
    Arg Args Bound Constraint PathStart Ty FuncParam Path
    (λ y. y.0) (λ y. y.0) (λ y. y.0) (λ y. y.0) (λ y. y.0) (λ y. y.0) (λ y. y.0) (λ y. y.0) y

abbrev args_layer : Kept Args-F → Layer Args-F
args_layer y = type_fold.map-Args KeptArg KeptArgs KeptBound KeptConstraint KeptStart KeptType KeptParam KeptPath
    Arg Args Bound Constraint PathStart Ty FuncParam Path
    (λ y. y.0) (λ y. y.0) (λ y. y.0) (λ y. y.0) (λ y. y.0) (λ y. y.0) (λ y. y.0) (λ y. y.0) y

abbrev bound_layer : Kept Bound-F → Layer Bound-F
bound_layer y = type_fold.map-Bound KeptArg KeptArgs KeptBound KeptConstraint KeptStart KeptType KeptParam KeptPath
    Arg Args Bound Constraint PathStart Ty FuncParam Path
    (λ y. y.0) (λ y. y.0) (λ y. y.0) (λ y. y.0) (λ y. y.0) (λ y. y.0) (λ y. y.0) (λ y. y.0) y

abbrev constraint_layer : Kept Constraint-F → Layer Constraint-F
constraint_layer y = type_fold.map-Constraint KeptArg KeptArgs KeptBound KeptConstraint KeptStart KeptType KeptParam
    KeptPath Arg Args Bound Constraint PathStart Ty FuncParam Path
    (λ y. y.0) (λ y. y.0) (λ y. y.0) (λ y. y.0) (λ y. y.0) (λ y. y.0) (λ y. y.0) (λ y. y.0) y

abbrev start_layer : Kept PathStart-F → Layer PathStart-F
start_layer y = type_fold.map-PathStart KeptArg KeptArgs KeptBound KeptConstraint KeptStart KeptType KeptParam KeptPath
    Arg Args Bound Constraint PathStart Ty FuncParam Path
    (λ y. y.0) (λ y. y.0) (λ y. y.0) (λ y. y.0) (λ y. y.0) (λ y. y.0) (λ y. y.0) (λ y. y.0) y

abbrev type_layer : Kept Ty-F → Layer Ty-F
type_layer y = type_fold.map-Ty KeptArg KeptArgs KeptBound KeptConstraint KeptStart KeptType KeptParam KeptPath
    Arg Args Bound Constraint PathStart Ty FuncParam Path
    (λ y. y.0) (λ y. y.0) (λ y. y.0) (λ y. y.0) (λ y. y.0) (λ y. y.0) (λ y. y.0) (λ y. y.0) y

abbrev param_layer : Kept FuncParam-F → Layer FuncParam-F
param_layer y = type_fold.map-FuncParam KeptArg KeptArgs KeptBound KeptConstraint KeptStart KeptType KeptParam KeptPath
    Arg Args Bound Constraint PathStart Ty FuncParam Path
    (λ y. y.0) (λ y. y.0) (λ y. y.0) (λ y. y.0) (λ y. y.0) (λ y. y.0) (λ y. y.0) (λ y. y.0) y

abbrev path_layer : Kept Path-F → Layer Path-F
path_layer y = type_fold.map-Path KeptArg KeptArgs KeptBound KeptConstraint KeptStart KeptType KeptParam KeptPath
    Arg Args Bound Constraint PathStart Ty FuncParam Path
    (λ y. y.0) (λ y. y.0) (λ y. y.0) (λ y. y.0) (λ y. y.0) (λ y. y.0) (λ y. y.0) (λ y. y.0) y

-- each of a list of nodes that pass
pub kept : {A B : Type 0} (P : B → Type 0) (about : A → B) (ys : List ((x : A) × P (about x)))
    → Each P (map about (map (λ (y : (x : A) × P (about x)). y.0) ys))
kept P about [] = tt
kept P about (y ∷ ys) = (y.1, kept P about ys)

kept_segments : (ys : List (Word × KeptArgs))
    → Each SegmentPasses (map about_segment (map (λ (y : Word × KeptArgs). (y.0, y.1.0)) ys))
kept_segments [] = tt
kept_segments (y ∷ ys) = (y.1.1, kept_segments ys)

-- from the facts about a node to the node
pub told : {A B : Type 0} (P : B → Type 0) (about : A → B) {x y : A} {f : B} → y ≡ x → about x ≡ f → P f → P (about y)
told P about same is k = subst (λ z. P (about z)) (sym same) (subst P (sym is) k)

abbrev types_of : List KeptType → List Ty
types_of ys = map (λ (y : KeptType). y.0) ys

abbrev params_of : List KeptParam → List FuncParam
params_of ys = map (λ (y : KeptParam). y.0) ys

abbrev bounds_of : List KeptBound → List Bound
bounds_of ys = map (λ (y : KeptBound). y.0) ys

abbrev args_of : List KeptArg → List Arg
args_of ys = map (λ (y : KeptArg). y.0) ys

arg_step : (y : Kept Arg-F) → ArgIs (views.roll-Arg (arg_layer y))
arg_step (Arg-F.Region l) =
    told (Passing plain ends_arg) about_arg (views.rolls-Region l) (laws.arg_region_is l)
    (region_pass l)
arg_step (Arg-F.Plain x) =
    told (Passing plain ends_arg) about_arg (views.rolls-Plain x.0) (laws.arg_plain_is x.0)
    (plain_pass (about_type x.0) x.1)
arg_step (Arg-F.Const value) =
    told (Passing plain ends_arg) about_arg (views.rolls-Const value) (laws.arg_const_is value)
    (const_pass value)
arg_step (Arg-F.Named name x c) =
    told (Passing plain ends_arg) about_arg (views.rolls-Named name x.0 c.0) (laws.arg_named_is name x.0 c.0)
    (named_arg_pass name (about_args x.0) (about_constraint c.0) x.1 c.1)

args_step : (y : Kept Args-F) → ArgsAre (views.roll-Args (args_layer y))
args_step Args-F.None =
    told ArgsPass about_args views.rolls-None laws.args_none_is
    none_pass
args_step (Args-F.Angle xs) =
    told ArgsPass about_args (views.rolls-Angle (args_of xs)) (laws.args_angle_is (args_of xs))
    (angle_pass (map about_arg (args_of xs)) (kept (Passing plain ends_arg) about_arg xs))
args_step (Args-F.Round xs None) =
    told ArgsPass about_args (views.rolls-Round (types_of xs) None) (laws.args_round_is (types_of xs) None)
    (round_pass (map about_type (types_of xs)) None (kept TypePasses about_type xs) tt)
args_step (Args-F.Round xs (Some x)) =
    told ArgsPass about_args (views.rolls-Round (types_of xs) (Some x.0)) (laws.args_round_is (types_of xs) (Some x.0))
    (round_pass (map about_type (types_of xs)) (Some (about_type x.0)) (kept TypePasses about_type xs) x.1)

bound_step : (y : Kept Bound-F) → BoundIs (views.roll-Bound (bound_layer y))
bound_step (Bound-F.Outlives l) =
    told (Passing plain ends_type) about_bound (views.rolls-Outlives l) (laws.bound_outlives_is l)
    (outlives_pass l)
bound_step (Bound-F.Meets parens maybe binder p) =
    told (Passing plain ends_type) about_bound (views.rolls-Meets parens maybe binder p.0)
    (laws.bound_meets_is parens maybe binder p.0)
    (meets_pass parens maybe binder (about_path p.0) p.1)
bound_step (Bound-F.Captures captured) =
    told (Passing plain ends_type) about_bound (views.rolls-Captures captured) (laws.bound_captures_is captured)
    (captures_pass captured)

constraint_step : (y : Kept Constraint-F) → ConstraintIs (views.roll-Constraint (constraint_layer y))
constraint_step (Constraint-F.Equal x) =
    told (Passing ends_type ends_arg) about_constraint (views.rolls-Equal x.0) (laws.constraint_equal_is x.0)
    (equal_pass (about_type x.0) x.1)
constraint_step (Constraint-F.EqualConst value) =
    told (Passing ends_type ends_arg) about_constraint (views.rolls-EqualConst value)
    (laws.constraint_equal_const_is value)
    (equal_const_pass value)
constraint_step (Constraint-F.Limit xs) =
    told (Passing ends_type ends_arg) about_constraint (views.rolls-Limit (bounds_of xs))
    (laws.constraint_limit_is (bounds_of xs))
    (limit_pass (map about_bound (bounds_of xs)) (kept (Passing plain ends_type) about_bound xs))

start_step : (y : Kept PathStart-F) → StartIs (views.roll-PathStart (start_layer y))
start_step PathStart-F.Local =
    told (Passing plain start_path) about_start views.rolls-Local laws.start_local_is
    local_pass
start_step PathStart-F.Global =
    told (Passing plain start_path) about_start views.rolls-Global laws.start_global_is
    global_pass
start_step (PathStart-F.Qualified x None) =
    told (Passing plain start_path) about_start (views.rolls-Qualified x.0 None) (laws.start_qualified_is x.0 None)
    (qualified_pass (about_type x.0) None x.1 tt)
start_step (PathStart-F.Qualified x (Some p)) =
    told (Passing plain start_path) about_start (views.rolls-Qualified x.0 (Some p.0))
    (laws.start_qualified_is x.0 (Some p.0))
    (qualified_pass (about_type x.0) (Some (about_path p.0)) x.1 p.1)

type_step : (y : Kept Ty-F) → TypeIs (views.roll-Ty (type_layer y))
type_step (Ty-F.Path p) =
    told TypePasses about_type (views.rolls-Path p.0) (laws.type_path_is p.0)
    (path_type_pass (about_path p.0) p.1)
type_step (Ty-F.Call call) =
    told TypePasses about_type (views.rolls-Call call) (laws.type_call_is call)
    (call_pass call)
type_step (Ty-F.Paren x) =
    told TypePasses about_type (views.rolls-Paren x.0) (laws.type_paren_is x.0)
    (paren_pass (about_type x.0) x.1)
type_step (Ty-F.Tuple xs) =
    told TypePasses about_type (views.rolls-Tuple (types_of xs)) (laws.type_tuple_is (types_of xs))
    (tuple_pass (map about_type (types_of xs)) (kept TypePasses about_type xs))
type_step Ty-F.Never =
    told TypePasses about_type views.rolls-Never laws.type_never_is
    never_pass
type_step Ty-F.Infer =
    told TypePasses about_type views.rolls-Infer laws.type_infer_is
    infer_pass
type_step (Ty-F.Ptr mutable x) =
    told TypePasses about_type (views.rolls-Ptr mutable x.0) (laws.type_ptr_is mutable x.0)
    (pointer_pass mutable (about_type x.0) x.1)
type_step (Ty-F.Ref lifetime mutable x) =
    told TypePasses about_type (views.rolls-Ref lifetime mutable x.0) (laws.type_ref_is lifetime mutable x.0)
    (reference_pass lifetime mutable (about_type x.0) x.1)
type_step (Ty-F.Slice x) =
    told TypePasses about_type (views.rolls-Slice x.0) (laws.type_slice_is x.0)
    (slice_pass (about_type x.0) x.1)
type_step (Ty-F.Array x length) =
    told TypePasses about_type (views.rolls-Array x.0 length) (laws.type_array_is x.0 length)
    (array_pass (about_type x.0) length x.1)
type_step (Ty-F.Func binder is_unsafe abi ps variadic None) =
    told TypePasses about_type (views.rolls-Func binder is_unsafe abi (params_of ps) variadic None)
    (laws.type_func_is binder is_unsafe abi (params_of ps) variadic None)
    (func_pass binder is_unsafe abi (map about_func_param (params_of ps)) variadic None
    (kept (Passing plain ends_param) about_func_param ps) tt)
type_step (Ty-F.Func binder is_unsafe abi ps variadic (Some x)) =
    told TypePasses about_type (views.rolls-Func binder is_unsafe abi (params_of ps) variadic (Some x.0))
    (laws.type_func_is binder is_unsafe abi (params_of ps) variadic (Some x.0))
    (func_pass binder is_unsafe abi (map about_func_param (params_of ps)) variadic (Some (about_type x.0))
    (kept (Passing plain ends_param) about_func_param ps) x.1)
type_step (Ty-F.Bounds dynamic xs) =
    told TypePasses about_type (views.rolls-Bounds dynamic (bounds_of xs)) (laws.type_bounds_is dynamic (bounds_of xs))
    (bounds_type_pass dynamic (map about_bound (bounds_of xs)) (kept (Passing plain ends_type) about_bound xs))

param_from : (p : FuncParam) → TypeIs p.ty → ParamIs p
param_from p k = subst (Passing plain ends_param) (sym (laws.func_param_is p))
    (func_param_pass (record { attrs = p.attrs; name = p.name; ty = about_type p.ty }) k)

path_from : (p : Path) → StartIs p.start → Each SegmentPasses (map about_segment p.segments) → PathIs p
path_from p k l = subst PathPasses (sym (laws.path_is p))
    (path_pass (about_start p.start) (map about_segment p.segments) k l)

param_step : (y : Kept FuncParam-F) → ParamIs (views.roll-FuncParam (param_layer y))
param_step y = param_from _ y.ty.1

path_step : (y : Kept Path-F) → PathIs (views.roll-Path (path_layer y))
path_step y = path_from _ y.start.1 (kept_segments y.segments)

-- the same, of a layer that is this one
arg_rolled : (x : Layer Arg-F) (y : Kept Arg-F) → arg_layer y ≡ x → ArgIs (views.roll-Arg x)
arg_rolled x y is = subst (λ z. ArgIs (views.roll-Arg z)) is (arg_step y)

args_rolled : (x : Layer Args-F) (y : Kept Args-F) → args_layer y ≡ x → ArgsAre (views.roll-Args x)
args_rolled x y is = subst (λ z. ArgsAre (views.roll-Args z)) is (args_step y)

bound_rolled : (x : Layer Bound-F) (y : Kept Bound-F) → bound_layer y ≡ x → BoundIs (views.roll-Bound x)
bound_rolled x y is = subst (λ z. BoundIs (views.roll-Bound z)) is (bound_step y)

constraint_rolled : (x : Layer Constraint-F) (y : Kept Constraint-F) → constraint_layer y ≡ x
    → ConstraintIs (views.roll-Constraint x)
constraint_rolled x y is = subst (λ z. ConstraintIs (views.roll-Constraint z)) is (constraint_step y)

start_rolled : (x : Layer PathStart-F) (y : Kept PathStart-F) → start_layer y ≡ x → StartIs (views.roll-PathStart x)
start_rolled x y is = subst (λ z. StartIs (views.roll-PathStart z)) is (start_step y)

type_rolled : (x : Layer Ty-F) (y : Kept Ty-F) → type_layer y ≡ x → TypeIs (views.roll-Ty x)
type_rolled x y is = subst (λ z. TypeIs (views.roll-Ty z)) is (type_step y)

param_rolled : (x : Layer FuncParam-F) (y : Kept FuncParam-F) → param_layer y ≡ x → ParamIs (views.roll-FuncParam x)
param_rolled x y is = subst (λ z. ParamIs (views.roll-FuncParam z)) is (param_step y)

path_rolled : (x : Layer Path-F) (y : Kept Path-F) → path_layer y ≡ x → PathIs (views.roll-Path x)
path_rolled x y is = subst (λ z. PathIs (views.roll-Path z)) is (path_step y)

-- ---- and so each does

pub type_passes : (x : Ty) → Passing plain ends_type (about_type x).told
type_passes = type_fold.ind-Ty ArgIs ArgsAre BoundIs ConstraintIs StartIs TypeIs ParamIs PathIs
    arg_rolled args_rolled bound_rolled constraint_rolled start_rolled
    type_rolled param_rolled path_rolled

pub path_passes : (x : Path) → PathPasses (about_path x)
path_passes = type_fold.ind-Path ArgIs ArgsAre BoundIs ConstraintIs StartIs TypeIs ParamIs PathIs
    arg_rolled args_rolled bound_rolled constraint_rolled start_rolled
    type_rolled param_rolled path_rolled

pub start_passes : (x : PathStart) → Passing plain start_path (about_start x)
start_passes = type_fold.ind-PathStart ArgIs ArgsAre BoundIs ConstraintIs StartIs TypeIs ParamIs PathIs
    arg_rolled args_rolled bound_rolled constraint_rolled start_rolled
    type_rolled param_rolled path_rolled

pub args_pass : (x : Args) → ArgsPass (about_args x)
args_pass = type_fold.ind-Args ArgIs ArgsAre BoundIs ConstraintIs StartIs TypeIs ParamIs PathIs
    arg_rolled args_rolled bound_rolled constraint_rolled start_rolled
    type_rolled param_rolled path_rolled

pub arg_passes : (x : Arg) → Passing plain ends_arg (about_arg x)
arg_passes = type_fold.ind-Arg ArgIs ArgsAre BoundIs ConstraintIs StartIs TypeIs ParamIs PathIs
    arg_rolled args_rolled bound_rolled constraint_rolled start_rolled
    type_rolled param_rolled path_rolled

pub constraint_passes : (x : Constraint) → Passing ends_type ends_arg (about_constraint x)
constraint_passes = type_fold.ind-Constraint ArgIs ArgsAre BoundIs ConstraintIs StartIs TypeIs ParamIs PathIs
    arg_rolled args_rolled bound_rolled constraint_rolled start_rolled
    type_rolled param_rolled path_rolled

pub bound_passes : (x : Bound) → Passing plain ends_type (about_bound x)
bound_passes = type_fold.ind-Bound ArgIs ArgsAre BoundIs ConstraintIs StartIs TypeIs ParamIs PathIs
    arg_rolled args_rolled bound_rolled constraint_rolled start_rolled
    type_rolled param_rolled path_rolled

pub func_param_passes : (x : FuncParam) → Passing plain ends_param (about_func_param x)
func_param_passes = type_fold.ind-FuncParam ArgIs ArgsAre BoundIs ConstraintIs StartIs TypeIs ParamIs PathIs
    arg_rolled args_rolled bound_rolled constraint_rolled start_rolled
    type_rolled param_rolled path_rolled

-- ---- where a path may begin, and what may follow a type

-- a word, `::` and `<` may stand there
abbrev pub begins_path : Border → Bool
begins_path b =
    words_lead b && (simple b colons && (under (beyond b colons) start_path
    && (simple b (less ∷ []) && under (beyond b (less ∷ [])) plain)))

-- what a path begins with, and what follows it there: from b, or after `::`
record StartsAt (b : Border) (x : Facts) : Type 0 where
  pub go : (f : Form) (c : Border) → x.good ≡ true → are_pieces x.form ≡ true → From b f c → From start_path f c
      → From b (form.Part x.form f) c

start_at : (b : Border) → begins_path b ≡ true → {x : PathStart} → laws.PathStartView x → StartsAt b (about_start x)
unfolding tables
start_at b h laws.IsLocal = subst (StartsAt b) (sym laws.start_local_is) (record {
  go = λ f c g w k l. part b b (under-refl b) (ends (under-refl b)) k;
})
start_at b h laws.IsGlobal = subst (StartsAt b) (sym laws.start_global_is) (record {
  go = λ f c g w k l.
      let h1 = and_parts (words_lead b) _ h in
      let h2 = and_parts (simple b colons) _ h1.1 in
      let h3 = and_parts (under (beyond b colons) start_path) _ h2.1 in
      part b start_path (under-refl b) (fixed h2.0 (ends h3.0)) l;
})
start_at b h (laws.IsQualified x of) = subst (StartsAt b) (sym (laws.start_qualified_is x of)) (record {
  go = λ f c g w k l.
      let h1 = and_parts (words_lead b) _ h in
      let h2 = and_parts (simple b colons) _ h1.1 in
      let h3 = and_parts (under (beyond b colons) start_path) _ h2.1 in
      let h4 = and_parts (simple b (less ∷ [])) _ h3.1 in
      part b start_path (under-refl b)
      (fixed h4.0 (qualified_passes (beyond b (less ∷ [])) h4.1 (about_type x) (option_map about_path of)
      (type_passes x) (any_path of) g w))
      l;
})
  where
    any_path : (of : Option Path) → Any PathPasses (option_map about_path of)
    any_path None = tt
    any_path (Some p) = path_passes p

each_segment : (xs : List (Word × Args)) → Each SegmentPasses (map about_segment xs)
each_segment [] = tt
each_segment (x ∷ xs) = (args_pass x.1, each_segment xs)

-- a path in either style, from each border where one may begin
pub path_passes_at : (b : Border) → begins_path b ≡ true → (s : PathStyle) (p : Path)
    → Passing b ends_type (about_path p s)
path_passes_at b h s p =
    let start = about_start p.start in
    let xs = map about_segment p.segments in
    subst (λ z. Passing b ends_type (z s)) (sym (laws.path_is p)) (record {
      go = λ g w.
          let n = and_parts start.good _ g in
          let q = and_parts (are_pieces start.form) _ w in
          let l = (and_parts (words_lead b) _ h).0 in
          (start_at b h (laws.start_view p.start)).go (segments_form s xs) ends_type n.0 q.0
          (segments_pass b l s xs (each_segment p.segments) n.1 q.1)
          (segments_pass start_path refl s xs (each_segment p.segments) n.1 q.1);
    })

-- After these operators a path may begin, as it may where nothing is asked.
abbrev pub before_path : List (List ℕ)
before_path = codes "&" ∷ codes "&&" ∷ codes "*" ∷ codes "-" ∷ codes "!" ∷ codes ".." ∷ codes "..=" ∷ []

pub path_begins : begins_path plain && list_all (λ op. begins_path (beyond plain (Operator op ∷ []))) before_path ≡ true
unfolding tables
path_begins = refl

-- These stand after a type and after an argument, and lead to where nothing is asked.
abbrev pub followers : List (List Bit)
followers =
    comma ∷ semicolon ∷ colon ∷ equals ∷ (closer Paren ∷ []) ∷ (closer Bracket ∷ []) ∷ (greater ∷ []) ∷ (Blank ∷ [])
    ∷ (Blank ∷ opener Brace ∷ []) ∷ []

abbrev pub frees : Border → List Bit → Bool
frees b p = simple b p && under (beyond b p) plain

pub type_followed : list_all (frees ends_type) followers ≡ true
unfolding tables
type_followed = refl

pub arg_followed : list_all (frees ends_arg) followers ≡ true
unfolding tables
arg_followed = refl
