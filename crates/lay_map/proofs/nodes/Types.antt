-- Types, paths, generic arguments and bounds tell their units, by the induction of their family.
use Rattle.std.proofs.Common.{◌≡◌, List, [], ◌∷◌, true, not, sym, subst, map, Some, None}
use Rattle.std.proofs.lemmas.Bool.{and_parts}
use Rattle.lay_node.specs.nodes.Facts.{all_good}
use Rattle.lay_node.specs.nodes.Types.{about_arg, about_args, about_bound, about_constraint, about_func_param, about_path, about_start, about_type, angle_form, good_at}
use Rattle.lay_node.specs.declared.token.Word.{Word}
use Rattle.lay_node.specs.declared.types.Arg.{Arg}
use Rattle.lay_node.specs.declared.types.Arg.TheFolds as type_fold
use Rattle.lay_node.specs.declared.types.Arg.TheOpen.{Arg-F, Args-F, Bound-F, Constraint-F, PathStart-F, Ty-F, FuncParam-F, Path-F}
use Rattle.lay_node.specs.declared.types.Arg.TheViews as views
use Rattle.lay_node.specs.declared.types.Args.{Args}
use Rattle.lay_node.specs.declared.types.Bound.{Bound}
use Rattle.lay_node.specs.declared.types.Constraint.{Constraint}
use Rattle.lay_node.specs.declared.types.FuncParam.{FuncParam}
use Rattle.lay_node.specs.declared.types.Path.{Path}
use Rattle.lay_node.specs.declared.types.PathStart.{PathStart}
use Rattle.lay_node.specs.declared.types.PathStyle.{PathStyle}
use Rattle.lay_node.specs.declared.types.Ty.{Ty}
use Rattle.lay_node.specs.declared.types.TypePlace.{TypePlace}
use Rattle.lay_node.specs.declared.types.TypePlace.TheVariants.{Bounds, NoBounds}
use Rattle.lay_node.proofs.nodes.TypesLaws as laws
use Rattle.lay_node.proofs.nodes.TypesLaws.{about_segment}
use Rattle.lay_map.specs.spelling.Units as units
use Rattle.lay_map.proofs.Rules.{Tells, anywhere}
use Rattle.lay_map.proofs.nodes.TypeArgs.{ArgsTell, Each, NodeTells, PathTells, SegmentTells, TypeTells, angle_told, angle_tells, captures_bound, const_arg_tells, equal_const_tells, equal_tells, global_tells, limit_tells, local_tells, meets_bound, named_tells, no_args_tell, outlives_bound, path_told, plain_tells, qualified_tells, region_tells, round_args_tell}
use Rattle.lay_map.proofs.nodes.TypeKinds.{array_type, bounds_type, call_type, func_param, func_type, infer_type, never_type, paren_type, path_type, pointer_type, reference_type, slice_type, tuple_type}

-- ---- each node

abbrev ArgIs : Arg → Type 0
ArgIs x = NodeTells (about_arg x)

abbrev ArgsAre : Args → Type 0
ArgsAre x = ArgsTell (about_args x)

abbrev BoundIs : Bound → Type 0
BoundIs x = NodeTells (about_bound x)

abbrev ConstraintIs : Constraint → Type 0
ConstraintIs x = NodeTells (about_constraint x)

abbrev StartIs : PathStart → Type 0
StartIs x = NodeTells (about_start x)

abbrev TypeIs : Ty → Type 0
TypeIs x = TypeTells (about_type x)

abbrev ParamIs : FuncParam → Type 0
ParamIs x = NodeTells (about_func_param x)

abbrev PathIs : Path → Type 0
PathIs x = PathTells (about_path x)

-- a node that tells its units
abbrev KeptArg : Type 0
KeptArg = (x : Arg) × ArgIs x

abbrev KeptArgs : Type 0
KeptArgs = (x : Args) × ArgsAre x

abbrev KeptBound : Type 0
KeptBound = (x : Bound) × BoundIs x

abbrev KeptConstraint : Type 0
KeptConstraint = (x : Constraint) × ConstraintIs x

abbrev KeptStart : Type 0
KeptStart = (x : PathStart) × StartIs x

abbrev KeptType : Type 0
KeptType = (x : Ty) × TypeIs x

abbrev KeptParam : Type 0
KeptParam = (x : FuncParam) × ParamIs x

abbrev KeptPath : Type 0
KeptPath = (x : Path) × PathIs x

-- one layer of a node, and one of nodes that tell their units
abbrev Layer : (Type 0 → Type 0 → Type 0 → Type 0 → Type 0 → Type 0 → Type 0 → Type 0 → Type 0) → Type 0
Layer F = F Arg Args Bound Constraint PathStart Ty FuncParam Path

abbrev Kept : (Type 0 → Type 0 → Type 0 → Type 0 → Type 0 → Type 0 → Type 0 → Type 0 → Type 0) → Type 0
Kept F = F KeptArg KeptArgs KeptBound KeptConstraint KeptStart KeptType KeptParam KeptPath

abbrev arg_layer : Kept Arg-F → Layer Arg-F
arg_layer y = type_fold.map-Arg KeptArg KeptArgs KeptBound KeptConstraint KeptStart KeptType KeptParam KeptPath
    Arg Args Bound Constraint PathStart Ty FuncParam Path (λ y. y.0) (λ y. y.0) (λ y. y.0) (λ y. y.0) (λ y. y.0) (λ y. y.0) (λ y. y.0) (λ y. y.0) y

abbrev args_layer : Kept Args-F → Layer Args-F
args_layer y = type_fold.map-Args KeptArg KeptArgs KeptBound KeptConstraint KeptStart KeptType KeptParam KeptPath
    Arg Args Bound Constraint PathStart Ty FuncParam Path (λ y. y.0) (λ y. y.0) (λ y. y.0) (λ y. y.0) (λ y. y.0) (λ y. y.0) (λ y. y.0) (λ y. y.0) y

abbrev bound_layer : Kept Bound-F → Layer Bound-F
bound_layer y = type_fold.map-Bound KeptArg KeptArgs KeptBound KeptConstraint KeptStart KeptType KeptParam KeptPath
    Arg Args Bound Constraint PathStart Ty FuncParam Path (λ y. y.0) (λ y. y.0) (λ y. y.0) (λ y. y.0) (λ y. y.0) (λ y. y.0) (λ y. y.0) (λ y. y.0) y

abbrev constraint_layer : Kept Constraint-F → Layer Constraint-F
constraint_layer y = type_fold.map-Constraint KeptArg KeptArgs KeptBound KeptConstraint KeptStart KeptType KeptParam KeptPath
    Arg Args Bound Constraint PathStart Ty FuncParam Path (λ y. y.0) (λ y. y.0) (λ y. y.0) (λ y. y.0) (λ y. y.0) (λ y. y.0) (λ y. y.0) (λ y. y.0) y

abbrev start_layer : Kept PathStart-F → Layer PathStart-F
start_layer y = type_fold.map-PathStart KeptArg KeptArgs KeptBound KeptConstraint KeptStart KeptType KeptParam KeptPath
    Arg Args Bound Constraint PathStart Ty FuncParam Path (λ y. y.0) (λ y. y.0) (λ y. y.0) (λ y. y.0) (λ y. y.0) (λ y. y.0) (λ y. y.0) (λ y. y.0) y

abbrev type_layer : Kept Ty-F → Layer Ty-F
type_layer y = type_fold.map-Ty KeptArg KeptArgs KeptBound KeptConstraint KeptStart KeptType KeptParam KeptPath
    Arg Args Bound Constraint PathStart Ty FuncParam Path (λ y. y.0) (λ y. y.0) (λ y. y.0) (λ y. y.0) (λ y. y.0) (λ y. y.0) (λ y. y.0) (λ y. y.0) y

abbrev param_layer : Kept FuncParam-F → Layer FuncParam-F
param_layer y = type_fold.map-FuncParam KeptArg KeptArgs KeptBound KeptConstraint KeptStart KeptType KeptParam KeptPath
    Arg Args Bound Constraint PathStart Ty FuncParam Path (λ y. y.0) (λ y. y.0) (λ y. y.0) (λ y. y.0) (λ y. y.0) (λ y. y.0) (λ y. y.0) (λ y. y.0) y

abbrev path_layer : Kept Path-F → Layer Path-F
path_layer y = type_fold.map-Path KeptArg KeptArgs KeptBound KeptConstraint KeptStart KeptType KeptParam KeptPath
    Arg Args Bound Constraint PathStart Ty FuncParam Path (λ y. y.0) (λ y. y.0) (λ y. y.0) (λ y. y.0) (λ y. y.0) (λ y. y.0) (λ y. y.0) (λ y. y.0) y

-- each of a list of nodes that tell their units
pub kept : {A B : Type 0} (P : B → Type 0) (about : A → B) (ys : List ((x : A) × P (about x))) → Each P (map about (map (λ (y : (x : A) × P (about x)). y.0) ys))
kept P about [] = tt
kept P about (y ∷ ys) = (y.1, kept P about ys)

kept_segments : (ys : List (Word × KeptArgs)) → Each SegmentTells (map about_segment (map (λ (y : Word × KeptArgs). (y.0, y.1.0)) ys))
kept_segments [] = tt
kept_segments (y ∷ ys) = (y.1.1, kept_segments ys)

-- from the facts about a node to the node
pub told : {A B : Type 0} (P : B → Type 0) (about : A → B) {x y : A} {f : B} → y ≡ x → about x ≡ f → P f → P (about y)
told P about same is k = subst (λ z. P (about z)) (sym same) (subst P (sym is) k)

abbrev types_of : List KeptType → List Ty
types_of ys = map (λ (y : KeptType). y.0) ys

abbrev params_of : List KeptParam → List FuncParam
params_of ys = map (λ (y : KeptParam). y.0) ys

abbrev bounds_of : List KeptBound → List Bound
bounds_of ys = map (λ (y : KeptBound). y.0) ys

abbrev args_of : List KeptArg → List Arg
args_of ys = map (λ (y : KeptArg). y.0) ys

arg_step : (y : Kept Arg-F) → ArgIs (views.roll-Arg (arg_layer y))
arg_step (Arg-F.Region l) = told NodeTells about_arg (views.rolls-Region l) (laws.arg_region_is l) (region_tells l)
arg_step (Arg-F.Plain x) = told NodeTells about_arg (views.rolls-Plain x.0) (laws.arg_plain_is x.0) (plain_tells (about_type x.0) x.1)
arg_step (Arg-F.Const value) = told NodeTells about_arg (views.rolls-Const value) (laws.arg_const_is value) (const_arg_tells value)
arg_step (Arg-F.Named name x c) =
    told NodeTells about_arg (views.rolls-Named name x.0 c.0) (laws.arg_named_is name x.0 c.0)
    (named_tells name (about_args x.0) (about_constraint c.0) x.1 c.1)

args_step : (y : Kept Args-F) → ArgsAre (views.roll-Args (args_layer y))
args_step Args-F.None = told ArgsTell about_args views.rolls-None laws.args_none_is no_args_tell
args_step (Args-F.Angle xs) =
    told ArgsTell about_args (views.rolls-Angle (args_of xs)) (laws.args_angle_is (args_of xs))
    (angle_told (map about_arg (args_of xs)) (kept NodeTells about_arg xs))
args_step (Args-F.Round xs None) =
    told ArgsTell about_args (views.rolls-Round (types_of xs) None) (laws.args_round_is (types_of xs) None)
    (round_args_tell (map about_type (types_of xs)) None (kept TypeTells about_type xs) tt)
args_step (Args-F.Round xs (Some x)) =
    told ArgsTell about_args (views.rolls-Round (types_of xs) (Some x.0)) (laws.args_round_is (types_of xs) (Some x.0))
    (round_args_tell (map about_type (types_of xs)) (Some (about_type x.0)) (kept TypeTells about_type xs) x.1)

bound_step : (y : Kept Bound-F) → BoundIs (views.roll-Bound (bound_layer y))
bound_step (Bound-F.Outlives l) = told NodeTells about_bound (views.rolls-Outlives l) (laws.bound_outlives_is l) (outlives_bound l)
bound_step (Bound-F.Meets parens maybe binder p) =
    told NodeTells about_bound (views.rolls-Meets parens maybe binder p.0) (laws.bound_meets_is parens maybe binder p.0)
    (meets_bound parens maybe binder (about_path p.0) p.1)
bound_step (Bound-F.Captures captured) = told NodeTells about_bound (views.rolls-Captures captured) (laws.bound_captures_is captured) (captures_bound captured)

constraint_step : (y : Kept Constraint-F) → ConstraintIs (views.roll-Constraint (constraint_layer y))
constraint_step (Constraint-F.Equal x) =
    told NodeTells about_constraint (views.rolls-Equal x.0) (laws.constraint_equal_is x.0) (equal_tells (about_type x.0) x.1)
constraint_step (Constraint-F.EqualConst value) =
    told NodeTells about_constraint (views.rolls-EqualConst value) (laws.constraint_equal_const_is value) (equal_const_tells value)
constraint_step (Constraint-F.Limit xs) =
    told NodeTells about_constraint (views.rolls-Limit (bounds_of xs)) (laws.constraint_limit_is (bounds_of xs))
    (limit_tells (map about_bound (bounds_of xs)) (kept NodeTells about_bound xs))

start_step : (y : Kept PathStart-F) → StartIs (views.roll-PathStart (start_layer y))
start_step PathStart-F.Local = told NodeTells about_start views.rolls-Local laws.start_local_is local_tells
start_step PathStart-F.Global = told NodeTells about_start views.rolls-Global laws.start_global_is global_tells
start_step (PathStart-F.Qualified x None) =
    told NodeTells about_start (views.rolls-Qualified x.0 None) (laws.start_qualified_is x.0 None) (qualified_tells (about_type x.0) None x.1 tt)
start_step (PathStart-F.Qualified x (Some p)) =
    told NodeTells about_start (views.rolls-Qualified x.0 (Some p.0)) (laws.start_qualified_is x.0 (Some p.0))
    (qualified_tells (about_type x.0) (Some (about_path p.0)) x.1 p.1)

type_step : (y : Kept Ty-F) → TypeIs (views.roll-Ty (type_layer y))
type_step (Ty-F.Path p) = told TypeTells about_type (views.rolls-Path p.0) (laws.type_path_is p.0) (path_type (about_path p.0) p.1)
type_step (Ty-F.Call call) = told TypeTells about_type (views.rolls-Call call) (laws.type_call_is call) (call_type call)
type_step (Ty-F.Paren x) = told TypeTells about_type (views.rolls-Paren x.0) (laws.type_paren_is x.0) (paren_type (about_type x.0) x.1)
type_step (Ty-F.Tuple xs) =
    told TypeTells about_type (views.rolls-Tuple (types_of xs)) (laws.type_tuple_is (types_of xs))
    (tuple_type (map about_type (types_of xs)) (kept TypeTells about_type xs))
type_step Ty-F.Never = told TypeTells about_type views.rolls-Never laws.type_never_is never_type
type_step Ty-F.Infer = told TypeTells about_type views.rolls-Infer laws.type_infer_is infer_type
type_step (Ty-F.Ptr mutable x) =
    told TypeTells about_type (views.rolls-Ptr mutable x.0) (laws.type_ptr_is mutable x.0) (pointer_type mutable (about_type x.0) x.1)
type_step (Ty-F.Ref lifetime mutable x) =
    told TypeTells about_type (views.rolls-Ref lifetime mutable x.0) (laws.type_ref_is lifetime mutable x.0)
    (reference_type lifetime mutable (about_type x.0) x.1)
type_step (Ty-F.Slice x) = told TypeTells about_type (views.rolls-Slice x.0) (laws.type_slice_is x.0) (slice_type (about_type x.0) x.1)
type_step (Ty-F.Array x length) =
    told TypeTells about_type (views.rolls-Array x.0 length) (laws.type_array_is x.0 length) (array_type (about_type x.0) length x.1)
type_step (Ty-F.Func binder is_unsafe abi ps variadic None) =
    told TypeTells about_type (views.rolls-Func binder is_unsafe abi (params_of ps) variadic None)
    (laws.type_func_is binder is_unsafe abi (params_of ps) variadic None) (func_type binder is_unsafe abi (map about_func_param (params_of ps)) variadic None
    (kept NodeTells about_func_param ps) tt)
type_step (Ty-F.Func binder is_unsafe abi ps variadic (Some x)) =
    told TypeTells about_type (views.rolls-Func binder is_unsafe abi (params_of ps) variadic (Some x.0))
    (laws.type_func_is binder is_unsafe abi (params_of ps) variadic (Some x.0))
    (func_type binder is_unsafe abi (map about_func_param (params_of ps)) variadic (Some (about_type x.0)) (kept NodeTells about_func_param ps) x.1)
type_step (Ty-F.Bounds dynamic xs) =
    told TypeTells about_type (views.rolls-Bounds dynamic (bounds_of xs)) (laws.type_bounds_is dynamic (bounds_of xs))
    (bounds_type dynamic (map about_bound (bounds_of xs)) (kept NodeTells about_bound xs))

param_from : (p : FuncParam) → TypeIs p.ty → ParamIs p
param_from p k = subst NodeTells (sym (laws.func_param_is p)) (func_param (record { attrs = p.attrs; name = p.name; ty = about_type p.ty }) k)

path_from : (p : Path) → StartIs p.start → Each SegmentTells (map about_segment p.segments) → PathIs p
path_from p k l = subst PathTells (sym (laws.path_is p)) (path_told (about_start p.start) (map about_segment p.segments) k l)

param_step : (y : Kept FuncParam-F) → ParamIs (views.roll-FuncParam (param_layer y))
param_step y = param_from _ y.ty.1

path_step : (y : Kept Path-F) → PathIs (views.roll-Path (path_layer y))
path_step y = path_from _ y.start.1 (kept_segments y.segments)

-- the same, of a layer that is this one
arg_rolled : (x : Layer Arg-F) (y : Kept Arg-F) → arg_layer y ≡ x → ArgIs (views.roll-Arg x)
arg_rolled x y is = subst (λ z. ArgIs (views.roll-Arg z)) is (arg_step y)

args_rolled : (x : Layer Args-F) (y : Kept Args-F) → args_layer y ≡ x → ArgsAre (views.roll-Args x)
args_rolled x y is = subst (λ z. ArgsAre (views.roll-Args z)) is (args_step y)

bound_rolled : (x : Layer Bound-F) (y : Kept Bound-F) → bound_layer y ≡ x → BoundIs (views.roll-Bound x)
bound_rolled x y is = subst (λ z. BoundIs (views.roll-Bound z)) is (bound_step y)

constraint_rolled : (x : Layer Constraint-F) (y : Kept Constraint-F) → constraint_layer y ≡ x → ConstraintIs (views.roll-Constraint x)
constraint_rolled x y is = subst (λ z. ConstraintIs (views.roll-Constraint z)) is (constraint_step y)

start_rolled : (x : Layer PathStart-F) (y : Kept PathStart-F) → start_layer y ≡ x → StartIs (views.roll-PathStart x)
start_rolled x y is = subst (λ z. StartIs (views.roll-PathStart z)) is (start_step y)

type_rolled : (x : Layer Ty-F) (y : Kept Ty-F) → type_layer y ≡ x → TypeIs (views.roll-Ty x)
type_rolled x y is = subst (λ z. TypeIs (views.roll-Ty z)) is (type_step y)

param_rolled : (x : Layer FuncParam-F) (y : Kept FuncParam-F) → param_layer y ≡ x → ParamIs (views.roll-FuncParam x)
param_rolled x y is = subst (λ z. ParamIs (views.roll-FuncParam z)) is (param_step y)

path_rolled : (x : Layer Path-F) (y : Kept Path-F) → path_layer y ≡ x → PathIs (views.roll-Path x)
path_rolled x y is = subst (λ z. PathIs (views.roll-Path z)) is (path_step y)

-- ---- and so each does

types_told : (x : Ty) → TypeIs x
types_told = type_fold.ind-Ty ArgIs ArgsAre BoundIs ConstraintIs StartIs TypeIs ParamIs PathIs
    arg_rolled args_rolled bound_rolled constraint_rolled start_rolled type_rolled param_rolled path_rolled

paths_told : (x : Path) → PathIs x
paths_told = type_fold.ind-Path ArgIs ArgsAre BoundIs ConstraintIs StartIs TypeIs ParamIs PathIs
    arg_rolled args_rolled bound_rolled constraint_rolled start_rolled type_rolled param_rolled path_rolled

args_told : (x : Arg) → ArgIs x
args_told = type_fold.ind-Arg ArgIs ArgsAre BoundIs ConstraintIs StartIs TypeIs ParamIs PathIs
    arg_rolled args_rolled bound_rolled constraint_rolled start_rolled type_rolled param_rolled path_rolled

pub bound_told : (x : Bound) → BoundIs x
bound_told = type_fold.ind-Bound ArgIs ArgsAre BoundIs ConstraintIs StartIs TypeIs ParamIs PathIs
    arg_rolled args_rolled bound_rolled constraint_rolled start_rolled type_rolled param_rolled path_rolled

pub type_tells : {Next : List units.Word → Type 0} (x : Ty) → (about_type x).told.good ≡ true → Tells Next (about_type x).told.form
type_tells x g = anywhere ((types_told x).go g)

pub type_tells_at : {Next : List units.Word → Type 0} (place : TypePlace) (x : Ty) → good_at place (about_type x) ≡ true → Tells Next (about_type x).told.form
type_tells_at Bounds x g = type_tells x g
type_tells_at NoBounds x g = type_tells x (and_parts (about_type x).told.good (not (about_type x).several) g).0

pub path_tells : {Next : List units.Word → Type 0} (s : PathStyle) (p : Path) → (about_path p s).good ≡ true → Tells Next (about_path p s).form
path_tells s p g = anywhere (((paths_told p).go s).go g)

pub angle_args_tell : {Next : List units.Word → Type 0} (args : List Arg) → all_good (map about_arg args) ≡ true → Tells Next (angle_form (map about_arg args))
angle_args_tell args g = angle_tells (map about_arg args) (each args) g
  where
    each : (xs : List Arg) → Each NodeTells (map about_arg xs)
    each [] = tt
    each (x ∷ xs) = (args_told x, each xs)
