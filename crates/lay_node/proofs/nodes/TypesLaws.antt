-- The facts about types, paths and what they are made of, kind by kind.
use Rattle.std.proofs.Common.{◌≡◌, Bool, List, map, Option, option_map, Some, None, sym, ap, ◌∙◌, subst}
use Rattle.lay_node.specs.nodes.Facts.{Facts}
use Rattle.lay_node.specs.nodes.Types.{TypeFacts, ArgsFacts, PathFacts, arg_facts, args_facts, bound_facts, constraint_facts, start_facts, ty_facts, func_param_facts, path_facts, about_type, about_path, about_start, about_args, about_arg, about_constraint, about_bound, about_func_param}
use Rattle.lay_node.specs.declared.token.Lifetime.{Lifetime}
use Rattle.lay_node.specs.declared.token.Listed.{Listed}
use Rattle.lay_node.specs.declared.token.Name.{Name}
use Rattle.lay_node.specs.declared.token.Word.{Word}
use Rattle.lay_node.specs.declared.tokens.MacroCall.{MacroCall}
use Rattle.lay_node.specs.declared.types.Abi.{Abi}
use Rattle.lay_node.specs.declared.types.Arg.{Arg}
use Rattle.lay_node.specs.declared.types.Arg.TheVariants as arg
use Rattle.lay_node.specs.declared.types.Args.{Args}
use Rattle.lay_node.specs.declared.types.Args.TheVariants as args
use Rattle.lay_node.specs.declared.types.Bound.{Bound}
use Rattle.lay_node.specs.declared.types.Bound.TheVariants as bound
use Rattle.lay_node.specs.declared.types.Capture.{Capture}
use Rattle.lay_node.specs.declared.types.Constraint.{Constraint}
use Rattle.lay_node.specs.declared.types.Constraint.TheVariants as constraint
use Rattle.lay_node.specs.declared.types.PathStart.{PathStart}
use Rattle.lay_node.specs.declared.types.PathStart.TheVariants as start
use Rattle.lay_node.specs.declared.types.Ty.{Ty}
use Rattle.lay_node.specs.declared.types.Ty.TheVariants as ty
use Rattle.lay_node.specs.declared.types.Binder.{Binder}
use Rattle.lay_node.specs.declared.types.ConstArg.{ConstArg}
use Rattle.lay_node.specs.declared.types.FuncParam.{FuncParam}
use Rattle.lay_node.specs.declared.types.Path.{Path}
use Rattle.lay_node.specs.declared.types.Arg.TheOpen.{Arg-F, Args-F, Bound-F, Constraint-F, PathStart-F, Ty-F}
use Rattle.lay_node.specs.declared.types.Arg.TheViews as views
use Rattle.lay_node.specs.declared.types.Arg.TheFolds.{fold-roll-Arg, fold-roll-Args, fold-roll-Bound, fold-roll-Constraint, fold-roll-PathStart, fold-roll-Ty, fold_out-FuncParam, fold_out-Path}

-- a word with the facts about its arguments
abbrev pub about_segment : Word × Args → Word × ArgsFacts
about_segment s = (s.0, about_args s.1)

-- ---- which kind it is

pub data TyView : Ty → Type 0 where
  IsPath : (path : Path) → TyView (ty.Path path)
  IsCall : (call : MacroCall) → TyView (ty.Call call)
  IsParen : (inner : Ty) → TyView (ty.Paren inner)
  IsTuple : (elements : List Ty) → TyView (ty.Tuple elements)
  IsNever : TyView ty.Never
  IsInfer : TyView ty.Infer
  IsPtr : (mutable : Bool) (inner : Ty) → TyView (ty.Ptr mutable inner)
  IsRef : (lifetime : Option Lifetime) (mutable : Bool) (inner : Ty) → TyView (ty.Ref lifetime mutable inner)
  IsSlice : (inner : Ty) → TyView (ty.Slice inner)
  IsArray : (inner : Ty) (length : List Listed) → TyView (ty.Array inner length)
  IsFunc : (binder : Option Binder) (is_unsafe : Bool) (abi : Option Abi) (params : List FuncParam) (variadic : Bool) (output : Option Ty) → TyView (ty.Func binder is_unsafe abi params variadic output)
  IsBounds : (dynamic : Bool) (bounds : List Bound) → TyView (ty.Bounds dynamic bounds)

pub data PathStartView : PathStart → Type 0 where
  IsLocal : PathStartView start.Local
  IsGlobal : PathStartView start.Global
  IsQualified : (inner : Ty) (of : Option Path) → PathStartView (start.Qualified inner of)

pub data ArgsView : Args → Type 0 where
  IsNone : ArgsView args.None
  IsAngle : (arguments : List Arg) → ArgsView (args.Angle arguments)
  IsRound : (inputs : List Ty) (output : Option Ty) → ArgsView (args.Round inputs output)

pub data ArgView : Arg → Type 0 where
  IsRegion : (lifetime : Lifetime) → ArgView (arg.Region lifetime)
  IsPlain : (inner : Ty) → ArgView (arg.Plain inner)
  IsConst : (value : ConstArg) → ArgView (arg.Const value)
  IsNamed : (name : Name) (arguments : Args) (asked : Constraint) → ArgView (arg.Named name arguments asked)

pub data ConstraintView : Constraint → Type 0 where
  IsEqual : (inner : Ty) → ConstraintView (constraint.Equal inner)
  IsEqualConst : (value : ConstArg) → ConstraintView (constraint.EqualConst value)
  IsLimit : (bounds : List Bound) → ConstraintView (constraint.Limit bounds)

pub data BoundView : Bound → Type 0 where
  IsOutlives : (lifetime : Lifetime) → BoundView (bound.Outlives lifetime)
  IsMeets : (parens : Bool) (maybe : Bool) (binder : Option Binder) (path : Path) → BoundView (bound.Meets parens maybe binder path)
  IsCaptures : (captured : List Capture) → BoundView (bound.Captures captured)

type_layer : (layer : Ty-F Arg Args Bound Constraint PathStart Ty FuncParam Path) → TyView (views.roll-Ty layer)
type_layer (Ty-F.Path path) = subst TyView (sym (views.rolls-Path path)) (IsPath path)
type_layer (Ty-F.Call call) = subst TyView (sym (views.rolls-Call call)) (IsCall call)
type_layer (Ty-F.Paren inner) = subst TyView (sym (views.rolls-Paren inner)) (IsParen inner)
type_layer (Ty-F.Tuple elements) = subst TyView (sym (views.rolls-Tuple elements)) (IsTuple elements)
type_layer Ty-F.Never = subst TyView (sym views.rolls-Never) IsNever
type_layer Ty-F.Infer = subst TyView (sym views.rolls-Infer) IsInfer
type_layer (Ty-F.Ptr mutable inner) = subst TyView (sym (views.rolls-Ptr mutable inner)) (IsPtr mutable inner)
type_layer (Ty-F.Ref lifetime mutable inner) = subst TyView (sym (views.rolls-Ref lifetime mutable inner)) (IsRef lifetime mutable inner)
type_layer (Ty-F.Slice inner) = subst TyView (sym (views.rolls-Slice inner)) (IsSlice inner)
type_layer (Ty-F.Array inner length) = subst TyView (sym (views.rolls-Array inner length)) (IsArray inner length)
type_layer (Ty-F.Func binder is_unsafe abi params variadic output) = subst TyView (sym (views.rolls-Func binder is_unsafe abi params variadic output)) (IsFunc binder is_unsafe abi params variadic output)
type_layer (Ty-F.Bounds dynamic bounds) = subst TyView (sym (views.rolls-Bounds dynamic bounds)) (IsBounds dynamic bounds)

start_layer : (layer : PathStart-F Arg Args Bound Constraint PathStart Ty FuncParam Path) → PathStartView (views.roll-PathStart layer)
start_layer PathStart-F.Local = subst PathStartView (sym views.rolls-Local) IsLocal
start_layer PathStart-F.Global = subst PathStartView (sym views.rolls-Global) IsGlobal
start_layer (PathStart-F.Qualified inner of) = subst PathStartView (sym (views.rolls-Qualified inner of)) (IsQualified inner of)

args_layer : (layer : Args-F Arg Args Bound Constraint PathStart Ty FuncParam Path) → ArgsView (views.roll-Args layer)
args_layer Args-F.None = subst ArgsView (sym views.rolls-None) IsNone
args_layer (Args-F.Angle arguments) = subst ArgsView (sym (views.rolls-Angle arguments)) (IsAngle arguments)
args_layer (Args-F.Round inputs output) = subst ArgsView (sym (views.rolls-Round inputs output)) (IsRound inputs output)

arg_layer : (layer : Arg-F Arg Args Bound Constraint PathStart Ty FuncParam Path) → ArgView (views.roll-Arg layer)
arg_layer (Arg-F.Region lifetime) = subst ArgView (sym (views.rolls-Region lifetime)) (IsRegion lifetime)
arg_layer (Arg-F.Plain inner) = subst ArgView (sym (views.rolls-Plain inner)) (IsPlain inner)
arg_layer (Arg-F.Const value) = subst ArgView (sym (views.rolls-Const value)) (IsConst value)
arg_layer (Arg-F.Named name arguments asked) = subst ArgView (sym (views.rolls-Named name arguments asked)) (IsNamed name arguments asked)

constraint_layer : (layer : Constraint-F Arg Args Bound Constraint PathStart Ty FuncParam Path) → ConstraintView (views.roll-Constraint layer)
constraint_layer (Constraint-F.Equal inner) = subst ConstraintView (sym (views.rolls-Equal inner)) (IsEqual inner)
constraint_layer (Constraint-F.EqualConst value) = subst ConstraintView (sym (views.rolls-EqualConst value)) (IsEqualConst value)
constraint_layer (Constraint-F.Limit bounds) = subst ConstraintView (sym (views.rolls-Limit bounds)) (IsLimit bounds)

bound_layer : (layer : Bound-F Arg Args Bound Constraint PathStart Ty FuncParam Path) → BoundView (views.roll-Bound layer)
bound_layer (Bound-F.Outlives lifetime) = subst BoundView (sym (views.rolls-Outlives lifetime)) (IsOutlives lifetime)
bound_layer (Bound-F.Meets parens maybe binder path) = subst BoundView (sym (views.rolls-Meets parens maybe binder path)) (IsMeets parens maybe binder path)
bound_layer (Bound-F.Captures captured) = subst BoundView (sym (views.rolls-Captures captured)) (IsCaptures captured)

pub type_view : (x : Ty) → TyView x
type_view x = subst TyView (views.roll-out-Ty x) (type_layer (views.out-Ty x))

pub start_view : (x : PathStart) → PathStartView x
start_view x = subst PathStartView (views.roll-out-PathStart x) (start_layer (views.out-PathStart x))

pub args_view : (x : Args) → ArgsView x
args_view x = subst ArgsView (views.roll-out-Args x) (args_layer (views.out-Args x))

pub arg_view : (x : Arg) → ArgView x
arg_view x = subst ArgView (views.roll-out-Arg x) (arg_layer (views.out-Arg x))

pub constraint_view : (x : Constraint) → ConstraintView x
constraint_view x = subst ConstraintView (views.roll-out-Constraint x) (constraint_layer (views.out-Constraint x))

pub bound_view : (x : Bound) → BoundView x
bound_view x = subst BoundView (views.roll-out-Bound x) (bound_layer (views.out-Bound x))

-- ---- the facts about it

pub type_path_is : (path : Path) → about_type (ty.Path path) ≡ ty_facts (Ty-F.Path (about_path path))
unfolding about_type about_path about_start about_args about_arg about_constraint about_bound about_func_param
type_path_is path =
    ap about_type (sym (views.rolls-Path path))
    ∙ fold-roll-Ty Facts ArgsFacts Facts Facts Facts TypeFacts Facts PathFacts
    arg_facts args_facts bound_facts constraint_facts start_facts ty_facts func_param_facts path_facts
    (Ty-F.Path path)

pub type_call_is : (call : MacroCall) → about_type (ty.Call call) ≡ ty_facts (Ty-F.Call call)
unfolding about_type about_path about_start about_args about_arg about_constraint about_bound about_func_param
type_call_is call =
    ap about_type (sym (views.rolls-Call call))
    ∙ fold-roll-Ty Facts ArgsFacts Facts Facts Facts TypeFacts Facts PathFacts
    arg_facts args_facts bound_facts constraint_facts start_facts ty_facts func_param_facts path_facts
    (Ty-F.Call call)

pub type_paren_is : (inner : Ty) → about_type (ty.Paren inner) ≡ ty_facts (Ty-F.Paren (about_type inner))
unfolding about_type about_path about_start about_args about_arg about_constraint about_bound about_func_param
type_paren_is inner =
    ap about_type (sym (views.rolls-Paren inner))
    ∙ fold-roll-Ty Facts ArgsFacts Facts Facts Facts TypeFacts Facts PathFacts
    arg_facts args_facts bound_facts constraint_facts start_facts ty_facts func_param_facts path_facts
    (Ty-F.Paren inner)

pub type_tuple_is : (elements : List Ty) → about_type (ty.Tuple elements) ≡ ty_facts (Ty-F.Tuple (map about_type elements))
unfolding about_type about_path about_start about_args about_arg about_constraint about_bound about_func_param
type_tuple_is elements =
    ap about_type (sym (views.rolls-Tuple elements))
    ∙ fold-roll-Ty Facts ArgsFacts Facts Facts Facts TypeFacts Facts PathFacts
    arg_facts args_facts bound_facts constraint_facts start_facts ty_facts func_param_facts path_facts
    (Ty-F.Tuple elements)

pub type_never_is : about_type ty.Never ≡ ty_facts Ty-F.Never
unfolding about_type about_path about_start about_args about_arg about_constraint about_bound about_func_param
type_never_is =
    ap about_type (sym views.rolls-Never)
    ∙ fold-roll-Ty Facts ArgsFacts Facts Facts Facts TypeFacts Facts PathFacts
    arg_facts args_facts bound_facts constraint_facts start_facts ty_facts func_param_facts path_facts
    Ty-F.Never

pub type_infer_is : about_type ty.Infer ≡ ty_facts Ty-F.Infer
unfolding about_type about_path about_start about_args about_arg about_constraint about_bound about_func_param
type_infer_is =
    ap about_type (sym views.rolls-Infer)
    ∙ fold-roll-Ty Facts ArgsFacts Facts Facts Facts TypeFacts Facts PathFacts
    arg_facts args_facts bound_facts constraint_facts start_facts ty_facts func_param_facts path_facts
    Ty-F.Infer

pub type_ptr_is : (mutable : Bool) (inner : Ty) → about_type (ty.Ptr mutable inner) ≡ ty_facts (Ty-F.Ptr mutable (about_type inner))
unfolding about_type about_path about_start about_args about_arg about_constraint about_bound about_func_param
type_ptr_is mutable inner =
    ap about_type (sym (views.rolls-Ptr mutable inner))
    ∙ fold-roll-Ty Facts ArgsFacts Facts Facts Facts TypeFacts Facts PathFacts
    arg_facts args_facts bound_facts constraint_facts start_facts ty_facts func_param_facts path_facts
    (Ty-F.Ptr mutable inner)

pub type_ref_is : (lifetime : Option Lifetime) (mutable : Bool) (inner : Ty) → about_type (ty.Ref lifetime mutable inner) ≡ ty_facts (Ty-F.Ref lifetime mutable (about_type inner))
unfolding about_type about_path about_start about_args about_arg about_constraint about_bound about_func_param
type_ref_is lifetime mutable inner =
    ap about_type (sym (views.rolls-Ref lifetime mutable inner))
    ∙ fold-roll-Ty Facts ArgsFacts Facts Facts Facts TypeFacts Facts PathFacts
    arg_facts args_facts bound_facts constraint_facts start_facts ty_facts func_param_facts path_facts
    (Ty-F.Ref lifetime mutable inner)

pub type_slice_is : (inner : Ty) → about_type (ty.Slice inner) ≡ ty_facts (Ty-F.Slice (about_type inner))
unfolding about_type about_path about_start about_args about_arg about_constraint about_bound about_func_param
type_slice_is inner =
    ap about_type (sym (views.rolls-Slice inner))
    ∙ fold-roll-Ty Facts ArgsFacts Facts Facts Facts TypeFacts Facts PathFacts
    arg_facts args_facts bound_facts constraint_facts start_facts ty_facts func_param_facts path_facts
    (Ty-F.Slice inner)

pub type_array_is : (inner : Ty) (length : List Listed) → about_type (ty.Array inner length) ≡ ty_facts (Ty-F.Array (about_type inner) length)
unfolding about_type about_path about_start about_args about_arg about_constraint about_bound about_func_param
type_array_is inner length =
    ap about_type (sym (views.rolls-Array inner length))
    ∙ fold-roll-Ty Facts ArgsFacts Facts Facts Facts TypeFacts Facts PathFacts
    arg_facts args_facts bound_facts constraint_facts start_facts ty_facts func_param_facts path_facts
    (Ty-F.Array inner length)

pub type_func_is : (binder : Option Binder) (is_unsafe : Bool) (abi : Option Abi) (params : List FuncParam) (variadic : Bool) (output : Option Ty) → about_type (ty.Func binder is_unsafe abi params variadic output) ≡ ty_facts (Ty-F.Func binder is_unsafe abi (map about_func_param params) variadic (option_map about_type output))
unfolding about_type about_path about_start about_args about_arg about_constraint about_bound about_func_param
type_func_is binder is_unsafe abi params variadic None =
    ap about_type (sym (views.rolls-Func binder is_unsafe abi params variadic None))
    ∙ fold-roll-Ty Facts ArgsFacts Facts Facts Facts TypeFacts Facts PathFacts
    arg_facts args_facts bound_facts constraint_facts start_facts ty_facts func_param_facts path_facts
    (Ty-F.Func binder is_unsafe abi params variadic None)
type_func_is binder is_unsafe abi params variadic (Some y) =
    ap about_type (sym (views.rolls-Func binder is_unsafe abi params variadic (Some y)))
    ∙ fold-roll-Ty Facts ArgsFacts Facts Facts Facts TypeFacts Facts PathFacts
    arg_facts args_facts bound_facts constraint_facts start_facts ty_facts func_param_facts path_facts
    (Ty-F.Func binder is_unsafe abi params variadic (Some y))

pub type_bounds_is : (dynamic : Bool) (bounds : List Bound) → about_type (ty.Bounds dynamic bounds) ≡ ty_facts (Ty-F.Bounds dynamic (map about_bound bounds))
unfolding about_type about_path about_start about_args about_arg about_constraint about_bound about_func_param
type_bounds_is dynamic bounds =
    ap about_type (sym (views.rolls-Bounds dynamic bounds))
    ∙ fold-roll-Ty Facts ArgsFacts Facts Facts Facts TypeFacts Facts PathFacts
    arg_facts args_facts bound_facts constraint_facts start_facts ty_facts func_param_facts path_facts
    (Ty-F.Bounds dynamic bounds)

pub start_local_is : about_start start.Local ≡ start_facts PathStart-F.Local
unfolding about_type about_path about_start about_args about_arg about_constraint about_bound about_func_param
start_local_is =
    ap about_start (sym views.rolls-Local)
    ∙ fold-roll-PathStart Facts ArgsFacts Facts Facts Facts TypeFacts Facts PathFacts
    arg_facts args_facts bound_facts constraint_facts start_facts ty_facts func_param_facts path_facts
    PathStart-F.Local

pub start_global_is : about_start start.Global ≡ start_facts PathStart-F.Global
unfolding about_type about_path about_start about_args about_arg about_constraint about_bound about_func_param
start_global_is =
    ap about_start (sym views.rolls-Global)
    ∙ fold-roll-PathStart Facts ArgsFacts Facts Facts Facts TypeFacts Facts PathFacts
    arg_facts args_facts bound_facts constraint_facts start_facts ty_facts func_param_facts path_facts
    PathStart-F.Global

pub start_qualified_is : (inner : Ty) (of : Option Path) → about_start (start.Qualified inner of) ≡ start_facts (PathStart-F.Qualified (about_type inner) (option_map about_path of))
unfolding about_type about_path about_start about_args about_arg about_constraint about_bound about_func_param
start_qualified_is inner None =
    ap about_start (sym (views.rolls-Qualified inner None))
    ∙ fold-roll-PathStart Facts ArgsFacts Facts Facts Facts TypeFacts Facts PathFacts
    arg_facts args_facts bound_facts constraint_facts start_facts ty_facts func_param_facts path_facts
    (PathStart-F.Qualified inner None)
start_qualified_is inner (Some y) =
    ap about_start (sym (views.rolls-Qualified inner (Some y)))
    ∙ fold-roll-PathStart Facts ArgsFacts Facts Facts Facts TypeFacts Facts PathFacts
    arg_facts args_facts bound_facts constraint_facts start_facts ty_facts func_param_facts path_facts
    (PathStart-F.Qualified inner (Some y))

pub args_none_is : about_args args.None ≡ args_facts Args-F.None
unfolding about_type about_path about_start about_args about_arg about_constraint about_bound about_func_param
args_none_is =
    ap about_args (sym views.rolls-None)
    ∙ fold-roll-Args Facts ArgsFacts Facts Facts Facts TypeFacts Facts PathFacts
    arg_facts args_facts bound_facts constraint_facts start_facts ty_facts func_param_facts path_facts
    Args-F.None

pub args_angle_is : (arguments : List Arg) → about_args (args.Angle arguments) ≡ args_facts (Args-F.Angle (map about_arg arguments))
unfolding about_type about_path about_start about_args about_arg about_constraint about_bound about_func_param
args_angle_is arguments =
    ap about_args (sym (views.rolls-Angle arguments))
    ∙ fold-roll-Args Facts ArgsFacts Facts Facts Facts TypeFacts Facts PathFacts
    arg_facts args_facts bound_facts constraint_facts start_facts ty_facts func_param_facts path_facts
    (Args-F.Angle arguments)

pub args_round_is : (inputs : List Ty) (output : Option Ty) → about_args (args.Round inputs output) ≡ args_facts (Args-F.Round (map about_type inputs) (option_map about_type output))
unfolding about_type about_path about_start about_args about_arg about_constraint about_bound about_func_param
args_round_is inputs None =
    ap about_args (sym (views.rolls-Round inputs None))
    ∙ fold-roll-Args Facts ArgsFacts Facts Facts Facts TypeFacts Facts PathFacts
    arg_facts args_facts bound_facts constraint_facts start_facts ty_facts func_param_facts path_facts
    (Args-F.Round inputs None)
args_round_is inputs (Some y) =
    ap about_args (sym (views.rolls-Round inputs (Some y)))
    ∙ fold-roll-Args Facts ArgsFacts Facts Facts Facts TypeFacts Facts PathFacts
    arg_facts args_facts bound_facts constraint_facts start_facts ty_facts func_param_facts path_facts
    (Args-F.Round inputs (Some y))

pub arg_region_is : (lifetime : Lifetime) → about_arg (arg.Region lifetime) ≡ arg_facts (Arg-F.Region lifetime)
unfolding about_type about_path about_start about_args about_arg about_constraint about_bound about_func_param
arg_region_is lifetime =
    ap about_arg (sym (views.rolls-Region lifetime))
    ∙ fold-roll-Arg Facts ArgsFacts Facts Facts Facts TypeFacts Facts PathFacts
    arg_facts args_facts bound_facts constraint_facts start_facts ty_facts func_param_facts path_facts
    (Arg-F.Region lifetime)

pub arg_plain_is : (inner : Ty) → about_arg (arg.Plain inner) ≡ arg_facts (Arg-F.Plain (about_type inner))
unfolding about_type about_path about_start about_args about_arg about_constraint about_bound about_func_param
arg_plain_is inner =
    ap about_arg (sym (views.rolls-Plain inner))
    ∙ fold-roll-Arg Facts ArgsFacts Facts Facts Facts TypeFacts Facts PathFacts
    arg_facts args_facts bound_facts constraint_facts start_facts ty_facts func_param_facts path_facts
    (Arg-F.Plain inner)

pub arg_const_is : (value : ConstArg) → about_arg (arg.Const value) ≡ arg_facts (Arg-F.Const value)
unfolding about_type about_path about_start about_args about_arg about_constraint about_bound about_func_param
arg_const_is value =
    ap about_arg (sym (views.rolls-Const value))
    ∙ fold-roll-Arg Facts ArgsFacts Facts Facts Facts TypeFacts Facts PathFacts
    arg_facts args_facts bound_facts constraint_facts start_facts ty_facts func_param_facts path_facts
    (Arg-F.Const value)

pub arg_named_is : (name : Name) (arguments : Args) (asked : Constraint) → about_arg (arg.Named name arguments asked) ≡ arg_facts (Arg-F.Named name (about_args arguments) (about_constraint asked))
unfolding about_type about_path about_start about_args about_arg about_constraint about_bound about_func_param
arg_named_is name arguments asked =
    ap about_arg (sym (views.rolls-Named name arguments asked))
    ∙ fold-roll-Arg Facts ArgsFacts Facts Facts Facts TypeFacts Facts PathFacts
    arg_facts args_facts bound_facts constraint_facts start_facts ty_facts func_param_facts path_facts
    (Arg-F.Named name arguments asked)

pub constraint_equal_is : (inner : Ty) → about_constraint (constraint.Equal inner) ≡ constraint_facts (Constraint-F.Equal (about_type inner))
unfolding about_type about_path about_start about_args about_arg about_constraint about_bound about_func_param
constraint_equal_is inner =
    ap about_constraint (sym (views.rolls-Equal inner))
    ∙ fold-roll-Constraint Facts ArgsFacts Facts Facts Facts TypeFacts Facts PathFacts
    arg_facts args_facts bound_facts constraint_facts start_facts ty_facts func_param_facts path_facts
    (Constraint-F.Equal inner)

pub constraint_equal_const_is : (value : ConstArg) → about_constraint (constraint.EqualConst value) ≡ constraint_facts (Constraint-F.EqualConst value)
unfolding about_type about_path about_start about_args about_arg about_constraint about_bound about_func_param
constraint_equal_const_is value =
    ap about_constraint (sym (views.rolls-EqualConst value))
    ∙ fold-roll-Constraint Facts ArgsFacts Facts Facts Facts TypeFacts Facts PathFacts
    arg_facts args_facts bound_facts constraint_facts start_facts ty_facts func_param_facts path_facts
    (Constraint-F.EqualConst value)

pub constraint_limit_is : (bounds : List Bound) → about_constraint (constraint.Limit bounds) ≡ constraint_facts (Constraint-F.Limit (map about_bound bounds))
unfolding about_type about_path about_start about_args about_arg about_constraint about_bound about_func_param
constraint_limit_is bounds =
    ap about_constraint (sym (views.rolls-Limit bounds))
    ∙ fold-roll-Constraint Facts ArgsFacts Facts Facts Facts TypeFacts Facts PathFacts
    arg_facts args_facts bound_facts constraint_facts start_facts ty_facts func_param_facts path_facts
    (Constraint-F.Limit bounds)

pub bound_outlives_is : (lifetime : Lifetime) → about_bound (bound.Outlives lifetime) ≡ bound_facts (Bound-F.Outlives lifetime)
unfolding about_type about_path about_start about_args about_arg about_constraint about_bound about_func_param
bound_outlives_is lifetime =
    ap about_bound (sym (views.rolls-Outlives lifetime))
    ∙ fold-roll-Bound Facts ArgsFacts Facts Facts Facts TypeFacts Facts PathFacts
    arg_facts args_facts bound_facts constraint_facts start_facts ty_facts func_param_facts path_facts
    (Bound-F.Outlives lifetime)

pub bound_meets_is : (parens : Bool) (maybe : Bool) (binder : Option Binder) (path : Path) → about_bound (bound.Meets parens maybe binder path) ≡ bound_facts (Bound-F.Meets parens maybe binder (about_path path))
unfolding about_type about_path about_start about_args about_arg about_constraint about_bound about_func_param
bound_meets_is parens maybe binder path =
    ap about_bound (sym (views.rolls-Meets parens maybe binder path))
    ∙ fold-roll-Bound Facts ArgsFacts Facts Facts Facts TypeFacts Facts PathFacts
    arg_facts args_facts bound_facts constraint_facts start_facts ty_facts func_param_facts path_facts
    (Bound-F.Meets parens maybe binder path)

pub bound_captures_is : (captured : List Capture) → about_bound (bound.Captures captured) ≡ bound_facts (Bound-F.Captures captured)
unfolding about_type about_path about_start about_args about_arg about_constraint about_bound about_func_param
bound_captures_is captured =
    ap about_bound (sym (views.rolls-Captures captured))
    ∙ fold-roll-Bound Facts ArgsFacts Facts Facts Facts TypeFacts Facts PathFacts
    arg_facts args_facts bound_facts constraint_facts start_facts ty_facts func_param_facts path_facts
    (Bound-F.Captures captured)

pub func_param_is : (p : FuncParam) → about_func_param p ≡ func_param_facts (record { attrs = p.attrs; name = p.name; ty = about_type p.ty })
unfolding about_type about_path about_start about_args about_arg about_constraint about_bound about_func_param
func_param_is p = fold_out-FuncParam Facts ArgsFacts Facts Facts Facts TypeFacts Facts PathFacts
    arg_facts args_facts bound_facts constraint_facts start_facts ty_facts func_param_facts path_facts p

pub path_is : (p : Path) → about_path p ≡ path_facts (record { start = about_start p.start; segments = map about_segment p.segments })
unfolding about_type about_path about_start about_args about_arg about_constraint about_bound about_func_param
path_is p = fold_out-Path Facts ArgsFacts Facts Facts Facts TypeFacts Facts PathFacts
    arg_facts args_facts bound_facts constraint_facts start_facts ty_facts func_param_facts path_facts p
