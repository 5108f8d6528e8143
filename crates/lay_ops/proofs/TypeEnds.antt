-- What types lack at their ends, kind by kind.
use Rattle.std.proofs.Common.{◌≡◌, ◌-◌, Bool, true, false, List, [], ◌∷◌, length, map, Option, Some, None, option_map, refl, sym, ap, ◌∙◌}
use Rattle.std.specs.Prelude.{slice_get}
use Rattle.lay_node.specs.nodes.Types.{PathFacts, TypeFacts, about_args, about_bound, about_path, about_type, in_style, last_refuses, output_refuses, segments_refuse}
use Rattle.lay_node.specs.declared.token.Lifetime.{Lifetime}
use Rattle.lay_node.specs.declared.token.Word.{Word}
use Rattle.lay_node.specs.declared.types.Arg.{Arg}
use Rattle.lay_node.specs.declared.types.Arg.TheOpen.{Args-F, Bound-F, Ty-F}
use Rattle.lay_node.specs.declared.types.Arg.TheViews as views
use Rattle.lay_node.specs.declared.types.Args.{Args}
use Rattle.lay_node.specs.declared.types.Binder.{Binder}
use Rattle.lay_node.specs.declared.types.Bound.{Bound}
use Rattle.lay_node.specs.declared.types.Bound.TheVariants as bound
use Rattle.lay_node.specs.declared.types.Constraint.{Constraint}
use Rattle.lay_node.specs.declared.types.FuncParam.{FuncParam}
use Rattle.lay_node.specs.declared.types.Path.{Path}
use Rattle.lay_node.specs.declared.types.PathStart.{PathStart}
use Rattle.lay_node.specs.declared.types.PathStyle.{PathStyle}
use Rattle.lay_node.specs.declared.types.PathStyle.TheVariants.{Kind}
use Rattle.lay_node.specs.declared.types.Ty.{Ty}
use Rattle.lay_node.specs.declared.types.Ty.TheVariants as ty
use Rattle.lay_node.proofs.nodes.TypesLaws as laws
use Rattle.lay_code.specs.nodes.Exprs.{lacks_args}
use Rattle.lay_ops.proofs.Last.{last, last_is, no_last}

-- ---- the last of several

-- What a path refuses is what the arguments of its last segment refuse, and `::`.
segments_last : (style : PathStyle) (segments : List (Word × Args)) (s : Word × Args) → Some s ≡ last segments
    → (in_style style (about_args s.1)).refuses ≡ segments_refuse style (map laws.about_segment segments)
segments_last style [] s h = absurd (cc)
segments_last style (t ∷ []) s h = let e : s ≡ t = cc in ap (λ (u : Word × Args). (in_style style (about_args u.1)).refuses) e
segments_last style (t ∷ u ∷ more) s h = segments_last style (u ∷ more) s h

path_lacks : (style : PathStyle) (path : Path)
    → lacks_args (segments_refuse style (map laws.about_segment path.segments)) ≡ lacks_args (about_path path style).refuses
path_lacks style path = ap (λ (f : PathFacts). lacks_args (f style).refuses) (sym (laws.path_is path))

pub path_ends : (style : PathStyle) (path : Path) (segments : List (Word × Args)) (s : Word × Args)
    → segments ≡ path.segments → Some s ≡ slice_get segments (length segments - 1)
    → lacks_args (in_style style (about_args s.1)).refuses ≡ lacks_args (about_path path style).refuses
path_ends style path segments s e h =
    ap lacks_args (segments_last style segments s (h ∙ last_is segments))
    ∙ ap (λ xs. lacks_args (segments_refuse style (map laws.about_segment xs))) e ∙ path_lacks style path

pub no_path : (style : PathStyle) (path : Path) (segments : List (Word × Args))
    → segments ≡ path.segments → None ≡ slice_get segments (length segments - 1)
    → false ≡ lacks_args (about_path path style).refuses
no_path style path segments e h =
    ap (λ xs. lacks_args (segments_refuse style (map laws.about_segment xs)))
    (sym (no_last segments (h ∙ last_is segments)) ∙ e) ∙ path_lacks style path

-- What bounds refuse is what the last one refuses.
bounds_last : (bounds : List Bound) (b : Bound) → Some b ≡ last bounds
    → (about_bound b).refuses ≡ last_refuses (map about_bound bounds)
bounds_last [] b h = absurd (cc)
bounds_last (x ∷ []) b h = let e : b ≡ x = cc in ap (λ (y : Bound). (about_bound y).refuses) e
bounds_last (x ∷ y ∷ more) b h = bounds_last (y ∷ more) b h

bounds_lack : (dynamic : Bool) (bounds : List Bound)
    → lacks_args (last_refuses (map about_bound bounds)) ≡ lacks_args (about_type (ty.Bounds dynamic bounds)).told.refuses
bounds_lack dynamic bounds = ap (λ (x : TypeFacts). lacks_args x.told.refuses) (sym (laws.type_bounds_is dynamic bounds))

pub bounds_end : (x : Ty) (dynamic : Bool) (bounds slice : List Bound) (b : Bound) → x ≡ ty.Bounds dynamic bounds
    → slice ≡ bounds → Some b ≡ slice_get slice (length slice - 1)
    → lacks_args (about_bound b).refuses ≡ lacks_args (about_type x).told.refuses
bounds_end x dynamic bounds slice b is e h =
    ap lacks_args (bounds_last slice b (h ∙ last_is slice)) ∙ ap (λ xs. lacks_args (last_refuses (map about_bound xs))) e
    ∙ bounds_lack dynamic bounds ∙ ap (λ (y : Ty). lacks_args (about_type y).told.refuses) (sym is)

pub no_bounds : (x : Ty) (dynamic : Bool) (bounds slice : List Bound) → x ≡ ty.Bounds dynamic bounds
    → slice ≡ bounds → None ≡ slice_get slice (length slice - 1) → false ≡ lacks_args (about_type x).told.refuses
no_bounds x dynamic bounds slice is e h =
    ap (λ xs. lacks_args (last_refuses (map about_bound xs))) (sym (no_last slice (h ∙ last_is slice)) ∙ e)
    ∙ bounds_lack dynamic bounds ∙ ap (λ (y : Ty). lacks_args (about_type y).told.refuses) (sym is)

-- ---- arguments and bounds

abbrev args_lack_in : Args-F Arg Args Bound Constraint PathStart Ty FuncParam Path → Bool
args_lack_in Args-F.None = true
args_lack_in (Args-F.Angle xs) = false
args_lack_in (Args-F.Round inputs output) = lacks_args (output_refuses (option_map about_type output))

args_lack_by : (x : Args) → laws.ArgsView x → lacks_args (about_args x).kind.refuses ≡ args_lack_in (views.out-Args x)
args_lack_by _ laws.IsNone = rw (laws.args_none_is, views.outs-None) refl
args_lack_by _ (laws.IsAngle xs) = rw (laws.args_angle_is xs, views.outs-Angle xs) refl
args_lack_by _ (laws.IsRound inputs None) = rw (laws.args_round_is inputs None, views.outs-Round inputs None) refl
args_lack_by _ (laws.IsRound inputs (Some x)) = rw (laws.args_round_is inputs (Some x), views.outs-Round inputs (Some x)) refl

pub args_lack : (x : Args) → lacks_args (about_args x).kind.refuses ≡ args_lack_in (views.out-Args x)
args_lack x = args_lack_by x (laws.args_view x)

abbrev code_args_in : Args-F Arg Args Bound Constraint PathStart Ty FuncParam Path → Bool
code_args_in (Args-F.Round inputs output) = lacks_args (output_refuses (option_map about_type output))
code_args_in _ = false

code_args_by : (x : Args) → laws.ArgsView x → lacks_args (about_args x).code.refuses ≡ code_args_in (views.out-Args x)
code_args_by _ laws.IsNone = rw (laws.args_none_is, views.outs-None) refl
code_args_by _ (laws.IsAngle xs) = rw (laws.args_angle_is xs, views.outs-Angle xs) refl
code_args_by _ (laws.IsRound inputs None) = rw (laws.args_round_is inputs None, views.outs-Round inputs None) refl
code_args_by _ (laws.IsRound inputs (Some x)) = rw (laws.args_round_is inputs (Some x), views.outs-Round inputs (Some x)) refl

pub code_args : (x : Args) → lacks_args (about_args x).code.refuses ≡ code_args_in (views.out-Args x)
code_args x = code_args_by x (laws.args_view x)

abbrev bound_lacks_in : Bound-F Arg Args Bound Constraint PathStart Ty FuncParam Path → Bool
bound_lacks_in (Bound-F.Outlives l) = false
bound_lacks_in (Bound-F.Meets true maybe binder path) = false
bound_lacks_in (Bound-F.Meets false maybe binder path) = lacks_args (about_path path Kind).refuses
bound_lacks_in (Bound-F.Captures captured) = false

bound_lacks_by : (x : Bound) → laws.BoundView x → lacks_args (about_bound x).refuses ≡ bound_lacks_in (views.out-Bound x)
bound_lacks_by _ (laws.IsOutlives l) = rw (laws.bound_outlives_is l, views.outs-Outlives l) refl
bound_lacks_by _ (laws.IsMeets true maybe binder path) =
    rw (laws.bound_meets_is true maybe binder path, views.outs-Meets true maybe binder path) refl
bound_lacks_by _ (laws.IsMeets false maybe binder path) =
    rw (laws.bound_meets_is false maybe binder path, views.outs-Meets false maybe binder path) refl
bound_lacks_by _ (laws.IsCaptures captured) = rw (laws.bound_captures_is captured, views.outs-Captures captured) refl

pub bound_lacks : (x : Bound) → lacks_args (about_bound x).refuses ≡ bound_lacks_in (views.out-Bound x)
bound_lacks x = bound_lacks_by x (laws.bound_view x)

-- ---- types

abbrev type_lacks_in : Ty-F Arg Args Bound Constraint PathStart Ty FuncParam Path → Bool
type_lacks_in (Ty-F.Path path) = lacks_args (about_path path Kind).refuses
type_lacks_in (Ty-F.Ptr mutable x) = lacks_args (about_type x).told.refuses
type_lacks_in (Ty-F.Ref lifetime mutable x) = lacks_args (about_type x).told.refuses
type_lacks_in (Ty-F.Func binder is_unsafe abi params variadic output) = lacks_args (output_refuses (option_map about_type output))
type_lacks_in (Ty-F.Bounds dynamic bounds) = lacks_args (last_refuses (map about_bound bounds))
type_lacks_in _ = false

type_lacks_by : (x : Ty) → laws.TyView x → lacks_args (about_type x).told.refuses ≡ type_lacks_in (views.out-Ty x)
type_lacks_by _ (laws.IsPath path) = rw (laws.type_path_is path, views.outs-Path path) refl
type_lacks_by _ (laws.IsCall call) = rw (laws.type_call_is call, views.outs-Call call) refl
type_lacks_by _ (laws.IsParen x) = rw (laws.type_paren_is x, views.outs-Paren x) refl
type_lacks_by _ (laws.IsTuple xs) = rw (laws.type_tuple_is xs, views.outs-Tuple xs) refl
type_lacks_by _ laws.IsNever = rw (laws.type_never_is, views.outs-Never) refl
type_lacks_by _ laws.IsInfer = rw (laws.type_infer_is, views.outs-Infer) refl
type_lacks_by _ (laws.IsPtr mutable x) = rw (laws.type_ptr_is mutable x, views.outs-Ptr mutable x) refl
type_lacks_by _ (laws.IsRef lifetime mutable x) = rw (laws.type_ref_is lifetime mutable x, views.outs-Ref lifetime mutable x) refl
type_lacks_by _ (laws.IsSlice x) = rw (laws.type_slice_is x, views.outs-Slice x) refl
type_lacks_by _ (laws.IsArray x length) = rw (laws.type_array_is x length, views.outs-Array x length) refl
type_lacks_by _ (laws.IsFunc binder is_unsafe abi params variadic None) =
    rw (laws.type_func_is binder is_unsafe abi params variadic None, views.outs-Func binder is_unsafe abi params variadic None) refl
type_lacks_by _ (laws.IsFunc binder is_unsafe abi params variadic (Some x)) =
    rw (laws.type_func_is binder is_unsafe abi params variadic (Some x), views.outs-Func binder is_unsafe abi params variadic (Some x)) refl
type_lacks_by _ (laws.IsBounds dynamic bounds) = rw (laws.type_bounds_is dynamic bounds, views.outs-Bounds dynamic bounds) refl

pub type_lacks : (x : Ty) → lacks_args (about_type x).told.refuses ≡ type_lacks_in (views.out-Ty x)
type_lacks x = type_lacks_by x (laws.type_view x)

pub of_path : (x : Ty) (path : Path) → x ≡ ty.Path path
    → lacks_args (about_path path Kind).refuses ≡ lacks_args (about_type x).told.refuses
of_path x path is = rw (is, laws.type_path_is path) refl

pub of_pointer : (x : Ty) (mutable : Bool) (inner : Ty) → x ≡ ty.Ptr mutable inner
    → lacks_args (about_type inner).told.refuses ≡ lacks_args (about_type x).told.refuses
of_pointer x mutable inner is = rw (is, laws.type_ptr_is mutable inner) refl

pub of_reference : (x : Ty) (lifetime : Option Lifetime) (mutable : Bool) (inner : Ty) → x ≡ ty.Ref lifetime mutable inner
    → lacks_args (about_type inner).told.refuses ≡ lacks_args (about_type x).told.refuses
of_reference x lifetime mutable inner is = rw (is, laws.type_ref_is lifetime mutable inner) refl

pub of_bound : (x : Bound) (parens maybe : Bool) (binder : Option Binder) (path : Path)
    → x ≡ bound.Meets parens maybe binder path → parens ≡ false
    → lacks_args (about_path path Kind).refuses ≡ lacks_args (about_bound x).refuses
of_bound x parens maybe binder path is bare = rw (is, bare, laws.bound_meets_is false maybe binder path) refl

pub of_parens : (x : Bound) (parens maybe : Bool) (binder : Option Binder) (path : Path)
    → x ≡ bound.Meets parens maybe binder path → parens ≡ true → false ≡ lacks_args (about_bound x).refuses
of_parens x parens maybe binder path is round = rw (is, round, laws.bound_meets_is true maybe binder path) refl
