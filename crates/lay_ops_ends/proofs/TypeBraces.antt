-- Which types end in a `}`, kind by kind.
use Rattle.std.proofs.Common.{◌≡◌, ℕ, ◌-◌, not, Bool, true, false, List, [], ◌∷◌, ◌++◌, length, map, codes, Option, option_map, Some, None, refl, sym, ap, ◌∙◌}
use Rattle.std.specs.Prelude.{slice_get}
use Rattle.lay_piece.specs.declared.kind.Delim.{Delim}
use Rattle.lay_piece.specs.declared.kind.Delim.TheVariants.{Paren, Brace}
use Rattle.lay_form.specs.Form.{Bit, Blank, Operator, Form, Piece, Part, Done, keyword, opener, closer}
use Rattle.lay_form.specs.Notation.{B, comma_list, each, when}
use Rattle.lay_node.specs.Words.{leaf_of}
use Rattle.lay_node.specs.nodes.Call.{about_call, bang}
use Rattle.lay_node.specs.nodes.Facts.{Facts, forms}
use Rattle.lay_node.specs.nodes.SimplePath.{about_simple_path}
use Rattle.lay_node.specs.nodes.Types.{PathFacts, TypeFacts, about_arg, about_args, about_bound, about_func_param, about_path, about_start, about_type, abi_form, abi_name, binder_form, capture_form, dots, in_style, joined, less, greater, lifetime_param_form, meets_form, output_form, params_form, segments_form, type_forms}
use Rattle.lay_node.specs.tokens.Listing.{Grouping, NoMore, OneToken, OneGroup, in_groups}
use Rattle.lay_node.specs.tokens.Lists.{enclosed_form, ends_in_line, form_of_grouping}
use Rattle.lay_node.specs.tokens.Pairs.{at_start}
use Rattle.lay_node.specs.declared.token.Lifetime.{Lifetime}
use Rattle.lay_node.specs.declared.token.Literal.{Literal}
use Rattle.lay_node.specs.declared.token.Word.{Word}
use Rattle.lay_node.specs.declared.tokens.MacroCall.{MacroCall}
use Rattle.lay_node.specs.declared.types.Abi.{Abi}
use Rattle.lay_node.specs.declared.types.Arg.{Arg}
use Rattle.lay_node.specs.declared.types.Arg.TheOpen.{Args-F, Bound-F, Ty-F}
use Rattle.lay_node.specs.declared.types.Arg.TheViews as views
use Rattle.lay_node.specs.declared.types.Args.{Args}
use Rattle.lay_node.specs.declared.types.Binder.{Binder}
use Rattle.lay_node.specs.declared.types.Bound.{Bound}
use Rattle.lay_node.specs.declared.types.Bound.TheVariants as bound
use Rattle.lay_node.specs.declared.types.Constraint.{Constraint}
use Rattle.lay_node.specs.declared.types.FuncParam.{FuncParam}
use Rattle.lay_node.specs.declared.types.Path.{Path}
use Rattle.lay_node.specs.declared.types.PathStart.{PathStart}
use Rattle.lay_node.specs.declared.types.PathStyle.{PathStyle}
use Rattle.lay_node.specs.declared.types.PathStyle.TheVariants.{Kind}
use Rattle.lay_node.specs.declared.types.Ty.{Ty}
use Rattle.lay_node.specs.declared.types.Ty.TheVariants as ty
use Rattle.lay_node.proofs.nodes.TypesLaws as laws
use Rattle.lay_code.specs.nodes.Ends.{brace_bits, brace_behind, ends_in_brace}
use Rattle.lay_code.specs.nodes.Exprs.{is_brace}
use Rattle.lay_ops.proofs.Last.{last, last_is, no_last}

-- What stands before such a form doesn't count.
abbrev pub Ends : Form → Bool → Type 0
Ends f v = (before : Bool) → brace_behind before f ≡ v

-- ---- lists and groups

-- A list that no `}` closes doesn't end in one.
pub list_ends : (may : Bool) (opening closing : Bit) (xs : List Form) → ((b : Bool) → brace_bits b (opening ∷ closing ∷ []) ≡ false)
    → ((b : Bool) → brace_bits b (closing ∷ []) ≡ false) → Ends (comma_list may opening closing xs) false
list_ends may opening closing [] e f before = e before
list_ends true opening closing (x ∷ xs) e f before = f _
list_ends false opening closing (x ∷ xs) e f before = f _

enclosed_ends : (d : Delim) (line : Bool) (within : Grouping) (form : Form) → Ends (enclosed_form d within line form Done) (is_brace d)
enclosed_ends Brace line NoMore form before = refl
enclosed_ends _ line NoMore form before = refl
enclosed_ends Brace true (OneToken t r) form before = refl
enclosed_ends Brace false (OneToken t r) form before = refl
enclosed_ends _ true (OneToken t r) form before = refl
enclosed_ends _ false (OneToken t r) form before = refl
enclosed_ends Brace true (OneGroup d i r) form before = refl
enclosed_ends Brace false (OneGroup d i r) form before = refl
enclosed_ends _ true (OneGroup d i r) form before = refl
enclosed_ends _ false (OneGroup d i r) form before = refl

-- A macro call ends in a `}` where its group is one of braces.
pub call_ends : (call : MacroCall) → ends_in_brace (about_call call).form ≡ is_brace call.tokens.delim
call_ends call =
    let i = in_groups call.tokens.tokens in
    enclosed_ends call.tokens.delim (ends_in_line call.tokens.tokens) i (form_of_grouping (at_start 0) i)
    (brace_bits (brace_behind false (about_simple_path call.path).form) (bang call.tokens.delim))

when_ends : (there : Bool) (bits : List Bit) (f : Form) (v : Bool) → Ends f v → Ends (when there bits f) v
when_ends true bits f v e before = e _
when_ends false bits f v e before = e before

-- ---- paths

leaf_ends : (raw : Bool) (text : List ℕ) (before : Bool) (f : Form) → brace_behind false f ≡ brace_behind before (leaf_of raw text f)
leaf_ends true text before f = refl
leaf_ends false text before f = refl

-- Segments end in what the arguments of the last one end in.
segments_last : (style : PathStyle) (segments : List (Word × Args)) (s : Word × Args) (before : Bool) → Some s ≡ last segments
    → ends_in_brace (in_style style (about_args s.1)).form ≡ brace_behind before (segments_form style (map laws.about_segment segments))
segments_last style [] s before h = absurd (cc)
segments_last style (t ∷ []) s before h =
    let e : s ≡ t = cc in
    ap (λ (u : Word × Args). ends_in_brace (in_style style (about_args u.1)).form) e ∙ leaf_ends t.0.raw t.0.text before _
segments_last style (t ∷ u ∷ more) s before h = segments_last style (u ∷ more) s false h ∙ leaf_ends t.0.raw t.0.text before _

path_brace : (style : PathStyle) (path : Path)
    → brace_behind (ends_in_brace (about_start path.start).form) (segments_form style (map laws.about_segment path.segments))
    ≡ ends_in_brace (about_path path style).form
path_brace style path = ap (λ (f : PathFacts). ends_in_brace (f style).form) (sym (laws.path_is path))

pub path_ends : (style : PathStyle) (path : Path) (segments : List (Word × Args)) (s : Word × Args)
    → segments ≡ path.segments → Some s ≡ slice_get segments (length segments - 1)
    → ends_in_brace (in_style style (about_args s.1)).form ≡ ends_in_brace (about_path path style).form
path_ends style path segments s e h =
    let before = ends_in_brace (about_start path.start).form in
    segments_last style segments s before (h ∙ last_is segments)
    ∙ ap (λ xs. brace_behind before (segments_form style (map laws.about_segment xs))) e ∙ path_brace style path

start_ends : (x : PathStart) → laws.PathStartView x → false ≡ ends_in_brace (about_start x).form
start_ends _ laws.IsLocal = rw laws.start_local_is refl
start_ends _ laws.IsGlobal = rw laws.start_global_is refl
start_ends _ (laws.IsQualified inner None) = rw (laws.start_qualified_is inner None) refl
start_ends _ (laws.IsQualified inner (Some path)) = rw (laws.start_qualified_is inner (Some path)) refl

pub no_path : (style : PathStyle) (path : Path) (segments : List (Word × Args))
    → segments ≡ path.segments → None ≡ slice_get segments (length segments - 1)
    → false ≡ ends_in_brace (about_path path style).form
no_path style path segments e h =
    let before = ends_in_brace (about_start path.start).form in
    start_ends path.start (laws.start_view path.start)
    ∙ ap (λ xs. brace_behind before (segments_form style (map laws.about_segment xs)))
    (sym (no_last segments (h ∙ last_is segments)) ∙ e) ∙ path_brace style path

-- ---- arguments

-- a return type, if there is one
abbrev pub output_ends : Option Ty → Bool
output_ends None = false
output_ends (Some x) = ends_in_brace (about_type x).told.form

abbrev pub args_in : Args-F Arg Args Bound Constraint PathStart Ty FuncParam Path → Bool
args_in (Args-F.Round inputs output) = output_ends output
args_in _ = false

angled : (xs : List Form) → Ends (comma_list true less greater xs) false
angled xs = list_ends true less greater xs (λ b. refl) (λ b. refl)

rounded : (may : Bool) (xs : List Form) → Ends (comma_list may (opener Paren) (closer Paren) xs) false
rounded may xs = list_ends may (opener Paren) (closer Paren) xs (λ b. refl) (λ b. refl)

kind_by : (x : Args) → laws.ArgsView x → ends_in_brace (about_args x).kind.form ≡ args_in (views.out-Args x)
kind_by _ laws.IsNone = rw (laws.args_none_is, views.outs-None) refl
kind_by _ (laws.IsAngle xs) = rw (laws.args_angle_is xs, views.outs-Angle xs) (angled (forms (map about_arg xs)) false)
kind_by _ (laws.IsRound inputs None) =
    rw (laws.args_round_is inputs None, views.outs-Round inputs None) (rounded true (type_forms (map about_type inputs)) false)
kind_by _ (laws.IsRound inputs (Some x)) = rw (laws.args_round_is inputs (Some x), views.outs-Round inputs (Some x)) refl

pub kind_args : (x : Args) → ends_in_brace (about_args x).kind.form ≡ args_in (views.out-Args x)
kind_args x = kind_by x (laws.args_view x)

code_by : (x : Args) → laws.ArgsView x → ends_in_brace (about_args x).code.form ≡ args_in (views.out-Args x)
code_by _ laws.IsNone = rw (laws.args_none_is, views.outs-None) refl
code_by _ (laws.IsAngle xs) = rw (laws.args_angle_is xs, views.outs-Angle xs) (angled (forms (map about_arg xs)) false)
code_by _ (laws.IsRound inputs None) =
    rw (laws.args_round_is inputs None, views.outs-Round inputs None) (rounded true (type_forms (map about_type inputs)) false)
code_by _ (laws.IsRound inputs (Some x)) = rw (laws.args_round_is inputs (Some x), views.outs-Round inputs (Some x)) refl

pub code_args : (x : Args) → ends_in_brace (about_args x).code.form ≡ args_in (views.out-Args x)
code_args x = code_by x (laws.args_view x)

-- ---- bounds

abbrev pub bound_in : Bound-F Arg Args Bound Constraint PathStart Ty FuncParam Path → Bool
bound_in (Bound-F.Outlives l) = false
bound_in (Bound-F.Meets true maybe binder path) = false
bound_in (Bound-F.Meets false maybe binder path) = ends_in_brace (about_path path Kind).form
bound_in (Bound-F.Captures captured) = false

-- A path after a `?` and a binder ends as it does by itself.
meets_ends : (maybe : Bool) (binder : Option Binder) (path : Form) → ends_in_brace (meets_form maybe binder path) ≡ ends_in_brace path
meets_ends true None path = refl
meets_ends false None path = refl
meets_ends true (Some b) path = ap (λ c. brace_behind c path) (angled (map lifetime_param_form b.params) _)
meets_ends false (Some b) path = ap (λ c. brace_behind c path) (angled (map lifetime_param_form b.params) _)

bound_by : (x : Bound) → laws.BoundView x → ends_in_brace (about_bound x).form ≡ bound_in (views.out-Bound x)
bound_by _ (laws.IsOutlives l) = rw (laws.bound_outlives_is l, views.outs-Outlives l) refl
bound_by _ (laws.IsMeets true maybe binder path) =
    rw (laws.bound_meets_is true maybe binder path, views.outs-Meets true maybe binder path) refl
bound_by _ (laws.IsMeets false maybe binder path) =
    rw (laws.bound_meets_is false maybe binder path, views.outs-Meets false maybe binder path)
    (meets_ends maybe binder (about_path path Kind).form)
bound_by _ (laws.IsCaptures captured) =
    rw (laws.bound_captures_is captured, views.outs-Captures captured) (angled (map capture_form captured) false)

pub bound_is : (x : Bound) → ends_in_brace (about_bound x).form ≡ bound_in (views.out-Bound x)
bound_is x = bound_by x (laws.bound_view x)

-- what leads to each further bound
abbrev plus : Form → Form
plus f = B (Piece (Operator (codes "+") ∷ Blank ∷ []) f)

abbrev bounds_in : List Bound → Bool
bounds_in bounds = ends_in_brace (joined plus (forms (map about_bound bounds)))

-- Bounds end in what the last one ends in.
bounds_last : (x : Bound) (more : List Bound) (b : Bound) → Some b ≡ last (x ∷ more)
    → ends_in_brace (about_bound b).form ≡ ends_in_brace (Part (about_bound x).form (each plus (forms (map about_bound more))))
bounds_last x [] b h = let e : b ≡ x = cc in ap (λ (y : Bound). ends_in_brace (about_bound y).form) e
bounds_last x (y ∷ more) b h = bounds_last y more b h

bounds_end_in : (bounds : List Bound) (b : Bound) → Some b ≡ last bounds → ends_in_brace (about_bound b).form ≡ bounds_in bounds
bounds_end_in [] b h = absurd (cc)
bounds_end_in (x ∷ more) b h = bounds_last x more b h

bounds_brace : (dynamic : Bool) (bounds : List Bound) → bounds_in bounds ≡ ends_in_brace (about_type (ty.Bounds dynamic bounds)).told.form
bounds_brace true bounds = ap (λ (x : TypeFacts). ends_in_brace x.told.form) (sym (laws.type_bounds_is true bounds))
bounds_brace false bounds = ap (λ (x : TypeFacts). ends_in_brace x.told.form) (sym (laws.type_bounds_is false bounds))

pub bounds_end : (x : Ty) (dynamic : Bool) (bounds slice : List Bound) (b : Bound) → x ≡ ty.Bounds dynamic bounds
    → slice ≡ bounds → Some b ≡ slice_get slice (length slice - 1)
    → ends_in_brace (about_bound b).form ≡ ends_in_brace (about_type x).told.form
bounds_end x dynamic bounds slice b is e h =
    bounds_end_in slice b (h ∙ last_is slice) ∙ ap bounds_in e ∙ bounds_brace dynamic bounds
    ∙ ap (λ (y : Ty). ends_in_brace (about_type y).told.form) (sym is)

pub no_bounds : (x : Ty) (dynamic : Bool) (bounds slice : List Bound) → x ≡ ty.Bounds dynamic bounds
    → slice ≡ bounds → None ≡ slice_get slice (length slice - 1) → false ≡ ends_in_brace (about_type x).told.form
no_bounds x dynamic bounds slice is e h =
    ap bounds_in (sym (no_last slice (h ∙ last_is slice)) ∙ e) ∙ bounds_brace dynamic bounds
    ∙ ap (λ (y : Ty). ends_in_brace (about_type y).told.form) (sym is)

-- ---- types

binder_ends : (binder : Option Binder) (f : Form) (v : Bool) → Ends f v → Ends (binder_form binder f) v
binder_ends None f v e before = e before
binder_ends (Some b) f v e before = e _

name_ends : (name : Option Literal) (f : Form) (v : Bool) → Ends f v → Ends (abi_name name f) v
name_ends None f v e before = e before
name_ends (Some l) f v e before = e _

abi_ends : (abi : Option Abi) (f : Form) (v : Bool) → Ends f v → Ends (abi_form abi f) v
abi_ends None f v e before = e before
abi_ends (Some a) f v e before = name_ends a.name f v e _

func_ends : (params : List Facts) (variadic : Bool) (output : Option Ty)
    → Ends (Piece (keyword (codes "fn") ∷ []) (Part (params_form params variadic) (output_form (option_map about_type output)))) (output_ends output)
func_ends params variadic None before = rounded (not variadic) (forms params ++ dots variadic) _
func_ends params variadic (Some x) before = refl

-- the same after a binder, `unsafe` and an ABI
whole_ends : (binder : Option Binder) (is_unsafe : Bool) (abi : Option Abi) (params : List Facts) (variadic : Bool) (output : Option Ty)
    → Ends (binder_form binder (when is_unsafe (keyword (codes "unsafe") ∷ Blank ∷ []) (abi_form abi
    (Piece (keyword (codes "fn") ∷ []) (Part (params_form params variadic) (output_form (option_map about_type output))))))) (output_ends output)
whole_ends binder is_unsafe abi params variadic output =
    let v = output_ends output in
    let f : Form = Piece (keyword (codes "fn") ∷ []) (Part (params_form params variadic) (output_form (option_map about_type output))) in
    let g = abi_form abi f in
    let word = keyword (codes "unsafe") ∷ Blank ∷ [] in
    binder_ends binder (when is_unsafe word g) v
    (when_ends is_unsafe word g v (abi_ends abi f v (func_ends params variadic output)))

abbrev pub type_in : Ty-F Arg Args Bound Constraint PathStart Ty FuncParam Path → Bool
type_in (Ty-F.Path path) = ends_in_brace (about_path path Kind).form
type_in (Ty-F.Call call) = is_brace call.tokens.delim
type_in (Ty-F.Ptr mutable x) = ends_in_brace (about_type x).told.form
type_in (Ty-F.Ref lifetime mutable x) = ends_in_brace (about_type x).told.form
type_in (Ty-F.Func binder is_unsafe abi params variadic output) = output_ends output
type_in (Ty-F.Bounds dynamic bounds) = bounds_in bounds
type_in _ = false

type_by : (x : Ty) → laws.TyView x → ends_in_brace (about_type x).told.form ≡ type_in (views.out-Ty x)
type_by _ (laws.IsPath path) = rw (laws.type_path_is path, views.outs-Path path) refl
type_by _ (laws.IsCall call) = rw (laws.type_call_is call, views.outs-Call call) (call_ends call)
type_by _ (laws.IsParen x) = rw (laws.type_paren_is x, views.outs-Paren x) refl
type_by _ (laws.IsTuple []) = rw (laws.type_tuple_is [], views.outs-Tuple []) refl
type_by _ (laws.IsTuple (x ∷ [])) = rw (laws.type_tuple_is (x ∷ []), views.outs-Tuple (x ∷ [])) refl
type_by _ (laws.IsTuple (x ∷ y ∷ xs)) = rw (laws.type_tuple_is (x ∷ y ∷ xs), views.outs-Tuple (x ∷ y ∷ xs)) refl
type_by _ laws.IsNever = rw (laws.type_never_is, views.outs-Never) refl
type_by _ laws.IsInfer = rw (laws.type_infer_is, views.outs-Infer) refl
type_by _ (laws.IsPtr true x) = rw (laws.type_ptr_is true x, views.outs-Ptr true x) refl
type_by _ (laws.IsPtr false x) = rw (laws.type_ptr_is false x, views.outs-Ptr false x) refl
type_by _ (laws.IsRef None true x) = rw (laws.type_ref_is None true x, views.outs-Ref None true x) refl
type_by _ (laws.IsRef None false x) = rw (laws.type_ref_is None false x, views.outs-Ref None false x) refl
type_by _ (laws.IsRef (Some l) true x) = rw (laws.type_ref_is (Some l) true x, views.outs-Ref (Some l) true x) refl
type_by _ (laws.IsRef (Some l) false x) = rw (laws.type_ref_is (Some l) false x, views.outs-Ref (Some l) false x) refl
type_by _ (laws.IsSlice x) = rw (laws.type_slice_is x, views.outs-Slice x) refl
type_by _ (laws.IsArray x length) = rw (laws.type_array_is x length, views.outs-Array x length) refl
type_by _ (laws.IsFunc binder is_unsafe abi params variadic None) =
    rw (laws.type_func_is binder is_unsafe abi params variadic None, views.outs-Func binder is_unsafe abi params variadic None)
    (whole_ends binder is_unsafe abi (map about_func_param params) variadic None false)
type_by _ (laws.IsFunc binder is_unsafe abi params variadic (Some x)) =
    rw (laws.type_func_is binder is_unsafe abi params variadic (Some x), views.outs-Func binder is_unsafe abi params variadic (Some x))
    (whole_ends binder is_unsafe abi (map about_func_param params) variadic (Some x) false)
type_by _ (laws.IsBounds dynamic bounds) = rw (views.outs-Bounds dynamic bounds) (sym (bounds_brace dynamic bounds))

pub type_is : (x : Ty) → ends_in_brace (about_type x).told.form ≡ type_in (views.out-Ty x)
type_is x = type_by x (laws.type_view x)

pub of_path : (x : Ty) (path : Path) → x ≡ ty.Path path
    → ends_in_brace (about_path path Kind).form ≡ ends_in_brace (about_type x).told.form
of_path x path is = sym (type_is x ∙ ap type_in (ap views.out-Ty is ∙ views.outs-Path path))

pub of_call : (x : Ty) (call : MacroCall) → x ≡ ty.Call call
    → is_brace call.tokens.delim ≡ ends_in_brace (about_type x).told.form
of_call x call is = sym (type_is x ∙ ap type_in (ap views.out-Ty is ∙ views.outs-Call call))

pub of_pointer : (x : Ty) (mutable : Bool) (pointed : Ty) → x ≡ ty.Ptr mutable pointed
    → ends_in_brace (about_type pointed).told.form ≡ ends_in_brace (about_type x).told.form
of_pointer x mutable pointed is = sym (type_is x ∙ ap type_in (ap views.out-Ty is ∙ views.outs-Ptr mutable pointed))

pub of_reference : (x : Ty) (lifetime : Option Lifetime) (mutable : Bool) (pointed : Ty) → x ≡ ty.Ref lifetime mutable pointed
    → ends_in_brace (about_type pointed).told.form ≡ ends_in_brace (about_type x).told.form
of_reference x lifetime mutable pointed is =
    sym (type_is x ∙ ap type_in (ap views.out-Ty is ∙ views.outs-Ref lifetime mutable pointed))

pub of_bound : (x : Bound) (parens maybe : Bool) (binder : Option Binder) (path : Path)
    → x ≡ bound.Meets parens maybe binder path → parens ≡ false
    → ends_in_brace (about_path path Kind).form ≡ ends_in_brace (about_bound x).form
of_bound x parens maybe binder path is bare =
    rw (is, bare, laws.bound_meets_is false maybe binder path) (sym (meets_ends maybe binder (about_path path Kind).form))

pub of_parens : (x : Bound) (parens maybe : Bool) (binder : Option Binder) (path : Path)
    → x ≡ bound.Meets parens maybe binder path → parens ≡ true → false ≡ ends_in_brace (about_bound x).form
of_parens x parens maybe binder path is round = rw (is, round, laws.bound_meets_is true maybe binder path) refl
