-- What types need, and the paths, generic arguments and bounds that they are made of.
use Rattle.std.proofs.Common.{◌≡◌, ◌∙◌, ◌⊎◌, inl, inr, ◌+◌, max, Bool, true, false, not, List, [], ◌∷◌, ◌++◌, map, codes, Option, Some, None, option_map, ap, refl, arith}
use Rattle.lay_piece.specs.declared.kind.Delim.TheVariants.{Brace, Paren}
use Rattle.lay_form.specs.Depth.{least_depth}
use Rattle.lay_form.specs.Form.{Bit, Blank, Operator, Form, Done, Piece, Part, keyword, opener, closer}
use Rattle.lay_form.specs.Notation.{B, when}
use Rattle.lay_node.specs.nodes.Facts.{Facts, forms}
use Rattle.lay_node.specs.nodes.Types.{TypeFacts, ArgsFacts, abi_form, abi_name, about_arg, about_args, about_bound, about_constraint, about_func_param, about_path, about_start, about_type, binder_form, bounds_form, capture_form, const_form, dots, given_form, greater, less, lifetime_form, lifetime_param_form, lifetimes_form, meets_form, outlived_form, output_form, param_name, params_form, ref_lifetime, tuple_form, type_forms}
use Rattle.lay_node.specs.declared.token.GivenName.{GivenName}
use Rattle.lay_node.specs.declared.token.GivenName.TheVariants as given
use Rattle.lay_node.specs.declared.token.Lifetime.{Lifetime}
use Rattle.lay_node.specs.declared.token.Listed.{Listed}
use Rattle.lay_node.specs.declared.token.Literal.{Literal}
use Rattle.lay_node.specs.declared.token.Name.{Name}
use Rattle.lay_node.specs.declared.tokens.MacroCall.{MacroCall}
use Rattle.lay_node.specs.declared.types.Abi.{Abi}
use Rattle.lay_node.specs.declared.types.Arg.{Arg}
use Rattle.lay_node.specs.declared.types.Arg.TheVariants as arg
use Rattle.lay_node.specs.declared.types.Args.{Args}
use Rattle.lay_node.specs.declared.types.Args.TheVariants as args
use Rattle.lay_node.specs.declared.types.Binder.{Binder}
use Rattle.lay_node.specs.declared.types.Bound.{Bound}
use Rattle.lay_node.specs.declared.types.Bound.TheVariants as bound
use Rattle.lay_node.specs.declared.types.Capture.{Capture}
use Rattle.lay_node.specs.declared.types.Capture.TheVariants as capture
use Rattle.lay_node.specs.declared.types.ConstArg.{ConstArg}
use Rattle.lay_node.specs.declared.types.ConstArg.TheVariants as const_arg
use Rattle.lay_node.specs.declared.types.Constraint.{Constraint}
use Rattle.lay_node.specs.declared.types.Constraint.TheVariants as constraint
use Rattle.lay_node.specs.declared.types.FuncParam.{FuncParam}
use Rattle.lay_node.specs.declared.types.LifetimeParam.{LifetimeParam}
use Rattle.lay_node.specs.declared.types.Path.{Path}
use Rattle.lay_node.specs.declared.types.PathStart.{PathStart}
use Rattle.lay_node.specs.declared.types.PathStart.TheVariants as start
use Rattle.lay_node.specs.declared.types.PathStyle.TheVariants.{Kind}
use Rattle.lay_node.specs.declared.types.Ty.{Ty}
use Rattle.lay_node.specs.declared.types.Ty.TheVariants as ty
use Rattle.lay_node.proofs.nodes.TypesLaws as laws
use Rattle.lay_node.proofs.nodes.TypesLaws.{about_segment}
use Rattle.lay_depth.specs.nodes.Depths.{counted, greatest}
use Rattle.lay_depth.proofs.nodes_lemmas.Forms.{both_are, call_is, group_is, joined_is, leaf_is, list_is, param_attrs_are, tokens_are, when_is}

-- ---- parts with no types within them

lifetimes_are : (ls : List Lifetime) → greatest (map lifetime_form ls) ≡ 0
lifetimes_are [] = refl
lifetimes_are (l ∷ ls) = let m = lifetimes_are ls in omega (arith, m)

abbrev and : Form → Form
and f = Piece (Blank ∷ Operator (codes "+") ∷ Blank ∷ []) f

pub lifetimes_form_is : (ls : List Lifetime) → least_depth (lifetimes_form ls) ≡ 0
lifetimes_form_is ls = joined_is and (λ f. refl) (map lifetime_form ls) ∙ lifetimes_are ls

pub outlived_is : (ls : List Lifetime) → least_depth (outlived_form ls) ≡ 0
outlived_is [] = refl
outlived_is (l ∷ ls) = lifetimes_form_is (l ∷ ls)

pub lifetime_param_is : (p : LifetimeParam) → least_depth (lifetime_param_form p) ≡ 0
lifetime_param_is p =
    let m = param_attrs_are p.attrs (Part (lifetime_form p.lifetime) (outlived_form p.bounds)) in
    let n = outlived_is p.bounds in omega (arith, m, n)

lifetime_params_are : (ps : List LifetimeParam) → greatest (map lifetime_param_form ps) ≡ 0
lifetime_params_are [] = refl
lifetime_params_are (p ∷ ps) = let m = lifetime_param_is p in let n = lifetime_params_are ps in omega (arith, m, n)

pub binder_is : (binder : Option Binder) (f : Form) → least_depth (binder_form binder f) ≡ least_depth f
binder_is None f = refl
binder_is (Some b) f =
    let m = list_is true less greater (map lifetime_param_form b.params) in
    let n = lifetime_params_are b.params in omega (arith, m, n)

capture_is : (c : Capture) → least_depth (capture_form c) ≡ 0
capture_is (capture.Region l) = refl
capture_is (capture.Word w) = leaf_is w.raw w.text Done

captures_are : (cs : List Capture) → greatest (map capture_form cs) ≡ 0
captures_are [] = refl
captures_are (c ∷ cs) = let m = capture_is c in let n = captures_are cs in omega (arith, m, n)

pub abi_is : (abi : Option Abi) (f : Form) → least_depth (abi_form abi f) ≡ least_depth f
abi_is None f = refl
abi_is (Some a) f = by a.name
  where
    by : (name : Option Literal) → least_depth (abi_name name f) ≡ least_depth f
    by None = refl
    by (Some l) = refl

pub const_is : (value : ConstArg) → least_depth (const_form value) ≡ 0
const_is (const_arg.Literal l) = refl
const_is (const_arg.Negative l) = refl
const_is (const_arg.Braces tokens) = group_is (record { delim = Brace; tokens = tokens }) Done

pub ref_lifetime_is : (lifetime : Option Lifetime) (f : Form) → least_depth (ref_lifetime lifetime f) ≡ least_depth f
ref_lifetime_is None f = refl
ref_lifetime_is (Some l) f = omega arith

pub given_is : (name : GivenName) (f : Form) → least_depth (given_form name f) ≡ least_depth f
given_is (given.Name name) f = leaf_is name.raw name.text f
given_is given.Underscore f = refl

param_name_is : (name : Option GivenName) (f : Form) → least_depth (param_name name f) ≡ least_depth f
param_name_is None f = refl
param_name_is (Some name) f = given_is name _

-- ---- types

abbrev pub told_form : Ty → Form
told_form x = (about_type x).told.form

pub type_forms_are : (xs : List Ty) → map told_form xs ≡ type_forms (map about_type xs)
type_forms_are [] = refl
type_forms_are (x ∷ xs) = ap (λ (es : List Form). told_form x ∷ es) (type_forms_are xs)

abbrev mut_word : List Bit
mut_word = keyword (codes "mut") ∷ Blank ∷ []

abbrev unsafe_word : List Bit
unsafe_word = keyword (codes "unsafe") ∷ Blank ∷ []

abbrev fn_word : List Bit
fn_word = keyword (codes "fn") ∷ []

abbrev plus : Form → Form
plus f = B (Piece (Operator (codes "+") ∷ Blank ∷ []) f)

by_variant : {x y : Ty} {facts : TypeFacts} → x ≡ y → about_type y ≡ facts → least_depth (about_type x).told.form ≡ least_depth facts.told.form
by_variant is law =
    ap (λ (x : Ty). least_depth (about_type x).told.form) is ∙ ap (λ (f : TypeFacts). least_depth f.told.form) law

pub path_type : (x : Ty) (path : Path) → x ≡ ty.Path path
    → least_depth (about_type x).told.form ≡ least_depth (about_path path Kind).form + 1
path_type x path is = by_variant is (laws.type_path_is path) ∙ omega arith

pub call_type : (x : Ty) (call : MacroCall) → x ≡ ty.Call call → least_depth (about_type x).told.form ≡ 1
call_type x call is = by_variant is (laws.type_call_is call) ∙ (let m = call_is call in omega (arith, m))

pub never_type : (x : Ty) → x ≡ ty.Never → least_depth (about_type x).told.form ≡ 1
never_type x is = by_variant is laws.type_never_is

pub infer_type : (x : Ty) → x ≡ ty.Infer → least_depth (about_type x).told.form ≡ 1
infer_type x is = by_variant is laws.type_infer_is

pub paren_type : (x inner : Ty) → x ≡ ty.Paren inner
    → least_depth (about_type x).told.form ≡ least_depth (about_type inner).told.form + 1
paren_type x inner is = by_variant is (laws.type_paren_is inner) ∙ omega arith

pub pointer_type : (x : Ty) (mutable : Bool) (inner : Ty) → x ≡ ty.Ptr mutable inner
    → least_depth (about_type x).told.form ≡ least_depth (about_type inner).told.form + 1
pointer_type x mutable inner is = by_variant is (laws.type_ptr_is mutable inner) ∙ omega arith

pub reference_type : (x : Ty) (lifetime : Option Lifetime) (mutable : Bool) (inner : Ty) → x ≡ ty.Ref lifetime mutable inner
    → least_depth (about_type x).told.form ≡ least_depth (about_type inner).told.form + 1
reference_type x lifetime mutable inner is =
    let within = Part (about_type inner).told.form Done in
    let m = ref_lifetime_is lifetime (when mutable mut_word within) in
    let n = when_is mutable mut_word within in
    by_variant is (laws.type_ref_is lifetime mutable inner) ∙ omega (arith, m, n)

pub slice_type : (x inner : Ty) → x ≡ ty.Slice inner
    → least_depth (about_type x).told.form ≡ least_depth (about_type inner).told.form + 1
slice_type x inner is = by_variant is (laws.type_slice_is inner) ∙ omega arith

pub array_type : (x inner : Ty) (length : List Listed) → x ≡ ty.Array inner length
    → least_depth (about_type x).told.form ≡ least_depth (about_type inner).told.form + 1
array_type x inner length is =
    by_variant is (laws.type_array_is inner length) ∙ (let m = tokens_are length in omega (arith, m))

tuple_is : (xs : List TypeFacts) → least_depth (tuple_form xs) ≡ greatest (type_forms xs)
tuple_is [] = refl
tuple_is (x ∷ []) = omega arith
tuple_is (x ∷ y ∷ xs) = list_is true (opener Paren) (closer Paren) (type_forms (x ∷ y ∷ xs))

pub tuple_type : (x : Ty) (elements : List Ty) → x ≡ ty.Tuple elements
    → least_depth (about_type x).told.form ≡ greatest (type_forms (map about_type elements)) + 1
tuple_type x elements is =
    by_variant is (laws.type_tuple_is elements) ∙ (let m = tuple_is (map about_type elements) in omega (arith, m))

params_are : (params : List Facts) (variadic : Bool) → least_depth (params_form params variadic) ≡ greatest (forms params)
params_are params variadic =
    list_is (not variadic) (opener Paren) (closer Paren) (forms params ++ dots variadic) ∙ both_are (forms params) (dots variadic)
    ∙ by variadic
  where
    by : (b : Bool) → max (greatest (forms params)) (greatest (dots b)) ≡ greatest (forms params)
    by true = omega arith
    by false = omega arith

pub function_type : (x : Ty) (binder : Option Binder) (is_unsafe : Bool) (abi : Option Abi) (params : List FuncParam) (variadic : Bool)
    (output : Option Ty) → x ≡ ty.Func binder is_unsafe abi params variadic output
    → least_depth (about_type x).told.form
    ≡ max (greatest (forms (map about_func_param params))) (least_depth (output_form (option_map about_type output))) + 1
function_type x binder is_unsafe abi params variadic output is =
    let told = map about_func_param params in
    let within = Part (params_form told variadic) (output_form (option_map about_type output)) in
    let called = Piece fn_word within in
    let m = binder_is binder (when is_unsafe unsafe_word (abi_form abi called)) in
    let n = when_is is_unsafe unsafe_word (abi_form abi called) in
    let o = abi_is abi called in
    let p = params_are told variadic in
    by_variant is (laws.type_func_is binder is_unsafe abi params variadic output) ∙ omega (arith, m, n, o, p)

pub bounds_are : (bounds : List Facts) → least_depth (bounds_form bounds) ≡ greatest (forms bounds)
bounds_are bounds = let m = joined_is plus (λ f. refl) (forms bounds) in omega (arith, m)

pub bounds_type : (x : Ty) (dynamic : Bool) (bounds : List Bound) → x ≡ ty.Bounds dynamic bounds
    → least_depth (about_type x).told.form ≡ greatest (forms (map about_bound bounds)) + 1
bounds_type x dynamic bounds is =
    by_variant is (laws.type_bounds_is dynamic bounds) ∙ (let m = bounds_are (map about_bound bounds) in omega (arith, m))

pub param_is : (p : FuncParam) → least_depth (about_func_param p).form ≡ least_depth (about_type p.ty).told.form
param_is p =
    let within = Part (about_type p.ty).told.form Done in
    let m = param_attrs_are p.attrs (param_name p.name within) in
    let n = param_name_is p.name within in
    ap (λ (f : Facts). least_depth f.form) (laws.func_param_is p) ∙ omega (arith, m, n)

-- the type of a parameter
abbrev pub param_type : FuncParam → Form
param_type p = told_form p.ty

pub param_types_are : (ps : List FuncParam) → greatest (map param_type ps) ≡ greatest (forms (map about_func_param ps))
param_types_are [] = refl
param_types_are (p ∷ ps) = let m = param_is p in let n = param_types_are ps in omega (arith, m, n)

-- a type of one type
pub inner_type : (x inner : Ty) → (x ≡ ty.Paren inner) ⊎ (((mutable : Bool) × (x ≡ ty.Ptr mutable inner))
    ⊎ (((lifetime : Option Lifetime) × (mutable : Bool) × (x ≡ ty.Ref lifetime mutable inner)) ⊎ ((x ≡ ty.Slice inner)
    ⊎ ((length : List Listed) × (x ≡ ty.Array inner length)))))
    → least_depth (about_type x).told.form ≡ least_depth (about_type inner).told.form + 1
inner_type x inner (inl is) = paren_type x inner is
inner_type x inner (inr (inl p)) = pointer_type x p.0 inner p.1
inner_type x inner (inr (inr (inl r))) = reference_type x r.0 r.1 inner r.2
inner_type x inner (inr (inr (inr (inl is)))) = slice_type x inner is
inner_type x inner (inr (inr (inr (inr a)))) = array_type x inner a.0 a.1

pub some_output : (x : Option Ty) (one : Ty) → x ≡ Some one
    → least_depth (output_form (option_map about_type x)) ≡ least_depth (about_type one).told.form
some_output x one is = rw is (omega arith)

pub no_output : (x : Option Ty) → x ≡ None → least_depth (output_form (option_map about_type x)) ≡ 0
no_output x is = rw is refl

-- a type with no part that is counted
pub leaf_type : (x : Ty) → ((call : MacroCall) × (x ≡ ty.Call call)) ⊎ ((x ≡ ty.Never) ⊎ (x ≡ ty.Infer))
    → 1 ≡ counted (least_depth (about_type x).told.form)
leaf_type x (inl call) = let m = call_type x call.0 call.1 in omega (arith, m)
leaf_type x (inr (inl is)) = let m = never_type x is in omega (arith, m)
leaf_type x (inr (inr is)) = let m = infer_type x is in omega (arith, m)

-- ---- what paths begin with

by_start : {x y : PathStart} {facts : Facts} → x ≡ y → about_start y ≡ facts → least_depth (about_start x).form ≡ least_depth facts.form
by_start is law = ap (λ (x : PathStart). least_depth (about_start x).form) is ∙ ap (λ (f : Facts). least_depth f.form) law

pub local_start : (x : PathStart) → x ≡ start.Local → least_depth (about_start x).form ≡ 0
local_start x is = by_start is laws.start_local_is

pub global_start : (x : PathStart) → x ≡ start.Global → least_depth (about_start x).form ≡ 0
global_start x is = by_start is laws.start_global_is

pub leaf_start : (x : PathStart) → (x ≡ start.Local) ⊎ (x ≡ start.Global) → 0 ≡ counted (least_depth (about_start x).form)
leaf_start x (inl is) = let m = local_start x is in omega (arith, m)
leaf_start x (inr is) = let m = global_start x is in omega (arith, m)

pub bare_start : (x : PathStart) (inner : Ty) (of : Option Path) → x ≡ start.Qualified inner of → of ≡ None
    → least_depth (about_start x).form ≡ least_depth (about_type inner).told.form
bare_start x inner of is none =
    by_start (is ∙ ap (start.Qualified inner) none) (laws.start_qualified_is inner None) ∙ omega arith

pub taken_start : (x : PathStart) (inner : Ty) (of : Option Path) (path : Path) → x ≡ start.Qualified inner of → of ≡ Some path
    → least_depth (about_start x).form ≡ max (least_depth (about_type inner).told.form) (least_depth (about_path path Kind).form + 1)
taken_start x inner of path is some =
    by_start (is ∙ ap (start.Qualified inner) some) (laws.start_qualified_is inner (Some path)) ∙ omega arith

-- ---- generic arguments and bounds

by_args : {x y : Args} {facts : ArgsFacts} → x ≡ y → about_args y ≡ facts
    → least_depth (about_args x).kind.form ≡ least_depth facts.kind.form
by_args is law = ap (λ (x : Args). least_depth (about_args x).kind.form) is ∙ ap (λ (f : ArgsFacts). least_depth f.kind.form) law

pub no_args : (x : Args) → x ≡ args.None → least_depth (about_args x).kind.form ≡ 0
no_args x is = by_args is laws.args_none_is

pub angle_args : (x : Args) (arguments : List Arg) → x ≡ args.Angle arguments
    → least_depth (about_args x).kind.form ≡ greatest (forms (map about_arg arguments))
angle_args x arguments is =
    by_args is (laws.args_angle_is arguments) ∙ list_is true less greater (forms (map about_arg arguments))

pub round_args : (x : Args) (inputs : List Ty) (output : Option Ty) → x ≡ args.Round inputs output
    → least_depth (about_args x).kind.form
    ≡ max (greatest (type_forms (map about_type inputs))) (least_depth (output_form (option_map about_type output)))
round_args x inputs output is =
    by_args is (laws.args_round_is inputs output)
    ∙ (let m = list_is true (opener Paren) (closer Paren) (type_forms (map about_type inputs)) in omega (arith, m))

by_arg : {x y : Arg} {facts : Facts} → x ≡ y → about_arg y ≡ facts → least_depth (about_arg x).form ≡ least_depth facts.form
by_arg is law = ap (λ (x : Arg). least_depth (about_arg x).form) is ∙ ap (λ (f : Facts). least_depth f.form) law

pub region_arg : (x : Arg) (lifetime : Lifetime) → x ≡ arg.Region lifetime → least_depth (about_arg x).form ≡ 0
region_arg x lifetime is = by_arg is (laws.arg_region_is lifetime)

pub plain_arg : (x : Arg) (inner : Ty) → x ≡ arg.Plain inner → least_depth (about_arg x).form ≡ least_depth (about_type inner).told.form
plain_arg x inner is = by_arg is (laws.arg_plain_is inner)

pub const_arg_is : (x : Arg) (value : ConstArg) → x ≡ arg.Const value → least_depth (about_arg x).form ≡ 0
const_arg_is x value is = by_arg is (laws.arg_const_is value) ∙ const_is value

pub leaf_arg : (x : Arg) → ((lifetime : Lifetime) × (x ≡ arg.Region lifetime)) ⊎ ((value : ConstArg) × (x ≡ arg.Const value))
    → 0 ≡ counted (least_depth (about_arg x).form)
leaf_arg x (inl region) = let m = region_arg x region.0 region.1 in omega (arith, m)
leaf_arg x (inr const) = let m = const_arg_is x const.0 const.1 in omega (arith, m)

pub named_arg : (x : Arg) (name : Name) (given : Args) (asked : Constraint) → x ≡ arg.Named name given asked
    → least_depth (about_arg x).form ≡ max (least_depth (about_args given).kind.form) (least_depth (about_constraint asked).form) + 1
named_arg x name given asked is =
    let m = leaf_is name.raw name.text (Part (about_args given).kind.form (Part (about_constraint asked).form Done)) in
    by_arg is (laws.arg_named_is name given asked) ∙ omega (arith, m)

by_constraint : {x y : Constraint} {facts : Facts} → x ≡ y → about_constraint y ≡ facts
    → least_depth (about_constraint x).form ≡ least_depth facts.form
by_constraint is law =
    ap (λ (x : Constraint). least_depth (about_constraint x).form) is ∙ ap (λ (f : Facts). least_depth f.form) law

pub equal_constraint : (x : Constraint) (inner : Ty) → x ≡ constraint.Equal inner
    → least_depth (about_constraint x).form ≡ least_depth (about_type inner).told.form
equal_constraint x inner is = by_constraint is (laws.constraint_equal_is inner) ∙ omega arith

pub const_constraint : (x : Constraint) (value : ConstArg) → x ≡ constraint.EqualConst value → least_depth (about_constraint x).form ≡ 0
const_constraint x value is =
    by_constraint is (laws.constraint_equal_const_is value) ∙ (let m = const_is value in omega (arith, m))

pub limit_constraint : (x : Constraint) (bounds : List Bound) → x ≡ constraint.Limit bounds
    → least_depth (about_constraint x).form ≡ greatest (forms (map about_bound bounds))
limit_constraint x bounds is =
    by_constraint is (laws.constraint_limit_is bounds) ∙ (let m = bounds_are (map about_bound bounds) in omega (arith, m))

by_bound : {x y : Bound} {facts : Facts} → x ≡ y → about_bound y ≡ facts → least_depth (about_bound x).form ≡ least_depth facts.form
by_bound is law = ap (λ (x : Bound). least_depth (about_bound x).form) is ∙ ap (λ (f : Facts). least_depth f.form) law

outlives_bound : (x : Bound) (lifetime : Lifetime) → x ≡ bound.Outlives lifetime → least_depth (about_bound x).form ≡ 0
outlives_bound x lifetime is = by_bound is (laws.bound_outlives_is lifetime)

captures_bound : (x : Bound) (captured : List Capture) → x ≡ bound.Captures captured → least_depth (about_bound x).form ≡ 0
captures_bound x captured is =
    let m = list_is true less greater (map capture_form captured) in
    let n = captures_are captured in by_bound is (laws.bound_captures_is captured) ∙ omega (arith, m, n)

-- a bound with no part that is counted
pub leaf_bound : (x : Bound) → ((lifetime : Lifetime) × (x ≡ bound.Outlives lifetime)) ⊎ ((captured : List Capture) × (x ≡ bound.Captures captured))
    → 0 ≡ counted (least_depth (about_bound x).form)
leaf_bound x (inl lifetime) = let m = outlives_bound x lifetime.0 lifetime.1 in omega (arith, m)
leaf_bound x (inr captured) = let m = captures_bound x captured.0 captured.1 in omega (arith, m)

meets_are : (maybe : Bool) (binder : Option Binder) (path : Form) → least_depth (meets_form maybe binder path) ≡ least_depth path
meets_are maybe binder path =
    when_is maybe _ (binder_form binder (Part path Done)) ∙ binder_is binder (Part path Done) ∙ omega arith

pub meets_bound : (x : Bound) (parens maybe : Bool) (binder : Option Binder) (path : Path) → x ≡ bound.Meets parens maybe binder path
    → least_depth (about_bound x).form ≡ least_depth (about_path path Kind).form
meets_bound x true maybe binder path is =
    by_bound is (laws.bound_meets_is true maybe binder path)
    ∙ (let m = meets_are maybe binder (about_path path Kind).form in omega (arith, m))
meets_bound x false maybe binder path is =
    by_bound is (laws.bound_meets_is false maybe binder path) ∙ meets_are maybe binder (about_path path Kind).form
