-- Paths and types end in no body, by the induction of their family. So none of them ends within
-- braces that the syntax tree doesn't hold.
use Rattle.std.proofs.Common.{◌≡◌, Bool, true, false, not, ◌||◌, List, [], ◌∷◌, ◌++◌, codes, map, Option, Some, None, sym, refl, subst, ap}
use Rattle.std.proofs.lemmas.Bool.{and_from, or_right}
use Rattle.lay_piece.specs.Forms.{closing}
use Rattle.lay_piece.specs.declared.kind.Delim.{Delim}
use Rattle.lay_piece.specs.declared.kind.Delim.TheVariants.{Paren, Bracket, Brace}
use Rattle.lay_piece.specs.declared.kind.Kind.{Kind as TokenKind}
use Rattle.lay_piece.specs.declared.kind.Kind.TheVariants.{Closer, Punct}
use Rattle.lay_form.specs.Form.{Bit, Blank, Fixed, Operator, Form, Done, Piece, Part, keyword, opener, closer}
use Rattle.lay_form.specs.Notation.{B, comma_gap, comma_list, each, when}
use Rattle.lay_node.specs.Words.{colons, leaf_of}
use Rattle.lay_node.specs.nodes.Call.{about_call, bang}
use Rattle.lay_node.specs.nodes.Facts.{Facts, forms}
use Rattle.lay_node.specs.nodes.SimplePath.{about_simple_path}
use Rattle.lay_node.specs.nodes.Types.{ArgsFacts, PathFacts, TypeFacts, abi_form, about_arg, about_args, about_bound, about_path, about_start, about_type, binder_form, capture_form, dots, greater, in_style, joined, less, lifetime_form, lifetime_param_form, output_form, params_form, segments_form, ty_facts, type_forms}
use Rattle.lay_node.specs.tokens.Lists.{enclosed_form, ends_in_line, form_of_grouping}
use Rattle.lay_node.specs.tokens.Listing.{Grouping, NoMore, in_groups}
use Rattle.lay_node.specs.tokens.Pairs.{at_start}
use Rattle.lay_node.specs.declared.token.Word.{Word}
use Rattle.lay_node.specs.declared.tokens.MacroCall.{MacroCall}
use Rattle.lay_node.specs.declared.types.Abi.{Abi}
use Rattle.lay_node.specs.declared.types.Arg.{Arg}
use Rattle.lay_node.specs.declared.types.Arg.TheFolds as type_fold
use Rattle.lay_node.specs.declared.types.Arg.TheOpen.{Args-F, Bound-F, Ty-F, Path-F}
use Rattle.lay_node.specs.declared.types.Arg.TheViews as views
use Rattle.lay_node.specs.declared.types.Args.{Args}
use Rattle.lay_node.specs.declared.types.Binder.{Binder}
use Rattle.lay_node.specs.declared.types.Bound.{Bound}
use Rattle.lay_node.specs.declared.types.Constraint.{Constraint}
use Rattle.lay_node.specs.declared.types.FuncParam.{FuncParam}
use Rattle.lay_node.specs.declared.types.Path.{Path}
use Rattle.lay_node.specs.declared.types.PathStart.{PathStart}
use Rattle.lay_node.specs.declared.types.PathStyle.{PathStyle}
use Rattle.lay_node.specs.declared.types.PathStyle.TheVariants.{Code, Kind}
use Rattle.lay_node.specs.declared.types.Ty.{Ty}
use Rattle.lay_node.proofs.nodes.TypesLaws as laws
use Rattle.lay_node.proofs.nodes.TypesLaws.{about_segment}
use Rattle.lay_code.proofs.reader.Followed.{bodiless, takes}

-- ---- forms

-- The form ends in no body.
abbrev pub EndsBare : Form → Type 0
EndsBare f = bodiless f ≡ true

-- It does so where what follows a part does, and the part does or isn't last.
pub part_bare : (i f : Form) → EndsBare f → EndsBare i → EndsBare (Part i f)
part_bare i f h g = and_from (bodiless f) (takes f || bodiless i) h (or_right (takes f) (bodiless i) g)

pub behind_bare : (i f : Form) → takes f ≡ true → EndsBare f → EndsBare (Part i f)
behind_bare i f t h = and_from (bodiless f) (takes f || bodiless i) h (ap (λ b. b || bodiless i) t)

pub leaf_bare : (raw : Bool) (text : List _) (f : Form) → EndsBare f → EndsBare (leaf_of raw text f)
leaf_bare true text f h = h
leaf_bare false text f h = h

-- a list, by the token that closes it
list_bare : (may : Bool) (opening : Bit) (kind : TokenKind) (text : List _) (es : List Form)
    → EndsBare (comma_list may opening (Fixed kind text) es)
list_bare may opening kind text [] = refl
list_bare may opening kind text (e ∷ es) = by may
  where
    or_true : (a : Bool) → (a || true) ≡ true
    or_true true = refl
    or_true false = refl

    by : (may : Bool) → EndsBare (comma_list may opening (Fixed kind text) (e ∷ es))
    by true = ap (λ b. b || bodiless e) (or_true (takes (each comma_gap es)))
    by false = ap (λ b. b || bodiless e) (or_true (takes (each comma_gap es)))

pub angles_bare : (es : List Form) → EndsBare (comma_list true less greater es)
angles_bare es = list_bare true less Punct (codes ">") es

pub parens_bare : (may : Bool) (es : List Form) → EndsBare (comma_list may (opener Paren) (closer Paren) es)
parens_bare may es = list_bare may (opener Paren) (Closer Paren) (closing Paren ∷ []) es

when_bare : (there : Bool) (bits : List Bit) (f : Form) → EndsBare f → EndsBare (when there bits f)
when_bare true bits f h = h
when_bare false bits f h = h

binder_bare : (binder : Option Binder) (f : Form) → EndsBare f → EndsBare (binder_form binder f)
binder_bare None f h = h
binder_bare (Some b) f h = part_bare (comma_list true less greater (map lifetime_param_form b.params)) (Piece (Blank ∷ []) f) h
    (angles_bare (map lifetime_param_form b.params))

abi_bare : (abi : Option Abi) (f : Form) → EndsBare f → EndsBare (abi_form abi f)
abi_bare None f h = h
abi_bare (Some a) f h = by a.name
  where
    by : (name : Option _) → EndsBare (abi_form (Some (record { name = name })) f)
    by None = h
    by (Some l) = h

abbrev EachBare : List Form → Type 0
EachBare [] = Unit {0}
EachBare (x ∷ es) = EndsBare x × EachBare es

abbrev AnyBare : Option TypeFacts → Type 0
AnyBare None = Unit {0}
AnyBare (Some x) = EndsBare x.told.form

joined_bare : (es : List Form) → EachBare es → EndsBare (joined (λ f. B (Piece (Operator (codes "+") ∷ Blank ∷ []) f)) es)
joined_bare [] k = refl
joined_bare (x ∷ []) k = k.0
joined_bare (x ∷ y ∷ es) k =
    behind_bare x (each (λ f. B (Piece (Operator (codes "+") ∷ Blank ∷ []) f)) (y ∷ es)) refl (joined_bare (y ∷ es) k.1)

enclosed_bare : (p : Form) (d : Delim) (i : Grouping) (line : Bool) (inner : Form)
    → EndsBare (Part p (Piece (bang d) (enclosed_form d i line inner Done)))
enclosed_bare p Paren NoMore line inner = refl
enclosed_bare p Bracket NoMore line inner = refl
enclosed_bare p Brace NoMore line inner = refl
enclosed_bare p Paren _ true inner = refl
enclosed_bare p Bracket _ true inner = refl
enclosed_bare p Brace _ true inner = refl
enclosed_bare p Paren _ false inner = refl
enclosed_bare p Bracket _ false inner = refl
enclosed_bare p Brace _ false inner = refl

output_bare : (list : Form) (output : Option TypeFacts) → EndsBare list → AnyBare output → EndsBare (Part list (output_form output))
output_bare list None h k = h
output_bare list (Some x) h k = behind_bare list (output_form (Some x)) refl k

-- ---- each node

record ArgsBare (x : ArgsFacts) : Type 0 where
  in_code : EndsBare x.code.form
  in_kind : EndsBare x.kind.form

record PathBare (x : PathFacts) : Type 0 where
  go : (s : PathStyle) → EndsBare (x s).form

abbrev BareSo : Facts → Type 0
BareSo x = EndsBare x.form

abbrev TypeBare : TypeFacts → Type 0
TypeBare x = EndsBare x.told.form

abbrev ArgIs : Arg → Type 0
ArgIs x = Unit {0}

abbrev ArgsAre : Args → Type 0
ArgsAre x = ArgsBare (about_args x)

abbrev BoundIs : Bound → Type 0
BoundIs x = EndsBare (about_bound x).form

abbrev ConstraintIs : Constraint → Type 0
ConstraintIs x = Unit {0}

abbrev StartIs : PathStart → Type 0
StartIs x = Unit {0}

abbrev TypeIs : Ty → Type 0
TypeIs x = EndsBare (about_type x).told.form

abbrev ParamIs : FuncParam → Type 0
ParamIs x = Unit {0}

abbrev PathIs : Path → Type 0
PathIs x = PathBare (about_path x)

-- a node that ends so
abbrev KeptArg : Type 0
KeptArg = (x : Arg) × ArgIs x

abbrev KeptArgs : Type 0
KeptArgs = (x : Args) × ArgsAre x

abbrev KeptBound : Type 0
KeptBound = (x : Bound) × BoundIs x

abbrev KeptConstraint : Type 0
KeptConstraint = (x : Constraint) × ConstraintIs x

abbrev KeptStart : Type 0
KeptStart = (x : PathStart) × StartIs x

abbrev KeptType : Type 0
KeptType = (x : Ty) × TypeIs x

abbrev KeptParam : Type 0
KeptParam = (x : FuncParam) × ParamIs x

abbrev KeptPath : Type 0
KeptPath = (x : Path) × PathIs x

-- one layer of a node, and one whose nodes within it end so
abbrev Layer : (Type 0 → Type 0 → Type 0 → Type 0 → Type 0 → Type 0 → Type 0 → Type 0 → Type 0) → Type 0
Layer F = F Arg Args Bound Constraint PathStart Ty FuncParam Path

abbrev Kept : (Type 0 → Type 0 → Type 0 → Type 0 → Type 0 → Type 0 → Type 0 → Type 0 → Type 0) → Type 0
Kept F = F KeptArg KeptArgs KeptBound KeptConstraint KeptStart KeptType KeptParam KeptPath

abbrev args_layer : Kept Args-F → Layer Args-F
args_layer y = type_fold.map-Args KeptArg KeptArgs KeptBound KeptConstraint KeptStart KeptType KeptParam KeptPath
    Arg Args Bound Constraint PathStart Ty FuncParam Path
    (λ y. y.0) (λ y. y.0) (λ y. y.0) (λ y. y.0) (λ y. y.0) (λ y. y.0) (λ y. y.0) (λ y. y.0) y

abbrev bound_layer : Kept Bound-F → Layer Bound-F
bound_layer y = type_fold.map-Bound KeptArg KeptArgs KeptBound KeptConstraint KeptStart KeptType KeptParam KeptPath
    Arg Args Bound Constraint PathStart Ty FuncParam Path
    (λ y. y.0) (λ y. y.0) (λ y. y.0) (λ y. y.0) (λ y. y.0) (λ y. y.0) (λ y. y.0) (λ y. y.0) y

abbrev type_layer : Kept Ty-F → Layer Ty-F
type_layer y = type_fold.map-Ty KeptArg KeptArgs KeptBound KeptConstraint KeptStart KeptType KeptParam KeptPath
    Arg Args Bound Constraint PathStart Ty FuncParam Path
    (λ y. y.0) (λ y. y.0) (λ y. y.0) (λ y. y.0) (λ y. y.0) (λ y. y.0) (λ y. y.0) (λ y. y.0) y

abbrev path_layer : Kept Path-F → Layer Path-F
path_layer y = type_fold.map-Path KeptArg KeptArgs KeptBound KeptConstraint KeptStart KeptType KeptParam KeptPath
    Arg Args Bound Constraint PathStart Ty FuncParam Path
    (λ y. y.0) (λ y. y.0) (λ y. y.0) (λ y. y.0) (λ y. y.0) (λ y. y.0) (λ y. y.0) (λ y. y.0) y

-- from the facts about a node to the node
told : {A B : Type 0} (P : B → Type 0) (about : A → B) {x y : A} {f : B} → y ≡ x → about x ≡ f → P f → P (about y)
told P about same is k = subst (λ z. P (about z)) (sym same) (subst P (sym is) k)

abbrev types_of : List KeptType → List Ty
types_of ys = map (λ (y : KeptType). y.0) ys

abbrev params_of : List KeptParam → List FuncParam
params_of ys = map (λ (y : KeptParam). y.0) ys

abbrev bounds_of : List KeptBound → List Bound
bounds_of ys = map (λ (y : KeptBound). y.0) ys

abbrev args_of : List KeptArg → List Arg
args_of ys = map (λ (y : KeptArg). y.0) ys

bounds_bare : (ys : List KeptBound) → EachBare (forms (map about_bound (bounds_of ys)))
bounds_bare [] = tt
bounds_bare (y ∷ ys) = (y.1, bounds_bare ys)

args_step : (y : Kept Args-F) → ArgsAre (views.roll-Args (args_layer y))
args_step Args-F.None =
    told ArgsBare about_args views.rolls-None laws.args_none_is (record { in_code = refl; in_kind = refl })
args_step (Args-F.Angle xs) =
    let es = forms (map about_arg (args_of xs)) in
    told ArgsBare about_args (views.rolls-Angle (args_of xs)) (laws.args_angle_is (args_of xs))
    (record { in_code = angles_bare es; in_kind = angles_bare es })
args_step (Args-F.Round xs None) =
    let es = type_forms (map about_type (types_of xs)) in
    told ArgsBare about_args (views.rolls-Round (types_of xs) None) (laws.args_round_is (types_of xs) None)
    (record { in_code = parens_bare true es; in_kind = parens_bare true es })
args_step (Args-F.Round xs (Some x)) =
    let es = type_forms (map about_type (types_of xs)) in
    let h = output_bare (comma_list true (opener Paren) (closer Paren) es) (Some (about_type x.0)) (parens_bare true es) x.1 in
    told ArgsBare about_args (views.rolls-Round (types_of xs) (Some x.0)) (laws.args_round_is (types_of xs) (Some x.0))
    (record { in_code = h; in_kind = h })

bound_step : (y : Kept Bound-F) → BoundIs (views.roll-Bound (bound_layer y))
bound_step (Bound-F.Outlives l) =
    told BareSo about_bound (views.rolls-Outlives l) (laws.bound_outlives_is l) refl
bound_step (Bound-F.Meets true maybe binder p) =
    told BareSo about_bound (views.rolls-Meets true maybe binder p.0) (laws.bound_meets_is true maybe binder p.0) refl
bound_step (Bound-F.Meets false maybe binder p) =
    let f : Form = Part (about_path p.0 Kind).form Done in
    told BareSo about_bound (views.rolls-Meets false maybe binder p.0) (laws.bound_meets_is false maybe binder p.0)
    (when_bare maybe (Fixed Punct (codes "?") ∷ []) (binder_form binder f) (binder_bare binder f (p.1.go Kind)))
bound_step (Bound-F.Captures captured) =
    told BareSo about_bound (views.rolls-Captures captured) (laws.bound_captures_is captured)
    (angles_bare (map capture_form captured))

tuple_bare : (xs : List Ty) → TypeBare (ty_facts (Ty-F.Tuple (map about_type xs)))
tuple_bare [] = refl
tuple_bare (x ∷ []) = refl
tuple_bare (x ∷ y ∷ xs) = parens_bare true (type_forms (map about_type (x ∷ y ∷ xs)))

func_bare : (binder : Option Binder) (is_unsafe : Bool) (abi : Option Abi) (params : List Facts) (variadic : Bool)
    (output : Option TypeFacts) → AnyBare output → TypeBare (ty_facts (Ty-F.Func binder is_unsafe abi params variadic output))
func_bare binder is_unsafe abi params variadic output k =
    let f = Piece (keyword (codes "fn") ∷ []) (Part (params_form params variadic) (output_form output)) in
    let h : EndsBare f = output_bare (params_form params variadic) output (parens_bare (not variadic) (forms params ++ dots variadic)) k in
    binder_bare binder (when is_unsafe (keyword (codes "unsafe") ∷ Blank ∷ []) (abi_form abi f))
    (when_bare is_unsafe (keyword (codes "unsafe") ∷ Blank ∷ []) (abi_form abi f) (abi_bare abi f h))

call_bare : (call : MacroCall) → EndsBare (about_call call).form
call_bare call =
    let i = in_groups call.tokens.tokens in
    enclosed_bare (about_simple_path call.path).form call.tokens.delim i (ends_in_line call.tokens.tokens) (form_of_grouping (at_start 0) i)

type_step : (y : Kept Ty-F) → TypeIs (views.roll-Ty (type_layer y))
type_step (Ty-F.Path p) =
    told TypeBare about_type (views.rolls-Path p.0) (laws.type_path_is p.0) (p.1.go Kind)
type_step (Ty-F.Call call) =
    told TypeBare about_type (views.rolls-Call call) (laws.type_call_is call) (call_bare call)
type_step (Ty-F.Paren x) =
    told TypeBare about_type (views.rolls-Paren x.0) (laws.type_paren_is x.0) refl
type_step (Ty-F.Tuple xs) =
    told TypeBare about_type (views.rolls-Tuple (types_of xs)) (laws.type_tuple_is (types_of xs))
    (tuple_bare (types_of xs))
type_step Ty-F.Never = told TypeBare about_type views.rolls-Never laws.type_never_is refl
type_step Ty-F.Infer = told TypeBare about_type views.rolls-Infer laws.type_infer_is refl
type_step (Ty-F.Ptr mutable x) =
    told TypeBare about_type (views.rolls-Ptr mutable x.0) (laws.type_ptr_is mutable x.0) x.1
type_step (Ty-F.Ref None mutable x) =
    told TypeBare about_type (views.rolls-Ref None mutable x.0) (laws.type_ref_is None mutable x.0)
    (when_bare mutable (keyword (codes "mut") ∷ Blank ∷ []) (Part (about_type x.0).told.form Done) x.1)
type_step (Ty-F.Ref (Some l) mutable x) =
    let f : Form = Part (about_type x.0).told.form Done in
    told TypeBare about_type (views.rolls-Ref (Some l) mutable x.0) (laws.type_ref_is (Some l) mutable x.0)
    (part_bare (lifetime_form l) (Piece (Blank ∷ []) (when mutable (keyword (codes "mut") ∷ Blank ∷ []) f))
    (when_bare mutable (keyword (codes "mut") ∷ Blank ∷ []) f x.1) refl)
type_step (Ty-F.Slice x) =
    told TypeBare about_type (views.rolls-Slice x.0) (laws.type_slice_is x.0) refl
type_step (Ty-F.Array x length) =
    told TypeBare about_type (views.rolls-Array x.0 length) (laws.type_array_is x.0 length) refl
type_step (Ty-F.Func binder is_unsafe abi ps variadic None) =
    told TypeBare about_type (views.rolls-Func binder is_unsafe abi (params_of ps) variadic None)
    (laws.type_func_is binder is_unsafe abi (params_of ps) variadic None)
    (func_bare binder is_unsafe abi _ variadic None tt)
type_step (Ty-F.Func binder is_unsafe abi ps variadic (Some x)) =
    told TypeBare about_type (views.rolls-Func binder is_unsafe abi (params_of ps) variadic (Some x.0))
    (laws.type_func_is binder is_unsafe abi (params_of ps) variadic (Some x.0))
    (func_bare binder is_unsafe abi _ variadic (Some (about_type x.0)) x.1)
type_step (Ty-F.Bounds dynamic xs) =
    told TypeBare about_type (views.rolls-Bounds dynamic (bounds_of xs)) (laws.type_bounds_is dynamic (bounds_of xs))
    (joined_bare (forms (map about_bound (bounds_of xs))) (bounds_bare xs))

-- what a path begins with
start_bare : (x : PathStart) → laws.PathStartView x → EndsBare (about_start x).form
start_bare _ laws.IsLocal = subst BareSo (sym laws.start_local_is) refl
start_bare _ laws.IsGlobal = subst BareSo (sym laws.start_global_is) refl
start_bare _ (laws.IsQualified x None) = subst BareSo (sym (laws.start_qualified_is x None)) refl
start_bare _ (laws.IsQualified x (Some p)) = subst BareSo (sym (laws.start_qualified_is x (Some p))) refl

args_in : (s : PathStyle) {x : ArgsFacts} → ArgsBare x → EndsBare (in_style s x).form
args_in Code k = k.in_code
args_in Kind k = k.in_kind

segments_bare : (s : PathStyle) (xs : List (Word × KeptArgs))
    → EndsBare (segments_form s (map about_segment (map (λ (y : Word × KeptArgs). (y.0, y.1.0)) xs)))
segments_bare s [] = refl
segments_bare s (x ∷ []) = leaf_bare x.0.raw x.0.text (Part (in_style s (about_args x.1.0)).form Done) (args_in s x.1.1)
segments_bare s (x ∷ y ∷ more) =
    let next : Form = Piece colons (segments_form s (map about_segment (map (λ (y : Word × KeptArgs). (y.0, y.1.0)) (y ∷ more)))) in
    leaf_bare x.0.raw x.0.text (Part (in_style s (about_args x.1.0)).form next)
    (behind_bare (in_style s (about_args x.1.0)).form next refl (segments_bare s (y ∷ more)))

path_from : (p : Path) (xs : List (Word × KeptArgs)) → p.segments ≡ map (λ (y : Word × KeptArgs). (y.0, y.1.0)) xs
    → PathIs p
path_from p xs e = subst PathBare (sym (laws.path_is p)) (record {
  go = λ s. part_bare (about_start p.start).form (segments_form s (map about_segment p.segments))
      (subst (λ (ys : List (Word × Args)). EndsBare (segments_form s (map about_segment ys))) (sym e) (segments_bare s xs))
      (start_bare p.start (laws.start_view p.start));
})

path_step : (y : Kept Path-F) → PathIs (views.roll-Path (path_layer y))
path_step y = path_from _ y.segments refl

-- the same, of a layer that is this one
args_rolled : (x : Layer Args-F) (y : Kept Args-F) → args_layer y ≡ x → ArgsAre (views.roll-Args x)
args_rolled x y is = subst (λ z. ArgsAre (views.roll-Args z)) is (args_step y)

bound_rolled : (x : Layer Bound-F) (y : Kept Bound-F) → bound_layer y ≡ x → BoundIs (views.roll-Bound x)
bound_rolled x y is = subst (λ z. BoundIs (views.roll-Bound z)) is (bound_step y)

type_rolled : (x : Layer Ty-F) (y : Kept Ty-F) → type_layer y ≡ x → TypeIs (views.roll-Ty x)
type_rolled x y is = subst (λ z. TypeIs (views.roll-Ty z)) is (type_step y)

path_rolled : (x : Layer Path-F) (y : Kept Path-F) → path_layer y ≡ x → PathIs (views.roll-Path x)
path_rolled x y is = subst (λ z. PathIs (views.roll-Path z)) is (path_step y)

pub type_bare : (x : Ty) → EndsBare (about_type x).told.form
type_bare = type_fold.ind-Ty ArgIs ArgsAre BoundIs ConstraintIs StartIs TypeIs ParamIs PathIs
    (λ x y is. tt) args_rolled bound_rolled (λ x y is. tt) (λ x y is. tt) type_rolled (λ x y is. tt) path_rolled

path_is_bare : (x : Path) → PathIs x
path_is_bare = type_fold.ind-Path ArgIs ArgsAre BoundIs ConstraintIs StartIs TypeIs ParamIs PathIs
    (λ x y is. tt) args_rolled bound_rolled (λ x y is. tt) (λ x y is. tt) type_rolled (λ x y is. tt) path_rolled

pub path_bare : (s : PathStyle) (x : Path) → EndsBare (about_path x s).form
path_bare s x = (path_is_bare x).go s
