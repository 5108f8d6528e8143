-- No path ends in a point: neither does a type, a bound or a list of generic arguments, by the induction of their
-- family.
use Rattle.std.proofs.Common.{◌≡◌, Bool, true, false, not, List, [], ◌∷◌, ◌++◌, codes, map, Option, Some, None, sym, refl, subst, ap, ◌∙◌}
use Rattle.lay_piece.specs.declared.kind.Delim.{Delim}
use Rattle.lay_piece.specs.declared.kind.Delim.TheVariants.{Paren, Bracket, Brace}
use Rattle.lay_form.specs.Form.{Form, Blank, Operator, Done, Piece, Part, keyword, opener, closer}
use Rattle.lay_form.specs.Layout.{ends_behind_point}
use Rattle.lay_form.specs.Notation.{B, comma_list, each, when}
use Rattle.lay_node.specs.Words.{leaf_of}
use Rattle.lay_node.specs.nodes.Call.{bang}
use Rattle.lay_node.specs.nodes.Facts.{Facts, forms}
use Rattle.lay_node.specs.nodes.Patterns.{end_form}
use Rattle.lay_node.specs.nodes.Types.{ArgsFacts, PathFacts, TypeFacts, abi_form, about_arg, about_args, about_bound, about_path, about_start, about_type, binder_form, capture_form, dots, greater, in_style, joined, less, output_form, params_form, segments_form, ty_facts}
use Rattle.lay_node.specs.tokens.Lists.{enclosed_form, ends_in_line, form_of_grouping, group_form}
use Rattle.lay_node.specs.tokens.Listing.{Grouping, NoMore, in_groups}
use Rattle.lay_node.specs.tokens.Pairs.{at_start}
use Rattle.lay_node.specs.declared.patterns.SpanEnd.{SpanEnd}
use Rattle.lay_node.specs.declared.patterns.SpanEnd.TheVariants as span_end
use Rattle.lay_node.specs.declared.token.Word.{Word}
use Rattle.lay_node.specs.declared.tokens.Group.{Group}
use Rattle.lay_node.specs.declared.types.Abi.{Abi}
use Rattle.lay_node.specs.declared.types.Arg.{Arg}
use Rattle.lay_node.specs.declared.types.Arg.TheFolds as type_fold
use Rattle.lay_node.specs.declared.types.Arg.TheOpen.{Args-F, Bound-F, Ty-F, Path-F}
use Rattle.lay_node.specs.declared.types.Arg.TheViews as views
use Rattle.lay_node.specs.declared.types.Args.{Args}
use Rattle.lay_node.specs.declared.types.Binder.{Binder}
use Rattle.lay_node.specs.declared.types.Bound.{Bound}
use Rattle.lay_node.specs.declared.types.Constraint.{Constraint}
use Rattle.lay_node.specs.declared.types.FuncParam.{FuncParam}
use Rattle.lay_node.specs.declared.types.Path.{Path}
use Rattle.lay_node.specs.declared.types.PathStart.{PathStart}
use Rattle.lay_node.specs.declared.types.PathStyle.{PathStyle}
use Rattle.lay_node.specs.declared.types.PathStyle.TheVariants.{Code, Kind}
use Rattle.lay_node.specs.declared.types.Ty.{Ty}
use Rattle.lay_node.proofs.nodes.TypesLaws as laws
use Rattle.lay_node.proofs.nodes.TypesLaws.{about_segment}

-- ---- forms

-- The form ends in no point, where no point stands before it; and whatever stands before it.
abbrev Ends : Form → Type 0
Ends f = ends_behind_point false f ≡ false

abbrev Closes : Form → Type 0
Closes f = (q : Bool) → ends_behind_point q f ≡ false

angles_close : (es : List Form) → Closes (comma_list true less greater es)
angles_close [] q = refl
angles_close (e ∷ es) q = refl

parens_close : (may : Bool) (es : List Form) → Closes (comma_list may (opener Paren) (closer Paren) es)
parens_close may [] q = refl
parens_close true (e ∷ es) q = refl
parens_close false (e ∷ es) q = refl

when_closes : (there : Bool) (word : List _) (f : Form) → Closes f
    → Closes (when there (keyword word ∷ Blank ∷ []) f)
when_closes true word f h q = h false
when_closes false word f h q = h q

binder_closes : (binder : Option Binder) (f : Form) → Closes f → Closes (binder_form binder f)
binder_closes None f h q = h q
binder_closes (Some b) f h q = h false

abi_closes : (abi : Option Abi) (f : Form) → Closes f → Closes (abi_form abi f)
abi_closes None f h q = h q
abi_closes (Some a) f h q = by a.name
  where
    by : (name : Option _) → ends_behind_point false (abi_form (Some (record { name = name })) f) ≡ false
    by None = h false
    by (Some l) = h false

binder_ends : (binder : Option Binder) (f : Form) → Ends f → Ends (binder_form binder f)
binder_ends None f h = h
binder_ends (Some b) f h = h

abbrev EachEnds : List Form → Type 0
EachEnds [] = Unit {0}
EachEnds (x ∷ es) = Ends x × EachEnds es

abbrev AnyEnds : Option TypeFacts → Type 0
AnyEnds None = Unit {0}
AnyEnds (Some x) = Ends x.told.form

each_ends : (es : List Form) (q : Bool) → q ≡ false → EachEnds es
    → ends_behind_point q (each (λ f. B (Piece (Operator (codes "+") ∷ Blank ∷ []) f)) es) ≡ false
each_ends [] q e k = e
each_ends (x ∷ es) q e k = each_ends es (ends_behind_point false x) k.0 k.1

joined_ends : (es : List Form) → EachEnds es → Ends (joined (λ f. B (Piece (Operator (codes "+") ∷ Blank ∷ []) f)) es)
joined_ends [] k = refl
joined_ends (x ∷ es) k = each_ends es (ends_behind_point false x) k.0 k.1

enclosed_ends : (d : Delim) (i : Grouping) (line : Bool) (inner : Form) (q : Bool)
    → ends_behind_point q (enclosed_form d i line inner Done) ≡ false
enclosed_ends Paren NoMore line inner q = refl
enclosed_ends Bracket NoMore line inner q = refl
enclosed_ends Brace NoMore line inner q = refl
enclosed_ends Paren _ true inner q = refl
enclosed_ends Bracket _ true inner q = refl
enclosed_ends Brace _ true inner q = refl
enclosed_ends Paren _ false inner q = refl
enclosed_ends Bracket _ false inner q = refl
enclosed_ends Brace _ false inner q = refl

group_ends : (g : Group) (q : Bool) → ends_behind_point q (group_form g Done) ≡ false
group_ends g q =
    let i = in_groups g.tokens in
    enclosed_ends g.delim i (ends_in_line g.tokens) (form_of_grouping (at_start 0) i) q

call_ends : (g : Group) (q : Bool) → ends_behind_point q (Piece (bang g.delim) (group_form g Done)) ≡ false
call_ends g q = group_ends g _

output_closes : (list : Form) (output : Option TypeFacts) → Closes list → AnyEnds output
    → Closes (Part list (output_form output))
output_closes list None h k q = h q
output_closes list (Some x) h k q = k

-- ---- each node

record ArgsEnd (x : ArgsFacts) : Type 0 where
  in_code : Ends x.code.form
  in_kind : Ends x.kind.form

record PathEnds (x : PathFacts) : Type 0 where
  go : (s : PathStyle) → Ends (x s).form

abbrev EndsSo : Facts → Type 0
EndsSo x = Ends x.form

abbrev TypeEnds : TypeFacts → Type 0
TypeEnds x = Ends x.told.form

abbrev ArgIs : Arg → Type 0
ArgIs x = Unit {0}

abbrev ArgsAre : Args → Type 0
ArgsAre x = ArgsEnd (about_args x)

abbrev BoundIs : Bound → Type 0
BoundIs x = Ends (about_bound x).form

abbrev ConstraintIs : Constraint → Type 0
ConstraintIs x = Unit {0}

abbrev StartIs : PathStart → Type 0
StartIs x = Unit {0}

abbrev TypeIs : Ty → Type 0
TypeIs x = Ends (about_type x).told.form

abbrev ParamIs : FuncParam → Type 0
ParamIs x = Unit {0}

abbrev PathIs : Path → Type 0
PathIs x = PathEnds (about_path x)

-- a node that ends so
abbrev KeptArg : Type 0
KeptArg = (x : Arg) × ArgIs x

abbrev KeptArgs : Type 0
KeptArgs = (x : Args) × ArgsAre x

abbrev KeptBound : Type 0
KeptBound = (x : Bound) × BoundIs x

abbrev KeptConstraint : Type 0
KeptConstraint = (x : Constraint) × ConstraintIs x

abbrev KeptStart : Type 0
KeptStart = (x : PathStart) × StartIs x

abbrev KeptType : Type 0
KeptType = (x : Ty) × TypeIs x

abbrev KeptParam : Type 0
KeptParam = (x : FuncParam) × ParamIs x

abbrev KeptPath : Type 0
KeptPath = (x : Path) × PathIs x

-- one layer of a node, and one whose nodes within it end so
abbrev Layer : (Type 0 → Type 0 → Type 0 → Type 0 → Type 0 → Type 0 → Type 0 → Type 0 → Type 0) → Type 0
Layer F = F Arg Args Bound Constraint PathStart Ty FuncParam Path

abbrev Kept : (Type 0 → Type 0 → Type 0 → Type 0 → Type 0 → Type 0 → Type 0 → Type 0 → Type 0) → Type 0
Kept F = F KeptArg KeptArgs KeptBound KeptConstraint KeptStart KeptType KeptParam KeptPath

abbrev args_layer : Kept Args-F → Layer Args-F
args_layer y = type_fold.map-Args KeptArg KeptArgs KeptBound KeptConstraint KeptStart KeptType KeptParam KeptPath
    Arg Args Bound Constraint PathStart Ty FuncParam Path
    (λ y. y.0) (λ y. y.0) (λ y. y.0) (λ y. y.0) (λ y. y.0) (λ y. y.0) (λ y. y.0) (λ y. y.0) y

abbrev bound_layer : Kept Bound-F → Layer Bound-F
bound_layer y = type_fold.map-Bound KeptArg KeptArgs KeptBound KeptConstraint KeptStart KeptType KeptParam KeptPath
    Arg Args Bound Constraint PathStart Ty FuncParam Path
    (λ y. y.0) (λ y. y.0) (λ y. y.0) (λ y. y.0) (λ y. y.0) (λ y. y.0) (λ y. y.0) (λ y. y.0) y

abbrev type_layer : Kept Ty-F → Layer Ty-F
type_layer y = type_fold.map-Ty KeptArg KeptArgs KeptBound KeptConstraint KeptStart KeptType KeptParam KeptPath
    Arg Args Bound Constraint PathStart Ty FuncParam Path
    (λ y. y.0) (λ y. y.0) (λ y. y.0) (λ y. y.0) (λ y. y.0) (λ y. y.0) (λ y. y.0) (λ y. y.0) y

abbrev path_layer : Kept Path-F → Layer Path-F
path_layer y = type_fold.map-Path KeptArg KeptArgs KeptBound KeptConstraint KeptStart KeptType KeptParam KeptPath
    Arg Args Bound Constraint PathStart Ty FuncParam Path
    (λ y. y.0) (λ y. y.0) (λ y. y.0) (λ y. y.0) (λ y. y.0) (λ y. y.0) (λ y. y.0) (λ y. y.0) y

-- from the facts about a node to the node
told : {A B : Type 0} (P : B → Type 0) (about : A → B) {x y : A} {f : B} → y ≡ x → about x ≡ f → P f → P (about y)
told P about same is k = subst (λ z. P (about z)) (sym same) (subst P (sym is) k)

abbrev types_of : List KeptType → List Ty
types_of ys = map (λ (y : KeptType). y.0) ys

abbrev params_of : List KeptParam → List FuncParam
params_of ys = map (λ (y : KeptParam). y.0) ys

abbrev bounds_of : List KeptBound → List Bound
bounds_of ys = map (λ (y : KeptBound). y.0) ys

abbrev args_of : List KeptArg → List Arg
args_of ys = map (λ (y : KeptArg). y.0) ys

bounds_end : (ys : List KeptBound) → EachEnds (forms (map about_bound (bounds_of ys)))
bounds_end [] = tt
bounds_end (y ∷ ys) = (y.1, bounds_end ys)

args_step : (y : Kept Args-F) → ArgsAre (views.roll-Args (args_layer y))
args_step Args-F.None =
    told ArgsEnd about_args views.rolls-None laws.args_none_is (record { in_code = refl; in_kind = refl })
args_step (Args-F.Angle xs) =
    let es = forms (map about_arg (args_of xs)) in
    told ArgsEnd about_args (views.rolls-Angle (args_of xs)) (laws.args_angle_is (args_of xs))
    (record { in_code = angles_close es false; in_kind = angles_close es false })
args_step (Args-F.Round xs None) =
    told ArgsEnd about_args (views.rolls-Round (types_of xs) None) (laws.args_round_is (types_of xs) None)
    (record { in_code = parens_close true _ false; in_kind = parens_close true _ false })
args_step (Args-F.Round xs (Some x)) =
    told ArgsEnd about_args (views.rolls-Round (types_of xs) (Some x.0)) (laws.args_round_is (types_of xs) (Some x.0))
    (record { in_code = x.1; in_kind = x.1 })

bound_step : (y : Kept Bound-F) → BoundIs (views.roll-Bound (bound_layer y))
bound_step (Bound-F.Outlives l) =
    told EndsSo about_bound (views.rolls-Outlives l) (laws.bound_outlives_is l) refl
bound_step (Bound-F.Meets true maybe binder p) =
    told EndsSo about_bound (views.rolls-Meets true maybe binder p.0) (laws.bound_meets_is true maybe binder p.0) refl
bound_step (Bound-F.Meets false true binder p) =
    told EndsSo about_bound (views.rolls-Meets false true binder p.0) (laws.bound_meets_is false true binder p.0)
    (binder_ends binder (Part (about_path p.0 Kind).form Done) (p.1.go Kind))
bound_step (Bound-F.Meets false false binder p) =
    told EndsSo about_bound (views.rolls-Meets false false binder p.0) (laws.bound_meets_is false false binder p.0)
    (binder_ends binder (Part (about_path p.0 Kind).form Done) (p.1.go Kind))
bound_step (Bound-F.Captures captured) =
    told EndsSo about_bound (views.rolls-Captures captured) (laws.bound_captures_is captured)
    (angles_close (map capture_form captured) false)

tuple_ends : (xs : List Ty) → TypeEnds (ty_facts (Ty-F.Tuple (map about_type xs)))
tuple_ends [] = refl
tuple_ends (x ∷ []) = refl
tuple_ends (x ∷ y ∷ xs) = refl

func_ends : (binder : Option Binder) (is_unsafe : Bool) (abi : Option Abi) (params : List Facts) (variadic : Bool)
    (output : Option TypeFacts) → AnyEnds output
    → TypeEnds (ty_facts (Ty-F.Func binder is_unsafe abi params variadic output))
func_ends binder is_unsafe abi params variadic output k =
    let f = Piece (keyword (codes "fn") ∷ []) (Part (params_form params variadic) (output_form output)) in
    let h : Closes f = λ q. output_closes (params_form params variadic) output
    (parens_close (not variadic) (forms params ++ dots variadic)) k false in
    binder_closes binder (when is_unsafe (keyword (codes "unsafe") ∷ Blank ∷ []) (abi_form abi f))
    (when_closes is_unsafe (codes "unsafe") (abi_form abi f) (abi_closes abi f h)) false

type_step : (y : Kept Ty-F) → TypeIs (views.roll-Ty (type_layer y))
type_step (Ty-F.Path p) =
    told TypeEnds about_type (views.rolls-Path p.0) (laws.type_path_is p.0) (p.1.go Kind)
type_step (Ty-F.Call call) =
    told TypeEnds about_type (views.rolls-Call call) (laws.type_call_is call) (call_ends call.tokens _)
type_step (Ty-F.Paren x) =
    told TypeEnds about_type (views.rolls-Paren x.0) (laws.type_paren_is x.0) refl
type_step (Ty-F.Tuple xs) =
    told TypeEnds about_type (views.rolls-Tuple (types_of xs)) (laws.type_tuple_is (types_of xs))
    (tuple_ends (types_of xs))
type_step Ty-F.Never = told TypeEnds about_type views.rolls-Never laws.type_never_is refl
type_step Ty-F.Infer = told TypeEnds about_type views.rolls-Infer laws.type_infer_is refl
type_step (Ty-F.Ptr true x) =
    told TypeEnds about_type (views.rolls-Ptr true x.0) (laws.type_ptr_is true x.0) x.1
type_step (Ty-F.Ptr false x) =
    told TypeEnds about_type (views.rolls-Ptr false x.0) (laws.type_ptr_is false x.0) x.1
type_step (Ty-F.Ref None true x) =
    told TypeEnds about_type (views.rolls-Ref None true x.0) (laws.type_ref_is None true x.0) x.1
type_step (Ty-F.Ref None false x) =
    told TypeEnds about_type (views.rolls-Ref None false x.0) (laws.type_ref_is None false x.0) x.1
type_step (Ty-F.Ref (Some l) true x) =
    told TypeEnds about_type (views.rolls-Ref (Some l) true x.0) (laws.type_ref_is (Some l) true x.0) x.1
type_step (Ty-F.Ref (Some l) false x) =
    told TypeEnds about_type (views.rolls-Ref (Some l) false x.0) (laws.type_ref_is (Some l) false x.0) x.1
type_step (Ty-F.Slice x) =
    told TypeEnds about_type (views.rolls-Slice x.0) (laws.type_slice_is x.0) refl
type_step (Ty-F.Array x length) =
    told TypeEnds about_type (views.rolls-Array x.0 length) (laws.type_array_is x.0 length) refl
type_step (Ty-F.Func binder is_unsafe abi ps variadic None) =
    told TypeEnds about_type (views.rolls-Func binder is_unsafe abi (params_of ps) variadic None)
    (laws.type_func_is binder is_unsafe abi (params_of ps) variadic None)
    (func_ends binder is_unsafe abi _ variadic None tt)
type_step (Ty-F.Func binder is_unsafe abi ps variadic (Some x)) =
    told TypeEnds about_type (views.rolls-Func binder is_unsafe abi (params_of ps) variadic (Some x.0))
    (laws.type_func_is binder is_unsafe abi (params_of ps) variadic (Some x.0))
    (func_ends binder is_unsafe abi _ variadic (Some (about_type x.0)) x.1)
type_step (Ty-F.Bounds true xs) =
    told TypeEnds about_type (views.rolls-Bounds true (bounds_of xs)) (laws.type_bounds_is true (bounds_of xs))
    (joined_ends (forms (map about_bound (bounds_of xs))) (bounds_end xs))
type_step (Ty-F.Bounds false xs) =
    told TypeEnds about_type (views.rolls-Bounds false (bounds_of xs)) (laws.type_bounds_is false (bounds_of xs))
    (joined_ends (forms (map about_bound (bounds_of xs))) (bounds_end xs))

-- what a path begins with
start_ends : (x : PathStart) → laws.PathStartView x → Ends (about_start x).form
start_ends _ laws.IsLocal = subst EndsSo (sym laws.start_local_is) refl
start_ends _ laws.IsGlobal = subst EndsSo (sym laws.start_global_is) refl
start_ends _ (laws.IsQualified x None) = subst EndsSo (sym (laws.start_qualified_is x None)) refl
start_ends _ (laws.IsQualified x (Some p)) = subst EndsSo (sym (laws.start_qualified_is x (Some p))) refl

args_in : (s : PathStyle) {x : ArgsFacts} → ArgsEnd x → Ends (in_style s x).form
args_in Code k = k.in_code
args_in Kind k = k.in_kind

leaf_ends : (raw : Bool) (t : List _) (f : Form) (q : Bool) → Ends f → ends_behind_point q (leaf_of raw t f) ≡ false
leaf_ends true t f q h = h
leaf_ends false t f q h = h

segments_end : (s : PathStyle) (xs : List (Word × KeptArgs)) (q : Bool) → q ≡ false
    → ends_behind_point q (segments_form s (map about_segment (map (λ (y : Word × KeptArgs). (y.0, y.1.0)) xs))) ≡ false
segments_end s [] q e = e
segments_end s (x ∷ []) q e =
    leaf_ends x.0.raw x.0.text (Part (in_style s (about_args x.1.0)).form Done) q (args_in s x.1.1)
segments_end s (x ∷ y ∷ more) q e =
    leaf_ends x.0.raw x.0.text _ q (segments_end s (y ∷ more) false refl)

path_from : (p : Path) (xs : List (Word × KeptArgs)) → p.segments ≡ map (λ (y : Word × KeptArgs). (y.0, y.1.0)) xs
    → PathIs p
path_from p xs e = subst PathEnds (sym (laws.path_is p)) (record {
  go = λ s. ap (λ (ys : List (Word × Args)). ends_behind_point (ends_behind_point false (about_start p.start).form)
      (segments_form s (map about_segment ys))) e ∙ segments_end s xs _ (start_ends p.start (laws.start_view p.start));
})

path_step : (y : Kept Path-F) → PathIs (views.roll-Path (path_layer y))
path_step y = path_from _ y.segments refl

-- the same, of a layer that is this one
args_rolled : (x : Layer Args-F) (y : Kept Args-F) → args_layer y ≡ x → ArgsAre (views.roll-Args x)
args_rolled x y is = subst (λ z. ArgsAre (views.roll-Args z)) is (args_step y)

bound_rolled : (x : Layer Bound-F) (y : Kept Bound-F) → bound_layer y ≡ x → BoundIs (views.roll-Bound x)
bound_rolled x y is = subst (λ z. BoundIs (views.roll-Bound z)) is (bound_step y)

type_rolled : (x : Layer Ty-F) (y : Kept Ty-F) → type_layer y ≡ x → TypeIs (views.roll-Ty x)
type_rolled x y is = subst (λ z. TypeIs (views.roll-Ty z)) is (type_step y)

path_rolled : (x : Layer Path-F) (y : Kept Path-F) → path_layer y ≡ x → PathIs (views.roll-Path x)
path_rolled x y is = subst (λ z. PathIs (views.roll-Path z)) is (path_step y)

path_ends : (x : Path) → PathIs x
path_ends = type_fold.ind-Path ArgIs ArgsAre BoundIs ConstraintIs StartIs TypeIs ParamIs PathIs
    (λ x y is. tt) args_rolled bound_rolled (λ x y is. tt) (λ x y is. tt) type_rolled (λ x y is. tt) path_rolled

-- so an end of a span that is a path ends in no point
pub path_point : (e : SpanEnd) (p : Path) → e ≡ span_end.Path p → false ≡ ends_behind_point false (end_form e)
path_point e p is = rw is (sym ((path_ends p).go Code))
