-- Types that are built.
use Rattle.std.proofs.Common.{◌≡◌, ◌∙◌, ◌≤◌, ℕ, ◌+◌, max, Bool, true, false, ◌&&◌, not, List, [], ◌∷◌, map, None, refl, sym, ap, subst, arith}
use Rattle.std.specs.List.{AllByRecursion, list_all}
use Rattle.std.proofs.lemmas.Bool.{and_parts, and_from}
use Rattle.lay_piece.specs.Characters as char
use Rattle.lay_piece.specs.declared.kind.Delim.TheVariants.{Paren}
use Rattle.lay_form.specs.Depth.{least_depth}
use Rattle.lay_form.specs.Form.{Blank, Done, Form, Part, closer, keyword, opener}
use Rattle.lay_form.specs.Notation.{when}
use Rattle.lay_form.specs.Pieces.{are_pieces}
use Rattle.std.specs.Prelude.{codes}
use Rattle.lay_node.specs.nodes.Facts.{Facts, all_good, forms}
use Rattle.lay_node.specs.nodes.Types.{ArgsFacts, PathFacts, TypeFacts, about_arg, about_args, about_bound, about_constraint, about_func_param, about_path, about_start, about_type, all_types_good, arg_facts, args_facts, bound_facts, constraint_facts, func_param_facts, good_at, path_facts, start_facts, ty_facts, greater, less, tuple_form, type_forms}
use Rattle.lay_node.specs.declared.token.Name.{Name}
use Rattle.lay_node.specs.declared.types.Arg.{Arg}
use Rattle.lay_node.specs.declared.types.Arg.TheFolds.{fold-roll-Ty}
use Rattle.lay_node.specs.declared.types.Arg.TheOpen.{Args-F, Ty-F}
use Rattle.lay_node.specs.declared.types.Arg.TheVariants as arg
use Rattle.lay_node.specs.declared.types.Arg.TheViews.{out-Ty, roll-Ty, roll-out-Ty}
use Rattle.lay_node.specs.declared.types.Args.{Args}
use Rattle.lay_node.specs.declared.types.Bound.{Bound}
use Rattle.lay_node.specs.declared.types.Constraint.{Constraint}
use Rattle.lay_node.specs.declared.types.FuncParam.{FuncParam}
use Rattle.lay_node.specs.declared.types.Path.{Path}
use Rattle.lay_node.specs.declared.types.PathStart.{PathStart}
use Rattle.lay_node.specs.declared.types.PathStyle.TheVariants.{Kind}
use Rattle.lay_node.specs.declared.types.Ty.{Ty}
use Rattle.lay_node.specs.declared.types.TypePlace.TheVariants.{Bounds, NoBounds}
use Rattle.lay_node.proofs.nodes.TypesLaws as laws
use Rattle.lay_depth.specs.nodes.Depths.{greatest}
use Rattle.lay_depth.proofs.nodes_lemmas.Forms.{list_is, when_is}
use Rattle.lay_build_types.specs.Answers.{IsKept, IsMade}
use Rattle.lay_build_types.specs.Kinds.{IsType, form_of_type}
use Rattle.lay_build_types.specs.Nodes as node
use Rattle.lay_build_types.proofs.PathLemmas.{GoodArgs, KeptName, KeptNames, good_none, no_args, path_depth, path_good}
use Rattle.lay_build_types.proofs.PieceLemmas.{AllPieces, Pieces, ended, front, list_pieces, when_pieces}

abbrev pub KeptType : Ty → Type 0
KeptType t = IsKept form_of_type IsType t

abbrev pub KeptTypes : List Ty → Type 0
KeptTypes ts = AllByRecursion KeptType ts

-- ---- the facts about one and about several

-- It stands where one bound alone may, and so where several may.
pub bounded : (x : TypeFacts) → good_at NoBounds x ≡ true → good_at Bounds x ≡ true
bounded x h = (and_parts x.told.good (not x.several) h).0

made_by : (t : Ty) (facts : TypeFacts) → about_type t ≡ facts → are_pieces facts.told.form ≡ true → good_at NoBounds facts ≡ true
    → IsMade form_of_type IsType t
made_by t facts is pieces good = record {
  pieces = ap (λ (x : TypeFacts). are_pieces x.told.form) is ∙ pieces;
  holding = ap (good_at NoBounds) is ∙ good;
}

-- It needs 1 at least.
some_layer : (y : Ty-F Facts ArgsFacts Facts Facts Facts TypeFacts Facts PathFacts) → 1 ≤ least_depth (ty_facts y).told.form
some_layer (Ty-F.Path path) = omega arith
some_layer (Ty-F.Call call) = omega arith
some_layer (Ty-F.Paren inner) = omega arith
some_layer (Ty-F.Tuple elements) = omega arith
some_layer Ty-F.Never = omega arith
some_layer Ty-F.Infer = omega arith
some_layer (Ty-F.Ptr mutable inner) = omega arith
some_layer (Ty-F.Ref lifetime mutable inner) = omega arith
some_layer (Ty-F.Slice inner) = omega arith
some_layer (Ty-F.Array inner length) = omega arith
some_layer (Ty-F.Func binder is_unsafe abi params variadic output) = omega arith
some_layer (Ty-F.Bounds dynamic bounds) = omega arith

rolled_some : (y : Ty-F Arg Args Bound Constraint PathStart Ty FuncParam Path) → 1 ≤ least_depth (about_type (roll-Ty y)).told.form
unfolding about_type about_path about_start about_args about_arg about_constraint about_bound about_func_param
rolled_some y =
    subst (λ (x : TypeFacts). 1 ≤ least_depth x.told.form)
    (sym (fold-roll-Ty Facts ArgsFacts Facts Facts Facts TypeFacts Facts PathFacts
    arg_facts args_facts bound_facts constraint_facts start_facts ty_facts func_param_facts path_facts y))
    (some_layer _)

pub type_some : (t : Ty) → 1 ≤ least_depth (form_of_type t)
type_some t = subst (λ (x : Ty). 1 ≤ least_depth (about_type x).told.form) (roll-out-Ty t) (rolled_some (out-Ty t))

types_pieces : (ts : List Ty) → KeptTypes ts → AllPieces (type_forms (map about_type ts))
types_pieces [] all = tt
types_pieces (t ∷ ts) all = (all.0.made.pieces, types_pieces ts all.1)

types_good : (ts : List Ty) → KeptTypes ts → all_types_good (map about_type ts) ≡ true
types_good [] all = refl
types_good (t ∷ ts) all =
    and_from (good_at Bounds (about_type t)) (all_types_good (map about_type ts)) (bounded (about_type t) all.0.made.holding) (types_good ts all.1)

greatest_types : (ts : List Ty) → greatest (type_forms (map about_type ts)) ≡ greatest (map form_of_type ts)
greatest_types [] = refl
greatest_types (t ∷ ts) = ap (max (least_depth (form_of_type t))) (greatest_types ts)

-- ---- generic arguments

args_told : (ts : List Ty) → forms (map about_arg (map arg.Plain ts)) ≡ type_forms (map about_type ts)
args_told [] = refl
args_told (t ∷ ts) =
    ap (λ (x : Facts). x.form ∷ forms (map about_arg (map arg.Plain ts))) (laws.arg_plain_is t)
    ∙ ap (λ (es : List Form). form_of_type t ∷ es) (args_told ts)

args_good : (ts : List Ty) → KeptTypes ts → all_good (map about_arg (map arg.Plain ts)) ≡ true
args_good [] all = refl
args_good (t ∷ ts) all =
    and_from (about_arg (arg.Plain t)).good (all_good (map about_arg (map arg.Plain ts)))
    (ap (λ (x : Facts). x.good) (laws.arg_plain_is t) ∙ bounded (about_type t) all.0.made.holding) (args_good ts all.1)

type_args_good : (ts : List Ty) → KeptTypes ts → GoodArgs Kind (about_args (node.type_args ts))
type_args_good [] all = subst (GoodArgs Kind) (sym laws.args_none_is) (good_none Kind)
type_args_good (t ∷ ts) all =
    let given = map arg.Plain (t ∷ ts) in
    let h : GoodArgs Kind (args_facts (Args-F.Angle (map about_arg given))) =
    record {
      pieces = list_pieces true less greater (forms (map about_arg given)) (subst AllPieces (sym (args_told (t ∷ ts))) (types_pieces (t ∷ ts) all));
      good = args_good (t ∷ ts) all;
      returns = refl;
    } in
    subst (GoodArgs Kind) (sym (laws.args_angle_is given)) h

args_depth : (ts : List Ty) → least_depth (about_args (node.type_args ts)).kind.form ≡ greatest (map form_of_type ts)
args_depth [] = no_args
args_depth (t ∷ ts) =
    let given = map arg.Plain (t ∷ ts) in
    ap (λ (a : ArgsFacts). least_depth a.kind.form) (laws.args_angle_is given)
    ∙ list_is true less greater (forms (map about_arg given)) ∙ ap greatest (args_told (t ∷ ts)) ∙ greatest_types (t ∷ ts)

-- ---- the calls

module _ (first : Name) (rest : List Name) (ts : List Ty) where
  pub path_type_made : KeptName first → KeptNames rest → KeptTypes ts → IsMade form_of_type IsType (node.type_path first rest ts)
  path_type_made kept names types =
      let p = node.path first rest (node.type_args ts) in
      let h = path_good first rest (node.type_args ts) Kind kept names (type_args_good ts types) in
      made_by (node.type_path first rest ts) _ (laws.type_path_is p) (ended (are_pieces (about_path p Kind).form) h.pieces)
      (ended (about_path p Kind).good h.good)

  pub path_type_need : least_depth (form_of_type (node.type_path first rest ts)) ≡ greatest (map form_of_type ts) + 1
  path_type_need =
      let p = node.path first rest (node.type_args ts) in
      let h = ap (λ (x : TypeFacts). least_depth x.told.form) (laws.type_path_is p) in
      let within = path_depth first rest (node.type_args ts) ∙ args_depth ts in omega (arith, h, within)

module _ (writable : Bool) (t : Ty) where
  pub ref_made : KeptType t → IsMade form_of_type IsType (node.type_ref writable t)
  ref_made kept =
      let within = Part (form_of_type t) Done in
      let pointed = are_pieces (when writable (keyword (codes "mut") ∷ Blank ∷ []) within) in
      made_by (node.type_ref writable t) _ (laws.type_ref_is None writable t)
      (ended pointed (when_pieces writable (keyword (codes "mut") ∷ Blank ∷ []) within (ended (are_pieces (form_of_type t)) kept.made.pieces)))
      (ended (good_at NoBounds (about_type t)) kept.made.holding)

  pub ref_need : least_depth (form_of_type (node.type_ref writable t)) ≡ least_depth (form_of_type t) + 1
  ref_need =
      let h = ap (λ (x : TypeFacts). least_depth x.told.form) (laws.type_ref_is None writable t) in
      let within = when_is writable (keyword (codes "mut") ∷ Blank ∷ []) (Part (form_of_type t) Done) in omega (arith, h, within)

tuple_depth : (xs : List TypeFacts) → least_depth (tuple_form xs) ≡ greatest (type_forms xs)
tuple_depth [] = refl
tuple_depth (x ∷ []) = omega arith
tuple_depth (x ∷ y ∷ xs) = list_is true (opener Paren) (closer Paren) (type_forms (x ∷ y ∷ xs))

tuple_pieces : (ts : List Ty) → KeptTypes ts → Pieces (tuple_form (map about_type ts))
tuple_pieces [] all = refl
tuple_pieces (t ∷ []) all = ended (are_pieces (form_of_type t)) all.0.made.pieces
tuple_pieces (t ∷ u ∷ ts) all =
    list_pieces true (opener Paren) (closer Paren) (type_forms (map about_type (t ∷ u ∷ ts))) (types_pieces (t ∷ u ∷ ts) all)

pub tuple_made : (ts : List Ty) → KeptTypes ts → IsMade form_of_type IsType (node.type_tuple ts)
tuple_made ts all =
    made_by (node.type_tuple ts) _ (laws.type_tuple_is ts) (ended (are_pieces (tuple_form (map about_type ts))) (tuple_pieces ts all))
    (ended (all_types_good (map about_type ts)) (types_good ts all))

pub tuple_need : (ts : List Ty) → least_depth (form_of_type (node.type_tuple ts)) ≡ greatest (map form_of_type ts) + 1
tuple_need ts =
    let h = ap (λ (x : TypeFacts). least_depth x.told.form) (laws.type_tuple_is ts) in
    let within = tuple_depth (map about_type ts) in
    let same = greatest_types ts in omega (arith, h, within, same)
