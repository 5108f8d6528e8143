-- What generic parameters and where clauses need.
use Rattle.std.proofs.Common.{◌≡◌, ◌∙◌, true, false, List, [], ◌∷◌, map, codes, max, refl, ap, arith, Option, Some, None}
use Rattle.lay_form.specs.Depth.{least_depth}
use Rattle.lay_form.specs.Form.{Blank, Done, LastComma, Optional, Part, Piece, comma, keyword}
use Rattle.lay_node.specs.Words.{leaf_of}
use Rattle.lay_node.specs.nodes.Facts.{forms}
use Rattle.lay_node.specs.nodes.Generics.{bounded_form, const_default_form, default_form, generics_form, param_form}
use Rattle.lay_node.specs.nodes.Types.{about_bound, about_type, colon, greater, less}
use Rattle.lay_node.specs.nodes.Where.{meets_form, outlives_form, predicate_form, wheres_before_body, wheres_before_semicolon}
use Rattle.lay_node.specs.declared.attr.Attr.{Attr}
use Rattle.lay_node.specs.declared.generics.ConstDefault.{ConstDefault}
use Rattle.lay_node.specs.declared.generics.ConstDefault.TheVariants as const_default
use Rattle.lay_node.specs.declared.generics.GenericParam.{GenericParam}
use Rattle.lay_node.specs.declared.generics.GenericParam.TheVariants as param
use Rattle.lay_node.specs.declared.generics.Generics.{Generics}
use Rattle.lay_node.specs.declared.generics.Predicate.{Predicate}
use Rattle.lay_node.specs.declared.generics.Predicate.TheVariants as predicate
use Rattle.lay_node.specs.declared.generics.Wheres.{Wheres}
use Rattle.lay_node.specs.declared.token.Lifetime.{Lifetime}
use Rattle.lay_node.specs.declared.token.Name.{Name}
use Rattle.lay_node.specs.declared.types.Binder.{Binder}
use Rattle.lay_node.specs.declared.types.Bound.{Bound}
use Rattle.lay_node.specs.declared.types.LifetimeParam.{LifetimeParam}
use Rattle.lay_node.specs.declared.types.Ty.{Ty}
use Rattle.lay_depth.specs.nodes.Depths.{greatest, type_if}
use Rattle.lay_depth.proofs.nodes_lemmas.Forms.{leaf_is, list_is, param_attrs_are, predicates_are}
use Rattle.lay_depth.proofs.nodes_lemmas.TypeLemmas.{binder_is, bounds_are, const_is, lifetime_param_is, lifetimes_form_is}

-- ---- bounds, and types that may be left out

pub bounded_is : (bounds : List Bound) → least_depth (bounded_form bounds) ≡ greatest (forms (map about_bound bounds))
bounded_is [] = refl
bounded_is (b ∷ bs) = let m = bounds_are (map about_bound (b ∷ bs)) in omega (arith, m)

pub default_is : (default : Option Ty) → least_depth (default_form default) ≡ type_if default
default_is None = refl
default_is (Some x) = omega arith

const_default_is : (default : Option ConstDefault) → least_depth (const_default_form default) ≡ 0
const_default_is None = refl
const_default_is (Some (const_default.Arg value)) = let m = const_is value in omega (arith, m)
const_default_is (Some (const_default.Name name)) = leaf_is name.raw name.text Done

-- ---- generic parameters

pub region_param_is : (x : GenericParam) (p : LifetimeParam) → x ≡ param.Region p → least_depth (param_form x) ≡ 0
region_param_is x p is = ap (λ (z : GenericParam). least_depth (param_form z)) is ∙ lifetime_param_is p

pub named_param_is : (x : GenericParam) (attrs : List Attr) (name : Name) (bounds : List Bound) (default : Option Ty)
    → x ≡ param.Named attrs name bounds default
    → least_depth (param_form x) ≡ max (greatest (forms (map about_bound bounds))) (type_if default)
named_param_is x attrs name bounds default is =
    let f = Part (bounded_form bounds) (Part (default_form default) Done) in
    ap (λ (z : GenericParam). least_depth (param_form z)) is ∙ param_attrs_are attrs (leaf_of name.raw name.text f) ∙ leaf_is name.raw name.text f
    ∙ (let m = bounded_is bounds in
    let n = default_is default in omega (arith, m, n))

pub const_param_is : (x : GenericParam) (attrs : List Attr) (name : Name) (ty : Ty) (default : Option ConstDefault)
    → x ≡ param.Const attrs name ty default → least_depth (param_form x) ≡ least_depth (about_type ty).told.form
const_param_is x attrs name ty default is =
    let f = Piece colon (Part (about_type ty).told.form (Part (const_default_form default) Done)) in
    ap (λ (z : GenericParam). least_depth (param_form z)) is
    ∙ param_attrs_are attrs (Piece (keyword (codes "const") ∷ Blank ∷ []) (leaf_of name.raw name.text f)) ∙ leaf_is name.raw name.text f
    ∙ (let m = const_default_is default in omega (arith, m))

params_are : (ps : List GenericParam) → least_depth (generics_form (record { params = ps })) ≡ greatest (map param_form ps)
params_are [] = refl
params_are (p ∷ ps) = list_is true less greater (map param_form (p ∷ ps))

pub generics_are : (generics : Generics) → least_depth (generics_form generics) ≡ greatest (map param_form generics.params)
generics_are generics = params_are generics.params

-- ---- where clauses

outlives_is : (ls : List Lifetime) → least_depth (outlives_form ls) ≡ 0
outlives_is [] = refl
outlives_is (l ∷ ls) = lifetimes_form_is (l ∷ ls)

meets_is : (bounds : List Bound) → least_depth (meets_form bounds) ≡ greatest (forms (map about_bound bounds))
meets_is [] = refl
meets_is (b ∷ bs) = let m = bounds_are (map about_bound (b ∷ bs)) in omega (arith, m)

pub region_predicate_is : (x : Predicate) (l : Lifetime) (ls : List Lifetime) → x ≡ predicate.Region l ls → least_depth (predicate_form x) ≡ 0
region_predicate_is x l ls is =
    ap (λ (z : Predicate). least_depth (predicate_form z)) is ∙ (let m = outlives_is ls in omega (arith, m))

pub bounded_predicate_is : (x : Predicate) (binder : Option Binder) (ty : Ty) (bounds : List Bound) → x ≡ predicate.Bounded binder ty bounds
    → least_depth (predicate_form x) ≡ max (least_depth (about_type ty).told.form) (greatest (forms (map about_bound bounds)))
bounded_predicate_is x binder ty bounds is =
    ap (λ (z : Predicate). least_depth (predicate_form z)) is ∙ binder_is binder (Part (about_type ty).told.form (meets_form bounds))
    ∙ (let m = meets_is bounds in omega (arith, m))

pub before_body_is : (wheres : Wheres) → least_depth (wheres_before_body wheres) ≡ greatest (map predicate_form wheres.predicates)
before_body_is wheres = predicates_are (LastComma 1 Done) refl (map predicate_form wheres.predicates)

pub before_semicolon_is : (wheres : Wheres) → least_depth (wheres_before_semicolon wheres) ≡ greatest (map predicate_form wheres.predicates)
before_semicolon_is wheres = predicates_are (Optional false comma Done) refl (map predicate_form wheres.predicates)
