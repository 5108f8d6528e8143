-- Generic parameters tell their units.
use Rattle.std.proofs.Common.{◌≡◌, true, false, ◌&&◌, List, [], ◌∷◌, ◌++◌, codes, map, refl, Option, Some, None}
use Rattle.std.specs.List.{list_all}
use Rattle.std.proofs.lemmas.Bool.{and_parts}
use Rattle.lay_form.specs.Form.{Blank, Done, Part, keyword}
use Rattle.lay_node.specs.Words.{is_name}
use Rattle.lay_node.specs.nodes.Attr.{are_attrs}
use Rattle.lay_node.specs.nodes.Generics.{are_bounds, bounded_form, const_default_form, default_form, generics_form, is_const_default, is_default, is_generics, is_param, param_form}
use Rattle.lay_node.specs.nodes.Types.{about_bound, about_type, colon, equals}
use Rattle.lay_node.specs.declared.generics.ConstDefault.{ConstDefault}
use Rattle.lay_node.specs.declared.generics.ConstDefault.TheVariants as const_default
use Rattle.lay_node.specs.declared.generics.GenericParam.{GenericParam}
use Rattle.lay_node.specs.declared.generics.GenericParam.TheVariants as param
use Rattle.lay_node.specs.declared.generics.Generics.{Generics}
use Rattle.lay_node.specs.declared.types.Bound.{Bound}
use Rattle.lay_node.specs.declared.types.Ty.{Ty}
use Rattle.lay_map.specs.spelling.Units.{Word, words}
use Rattle.lay_map.proofs.FrontRules.{Skipped, angles, left_out}
use Rattle.lay_map.proofs.Rules.{Tells, each_of, ends, fixed, part, part_to}
use Rattle.lay_map.proofs.nodes.Attrs.{word}
use Rattle.lay_map.proofs.nodes.TypeArgs.{Each, NodeTells, bounds_tell}
use Rattle.lay_map.proofs.nodes.TypeParts.{NoColon, angle_list, const_tells, idle_tells, lifetime_param_tells, param_attrs_tell}
use Rattle.lay_map.proofs.nodes.Types.{bound_told, type_tells}

-- ---- bounds and defaults

pub each_bound : (bs : List Bound) → Each NodeTells (map about_bound bs)
each_bound [] = tt
each_bound (b ∷ bs) = (bound_told b, each_bound bs)

-- Without bounds a `:` may be spelled.
pub bounded_tells : (bs : List Bound) → are_bounds bs ≡ true → Tells NoColon (bounded_form bs)
bounded_tells [] g = idle_tells
bounded_tells (b ∷ bs) g = fixed colon refl (part (bounds_tell (map about_bound (b ∷ bs)) (each_bound (b ∷ bs)) g) ends)

pub default_tells : {Next : List Word → Type 0} (x : Option Ty) → is_default x ≡ true → Tells Next (default_form x)
default_tells None g = ends
default_tells (Some x) g = fixed equals refl (part (type_tells x g) ends)

-- A default, and else what follows it, begins with no `:`.
pub no_colon : (x : Option Ty) (ws : List Word) → NoColon ws → NoColon (words (Part (default_form x) Done) ++ ws)
no_colon None ws n = n
no_colon (Some x) ws n = refl

const_default_tells : {Next : List Word → Type 0} (x : Option ConstDefault) → is_const_default x ≡ true → Tells Next (const_default_form x)
const_default_tells None g = ends
const_default_tells (Some (const_default.Arg value)) g = fixed equals refl (part (const_tells value g) ends)
const_default_tells (Some (const_default.Name n)) g = fixed equals refl (word n.raw n.text ends)

-- ---- parameters

param_tells : (p : GenericParam) → is_param p ≡ true → Tells NoColon (param_form p)
param_tells (param.Region l) g = lifetime_param_tells l g
param_tells (param.Named attrs name bounds default) g =
    let n1 = and_parts (are_attrs false attrs && is_name name.raw name.text && are_bounds bounds) (is_default default) g in
    let n2 = and_parts (are_attrs false attrs && is_name name.raw name.text) (are_bounds bounds) n1.0 in
    let n3 = and_parts (are_attrs false attrs) (is_name name.raw name.text) n2.0 in
    param_attrs_tell attrs n3.0
    (word name.raw name.text (part_to (no_colon default) (bounded_tells bounds n2.1) (part (default_tells default n1.1) ends)))
param_tells (param.Const attrs name x default) g =
    let n1 = and_parts (are_attrs false attrs && is_name name.raw name.text && (about_type x).told.good) (is_const_default default) g in
    let n2 = and_parts (are_attrs false attrs && is_name name.raw name.text) (about_type x).told.good n1.0 in
    let n3 = and_parts (are_attrs false attrs) (is_name name.raw name.text) n2.0 in
    param_attrs_tell attrs n3.0 (fixed (keyword (codes "const") ∷ Blank ∷ []) refl
    (word name.raw name.text (fixed colon refl (part (type_tells x n2.1) (part (const_default_tells default n1.1) ends)))))

-- ---- in `<` and `>`

-- The next word is neither `<` nor `>`.
abbrev pub NoAngles : List Word → Type 0
NoAngles ws = Skipped angles ws

-- Without parameters `<>` may be spelled.
pub generics_tell : (generics : Generics) → is_generics generics ≡ true → Tells NoAngles (generics_form generics)
generics_tell generics g = by generics.params g
  where
    by : (ps : List GenericParam) → is_generics (record { params = ps }) ≡ true → Tells NoAngles (generics_form (record { params = ps }))
    by [] g = left_out angles (λ w ws n. n) ends
    by (p ∷ ps) g = angle_list (map param_form (p ∷ ps)) (each_of (Tells NoColon) param_form is_param param_tells (p ∷ ps) g)

-- whatever follows, where there are some
pub some_generics_tell : {Next : List Word → Type 0} (p : GenericParam) (ps : List GenericParam) → list_all is_param (p ∷ ps) ≡ true
    → Tells Next (generics_form (record { params = p ∷ ps }))
some_generics_tell p ps g = angle_list (map param_form (p ∷ ps)) (each_of (Tells NoColon) param_form is_param param_tells (p ∷ ps) g)
