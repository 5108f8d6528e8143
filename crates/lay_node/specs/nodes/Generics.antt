-- Generic parameters: when they are well formed, their forms, and what may follow (Rust Reference,
-- "Generic parameters").
use Rattle.std.specs.Prelude.{ℕ, ◌&&◌, ◌||◌, not, Bool, true, false, List, [], ◌∷◌, map, codes, Option, Some, None}
use Rattle.std.specs.List.{list_all}
use Rattle.lay_form.specs.Form.{Blank, Form, Done, Piece, Part, Optional, keyword}
use Rattle.lay_form.specs.Notation.{comma_list}
use Rattle.lay_form.specs.Spelled as spelled
use Rattle.lay_node.specs.Ahead.{Tokens, first, is_mark}
use Rattle.lay_node.specs.Words.{is_name, leaf_of}
use Rattle.lay_node.specs.nodes.Attr.{are_attrs}
use Rattle.lay_node.specs.nodes.Types.{about_bound, about_type, bounds_form, bounds_good, colon, const_form, deeper, equals, good_at, greater, idle_colon, is_const, is_lifetime_param, is_there, less, lifetime_param_form, param_attrs}
use Rattle.lay_node.specs.declared.generics.ConstDefault.{ConstDefault}
use Rattle.lay_node.specs.declared.generics.ConstDefault.TheVariants as const_default
use Rattle.lay_node.specs.declared.generics.GenericParam.{GenericParam}
use Rattle.lay_node.specs.declared.generics.GenericParam.TheVariants as param
use Rattle.lay_node.specs.declared.generics.Generics.{Generics}
use Rattle.lay_node.specs.declared.types.Bound.{Bound}
use Rattle.lay_node.specs.declared.types.Ty.{Ty}
use Rattle.lay_node.specs.declared.types.TypePlace.TheVariants.{Bounds}

-- `: ` and bounds. Without bounds a `:` may be spelled.
abbrev pub bounded_form : List Bound → Form
bounded_form [] = idle_colon
bounded_form (b ∷ bs) = Piece colon (Part (bounds_form (map about_bound (b ∷ bs))) Done)

-- no bounds, or well-formed ones
abbrev pub are_bounds : List Bound → Bool
are_bounds [] = true
are_bounds (b ∷ bs) = bounds_good (map about_bound (b ∷ bs))

abbrev pub default_form : Option Ty → Form
default_form None = Done
default_form (Some x) = Piece equals (Part (about_type x).told.form Done)

abbrev pub is_default : Option Ty → Bool
is_default None = true
is_default (Some x) = good_at Bounds (about_type x)

abbrev pub const_default_form : Option ConstDefault → Form
const_default_form None = Done
const_default_form (Some (const_default.Arg value)) = Piece equals (Part (const_form value) Done)
const_default_form (Some (const_default.Name name)) = Piece equals (leaf_of name.raw name.text Done)

abbrev pub is_const_default : Option ConstDefault → Bool
is_const_default None = true
is_const_default (Some (const_default.Arg value)) = is_const value
is_const_default (Some (const_default.Name name)) = is_name name.raw name.text

abbrev pub param_form : GenericParam → Form
param_form (param.Region l) = lifetime_param_form l
param_form (param.Named attrs name bounds default) =
    param_attrs attrs (leaf_of name.raw name.text (Part (bounded_form bounds) (Part (default_form default) Done)))
param_form (param.Const attrs name x default) =
    param_attrs attrs (Piece (keyword (codes "const") ∷ Blank ∷ [])
    (leaf_of name.raw name.text (Piece colon (Part (about_type x).told.form (Part (const_default_form default) Done)))))

abbrev pub is_param : GenericParam → Bool
is_param (param.Region l) = is_lifetime_param l
is_param (param.Named attrs name bounds default) = are_attrs false attrs && is_name name.raw name.text && are_bounds bounds && is_default default
is_param (param.Const attrs name x default) =
    are_attrs false attrs && is_name name.raw name.text && good_at Bounds (about_type x) && is_const_default default

abbrev pub is_generics : Generics → Bool
is_generics generics = list_all is_param generics.params

abbrev pub params_list : Generics → Form
params_list generics = comma_list true less greater (map param_form generics.params)

-- The parameters in `<` and `>`. Without parameters nothing is laid out, and `<>` may be spelled.
abbrev pub generics_form : Generics → Form
generics_form generics = by generics.params
  where
    by : List GenericParam → Form
    by [] = Optional false (less ∷ greater ∷ []) Done
    by (p ∷ ps) = params_list generics

-- the same, by whether `<` and `>` are spelled
abbrev pub generics_spelled : Bool → Generics → Form
generics_spelled true generics = params_list generics
generics_spelled false generics = Done

-- Where `<` and `>` aren't spelled, no `<` may follow.
abbrev pub generics_follow : Bool → Tokens → Bool
generics_follow is_spelled ts = is_spelled || not (first (is_mark (codes "<")) ts)

abbrev pub GenericsAt : Bool → Generics → Tokens → ℕ → ℕ → Type 0
GenericsAt is_spelled generics ts n depth =
    spelled.Front (deeper (generics_spelled is_spelled generics)) ((is_spelled || not (is_there generics.params)) && is_generics generics)
    (generics_follow is_spelled) ts n depth

-- Generic parameters by themselves stand at the start of the tokens, spelled in one of the two
-- ways.
abbrev pub GenericsFront : Generics → Tokens → ℕ → ℕ → Type 0
GenericsFront generics ts n depth = (is_spelled : Bool) × GenericsAt is_spelled generics ts n depth
