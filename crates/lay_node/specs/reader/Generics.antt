-- The parser of generic parameters.
use Rattle.std.specs.Prelude.{ℕ, max, Bool, true, false, if◌then◌else◌, List, [], drop, codes, Some}
use Rattle.lay_token.specs.Operators.{is_op}
use Rattle.lay_node.specs.Ahead.{Tokens, first, tail, is_keyword, is_lifetime, is_mark}
use Rattle.lay_node.specs.Begins.{begins_bound}
use Rattle.lay_node.specs.reader.Attr.{attributes}
use Rattle.lay_node.specs.reader.Loops.{Got, Read, ◌>>=◌, nodes, deepest}
use Rattle.lay_node.specs.reader.Types.{Within, all_bounds, alone_at, angled, begins_const, const, if_read, if_there, lifetime_behind, operator}
use Rattle.lay_node.specs.reader.Words.{name}
use Rattle.lay_node.specs.declared.attr.Attr.{Attr}
use Rattle.lay_node.specs.declared.generics.ConstDefault.{ConstDefault}
use Rattle.lay_node.specs.declared.generics.ConstDefault.TheVariants as const_default
use Rattle.lay_node.specs.declared.generics.GenericParam.{GenericParam}
use Rattle.lay_node.specs.declared.generics.GenericParam.TheVariants as param
use Rattle.lay_node.specs.declared.generics.Generics.{Generics}
use Rattle.lay_node.specs.declared.types.Bound.{Bound}
use Rattle.lay_node.specs.declared.types.TypePlace.TheVariants.{Bounds}

-- the bounds after a `:`; no bounds where none begins
abbrev pub met : Within → Tokens → Read (List Bound)
met within ts = if begins_bound ts then all_bounds within ts else Some (([], 0), ts)

-- the bounds of a parameter, if a `:` stands there
abbrev pub met_if : Within → Tokens → Read (List Bound)
met_if within ts = if is_op (codes ":") ts then met within (drop 1 ts) else Some (([], 0), ts)

-- a type parameter, after its attributes
unfoldable pub type_param : Within → List Attr → Tokens → Read GenericParam
type_param within attrs ts = do
  n ← name ts
  bounds ← met_if within n.1
  default ← if_read (is_op (codes "=") bounds.1) (λ us. within.types Bounds (drop 1 us)) bounds.1
  Some ((param.Named attrs n.0 bounds.0.0 default.0.0, max bounds.0.1 default.0.1), default.1)

abbrev pub const_default_at : Tokens → Got ConstDefault
const_default_at ts =
    if begins_const ts then (do c ← const ts; Some (const_default.Arg c.0, c.1))
    else (do n ← name ts; Some (const_default.Name n.0, n.1))

unfoldable pub const_param : Within → List Attr → Tokens → Read GenericParam
const_param within attrs ts = do
  n ← name ts
  at ← operator (codes ":") n.1
  x ← within.types Bounds at
  default ← if_there (is_op (codes "=") x.1) (λ us. const_default_at (drop 1 us)) x.1
  Some ((param.Const attrs n.0 x.0.0 default.0, x.0.1), default.1)

abbrev pub param_by : Within → List Attr → Tokens → Read GenericParam
param_by within attrs ts =
    if first is_lifetime ts then (do l ← lifetime_behind attrs ts; Some ((param.Region l.0, 0), l.1))
    else (if first (is_keyword (codes "const")) ts then const_param within attrs (tail ts) else type_param within attrs ts)

unfoldable pub one_param : Within → Tokens → Read GenericParam
one_param within ts = do attrs ← attributes false ts; param_by within attrs.0 attrs.1

-- generic parameters, and whether `<` and `>` are spelled
unfoldable pub generics : Within → Tokens → Read (Generics × Bool)
generics within ts =
    if first (is_mark (codes "<")) ts then (do
      ps ← angled (one_param within) ts
      Some (((record { params = nodes ps.0 }, true), deepest ps.0), ps.1))
    else Some (((record { params = [] }, false), 0), ts)

abbrev pub generics_at : ℕ → Tokens → Read (Generics × Bool)
generics_at = alone_at generics
