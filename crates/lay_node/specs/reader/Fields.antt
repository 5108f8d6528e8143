-- The parser of fields, and of the variants of enumerations.
use Rattle.std.specs.Prelude.{false, if◌then◌else◌, List, drop, codes, Some, None}
use Rattle.lay_token.specs.Operators.{is_op}
use Rattle.lay_piece.specs.declared.kind.Delim.TheVariants.{Paren, Brace}
use Rattle.lay_node.specs.Ahead.{Tokens, first, opens, closes}
use Rattle.lay_node.specs.nodes.Attr.{is_empty}
use Rattle.lay_node.specs.reader.Attr.{attributes}
use Rattle.lay_node.specs.reader.Loops.{Got, Read, ◌>>=◌, passed, nodes, deepest, elements}
use Rattle.lay_node.specs.reader.Tokens.{tokens_before_comma}
use Rattle.lay_node.specs.reader.Types.{Within, if_there, operator}
use Rattle.lay_node.specs.reader.Vis.{visibility}
use Rattle.lay_node.specs.reader.Words.{name}
use Rattle.lay_node.specs.declared.fields.Field.{Field}
use Rattle.lay_node.specs.declared.fields.Fields.{Fields}
use Rattle.lay_node.specs.declared.fields.Fields.TheVariants as fields
use Rattle.lay_node.specs.declared.fields.TupleField.{TupleField}
use Rattle.lay_node.specs.declared.fields.Variant.{Variant}
use Rattle.lay_node.specs.declared.token.Listed.{Listed}
use Rattle.lay_node.specs.declared.types.TypePlace.TheVariants.{Bounds}

unfoldable pub tuple_field : Within → Tokens → Read TupleField
tuple_field within ts = do
  attrs ← attributes false ts
  v ← visibility attrs.1
  x ← within.types Bounds v.1
  Some ((record { attrs = attrs.0; vis = v.0; ty = x.0.0 }, x.0.1), x.1)

unfoldable pub field : Within → Tokens → Read Field
field within ts = do
  attrs ← attributes false ts
  v ← visibility attrs.1
  n ← name v.1
  at ← operator (codes ":") n.1
  x ← within.types Bounds at
  Some ((record { attrs = attrs.0; vis = v.0; name = n.0; ty = x.0.0 }, x.0.1), x.1)

unfoldable pub tuple_fields : Within → Tokens → Read (List TupleField)
tuple_fields within ts = do
  inside ← passed (opens Paren) ts
  xs ← elements (closes Paren) (tuple_field within) inside
  Some ((nodes xs.0, deepest xs.0), xs.1)

unfoldable pub named_fields : Within → Tokens → Read (List Field)
named_fields within ts = do
  inside ← passed (opens Brace) ts
  xs ← elements (closes Brace) (field within) inside
  Some ((nodes xs.0, deepest xs.0), xs.1)

-- ---- variants

unfoldable pub variant_fields : Within → Tokens → Read Fields
variant_fields within ts =
    if first (opens Paren) ts then (do fs ← tuple_fields within ts; Some ((fields.Tuple fs.0.0, fs.0.1), fs.1))
    else (if first (opens Brace) ts then (do fs ← named_fields within ts; Some ((fields.Named fs.0.0, fs.0.1), fs.1))
    else Some ((fields.Unit, 0), ts))

-- after the `=`
unfoldable pub discriminant : Tokens → Got (List Listed)
discriminant ts = do us ← tokens_before_comma ts; if is_empty us.0 then None else Some us

unfoldable pub variant : Within → Tokens → Read Variant
variant within ts = do
  attrs ← attributes false ts
  v ← visibility attrs.1
  n ← name v.1
  fs ← variant_fields within n.1
  d ← if_there (is_op (codes "=") fs.1) (λ us. discriminant (drop 1 us)) fs.1
  Some ((record { attrs = attrs.0; vis = v.0; name = n.0; fields = fs.0.0; discriminant = d.0 }, fs.0.1), d.1)

unfoldable pub variants : Within → Tokens → Read (List Variant)
variants within ts = do
  inside ← passed (opens Brace) ts
  xs ← elements (closes Brace) (variant within) inside
  Some ((nodes xs.0, deepest xs.0), xs.1)
