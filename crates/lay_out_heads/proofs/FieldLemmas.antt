-- The streams of visibilities, of fields and of variants.
use Rattle.std.proofs.Common.{◌≡◌, true, false, List, [], ◌∷◌, ◌++◌, map, codes, Option, Some, refl, ap, ◌∙◌}
use Rattle.lay_layout.specs.declared.layout.Tok.{Tok}
use Rattle.lay_layout.specs.declared.layout.Tok.TheVariants as tok
use Rattle.lay_piece.specs.declared.kind.Delim.TheVariants.{Paren}
use Rattle.lay_form.specs.Form.{Form, Blank, Done, Part, Piece, closer}
use Rattle.lay_form.specs.Notation.{behind_attrs, piece}
use Rattle.lay_form.specs.Stream.{stream_of}
use Rattle.lay_node.specs.Words.{leaf_of}
use Rattle.lay_node.specs.nodes.Attr.{attr_form}
use Rattle.lay_node.specs.nodes.Fields.{discriminant_form, field_form, fields_form, tuple_field_form, variant_form}
use Rattle.lay_node.specs.nodes.SimplePath.{simple_path_form}
use Rattle.lay_node.specs.nodes.Types.{about_type, colon}
use Rattle.lay_node.specs.nodes.Vis.{vis_form}
use Rattle.lay_node.specs.tokens.Lists.{token_list}
use Rattle.lay_node.specs.declared.attr.Attr.{Attr}
use Rattle.lay_node.specs.declared.fields.Field.{Field}
use Rattle.lay_node.specs.declared.fields.TupleField.{TupleField}
use Rattle.lay_node.specs.declared.fields.Variant.{Variant}
use Rattle.lay_node.specs.declared.simple_path.SimplePath.{SimplePath}
use Rattle.lay_node.specs.declared.token.Listed.{Listed}
use Rattle.lay_node.specs.declared.vis.Vis.{Vis}
use Rattle.lay_node.specs.declared.vis.Vis.TheVariants as vis
use Rattle.lay_out_tokens.proofs.StreamParts.{leaf_more}
use Rattle.lay_out_pats.proofs.FieldLemmas.{lines_more}
use Rattle.lay_out_types.proofs.FormRows.{part_more}
use Rattle.lay_out_heads.proofs.Rows.{behind_vis}
use Rattle.lay_out_heads.proofs.Steady.{Steady, steady_discriminant}

pub in_path : (v : Vis) (path : SimplePath) → v ≡ vis.In path
    → tok.Text (codes "pub(in ") ∷ (stream_of (simple_path_form path) ++ (tok.Text (codes ") ") ∷ []))
    ≡ stream_of (vis_form v)
in_path v path is = rw is (ap (λ (s : List Tok). tok.Text (codes "pub(in ") ∷ s)
    (part_more (simple_path_form path) (piece (closer Paren ∷ Blank ∷ [])) any))
  where
    any : Steady (piece (closer Paren ∷ Blank ∷ []))
    any true = refl
    any false = refl

-- attributes and a visibility, and what follows them
behind_front : (attrs : List Attr) (v : Vis) (f : Form)
    → stream_of (behind_attrs (map attr_form attrs) Done) ++ (stream_of (vis_form v) ++ stream_of f)
    ≡ stream_of (behind_attrs (map attr_form attrs) (Part (vis_form v) f))
behind_front attrs v f =
    ap (λ (s : List Tok). stream_of (behind_attrs (map attr_form attrs) Done) ++ s) (behind_vis v f)
    ∙ lines_more (map attr_form attrs) (Part (vis_form v) f)

pub tuple_field_is : (x : TupleField) (put : List Attr) → put ≡ x.attrs
    → stream_of (behind_attrs (map attr_form put) Done)
    ++ (stream_of (vis_form x.vis) ++ stream_of (about_type x.ty).told.form)
    ≡ stream_of (tuple_field_form x)
tuple_field_is x put e = rw e (behind_front x.attrs x.vis (Part (about_type x.ty).told.form Done))

pub field_is : (x : Field) (put : List Attr) → put ≡ x.attrs
    → stream_of (behind_attrs (map attr_form put) Done)
    ++ (stream_of (vis_form x.vis) ++ (stream_of (leaf_of x.name.raw x.name.text Done)
    ++ (tok.Text (codes ": ") ∷ stream_of (about_type x.ty).told.form)))
    ≡ stream_of (field_form x)
field_is x put e =
    let of = Piece colon (Part (about_type x.ty).told.form Done) in
    let front = stream_of (behind_attrs (map attr_form x.attrs) Done) in
    rw e (ap (λ (s : List Tok). front ++ (stream_of (vis_form x.vis) ++ s)) (leaf_more x.name.raw x.name.text of)
    ∙ behind_front x.attrs x.vis (leaf_of x.name.raw x.name.text of))

pub variant_is : (x : Variant) (put : List Attr) → put ≡ x.attrs
    → stream_of (behind_attrs (map attr_form put) Done)
    ++ (stream_of (vis_form x.vis) ++ (stream_of (leaf_of x.name.raw x.name.text Done)
    ++ (stream_of (fields_form true x.fields) ++ stream_of (discriminant_form x.discriminant))))
    ≡ stream_of (variant_form x)
variant_is x put e =
    let number = Part (discriminant_form x.discriminant) Done in
    let rest = Part (fields_form true x.fields) number in
    let front = stream_of (behind_attrs (map attr_form x.attrs) Done) in
    rw e (ap (λ (s : List Tok). front ++ (stream_of (vis_form x.vis)
    ++ (stream_of (leaf_of x.name.raw x.name.text Done) ++ s)))
    (part_more (fields_form true x.fields) number (steady_discriminant x.discriminant))
    ∙ ap (λ (s : List Tok). front ++ (stream_of (vis_form x.vis) ++ s)) (leaf_more x.name.raw x.name.text rest)
    ∙ behind_front x.attrs x.vis (leaf_of x.name.raw x.name.text rest))

pub discriminant_is : (x : Option (List Listed)) (tokens : List Listed) → x ≡ Some tokens
    → tok.Text (codes " = ") ∷ stream_of (token_list tokens) ≡ stream_of (discriminant_form x)
discriminant_is x tokens is = rw is refl
