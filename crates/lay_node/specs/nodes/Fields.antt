-- Fields, and the variants of enumerations: when they are well formed, and their forms (Rust
-- Reference, "Structs", "Enumerations").
use Rattle.std.specs.Prelude.{ℕ, zero, suc, ◌&&◌, ◌||◌, not, Bool, true, false, List, [], ◌∷◌, map, codes, Option, Some, None}
use Rattle.std.specs.List.{list_all}
use Rattle.std.specs.Str.{bytes_eq}
use Rattle.lay_piece.specs.declared.kind.Delim.TheVariants.{Paren}
use Rattle.lay_piece.specs.declared.kind.Kind.{Kind}
use Rattle.lay_piece.specs.declared.kind.Kind.TheVariants.{Opener, Closer}
use Rattle.lay_token.specs.Lexes.{is_punct}
use Rattle.lay_form.specs.Form.{Bit, Blank, Form, Done, Piece, Part, opener, closer}
use Rattle.lay_form.specs.Notation as notation
use Rattle.lay_form.specs.Notation.{comma_list, behind_attrs}
use Rattle.lay_node.specs.Words.{is_name, leaf_of}
use Rattle.lay_node.specs.nodes.Attr.{are_attrs, attr_form, is_empty}
use Rattle.lay_node.specs.nodes.Types.{about_type, colon, equals, good_at, lone_word}
use Rattle.lay_node.specs.nodes.Vis.{is_vis, vis_form}
use Rattle.lay_node.specs.tokens.Lexed.{is_token_list}
use Rattle.lay_node.specs.tokens.Lists.{token_list}
use Rattle.lay_node.specs.declared.fields.Field.{Field}
use Rattle.lay_node.specs.declared.fields.Fields.{Fields}
use Rattle.lay_node.specs.declared.fields.Fields.TheVariants as fields
use Rattle.lay_node.specs.declared.fields.TupleField.{TupleField}
use Rattle.lay_node.specs.declared.fields.Variant.{Variant}
use Rattle.lay_node.specs.declared.token.Listed.{Listed}
use Rattle.lay_node.specs.declared.token.Listed.TheVariants as listed
use Rattle.lay_node.specs.declared.token.Word.{Word}
use Rattle.lay_node.specs.declared.types.Arg.{Arg}
use Rattle.lay_node.specs.declared.types.Arg.TheOpen.{Ty-F}
use Rattle.lay_node.specs.declared.types.Arg.TheViews.{out-Ty}
use Rattle.lay_node.specs.declared.types.Args.{Args}
use Rattle.lay_node.specs.declared.types.Bound.{Bound}
use Rattle.lay_node.specs.declared.types.Constraint.{Constraint}
use Rattle.lay_node.specs.declared.types.FuncParam.{FuncParam}
use Rattle.lay_node.specs.declared.types.Path.{Path}
use Rattle.lay_node.specs.declared.types.PathStart.{PathStart}
use Rattle.lay_node.specs.declared.types.Ty.{Ty}
use Rattle.lay_node.specs.declared.types.TypePlace.TheVariants.{Bounds}
use Rattle.lay_node.specs.declared.vis.Vis.{Vis}
use Rattle.lay_node.specs.declared.vis.Vis.TheVariants as vis

-- ---- a type that would restrict a `pub` before it

abbrev pub restricting_word : Option Word → Bool
restricting_word None = false
restricting_word (Some w) = not w.raw && (bytes_eq w.text (codes "crate") || (bytes_eq w.text (codes "self") || bytes_eq w.text (codes "super")))

abbrev pub is_restricting_path : Ty-F Arg Args Bound Constraint PathStart Ty FuncParam Path → Bool
is_restricting_path (Ty-F.Path path) = restricting_word (lone_word path)
is_restricting_path _ = false

abbrev pub is_restriction_in : Ty-F Arg Args Bound Constraint PathStart Ty FuncParam Path → Bool
is_restriction_in (Ty-F.Paren x) = is_restricting_path (out-Ty x)
is_restriction_in _ = false

-- `(crate)`, `(self)` or `(super)`
abbrev pub is_restriction : Ty → Bool
is_restriction x = is_restriction_in (out-Ty x)

abbrev pub may_lead : Vis → Ty → Bool
may_lead vis.Public x = not (is_restriction x)
may_lead _ x = true

-- ---- fields

abbrev pub tuple_field_form : TupleField → Form
tuple_field_form f = behind_attrs (map attr_form f.attrs) (Part (vis_form f.vis) (Part (about_type f.ty).told.form Done))

abbrev pub is_tuple_field : TupleField → Bool
is_tuple_field f = are_attrs false f.attrs && is_vis f.vis && good_at Bounds (about_type f.ty) && may_lead f.vis f.ty

abbrev pub field_form : Field → Form
field_form f =
    behind_attrs (map attr_form f.attrs) (Part (vis_form f.vis) (leaf_of f.name.raw f.name.text (Piece colon (Part (about_type f.ty).told.form Done))))

abbrev pub is_field : Field → Bool
is_field f = are_attrs false f.attrs && is_vis f.vis && is_name f.name.raw f.name.text && good_at Bounds (about_type f.ty)

-- the leading blank of braces, if they have one
abbrev pub blank_if : Bool → List Bit
blank_if true = Blank ∷ []
blank_if false = []

abbrev pub named_form : Bool → List Field → Form
named_form lead fs = notation.fields (blank_if lead) (map field_form fs)

abbrev pub tuple_form : List TupleField → Form
tuple_form fs = comma_list true (opener Paren) (closer Paren) (map tuple_field_form fs)

abbrev pub fields_form : Bool → Fields → Form
fields_form lead fields.Unit = Done
fields_form lead (fields.Tuple fs) = tuple_form fs
fields_form lead (fields.Named fs) = named_form lead fs

abbrev pub are_fields : Fields → Bool
are_fields fields.Unit = true
are_fields (fields.Tuple fs) = list_all is_tuple_field fs
are_fields (fields.Named fs) = list_all is_field fs

-- ---- discriminants

abbrev pub is_comma : Kind → List ℕ → Bool
is_comma kind text = is_punct kind && bytes_eq text (codes ",")

abbrev pub level_behind : Kind → ℕ → ℕ
level_behind (Opener d) level = suc level
level_behind (Closer d) zero = zero
level_behind (Closer d) (suc level) = level
level_behind _ level = level

abbrev pub is_outside : ℕ → Bool
is_outside zero = true
is_outside (suc level) = false

-- A `,` stands outside of all groups; this many groups are open before the tokens.
abbrev pub has_comma : ℕ → List Listed → Bool
has_comma level [] = false
has_comma level (listed.Token kind text joint ∷ ts) = (is_outside level && is_comma kind text) || has_comma (level_behind kind level) ts
has_comma level (listed.Doc inner text ∷ ts) = has_comma level ts

abbrev pub discriminant_form : Option (List Listed) → Form
discriminant_form None = Done
discriminant_form (Some tokens) = Piece equals (Part (token_list tokens) Done)

abbrev pub is_discriminant : Option (List Listed) → Bool
is_discriminant None = true
is_discriminant (Some tokens) = not (is_empty tokens) && is_token_list tokens && not (has_comma 0 tokens)

-- ---- variants

abbrev pub variant_form : Variant → Form
variant_form v = behind_attrs (map attr_form v.attrs)
    (Part (vis_form v.vis) (leaf_of v.name.raw v.name.text (Part (fields_form true v.fields) (Part (discriminant_form v.discriminant) Done))))

abbrev pub is_variant : Variant → Bool
is_variant v = are_attrs false v.attrs && is_vis v.vis && is_name v.name.raw v.name.text && are_fields v.fields && is_discriminant v.discriminant
