-- Fields and variants tell their units.
use Rattle.std.proofs.Common.{◌≡◌, Bool, true, false, not, ◌&&◌, List, map, refl, Option, Some, None}
use Rattle.std.specs.List.{list_all}
use Rattle.std.proofs.lemmas.Bool.{and_parts}
use Rattle.lay_piece.specs.declared.kind.Delim.TheVariants.{Paren}
use Rattle.lay_form.specs.Form.{Form, opener, closer}
use Rattle.lay_form.specs.Notation.{fields}
use Rattle.lay_node.specs.Words.{is_name}
use Rattle.lay_node.specs.nodes.Attr.{are_attrs, attr_form, is_empty}
use Rattle.lay_node.specs.nodes.Fields.{are_fields, blank_if, discriminant_form, field_form, fields_form, has_comma, is_discriminant, is_field, is_tuple_field, is_variant, may_lead, named_form, tuple_field_form, tuple_form, variant_form}
use Rattle.lay_node.specs.nodes.Types.{about_type, colon, equals, good_at}
use Rattle.lay_node.specs.nodes.Vis.{is_vis}
use Rattle.lay_node.specs.tokens.Lexed.{is_token_list}
use Rattle.lay_node.specs.declared.fields.Field.{Field}
use Rattle.lay_node.specs.declared.fields.Fields.{Fields}
use Rattle.lay_node.specs.declared.fields.Fields.TheVariants as kinds
use Rattle.lay_node.specs.declared.fields.TupleField.{TupleField}
use Rattle.lay_node.specs.declared.fields.Variant.{Variant}
use Rattle.lay_node.specs.declared.token.Listed.{Listed}
use Rattle.lay_node.specs.declared.types.TypePlace.TheVariants.{Bounds}
use Rattle.lay_map.specs.spelling.Units.{Word}
use Rattle.lay_map.proofs.BodyRules.{Calms, fields_told, firm_calms, first_of}
use Rattle.lay_map.proofs.Rules.{All, Plain, Tells, all_of, each_of, ends, fixed, list, part}
use Rattle.lay_map.proofs.nodes.Attrs.{attrs_calm_then, attrs_firm, attrs_lined, attrs_then, firm_word, word}
use Rattle.lay_map.proofs.nodes.Tokens.{tokens_tell}
use Rattle.lay_map.proofs.nodes.Types.{type_tells}
use Rattle.lay_map.proofs.nodes.Vis.{vis_firm_then, vis_tells}

-- ---- fields without names

tuple_field_tells : {Next : List Word → Type 0} (f : TupleField) → is_tuple_field f ≡ true → Tells Next (tuple_field_form f)
tuple_field_tells f g =
    let n1 = and_parts (are_attrs false f.attrs && is_vis f.vis && good_at Bounds (about_type f.ty)) (may_lead f.vis f.ty) g in
    let n2 = and_parts (are_attrs false f.attrs && is_vis f.vis) (good_at Bounds (about_type f.ty)) n1.0 in
    let n3 = and_parts (are_attrs false f.attrs) (is_vis f.vis) n2.0 in
    attrs_then (map attr_form f.attrs) (attrs_lined false f.attrs n3.0) (part (vis_tells f.vis n3.1) (part (type_tells f.ty n2.1) ends))

pub tuple_tells : {Next : List Word → Type 0} (fs : List TupleField) → list_all is_tuple_field fs ≡ true → Tells Next (tuple_form fs)
tuple_tells fs g =
    list true (opener Paren) (closer Paren) (map tuple_field_form fs) refl refl refl (λ ws. refl)
    (each_of Plain tuple_field_form is_tuple_field (λ f h. tuple_field_tells f h) fs g)

-- ---- fields with names

field_tells : {Next : List Word → Type 0} (f : Field) → is_field f ≡ true → Tells Next (field_form f)
field_tells f g =
    let n1 = and_parts (are_attrs false f.attrs && is_vis f.vis && is_name f.name.raw f.name.text) (good_at Bounds (about_type f.ty)) g in
    let n2 = and_parts (are_attrs false f.attrs && is_vis f.vis) (is_name f.name.raw f.name.text) n1.0 in
    let n3 = and_parts (are_attrs false f.attrs) (is_vis f.vis) n2.0 in
    attrs_then (map attr_form f.attrs) (attrs_lined false f.attrs n3.0)
    (part (vis_tells f.vis n3.1) (word f.name.raw f.name.text (fixed colon refl (part (type_tells f.ty n1.1) ends))))

field_calm : (f : Field) → Calms (field_form f)
field_calm f = attrs_calm_then (map attr_form f.attrs) (attrs_firm f.attrs) (firm_calms (vis_firm_then f.vis (firm_word _ f.name.raw f.name.text)))

-- fields of parts, with a blank before their brace or without
fields_tell : {Next : List Word → Type 0} (lead : Bool) (es : List Form) → All Plain es → All Calms es → Tells Next (fields (blank_if lead) es)
fields_tell true es t c = fields_told true es t (first_of Calms es c)
fields_tell false es t c = fields_told false es t (first_of Calms es c)

pub named_tells : {Next : List Word → Type 0} (lead : Bool) (fs : List Field) → list_all is_field fs ≡ true → Tells Next (named_form lead fs)
named_tells lead fs g =
    fields_tell lead (map field_form fs) (each_of Plain field_form is_field (λ f h. field_tells f h) fs g) (all_of Calms field_form field_calm fs)

any_fields_tell : {Next : List Word → Type 0} (lead : Bool) (fs : Fields) → are_fields fs ≡ true → Tells Next (fields_form lead fs)
any_fields_tell lead kinds.Unit g = ends
any_fields_tell lead (kinds.Tuple fs) g = tuple_tells fs g
any_fields_tell lead (kinds.Named fs) g = named_tells lead fs g

-- ---- variants

discriminant_tells : {Next : List Word → Type 0} (d : Option (List Listed)) → is_discriminant d ≡ true → Tells Next (discriminant_form d)
discriminant_tells None g = ends
discriminant_tells (Some tokens) g =
    let n1 = and_parts (not (is_empty tokens) && is_token_list tokens) (not (has_comma 0 tokens)) g in
    let n2 = and_parts (not (is_empty tokens)) (is_token_list tokens) n1.0 in
    fixed equals refl (part (tokens_tell tokens n2.1) ends)

variant_tells : {Next : List Word → Type 0} (v : Variant) → is_variant v ≡ true → Tells Next (variant_form v)
variant_tells v g =
    let n1 = and_parts (are_attrs false v.attrs && is_vis v.vis && is_name v.name.raw v.name.text && are_fields v.fields) (is_discriminant v.discriminant) g in
    let n2 = and_parts (are_attrs false v.attrs && is_vis v.vis && is_name v.name.raw v.name.text) (are_fields v.fields) n1.0 in
    let n3 = and_parts (are_attrs false v.attrs && is_vis v.vis) (is_name v.name.raw v.name.text) n2.0 in
    let n4 = and_parts (are_attrs false v.attrs) (is_vis v.vis) n3.0 in
    attrs_then (map attr_form v.attrs) (attrs_lined false v.attrs n4.0)
    (part (vis_tells v.vis n4.1) (word v.name.raw v.name.text
    (part (any_fields_tell true v.fields n2.1) (part (discriminant_tells v.discriminant n1.1) ends))))

variant_calm : (v : Variant) → Calms (variant_form v)
variant_calm v = attrs_calm_then (map attr_form v.attrs) (attrs_firm v.attrs) (firm_calms (vis_firm_then v.vis (firm_word _ v.name.raw v.name.text)))

pub variants_tell : {Next : List Word → Type 0} (lead : Bool) (vs : List Variant) → list_all is_variant vs ≡ true
    → Tells Next (fields (blank_if lead) (map variant_form vs))
variants_tell lead vs g =
    fields_tell lead (map variant_form vs) (each_of Plain variant_form is_variant (λ v h. variant_tells v h) vs g) (all_of Calms variant_form variant_calm vs)
