-- Fields and variants pass, and lists of them in parentheses and in braces.
use Rattle.std.proofs.Common.{◌≡◌, List, [], ◌∷◌, Bool, true, false, not, ◌&&◌, refl, map, Option, Some, None}
use Rattle.std.specs.List.{list_all}
use Rattle.std.proofs.lemmas.Bool.{and_parts, and_from}
use Rattle.lay_piece.specs.declared.kind.Delim.TheVariants.{Paren}
use Rattle.lay_form.specs.Form as form
use Rattle.lay_form.specs.Form.{Form, Done, Piece, opener, closer}
use Rattle.lay_form.specs.Notation.{behind_attrs, with_commas}
use Rattle.lay_form.specs.Notation as notation
use Rattle.lay_form.specs.Pieces.{are_pieces}
use Rattle.lay_node.specs.Words.{is_name}
use Rattle.lay_node.specs.nodes.Attr.{are_attrs, attr_form, is_empty}
use Rattle.lay_node.specs.nodes.Fields.{are_fields, blank_if, discriminant_form, field_form, fields_form, has_comma, is_discriminant, is_field, is_tuple_field, is_variant, may_lead, named_form, tuple_field_form, tuple_form, variant_form}
use Rattle.lay_node.specs.nodes.Types.{about_type, colon, good_at}
use Rattle.lay_node.specs.nodes.Vis.{is_vis}
use Rattle.lay_node.specs.tokens.Lexed.{is_token_list}
use Rattle.lay_node.specs.tokens.Lists.{ends_in_line}
use Rattle.lay_node.specs.declared.attr.Attr.{Attr}
use Rattle.lay_node.specs.declared.fields.Field.{Field}
use Rattle.lay_node.specs.declared.fields.Fields.{Fields}
use Rattle.lay_node.specs.declared.fields.Fields.TheVariants as fields
use Rattle.lay_node.specs.declared.fields.TupleField.{TupleField}
use Rattle.lay_node.specs.declared.fields.Variant.{Variant}
use Rattle.lay_node.specs.declared.token.Listed.{Listed}
use Rattle.lay_node.specs.declared.types.Ty.{Ty}
use Rattle.lay_node.specs.declared.types.TypePlace.TheVariants.{Bounds}
use Rattle.lay_reparse.proofs.borders.Border.{Border}
use Rattle.lay_reparse.proofs.forms.Passes.{plain}
use Rattle.lay_reparse.proofs.forms.Rules.{tables, From, All, ends, fixed, part, list_fits, list, field_fits, body_fits, fielded, with_outer}
use Rattle.lay_reparse.proofs.tokens.Rows.{list_end}
use Rattle.lay_reparse.proofs.tokens.Within.{listed}
use Rattle.lay_reparse.proofs.file.Nodes.{ends_name, ends_line, word, rest_pieces, list_pieces, body_pieces, outer_pieces, attrs_pass}
use Rattle.lay_reparse.proofs.file.TypeParts.{ends_type}
use Rattle.lay_reparse.proofs.file.Types.{type_passes}
use Rattle.lay_reparse.proofs.forms.Vis.{behind_vis}

-- ---- what stands in many nodes

-- each of a list, by what is good of each
pub all_of : {A : Type 0} (shape : A → Form) (good : A → Bool) {b c : Border}
    → ((x : A) → good x ≡ true → are_pieces (shape x) ≡ true → From b (shape x) c)
    → (xs : List A) → list_all good xs ≡ true → list_all are_pieces (map shape xs) ≡ true → All b (map shape xs) c
all_of shape good k [] g w = tt
all_of shape good k (x ∷ xs) g w =
    let n = and_parts (good x) (list_all good xs) g in
    let p = and_parts (are_pieces (shape x)) (list_all are_pieces (map shape xs)) w in
    (k x n.0 p.0, all_of shape good k xs n.1 p.1)

-- attributes on lines of their own, and what follows them
pub attributed : (attrs : List Attr) {f : Form} {c : Border} → are_attrs false attrs ≡ true
    → are_pieces (behind_attrs (map attr_form attrs) f) ≡ true → (are_pieces f ≡ true → From plain f c)
    → From plain (behind_attrs (map attr_form attrs) f) c
attributed attrs {f} g w k =
    let es = map attr_form attrs in
    let q = outer_pieces es f w in
    with_outer es ends_line refl (attrs_pass false attrs g q.0) (k q.1)

-- a type at the end
pub type_ends : (x : Ty) → good_at Bounds (about_type x) ≡ true
    → are_pieces (form.Part (about_type x).told.form Done) ≡ true
    → From plain (form.Part (about_type x).told.form Done) ends_type
type_ends x g w =
    let p = (and_parts (are_pieces (about_type x).told.form) true w).0 in
    part plain ends_type refl ((type_passes x).go g p) (ends refl)

-- ---- fields

pub tuple_field_passes : (f : TupleField) → is_tuple_field f ≡ true → are_pieces (tuple_field_form f) ≡ true
    → From plain (tuple_field_form f) ends_type
tuple_field_passes f g w =
    let n1 = and_parts (are_attrs false f.attrs && is_vis f.vis && good_at Bounds (about_type f.ty)) (may_lead f.vis f.ty)
    g in
    let n2 = and_parts (are_attrs false f.attrs && is_vis f.vis) (good_at Bounds (about_type f.ty)) n1.0 in
    let n3 = and_parts (are_attrs false f.attrs) (is_vis f.vis) n2.0 in
    attributed f.attrs n3.0 w (λ p. behind_vis f.vis p (type_ends f.ty n2.1))

pub field_passes : (f : Field) → is_field f ≡ true → are_pieces (field_form f) ≡ true → From plain (field_form f) ends_type
unfolding tables
field_passes f g w =
    let n1 = and_parts (are_attrs false f.attrs && is_vis f.vis && is_name f.name.raw f.name.text)
    (good_at Bounds (about_type f.ty)) g in
    let n2 = and_parts (are_attrs false f.attrs && is_vis f.vis) (is_name f.name.raw f.name.text) n1.0 in
    let n3 = and_parts (are_attrs false f.attrs) (is_vis f.vis) n2.0 in
    let e = Piece colon (form.Part (about_type f.ty).told.form Done) in
    attributed f.attrs n3.0 w (λ p. behind_vis f.vis p (λ q.
    let z = type_ends f.ty n1.1 (rest_pieces f.name.raw f.name.text e q) in
    word f.name.raw f.name.text refl q (fixed refl z) (fixed refl z)))

-- ---- lists of fields

pub tuple_passes : (fs : List TupleField) {b z : Border}
    → list_fits true (opener Paren) (closer Paren) b plain ends_type z ≡ true → list_all is_tuple_field fs ≡ true
    → are_pieces (tuple_form fs) ≡ true → From b (tuple_form fs) z
tuple_passes fs fit g w =
    let es = map tuple_field_form fs in
    list true (opener Paren) (closer Paren) es plain ends_type fit
    (all_of tuple_field_form is_tuple_field tuple_field_passes fs g
    (list_pieces true (opener Paren) (closer Paren) es w))

commas_pieces : (es : List Form) → list_all are_pieces (with_commas es) ≡ true → list_all are_pieces es ≡ true
commas_pieces [] w = refl
commas_pieces (e ∷ []) w =
    and_from (are_pieces e) true (and_parts (are_pieces e) true (and_parts _ true w).0).0 refl
commas_pieces (e ∷ f ∷ es) w =
    let p = and_parts (are_pieces e && true) (list_all are_pieces (with_commas (f ∷ es))) w in
    and_from (are_pieces e) (list_all are_pieces (f ∷ es)) (and_parts (are_pieces e) true p.0).0
    (commas_pieces (f ∷ es) p.1)

-- parts in braces, each on a line of its own with a comma after it
pub in_braces : {A : Type 0} (lead : Bool) (shape : A → Form) (good : A → Bool) {b k z : Border}
    → ((x : A) → good x ≡ true → are_pieces (shape x) ≡ true → From plain (shape x) k) → field_fits k plain ≡ true
    → body_fits (blank_if lead) [] b plain plain z ≡ true → (xs : List A) → list_all good xs ≡ true
    → are_pieces (notation.fields (blank_if lead) (map shape xs)) ≡ true
    → From b (notation.fields (blank_if lead) (map shape xs)) z
in_braces lead shape good {b} {k} {z} each fit fit' xs g w =
    let es = map shape xs in
    fielded (blank_if lead) es plain k plain fit fit'
    (all_of shape good each xs g (commas_pieces es (body_pieces (blank_if lead) [] (with_commas es) w)))

type_comma : field_fits ends_type plain ≡ true
unfolding tables
type_comma = refl

pub named_passes : (lead : Bool) (fs : List Field) {b z : Border}
    → body_fits (blank_if lead) [] b plain plain z ≡ true → list_all is_field fs ≡ true
    → are_pieces (named_form lead fs) ≡ true → From b (named_form lead fs) z
named_passes lead fs fit g w = in_braces lead field_form is_field field_passes type_comma fit fs g w

pub tuple_fits : list_fits true (opener Paren) (closer Paren) ends_name plain ends_type ends_name ≡ true
unfolding tables
tuple_fits = refl

named_fits : (lead : Bool) → body_fits (blank_if lead) [] ends_name plain plain ends_name ≡ true
unfolding tables
named_fits true = refl
named_fits false = refl

-- after a name
pub fields_pass : (lead : Bool) (fs : Fields) → are_fields fs ≡ true → are_pieces (fields_form lead fs) ≡ true
    → From ends_name (fields_form lead fs) ends_name
fields_pass lead fields.Unit g w = ends refl
fields_pass lead (fields.Tuple fs) g w = tuple_passes fs tuple_fits g w
fields_pass lead (fields.Named fs) g w = named_passes lead fs (named_fits lead) g w

-- ---- variants

-- a discriminant may have ended, or what stands before one
abbrev pub ends_variant : Border
ends_variant = list_end false

list_ends : (line : Bool) → From (list_end line) Done ends_variant
list_ends true = ends refl
list_ends false = ends refl

pub discriminant_passes : (d : Option (List Listed)) → is_discriminant d ≡ true
    → From ends_name (discriminant_form d) ends_variant
unfolding tables
discriminant_passes None g = ends refl
discriminant_passes (Some tokens) g =
    let n = and_parts (not (is_empty tokens) && is_token_list tokens) (not (has_comma 0 tokens)) g in
    listed tokens (and_parts (not (is_empty tokens)) (is_token_list tokens) n.0).1 refl (λ v. refl) refl
    (list_ends (ends_in_line tokens))

pub variant_passes : (v : Variant) → is_variant v ≡ true → are_pieces (variant_form v) ≡ true
    → From plain (variant_form v) ends_variant
unfolding tables
variant_passes v g w =
    let n1 = and_parts
    (are_attrs false v.attrs && is_vis v.vis && is_name v.name.raw v.name.text && are_fields v.fields)
    (is_discriminant v.discriminant) g in
    let n2 = and_parts (are_attrs false v.attrs && is_vis v.vis && is_name v.name.raw v.name.text) (are_fields v.fields)
    n1.0 in
    let n3 = and_parts (are_attrs false v.attrs && is_vis v.vis) (is_name v.name.raw v.name.text) n2.0 in
    let n4 = and_parts (are_attrs false v.attrs) (is_vis v.vis) n3.0 in
    let e = form.Part (fields_form true v.fields) (form.Part (discriminant_form v.discriminant) Done) in
    attributed v.attrs n4.0 w (λ p. behind_vis v.vis p (λ q.
    let f = fields_pass true v.fields n2.1
    (and_parts (are_pieces (fields_form true v.fields)) _ (rest_pieces v.name.raw v.name.text e q)).0 in
    let d = part ends_name ends_variant refl (discriminant_passes v.discriminant n1.1) (ends refl) in
    word v.name.raw v.name.text refl q (part ends_name ends_name refl f d) (part ends_name ends_name refl f d)))

variant_comma : field_fits ends_variant plain ≡ true
unfolding tables
variant_comma = refl

pub variants_pass : (lead : Bool) (vs : List Variant) {b z : Border}
    → body_fits (blank_if lead) [] b plain plain z ≡ true → list_all is_variant vs ≡ true
    → are_pieces (notation.fields (blank_if lead) (map variant_form vs)) ≡ true
    → From b (notation.fields (blank_if lead) (map variant_form vs)) z
variants_pass lead vs fit g w = in_braces lead variant_form is_variant variant_passes variant_comma fit vs g w
