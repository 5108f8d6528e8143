-- Fields and variants: what is read within a budget stands there, at the depth that it needs.
use Rattle.std.proofs.Common.{◌≡◌, ℕ, ◌≤◌, Bool, true, false, ◌&&◌, List, map, codes, Some, inl, inr, refl, arith}
use Rattle.std.specs.List.{list_all}
use Rattle.std.proofs.lemmas.Bool.{and_from, false_from_ne_true, not-true}
use Rattle.lay_piece.specs.declared.kind.Delim.TheVariants.{Paren, Brace}
use Rattle.lay_form.specs.Form.{Fixed, Operator, Form, Done, Piece, Part, opener, closer}
use Rattle.lay_form.specs.Notation.{behind_attrs}
use Rattle.lay_form.specs.Spelled.{Spells}
use Rattle.lay_form.proofs.FormLaws.{deeper as raise}
use Rattle.lay_node.specs.Ahead.{Tokens, first, closes, opens}
use Rattle.lay_node.specs.Words.{is_name, leaf_of}
use Rattle.lay_node.specs.nodes.Attr.{are_attrs, attr_form}
use Rattle.lay_node.specs.nodes.Fields.{are_fields, field_form, fields_form, is_field, is_restriction, is_tuple_field, may_lead, named_form, tuple_field_form, tuple_form}
use Rattle.lay_node.specs.nodes.Types.{about_type, colon, good_at}
use Rattle.lay_node.specs.nodes.Vis.{is_vis, restricts, vis_follows, vis_form}
use Rattle.lay_node.specs.reader.Attr.{attributes}
use Rattle.lay_node.specs.reader.Exact.{InText}
use Rattle.lay_node.specs.reader.Fields.{field, named_fields, tuple_field, tuple_fields, variant_fields}
use Rattle.lay_node.specs.reader.Loops.{deepest, elements, nodes, passed}
use Rattle.lay_node.specs.reader.Types.{Within, operator}
use Rattle.lay_node.specs.reader.Vis.{visibility}
use Rattle.lay_node.specs.reader.Words.{name}
use Rattle.lay_node.specs.declared.attr.Attr.{Attr}
use Rattle.lay_node.specs.declared.fields.Field.{Field}
use Rattle.lay_node.specs.declared.fields.Fields.{Fields}
use Rattle.lay_node.specs.declared.fields.Fields.TheVariants as fields
use Rattle.lay_node.specs.declared.fields.TupleField.{TupleField}
use Rattle.lay_node.specs.declared.types.Ty.{Ty}
use Rattle.lay_node.specs.declared.types.TypePlace.TheVariants.{Bounds}
use Rattle.lay_node.specs.declared.vis.Vis.{Vis}
use Rattle.lay_node.specs.declared.vis.Vis.TheVariants as vis
use Rattle.lay_node.proofs.Fronts.{closes_one, opener_passed_is}
use Rattle.lay_node.proofs.Parts.{behind_attrs_spelled, leaf_spelled, word_kind}
use Rattle.lay_node.proofs.Steps.{bind_some, chosen, same_some}
use Rattle.lay_node.proofs.WithCommas.{list_as_fields}
use Rattle.lay_node.proofs.reader.Attr.{attributes_sound, attrs_spelled}
use Rattle.lay_node.proofs.reader.Loops.{SoundStep}
use Rattle.lay_node.proofs.reader.Restrictions.{restriction_there}
use Rattle.lay_node.proofs.reader.TypesSoundLevel.{SoundWithin}
use Rattle.lay_node.proofs.reader.TypesSoundNeeds.{listed}
use Rattle.lay_node.proofs.reader.TypesSoundParts.{Out, bit_texts, operator_is}
use Rattle.lay_node.proofs.reader.Vis.{vis_sound}
use Rattle.lay_node.proofs.reader.Words.{name_sound}

-- ---- what stands before a field or a variant

-- What is spelled after attributes and a visibility is spelled with them.
abbrev pub Led : List Attr → Vis → Tokens → Tokens → Type 0
Led attrs v ts mid = (f : Form) (depth : ℕ) (rest : Tokens) → Spells f depth mid rest
    → Spells (behind_attrs (map attr_form attrs) (Part (vis_form v) f)) depth ts rest

-- attributes and a visibility, read
pub record Leads (attrs : List Attr) (v : Vis) (ts mid : Tokens) : Type 0 where
  pub led : Led attrs v ts mid
  pub attrs_good : are_attrs false attrs ≡ true
  pub vis_good : is_vis v ≡ true
  pub follows : vis_follows v mid ≡ true
  pub texts : InText mid

pub leads_sound : (ts : Tokens) (attrs : List Attr) (at : Tokens) (v : Vis) (mid : Tokens) → InText ts → attributes false ts ≡ Some (attrs, at)
    → visibility at ≡ Some (v, mid) → Leads attrs v ts mid
leads_sound ts attrs at v mid t a h =
    let r = attributes_sound false 0 ts attrs at t a in
    let s = vis_sound at v mid r.1 h in
    record {
      led = λ f depth rest x.
          behind_attrs_spelled (map attr_form attrs) (Part (vis_form v) f) depth ts at rest
          (attrs_spelled false depth attrs ts at (attributes_sound false depth ts attrs at t a).0).0
          (mid, raise (vis_form v) 0 depth at mid (omega arith) s.0.0, x);
      attrs_good = (attrs_spelled false 0 attrs ts at r.0).1;
      vis_good = s.0.1;
      follows = s.0.2;
      texts = s.1;
    }

-- Where `pub` was read alone, the type after it would not restrict it.
leads_type : (v : Vis) (x : Ty) (depth : ℕ) (ts rest : Tokens) → vis_follows v ts ≡ true → Spells (about_type x).told.form depth ts rest
    → may_lead v x ≡ true
leads_type vis.Public x depth ts rest f s =
    let none = false_from_ne_true (is_restriction x) (λ e.
    let r = restriction_there x depth ts rest s e in let n = not-true (restricts ts) f in absurd (cc)) in
    rw none refl
leads_type _ x depth ts rest f s = refl

module _ (budget : ℕ) (within : Within) (sound : SoundWithin budget within) where
  -- ---- fields

  abbrev pub TupleFieldHeld : TupleField × ℕ → Tokens → Tokens → Type 0
  TupleFieldHeld x ts rest = (x.1 ≤ budget) × Spells (tuple_field_form x.0) x.1 ts rest × (is_tuple_field x.0 ≡ true)

  pub tuple_field_sound : SoundStep (tuple_field within) TupleFieldHeld
  unfolding tuple_field
  tuple_field_sound ts x rest t h =
      let a = bind_some (attributes false ts) _ _ h in
      let v = bind_some (visibility a.0.1) _ _ a.2 in
      let y = bind_some (within.types Bounds v.0.1) _ _ v.2 in
      let l = leads_sound ts a.0.0 a.0.1 v.0.0 v.0.1 t a.1 v.1 in
      let s = sound.types Bounds v.0.1 y.0.0 y.0.1 l.texts y.1 in
      let told = about_type y.0.0.0 in
      let need = y.0.0.1 in
      let good = and_from (are_attrs false a.0.0 && is_vis v.0.0 && good_at Bounds told) (may_lead v.0.0 y.0.0.0)
      (and_from (are_attrs false a.0.0 && is_vis v.0.0) (good_at Bounds told)
      (and_from (are_attrs false a.0.0) (is_vis v.0.0) l.attrs_good l.vis_good) s.0.2)
      (leads_type v.0.0 y.0.0.0 need v.0.1 y.0.1 l.follows s.0.1) in
      same_some (Out TupleFieldHeld ts) ((record { attrs = a.0.0; vis = v.0.0; ty = y.0.0.0 }, need), y.0.1) (x, rest) y.2
      ((s.0.0, l.led (Part told.told.form Done) need y.0.1 (y.0.1, s.0.1, refl), good), s.1)

  abbrev pub FieldHeld : Field × ℕ → Tokens → Tokens → Type 0
  FieldHeld x ts rest = (x.1 ≤ budget) × Spells (field_form x.0) x.1 ts rest × (is_field x.0 ≡ true)

  pub field_sound : SoundStep (field within) FieldHeld
  unfolding field
  field_sound ts x rest t h =
      let a = bind_some (attributes false ts) _ _ h in
      let v = bind_some (visibility a.0.1) _ _ a.2 in
      let n = bind_some (name v.0.1) _ _ v.2 in
      let c = bind_some (operator (codes ":") n.0.1) _ _ n.2 in
      let y = bind_some (within.types Bounds c.0) _ _ c.2 in
      let l = leads_sound ts a.0.0 a.0.1 v.0.0 v.0.1 t a.1 v.1 in
      let i = name_sound v.0.1 n.0.0 n.0.1 n.1 in
      let raw = n.0.0.raw in
      let text = n.0.0.text in
      let o = operator_is (codes ":") n.0.1 c.0 c.1 in
      let named = bit_texts (Fixed (word_kind raw) text) v.0.1 n.0.1 i.0 l.texts in
      let s = sound.types Bounds c.0 y.0.0 y.0.1 (bit_texts (Operator (codes ":")) n.0.1 c.0 o named) y.1 in
      let told = about_type y.0.0.0 in
      let need = y.0.0.1 in
      let behind : Form = Piece colon (Part told.told.form Done) in
      let leaf = leaf_spelled raw text behind need v.0.1 n.0.1 y.0.1 i.0 (c.0, (c.0, o, (c.0, refl, refl)), (y.0.1, s.0.1, refl)) in
      let good = and_from (are_attrs false a.0.0 && is_vis v.0.0 && is_name raw text) (good_at Bounds told)
      (and_from (are_attrs false a.0.0 && is_vis v.0.0) (is_name raw text)
      (and_from (are_attrs false a.0.0) (is_vis v.0.0) l.attrs_good l.vis_good) i.1) s.0.2 in
      same_some (Out FieldHeld ts) ((record { attrs = a.0.0; vis = v.0.0; name = n.0.0; ty = y.0.0.0 }, need), y.0.1) (x, rest) y.2
      ((s.0.0, l.led (leaf_of raw text behind) need y.0.1 leaf, good), s.1)

  -- ---- fields in delimiters

  abbrev pub TupleHeld : List TupleField × ℕ → Tokens → Tokens → Type 0
  TupleHeld x ts rest = (x.1 ≤ budget) × Spells (tuple_form x.0) x.1 ts rest × (list_all is_tuple_field x.0 ≡ true)

  pub tuple_fields_sound : SoundStep (tuple_fields within) TupleHeld
  unfolding tuple_fields
  tuple_fields_sound ts x rest t h =
      let o = bind_some (passed (opens Paren) ts) _ _ h in
      let xs = bind_some (elements (closes Paren) (tuple_field within) o.0) _ _ o.2 in
      let one = opener_passed_is Paren ts o.0 t o.1 in
      let l = listed budget tuple_field_form is_tuple_field TupleFieldHeld (λ y us mid s. s) (closes Paren) (opener Paren) (closer Paren)
      (closes_one Paren) (tuple_field within) tuple_field_sound ts o.0 xs.0.0 xs.0.1 one (bit_texts (opener Paren) ts o.0 one t) xs.1 in
      same_some (Out TupleHeld ts) ((nodes xs.0.0, deepest xs.0.0), xs.0.1) (x, rest) xs.2 ((l.0, l.1, l.2), l.3)

  -- with a leading blank and without one
  abbrev pub NamedHeld : List Field × ℕ → Tokens → Tokens → Type 0
  NamedHeld x ts rest = (x.1 ≤ budget) × ((lead : Bool) → Spells (named_form lead x.0) x.1 ts rest) × (list_all is_field x.0 ≡ true)

  pub named_fields_sound : SoundStep (named_fields within) NamedHeld
  unfolding named_fields
  named_fields_sound ts x rest t h =
      let o = bind_some (passed (opens Brace) ts) _ _ h in
      let xs = bind_some (elements (closes Brace) (field within) o.0) _ _ o.2 in
      let one = opener_passed_is Brace ts o.0 t o.1 in
      let l = listed budget field_form is_field FieldHeld (λ y us mid s. s) (closes Brace) (opener Brace) (closer Brace)
      (closes_one Brace) (field within) field_sound ts o.0 xs.0.0 xs.0.1 one (bit_texts (opener Brace) ts o.0 one t) xs.1 in
      same_some (Out NamedHeld ts) ((nodes xs.0.0, deepest xs.0.0), xs.0.1) (x, rest) xs.2
      ((l.0, (λ lead. list_as_fields lead (map field_form (nodes xs.0.0)) (deepest xs.0.0) ts xs.0.1 l.1), l.2), l.3)

  abbrev pub FieldsHeld : Fields × ℕ → Tokens → Tokens → Type 0
  FieldsHeld x ts rest = (x.1 ≤ budget) × Spells (fields_form true x.0) x.1 ts rest × (are_fields x.0 ≡ true)

  pub variant_fields_sound : SoundStep (variant_fields within) FieldsHeld
  unfolding variant_fields
  variant_fields_sound ts x rest t h = elim (chosen (first (opens Paren) ts) _ _ _ h) [
    | inl g ↦
        let fs = bind_some (tuple_fields within ts) _ _ g.1 in
        let s = tuple_fields_sound ts fs.0.0 fs.0.1 t fs.1 in
        same_some (Out FieldsHeld ts) ((fields.Tuple fs.0.0.0, fs.0.0.1), fs.0.1) (x, rest) fs.2 s
    | inr g ↦ elim (chosen (first (opens Brace) ts) _ _ _ g.1) [
      | inl f ↦
          let fs = bind_some (named_fields within ts) _ _ f.1 in
          let s = named_fields_sound ts fs.0.0 fs.0.1 t fs.1 in
          same_some (Out FieldsHeld ts) ((fields.Named fs.0.0.0, fs.0.0.1), fs.0.1) (x, rest) fs.2 ((s.0.0, s.0.1 true, s.0.2), s.1)
      | inr f ↦ same_some (Out FieldsHeld ts) ((fields.Unit, 0), ts) (x, rest) f.1 ((omega arith, refl, refl), t)
    ]
  ]
