-- Fields: what is spelled is read, where what is one level deeper is read.
use Rattle.std.proofs.Common.{◌≡◌, ℕ, ◌≤◌, ◌<◌, Bool, true, false, ◌&&◌, List, [], ◌∷◌, map, length, codes, Some, inl, inr, refl, sym, subst, arith}
use Rattle.std.specs.List.{list_all}
use Rattle.std.proofs.lemmas.Bool.{and_parts, not-true}
use Rattle.lay_piece.specs.Forms.{opening}
use Rattle.lay_piece.specs.declared.kind.Delim.{Delim}
use Rattle.lay_piece.specs.declared.kind.Delim.TheVariants.{Paren, Brace}
use Rattle.lay_piece.specs.declared.kind.Kind.TheVariants.{Ident, Opener}
use Rattle.lay_form.specs.Form.{Form, Done, Piece, Part, opener, closer}
use Rattle.lay_form.specs.Notation.{behind_attrs}
use Rattle.lay_form.specs.Spelled.{IsOne, IsOperator, Spells}
use Rattle.lay_form.proofs.FormLaws.{shorter}
use Rattle.lay_node.specs.Ahead.{Tokens, first, closes, opens}
use Rattle.lay_node.specs.Begins.{Lead, OfPath, lead_at}
use Rattle.lay_node.specs.Words.{is_name, leaf_of}
use Rattle.lay_node.specs.nodes.Attr.{about_attr, are_attrs, attr_form}
use Rattle.lay_node.specs.nodes.Fields.{field_form, is_field, is_restriction, is_tuple_field, may_lead, named_form, tuple_field_form, tuple_form}
use Rattle.lay_node.specs.nodes.Types.{about_type, colon, good_at}
use Rattle.lay_node.specs.nodes.Vis.{is_vis, vis_follows, vis_form}
use Rattle.lay_node.specs.reader.Attr.{attributes, begins_attr}
use Rattle.lay_node.specs.reader.Fields.{field, named_fields, tuple_field, tuple_fields}
use Rattle.lay_node.specs.reader.Loops.{deepest, elements, nodes, passed}
use Rattle.lay_node.specs.reader.Types.{Within}
use Rattle.lay_node.specs.reader.Vis.{visibility}
use Rattle.lay_node.specs.declared.attr.Attr.{Attr}
use Rattle.lay_node.specs.declared.fields.Field.{Field}
use Rattle.lay_node.specs.declared.fields.TupleField.{TupleField}
use Rattle.lay_node.specs.declared.token.Name.{Name}
use Rattle.lay_node.specs.declared.types.Ty.{Ty}
use Rattle.lay_node.specs.declared.types.TypePlace.TheVariants.{Bounds}
use Rattle.lay_node.specs.declared.vis.Vis.{Vis}
use Rattle.lay_node.specs.declared.vis.Vis.TheVariants as vis
use Rattle.lay_node.proofs.Fronts.{one_front, one_shorter, opener_passed}
use Rattle.lay_node.proofs.Parts.{GoodAt, Rows, behind_attrs_rows, leaf_parts, part_alone, word_kind}
use Rattle.lay_node.proofs.WithCommas.{fields_as_list}
use Rattle.lay_node.proofs.nodes.TypesLaws.{type_view}
use Rattle.lay_node.proofs.reader.Attr.{attrs_rows}
use Rattle.lay_node.proofs.reader.AttrRead.{attributes_complete}
use Rattle.lay_node.proofs.reader.Exact.{IsRead}
use Rattle.lay_node.proofs.reader.Restrictions.{restricts_not}
use Rattle.lay_node.proofs.reader.TypesBegins.{lead_of, type_begins}
use Rattle.lay_node.proofs.reader.TypesComplete.{Reads, name_is_word, operator_read, quiet_read}
use Rattle.lay_node.proofs.reader.TypesCompleteParts.{attrs_front, colon_operator}
use Rattle.lay_node.proofs.reader.TypesFronts.{Ends, Quiet, lead_no_attr, lead_no_closer, lead_no_keyword, path_lead_no_paren, word_lead}
use Rattle.lay_node.proofs.reader.TypesLists.{closer_closes, list_read}
use Rattle.lay_node.proofs.reader.Vis.{vis_complete, vis_front, vis_may}
use Rattle.lay_node.proofs.reader.Words.{name_complete}

-- ---- what stands before a field or a variant

-- attributes and a visibility, and what follows them
pub record LeadsParts (attrs : List Attr) (v : Vis) (f : Form) (depth : ℕ) (ts rest : Tokens) : Type 0 where
  pub at : Tokens
  pub mid : Tokens
  pub rows : Rows (GoodAt (about_attr false) depth) attrs ts at
  pub vis : Spells (vis_form v) depth at mid
  pub behind : Spells f depth mid rest

pub leads_parts : (attrs : List Attr) (v : Vis) (f : Form) (depth : ℕ) (ts rest : Tokens)
    → Spells (behind_attrs (map attr_form attrs) (Part (vis_form v) f)) depth ts rest → are_attrs false attrs ≡ true → LeadsParts attrs v f depth ts rest
leads_parts attrs v f depth ts rest s g =
    let r = behind_attrs_rows (map attr_form attrs) (Part (vis_form v) f) depth ts rest s in
    let inner = r.2 in
    record { at = r.0; mid = inner.0; rows = attrs_rows false depth attrs ts r.0 r.1 g; vis = inner.1; behind = inner.2 }

-- Neither an attribute nor what closes a list stands there.
pub record BehindLeads (ts : Tokens) : Type 0 where
  pub attr : begins_attr false ts ≡ false
  pub closer : (d : Delim) → first (closes d) ts ≡ false

pub lead_behind : (ts : Tokens) (l : Lead) → lead_at ts ≡ Some l → BehindLeads ts
lead_behind ts l h = record { attr = lead_no_attr ts l h; closer = λ d. lead_no_closer d ts l h }

pub name_behind : (n : Name) (ts rest : Tokens) → IsOne (word_kind n.raw) n.text ts rest → is_name n.raw n.text ≡ true → BehindLeads ts
name_behind n ts rest o g = lead_behind ts OfPath (word_lead n.raw n.text ts rest o (name_is_word n.raw n.text g))

-- A name may stand after any visibility.
pub name_follows : (v : Vis) (n : Name) (ts rest : Tokens) → IsOne (word_kind n.raw) n.text ts rest → is_name n.raw n.text ≡ true
    → vis_follows v ts ≡ true
name_follows v n ts rest o g =
    let l = word_lead n.raw n.text ts rest o (name_is_word n.raw n.text g) in
    vis_may v ts (lead_no_keyword (codes "pub") refl ts OfPath l) (path_lead_no_paren ts l)

module _ (attrs : List Attr) (v : Vis) (f : Form) (depth : ℕ) (ts rest : Tokens) (p : LeadsParts attrs v f depth ts rest) (b : BehindLeads p.mid) where
  vis_behind : BehindLeads p.at
  vis_behind = elim (vis_front v depth p.at p.mid p.vis) [
    | inl e ↦ subst BehindLeads (sym e.1) b
    | inr o ↦ let g = (one_front Ident (codes "pub") p.at o.0 o.1).1 in record { attr = rw g refl; closer = λ d. rw g refl }
  ]

  pub leads_read : is_vis v ≡ true → vis_follows v p.mid ≡ true
      → (attributes false ts ≡ Some (attrs, p.at)) × (visibility p.at ≡ Some (v, p.mid))
  leads_read g h = (attributes_complete false attrs depth ts p.at p.rows vis_behind.attr, vis_complete v depth p.at p.mid p.vis g h)

  pub leads_starts : (d : Delim) → (first (closes d) ts ≡ false) × (length p.mid ≤ length ts)
  leads_starts d =
      let before = attrs_front attrs depth ts p.at p.rows in
      (before.closer d (vis_behind.closer d), omega (arith, before.shorter, shorter (vis_form v) depth p.at p.mid p.vis))

-- A type after a visibility.
type_follows : (v : Vis) (x : Ty) (depth : ℕ) (ts rest : Tokens) → Spells (about_type x).told.form depth ts rest → good_at Bounds (about_type x) ≡ true
    → Quiet rest → may_lead v x ≡ true → vis_follows v ts ≡ true
type_follows vis.Inherited x depth ts rest s g q m =
    let t = type_begins x Bounds depth ts rest s g in
    rw (lead_no_keyword (codes "pub") refl ts (lead_of x (type_view x)) t.lead) refl
type_follows vis.Public x depth ts rest s g q m =
    rw (restricts_not x depth ts rest s g q (not-true (is_restriction x) m)) refl
type_follows _ x depth ts rest s g q m = refl

module _ (depth : ℕ) (inner : Within) (reads : Reads depth inner) where
  -- ---- fields

  tuple_goods : (x : TupleField) → is_tuple_field x ≡ true
      → (are_attrs false x.attrs ≡ true) × (is_vis x.vis ≡ true) × (good_at Bounds (about_type x.ty) ≡ true) × (may_lead x.vis x.ty ≡ true)
  tuple_goods x g =
      let p = and_parts (are_attrs false x.attrs && is_vis x.vis && good_at Bounds (about_type x.ty)) (may_lead x.vis x.ty) g in
      let q = and_parts (are_attrs false x.attrs && is_vis x.vis) (good_at Bounds (about_type x.ty)) p.0 in
      let r = and_parts (are_attrs false x.attrs) (is_vis x.vis) q.0 in
      (r.0, r.1, q.1, p.1)

  pub tuple_field_read : (x : TupleField) (ts rest : Tokens) → Spells (tuple_field_form x) depth ts rest → is_tuple_field x ≡ true → Ends rest
      → IsRead depth (tuple_field inner) x ts rest
  unfolding tuple_field
  tuple_field_read x ts rest s g e =
      let goods = tuple_goods x g in
      let f : Form = Part (about_type x.ty).told.form Done in
      let p = leads_parts x.attrs x.vis f depth ts rest s goods.0 in
      let spelled = part_alone (about_type x.ty).told.form depth p.mid rest p.behind in
      let t = type_begins x.ty Bounds depth p.mid rest spelled goods.2 in
      let b = lead_behind p.mid (lead_of x.ty (type_view x.ty)) t.lead in
      let l = leads_read x.attrs x.vis f depth ts rest p b goods.1
      (type_follows x.vis x.ty depth p.mid rest spelled goods.2 e.quiet goods.3) in
      let r = quiet_read depth inner reads Bounds x.ty p.mid rest spelled goods.2 e.quiet in
      (r.0, r.1, rw (l.0, l.1, r.2) refl)

  pub tuple_field_starts : (x : TupleField) (ts rest : Tokens) → Spells (tuple_field_form x) depth ts rest → is_tuple_field x ≡ true
      → (first (closes Paren) ts ≡ false) × (length rest < length ts)
  tuple_field_starts x ts rest s g =
      let goods = tuple_goods x g in
      let f : Form = Part (about_type x.ty).told.form Done in
      let p = leads_parts x.attrs x.vis f depth ts rest s goods.0 in
      let t = type_begins x.ty Bounds depth p.mid rest (part_alone (about_type x.ty).told.form depth p.mid rest p.behind) goods.2 in
      let l = leads_starts x.attrs x.vis f depth ts rest p (lead_behind p.mid (lead_of x.ty (type_view x.ty)) t.lead) Paren in
      (l.0, omega (arith, l.1, t.less))

  abbrev field_behind : Field → Form
  field_behind x = Piece colon (Part (about_type x.ty).told.form Done)

  -- a field, by its parts
  record FieldParts (x : Field) (ts rest : Tokens) : Type 0 where
    pub leads : LeadsParts x.attrs x.vis (leaf_of x.name.raw x.name.text (field_behind x)) depth ts rest
    pub called : Tokens
    pub at : Tokens
    pub name : IsOne (word_kind x.name.raw) x.name.text leads.mid called
    pub name_good : is_name x.name.raw x.name.text ≡ true
    pub vis_good : is_vis x.vis ≡ true
    pub colon : IsOperator (codes ":") called at
    pub spelled : Spells (about_type x.ty).told.form depth at rest
    pub good : good_at Bounds (about_type x.ty) ≡ true
    pub less : length rest < length leads.mid

  field_parts : (x : Field) (ts rest : Tokens) → Spells (field_form x) depth ts rest → is_field x ≡ true → FieldParts x ts rest
  field_parts x ts rest s g =
      let a = and_parts (are_attrs false x.attrs && is_vis x.vis && is_name x.name.raw x.name.text) (good_at Bounds (about_type x.ty)) g in
      let c = and_parts (are_attrs false x.attrs && is_vis x.vis) (is_name x.name.raw x.name.text) a.0 in
      let d = and_parts (are_attrs false x.attrs) (is_vis x.vis) c.0 in
      let p = leads_parts x.attrs x.vis (leaf_of x.name.raw x.name.text (field_behind x)) depth ts rest s d.0 in
      let l = leaf_parts x.name.raw x.name.text (field_behind x) depth p.mid rest p.behind in
      let t = l.2 in
      record {
        leads = p;
        called = l.0;
        at = t.0;
        name = l.1;
        name_good = c.1;
        vis_good = d.1;
        colon = colon_operator l.0 t.0 t.1;
        spelled = part_alone (about_type x.ty).told.form depth t.0 rest t.2;
        good = a.1;
        less = omega (arith, one_shorter (word_kind x.name.raw) x.name.text p.mid l.0 l.1, shorter (field_behind x) depth l.0 rest t);
      }

  pub field_read : (x : Field) (ts rest : Tokens) → Spells (field_form x) depth ts rest → is_field x ≡ true → Ends rest → IsRead depth (field inner) x ts rest
  unfolding field
  field_read x ts rest s g e =
      let p = field_parts x ts rest s g in
      let f : Form = leaf_of x.name.raw x.name.text (field_behind x) in
      let l = leads_read x.attrs x.vis f depth ts rest p.leads (name_behind x.name p.leads.mid p.called p.name p.name_good) p.vis_good
      (name_follows x.vis x.name p.leads.mid p.called p.name p.name_good) in
      let r = quiet_read depth inner reads Bounds x.ty p.at rest p.spelled p.good e.quiet in
      (r.0, r.1, rw (l.0, l.1, name_complete x.name p.leads.mid p.called (p.name, p.name_good), operator_read (codes ":") p.called p.at p.colon, r.2) refl)

  pub field_starts : (x : Field) (ts rest : Tokens) → Spells (field_form x) depth ts rest → is_field x ≡ true
      → (first (closes Brace) ts ≡ false) × (length rest < length ts)
  field_starts x ts rest s g =
      let p = field_parts x ts rest s g in
      let f : Form = leaf_of x.name.raw x.name.text (field_behind x) in
      let l = leads_starts x.attrs x.vis f depth ts rest p.leads (name_behind x.name p.leads.mid p.called p.name p.name_good) Brace in
      (l.0, omega (arith, l.1, p.less))

  -- ---- fields in delimiters

  pub tuple_fields_read : (xs : List TupleField) (ts rest : Tokens) → Spells (tuple_form xs) depth ts rest → list_all is_tuple_field xs ≡ true
      → IsRead depth (tuple_fields inner) xs ts rest × ((inside : Tokens) × IsOne (Opener Paren) (opening Paren ∷ []) ts inside)
  unfolding tuple_fields
  tuple_fields_read xs ts rest s g =
      let l = list_read (closer Paren) (closes Paren) (closer_closes Paren) (tuple_field inner) tuple_field_form is_tuple_field depth
      tuple_field_read tuple_field_starts (opener Paren) xs ts rest g s in
      let ys = l.2 in
      ((deepest ys.0, ys.2, made ys.0 ys.1 l.0 (opener_passed Paren ts l.0 l.1) ys.3), (l.0, l.1))
    where
      made : (ys : List (TupleField × ℕ)) → nodes ys ≡ xs → (inside : Tokens) → passed (opens Paren) ts ≡ Some inside
          → elements (closes Paren) (tuple_field inner) inside ≡ Some (ys, rest) → tuple_fields inner ts ≡ Some ((xs, deepest ys), rest)
      made ys same inside o e = rw (o, e, same) refl

  pub named_fields_read : (lead : Bool) (xs : List Field) (ts rest : Tokens) → Spells (named_form lead xs) depth ts rest → list_all is_field xs ≡ true
      → IsRead depth (named_fields inner) xs ts rest × ((inside : Tokens) × IsOne (Opener Brace) (opening Brace ∷ []) ts inside)
  unfolding named_fields
  named_fields_read lead xs ts rest s g =
      let l = list_read (closer Brace) (closes Brace) (closer_closes Brace) (field inner) field_form is_field depth
      field_read field_starts (opener Brace) xs ts rest g (fields_as_list lead (map field_form xs) depth ts rest s) in
      let ys = l.2 in
      ((deepest ys.0, ys.2, made ys.0 ys.1 l.0 (opener_passed Brace ts l.0 l.1) ys.3), (l.0, l.1))
    where
      made : (ys : List (Field × ℕ)) → nodes ys ≡ xs → (inside : Tokens) → passed (opens Brace) ts ≡ Some inside
          → elements (closes Brace) (field inner) inside ≡ Some (ys, rest) → named_fields inner ts ≡ Some ((xs, deepest ys), rest)
      made ys same inside o e = rw (o, e, same) refl
