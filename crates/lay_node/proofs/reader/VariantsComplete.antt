-- Variants of enumerations: what is spelled is read, where what is one level deeper is read. After a discriminant a comma
-- or a closer stands, so variants are read as elements of a list.
use Rattle.std.proofs.Common.{◌≡◌, ℕ, ◌≤◌, ◌<◌, Bool, true, false, not, ◌&&◌, List, [], ◌∷◌, map, length, drop, codes, Option, Some, None, inl, inr, refl, ap, ◌∙◌, arith}
use Rattle.std.specs.List.{list_all}
use Rattle.std.proofs.lemmas.Bool.{and_parts, not-true}
use Rattle.lay_piece.specs.Forms.{closing, opening}
use Rattle.lay_piece.specs.declared.kind.Delim.{Delim}
use Rattle.lay_piece.specs.declared.kind.Delim.TheVariants.{Paren, Brace}
use Rattle.lay_piece.specs.declared.kind.Kind.TheVariants.{Closer, Opener, Punct}
use Rattle.lay_token.specs.Operators.{is_op}
use Rattle.lay_form.specs.Form.{Form, Done, Part}
use Rattle.lay_form.specs.Notation as notation
use Rattle.lay_form.specs.Spelled.{IsOne, Spells}
use Rattle.lay_form.proofs.FormLaws.{shorter}
use Rattle.lay_node.specs.Ahead.{Tokens, first, closes, is_opener, opens}
use Rattle.lay_node.specs.Words.{is_name, leaf_of}
use Rattle.lay_node.specs.nodes.Attr.{are_attrs, is_empty}
use Rattle.lay_node.specs.nodes.Fields.{are_fields, blank_if, discriminant_form, fields_form, has_comma, is_discriminant, is_variant, variant_form}
use Rattle.lay_node.specs.nodes.Vis.{is_vis}
use Rattle.lay_node.specs.reader.Fields.{discriminant, variant, variant_fields, variants}
use Rattle.lay_node.specs.reader.Loops.{Read, deepest, elements, nodes, passed}
use Rattle.lay_node.specs.reader.Types.{Within, if_there}
use Rattle.lay_node.specs.tokens.Lexed.{is_token_list}
use Rattle.lay_node.specs.tokens.Lists.{token_list}
use Rattle.lay_node.specs.declared.fields.Fields.{Fields}
use Rattle.lay_node.specs.declared.fields.Fields.TheVariants as fields
use Rattle.lay_node.specs.declared.fields.Variant.{Variant}
use Rattle.lay_node.specs.declared.token.Listed.{Listed}
use Rattle.lay_node.proofs.Fronts.{one_front, one_shorter, op_test, opener_passed}
use Rattle.lay_node.proofs.Parts.{Elements, Further, Rows, SpelledAt, leaf_parts, list_elements, part_alone, rows_of_map, word_kind}
use Rattle.lay_node.proofs.WithCommas.{fields_as_list}
use Rattle.lay_node.proofs.reader.Exact.{IsRead}
use Rattle.lay_node.proofs.reader.FieldsComplete.{LeadsParts, leads_parts, leads_read, leads_starts, name_behind, name_follows, named_fields_read, tuple_fields_read}
use Rattle.lay_node.proofs.reader.GenericsComplete.{equals_operator}
use Rattle.lay_node.proofs.reader.Loops as loops
use Rattle.lay_node.proofs.reader.Loops.{Element, Ended, elements_complete, elements_end}
use Rattle.lay_node.proofs.reader.TokenLists.{EndsRun, before_comma_complete}
use Rattle.lay_node.proofs.reader.TypesComplete.{Reads}
use Rattle.lay_node.proofs.reader.TypesFronts.{Ends, closer_ends, comma_ends}
use Rattle.lay_node.proofs.reader.Words.{name_complete}

-- ---- elements of a list in delimiters, by what ends them

pub elements_of_map : {A B : Type 0} (d : Delim) (f : A → B) (P : B → Tokens → Tokens → Type 0) (xs : List A) (ts rest : Tokens)
    → Elements d P (map f xs) ts rest → Elements d (λ x. P (f x)) xs ts rest
elements_of_map d f P [] ts rest r = r
elements_of_map d f P (x ∷ xs) ts rest r = let b = r.2 in (r.0, r.1, (b.0, rows_of_map f (Further P) xs r.0 b.0 b.1, b.2))

module _ {A : Type 0} (d : Delim) (form : A → Form) (good : A → Bool) (depth : ℕ) (one : Tokens → Read A)
    (reads : (x : A) (ts mid : Tokens) → Spells (form x) depth ts mid → good x ≡ true → loops.Ends d mid → IsRead depth one x ts mid)
    (begins : (x : A) (ts mid : Tokens) → Spells (form x) depth ts mid → good x ≡ true → (first (closes d) ts ≡ false) × (length mid < length ts)) where
  abbrev pub Stands : A → Tokens → Tokens → Type 0
  Stands x ts rest = SpelledAt depth (form x) ts rest

  one_read : (x : A) (ts mid : Tokens) → Ended d Stands x ts mid → good x ≡ true → (y : A × ℕ) × (y.0 ≡ x) × (y.1 ≤ depth) × Element d one y ts mid
  one_read x ts mid s g =
      let r = reads x ts mid s.0 g s.1 in
      let b = begins x ts mid s.0 g in
      ((x, r.0), refl, r.1, (b.0, r.2, b.1))

  rows_read : (xs : List A) (ts rest : Tokens) → list_all good xs ≡ true → Rows (Further (Ended d Stands)) xs ts rest
      → (ys : List (A × ℕ)) × (nodes ys ≡ xs) × (deepest ys ≤ depth) × Rows (Further (Element d one)) ys ts rest
  rows_read [] ts rest g r = ([], refl, omega arith, r)
  rows_read (x ∷ xs) ts rest g r =
      let goods = and_parts (good x) (list_all good xs) g in
      let row = r.1 in
      let y = one_read x row.0 r.0 row.2 goods.0 in
      let more = rows_read xs r.0 rest goods.1 r.2 in (
        y.0 ∷ more.0,
        ap (λ z. z ∷ nodes more.0) y.1 ∙ ap (λ zs. x ∷ zs) more.1,
        omega (arith, y.2, more.2),
        (r.0, (row.0, row.1, y.3), more.3),
      )

  pub list_read : (xs : List A) (ts rest : Tokens) → list_all good xs ≡ true → Elements d Stands xs ts rest
      → (ys : List (A × ℕ)) × (nodes ys ≡ xs) × (deepest ys ≤ depth) × (elements (closes d) one ts ≡ Some (ys, rest))
  list_read [] ts rest g r = ([], refl, omega arith, elements_complete one d [] ts rest r)
  list_read (x ∷ xs) ts rest g r =
      let goods = and_parts (good x) (list_all good xs) g in
      let e = elements_end d Stands (x ∷ xs) ts rest r in
      let y = one_read x ts e.0 e.1 goods.0 in
      let behind = e.2 in
      let more = rows_read xs e.0 behind.0 goods.1 behind.1 in (
        y.0 ∷ more.0,
        ap (λ z. z ∷ nodes more.0) y.1 ∙ ap (λ zs. x ∷ zs) more.1,
        omega (arith, y.2, more.2),
        elements_complete one d (y.0 ∷ more.0) ts rest (e.0, y.3, (behind.0, more.3, behind.2)),
      )

-- What ends an element ends the tokens of a discriminant.
element_ends : (d : Delim) (ts : Tokens) → loops.Ends d ts → Ends ts × EndsRun true ts
element_ends d ts e = elim e.1 [
  | inl o ↦ (comma_ends ts e.0 o, rw (one_front Punct (codes ",") ts e.0 o).1 refl)
  | inr o ↦ (closer_ends d ts e.0 o, rw (one_front (Closer d) (closing d ∷ []) ts e.0 o).1 refl)
]

-- ---- discriminants

discriminant_complete : (d : Option (List Listed)) (depth : ℕ) (ts rest : Tokens) → Spells (discriminant_form d) depth ts rest → is_discriminant d ≡ true
    → Ends rest → EndsRun true rest → if_there (is_op (codes "=") ts) (λ us. discriminant (drop 1 us)) ts ≡ Some (d, rest)
unfolding discriminant
discriminant_complete None depth ts rest s g e r = rw s (rw e.equals refl)
discriminant_complete (Some us) depth ts rest s g e r =
    let o = equals_operator ts s.0 s.1 in
    let a = and_parts (not (is_empty us) && is_token_list us) (not (has_comma 0 us)) g in
    let b = and_parts (not (is_empty us)) (is_token_list us) a.0 in
    let read = before_comma_complete us depth s.0 rest b.1 (not-true (has_comma 0 us) a.1) (part_alone (token_list us) depth s.0 rest s.2) r in
    rw (o.0, o.1, read, not-true (is_empty us) b.0) refl

-- No fields begin there.
abbrev NoFields : Tokens → Type 0
NoFields ts = (first (opens Paren) ts ≡ false) × (first (opens Brace) ts ≡ false)

discriminant_front : (d : Option (List Listed)) (depth : ℕ) (ts rest : Tokens) → Spells (discriminant_form d) depth ts rest → Ends rest → NoFields ts
discriminant_front None depth ts rest s e = rw s (e.quiet.free.paren, e.pattern.brace)
discriminant_front (Some us) depth ts rest s e =
    let o = equals_operator ts s.0 s.1 in (op_test (is_opener Paren) (codes "=") ts o.0, op_test (is_opener Brace) (codes "=") ts o.0)

module _ (depth : ℕ) (inner : Within) (reads : Reads depth inner) where
  variant_fields_read : (x : Fields) (ts rest : Tokens) → Spells (fields_form true x) depth ts rest → are_fields x ≡ true → NoFields rest
      → IsRead depth (variant_fields inner) x ts rest
  unfolding variant_fields
  variant_fields_read fields.Unit ts rest s g n = (0, omega arith, rw s (rw (n.0, n.1) refl))
  variant_fields_read (fields.Tuple fs) ts rest s g n =
      let r = tuple_fields_read depth inner reads fs ts rest s g in
      let i = r.0 in
      let o = r.1 in
      let there : first (opens Paren) ts ≡ true = rw (one_front (Opener Paren) (opening Paren ∷ []) ts o.0 o.1).1 refl in
      (i.0, i.1, rw (there, i.2) refl)
  variant_fields_read (fields.Named fs) ts rest s g n =
      let r = named_fields_read depth inner reads true fs ts rest s g in
      let i = r.0 in
      let o = r.1 in
      let f = (one_front (Opener Brace) (opening Brace ∷ []) ts o.0 o.1).1 in
      let other : first (opens Paren) ts ≡ false = rw f refl in
      let there : first (opens Brace) ts ≡ true = rw f refl in
      (i.0, i.1, rw (other, there, i.2) refl)

  abbrev variant_behind : Variant → Form
  variant_behind x = Part (fields_form true x.fields) (Part (discriminant_form x.discriminant) Done)

  -- a variant, by its parts
  record VariantParts (x : Variant) (ts rest : Tokens) : Type 0 where
    pub leads : LeadsParts x.attrs x.vis (leaf_of x.name.raw x.name.text (variant_behind x)) depth ts rest
    pub called : Tokens
    pub at : Tokens
    pub name : IsOne (word_kind x.name.raw) x.name.text leads.mid called
    pub name_good : is_name x.name.raw x.name.text ≡ true
    pub vis_good : is_vis x.vis ≡ true
    pub fields : Spells (fields_form true x.fields) depth called at
    pub fields_good : are_fields x.fields ≡ true
    pub discriminant : Spells (discriminant_form x.discriminant) depth at rest
    pub discriminant_good : is_discriminant x.discriminant ≡ true
    pub less : length rest < length leads.mid

  variant_parts : (x : Variant) (ts rest : Tokens) → Spells (variant_form x) depth ts rest → is_variant x ≡ true → VariantParts x ts rest
  variant_parts x ts rest s g =
      let named = is_name x.name.raw x.name.text in
      let a = and_parts (are_attrs false x.attrs && is_vis x.vis && named && are_fields x.fields) (is_discriminant x.discriminant) g in
      let b = and_parts (are_attrs false x.attrs && is_vis x.vis && named) (are_fields x.fields) a.0 in
      let c = and_parts (are_attrs false x.attrs && is_vis x.vis) named b.0 in
      let d = and_parts (are_attrs false x.attrs) (is_vis x.vis) c.0 in
      let p = leads_parts x.attrs x.vis (leaf_of x.name.raw x.name.text (variant_behind x)) depth ts rest s d.0 in
      let l = leaf_parts x.name.raw x.name.text (variant_behind x) depth p.mid rest p.behind in
      let t = l.2 in
      record {
        leads = p;
        called = l.0;
        at = t.0;
        name = l.1;
        name_good = c.1;
        vis_good = d.1;
        fields = t.1;
        fields_good = b.1;
        discriminant = part_alone (discriminant_form x.discriminant) depth t.0 rest t.2;
        discriminant_good = a.1;
        less = omega (arith, one_shorter (word_kind x.name.raw) x.name.text p.mid l.0 l.1, shorter (variant_behind x) depth l.0 rest t);
      }

  -- A variant before a comma or what closes the list.
  pub variant_read : (x : Variant) (ts rest : Tokens) → Spells (variant_form x) depth ts rest → is_variant x ≡ true → loops.Ends Brace rest
      → IsRead depth (variant inner) x ts rest
  unfolding variant
  variant_read x ts rest s g ends =
      let e = element_ends Brace rest ends in
      let p = variant_parts x ts rest s g in
      let f : Form = leaf_of x.name.raw x.name.text (variant_behind x) in
      let l = leads_read x.attrs x.vis f depth ts rest p.leads (name_behind x.name p.leads.mid p.called p.name p.name_good) p.vis_good
      (name_follows x.vis x.name p.leads.mid p.called p.name p.name_good) in
      let fs = variant_fields_read x.fields p.called p.at p.fields p.fields_good (discriminant_front x.discriminant depth p.at rest p.discriminant e.0) in
      let d = discriminant_complete x.discriminant depth p.at rest p.discriminant p.discriminant_good e.0 e.1 in
      (fs.0, fs.1, rw (l.0, l.1, name_complete x.name p.leads.mid p.called (p.name, p.name_good), fs.2, d) refl)

  variant_starts : (x : Variant) (ts rest : Tokens) → Spells (variant_form x) depth ts rest → is_variant x ≡ true
      → (first (closes Brace) ts ≡ false) × (length rest < length ts)
  variant_starts x ts rest s g =
      let p = variant_parts x ts rest s g in
      let f : Form = leaf_of x.name.raw x.name.text (variant_behind x) in
      let l = leads_starts x.attrs x.vis f depth ts rest p.leads (name_behind x.name p.leads.mid p.called p.name p.name_good) Brace in
      (l.0, omega (arith, l.1, p.less))

  pub variants_read : (lead : Bool) (xs : List Variant) (ts rest : Tokens) → Spells (notation.fields (blank_if lead) (map variant_form xs)) depth ts rest
      → list_all is_variant xs ≡ true → IsRead depth (variants inner) xs ts rest × ((inside : Tokens) × IsOne (Opener Brace) (opening Brace ∷ []) ts inside)
  unfolding variants
  variants_read lead xs ts rest s g =
      let l = list_elements Brace (map variant_form xs) depth ts rest (fields_as_list lead (map variant_form xs) depth ts rest s) in
      let ys = list_read Brace variant_form is_variant depth (variant inner) variant_read variant_starts xs l.0 rest g
      (elements_of_map Brace variant_form (SpelledAt depth) xs l.0 rest l.2) in
      ((deepest ys.0, ys.2, made ys.0 ys.1 l.0 (opener_passed Brace ts l.0 l.1) ys.3), (l.0, l.1))
    where
      made : (ys : List (Variant × ℕ)) → nodes ys ≡ xs → (inside : Tokens) → passed (opens Brace) ts ≡ Some inside
          → elements (closes Brace) (variant inner) inside ≡ Some (ys, rest) → variants inner ts ≡ Some ((xs, deepest ys), rest)
      made ys same inside o e = rw (o, e, same) refl
