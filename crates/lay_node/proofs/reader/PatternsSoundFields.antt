-- Fields in patterns, and what follows a path: what is read stands there, where what is one level deeper is read
-- so.
use Rattle.std.proofs.Common.{◌≡◌, ℕ, suc, ◌≤◌, max, Bool, true, false, not, ◌&&◌, List, [], ◌∷◌, ◌++◌, inl, inr, map, drop, codes, Some, None, if◌then◌else◌, refl, sym, subst, ◌∙◌, append-nil, arith}
use Rattle.std.proofs.lemmas.Bool.{and_parts, and_from}
use Rattle.lay_piece.specs.declared.kind.Delim.TheVariants.{Paren, Brace}
use Rattle.lay_piece.specs.declared.kind.Kind.{Kind}
use Rattle.lay_piece.specs.declared.kind.Kind.TheVariants as kind
use Rattle.lay_token.specs.Operators.{is_op}
use Rattle.lay_form.specs.Form.{Fixed, Operator, Form, Done, Leaf, Piece, Part, opener, closer}
use Rattle.lay_form.specs.Notation.{behind_attrs, braces, comma_list, piece}
use Rattle.lay_form.specs.Spelled.{IsOne, IsOperator, IsBit, Spells}
use Rattle.lay_form.proofs.FormLaws.{deeper as raise}
use Rattle.lay_node.specs.Ahead.{Tokens, first, tail, opens, closes}
use Rattle.lay_node.specs.Follow.{begins_dots}
use Rattle.lay_node.specs.Words.{is_name, leaf_of}
use Rattle.lay_node.specs.nodes.Attr.{are_attrs, attr_form, about_attr}
use Rattle.lay_node.specs.nodes.Facts.{forms, all_good}
use Rattle.lay_node.specs.nodes.Patterns.{all_pats_good, field_facts, pat_form, pat_forms, pat_good, rest_form, about_pat, about_field_pat}
use Rattle.lay_node.specs.nodes.Types.{colon, lone_word}
use Rattle.lay_node.specs.reader.Attr.{attributes}
use Rattle.lay_node.specs.reader.Exact.{InText}
use Rattle.lay_node.specs.reader.Loops.{Got, passed, nodes, deepest, elements, open_elements}
use Rattle.lay_node.specs.reader.Patterns.{PatWithin, begins_field, field_by, field_name, fields, index, is_int, named_field, one_field, path_by, path_pat, short_field, struct_pat, tuple_struct}
use Rattle.lay_node.specs.reader.Types.{operator, path}
use Rattle.lay_node.specs.reader.Words.{name}
use Rattle.lay_node.specs.declared.attr.Attr.{Attr}
use Rattle.lay_node.specs.declared.patterns.FieldPat.{FieldPat}
use Rattle.lay_node.specs.declared.patterns.FieldPat.TheOpen.{FieldPat-F}
use Rattle.lay_node.specs.declared.patterns.FieldPat.TheVariants as field
use Rattle.lay_node.specs.declared.patterns.Pat.{Pat}
use Rattle.lay_node.specs.declared.patterns.Pat.TheVariants as pat
use Rattle.lay_node.specs.declared.patterns.PatPlace.TheVariants.{Alternatives, Single}
use Rattle.lay_node.specs.declared.patterns.SpanEnd.TheVariants as span_end
use Rattle.lay_node.specs.declared.token.Name.{Name}
use Rattle.lay_node.specs.declared.types.Path.{Path}
use Rattle.lay_node.specs.declared.types.PathStyle.TheVariants.{Code}
use Rattle.lay_node.proofs.Fronts.{opens_one, closer_passed_is}
use Rattle.lay_node.proofs.InText.{behind}
use Rattle.lay_node.proofs.Parts.{Rows, rows_map, rows_joined, GoodAt, SpelledAt, Further, behind_attrs_spelled, bit_piece, each_comma_spelled, word_kind, leaf_spelled}
use Rattle.lay_node.proofs.Steps.{same_some, chosen, bind_some}
use Rattle.lay_node.proofs.nodes.PatternsLaws.{pat_struct_is, pat_tuple_struct_is, field_named_is, field_index_is, field_short_is}
use Rattle.lay_node.proofs.reader.Attr.{attributes_sound, attrs_spelled}
use Rattle.lay_node.proofs.reader.Exact.{Stands}
use Rattle.lay_node.proofs.reader.Loops.{SoundStep}
use Rattle.lay_node.proofs.reader.PatternsSoundBinds.{word_pat_sound}
use Rattle.lay_node.proofs.reader.PatternsSoundLevel.{SoundPatWithin, PatHeld, PatOpen, alternatives_refused, follows_parts, pat_list, shut_open}
use Rattle.lay_node.proofs.reader.PatternsSoundSpans.{StartHeld, end_starts, span_sound}
use Rattle.lay_node.proofs.reader.TypesSoundNeeds.{Held, held, forms_of, goods_of, listed}
use Rattle.lay_node.proofs.reader.TypesSoundOpen.{OpenBy, open_sound, open_held, open_shut}
use Rattle.lay_node.proofs.reader.TypesSoundParts.{Out, bit_texts, operator_is, ElementsBy, each_spelled}
use Rattle.lay_node.proofs.reader.TypesSoundPaths.{paren_shuts, path_sound, path_told}
use Rattle.lay_node.proofs.reader.Words.{name_sound}

-- ---- parts in braces

-- Parts in braces are spelled, and a comma may stand after the last.
pub braces_by : {A : Type 0} (form : A → Form) (depth : ℕ) (xs : List A) (ts inside rest : Tokens)
    → IsBit (opener Brace) ts inside → ElementsBy (closer Brace) (λ x. SpelledAt depth (form x)) xs inside rest
    → Spells (braces true (map form xs)) depth ts rest
braces_by form depth [] ts inside rest o r = (rest, (ts, refl, (inside, o, (rest, r, refl))), refl)
braces_by form depth (x ∷ xs) ts inside rest o r =
    let behind = r.2 in
    let last = behind.2 in (
      inside,
      (ts, refl, (inside, o, refl)),
      (
        last.0,
        (r.0, r.1, (behind.0, each_spelled form depth xs r.0 behind.0 behind.1, (last.0, last.1, refl))),
        (rest, (rest, last.2, refl), refl),
      ),
    )

-- the same, where after the last no comma may stand
shut_braces : (f : Form) (fs : List Form) (depth : ℕ) (ts inside mid end rest : Tokens)
    → IsBit (opener Brace) ts inside → Spells f depth inside mid → Rows (Further (SpelledAt depth)) fs mid end
    → IsBit (closer Brace) end rest → Spells (braces false (f ∷ fs)) depth ts rest
shut_braces f fs depth ts inside mid end rest o s r c = (
  inside,
  (ts, refl, (inside, o, refl)),
  (end, (mid, s, (end, each_comma_spelled fs depth mid end r, refl)), (rest, (rest, c, refl), refl)),
)

-- ---- fields

abbrev dots_form : Form
dots_form = piece (Operator (codes "..") ∷ [])

abbrev form_of_field : FieldPat → Form
form_of_field f = (about_field_pat f).form

-- parts with one more after them, after which no comma may stand
pub last_list : {A : Type 0} (form : A → Form) (last_form : Form) (depth : ℕ) (fs : List A) (last : Bool)
    (ts inside end at rest : Tokens) → IsBit (opener Brace) ts inside
    → OpenBy begins_field (λ f. SpelledAt depth (form f)) fs last inside end → last ≡ true
    → Spells last_form depth end at → IsBit (closer Brace) at rest
    → Spells (braces false (map form fs ++ last_form ∷ [])) depth ts rest
last_list form last_form depth [] last ts inside end at rest o r e s c =
    let behind : Spells last_form depth inside at = subst (λ us. Spells last_form depth us at) (sym r.1) s in
    shut_braces last_form [] depth ts inside at at rest o behind refl c
last_list form last_form depth (f ∷ fs) false ts inside end at rest o r e s c = absurd (cc)
last_list form last_form depth (f ∷ fs) true ts inside end at rest o r e s c =
    let behind = r.2 in
    let P = Further (SpelledAt depth) in
    let parts = rows_map form P fs r.0 behind.0 behind.1 in
    let one : Rows P (last_form ∷ []) behind.0 at = (at, (end, behind.2.0, s), refl) in
    let all = rows_joined P (map form fs) (last_form ∷ []) r.0 behind.0 at parts one in
    shut_braces (form f) (map form fs ++ last_form ∷ []) depth ts inside r.0 at rest o r.1 all c

pub int_kind : (k : Kind) → is_int k ≡ true → k ≡ kind.Int
int_kind kind.Int h = refl
int_kind _ h = absurd (cc)

-- A number and a `:` stand there.
abbrev pub IsIndex : List ℕ → Tokens → Tokens → Type 0
IsIndex text ts rest = (at : Tokens) × IsOne kind.Int text ts at × IsOperator (codes ":") at rest

pub index_sound : SoundStep index IsIndex
index_sound [] x rest t h = absurd (cc)
index_sound (u ∷ us) x rest t h = elim (chosen (is_int u.kind && is_op (codes ":") us) _ _ _ h) [
  | inl g ↦
      let b = and_parts (is_int u.kind) (is_op (codes ":") us) g.0 in
      let o : IsOperator (codes ":") us (drop 1 us) = (b.1, refl) in
      same_some (Out IsIndex (u ∷ us)) (u.text, drop 1 us) (x, rest) g.1
      ((us, (int_kind u.kind b.0, refl, refl), o), bit_texts (Operator (codes ":")) us (drop 1 us) o (behind u us t))
  | inr g ↦ absurd (cc g.1)
]

-- A name and a `:` stand there.
abbrev IsFieldName : Name → Tokens → Tokens → Type 0
IsFieldName n ts rest =
    (at : Tokens) × IsOne (word_kind n.raw) n.text ts at × IsOperator (codes ":") at rest
    × (is_name n.raw n.text ≡ true)

field_name_sound : SoundStep field_name IsFieldName
field_name_sound ts x rest t h =
    let n = bind_some (name ts) _ _ h in
    let c = bind_some (operator (codes ":") n.0.1) _ _ n.2 in
    let i = name_sound ts n.0.0 n.0.1 n.1 in
    let o = operator_is (codes ":") n.0.1 c.0 c.1 in
    same_some (Out IsFieldName ts) (n.0.0, c.0) (x, rest) c.2 (
      (n.0.1, i.0, o, i.1),
      bit_texts (Operator (codes ":")) n.0.1 c.0 o
          (bit_texts (Fixed (word_kind n.0.0.raw) n.0.0.text) ts n.0.1 i.0 t),
    )

module _ (budget : ℕ) (within : PatWithin) (sound : SoundPatWithin budget within) where
  abbrev FieldHeld : FieldPat × ℕ → Tokens → Tokens → Type 0
  FieldHeld = Held about_field_pat budget

  module _ (ts : Tokens) (attrs : List Attr) (at : Tokens)
      (rows : (depth : ℕ) → Rows (GoodAt (about_attr false) depth) attrs ts at) (t : InText at) where
    -- What is spelled after attributes is spelled with them.
    led : (f : Form) (depth : ℕ) (rest : Tokens) → Spells f depth at rest
        → Spells (behind_attrs (map attr_form attrs) f) depth ts rest
    led f depth rest s =
        behind_attrs_spelled (map attr_form attrs) f depth ts at rest
        (attrs_spelled false depth attrs ts at (rows depth)).0 s

    are : are_attrs false attrs ≡ true
    are = (attrs_spelled false 0 attrs ts at (rows 0)).1

    short_sound : (x : FieldPat × ℕ) (rest : Tokens) → short_field within attrs at ≡ Some (x, rest)
        → Out FieldHeld ts (x, rest)
    short_sound x rest h =
        let y = bind_some (within.pats Single at) _ _ h in
        let s = sound.pats Single at y.0.0 y.0.1 t y.1 in
        let inner = y.0.0.0 in
        let told = about_pat inner in
        let need = y.0.0.1 in
        let F = field_facts (FieldPat-F.Short attrs told) in
        elim (chosen told.short _ _ _ y.2) [
          | inl g ↦
              let form = led (Part told.told.form Done) need y.0.1 (y.0.1, s.0.1, refl) in
              let single = and_parts told.told.good (not told.several) s.0.2 in
              let good = and_from (are_attrs false attrs && told.told.good) told.short
              (and_from (are_attrs false attrs) told.told.good are single.0) g.0 in
              let there : Stands F need ts y.0.1 = (form, good, (follows_parts told y.0.1 s.0.3).refused) in
              same_some (Out FieldHeld ts) ((field.Short attrs inner, need), y.0.1) (x, rest) g.1 (
                held (about_field_pat (field.Short attrs inner)) F budget need ts y.0.1 (field_short_is attrs inner)
                    s.0.0 there,
                s.1,
              )
          | inr g ↦ absurd (cc g.1)
        ]

    named_sound : (o : Got Name) → field_name at ≡ o → (x : FieldPat × ℕ) (rest : Tokens)
        → named_field within attrs o at ≡ Some (x, rest) → Out FieldHeld ts (x, rest)
    named_sound None e x rest h = short_sound x rest h
    named_sound (Some n) e x rest h =
        let i = field_name_sound at n.0 n.1 t e in
        let c = i.0 in
        let y = bind_some (within.pats Alternatives n.1) _ _ h in
        let s = sound.pats Alternatives n.1 y.0.0 y.0.1 i.1 y.1 in
        let inner = y.0.0.0 in
        let told = about_pat inner in
        let need = y.0.0.1 in
        let raw = n.0.raw in
        let text = n.0.text in
        let F = field_facts (FieldPat-F.Named attrs n.0 told) in
        let behind : Form = Piece colon (Part (pat_form Alternatives told) Done) in
        let leaf = leaf_spelled raw text behind need at c.0 y.0.1 c.1
        (n.1, (n.1, c.2, (n.1, refl, refl)), (y.0.1, s.0.1, refl)) in
        let form = led (leaf_of raw text behind) need y.0.1 leaf in
        let good = and_from (are_attrs false attrs && is_name raw text) (pat_good Alternatives told)
        (and_from (are_attrs false attrs) (is_name raw text) are c.3) s.0.2 in
        let there : Stands F need ts y.0.1 = (form, good, alternatives_refused told y.0.1 s.0.3) in
        same_some (Out FieldHeld ts) ((field.Named attrs n.0 inner, need), y.0.1) (x, rest) y.2 (
          held (about_field_pat (field.Named attrs n.0 inner)) F budget need ts y.0.1 (field_named_is attrs n.0 inner)
              s.0.0 there,
          s.1,
        )

    field_by_sound : (o : Got (List ℕ)) → index at ≡ o → (x : FieldPat × ℕ) (rest : Tokens)
        → field_by within attrs o at ≡ Some (x, rest) → Out FieldHeld ts (x, rest)
    field_by_sound None e x rest h = named_sound (field_name at) refl x rest h
    field_by_sound (Some n) e x rest h =
        let i = index_sound at n.0 n.1 t e in
        let c = i.0 in
        let y = bind_some (within.pats Alternatives n.1) _ _ h in
        let s = sound.pats Alternatives n.1 y.0.0 y.0.1 i.1 y.1 in
        let inner = y.0.0.0 in
        let told = about_pat inner in
        let need = y.0.0.1 in
        let F = field_facts (FieldPat-F.Index attrs n.0 told) in
        let behind : Form = Piece colon (Part (pat_form Alternatives told) Done) in
        let form = led (Leaf kind.Int n.0 behind) need y.0.1
        (c.0, c.1, (n.1, (n.1, c.2, (n.1, refl, refl)), (y.0.1, s.0.1, refl))) in
        let good = and_from (are_attrs false attrs) (pat_good Alternatives told) are s.0.2 in
        let there : Stands F need ts y.0.1 = (form, good, alternatives_refused told y.0.1 s.0.3) in
        same_some (Out FieldHeld ts) ((field.Index attrs n.0 inner, need), y.0.1) (x, rest) y.2 (
          held (about_field_pat (field.Index attrs n.0 inner)) F budget need ts y.0.1 (field_index_is attrs n.0 inner)
              s.0.0 there,
          s.1,
        )

  field_sound : SoundStep (one_field within) FieldHeld
  unfolding one_field
  field_sound ts x rest t h =
      let a = bind_some (attributes false ts) _ _ h in
      let r = attributes_sound false 0 ts a.0.0 a.0.1 t a.1 in
      field_by_sound ts a.0.0 a.0.1 (λ depth. (attributes_sound false depth ts a.0.0 a.0.1 t a.1).0) r.1 (index a.0.1)
      refl x rest a.2

  -- Fields in braces stand there, after the opening brace, within the budget.
  abbrev AreFields : Tokens → (List FieldPat × Bool) × ℕ → Tokens → Tokens → Type 0
  AreFields ts x inside rest =
      (x.1 ≤ budget)
      × Spells (braces (not x.0.1) (forms (map about_field_pat x.0.0) ++ rest_form x.0.1)) x.1 ts rest
      × (all_good (map about_field_pat x.0.0) ≡ true)

  -- by whether `..` stands there
  fields_held : (fs : List (FieldPat × ℕ)) (last : Bool) (ts inside end : Tokens) → IsBit (opener Brace) ts inside
      → OpenBy begins_field FieldHeld fs last inside end → InText end
      → (more : Bool) → (last && is_op (codes "..") end) ≡ more → (rest : Tokens)
      → passed (closes Brace) (if more then drop 2 end else end) ≡ Some rest
      → AreFields ts ((nodes fs, more), deepest fs) inside rest × InText rest
  fields_held fs last ts inside end o r t true e rest h =
      let both = and_parts last (is_op (codes "..") end) e in
      let at = drop 2 end in
      let d : IsOperator (codes "..") end at = (both.1, refl) in
      let left = bit_texts (Operator (codes "..")) end at d t in
      let c = closer_passed_is Brace at rest left h in
      let k = open_held begins_field budget form_of_field (λ f. (about_field_pat f).good) FieldHeld
      (λ f us mid s. (s.0, s.1.0, s.1.1)) fs last inside end r in
      let gs = nodes fs in
      let dots = bit_piece (Operator (codes "..")) (deepest fs) end at d in
      let list = last_list form_of_field dots_form (deepest fs) gs last ts inside end at rest o k.0 both.0 dots c in (
        (
          k.1,
          subst (λ es. Spells (braces false (es ++ dots_form ∷ [])) (deepest fs) ts rest)
              (sym (forms_of about_field_pat gs)) list,
          goods_of about_field_pat gs ∙ k.2,
        ),
        bit_texts (closer Brace) at rest c left,
      )
  fields_held fs last ts inside end o r t false e rest h =
      let c = closer_passed_is Brace end rest t h in
      let k = open_held begins_field budget form_of_field (λ f. (about_field_pat f).good) FieldHeld
      (λ f us mid s. (s.0, s.1.0, s.1.1)) fs last inside end r in
      let gs = nodes fs in
      let list = braces_by form_of_field (deepest fs) gs ts inside rest o
      (open_shut begins_field (λ f. SpelledAt (deepest fs) (form_of_field f)) (closer Brace) gs last inside end rest
      k.0 c) in
      let same : map form_of_field gs ≡ forms (map about_field_pat gs) ++ [] =
      sym (forms_of about_field_pat gs) ∙ sym (append-nil (forms (map about_field_pat gs))) in (
        (
          k.1,
          subst (λ es. Spells (braces true es) (deepest fs) ts rest) same list,
          goods_of about_field_pat gs ∙ k.2,
        ),
        bit_texts (closer Brace) end rest c t,
      )

  fields_sound : (ts inside : Tokens) → IsBit (opener Brace) ts inside → InText inside
      → (x : (List FieldPat × Bool) × ℕ) (rest : Tokens) → fields within inside ≡ Some (x, rest)
      → AreFields ts x inside rest × InText rest
  unfolding fields
  fields_sound ts inside o t x rest h =
      let fs = bind_some (open_elements begins_field (one_field within) inside) _ _ h in
      let more = fs.0.0.1 && is_op (codes "..") fs.0.1 in
      let c = bind_some (passed (closes Brace) (if more then drop 2 fs.0.1 else fs.0.1)) _ _ fs.2 in
      let r = open_sound begins_field (one_field within) FieldHeld (λ us f end i b e. field_sound us f end i e)
      inside fs.0.0.0 fs.0.0.1 fs.0.1 t fs.1 in
      same_some (λ (z : ((List FieldPat × Bool) × ℕ) × Tokens). AreFields ts z.0 inside z.1 × InText z.1)
      (((nodes fs.0.0.0, more), deepest fs.0.0.0), c.0) (x, rest) c.2
      (fields_held fs.0.0.0 fs.0.0.1 ts inside fs.0.1 o r.0 r.1 more refl c.0 c.1)

  -- ---- what follows a path

  module _ (p : Path × ℕ) (begun ts : Tokens) (k : Held (path_told Code) budget p begun ts) (t : InText ts) where
    tuple_struct_sound : IsBit (opener Paren) ts (tail ts) → (x : Pat × ℕ) (rest : Tokens)
        → tuple_struct within p (tail ts) ≡ Some (x, rest) → Out (PatOpen (suc budget)) begun (x, rest)
    tuple_struct_sound o x rest h =
        let inside = tail ts in
        let xs = bind_some (elements (closes Paren) (within.pats Alternatives) inside) _ _ h in
        let l = listed budget (λ y. pat_form Alternatives (about_pat y)) (λ y. pat_good Alternatives (about_pat y))
        (PatHeld Alternatives budget) (λ y us mid s. (s.0, s.1, s.2))
        (closes Paren) (opener Paren) (closer Paren) paren_shuts (within.pats Alternatives) (sound.pats Alternatives)
        ts inside xs.0.0 xs.0.1 o (bit_texts (opener Paren) ts inside o t) xs.1 in
        let all = nodes xs.0.0 in
        let told = pat_list Alternatives all in
        let path = path_told Code p.0 in
        let most = max p.1 (deepest xs.0.0) in
        let list : Form = comma_list true (opener Paren) (closer Paren) (pat_forms Alternatives (map about_pat all)) in
        let elements : Spells list (deepest xs.0.0) ts xs.0.1 =
        subst (λ fs. Spells (comma_list true (opener Paren) (closer Paren) fs) (deepest xs.0.0) ts xs.0.1) (sym told.0)
        l.1 in
        let spelled : Spells (Part path.form list) most begun xs.0.1 = (
          ts,
          raise path.form p.1 most begun ts (omega arith) k.1.0,
          raise list (deepest xs.0.0) most ts xs.0.1 (omega arith) elements,
        ) in
        let good = all_pats_good Alternatives (map about_pat all) in
        same_some (Out (PatOpen (suc budget)) begun) ((pat.TupleStruct p.0 all, suc most), xs.0.1) (x, rest) xs.2 (
          shut_open budget (about_pat (pat.TupleStruct p.0 all)) (Part path.form list) (path.good && good) most begun
              xs.0.1 (pat_tuple_struct_is p.0 all) (omega (arith, k.0, l.0)) spelled
              (and_from path.good good k.1.1 (told.1 ∙ l.2)),
          l.3,
        )

    struct_pat_sound : IsBit (opener Brace) ts (tail ts) → (x : Pat × ℕ) (rest : Tokens)
        → struct_pat within p (tail ts) ≡ Some (x, rest) → Out (PatOpen (suc budget)) begun (x, rest)
    struct_pat_sound o x rest h =
        let inside = tail ts in
        let fs = bind_some (fields within inside) _ _ h in
        let s = fields_sound ts inside o (bit_texts (opener Brace) ts inside o t) fs.0.0 fs.0.1 fs.1 in
        let all = fs.0.0.0.0 in
        let more = fs.0.0.0.1 in
        let path = path_told Code p.0 in
        let most = max p.1 fs.0.0.1 in
        let list : Form = braces (not more) (forms (map about_field_pat all) ++ rest_form more) in
        let spelled : Spells (Part path.form list) most begun fs.0.1 = (
          ts,
          raise path.form p.1 most begun ts (omega arith) k.1.0,
          raise list fs.0.0.1 most ts fs.0.1 (omega arith) s.0.1,
        ) in
        let good = all_good (map about_field_pat all) in
        same_some (Out (PatOpen (suc budget)) begun) ((pat.Struct p.0 all more, suc most), fs.0.1) (x, rest) fs.2 (
          shut_open budget (about_pat (pat.Struct p.0 all more)) (Part path.form list) (path.good && good) most begun
              fs.0.1 (pat_struct_is p.0 all more) (omega (arith, k.0, s.0.0)) spelled
              (and_from path.good good k.1.1 s.0.2),
          s.1,
        )

    path_by_sound : (x : Pat × ℕ) (rest : Tokens) → path_by within p ts ≡ Some (x, rest)
        → Out (PatOpen (suc budget)) begun (x, rest)
    unfolding path_by
    path_by_sound x rest h = elim (chosen (first (opens Paren) ts) _ _ _ h) [
      | inl g ↦ tuple_struct_sound (opens_one Paren ts t g.0) x rest g.1
      | inr g ↦ elim (chosen (first (opens Brace) ts) _ _ _ g.1) [
        | inl f ↦ struct_pat_sound (opens_one Brace ts t f.0) x rest f.1
        | inr f ↦ elim (chosen (begins_dots ts) _ _ _ f.1) [
          | inl e ↦
              let start : StartHeld budget (Some (span_end.Path p.0)) p.1 begun ts =
              end_starts budget (span_end.Path p.0) p.1 begun ts k.0 k.1.0 k.1.1 in
              span_sound budget within.kinds sound.kinds (Some (span_end.Path p.0)) p.1 begun ts start t e.0 x rest e.1
          | inr e ↦ word_pat_sound budget within sound p (lone_word p.0) refl begun ts k t x rest e.1
        ]
      ]
    ]

  pub path_pat_sound : SoundStep (path_pat within) (PatOpen (suc budget))
  unfolding path_pat
  path_pat_sound ts x rest t h =
      let p = bind_some (path within.kinds Code ts) _ _ h in
      let s = path_sound budget within.kinds sound.kinds Code ts p.0.0 p.0.1 t p.1 in
      path_by_sound p.0.0 ts p.0.1 s.0 s.1 x rest p.2
