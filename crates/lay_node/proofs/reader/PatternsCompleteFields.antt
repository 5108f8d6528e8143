-- Patterns of structs are read where they are spelled, field by field, where what is one level deeper is read.
use Rattle.std.proofs.Common.{◌≡◌, ℕ, suc, ◌≤◌, ◌<◌, max, Bool, true, false, not, ◌&&◌, ◌||◌, List, [], ◌∷◌, ◌++◌, map, length, drop, codes, Some, None, if◌then◌else◌, inl, inr, refl, sym, ap, subst, ◌∙◌, append-nil, arith}
use Rattle.std.proofs.lemmas.Bool.{and_parts}
use Rattle.std.proofs.lemmas.List.Folds.{list_all-map}
use Rattle.lay_piece.specs.Forms.{opening, closing}
use Rattle.lay_piece.specs.declared.kind.Delim.TheVariants.{Paren, Brace}
use Rattle.lay_piece.specs.declared.kind.Kind.TheVariants as kind
use Rattle.lay_piece.specs.declared.kind.Kind.TheVariants.{Ident, RawIdent, Punct, Opener, Closer}
use Rattle.lay_token.specs.Operators.{is_op}
use Rattle.lay_form.specs.Form.{Blank, Fixed, Operator, Form, Done, Piece, Leaf, Part, keyword, opener, closer}
use Rattle.lay_form.specs.Notation.{when, each, piece, comma_gap, braces, behind_attrs}
use Rattle.lay_form.specs.Spelled.{IsOne, IsOperator, AreBits, Spells}
use Rattle.lay_form.proofs.FormLaws.{shorter}
use Rattle.lay_node.specs.Ahead.{Tokens, first, is_mark, opens, closes}
use Rattle.lay_node.specs.Begins.{OfPath}
use Rattle.lay_node.specs.Words.{is_name, leaf_of}
use Rattle.lay_node.specs.nodes.Attr.{are_attrs, attr_form, about_attr}
use Rattle.lay_node.specs.nodes.Facts.{Facts, forms, all_good}
use Rattle.lay_node.specs.nodes.Patterns.{PatFacts, pat_form, pat_good, rest_form, pat_facts, about_pat, about_field_pat}
use Rattle.lay_node.specs.nodes.Types.{about_path, colon}
use Rattle.lay_node.specs.reader.Attr.{begins_attr}
use Rattle.lay_node.specs.reader.Loops.{passed, nodes, deepest, open_elements}
use Rattle.lay_node.specs.reader.Patterns.{PatWithin, index, field_name, field_by, one_field, begins_field, fields, path_by}
use Rattle.lay_node.specs.reader.Words.{name}
use Rattle.lay_node.specs.declared.attr.Attr.{Attr}
use Rattle.lay_node.specs.declared.patterns.FieldPat.{FieldPat}
use Rattle.lay_node.specs.declared.patterns.FieldPat.TheOpen.{Pat-F}
use Rattle.lay_node.specs.declared.patterns.FieldPat.TheVariants as field
use Rattle.lay_node.specs.declared.patterns.Pat.{Pat}
use Rattle.lay_node.specs.declared.patterns.Pat.TheVariants as pat
use Rattle.lay_node.specs.declared.patterns.PatPlace.TheVariants.{Alternatives, Single}
use Rattle.lay_node.specs.declared.token.Name.{Name}
use Rattle.lay_node.specs.declared.types.Path.{Path}
use Rattle.lay_node.specs.declared.types.PathStyle.TheVariants.{Code}
use Rattle.lay_node.proofs.Fronts.{one_front, one_no_op, one_shorter, closer_first, closer_passed}
use Rattle.lay_node.proofs.Parts.{Rows, GoodAt, behind_attrs_rows, bit_alone, behind_blank, before_blank, piece_bit, part_alone, word_kind, leaf_parts}
use Rattle.lay_node.proofs.nodes.PatternsLaws.{PatView, IsOr, IsValue, IsWild, IsRest, IsCall, IsPath, IsBind, IsSpan, IsRef, IsStruct, IsTupleStruct, IsTuple, IsParen, IsSlice, FieldPatView, IsNamed, IsIndex, IsShort, pat_view, field_pat_view, pat_or_is, pat_value_is, pat_wild_is, pat_rest_is, pat_call_is, pat_path_is, pat_bind_is, pat_span_is, pat_ref_is, pat_struct_is, pat_tuple_struct_is, pat_tuple_is, pat_paren_is, pat_slice_is, field_named_is, field_index_is, field_short_is}
use Rattle.lay_node.proofs.reader.Attr.{attrs_rows}
use Rattle.lay_node.proofs.reader.AttrRead.{attributes_complete}
use Rattle.lay_node.proofs.reader.Exact.{IsRead}
use Rattle.lay_node.proofs.reader.PatternsBegins.{single_begins}
use Rattle.lay_node.proofs.reader.PatternsCompletePaths.{PatReads, Made, path_there}
use Rattle.lay_node.proofs.reader.PatternsFronts.{kind_front, lead_front, ends_fits}
use Rattle.lay_node.proofs.reader.TypesBegins.{opened}
use Rattle.lay_node.proofs.reader.TypesComplete.{and_none, operator_read, name_is_word}
use Rattle.lay_node.proofs.reader.TypesCompleteKinds.{last_part}
use Rattle.lay_node.proofs.reader.TypesCompleteParts.{one_left, colon_operator, attrs_front}
use Rattle.lay_node.proofs.reader.TypesFronts.{word_lead, lead_no_attr, Ends, comma_ends, closer_ends}
use Rattle.lay_node.proofs.reader.TypesLists.{forms_of, last_of_all, Ending, open_none, open_read}
use Rattle.lay_node.proofs.reader.Words.{name_complete}

-- ---- names that are bound to the field of that name

record IsShortBind (x : Pat) : Type 0 where
  pub by_ref : Bool
  pub mutable : Bool
  pub name : Name
  pub same : x ≡ pat.Bind by_ref mutable name None

short_bind : (x : Pat) → (about_pat x).short ≡ true → IsShortBind x
short_bind x h = at x (pat_view x) h
  where
    no : (x : Pat) → (about_pat x).short ≡ false → (about_pat x).short ≡ true → IsShortBind x
    no x n k = let e = sym n ∙ k in absurd (cc)

    at : (x : Pat) → PatView x → (about_pat x).short ≡ true → IsShortBind x
    at _ (IsBind r m n None) k = record { by_ref = r; mutable = m; name = n; same = refl }
    at _ (IsOr xs) k = no (pat.Or xs) (ap (λ (F : PatFacts). F.short) (pat_or_is xs)) k
    at _ (IsValue v) k = no (pat.Value v) (ap (λ (F : PatFacts). F.short) (pat_value_is v)) k
    at _ IsWild k = no pat.Wild (ap (λ (F : PatFacts). F.short) pat_wild_is) k
    at _ IsRest k = no pat.Rest (ap (λ (F : PatFacts). F.short) pat_rest_is) k
    at _ (IsCall c) k = no (pat.Call c) (ap (λ (F : PatFacts). F.short) (pat_call_is c)) k
    at _ (IsPath p) k = no (pat.Path p) (ap (λ (F : PatFacts). F.short) (pat_path_is p)) k
    at _ (IsBind r m n (Some y)) k = no (pat.Bind r m n (Some y)) (ap (λ (F : PatFacts). F.short) (pat_bind_is r m n (Some y))) k
    at _ (IsSpan a i e) k = no (pat.Span a i e) (ap (λ (F : PatFacts). F.short) (pat_span_is a i e)) k
    at _ (IsRef m y) k = no (pat.Ref m y) (ap (λ (F : PatFacts). F.short) (pat_ref_is m y)) k
    at _ (IsStruct p fs d) k = no (pat.Struct p fs d) (ap (λ (F : PatFacts). F.short) (pat_struct_is p fs d)) k
    at _ (IsTupleStruct p xs) k = no (pat.TupleStruct p xs) (ap (λ (F : PatFacts). F.short) (pat_tuple_struct_is p xs)) k
    at _ (IsTuple xs) k = no (pat.Tuple xs) (ap (λ (F : PatFacts). F.short) (pat_tuple_is xs)) k
    at _ (IsParen y) k = no (pat.Paren y) (ap (λ (F : PatFacts). F.short) (pat_paren_is y)) k
    at _ (IsSlice xs) k = no (pat.Slice xs) (ap (λ (F : PatFacts). F.short) (pat_slice_is xs)) k

-- ---- what a field begins with, after its attributes

pub record FieldFront (ts : Tokens) : Type 0 where
  pub attr : begins_attr false ts ≡ false
  pub brace : first (closes Brace) ts ≡ false
  pub rest : is_op (codes "..") ts ≡ false

pub word_front : (raw : Bool) (text : List ℕ) (ts rest : Tokens) → IsOne (word_kind raw) text ts rest → is_name raw text ≡ true → FieldFront ts
word_front raw text ts rest o g =
    let l = word_lead raw text ts rest o (name_is_word raw text g) in
    let f = lead_front ts OfPath l in
    record { attr = lead_no_attr ts OfPath l; brace = f.closer Brace; rest = f.dots }

keyword_front : (word : List ℕ) (ts rest : Tokens) → IsOne Ident word ts rest → FieldFront ts
keyword_front word ts rest o =
    let f = (one_front Ident word ts rest o).1 in
    record { attr = rw f refl; brace = rw f refl; rest = one_no_op (codes "..") Ident word ts rest refl o }

pub word_no_index : (raw : Bool) (text : List ℕ) (ts rest : Tokens) → IsOne (word_kind raw) text ts rest → index ts ≡ None
word_no_index true text ts rest o = rw (one_front RawIdent text ts rest o).1 refl
word_no_index false text ts rest o = rw (one_front Ident text ts rest o).1 refl

-- A short field is no index, and no name with a `:` after it.
record ShortFront (ts rest : Tokens) : Type 0 where
  pub front : FieldFront ts
  pub index : index ts ≡ None
  pub named : Ends rest → field_name ts ≡ None

short_front : (x : Pat) (depth : ℕ) (ts rest : Tokens) → Spells (about_pat x).told.form depth ts rest → (about_pat x).told.good ≡ true
    → (about_pat x).short ≡ true → ShortFront ts rest
unfolding name
short_front x depth ts rest s g h = by b.by_ref b.mutable b.name
    (subst (λ (F : PatFacts). Spells F.told.form depth ts rest) told s) (subst (λ (F : PatFacts). F.told.good ≡ true) told g)
  where
    b : IsShortBind x
    b = short_bind x h

    told : about_pat x ≡ pat_facts (Pat-F.Bind b.by_ref b.mutable b.name None)
    told = ap about_pat b.same ∙ pat_bind_is b.by_ref b.mutable b.name None

    alone : (n : Name) (at : Tokens) → name ts ≡ Some (n, at) → is_op (codes ":") at ≡ false → field_name ts ≡ None
    alone n at read no_colon = rw (read, no_colon) refl

    by : (r m : Bool) (n : Name) → Spells (pat_facts (Pat-F.Bind r m n None)).told.form depth ts rest
        → (pat_facts (Pat-F.Bind r m n None)).told.good ≡ true → ShortFront ts rest
    by true m n t k =
        let i = opened (Piece (keyword (codes "ref") ∷ Blank ∷ []) (when m (keyword (codes "mut") ∷ Blank ∷ []) (leaf_of n.raw n.text Done))) depth ts rest t in
        let u = i.2 in
        let o : IsOne Ident (codes "ref") ts u.0 = before_blank (keyword (codes "ref")) ts u.0 u.1 in
        let f = (one_front Ident (codes "ref") ts u.0 o).1 in
        record { front = keyword_front (codes "ref") ts u.0 o; index = rw f refl; named = λ e. rw f refl }
    by false true n t k =
        let i = opened (Piece (keyword (codes "mut") ∷ Blank ∷ []) (leaf_of n.raw n.text Done)) depth ts rest t in
        let u = i.2 in
        let o : IsOne Ident (codes "mut") ts u.0 = before_blank (keyword (codes "mut")) ts u.0 u.1 in
        let f = (one_front Ident (codes "mut") ts u.0 o).1 in
        record { front = keyword_front (codes "mut") ts u.0 o; index = rw f refl; named = λ e. rw f refl }
    by false false n t k =
        let i = opened (leaf_of n.raw n.text Done) depth ts rest t in
        let l = leaf_parts n.raw n.text Done i.0 ts rest i.2 in
        let good = (and_parts (is_name n.raw n.text) true k).0 in
        let read = name_complete n ts l.0 (l.1, good) in
        record {
          front = word_front n.raw n.text ts l.0 l.1 good;
          index = word_no_index n.raw n.text ts l.0 l.1;
          named = λ e. alone n l.0 read (subst (λ us. is_op (codes ":") us ≡ false) (sym l.2) e.colon);
        }

-- ---- one field

module _ (depth : ℕ) (inner : PatWithin) (reads : PatReads depth inner) where
  record FieldParts (f : FieldPat) (ts rest : Tokens) : Type 0 where
    pub attrs : List Attr
    pub mid : Tokens
    pub rows : Rows (GoodAt (about_attr false) depth) attrs ts mid
    pub attr : begins_attr false mid ≡ false
    pub brace : first (closes Brace) mid ≡ false
    pub rest_there : is_op (codes "..") mid ≡ false
    pub less : length rest < length mid
    pub read : Ends rest → IsRead depth (λ us. field_by inner attrs (index us) us) f mid rest

  parts_of : (f : FieldPat) (attrs : List Attr) (ts mid rest : Tokens) → Rows (GoodAt (about_attr false) depth) attrs ts mid → FieldFront mid
      → length rest < length mid → (Ends rest → IsRead depth (λ us. field_by inner attrs (index us) us) f mid rest) → FieldParts f ts rest
  parts_of f attrs ts mid rest rows front less read = record {
    attrs = attrs;
    mid = mid;
    rows = rows;
    attr = front.attr;
    brace = front.brace;
    rest_there = front.rest;
    less = less;
    read = read;
  }

  attrs_parts : (attrs : List Attr) (f : Form) (ts rest : Tokens) → Spells (behind_attrs (map attr_form attrs) f) depth ts rest → are_attrs false attrs ≡ true
      → (mid : Tokens) × Rows (GoodAt (about_attr false) depth) attrs ts mid × Spells f depth mid rest
  attrs_parts attrs f ts rest s g =
      let r = behind_attrs_rows (map attr_form attrs) f depth ts rest s in (r.0, attrs_rows false depth attrs ts r.0 r.1 g, r.2)

  abbrev pat_behind : Pat → Form
  pat_behind x = Piece colon (Part (pat_form Alternatives (about_pat x)) Done)

  named_by : (attrs : List Attr) (n : Name) (x : Pat) (k : ℕ) (ts at behind rest : Tokens) → index ts ≡ None → name ts ≡ Some (n, at)
      → IsOperator (codes ":") at behind → inner.pats Alternatives behind ≡ Some ((x, k), rest)
      → field_by inner attrs (index ts) ts ≡ Some ((field.Named attrs n x, k), rest)
  named_by attrs n x k ts at behind rest i h o e = rw (i, h, operator_read (codes ":") at behind o, e) refl

  index_by : (attrs : List Attr) (number : List ℕ) (x : Pat) (k : ℕ) (ts at behind rest : Tokens) → IsOne kind.Int number ts at
      → IsOperator (codes ":") at behind → inner.pats Alternatives behind ≡ Some ((x, k), rest)
      → field_by inner attrs (index ts) ts ≡ Some ((field.Index attrs number x, k), rest)
  index_by attrs number x k ts at behind rest i o e =
      let there : index ts ≡ Some (number, behind) = rw ((one_front kind.Int number ts at i).1, o.0, o.1) refl in
      rw (there, e) refl

  short_by : (attrs : List Attr) (x : Pat) (k : ℕ) (ts rest : Tokens) → field_name ts ≡ None → index ts ≡ None → inner.pats Single ts ≡ Some ((x, k), rest)
      → (about_pat x).short ≡ true → field_by inner attrs (index ts) ts ≡ Some ((field.Short attrs x, k), rest)
  short_by attrs x k ts rest named i e h = rw (i, named, e, h) refl

  field_parts : (f : FieldPat) (ts rest : Tokens) → Spells (about_field_pat f).form depth ts rest → (about_field_pat f).good ≡ true → FieldParts f ts rest
  field_parts f ts rest s g = by f (field_pat_view f) s g
    where
      by : (f : FieldPat) → FieldPatView f → Spells (about_field_pat f).form depth ts rest → (about_field_pat f).good ≡ true → FieldParts f ts rest
      by _ (IsNamed attrs n x) t h =
          let u = subst (λ (F : Facts). Spells F.form depth ts rest) (field_named_is attrs n x) t in
          let good = subst (λ (F : Facts). F.good ≡ true) (field_named_is attrs n x) h in
          let goods = and_parts (are_attrs false attrs && is_name n.raw n.text) (pat_good Alternatives (about_pat x)) good in
          let named = and_parts (are_attrs false attrs) (is_name n.raw n.text) goods.0 in
          let r = attrs_parts attrs (leaf_of n.raw n.text (pat_behind x)) ts rest u named.0 in
          let mid = r.0 in
          let l = leaf_parts n.raw n.text (pat_behind x) depth mid rest r.2 in
          let c = l.2 in
          parts_of (field.Named attrs n x) attrs ts mid rest r.1 (word_front n.raw n.text mid l.0 l.1 named.1)
          (omega (arith, one_shorter (word_kind n.raw) n.text mid l.0 l.1, shorter (pat_behind x) depth l.0 rest l.2))
          (λ e.
          let one =
          reads.pats Alternatives x c.0 rest (part_alone (pat_form Alternatives (about_pat x)) depth c.0 rest c.2) goods.1 (ends_fits Alternatives (about_pat x) rest e) in
          (one.0, one.1, named_by attrs n x one.0 mid l.0 c.0 rest (word_no_index n.raw n.text mid l.0 l.1) (name_complete n mid l.0 (l.1, named.1)) (colon_operator l.0 c.0 c.1) one.2))
      by _ (IsIndex attrs number x) t h =
          let u = subst (λ (F : Facts). Spells F.form depth ts rest) (field_index_is attrs number x) t in
          let good = subst (λ (F : Facts). F.good ≡ true) (field_index_is attrs number x) h in
          let goods = and_parts (are_attrs false attrs) (pat_good Alternatives (about_pat x)) good in
          let r = attrs_parts attrs (Leaf kind.Int number (pat_behind x)) ts rest u goods.0 in
          let mid = r.0 in
          let l = r.2 in
          let o : IsOne kind.Int number mid l.0 = l.1 in
          let c = l.2 in
          let f = kind_front kind.Int number refl (λ d. refl) refl mid l.0 o in
          let front : FieldFront mid = record { attr = rw (one_front kind.Int number mid l.0 o).1 refl; brace = f.closer Brace; rest = f.dots } in
          parts_of (field.Index attrs number x) attrs ts mid rest r.1 front
          (omega (arith, one_shorter kind.Int number mid l.0 o, shorter (pat_behind x) depth l.0 rest c))
          (λ e.
          let one =
          reads.pats Alternatives x c.0 rest (part_alone (pat_form Alternatives (about_pat x)) depth c.0 rest c.2) goods.1 (ends_fits Alternatives (about_pat x) rest e) in
          (one.0, one.1, index_by attrs number x one.0 mid l.0 c.0 rest o (colon_operator l.0 c.0 c.1) one.2))
      by _ (IsShort attrs x) t h =
          let u = subst (λ (F : Facts). Spells F.form depth ts rest) (field_short_is attrs x) t in
          let good = subst (λ (F : Facts). F.good ≡ true) (field_short_is attrs x) h in
          let goods = and_parts (are_attrs false attrs && (about_pat x).told.good) (about_pat x).short good in
          let first_goods = and_parts (are_attrs false attrs) (about_pat x).told.good goods.0 in
          let r = attrs_parts attrs (Part (pat_form Single (about_pat x)) Done) ts rest u first_goods.0 in
          let mid = r.0 in
          let spelled = part_alone (about_pat x).told.form depth mid rest r.2 in
          let single = short_single x first_goods.1 goods.1 in
          let f = short_front x depth mid rest spelled first_goods.1 goods.1 in
          parts_of (field.Short attrs x) attrs ts mid rest r.1 f.front (single_begins x depth mid rest spelled single).less
          (λ e.
          let one = reads.pats Single x mid rest spelled single (ends_fits Single (about_pat x) rest e) in
          (one.0, one.1, short_by attrs x one.0 mid rest (f.named e) f.index one.2 goods.1))
        where
          short_single : (x : Pat) → (about_pat x).told.good ≡ true → (about_pat x).short ≡ true → pat_good Single (about_pat x) ≡ true
          short_single x g h =
              let b = short_bind x h in
              let n : (about_pat x).several ≡ false =
              ap (λ (F : PatFacts). F.several) (ap about_pat b.same ∙ pat_bind_is b.by_ref b.mutable b.name None) in
              rw (g, n) refl

  field_read : (f : FieldPat) (ts rest : Tokens) → Spells (about_field_pat f).form depth ts rest → (about_field_pat f).good ≡ true → Ends rest
      → IsRead depth (one_field inner) f ts rest
  unfolding one_field
  field_read f ts rest s g e =
      let p = field_parts f ts rest s g in
      let r = p.read e in
      (r.0, r.1, rw (attributes_complete false p.attrs depth ts p.mid p.rows p.attr) r.2)

  field_starts : (f : FieldPat) (ts rest : Tokens) → Spells (about_field_pat f).form depth ts rest → (about_field_pat f).good ≡ true
      → (begins_field ts ≡ true) × (length rest < length ts)
  field_starts f ts rest s g =
      let p = field_parts f ts rest s g in
      let b = attrs_front p.attrs depth ts p.mid p.rows in
      (rw (b.closer Brace p.brace, b.rest p.rest_there) refl, omega (arith, b.shorter, p.less))

  -- ---- all fields

  abbrev FieldsRead : List FieldPat → Bool → Tokens → Tokens → Type 0
  FieldsRead fs last ts rest = (ys : List (FieldPat × ℕ)) × (nodes ys ≡ fs) × (deepest ys ≤ depth)
      × (open_elements begins_field (one_field inner) ts ≡ Some ((ys, last), rest))

  some_fields : (last : Bool) (f : FieldPat) (fs : List FieldPat) (ts mid end rest : Tokens) → all_good (map about_field_pat (f ∷ fs)) ≡ true
      → Spells (about_field_pat f).form depth ts mid → Spells (each comma_gap (map (λ y. (about_field_pat y).form) fs)) depth mid end
      → Ending begins_field (λ (y : FieldPat) us. Ends us) last (f ∷ fs) end rest → FieldsRead (f ∷ fs) last ts rest
  some_fields last f fs ts mid end rest g one s ending =
      open_read begins_field (one_field inner) (λ y. (about_field_pat y).form) (λ y. (about_field_pat y).good) (λ y us. Ends us) depth field_read field_starts
      (λ y us at o h. comma_ends us at o) last f fs ts mid end rest (sym (list_all-map (λ (x : Facts). x.good) about_field_pat (f ∷ fs)) ∙ g) one s ending

  no_fields : (ts : Tokens) → begins_field ts ≡ false → FieldsRead [] true ts ts
  no_fields ts h = ([], refl, omega arith, open_none begins_field (one_field inner) ts h)

  -- fields, and whether a `..` stands after them
  fields_made : (fs : List FieldPat) (last dotted : Bool) (ts end rest : Tokens) → FieldsRead fs last ts end → (last && is_op (codes "..") end) ≡ dotted
      → passed (closes Brace) (if dotted then drop 2 end else end) ≡ Some rest → IsRead depth (fields inner) (fs, dotted) ts rest
  unfolding fields
  fields_made fs last dotted ts end rest r d p = (deepest r.0, r.2, made r.0 r.1 r.3)
    where
      made : (ys : List (FieldPat × ℕ)) → nodes ys ≡ fs → open_elements begins_field (one_field inner) ts ≡ Some ((ys, last), end)
          → fields inner ts ≡ Some (((fs, dotted), deepest ys), rest)
      made ys same h = rw (h, d, p, same) refl

  abbrev Close : Tokens → Tokens → Type 0
  Close ts rest = IsOne (Closer Brace) (closing Brace ∷ []) ts rest

  close_no_field : (ts rest : Tokens) → Close ts rest → (begins_field ts ≡ false) × (is_op (codes "..") ts ≡ false)
  close_no_field ts rest o = (rw (closer_first Brace ts rest o).0 refl, one_no_op (codes "..") (Closer Brace) (closing Brace ∷ []) ts rest refl o)

  rest_no_field : (ts : Tokens) → is_op (codes "..") ts ≡ true → begins_field ts ≡ false
  rest_no_field ts h = rw (h, or_true (first (closes Brace) ts)) refl
    where
      or_true : (b : Bool) → (b || true) ≡ true
      or_true true = refl
      or_true false = refl

  -- where a `..` stands after them, and where none does
  closed_fields : (fs : List FieldPat) (last : Bool) (ts end rest : Tokens) → FieldsRead fs last ts end → Close end rest
      → IsRead depth (fields inner) (fs, false) ts rest
  closed_fields fs last ts end rest r o =
      fields_made fs last false ts end rest r (rw (close_no_field end rest o).1 (and_none last)) (closer_passed Brace end rest o)

  dotted_fields : (fs : List FieldPat) (ts end behind rest : Tokens) → FieldsRead fs true ts end → IsOperator (codes "..") end behind → Close behind rest
      → IsRead depth (fields inner) (fs, true) ts rest
  dotted_fields fs ts end behind rest r d o = fields_made fs true true ts end rest r d.0 (rw d.1 (closer_passed Brace behind rest o))

  brace_opens : (ts rest : Tokens) → AreBits (Blank ∷ opener Brace ∷ []) ts rest → IsOne (Opener Brace) (opening Brace ∷ []) ts rest
  brace_opens ts rest s = bit_alone (opener Brace) ts rest (behind_blank (opener Brace ∷ []) ts rest s)

  abbrev FieldsBehind : List FieldPat → Bool → Tokens → Tokens → Type 0
  FieldsBehind fs dotted ts rest =
      (inside : Tokens) × IsOne (Opener Brace) (opening Brace ∷ []) ts inside × IsRead depth (fields inner) (fs, dotted) inside rest

  fields_read : (fs : List FieldPat) (dotted : Bool) (ts rest : Tokens)
      → Spells (braces (not dotted) (forms (map about_field_pat fs) ++ rest_form dotted)) depth ts rest → all_good (map about_field_pat fs) ≡ true
      → FieldsBehind fs dotted ts rest
  fields_read [] false ts rest s g =
      let bits = behind_blank (opener Brace ∷ closer Brace ∷ []) ts s.0 s.1 in
      let inside = bits.0 in
      let close : Close inside rest = subst (λ us. Close inside us) s.2 (bit_alone (closer Brace) inside s.0 bits.2) in
      (inside, bits.1, closed_fields [] true inside inside rest (no_fields inside (close_no_field inside rest close).0) close)
  fields_read [] true ts rest s g =
      let inside = s.0 in
      let row = s.2.1 in
      let at = row.0 in
      let d : IsOperator (codes "..") inside at = piece_bit (Operator (codes "..")) depth inside at row.1 in
      let more = row.2 in
      let end = s.2.0 in
      let same : at ≡ end = more.1 ∙ more.2 in
      let close : Close at rest = subst (λ us. Close us rest) (sym same) (piece_bit (closer Brace) depth end rest s.2.2) in
      (inside, brace_opens ts inside s.1, dotted_fields [] inside inside at rest (no_fields inside (rest_no_field inside d.0)) d close)
  fields_read (f ∷ fs) false ts rest s g =
      let gs = map (λ (y : FieldPat). (about_field_pat y).form) fs in
      let more_forms : (forms (map about_field_pat fs) ++ []) ≡ gs =
      append-nil (forms (map about_field_pat fs)) ∙ forms_of (λ (F : Facts). F.form) about_field_pat fs in
      let t = subst (λ hs. Spells (braces true ((about_field_pat f).form ∷ hs)) depth ts rest) more_forms s in
      let inside = t.0 in
      let row = t.2.1 in
      let more = row.2 in
      let last = more.2 in
      let end = t.2.0 in
      let closing_there : Close end rest = piece_bit (closer Brace) depth end rest t.2.2 in
      let close : Close last.0 rest = subst (λ us. Close us rest) (sym last.2) closing_there in
      let n = close_no_field last.0 rest close in
      elim last.1 [
        | inl e ↦
            let no_comma : first (is_mark (codes ",")) last.0 ≡ false = rw (one_front (Closer Brace) (closing Brace ∷ []) last.0 rest close).1 refl in
            let r = some_fields false f fs inside row.0 more.0 last.0 g row.1 more.1 (e, no_comma, last_of_all Ends (f ∷ fs) last.0 (closer_ends Brace last.0 rest close)) in
            (inside, brace_opens ts inside t.1, closed_fields (f ∷ fs) false inside last.0 rest r close)
        | inr b ↦
            let here : IsOne Punct (codes ",") more.0 last.0 = bit_alone (Fixed Punct (codes ",")) more.0 last.0 b in
            let r = some_fields true f fs inside row.0 more.0 last.0 g row.1 more.1 (here, n.0) in
            (inside, brace_opens ts inside t.1, closed_fields (f ∷ fs) true inside last.0 rest r close)
      ]
  fields_read (f ∷ fs) true ts rest s g =
      let inside = s.0 in
      let row = s.2.1 in
      let more = row.2 in
      let end = s.2.0 in
      let l = last_part (forms (map about_field_pat fs)) (piece (Operator (codes "..") ∷ [])) depth row.0 more.0 more.1 in
      let spelled = subst (λ hs. Spells (each comma_gap hs) depth row.0 l.0) (forms_of (λ (F : Facts). F.form) about_field_pat fs) l.2 in
      let d : IsOperator (codes "..") l.1 more.0 = piece_bit (Operator (codes "..")) depth l.1 more.0 l.4 in
      let close : Close more.0 rest = subst (λ us. Close us rest) (sym more.2) (piece_bit (closer Brace) depth end rest s.2.2) in
      let r = some_fields true f fs inside row.0 l.0 l.1 g row.1 spelled (l.3, rest_no_field l.1 d.0) in
      (inside, brace_opens ts inside s.1, dotted_fields (f ∷ fs) inside l.1 more.0 rest r d close)

  -- ---- patterns of structs

  struct_by : (p : Path) (n : ℕ) (fs : List FieldPat) (dotted : Bool) (k : ℕ) (mid inside rest : Tokens)
      → IsOne (Opener Brace) (opening Brace ∷ []) mid inside → fields inner inside ≡ Some (((fs, dotted), k), rest)
      → path_by inner (p, n) mid ≡ Some ((pat.Struct p fs dotted, suc (max n k)), rest)
  unfolding path_by
  struct_by p n fs dotted k mid inside rest o h =
      let f = (one_front (Opener Brace) (opening Brace ∷ []) mid inside o).1 in
      let no_paren : first (opens Paren) mid ≡ false = rw f refl in
      let there : first (opens Brace) mid ≡ true = rw f refl in
      rw (no_paren, there, one_left (Opener Brace) (opening Brace ∷ []) mid inside o, h) refl

  pub struct_made : (p : Path) (fs : List FieldPat) (dotted : Bool) (ts rest : Tokens)
      → Spells (Part (about_path p Code).form (braces (not dotted) (forms (map about_field_pat fs) ++ rest_form dotted))) depth ts rest
      → (about_path p Code).good ≡ true → all_good (map about_field_pat fs) ≡ true → Made depth inner reads (pat.Struct p fs dotted) ts rest
  struct_made p fs dotted ts rest s g h =
      let mid = s.0 in
      let l = fields_read fs dotted mid rest s.2 h in
      let inside = l.0 in
      let o : IsOne (Opener Brace) (opening Brace ∷ []) mid inside = l.1 in
      let colons : is_op (codes "::") mid ≡ false = one_no_op (codes "::") (Opener Brace) (opening Brace ∷ []) mid inside refl o in
      let bang : is_op (codes "!") mid ≡ false = one_no_op (codes "!") (Opener Brace) (opening Brace ∷ []) mid inside refl o in
      let t = path_there depth inner reads p ts mid s.1 g (record { colons = colons; bang = bang }) in
      let r = l.2 in
      (suc (max t.0 r.0), omega (arith, t.1, r.1), t.2 ∙ struct_by p t.0 fs dotted r.0 mid inside rest o r.2)
