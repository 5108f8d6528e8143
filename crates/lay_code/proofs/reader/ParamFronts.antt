-- A pattern begins with no `|`, though a closing one may stand directly before another. So where a parameter of a closure
-- begins its parameters don't end.
use Rattle.std.proofs.Common.{◌≡◌, ℕ, Bool, true, false, not, ◌&&◌, ◌||◌, List, [], ◌∷◌, ◌++◌, map, codes, option_map, Some, None, inl, inr, refl, sym, subst}
use Rattle.std.proofs.lemmas.Bool.{and_parts, or_cases}
use Rattle.lay_piece.specs.Forms.{opening}
use Rattle.lay_piece.specs.declared.kind.Delim.{Delim}
use Rattle.lay_piece.specs.declared.kind.Delim.TheVariants.{Bracket, Paren}
use Rattle.lay_piece.specs.declared.kind.Kind.{Kind}
use Rattle.lay_piece.specs.declared.kind.Kind.TheVariants.{Doc, Ident, Opener, Punct, Underscore}
use Rattle.lay_token.specs.Lexes.{is_punct}
use Rattle.lay_token.specs.Operators.{is_op}
use Rattle.lay_form.specs.Form.{Blank, Done, Fixed, Form, Operator, Part, Piece, closer, keyword, opener, punct}
use Rattle.lay_form.specs.Notation.{braces, comma_list, piece, when}
use Rattle.lay_form.specs.Spelled.{IsOne, IsOperator, Spells}
use Rattle.lay_node.specs.Ahead.{Tokens, first, is_mark, tail}
use Rattle.lay_node.specs.Begins.{Lead, OfPath, lead_at}
use Rattle.lay_node.specs.Words.{is_literal, is_name, is_number, leaf_of}
use Rattle.lay_node.specs.nodes.Attr.{about_attr, are_attrs}
use Rattle.lay_node.specs.nodes.Call.{about_call}
use Rattle.lay_node.specs.nodes.Facts.{forms}
use Rattle.lay_node.specs.nodes.Functions.{may_be_type, self_type as param_type}
use Rattle.lay_node.specs.nodes.Patterns.{PatFacts, about_field_pat, about_pat, all_pats_good, bound_form, bound_good, dots, end_form, has_ends, is_end, is_value, last_end, may_be_path, may_end, one_form, pat_facts, pat_form, pat_forms, pat_good, rest_form, tuple_form, value_form}
use Rattle.lay_node.specs.nodes.Types.{about_path, is_several, literal_form, lone_word}
use Rattle.lay_node.specs.reader.Attr.{begins_attr, is_doc, is_doc_kind}
use Rattle.lay_node.specs.declared.attr.Attr.{Attr}
use Rattle.lay_node.specs.declared.patterns.FieldPat.TheOpen.{Pat-F}
use Rattle.lay_node.specs.declared.patterns.Pat.{Pat}
use Rattle.lay_node.specs.declared.patterns.Pat.TheVariants as pat
use Rattle.lay_node.specs.declared.patterns.PatPlace.TheVariants.{Alternatives, Single}
use Rattle.lay_node.specs.declared.patterns.PatValue.{PatValue}
use Rattle.lay_node.specs.declared.patterns.SpanEnd.{SpanEnd}
use Rattle.lay_node.specs.declared.patterns.SpanEnd.TheVariants as span_end
use Rattle.lay_node.specs.declared.types.PathStyle.TheVariants.{Code}
use Rattle.lay_node.proofs.Fronts.{mark_one, one_front}
use Rattle.lay_node.proofs.Parts.{GoodAt, Rows, before_blank, bit_alone, leaf_parts, piece_bit}
use Rattle.lay_node.proofs.nodes.PatternsLaws.{PatView, IsOr, IsValue, IsWild, IsRest, IsCall, IsPath, IsBind, IsSpan, IsRef, IsStruct, IsTupleStruct, IsTuple, IsParen, IsSlice, pat_view, pat_or_is, pat_value_is, pat_wild_is, pat_rest_is, pat_call_is, pat_path_is, pat_bind_is, pat_span_is, pat_ref_is, pat_struct_is, pat_tuple_struct_is, pat_tuple_is, pat_paren_is, pat_slice_is}
use Rattle.lay_node.proofs.reader.AttrRead.{attr_begins}
use Rattle.lay_node.proofs.reader.TypesBegins.{call_begins, list_front, opened, path_begins}
use Rattle.lay_node.proofs.reader.TypesComplete.{name_is_word}
use Rattle.lay_node.proofs.reader.TypesCompleteParts.{param_attrs_rows}
use Rattle.lay_node.proofs.reader.TypesFronts.{lead_no_mark, op_first, word_lead}
use Rattle.lay_code.specs.nodes.Exprs.{closure_param, is_closure_param}
use Rattle.lay_code.specs.declared.exprs.ClosureParam.{ClosureParam}

abbrev pub NoBar : Tokens → Type 0
NoBar ts = first (is_mark (codes "|")) ts ≡ false

-- ---- first tokens

kind_no_bar : (k : Kind) (text : List ℕ) → is_punct k ≡ false → (ts rest : Tokens) → IsOne k text ts rest → NoBar ts
kind_no_bar k text n ts rest o = rw ((one_front k text ts rest o).1, n) refl

lead_no_bar_mark : (ts : Tokens) (l : Lead) → lead_at ts ≡ Some l → NoBar ts
lead_no_bar_mark = lead_no_mark 124 (λ us n. rw n refl) refl

opener_no_bar : (d : Delim) (ts rest : Tokens) → IsOne (Opener d) (opening d ∷ []) ts rest → NoBar ts
opener_no_bar d ts rest o = kind_no_bar (Opener d) (opening d ∷ []) refl ts rest o

dots_no_bar : (cs : List ℕ) (ts : Tokens) → is_op (46 ∷ cs) ts ≡ true → NoBar ts
dots_no_bar cs ts h = let f = op_first 46 cs ts h in rw f.3 refl

list_no_bar : (d : Delim) (fs : List Form) (depth : ℕ) (ts rest : Tokens) → Spells (comma_list true (opener d) (closer d) fs) depth ts rest → NoBar ts
list_no_bar d fs depth ts rest s = let l = list_front (opener d) (closer d) fs depth ts rest s in opener_no_bar d ts l.0 l.1

literal_no_bar : (k : Kind) (text : List ℕ) → is_literal k text ≡ true → (ts rest : Tokens) → IsOne k text ts rest → NoBar ts
literal_no_bar k text g ts rest o = kind_no_bar k text (by k g) ts rest o
  where
    by : (k : Kind) → is_literal k text ≡ true → is_punct k ≡ false
    by Punct e = absurd (cc)
    by _ e = refl

value_no_bar : (v : PatValue) (depth : ℕ) (ts rest : Tokens) → Spells (value_form v) depth ts rest → is_value v ≡ true → NoBar ts
value_no_bar v depth ts rest s g =
    by v.negative s (and_parts (is_literal v.literal.kind v.literal.text) (not v.negative || is_number v.literal.kind) g).0
  where
    by : (negative : Bool) → Spells (when negative (punct 45 ∷ []) (literal_form v.literal Done)) depth ts rest
        → is_literal v.literal.kind v.literal.text ≡ true → NoBar ts
    by true t h = rw (one_front Punct (codes "-") ts t.0 (bit_alone (punct 45) ts t.0 t.1)).1 refl
    by false t h = literal_no_bar v.literal.kind v.literal.text h ts t.0 t.1

end_no_bar : (e : SpanEnd) (depth : ℕ) (ts rest : Tokens) → Spells (end_form e) depth ts rest → is_end e ≡ true → NoBar ts
end_no_bar (span_end.Value v) depth ts rest s g = value_no_bar v depth ts rest s g
end_no_bar (span_end.Path p) depth ts rest s g = lead_no_bar_mark ts OfPath (path_begins Code p depth ts rest s g).lead

dots_there : (inclusive : Bool) (f : Form) (depth : ℕ) (ts rest : Tokens) → Spells (Piece (dots inclusive) f) depth ts rest → NoBar ts
dots_there true f depth ts rest s =
    let o : IsOperator (codes "..=") ts s.0 = bit_alone (Operator (codes "..=")) ts s.0 s.1 in dots_no_bar (codes ".=") ts o.0
dots_there false f depth ts rest s =
    let o : IsOperator (codes "..") ts s.0 = bit_alone (Operator (codes "..")) ts s.0 s.1 in dots_no_bar (codes ".") ts o.0

tuple_no_bar : (xs : List PatFacts) (depth : ℕ) (ts rest : Tokens) → Spells (tuple_form xs) depth ts rest → NoBar ts
tuple_no_bar [] depth ts rest s = list_no_bar Paren [] depth ts rest s
tuple_no_bar (x ∷ []) depth ts rest s = by x.rest s
  where
    by : (r : Bool) → Spells (one_form r x) depth ts rest → NoBar ts
    by true t = opener_no_bar Paren ts t.0 (bit_alone (opener Paren) ts t.0 t.1)
    by false t = opener_no_bar Paren ts t.0 (bit_alone (opener Paren) ts t.0 t.1)
tuple_no_bar (x ∷ y ∷ ys) depth ts rest s = list_no_bar Paren (pat_forms Alternatives (x ∷ y ∷ ys)) depth ts rest s

bind_no_bar : (r m raw : Bool) (text : List ℕ) (f : Form) (depth : ℕ) (ts rest : Tokens)
    → Spells (when r (keyword (codes "ref") ∷ Blank ∷ []) (when m (keyword (codes "mut") ∷ Blank ∷ []) (leaf_of raw text f))) depth ts rest
    → is_name raw text ≡ true → NoBar ts
bind_no_bar true m raw text f depth ts rest s g =
    kind_no_bar Ident (codes "ref") refl ts s.0 (before_blank (keyword (codes "ref")) ts s.0 s.1)
bind_no_bar false true raw text f depth ts rest s g =
    kind_no_bar Ident (codes "mut") refl ts s.0 (before_blank (keyword (codes "mut")) ts s.0 s.1)
bind_no_bar false false raw text f depth ts rest s g =
    let l = leaf_parts raw text f depth ts rest s in
    lead_no_bar_mark ts OfPath (word_lead raw text ts l.0 l.1 (name_is_word raw text g))

-- ---- patterns

module _ (depth : ℕ) (ts rest : Tokens) where
  abbrev Begins : PatFacts → Type 0
  Begins F = Spells F.told.form depth ts rest → pat_good Single F ≡ true → NoBar ts

  told : (x : Pat) (F : PatFacts) → about_pat x ≡ F → Begins F → Begins (about_pat x)
  told x F e f = subst Begins (sym e) f

  good_of : (F : PatFacts) → pat_good Single F ≡ true → F.told.good ≡ true
  good_of F g = (and_parts F.told.good (not F.several) g).0

  begins : (x : Pat) → PatView x → Begins (about_pat x)
  begins _ (IsOr xs) = told (pat.Or xs) (pat_facts (Pat-F.Or (map about_pat xs))) (pat_or_is xs)
      (λ s g. let e = (and_parts (is_several (map about_pat xs) && all_pats_good Single (map about_pat xs)) false g).1 in absurd (cc))
  begins _ (IsValue v) = told (pat.Value v) (pat_facts (Pat-F.Value v)) (pat_value_is v) (λ s g.
      let i = opened (value_form v) depth ts rest s in
      value_no_bar v i.0 ts rest i.2 (good_of (pat_facts (Pat-F.Value v)) g))
  begins _ IsWild = told pat.Wild (pat_facts Pat-F.Wild) pat_wild_is (λ s g.
      let i = opened (piece (Fixed Underscore (codes "_") ∷ [])) depth ts rest s in
      kind_no_bar Underscore (codes "_") refl ts rest (piece_bit (Fixed Underscore (codes "_")) i.0 ts rest i.2))
  begins _ IsRest = told pat.Rest (pat_facts Pat-F.Rest) pat_rest_is (λ s g.
      let i = opened (piece (Operator (codes "..") ∷ [])) depth ts rest s in dots_there false Done i.0 ts rest i.2)
  begins _ (IsCall c) = told (pat.Call c) (pat_facts (Pat-F.Call c)) (pat_call_is c) (λ s g.
      let i = opened (about_call c).form depth ts rest s in
      lead_no_bar_mark ts OfPath (call_begins c i.0 ts rest i.2 (good_of (pat_facts (Pat-F.Call c)) g)).lead)
  begins _ (IsPath p) = told (pat.Path p) (pat_facts (Pat-F.Path p)) (pat_path_is p) (λ s g.
      let i = opened (about_path p Code).form depth ts rest s in
      let goods = and_parts (about_path p Code).good (may_be_path (lone_word p)) (good_of (pat_facts (Pat-F.Path p)) g) in
      lead_no_bar_mark ts OfPath (path_begins Code p i.0 ts rest i.2 goods.0).lead)
  begins _ (IsBind r m n of) = told (pat.Bind r m n of) (pat_facts (Pat-F.Bind r m n (option_map about_pat of))) (pat_bind_is r m n of) (λ s g.
      let behind : Form = bound_form (option_map about_pat of) in
      let f : Form = when r (keyword (codes "ref") ∷ Blank ∷ []) (when m (keyword (codes "mut") ∷ Blank ∷ []) (leaf_of n.raw n.text behind)) in
      let i = opened f depth ts rest s in
      let good = (and_parts (is_name n.raw n.text) (bound_good (option_map about_pat of)) (good_of (pat_facts (Pat-F.Bind r m n (option_map about_pat of))) g)).0 in
      bind_no_bar r m n.raw n.text behind i.0 ts rest i.2 good)
  begins _ (IsSpan None inclusive e) = told (pat.Span None inclusive e) (pat_facts (Pat-F.Span None inclusive e)) (pat_span_is None inclusive e) (λ s g.
      let i = opened (Piece (dots inclusive) (last_end e)) depth ts rest s in dots_there inclusive (last_end e) i.0 ts rest i.2)
  begins _ (IsSpan (Some a) inclusive e) = told (pat.Span (Some a) inclusive e) (pat_facts (Pat-F.Span (Some a) inclusive e)) (pat_span_is (Some a) inclusive e)
      (λ s g.
      let i = opened (Part (end_form a) (Piece (dots inclusive) (last_end e))) depth ts rest s in
      let goods = (and_parts (has_ends (Some a) inclusive e && is_end a) (may_end e) (good_of (pat_facts (Pat-F.Span (Some a) inclusive e)) g)).0 in
      let t = i.2 in
      end_no_bar a i.0 ts t.0 t.1 (and_parts (has_ends (Some a) inclusive e) (is_end a) goods).1)
  begins _ (IsRef m x) = told (pat.Ref m x) (pat_facts (Pat-F.Ref m (about_pat x))) (pat_ref_is m x) (λ s g.
      let f : Form = when m (keyword (codes "mut") ∷ Blank ∷ []) (Part (pat_form Single (about_pat x)) Done) in
      let i = opened (Piece (Fixed Punct (codes "&") ∷ []) f) depth ts rest s in
      let t = i.2 in
      rw (one_front Punct (codes "&") ts t.0 (bit_alone (Fixed Punct (codes "&")) ts t.0 t.1)).1 refl)
  begins _ (IsStruct p fields dotted) =
      told (pat.Struct p fields dotted) (pat_facts (Pat-F.Struct p (map about_field_pat fields) dotted)) (pat_struct_is p fields dotted) (λ s g.
      let f : Form = braces (not dotted) (forms (map about_field_pat fields) ++ rest_form dotted) in
      let i = opened (Part (about_path p Code).form f) depth ts rest s in
      let t = i.2 in
      let good = (and_parts (about_path p Code).good _ (good_of (pat_facts (Pat-F.Struct p (map about_field_pat fields) dotted)) g)).0 in
      lead_no_bar_mark ts OfPath (path_begins Code p i.0 ts t.0 t.1 good).lead)
  begins _ (IsTupleStruct p xs) = told (pat.TupleStruct p xs) (pat_facts (Pat-F.TupleStruct p (map about_pat xs))) (pat_tuple_struct_is p xs) (λ s g.
      let f : Form = comma_list true (opener Paren) (closer Paren) (pat_forms Alternatives (map about_pat xs)) in
      let i = opened (Part (about_path p Code).form f) depth ts rest s in
      let t = i.2 in
      let good = (and_parts (about_path p Code).good _ (good_of (pat_facts (Pat-F.TupleStruct p (map about_pat xs))) g)).0 in
      lead_no_bar_mark ts OfPath (path_begins Code p i.0 ts t.0 t.1 good).lead)
  begins _ (IsTuple xs) = told (pat.Tuple xs) (pat_facts (Pat-F.Tuple (map about_pat xs))) (pat_tuple_is xs) (λ s g.
      let i = opened (tuple_form (map about_pat xs)) depth ts rest s in tuple_no_bar (map about_pat xs) i.0 ts rest i.2)
  begins _ (IsParen x) = told (pat.Paren x) (pat_facts (Pat-F.Paren (about_pat x))) (pat_paren_is x) (λ s g.
      let i = opened (Piece (opener Paren ∷ []) (Part (pat_form Alternatives (about_pat x)) (piece (closer Paren ∷ [])))) depth ts rest s in
      let t = i.2 in
      opener_no_bar Paren ts t.0 (bit_alone (opener Paren) ts t.0 t.1))
  begins _ (IsSlice xs) = told (pat.Slice xs) (pat_facts (Pat-F.Slice (map about_pat xs))) (pat_slice_is xs) (λ s g.
      let fs = pat_forms Alternatives (map about_pat xs) in
      let i = opened (comma_list true (opener Bracket) (closer Bracket) fs) depth ts rest s in
      list_no_bar Bracket fs i.0 ts rest i.2)

pub pat_no_bar : (x : Pat) (depth : ℕ) (ts rest : Tokens) → Spells (about_pat x).told.form depth ts rest → pat_good Single (about_pat x) ≡ true → NoBar ts
pat_no_bar x depth ts rest s g = begins depth ts rest x (pat_view x) s g

-- ---- parameters

-- an attribute
attr_no_bar : (ts : Tokens) → begins_attr false ts ≡ true → NoBar ts
attr_no_bar ts h = elim (or_cases (first (is_doc false) ts) (first (is_mark (codes "#")) ts) h) [
  | inl d ↦ doc ts d
  | inr m ↦ rw (one_front Punct (codes "#") ts (tail ts) (mark_one (codes "#") ts m)).1 refl
]
  where
    kind : (k : Kind) → is_doc_kind false k ≡ true → is_punct k ≡ false
    kind (Doc inner block) e = refl
    kind _ e = absurd (cc)

    doc : (us : Tokens) → first (is_doc false) us ≡ true → NoBar us
    doc [] e = refl
    doc (u ∷ us) e = rw (kind u.kind e) refl

attrs_no_bar : (attrs : List Attr) (depth : ℕ) (ts mid : Tokens) → Rows (GoodAt (about_attr false) depth) attrs ts mid → NoBar mid → NoBar ts
attrs_no_bar [] depth ts mid r n = subst NoBar (sym r) n
attrs_no_bar (a ∷ more) depth ts mid r n = attr_no_bar ts (attr_begins false a depth ts r.0 r.1)

-- A parameter of a closure isn't the `|` after the last one.
pub param_no_bar : (p : ClosureParam) (depth : ℕ) (ts rest : Tokens) → Spells (closure_param p) depth ts rest → is_closure_param p ≡ true → NoBar ts
param_no_bar p depth ts rest s g =
    let P = about_pat p.pat in
    let g2 = and_parts (are_attrs false p.attrs && pat_good Single P) (may_be_type p.ty) g in
    let g1 = and_parts (are_attrs false p.attrs) (pat_good Single P) g2.0 in
    let r = param_attrs_rows p.attrs (Part (pat_form Single P) (Part (param_type p.ty) Done)) depth ts rest s g1.0 in
    let t = r.2 in
    attrs_no_bar p.attrs depth ts r.0 r.1 (pat_no_bar p.pat depth r.0 t.0 t.1 g1.1)
