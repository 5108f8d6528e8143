-- What a pattern begins with: what begins an expression, but no closure, or one of the words `ref` and `mut`.
use Rattle.std.proofs.Common.{◌≡◌, ℕ, zero, suc, Bool, true, false, not, ◌&&◌, List, [], ◌∷◌, ◌++◌, map, codes, Option, option_map, Some, None, ◌⊎◌, inl, inr, refl, sym, ap, subst, ◌∙◌}
use Rattle.std.proofs.lemmas.Bool.{and_parts, not-true}
use Rattle.lay_piece.specs.Forms.{opening}
use Rattle.lay_piece.specs.declared.kind.Delim.TheVariants.{Paren, Bracket}
use Rattle.lay_piece.specs.declared.kind.Kind.TheVariants.{Ident, Underscore, Punct, Opener}
use Rattle.lay_form.specs.Form.{Blank, Fixed, Operator, Form, Done, Piece, Part, keyword, opener, closer}
use Rattle.lay_form.specs.Notation.{when, piece, comma_list, braces}
use Rattle.lay_form.specs.Spelled.{IsOne, Spells}
use Rattle.lay_node.specs.Ahead.{Tokens}
use Rattle.lay_node.specs.Words.{is_name, leaf_of}
use Rattle.lay_node.specs.nodes.Call.{about_call}
use Rattle.lay_node.specs.nodes.Facts.{forms, all_good}
use Rattle.lay_node.specs.nodes.Patterns.{PatFacts, pat_form, pat_good, pat_forms, all_pats_good, value_form, is_value, dots, first_end, last_end, may_end, has_ends, may_be_path, bound_form, bound_good, rest_form, tuple_form, one_form, pat_facts, about_pat, about_field_pat}
use Rattle.lay_node.specs.nodes.Types.{about_path, is_several, joined, lone_word}
use Rattle.lay_node.specs.declared.patterns.FieldPat.TheOpen.{Pat-F}
use Rattle.lay_node.specs.declared.patterns.Pat.{Pat}
use Rattle.lay_node.specs.declared.patterns.Pat.TheVariants as pat
use Rattle.lay_node.specs.declared.patterns.PatPlace.TheVariants.{Alternatives, Single}
use Rattle.lay_node.specs.declared.patterns.PatValue.{PatValue}
use Rattle.lay_node.specs.declared.patterns.SpanEnd.{SpanEnd}
use Rattle.lay_node.specs.declared.patterns.SpanEnd.TheVariants as span_end
use Rattle.lay_node.specs.declared.types.Path.{Path}
use Rattle.lay_node.specs.declared.types.PathStyle.TheVariants.{Code}
use Rattle.lay_node.proofs.Parts.{before_blank, bit_alone, leaf_parts, piece_bit}
use Rattle.lay_node.proofs.nodes.PatternsLaws.{PatView, IsOr, IsValue, IsWild, IsRest, IsCall, IsPath, IsBind, IsSpan, IsRef, IsStruct, IsTupleStruct, IsTuple, IsParen, IsSlice, pat_view, pat_or_is, pat_value_is, pat_wild_is, pat_rest_is, pat_call_is, pat_path_is, pat_bind_is, pat_span_is, pat_ref_is, pat_struct_is, pat_tuple_struct_is, pat_tuple_is, pat_paren_is, pat_slice_is}
use Rattle.lay_node.proofs.reader.PatternsBegins.{bar}
use Rattle.lay_node.proofs.reader.PatternsComplete.{no_depth}
use Rattle.lay_node.proofs.reader.TypesBegins.{path_begins, call_begins, list_front, opened}
use Rattle.lay_node.proofs.reader.TypesComplete.{name_is_word}
use Rattle.lay_node.proofs.reader.TypesCompleteKinds.{inner_of}
use Rattle.lay_node.proofs.reader.TypesFronts.{word_lead}
use Rattle.lay_code.specs.Operands.{ExprLead, ByLiteral, ByPath, ByUnderscore, ByParen, ByBracket, ByPrefix, ByRange, ByClosure, expr_lead_at}
use Rattle.lay_code.proofs.reader.ExprLeads.{literal_lead, lone_lead, path_lead, range_lead}

abbrev pub is_closure_lead : ExprLead → Bool
is_closure_lead ByClosure = true
is_closure_lead _ = false

-- It begins an expression that is no closure, or is one of the two words.
abbrev pub PatLead : Tokens → Type 0
PatLead ts = ((l : ExprLead) × (expr_lead_at ts ≡ Some l) × (is_closure_lead l ≡ false))
    ⊎ ((word : List ℕ) × (rest : Tokens) × IsOne Ident word ts rest × ((word ≡ codes "ref") ⊎ (word ≡ codes "mut")))

value_leads : (v : PatValue) (depth : ℕ) (ts rest : Tokens) → Spells (value_form v) depth ts rest → is_value v ≡ true → PatLead ts
value_leads v depth ts rest s g = by v.negative s
  where
    by : (b : Bool) → Spells (value_form (record v { negative = b })) depth ts rest → PatLead ts
    by true t = inl (ByPrefix, lone_lead Punct (codes "-") ByPrefix (λ us. refl) ts t.0 (bit_alone (Fixed Punct (codes "-")) ts t.0 t.1), refl)
    by false t = inl (ByLiteral, literal_lead v.literal.kind v.literal.text ts t.0 (and_parts _ _ g).0 t.1, refl)

path_leads : (p : Path) (depth : ℕ) (ts rest : Tokens) → Spells (about_path p Code).form depth ts rest → (about_path p Code).good ≡ true → PatLead ts
path_leads p depth ts rest s g = inl (ByPath, path_lead ts (path_begins Code p depth ts rest s g).lead, refl)

span_leads : (start : Option SpanEnd) (inclusive : Bool) (end : Option SpanEnd) (depth : ℕ) (ts rest : Tokens)
    → Spells (first_end start (Piece (dots inclusive) (last_end end))) depth ts rest → may_end start ≡ true → PatLead ts
span_leads None inclusive end depth ts rest s g = inl (ByRange, range_lead inclusive ts s.0 s.1, refl)
span_leads (Some (span_end.Value v)) inclusive end depth ts rest s g = value_leads v depth ts s.0 s.1 g
span_leads (Some (span_end.Path p)) inclusive end depth ts rest s g = path_leads p depth ts s.0 s.1 g

paren_leads : (ts rest : Tokens) → IsOne (Opener Paren) (opening Paren ∷ []) ts rest → PatLead ts
paren_leads ts rest o = inl (ByParen, lone_lead (Opener Paren) (opening Paren ∷ []) ByParen (λ us. refl) ts rest o, refl)

bracket_leads : (ts rest : Tokens) → IsOne (Opener Bracket) (opening Bracket ∷ []) ts rest → PatLead ts
bracket_leads ts rest o = inl (ByBracket, lone_lead (Opener Bracket) (opening Bracket ∷ []) ByBracket (λ us. refl) ts rest o, refl)

tuple_leads : (xs : List PatFacts) (depth : ℕ) (ts rest : Tokens) → Spells (tuple_form xs) depth ts rest → PatLead ts
tuple_leads [] depth ts rest s = let l = list_front (opener Paren) (closer Paren) [] depth ts rest s in paren_leads ts l.0 l.1
tuple_leads (x ∷ []) depth ts rest s = by x.rest s
  where
    by : (r : Bool) → Spells (one_form r x) depth ts rest → PatLead ts
    by true t = paren_leads ts t.0 (bit_alone (opener Paren) ts t.0 t.1)
    by false t = paren_leads ts t.0 (bit_alone (opener Paren) ts t.0 t.1)
tuple_leads (x ∷ y ∷ ys) depth ts rest s =
    let l = list_front (opener Paren) (closer Paren) (pat_forms Alternatives (x ∷ y ∷ ys)) depth ts rest s in paren_leads ts l.0 l.1

bind_leads : (by_ref mutable : Bool) (raw : Bool) (text : List ℕ) (f : Form) (depth : ℕ) (ts rest : Tokens)
    → Spells (when by_ref (keyword (codes "ref") ∷ Blank ∷ []) (when mutable (keyword (codes "mut") ∷ Blank ∷ []) (leaf_of raw text f))) depth ts rest
    → is_name raw text ≡ true → PatLead ts
bind_leads true mutable raw text f depth ts rest s g = inr (codes "ref", s.0, before_blank (keyword (codes "ref")) ts s.0 s.1, inl refl)
bind_leads false true raw text f depth ts rest s g = inr (codes "mut", s.0, before_blank (keyword (codes "mut")) ts s.0 s.1, inr refl)
bind_leads false false raw text f depth ts rest s g =
    let l = leaf_parts raw text f depth ts rest s in inl (ByPath, path_lead ts (word_lead raw text ts l.0 l.1 (name_is_word raw text g)), refl)

-- ---- all kinds

-- a pattern with these facts begins so
abbrev Leads : ℕ → Tokens → Tokens → PatFacts → Type 0
Leads depth ts rest F = Spells F.told.form depth ts rest → F.told.good ≡ true → PatLead ts

told_leads : (depth : ℕ) (ts rest : Tokens) (x : Pat) (F : PatFacts) → about_pat x ≡ F → Leads depth ts rest F → Leads depth ts rest (about_pat x)
told_leads depth ts rest x F e f = subst (Leads depth ts rest) (sym e) f

-- one that isn't several alternatives
single : (depth : ℕ) (ts rest : Tokens) (x : Pat) → PatView x → (about_pat x).several ≡ false → Leads (suc depth) ts rest (about_pat x)
single depth ts rest _ (IsOr xs) n = let e = sym n ∙ ap (λ (F : PatFacts). F.several) (pat_or_is xs) in absurd (cc)
single depth ts rest _ (IsValue v) n = told_leads (suc depth) ts rest (pat.Value v) (pat_facts (Pat-F.Value v)) (pat_value_is v)
    (λ s g. value_leads v depth ts rest (inner_of (value_form v) depth ts rest s) g)
single depth ts rest _ IsWild n = told_leads (suc depth) ts rest pat.Wild (pat_facts Pat-F.Wild) pat_wild_is (λ s g.
    let o : IsOne Underscore (codes "_") ts rest =
    piece_bit (Fixed Underscore (codes "_")) depth ts rest (inner_of (piece (Fixed Underscore (codes "_") ∷ [])) depth ts rest s) in
    inl (ByUnderscore, lone_lead Underscore (codes "_") ByUnderscore (λ us. refl) ts rest o, refl))
single depth ts rest _ IsRest n = told_leads (suc depth) ts rest pat.Rest (pat_facts Pat-F.Rest) pat_rest_is
    (λ s g. let t = inner_of (piece (Operator (codes "..") ∷ [])) depth ts rest s in inl (ByRange, range_lead false ts t.0 t.1, refl))
single depth ts rest _ (IsCall c) n = told_leads (suc depth) ts rest (pat.Call c) (pat_facts (Pat-F.Call c)) (pat_call_is c)
    (λ s g. inl (ByPath, path_lead ts (call_begins c depth ts rest (inner_of (about_call c).form depth ts rest s) g).lead, refl))
single depth ts rest _ (IsPath p) n = told_leads (suc depth) ts rest (pat.Path p) (pat_facts (Pat-F.Path p)) (pat_path_is p)
    (λ s g. path_leads p depth ts rest (inner_of (about_path p Code).form depth ts rest s) (and_parts (about_path p Code).good (may_be_path (lone_word p)) g).0)
single depth ts rest _ (IsBind r m n of) k = told_leads (suc depth) ts rest (pat.Bind r m n of) (pat_facts (Pat-F.Bind r m n (option_map about_pat of))) (pat_bind_is r m n of)
    (λ s g.
    let behind : Form = bound_form (option_map about_pat of) in
    let f : Form = when r (keyword (codes "ref") ∷ Blank ∷ []) (when m (keyword (codes "mut") ∷ Blank ∷ []) (leaf_of n.raw n.text behind)) in
    bind_leads r m n.raw n.text behind depth ts rest (inner_of f depth ts rest s) (and_parts (is_name n.raw n.text) (bound_good (option_map about_pat of)) g).0)
single depth ts rest _ (IsSpan a i e) n = told_leads (suc depth) ts rest (pat.Span a i e) (pat_facts (Pat-F.Span a i e)) (pat_span_is a i e)
    (λ s g.
    let goods = (and_parts (has_ends a i e && may_end a) (may_end e) g).0 in
    span_leads a i e depth ts rest (inner_of (first_end a (Piece (dots i) (last_end e))) depth ts rest s) (and_parts (has_ends a i e) (may_end a) goods).1)
single depth ts rest _ (IsRef m x) n = told_leads (suc depth) ts rest (pat.Ref m x) (pat_facts (Pat-F.Ref m (about_pat x))) (pat_ref_is m x)
    (λ s g.
    let f : Form = when m (keyword (codes "mut") ∷ Blank ∷ []) (Part (pat_form Single (about_pat x)) Done) in
    let t = inner_of (Piece (Fixed Punct (codes "&") ∷ []) f) depth ts rest s in
    inl (ByPrefix, lone_lead Punct (codes "&") ByPrefix (λ us. refl) ts t.0 (bit_alone (Fixed Punct (codes "&")) ts t.0 t.1), refl))
single depth ts rest _ (IsStruct p fields dotted) n =
    told_leads (suc depth) ts rest (pat.Struct p fields dotted) (pat_facts (Pat-F.Struct p (map about_field_pat fields) dotted)) (pat_struct_is p fields dotted)
    (λ s g.
    let fs : List Form = forms (map about_field_pat fields) ++ rest_form dotted in
    let t = inner_of (Part (about_path p Code).form (braces (not dotted) fs)) depth ts rest s in
    path_leads p depth ts t.0 t.1 (and_parts (about_path p Code).good (all_good (map about_field_pat fields)) g).0)
single depth ts rest _ (IsTupleStruct p xs) n =
    told_leads (suc depth) ts rest (pat.TupleStruct p xs) (pat_facts (Pat-F.TupleStruct p (map about_pat xs))) (pat_tuple_struct_is p xs)
    (λ s g.
    let fs = pat_forms Alternatives (map about_pat xs) in
    let t = inner_of (Part (about_path p Code).form (comma_list true (opener Paren) (closer Paren) fs)) depth ts rest s in
    path_leads p depth ts t.0 t.1 (and_parts (about_path p Code).good (all_pats_good Alternatives (map about_pat xs)) g).0)
single depth ts rest _ (IsTuple xs) n = told_leads (suc depth) ts rest (pat.Tuple xs) (pat_facts (Pat-F.Tuple (map about_pat xs))) (pat_tuple_is xs)
    (λ s g. tuple_leads (map about_pat xs) depth ts rest (inner_of (tuple_form (map about_pat xs)) depth ts rest s))
single depth ts rest _ (IsParen x) n = told_leads (suc depth) ts rest (pat.Paren x) (pat_facts (Pat-F.Paren (about_pat x))) (pat_paren_is x)
    (λ s g.
    let t = inner_of (Piece (opener Paren ∷ []) (Part (pat_form Alternatives (about_pat x)) (piece (closer Paren ∷ [])))) depth ts rest s in
    paren_leads ts t.0 (bit_alone (opener Paren) ts t.0 t.1))
single depth ts rest _ (IsSlice xs) n = told_leads (suc depth) ts rest (pat.Slice xs) (pat_facts (Pat-F.Slice (map about_pat xs))) (pat_slice_is xs)
    (λ s g.
    let fs = pat_forms Alternatives (map about_pat xs) in
    let l = list_front (opener Bracket) (closer Bracket) fs depth ts rest (inner_of (comma_list true (opener Bracket) (closer Bracket) fs) depth ts rest s) in
    bracket_leads ts l.0 l.1)

one_leads : (depth : ℕ) (ts rest : Tokens) (x : Pat) → (about_pat x).several ≡ false → Leads depth ts rest (about_pat x)
one_leads zero ts rest x n s g = absurd (no_depth x ts rest s)
one_leads (suc depth) ts rest x n s g = single depth ts rest x (pat_view x) n s g

pub single_leads : (x : Pat) (depth : ℕ) (ts rest : Tokens) → Spells (about_pat x).told.form depth ts rest → pat_good Single (about_pat x) ≡ true → PatLead ts
single_leads x depth ts rest s g =
    let goods = and_parts (about_pat x).told.good (not (about_pat x).several) g in
    one_leads depth ts rest x (not-true (about_pat x).several goods.1) s goods.0

-- Alternatives begin with the first.
pub pat_leads : (x : Pat) (depth : ℕ) (ts rest : Tokens) → Spells (about_pat x).told.form depth ts rest → (about_pat x).told.good ≡ true → PatLead ts
pat_leads x depth ts rest s g = by (about_pat x).several refl
  where
    or : (xs : List Pat) → Spells (pat_facts (Pat-F.Or (map about_pat xs))).told.form depth ts rest
        → (is_several (map about_pat xs) && all_pats_good Single (map about_pat xs)) ≡ true → PatLead ts
    or [] t h = absurd (cc)
    or (y ∷ []) t h = absurd (cc)
    or (y ∷ z ∷ more) t h =
        let i = opened (Part (joined bar (pat_forms Single (map about_pat (y ∷ z ∷ more)))) Done) depth ts rest t in
        let row = i.2.1 in
        single_leads y i.0 ts row.0 row.1 (and_parts (pat_good Single (about_pat y)) _ h).0

    many : (x : Pat) → PatView x → (about_pat x).several ≡ true → Leads depth ts rest (about_pat x)
    many _ (IsOr xs) n = told_leads depth ts rest (pat.Or xs) (pat_facts (Pat-F.Or (map about_pat xs))) (pat_or_is xs) (or xs)
    many _ (IsValue v) n = let e = sym n ∙ ap (λ (F : PatFacts). F.several) (pat_value_is v) in absurd (cc)
    many _ IsWild n = let e = sym n ∙ ap (λ (F : PatFacts). F.several) pat_wild_is in absurd (cc)
    many _ IsRest n = let e = sym n ∙ ap (λ (F : PatFacts). F.several) pat_rest_is in absurd (cc)
    many _ (IsCall c) n = let e = sym n ∙ ap (λ (F : PatFacts). F.several) (pat_call_is c) in absurd (cc)
    many _ (IsPath p) n = let e = sym n ∙ ap (λ (F : PatFacts). F.several) (pat_path_is p) in absurd (cc)
    many _ (IsBind r m a of) n = let e = sym n ∙ ap (λ (F : PatFacts). F.several) (pat_bind_is r m a of) in absurd (cc)
    many _ (IsSpan a i b) n = let e = sym n ∙ ap (λ (F : PatFacts). F.several) (pat_span_is a i b) in absurd (cc)
    many _ (IsRef m y) n = let e = sym n ∙ ap (λ (F : PatFacts). F.several) (pat_ref_is m y) in absurd (cc)
    many _ (IsStruct p fields dotted) n = let e = sym n ∙ ap (λ (F : PatFacts). F.several) (pat_struct_is p fields dotted) in absurd (cc)
    many _ (IsTupleStruct p xs) n = let e = sym n ∙ ap (λ (F : PatFacts). F.several) (pat_tuple_struct_is p xs) in absurd (cc)
    many _ (IsTuple xs) n = let e = sym n ∙ ap (λ (F : PatFacts). F.several) (pat_tuple_is xs) in absurd (cc)
    many _ (IsParen y) n = let e = sym n ∙ ap (λ (F : PatFacts). F.several) (pat_paren_is y) in absurd (cc)
    many _ (IsSlice xs) n = let e = sym n ∙ ap (λ (F : PatFacts). F.several) (pat_slice_is xs) in absurd (cc)

    by : (b : Bool) → (about_pat x).several ≡ b → PatLead ts
    by false n = one_leads depth ts rest x n s g
    by true n = many x (pat_view x) n s g
