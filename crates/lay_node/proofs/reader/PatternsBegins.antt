-- How patterns begin.
use Rattle.std.proofs.Common.{◌≡◌, ℕ, suc, ◌≤◌, ◌<◌, Bool, true, false, not, ◌&&◌, List, [], ◌∷◌, ◌++◌, map, length, codes, Option, option_map, Some, None, inl, inr, refl, sym, ap, subst, arith}
use Rattle.std.proofs.lemmas.Bool.{and_parts}
use Rattle.std.specs.Str.{bytes_eq}
use Rattle.lay_piece.specs.Forms.{opening}
use Rattle.lay_piece.specs.declared.kind.Delim.{Delim}
use Rattle.lay_piece.specs.declared.kind.Delim.TheVariants.{Paren, Bracket}
use Rattle.lay_piece.specs.declared.kind.Kind.TheVariants.{Ident, Underscore, Punct, Opener}
use Rattle.lay_token.specs.Operators.{is_op}
use Rattle.lay_form.specs.Form.{Blank, Fixed, Operator, Form, Done, Piece, Part, LastComma, punct, keyword, opener, closer}
use Rattle.lay_form.specs.Notation.{B, when, each, piece, comma_gap, comma_list, braces}
use Rattle.lay_form.specs.Spelled.{IsOne, IsOperator, Spells}
use Rattle.lay_form.proofs.FormLaws.{shorter}
use Rattle.lay_node.specs.Ahead.{Tokens, first, is_closer, closes}
use Rattle.lay_node.specs.Begins.{OfPath}
use Rattle.lay_node.specs.Words.{is_name, leaf_of}
use Rattle.lay_node.specs.nodes.Call.{about_call}
use Rattle.lay_node.specs.nodes.Facts.{forms}
use Rattle.lay_node.specs.nodes.Patterns.{PatFacts, pat_form, pat_good, pat_forms, all_pats_good, value_form, dots, first_end, last_end, may_end, has_ends, bound_form, bound_good, rest_form, tuple_form, one_form, pat_facts, about_pat, about_field_pat}
use Rattle.lay_node.specs.nodes.Types.{about_path, is_several, joined}
use Rattle.lay_node.specs.reader.Patterns.{behind_bar}
use Rattle.lay_node.specs.declared.patterns.FieldPat.TheOpen.{Pat-F}
use Rattle.lay_node.specs.declared.patterns.Pat.{Pat}
use Rattle.lay_node.specs.declared.patterns.Pat.TheVariants as pat
use Rattle.lay_node.specs.declared.patterns.PatPlace.{PatPlace}
use Rattle.lay_node.specs.declared.patterns.PatPlace.TheVariants.{Alternatives, Single}
use Rattle.lay_node.specs.declared.patterns.SpanEnd.{SpanEnd}
use Rattle.lay_node.specs.declared.token.Name.{Name}
use Rattle.lay_node.specs.declared.types.Path.{Path}
use Rattle.lay_node.specs.declared.types.PathStyle.TheVariants.{Code}
use Rattle.lay_node.proofs.Fronts.{one_no_op, one_test, op_front, op_test, other_op, one_shorter, op_shorter}
use Rattle.lay_node.proofs.Parts.{bit_alone, before_blank, piece_bit, part_alone, word_kind, leaf_parts}
use Rattle.lay_node.proofs.nodes.PatternsLaws.{PatView, IsOr, IsValue, IsWild, IsRest, IsCall, IsPath, IsBind, IsSpan, IsRef, IsStruct, IsTupleStruct, IsTuple, IsParen, IsSlice, pat_view, pat_or_is, pat_value_is, pat_wild_is, pat_rest_is, pat_call_is, pat_path_is, pat_bind_is, pat_span_is, pat_ref_is, pat_struct_is, pat_tuple_struct_is, pat_tuple_is, pat_paren_is, pat_slice_is}
use Rattle.lay_node.proofs.reader.PatternsFronts.{Front, lead_front, kind_front, mark_front, Begun, front_begun}
use Rattle.lay_node.proofs.reader.PatternsParts.{value_complete, end_front}
use Rattle.lay_node.proofs.reader.TypesBegins.{opened, path_begins, call_begins}
use Rattle.lay_node.proofs.reader.TypesComplete.{name_is_word}
use Rattle.lay_node.proofs.reader.TypesFronts.{word_lead}

abbrev pub bar : Form → Form
bar f = B (Piece (Operator (codes "|") ∷ Blank ∷ []) f)

-- ---- one pattern

opener_front : (d : Delim) (ts rest : Tokens) → IsOne (Opener d) (opening d ∷ []) ts rest → Front ts
opener_front d = kind_front (Opener d) (opening d ∷ []) refl (λ e. refl) refl

list_begins : (d : Delim) (fs : List Form) (depth : ℕ) (ts rest : Tokens) → Spells (comma_list true (opener d) (closer d) fs) depth ts rest
    → Front ts × (length rest < length ts)
list_begins d [] depth ts rest s =
    let o : IsOne (Opener d) (opening d ∷ []) ts s.1.0 = s.1.1 in
    let le = shorter (piece (closer d ∷ [])) depth s.1.0 rest (s.0, s.1.2, s.2) in
    (opener_front d ts s.1.0 o, omega (arith, one_shorter (Opener d) (opening d ∷ []) ts s.1.0 o, le))
list_begins d (e ∷ es) depth ts rest s =
    let u = s.1 in
    let o : IsOne (Opener d) (opening d ∷ []) ts u.0 = bit_alone (opener d) ts u.0 u.1 in
    let f : Form = Part e (Part (each comma_gap es) (LastComma 0 (piece (closer d ∷ [])))) in
    let le = shorter f depth u.0 s.0 u.2 in
    (opener_front d ts u.0 o, omega (arith, one_shorter (Opener d) (opening d ∷ []) ts u.0 o, le, ap length s.2))

module _ (depth : ℕ) (ts rest : Tokens) where
  -- a pattern with these facts begins so
  abbrev Begins : PatFacts → Type 0
  Begins F = Spells F.told.form depth ts rest → pat_good Single F ≡ true → Begun F ts rest

  told_begins : (x : Pat) (F : PatFacts) → about_pat x ≡ F → Begins F → Begins (about_pat x)
  told_begins x F e f = subst Begins (sym e) f

  -- after a fixed token
  fixed_begins : (F : PatFacts) (mid : Tokens) → Front ts → length mid < length ts → length rest ≤ length mid → Begun F ts rest
  fixed_begins F mid f less le = front_begun F ts rest f (omega (arith, less, le))

  path_led_begins : (F : PatFacts) (p : Path) (f : Form) (least : ℕ) → Spells (Part (about_path p Code).form f) least ts rest
      → (about_path p Code).good ≡ true → Begun F ts rest
  path_led_begins F p f least s g =
      let b = path_begins Code p least ts s.0 s.1 g in fixed_begins F s.0 (lead_front ts OfPath b.lead) b.less (shorter f least s.0 rest s.2)

  bind_begins : (by_ref mutable : Bool) (n : Name) (of : Option Pat) → Begins (pat_facts (Pat-F.Bind by_ref mutable n (option_map about_pat of)))
  bind_begins by_ref mutable n of s g = by by_ref mutable
      (opened (when by_ref (keyword (codes "ref") ∷ Blank ∷ []) (when mutable (keyword (codes "mut") ∷ Blank ∷ []) (named))) depth ts rest s)
    where
      named : Form
      named = leaf_of n.raw n.text (bound_form (option_map about_pat of))

      F : Bool → Bool → PatFacts
      F r m = pat_facts (Pat-F.Bind r m n (option_map about_pat of))

      good : is_name n.raw n.text ≡ true
      good = (and_parts (is_name n.raw n.text) (bound_good (option_map about_pat of)) (and_parts _ true g).0).0

      by : (r m : Bool) → (least : ℕ) × (depth ≡ suc least)
          × Spells (when r (keyword (codes "ref") ∷ Blank ∷ []) (when m (keyword (codes "mut") ∷ Blank ∷ []) named)) least ts rest
          → Begun (F r m) ts rest
      by true m i =
          let t = i.2 in
          let o : IsOne Ident (codes "ref") ts t.0 = before_blank (keyword (codes "ref")) ts t.0 t.1 in
          fixed_begins (F true m) t.0 (kind_front Ident (codes "ref") refl (λ d. refl) refl ts t.0 o) (one_shorter Ident (codes "ref") ts t.0 o)
          (shorter (when m (keyword (codes "mut") ∷ Blank ∷ []) named) i.0 t.0 rest t.2)
      by false true i =
          let t = i.2 in
          let o : IsOne Ident (codes "mut") ts t.0 = before_blank (keyword (codes "mut")) ts t.0 t.1 in
          record {
            bar = one_no_op (codes "|") Ident (codes "mut") ts t.0 refl o;
            closer = λ d. one_test (is_closer d) Ident (codes "mut") ts t.0 o;
            mut = λ h. absurd (cc);
            less = omega (arith, one_shorter Ident (codes "mut") ts t.0 o, shorter named i.0 t.0 rest t.2);
          }
      by false false i =
          let l = leaf_parts n.raw n.text (bound_form (option_map about_pat of)) i.0 ts rest i.2 in
          let lead = word_lead n.raw n.text ts l.0 l.1 (name_is_word n.raw n.text good) in
          fixed_begins (F false false) l.0 (lead_front ts OfPath lead) (one_shorter (word_kind n.raw) n.text ts l.0 l.1)
          (shorter (bound_form (option_map about_pat of)) i.0 l.0 rest l.2)

  -- a pattern that begins with `..` or `..=`
  dots_begin : (F : PatFacts) (cs : List ℕ) (mid : Tokens) → bytes_eq (46 ∷ cs) (codes "|") ≡ false → IsOperator (46 ∷ cs) ts mid → length rest ≤ length mid
      → Begun F ts rest
  dots_begin F cs mid other o le = record {
    bar = other_op (46 ∷ cs) (codes "|") other ts o.0;
    closer = λ d. op_test (is_closer d) (46 ∷ cs) ts o.0;
    mut = λ h. rw (op_front (46 ∷ cs) ts o.0).2 refl;
    less = omega (arith, op_shorter 46 cs ts mid o, le);
  }

  span_begins : (start : Option SpanEnd) (inclusive : Bool) (end : Option SpanEnd) → Begins (pat_facts (Pat-F.Span start inclusive end))
  span_begins start inclusive end s g =
      let goods = and_parts (has_ends start inclusive end && may_end start) (may_end end) (and_parts _ true g).0 in
      let good = (and_parts (has_ends start inclusive end) (may_end start) goods.0).1 in
      by start inclusive end (opened (first_end start (Piece (dots inclusive) (last_end end))) depth ts rest s) good
    where
      by : (start : Option SpanEnd) (inclusive : Bool) (end : Option SpanEnd) → (least : ℕ) × (depth ≡ suc least)
          × Spells (first_end start (Piece (dots inclusive) (last_end end))) least ts rest → may_end start ≡ true
          → Begun (pat_facts (Pat-F.Span start inclusive end)) ts rest
      by (Some e) inclusive end i g =
          let t = i.2 in
          let f = end_front e i.0 ts t.0 t.1 g in
          fixed_begins (pat_facts (Pat-F.Span (Some e) inclusive end)) t.0 f.front f.less (shorter (Piece (dots inclusive) (last_end end)) i.0 t.0 rest t.2)
      by None true end i g =
          let t = i.2 in
          let o : IsOperator (codes "..=") ts t.0 = bit_alone (Operator (codes "..=")) ts t.0 t.1 in
          dots_begin (pat_facts (Pat-F.Span None true end)) (codes ".=") t.0 refl o (shorter (last_end end) i.0 t.0 rest t.2)
      by None false end i g =
          let t = i.2 in
          let o : IsOperator (codes "..") ts t.0 = bit_alone (Operator (codes "..")) ts t.0 t.1 in
          dots_begin (pat_facts (Pat-F.Span None false end)) (codes ".") t.0 refl o (shorter (last_end end) i.0 t.0 rest t.2)

  tuple_begins : (xs : List Pat) → Begins (pat_facts (Pat-F.Tuple (map about_pat xs)))
  tuple_begins xs s g =
      let i = opened (tuple_form (map about_pat xs)) depth ts rest s in
      let b = by xs i.0 i.2 in
      front_begun (pat_facts (Pat-F.Tuple (map about_pat xs))) ts rest b.0 b.1
    where
      behind_opener : (f : Form) (least : ℕ) → Spells (Piece (opener Paren ∷ []) f) least ts rest → Front ts × (length rest < length ts)
      behind_opener f least t =
          let o : IsOne (Opener Paren) (opening Paren ∷ []) ts t.0 = bit_alone (opener Paren) ts t.0 t.1 in
          (opener_front Paren ts t.0 o, omega (arith, one_shorter (Opener Paren) (opening Paren ∷ []) ts t.0 o, shorter f least t.0 rest t.2))

      one : (r : Bool) (x : PatFacts) (least : ℕ) → Spells (one_form r x) least ts rest → Front ts × (length rest < length ts)
      one true x least t = behind_opener (Part (pat_form Alternatives x) (piece (closer Paren ∷ []))) least t
      one false x least t = behind_opener (Part (pat_form Alternatives x) (piece (punct 44 ∷ closer Paren ∷ []))) least t

      by : (xs : List Pat) (least : ℕ) → Spells (tuple_form (map about_pat xs)) least ts rest → Front ts × (length rest < length ts)
      by [] least t = list_begins Paren [] least ts rest t
      by (x ∷ []) least t = one (about_pat x).rest (about_pat x) least t
      by (x ∷ y ∷ ys) least t = list_begins Paren (pat_forms Alternatives (map about_pat (x ∷ y ∷ ys))) least ts rest t

  begins : (x : Pat) → PatView x → Begins (about_pat x)
  begins _ (IsOr xs) = told_begins (pat.Or xs) (pat_facts (Pat-F.Or (map about_pat xs))) (pat_or_is xs)
      (λ s g. let e = (and_parts (is_several (map about_pat xs) && all_pats_good Single (map about_pat xs)) false g).1 in absurd (cc))
  begins _ (IsValue v) = told_begins (pat.Value v) (pat_facts (Pat-F.Value v)) (pat_value_is v)
      (λ s g.
      let i = opened (value_form v) depth ts rest s in
      let r = value_complete v i.0 ts rest i.2 (and_parts _ true g).0 in
      front_begun (pat_facts (Pat-F.Value v)) ts rest r.front r.less)
  begins _ IsWild = told_begins pat.Wild (pat_facts Pat-F.Wild) pat_wild_is
      (λ s g.
      let i = opened (piece (Fixed Underscore (codes "_") ∷ [])) depth ts rest s in
      let o : IsOne Underscore (codes "_") ts rest = piece_bit (Fixed Underscore (codes "_")) i.0 ts rest i.2 in
      let f = kind_front Underscore (codes "_") refl (λ d. refl) refl ts rest o in
      front_begun (pat_facts Pat-F.Wild) ts rest f (one_shorter Underscore (codes "_") ts rest o))
  begins _ IsRest = told_begins pat.Rest (pat_facts Pat-F.Rest) pat_rest_is
      (λ s g.
      let i = opened (piece (Operator (codes "..") ∷ [])) depth ts rest s in
      let o : IsOperator (codes "..") ts rest = piece_bit (Operator (codes "..")) i.0 ts rest i.2 in
      dots_begin (pat_facts Pat-F.Rest) (codes ".") rest refl o (omega arith))
  begins _ (IsCall c) = told_begins (pat.Call c) (pat_facts (Pat-F.Call c)) (pat_call_is c)
      (λ s g.
      let i = opened (about_call c).form depth ts rest s in
      let b = call_begins c i.0 ts rest i.2 (and_parts _ true g).0 in
      front_begun (pat_facts (Pat-F.Call c)) ts rest (lead_front ts OfPath b.lead) b.less)
  begins _ (IsPath p) = told_begins (pat.Path p) (pat_facts (Pat-F.Path (p))) (pat_path_is p)
      (λ s g.
      let i = opened (about_path p Code).form depth ts rest s in
      let b = path_begins Code p i.0 ts rest i.2 (and_parts (about_path p Code).good _ (and_parts _ true g).0).0 in
      front_begun (pat_facts (Pat-F.Path p)) ts rest (lead_front ts OfPath b.lead) b.less)
  begins _ (IsBind r m n of) = told_begins (pat.Bind r m n of) (pat_facts (Pat-F.Bind r m n (option_map about_pat of))) (pat_bind_is r m n of)
      (bind_begins r m n of)
  begins _ (IsSpan a i e) = told_begins (pat.Span a i e) (pat_facts (Pat-F.Span a i e)) (pat_span_is a i e) (span_begins a i e)
  begins _ (IsRef m x) = told_begins (pat.Ref m x) (pat_facts (Pat-F.Ref m (about_pat x))) (pat_ref_is m x)
      (λ s g.
      let f : Form = when m (keyword (codes "mut") ∷ Blank ∷ []) (Part (pat_form Single (about_pat x)) Done) in
      let i = opened (Piece (Fixed Punct (codes "&") ∷ []) f) depth ts rest s in
      let t = i.2 in
      let o : IsOne Punct (codes "&") ts t.0 = bit_alone (Fixed Punct (codes "&")) ts t.0 t.1 in
      fixed_begins (pat_facts (Pat-F.Ref m (about_pat x))) t.0 (mark_front 38 refl refl ts t.0 o) (one_shorter Punct (codes "&") ts t.0 o)
      (shorter f i.0 t.0 rest t.2))
  begins _ (IsStruct p fields dotted) =
      told_begins (pat.Struct p fields dotted) (pat_facts (Pat-F.Struct p (map about_field_pat fields) dotted)) (pat_struct_is p fields dotted)
      (λ s g.
      let f : Form = braces (not dotted) (forms (map about_field_pat fields) ++ rest_form dotted) in
      let i = opened (Part (about_path p Code).form f) depth ts rest s in
      path_led_begins (pat_facts (Pat-F.Struct p (map about_field_pat fields) dotted)) p f i.0 i.2
      (and_parts (about_path p Code).good _ (and_parts _ true g).0).0)
  begins _ (IsTupleStruct p xs) = told_begins (pat.TupleStruct p xs) (pat_facts (Pat-F.TupleStruct p (map about_pat xs))) (pat_tuple_struct_is p xs)
      (λ s g.
      let f : Form = comma_list true (opener Paren) (closer Paren) (pat_forms Alternatives (map about_pat xs)) in
      let i = opened (Part (about_path p Code).form f) depth ts rest s in
      path_led_begins (pat_facts (Pat-F.TupleStruct p (map about_pat xs))) p f i.0 i.2
      (and_parts (about_path p Code).good _ (and_parts _ true g).0).0)
  begins _ (IsTuple xs) = told_begins (pat.Tuple xs) (pat_facts (Pat-F.Tuple (map about_pat xs))) (pat_tuple_is xs) (tuple_begins xs)
  begins _ (IsParen x) = told_begins (pat.Paren x) (pat_facts (Pat-F.Paren (about_pat x))) (pat_paren_is x)
      (λ s g.
      let f : Form = Part (pat_form Alternatives (about_pat x)) (piece (closer Paren ∷ [])) in
      let i = opened (Piece (opener Paren ∷ []) f) depth ts rest s in
      let t = i.2 in
      let o : IsOne (Opener Paren) (opening Paren ∷ []) ts t.0 = bit_alone (opener Paren) ts t.0 t.1 in
      fixed_begins (pat_facts (Pat-F.Paren (about_pat x))) t.0 (opener_front Paren ts t.0 o) (one_shorter (Opener Paren) (opening Paren ∷ []) ts t.0 o)
      (shorter f i.0 t.0 rest t.2))
  begins _ (IsSlice xs) = told_begins (pat.Slice xs) (pat_facts (Pat-F.Slice (map about_pat xs))) (pat_slice_is xs)
      (λ s g.
      let i =
      opened (comma_list true (opener Bracket) (closer Bracket) (pat_forms Alternatives (map about_pat xs))) depth ts rest s in
      let b = list_begins Bracket (pat_forms Alternatives (map about_pat xs)) i.0 ts rest i.2 in
      front_begun (pat_facts (Pat-F.Slice (map about_pat xs))) ts rest b.0 b.1)

pub single_begins : (x : Pat) (depth : ℕ) (ts rest : Tokens) → Spells (about_pat x).told.form depth ts rest → pat_good Single (about_pat x) ≡ true
    → Begun (about_pat x) ts rest
single_begins x depth ts rest s g = begins depth ts rest x (pat_view x) s g

-- ---- alternatives

-- What no pattern begins with where alternatives may stand.
pub record Starts (ts rest : Tokens) : Type 0 where
  pub closer : (d : Delim) → first (closes d) ts ≡ false
  pub less : length rest < length ts

begun_starts : (x : PatFacts) (ts rest : Tokens) → Begun x ts rest → Starts ts rest
begun_starts x ts rest b = record { closer = b.closer; less = b.less }

pub all_begin : (x : Pat) (depth : ℕ) (ts rest : Tokens) → Spells (about_pat x).told.form depth ts rest → (about_pat x).told.good ≡ true
    → (is_op (codes "|") ts ≡ false) × Starts ts rest
all_begin x depth ts rest s g = at x (pat_view x) s g
  where
    one : (x : Pat) → (about_pat x).several ≡ false → Spells (about_pat x).told.form depth ts rest → (about_pat x).told.good ≡ true
        → (is_op (codes "|") ts ≡ false) × Starts ts rest
    one x n t h = let b = single_begins x depth ts rest t (rw (h, n) refl) in (b.bar, begun_starts (about_pat x) ts rest b)

    or : (xs : List Pat) → Spells (pat_facts (Pat-F.Or (map about_pat xs))).told.form depth ts rest
        → (is_several (map about_pat xs) && all_pats_good Single (map about_pat xs)) ≡ true
        → (is_op (codes "|") ts ≡ false) × Starts ts rest
    or [] t h = absurd (cc)
    or (y ∷ []) t h = absurd (cc)
    or (y ∷ z ∷ more) t h =
        let i = opened (Part (joined bar (pat_forms Single (map about_pat (y ∷ z ∷ more)))) Done) depth ts rest t in
        let row = i.2.1 in
        let next = row.2 in
        let b = single_begins y i.0 ts row.0 row.1 (and_parts (pat_good Single (about_pat y)) _ h).0 in
        let le = shorter (each bar (pat_forms Single (map about_pat (z ∷ more)))) i.0 row.0 i.2.0 next in (
          b.bar,
          record { closer = b.closer; less = omega (arith, b.less, le, ap length i.2.2) },
        )

    at : (x : Pat) → PatView x → Spells (about_pat x).told.form depth ts rest → (about_pat x).told.good ≡ true
        → (is_op (codes "|") ts ≡ false) × Starts ts rest
    at _ (IsOr xs) =
        subst (λ (F : PatFacts). Spells F.told.form depth ts rest → F.told.good ≡ true → (is_op (codes "|") ts ≡ false) × Starts ts rest)
        (sym (pat_or_is xs)) (or xs)
    at _ (IsValue v) = one (pat.Value v) (ap (λ (F : PatFacts). F.several) (pat_value_is v))
    at _ IsWild = one pat.Wild (ap (λ (F : PatFacts). F.several) pat_wild_is)
    at _ IsRest = one pat.Rest (ap (λ (F : PatFacts). F.several) pat_rest_is)
    at _ (IsCall c) = one (pat.Call c) (ap (λ (F : PatFacts). F.several) (pat_call_is c))
    at _ (IsPath p) = one (pat.Path p) (ap (λ (F : PatFacts). F.several) (pat_path_is p))
    at _ (IsBind r m n of) = one (pat.Bind r m n of) (ap (λ (F : PatFacts). F.several) (pat_bind_is r m n of))
    at _ (IsSpan a i e) = one (pat.Span a i e) (ap (λ (F : PatFacts). F.several) (pat_span_is a i e))
    at _ (IsRef m y) = one (pat.Ref m y) (ap (λ (F : PatFacts). F.several) (pat_ref_is m y))
    at _ (IsStruct p fields dotted) = one (pat.Struct p fields dotted) (ap (λ (F : PatFacts). F.several) (pat_struct_is p fields dotted))
    at _ (IsTupleStruct p xs) = one (pat.TupleStruct p xs) (ap (λ (F : PatFacts). F.several) (pat_tuple_struct_is p xs))
    at _ (IsTuple xs) = one (pat.Tuple xs) (ap (λ (F : PatFacts). F.several) (pat_tuple_is xs))
    at _ (IsParen y) = one (pat.Paren y) (ap (λ (F : PatFacts). F.several) (pat_paren_is y))
    at _ (IsSlice xs) = one (pat.Slice xs) (ap (λ (F : PatFacts). F.several) (pat_slice_is xs))

-- a bar that may stand before alternatives, and the alternatives after it
pub bar_parts : (x : Pat) (depth : ℕ) (ts rest : Tokens) → Spells (pat_form Alternatives (about_pat x)) depth ts rest → (about_pat x).told.good ≡ true
    → (mid : Tokens) × (behind_bar ts ≡ mid) × Spells (about_pat x).told.form depth mid rest
bar_parts x depth ts rest s g =
    let t = part_alone (about_pat x).told.form depth s.0 rest s.2 in
    elim s.1 [
      | inl e ↦
          let n : is_op (codes "|") ts ≡ false = rw e (all_begin x depth s.0 rest t g).0 in
          (s.0, rw n e, t)
      | inr b ↦
          let o : IsOperator (codes "|") ts s.0 = bit_alone (Operator (codes "|")) ts s.0 b in
          (s.0, rw (o.0, o.1) refl, t)
    ]

-- a pattern at a place
pub starts : (place : PatPlace) (x : Pat) (depth : ℕ) (ts rest : Tokens) → Spells (pat_form place (about_pat x)) depth ts rest
    → pat_good place (about_pat x) ≡ true → Starts ts rest
starts Single x depth ts rest s g = begun_starts (about_pat x) ts rest (single_begins x depth ts rest s g)
starts Alternatives x depth ts rest s g =
    let t = part_alone (about_pat x).told.form depth s.0 rest s.2 in
    let b = (all_begin x depth s.0 rest t g).1 in
    elim s.1 [
      | inl e ↦ rw e b
      | inr c ↦
          let o : IsOperator (codes "|") ts s.0 = bit_alone (Operator (codes "|")) ts s.0 c in
          record { closer = λ d. op_test (is_closer d) (codes "|") ts o.0; less = omega (arith, b.less, op_shorter 124 [] ts s.0 o) }
    ]
