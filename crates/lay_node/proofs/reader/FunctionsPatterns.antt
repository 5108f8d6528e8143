-- Every pattern begins with no attribute, no `...` and no receiver.
use Rattle.std.proofs.Common.{◌≡◌, ℕ, zero, suc, Bool, true, false, not, ◌&&◌, ◌||◌, [], ◌∷◌, codes, Option, Some, None, refl, sym, ap, subst, List, map, option_map, ◌++◌, ◌∙◌}
use Rattle.std.proofs.lemmas.Bool.{and_parts, not-true}
use Rattle.lay_piece.specs.Forms.{opening}
use Rattle.lay_piece.specs.declared.kind.Delim.TheVariants.{Brace, Bracket, Paren}
use Rattle.lay_piece.specs.declared.kind.Delim.{Delim}
use Rattle.lay_piece.specs.declared.kind.Kind.TheVariants.{Ident, Opener, Punct, Underscore}
use Rattle.lay_token.specs.Operators.{is_op}
use Rattle.lay_form.specs.Form.{Blank, Done, Fixed, Form, Operator, Part, Piece, closer, keyword, opener}
use Rattle.lay_form.specs.Notation.{braces, comma_list, piece, when}
use Rattle.lay_form.specs.Spelled.{IsOne, IsOperator, Spells}
use Rattle.lay_node.specs.Ahead.{Tokens, first, is_keyword, tail}
use Rattle.lay_node.specs.Words.{is_name, leaf_of}
use Rattle.lay_node.specs.nodes.Call.{about_call}
use Rattle.lay_node.specs.nodes.Facts.{forms}
use Rattle.lay_node.specs.nodes.Patterns.{PatFacts, about_field_pat, about_pat, all_pats_good, bound_form, bound_good, dots, first_end, has_ends, last_end, may_be_path, may_end, one_form, pat_facts, pat_form, pat_forms, pat_good, rest_form, tuple_form, value_form}
use Rattle.lay_node.specs.nodes.Types.{about_path, is_several, lone_word}
use Rattle.lay_node.specs.reader.Functions.{behind_lifetime, ends_param, is_self_by_itself, is_self_by_ref, mut_flag}
use Rattle.lay_node.specs.declared.patterns.FieldPat.TheOpen.{Pat-F}
use Rattle.lay_node.specs.declared.patterns.Pat.TheVariants as pat
use Rattle.lay_node.specs.declared.patterns.Pat.{Pat}
use Rattle.lay_node.specs.declared.patterns.PatPlace.TheVariants.{Alternatives, Single}
use Rattle.lay_node.specs.declared.patterns.SpanEnd.TheVariants as span_end
use Rattle.lay_node.specs.declared.patterns.SpanEnd.{SpanEnd}
use Rattle.lay_node.specs.declared.types.Path.{Path}
use Rattle.lay_node.specs.declared.types.PathStyle.TheVariants.{Code}
use Rattle.lay_node.proofs.Fronts.{one_front}
use Rattle.lay_node.proofs.Parts.{before_blank, behind_blank, bit_alone, part_alone, piece_bit}
use Rattle.lay_node.proofs.nodes.PatternsLaws.{IsBind, IsCall, IsOr, IsParen, IsPath, IsRef, IsRest, IsSlice, IsSpan, IsStruct, IsTuple, IsTupleStruct, IsValue, IsWild, PatView, pat_bind_is, pat_call_is, pat_or_is, pat_paren_is, pat_path_is, pat_ref_is, pat_rest_is, pat_slice_is, pat_span_is, pat_struct_is, pat_tuple_is, pat_tuple_struct_is, pat_value_is, pat_view, pat_wild_is}
use Rattle.lay_node.proofs.reader.FunctionsStarts.{GoesOn, PatStart, bind_start, call_start, dots_start, kind_start, op_goes_on, opener_goes_on, path_starts, the_self, value_start}
use Rattle.lay_node.proofs.reader.PatternsBegins.{single_begins}
use Rattle.lay_node.proofs.reader.PatternsComplete.{no_depth}
use Rattle.lay_node.proofs.reader.TypesBegins.{list_front}
use Rattle.lay_node.proofs.reader.TypesCompleteKinds.{inner_of}
use Rattle.lay_node.proofs.reader.TypesFronts.{no_other_op}

-- the `..` of a span
dots_go_on : (inclusive : Bool) (f : Form) (depth : ℕ) (ts rest : Tokens) → Spells (Piece (dots inclusive) f) depth ts rest → GoesOn ts
dots_go_on true f depth ts rest s =
    let o : IsOperator (codes "..=") ts s.0 = bit_alone (Operator (codes "..=")) ts s.0 s.1 in op_goes_on 46 (codes ".=") (λ more. refl) refl ts o.0
dots_go_on false f depth ts rest s =
    let o : IsOperator (codes "..") ts s.0 = bit_alone (Operator (codes "..")) ts s.0 s.1 in op_goes_on 46 (codes ".") (λ more. refl) refl ts o.0

span_start : (start : Option SpanEnd) (inclusive : Bool) (end : Option SpanEnd) (depth : ℕ) (ts rest : Tokens)
    → Spells (first_end start (Piece (dots inclusive) (last_end end))) depth ts rest → may_end start ≡ true → PatStart ts
span_start None inclusive end depth ts rest s g = dots_start inclusive (last_end end) depth ts rest s
span_start (Some (span_end.Value v)) inclusive end depth ts rest s g = value_start v depth ts s.0 s.1 g
span_start (Some (span_end.Path p)) inclusive end depth ts rest s g =
    path_starts p depth ts s.0 s.1 g (λ e. dots_go_on inclusive (last_end end) depth s.0 rest s.2)

opener_start : (d : Delim) (ts rest : Tokens) → IsOne (Opener d) (opening d ∷ []) ts rest → PatStart ts
opener_start d = kind_start (Opener d) (opening d ∷ []) refl refl refl refl refl

brace_goes_on : (may : Bool) (fs : List Form) (depth : ℕ) (ts rest : Tokens) → Spells (braces may fs) depth ts rest → GoesOn ts
brace_goes_on may [] depth ts rest s =
    let bits = behind_blank (opener Brace ∷ closer Brace ∷ []) ts s.0 s.1 in opener_goes_on Brace ts bits.0 bits.1
brace_goes_on may (f ∷ fs) depth ts rest s =
    let bits = behind_blank (opener Brace ∷ []) ts s.0 s.1 in opener_goes_on Brace ts s.0 (bit_alone (opener Brace) ts s.0 bits)

tuple_start : (xs : List PatFacts) (depth : ℕ) (ts rest : Tokens) → Spells (tuple_form xs) depth ts rest → PatStart ts
tuple_start [] depth ts rest s = let l = list_front (opener Paren) (closer Paren) [] depth ts rest s in opener_start Paren ts l.0 l.1
tuple_start (x ∷ []) depth ts rest s = by x.rest s
  where
    by : (r : Bool) → Spells (one_form r x) depth ts rest → PatStart ts
    by true t = opener_start Paren ts t.0 (bit_alone (opener Paren) ts t.0 t.1)
    by false t = opener_start Paren ts t.0 (bit_alone (opener Paren) ts t.0 t.1)
tuple_start (x ∷ y ∷ ys) depth ts rest s =
    let l = list_front (opener Paren) (closer Paren) (pat_forms Alternatives (x ∷ y ∷ ys)) depth ts rest s in opener_start Paren ts l.0 l.1

-- a `self` that is a pattern by itself
lone_self : (p : Path) (ts : Tokens) → may_be_path (lone_word p) ≡ true → lone_word p ≡ Some the_self → GoesOn ts
lone_self p ts g e = let n = sym (ap may_be_path e) ∙ g in absurd (cc)

ref_by : (ts : Tokens) → is_self_by_itself ts ≡ false → is_self_by_ref ts ≡ false
ref_by ts h = by (first (is_keyword (codes "self")) ts) (ends_param (tail ts)) h
  where
    by : (a e : Bool) → (a && (e || is_op (codes ":") (tail ts))) ≡ false → (a && e) ≡ false
    by true true h = absurd (cc)
    by true false h = refl
    by false e h = refl

module _ (depth : ℕ) (rest : Tokens)
    (inner : (x : Pat) (ts : Tokens) → Spells (about_pat x).told.form depth ts rest → pat_good Single (about_pat x) ≡ true → PatStart ts) where
  -- a pattern with these facts begins so
  abbrev Starts : PatFacts → Type 0
  Starts F = (ts : Tokens) → Spells F.told.form (suc depth) ts rest → pat_good Single F ≡ true → PatStart ts

  told_starts : (x : Pat) (F : PatFacts) → about_pat x ≡ F → Starts F → Starts (about_pat x)
  told_starts x F e f = subst Starts (sym e) f

  good_of : (F : PatFacts) → pat_good Single F ≡ true → F.told.good ≡ true
  good_of F g = (and_parts F.told.good (not F.several) g).0

  ref_start : (mutable : Bool) (x : Pat) → Starts (pat_facts (Pat-F.Ref mutable (about_pat x)))
  ref_start mutable x ts s g =
      let f : Form = when mutable (keyword (codes "mut") ∷ Blank ∷ []) (Part (pat_form Single (about_pat x)) Done) in
      let t = inner_of (Piece (Fixed Punct (codes "&") ∷ []) f) depth ts rest s in
      let o : IsOne Punct (codes "&") ts t.0 = bit_alone (Fixed Punct (codes "&")) ts t.0 t.1 in
      let goods = and_parts (pat_good Single (about_pat x) && not (about_pat x).span) (mutable || not (about_pat x).begins_mut)
      (good_of (pat_facts (Pat-F.Ref mutable (about_pat x))) g) in
      let good = (and_parts (pat_good Single (about_pat x)) (not (about_pat x).span) goods.0).0 in
      let e = (one_front Punct (codes "&") ts t.0 o).1 in
      let behind = by mutable t.0 t.2 good goods.1 in
      record {
        attr = rw e refl;
        dots = no_other_op 46 (codes "..") 38 ts t.0 refl o;
        lifetime = rw e refl;
        self = rw e refl;
        ref = rw e behind;
        own = rw e refl;
      }
    where
      by : (m : Bool) (us : Tokens) → Spells (when m (keyword (codes "mut") ∷ Blank ∷ []) (Part (pat_form Single (about_pat x)) Done)) depth us rest
          → pat_good Single (about_pat x) ≡ true → (m || not (about_pat x).begins_mut) ≡ true → is_self_by_ref (mut_flag (behind_lifetime us)).1 ≡ false
      by true us t h k =
          let o : IsOne Ident (codes "mut") us t.0 = before_blank (keyword (codes "mut")) us t.0 t.1 in
          let b = inner x t.0 (part_alone (pat_form Single (about_pat x)) depth t.0 rest t.2) h in
          rw (one_front Ident (codes "mut") us t.0 o).1 (ref_by t.0 b.self)
      by false us t h k =
          let u = part_alone (pat_form Single (about_pat x)) depth us rest t in
          let b = inner x us u h in
          let no_mut = (single_begins x depth us rest u h).mut (not-true (about_pat x).begins_mut k) in
          let here : behind_lifetime us ≡ us = rw (b.lifetime, behind_lifetime) refl in
          rw (here, no_mut) (ref_by us b.self)

  starts : (x : Pat) → PatView x → Starts (about_pat x)
  starts _ (IsOr xs) = told_starts (pat.Or xs) (pat_facts (Pat-F.Or (map about_pat xs))) (pat_or_is xs)
      (λ ts s g. let e = (and_parts (is_several (map about_pat xs) && all_pats_good Single (map about_pat xs)) false g).1 in absurd (cc))
  starts _ (IsValue v) = told_starts (pat.Value v) (pat_facts (Pat-F.Value v)) (pat_value_is v)
      (λ ts s g. value_start v depth ts rest (inner_of (value_form v) depth ts rest s) (good_of (pat_facts (Pat-F.Value v)) g))
  starts _ IsWild = told_starts pat.Wild (pat_facts Pat-F.Wild) pat_wild_is
      (λ ts s g.
      let o = piece_bit (Fixed Underscore (codes "_")) depth ts rest (inner_of (piece (Fixed Underscore (codes "_") ∷ [])) depth ts rest s) in
      kind_start Underscore (codes "_") refl refl refl refl refl ts rest o)
  starts _ IsRest = told_starts pat.Rest (pat_facts Pat-F.Rest) pat_rest_is
      (λ ts s g. dots_start false Done depth ts rest (inner_of (piece (Operator (codes "..") ∷ [])) depth ts rest s))
  starts _ (IsCall c) = told_starts (pat.Call c) (pat_facts (Pat-F.Call c)) (pat_call_is c)
      (λ ts s g. call_start c depth ts rest (inner_of (about_call c).form depth ts rest s) (good_of (pat_facts (Pat-F.Call c)) g))
  starts _ (IsPath p) = told_starts (pat.Path p) (pat_facts (Pat-F.Path p)) (pat_path_is p)
      (λ ts s g.
      let goods = and_parts (about_path p Code).good (may_be_path (lone_word p)) (good_of (pat_facts (Pat-F.Path p)) g) in
      path_starts p depth ts rest (inner_of (about_path p Code).form depth ts rest s) goods.0 (lone_self p rest goods.1))
  starts _ (IsBind r m n of) = told_starts (pat.Bind r m n of) (pat_facts (Pat-F.Bind r m n (option_map about_pat of))) (pat_bind_is r m n of)
      (λ ts s g.
      let behind : Form = bound_form (option_map about_pat of) in
      let f : Form = when r (keyword (codes "ref") ∷ Blank ∷ []) (when m (keyword (codes "mut") ∷ Blank ∷ []) (leaf_of n.raw n.text behind)) in
      let good = (and_parts (is_name n.raw n.text) (bound_good (option_map about_pat of)) (good_of (pat_facts (Pat-F.Bind r m n (option_map about_pat of))) g)).0 in
      bind_start r m n behind depth ts rest (inner_of f depth ts rest s) good)
  starts _ (IsSpan a i e) = told_starts (pat.Span a i e) (pat_facts (Pat-F.Span a i e)) (pat_span_is a i e)
      (λ ts s g.
      let goods = (and_parts (has_ends a i e && may_end a) (may_end e) (good_of (pat_facts (Pat-F.Span a i e)) g)).0 in
      span_start a i e depth ts rest (inner_of (first_end a (Piece (dots i) (last_end e))) depth ts rest s) (and_parts (has_ends a i e) (may_end a) goods).1)
  starts _ (IsRef m x) = told_starts (pat.Ref m x) (pat_facts (Pat-F.Ref m (about_pat x))) (pat_ref_is m x) (ref_start m x)
  starts _ (IsStruct p fields dotted) =
      told_starts (pat.Struct p fields dotted) (pat_facts (Pat-F.Struct p (map about_field_pat fields) dotted)) (pat_struct_is p fields dotted)
      (λ ts s g.
      let fs : List Form = forms (map about_field_pat fields) ++ rest_form dotted in
      let t = inner_of (Part (about_path p Code).form (braces (not dotted) fs)) depth ts rest s in
      let good = (and_parts (about_path p Code).good _ (good_of (pat_facts (Pat-F.Struct p (map about_field_pat fields) dotted)) g)).0 in
      path_starts p depth ts t.0 t.1 good (λ e. brace_goes_on (not dotted) fs depth t.0 rest t.2))
  starts _ (IsTupleStruct p xs) = told_starts (pat.TupleStruct p xs) (pat_facts (Pat-F.TupleStruct p (map about_pat xs))) (pat_tuple_struct_is p xs)
      (λ ts s g.
      let fs = pat_forms Alternatives (map about_pat xs) in
      let t = inner_of (Part (about_path p Code).form (comma_list true (opener Paren) (closer Paren) fs)) depth ts rest s in
      let good = (and_parts (about_path p Code).good _ (good_of (pat_facts (Pat-F.TupleStruct p (map about_pat xs))) g)).0 in
      let l = list_front (opener Paren) (closer Paren) fs depth t.0 rest t.2 in
      path_starts p depth ts t.0 t.1 good (λ e. opener_goes_on Paren t.0 l.0 l.1))
  starts _ (IsTuple xs) = told_starts (pat.Tuple xs) (pat_facts (Pat-F.Tuple (map about_pat xs))) (pat_tuple_is xs)
      (λ ts s g. tuple_start (map about_pat xs) depth ts rest (inner_of (tuple_form (map about_pat xs)) depth ts rest s))
  starts _ (IsParen x) = told_starts (pat.Paren x) (pat_facts (Pat-F.Paren (about_pat x))) (pat_paren_is x)
      (λ ts s g.
      let t = inner_of (Piece (opener Paren ∷ []) (Part (pat_form Alternatives (about_pat x)) (piece (closer Paren ∷ [])))) depth ts rest s in
      opener_start Paren ts t.0 (bit_alone (opener Paren) ts t.0 t.1))
  starts _ (IsSlice xs) = told_starts (pat.Slice xs) (pat_facts (Pat-F.Slice (map about_pat xs))) (pat_slice_is xs)
      (λ ts s g.
      let fs = pat_forms Alternatives (map about_pat xs) in
      let l = list_front (opener Bracket) (closer Bracket) fs depth ts rest (inner_of (comma_list true (opener Bracket) (closer Bracket) fs) depth ts rest s) in
      opener_start Bracket ts l.0 l.1)

pub pat_start : (depth : ℕ) (x : Pat) (ts rest : Tokens) → Spells (about_pat x).told.form depth ts rest → pat_good Single (about_pat x) ≡ true → PatStart ts
pat_start zero x ts rest s g = absurd (no_depth x ts rest s)
pat_start (suc depth) x ts rest s g = starts depth rest (λ y us t h. pat_start depth y us rest t h) x (pat_view x) ts s g
