-- Patterns without a list within them are read where they are spelled, where what is one level deeper is read: values, spans,
-- names, paths, macro calls and references.
use Rattle.std.proofs.Common.{◌≡◌, ℕ, suc, ◌≤◌, Bool, true, false, not, ◌&&◌, ◌||◌, List, [], ◌∷◌, codes, Option, option_map, Some, None, refl, sym, ap, subst, ◌∙◌, arith}
use Rattle.std.proofs.lemmas.Bool.{and_parts, not-true}
use Rattle.lay_piece.specs.declared.kind.Delim.TheVariants.{Paren, Bracket, Brace}
use Rattle.lay_piece.specs.declared.kind.Kind.TheVariants.{Ident, Underscore, Punct}
use Rattle.lay_token.specs.Operators.{is_op}
use Rattle.lay_form.specs.Form.{Blank, Fixed, Operator, Form, Done, Piece, Part, keyword}
use Rattle.lay_form.specs.Notation.{when}
use Rattle.lay_form.specs.Spelled.{IsOne, IsOperator, Spells}
use Rattle.lay_node.specs.Ahead.{Tokens, first, is_keyword, is_mark, is_opener, opens}
use Rattle.lay_node.specs.Begins.{OfPath, begins_value, begins_span_end}
use Rattle.lay_node.specs.Follow.{may_follow, begins_dots}
use Rattle.lay_node.specs.Words.{is_name, is_literal, leaf_of}
use Rattle.lay_node.specs.nodes.Call.{about_call}
use Rattle.lay_node.specs.nodes.Facts.{Facts}
use Rattle.lay_node.specs.nodes.Patterns.{PatFacts, pat_form, pat_good, value_form, is_value, dots, first_end, last_end, may_end, has_ends, is_self, may_be_path, bound_form, bound_good, pat_facts, about_pat}
use Rattle.lay_node.specs.nodes.Types.{ArgsFacts, PathFacts, about_path, about_start, about_args, starts_plain, are_none, lone_word}
use Rattle.lay_node.specs.reader.Patterns.{PatWithin, span, value_pat, bind, begins_bind, marked_bind, word_pat, path_by, path_pat, ref_pat, is_underscore, pat_by}
use Rattle.lay_node.specs.reader.Types.{flag}
use Rattle.lay_node.specs.declared.patterns.FieldPat.TheOpen.{Pat-F}
use Rattle.lay_node.specs.declared.patterns.Pat.{Pat}
use Rattle.lay_node.specs.declared.patterns.Pat.TheVariants as pat
use Rattle.lay_node.specs.declared.patterns.PatPlace.{PatPlace}
use Rattle.lay_node.specs.declared.patterns.PatPlace.TheVariants.{Single}
use Rattle.lay_node.specs.declared.patterns.PatValue.{PatValue}
use Rattle.lay_node.specs.declared.patterns.SpanEnd.{SpanEnd}
use Rattle.lay_node.specs.declared.patterns.SpanEnd.TheVariants as span_end
use Rattle.lay_node.specs.declared.token.Name.{Name}
use Rattle.lay_node.specs.declared.token.Word.{Word}
use Rattle.lay_node.specs.declared.tokens.MacroCall.{MacroCall}
use Rattle.lay_node.specs.declared.types.Arg.TheViews as views
use Rattle.lay_node.specs.declared.types.Args.TheVariants as args
use Rattle.lay_node.specs.declared.types.Path.{Path}
use Rattle.lay_node.specs.declared.types.PathStart.TheVariants as start
use Rattle.lay_node.specs.declared.types.PathStyle.TheVariants.{Code}
use Rattle.lay_node.proofs.Fronts.{one_front, one_no_op, op_test, other_op}
use Rattle.lay_node.proofs.Parts.{bit_alone, behind_blank, before_blank, part_alone, word_kind, leaf_spelled, leaf_parts}
use Rattle.lay_node.proofs.nodes.TypesLaws.{start_local_is, args_none_is, path_is}
use Rattle.lay_node.proofs.reader.Call.{call_complete}
use Rattle.lay_node.proofs.reader.Exact.{IsRead}
use Rattle.lay_node.proofs.reader.PatternsBegins.{single_begins}
use Rattle.lay_node.proofs.reader.PatternsFronts.{Follows, Fits, code_clear, path_led}
use Rattle.lay_node.proofs.reader.PatternsParts.{value_complete, span_read}
use Rattle.lay_node.proofs.reader.TypesBegins.{path_begins, call_begins}
use Rattle.lay_node.proofs.reader.TypesCalls.{path_no_call, call_there}
use Rattle.lay_node.proofs.reader.TypesComplete as types
use Rattle.lay_node.proofs.reader.TypesComplete.{name_is_word}
use Rattle.lay_node.proofs.reader.TypesCompleteParts.{one_left, flag_complete, keyword_there}
use Rattle.lay_node.proofs.reader.TypesCompletePaths.{path_read}
use Rattle.lay_node.proofs.reader.TypesFronts.{no_other_op, op_first, lead_no_keyword, word_lead}
use Rattle.lay_node.proofs.reader.Words.{name_complete}

-- What is one level deeper is read.
pub record PatReads (depth : ℕ) (within : PatWithin) : Type 0 where
  pub pats : (place : PatPlace) (x : Pat) (ts rest : Tokens) → Spells (pat_form place (about_pat x)) depth ts rest → pat_good place (about_pat x) ≡ true
      → Fits place (about_pat x) rest → IsRead depth (within.pats place) x ts rest
  pub kinds : types.Reads depth within.kinds

-- ---- a name as a path

abbrev name_path : Name → Path
name_path n = record { start = start.Local; segments = (record { raw = n.raw; text = n.text }, args.None) ∷ [] }

name_path_spelled : (n : Name) (depth : ℕ) (ts rest : Tokens) → IsOne (word_kind n.raw) n.text ts rest → Spells (about_path (name_path n) Code).form depth ts rest
name_path_spelled n depth ts rest o =
    let local : Spells (about_start start.Local).form depth ts ts = subst (λ (F : Facts). Spells F.form depth ts ts) (sym start_local_is) refl in
    let none : Spells (about_args args.None).code.form depth rest rest = subst (λ (F : ArgsFacts). Spells F.code.form depth rest rest) (sym args_none_is) refl in
    let segments = leaf_spelled n.raw n.text (Part (about_args args.None).code.form Done) depth ts rest rest o (rest, none, refl) in
    subst (λ (F : PathFacts). Spells (F Code).form depth ts rest) (sym (path_is (name_path n))) (ts, local, segments)

name_path_good : (n : Name) → is_name n.raw n.text ≡ true → (about_path (name_path n) Code).good ≡ true
name_path_good n g =
    let local : (about_start start.Local).good ≡ true = subst (λ (F : Facts). F.good ≡ true) (sym start_local_is) refl in
    let none : (about_args args.None).code.good ≡ true = subst (λ (F : ArgsFacts). F.code.good ≡ true) (sym args_none_is) refl in
    subst (λ (F : PathFacts). (F Code).good ≡ true) (sym (path_is (name_path n))) (rw (local, name_is_word n.raw n.text g, none) refl)

name_path_lone : (n : Name) → lone_word (name_path n) ≡ Some (record { raw = n.raw; text = n.text })
name_path_lone n =
    let local : starts_plain (views.out-PathStart start.Local) ≡ true = ap starts_plain views.outs-Local in
    let none : are_none (views.out-Args args.None) ≡ true = ap are_none views.outs-None in
    rw (local, none) refl

-- ---- what follows a path

pub record BehindPath (ts : Tokens) : Type 0 where
  pub colons : is_op (codes "::") ts ≡ false
  pub bang : is_op (codes "!") ts ≡ false

-- the `..` or `..=` of a span
record DotsFront (ts : Tokens) : Type 0 where
  pub there : begins_dots ts ≡ true
  pub more : List ℕ
  pub op : is_op (46 ∷ more) ts ≡ true
  pub paren : first (opens Paren) ts ≡ false
  pub brace : first (opens Brace) ts ≡ false
  pub behind : BehindPath ts

dots_front : (inclusive : Bool) (f : Form) (depth : ℕ) (ts rest : Tokens) → Spells (Piece (dots inclusive) f) depth ts rest → DotsFront ts
dots_front true f depth ts rest s =
    let o : IsOperator (codes "..=") ts s.0 = bit_alone (Operator (codes "..=")) ts s.0 s.1 in
    let no : is_op (codes "..") ts ≡ false = other_op (codes "..=") (codes "..") refl ts o.0 in
    record {
      there = rw (no, o.0) refl;
      more = codes ".=";
      op = o.0;
      paren = op_test (is_opener Paren) (codes "..=") ts o.0;
      brace = op_test (is_opener Brace) (codes "..=") ts o.0;
      behind = record { colons = other_op (codes "..=") (codes "::") refl ts o.0; bang = other_op (codes "..=") (codes "!") refl ts o.0 };
    }
dots_front false f depth ts rest s =
    let o : IsOperator (codes "..") ts s.0 = bit_alone (Operator (codes "..")) ts s.0 s.1 in
    record {
      there = rw o.0 refl;
      more = codes ".";
      op = o.0;
      paren = op_test (is_opener Paren) (codes "..") ts o.0;
      brace = op_test (is_opener Brace) (codes "..") ts o.0;
      behind = record { colons = other_op (codes "..") (codes "::") refl ts o.0; bang = other_op (codes "..") (codes "!") refl ts o.0 };
    }

module _ (depth : ℕ) (inner : PatWithin) (reads : PatReads depth inner) where
  abbrev pub Made : Pat → Tokens → Tokens → Type 0
  Made x ts rest = IsRead (suc depth) (pat_by inner) x ts rest

  -- ---- values, `_`, and macro calls

  pub value_made : (v : PatValue) (ts rest : Tokens) → Spells (value_form v) depth ts rest → is_value v ≡ true → begins_dots rest ≡ false
      → Made (pat.Value v) ts rest
  unfolding pat_by value_pat
  value_made v ts rest s g n = let r = value_complete v depth ts rest s g in (1, omega arith, rw (r.begins, r.read, n) refl)

  pub wild_made : (ts rest : Tokens) → IsOne Underscore (codes "_") ts rest → Made pat.Wild ts rest
  unfolding pat_by
  wild_made ts rest o =
      let f = (one_front Underscore (codes "_") ts rest o).1 in
      let no_value : begins_value ts ≡ false = rw f refl in
      let there : first is_underscore ts ≡ true = rw f refl in
      (1, omega arith, rw (no_value, there, one_left Underscore (codes "_") ts rest o) refl)

  pub call_made : (c : MacroCall) (ts rest : Tokens) → Spells (about_call c).form depth ts rest → (about_call c).good ≡ true → Made (pat.Call c) ts rest
  unfolding pat_by
  call_made c ts rest s g =
      let l = path_led ts (call_begins c depth ts rest s g).lead in
      let there = call_there c depth ts rest s g in
      let r = call_complete c depth ts rest (s, g, refl) in
      (1, omega arith, rw (l.value, l.infer, l.dots, l.ref, l.paren, l.bracket, l.bind, there, r.read) refl)

  -- ---- paths

  -- A path is read, and what follows it tells what it begins.
  pub path_there : (p : Path) (ts mid : Tokens) → Spells (about_path p Code).form depth ts mid → (about_path p Code).good ≡ true → BehindPath mid
      → (n : ℕ) × (n ≤ depth) × (pat_by inner ts ≡ path_by inner (p, n) mid)
  unfolding pat_by path_pat
  path_there p ts mid s g b =
      let l = path_led ts (path_begins Code p depth ts mid s g).lead in
      let no_call = path_no_call Code p depth ts mid s g b.colons b.bang in
      let r = path_read depth inner.kinds reads.kinds Code p ts mid s g (code_clear p mid g b.colons) in
      (r.0, r.1, rw (l.value, l.infer, l.dots, l.ref, l.paren, l.bracket, l.bind, no_call, r.2) refl)

  word_plain : (p : Path) (n : ℕ) (o : Option Word) (ts : Tokens) → may_be_path o ≡ true → is_op (codes "!") ts ≡ false
      → word_pat inner (p, n) o ts ≡ Some ((pat.Path p, suc n), ts)
  word_plain p n None ts g h = rw h refl
  word_plain p n (Some w) ts g h =
      let goods = and_parts (not (is_name w.raw w.text)) (not (is_self w)) g in
      rw (not-true (is_name w.raw w.text) goods.0, not-true (is_self w) goods.1, h) refl

  pub path_made : (p : Path) (ts rest : Tokens) → Spells (about_path p Code).form depth ts rest → (about_path p Code).good ≡ true
      → may_be_path (lone_word p) ≡ true → Follows (pat_facts (Pat-F.Path p)) rest → Made (pat.Path p) ts rest
  unfolding path_by
  path_made p ts rest s g lone f =
      let refuses = and_parts (not (is_op (codes "!") rest)) (may_follow (about_path p Code).refuses rest) f.refuses in
      let k = subst (λ (F : PathFacts). may_follow (F Code).refuses rest ≡ true) (path_is p) refuses.1 in
      let no_bang = not-true (is_op (codes "!") rest) refuses.0 in
      let no_colons = not-true (is_op (codes "::") rest) (and_parts (not (is_op (codes "::") rest)) _ k).0 in
      let t = path_there p ts rest s g (record { colons = no_colons; bang = no_bang }) in
      (suc t.0, omega (arith, t.1), rw (t.2, f.paren, f.brace, f.dots) (word_plain p t.0 (lone_word p) rest lone no_bang))

  -- ---- spans

  dots_by : (more : List ℕ) (ts : Tokens) → is_op (46 ∷ more) ts ≡ true → begins_dots ts ≡ true → pat_by inner ts ≡ span inner.kinds None 0 ts
  unfolding pat_by
  dots_by more ts h d =
      let f = (op_first 46 more ts h).3 in
      let no_value : begins_value ts ≡ false = rw f refl in
      let no_infer : first is_underscore ts ≡ false = rw f refl in
      rw (no_value, no_infer, d) refl

  pub rest_made : (ts rest : Tokens) → IsOperator (codes "..") ts rest → begins_span_end rest ≡ false → Made pat.Rest ts rest
  unfolding span
  rest_made ts rest o n =
      let there : begins_dots ts ≡ true = rw o.0 refl in
      let no : is_op (codes "..=") ts ≡ false = other_op (codes "..") (codes "..=") refl ts o.0 in
      let read : span inner.kinds None 0 ts ≡ Some ((pat.Rest, 1), rest) = rw (no, o.1, n) refl in
      (1, omega arith, dots_by (codes ".") ts o.0 there ∙ read)

  pub span_made : (start : Option SpanEnd) (inclusive : Bool) (end : Option SpanEnd) (ts rest : Tokens)
      → Spells (first_end start (Piece (dots inclusive) (last_end end))) depth ts rest → has_ends start inclusive end ≡ true → may_end start ≡ true
      → may_end end ≡ true → Follows (pat_facts (Pat-F.Span start inclusive end)) rest → Made (pat.Span start inclusive end) ts rest
  unfolding pat_by value_pat path_by
  span_made None inclusive end ts rest s g h k f =
      let d = dots_front inclusive (last_end end) depth ts rest s in
      let r = span_read depth inner.kinds reads.kinds None 0 (omega arith) inclusive end ts rest s g k f.span f.refuses in
      (r.0, r.1, dots_by d.more ts d.op d.there ∙ r.2)
  span_made (Some (span_end.Value v)) inclusive end ts rest s g h k f =
      let mid = s.0 in
      let one = value_complete v depth ts mid s.1 h in
      let d = dots_front inclusive (last_end end) depth mid rest s.2 in
      let r = span_read depth inner.kinds reads.kinds (Some (span_end.Value v)) 0 (omega arith) inclusive end mid rest s.2 g k f.span f.refuses in
      (r.0, r.1, rw (one.begins, one.read, d.there) r.2)
  span_made (Some (span_end.Path p)) inclusive end ts rest s g h k f =
      let mid = s.0 in
      let d = dots_front inclusive (last_end end) depth mid rest s.2 in
      let t = path_there p ts mid s.1 h d.behind in
      let r = span_read depth inner.kinds reads.kinds (Some (span_end.Path p)) t.0 t.1 inclusive end mid rest s.2 g k f.span f.refuses in
      (r.0, r.1, rw (t.2, d.paren, d.brace, d.there) r.2)

  -- ---- names that are bound

  abbrev BindFacts : Bool → Bool → Name → Option Pat → PatFacts
  BindFacts r m n of = pat_facts (Pat-F.Bind r m n (option_map about_pat of))

  record BehindName (ts : Tokens) : Type 0 where
    pub paren : first (opens Paren) ts ≡ false
    pub brace : first (opens Brace) ts ≡ false
    pub dots : begins_dots ts ≡ false
    pub behind : BehindPath ts

  bound_refused : (r m : Bool) (n : Name) (of : Option Pat) (ts : Tokens) → Follows (BindFacts r m n of) ts → BehindPath ts
  bound_refused r m n of ts f =
      let p = and_parts (not (is_op (codes "::") ts)) _ f.refuses in
      let q = and_parts (not (is_op (codes "!") ts)) _ p.1 in
      record { colons = not-true (is_op (codes "::") ts) p.0; bang = not-true (is_op (codes "!") ts) q.0 }

  at_operator : (x : Pat) (ts rest : Tokens) → Spells (bound_form (Some (about_pat x))) depth ts rest
      → (mid : Tokens) × IsOperator (codes "@") ts mid × Spells (about_pat x).told.form depth mid rest
  at_operator x ts rest s = (
    s.0,
    before_blank (Operator (codes "@")) ts s.0 (behind_blank (Operator (codes "@") ∷ Blank ∷ []) ts s.0 s.1),
    part_alone (about_pat x).told.form depth s.0 rest s.2,
  )

  behind_name : (r m : Bool) (n : Name) (of : Option Pat) (ts rest : Tokens) → Spells (bound_form (option_map about_pat of)) depth ts rest
      → Follows (BindFacts r m n of) rest → BehindName ts
  behind_name r m n None ts rest s f =
      let b = bound_refused r m n None rest f in
      let here : BehindName rest = record { paren = f.paren; brace = f.brace; dots = f.dots; behind = b } in
      subst BehindName (sym s) here
  behind_name r m n (Some x) ts rest s f =
      let o = (at_operator x ts rest s).1 in
      record {
        paren = op_test (is_opener Paren) (codes "@") ts o.0;
        brace = op_test (is_opener Brace) (codes "@") ts o.0;
        dots = rw (other_op (codes "@") (codes "..") refl ts o.0, other_op (codes "@") (codes "..=") refl ts o.0) refl;
        behind = record { colons = other_op (codes "@") (codes "::") refl ts o.0; bang = other_op (codes "@") (codes "!") refl ts o.0 };
      }

  some_bound : (r m : Bool) (n : Name) (x : Pat) (k : ℕ) (ts at rest : Tokens) → IsOperator (codes "@") ts at → inner.pats Single at ≡ Some ((x, k), rest)
      → BehindPath rest → bind inner r m n ts ≡ Some ((pat.Bind r m n (Some x), suc k), rest)
  unfolding bind
  some_bound r m n x k ts at rest o h b = rw (o.0, o.1, h, b.colons, b.bang) refl

  bind_read : (r m : Bool) (n : Name) (of : Option Pat) (ts rest : Tokens) → Spells (bound_form (option_map about_pat of)) depth ts rest
      → bound_good (option_map about_pat of) ≡ true → Follows (BindFacts r m n of) rest → IsRead (suc depth) (bind inner r m n) (pat.Bind r m n of) ts rest
  unfolding bind
  bind_read r m n None ts rest s g f =
      let b = bound_refused r m n None rest f in
      let no_at : is_op (codes "@") rest ≡ false = f.at refl in
      (1, omega arith, rw s (rw (no_at, b.colons, b.bang) refl))
  bind_read r m n (Some x) ts rest s g f =
      let t = at_operator x ts rest s in
      let b = bound_refused r m n (Some x) rest f in
      let p = and_parts (not (is_op (codes "::") rest)) _ f.refuses in
      let q = and_parts (not (is_op (codes "!") rest)) _ p.1 in
      let follows : Follows (about_pat x) rest =
      record { paren = f.paren; brace = f.brace; dots = f.dots; span = f.span; at = f.at; refuses = q.1 } in
      let one = reads.pats Single x t.0 rest t.2 g follows in
      (suc one.0, omega (arith, one.1), some_bound r m n x one.0 ts t.0 rest t.1 one.2 b)

  marked_by : (word : List ℕ) (ts mid : Tokens) → is_literal Ident word ≡ false → IsOne Ident word ts mid → begins_bind ts ≡ true
      → pat_by inner ts ≡ marked_bind inner ts
  unfolding pat_by
  marked_by word ts mid n o there =
      let f = (one_front Ident word ts mid o).1 in
      let no_value : begins_value ts ≡ false = rw (f, n) refl in
      let no_infer : first is_underscore ts ≡ false = rw f refl in
      let no_dots : begins_dots ts ≡ false = rw (one_no_op (codes "..") Ident word ts mid refl o, one_no_op (codes "..=") Ident word ts mid refl o) refl in
      let no_ref : first (is_mark (codes "&")) ts ≡ false = rw f refl in
      let no_paren : first (opens Paren) ts ≡ false = rw f refl in
      let no_bracket : first (opens Bracket) ts ≡ false = rw f refl in
      rw (no_value, no_infer, no_dots, no_ref, no_paren, no_bracket, there) refl

  pub bind_made : (r m : Bool) (n : Name) (of : Option Pat) (ts rest : Tokens)
      → Spells (when r (keyword (codes "ref") ∷ Blank ∷ []) (when m (keyword (codes "mut") ∷ Blank ∷ []) (leaf_of n.raw n.text (bound_form (option_map about_pat of))))) depth ts rest
      → is_name n.raw n.text ≡ true → bound_good (option_map about_pat of) ≡ true → Follows (BindFacts r m n of) rest → Made (pat.Bind r m n of) ts rest
  unfolding marked_bind path_by
  bind_made r m n of ts rest s g h f = by r m s f
    where
      named : Form
      named = leaf_of n.raw n.text (bound_form (option_map about_pat of))

      no_mut : (us : Tokens) → Spells named depth us rest → first (is_keyword (codes "mut")) us ≡ false
      no_mut us t =
          let l = leaf_parts n.raw n.text (bound_form (option_map about_pat of)) depth us rest t in
          lead_no_keyword (codes "mut") refl us OfPath (word_lead n.raw n.text us l.0 l.1 (name_is_word n.raw n.text g))

      by : (r m : Bool) → Spells (when r (keyword (codes "ref") ∷ Blank ∷ []) (when m (keyword (codes "mut") ∷ Blank ∷ []) named)) depth ts rest
          → Follows (BindFacts r m n of) rest → Made (pat.Bind r m n of) ts rest
      by true m t k =
          let o : IsOne Ident (codes "ref") ts t.0 = before_blank (keyword (codes "ref")) ts t.0 t.1 in
          let there : first (is_keyword (codes "ref")) ts ≡ true = keyword_there (codes "ref") ts t.0 o in
          let begun : begins_bind ts ≡ true = rw there refl in
          let marked : flag (is_keyword (codes "ref")) ts ≡ (true, t.0) = rw (there, one_left Ident (codes "ref") ts t.0 o) refl in
          let d = flag_complete (codes "mut") m named depth t.0 rest t.2 no_mut in
          let l = leaf_parts n.raw n.text (bound_form (option_map about_pat of)) depth d.0 rest d.2 in
          let one = bind_read true m n of l.0 rest l.2 h k in
          (one.0, one.1, rw (marked_by (codes "ref") ts t.0 refl o begun, marked, d.1, name_complete n d.0 l.0 (l.1, g)) one.2)
      by false true t k =
          let o : IsOne Ident (codes "mut") ts t.0 = before_blank (keyword (codes "mut")) ts t.0 t.1 in
          let there : first (is_keyword (codes "mut")) ts ≡ true = keyword_there (codes "mut") ts t.0 o in
          let no_ref : first (is_keyword (codes "ref")) ts ≡ false = rw (one_front Ident (codes "mut") ts t.0 o).1 refl in
          let begun : begins_bind ts ≡ true = rw (no_ref, there) refl in
          let unmarked : flag (is_keyword (codes "ref")) ts ≡ (false, ts) = rw no_ref refl in
          let marked : flag (is_keyword (codes "mut")) ts ≡ (true, t.0) = rw (there, one_left Ident (codes "mut") ts t.0 o) refl in
          let l = leaf_parts n.raw n.text (bound_form (option_map about_pat of)) depth t.0 rest t.2 in
          let one = bind_read false true n of l.0 rest l.2 h k in
          (one.0, one.1, rw (marked_by (codes "mut") ts t.0 refl o begun, unmarked, marked, name_complete n t.0 l.0 (l.1, g)) one.2)
      by false false t k =
          let l = leaf_parts n.raw n.text (bound_form (option_map about_pat of)) depth ts rest t in
          let mid = l.0 in
          let b = behind_name false false n of mid rest l.2 k in
          let p = path_there (name_path n) ts mid (name_path_spelled n depth ts mid l.1) (name_path_good n g) b.behind in
          let one = bind_read false false n of mid rest l.2 h k in
          (one.0, one.1, rw (p.2, b.paren, b.brace, b.dots, name_path_lone n, g) one.2)

  -- ---- references

  ref_by : (m : Bool) (x : Pat) (k : ℕ) (ts mid at rest : Tokens) → IsOne Punct (codes "&") ts mid → flag (is_keyword (codes "mut")) mid ≡ (m, at)
      → inner.pats Single at ≡ Some ((x, k), rest) → (about_pat x).span ≡ false → pat_by inner ts ≡ Some ((pat.Ref m x, suc k), rest)
  unfolding pat_by ref_pat
  ref_by m x k ts mid at rest o d h n =
      let front = (one_front Punct (codes "&") ts mid o).1 in
      let no_value : begins_value ts ≡ false = rw front refl in
      let no_infer : first is_underscore ts ≡ false = rw front refl in
      let no_dots : begins_dots ts ≡ false =
      rw (no_other_op 46 (codes ".") 38 ts mid refl o, no_other_op 46 (codes ".=") 38 ts mid refl o) refl in
      let there : first (is_mark (codes "&")) ts ≡ true = rw front refl in
      rw (no_value, no_infer, no_dots, there, one_left Punct (codes "&") ts mid o, d, h, n) refl

  pub ref_made : (m : Bool) (x : Pat) (ts rest : Tokens)
      → Spells (Piece (Fixed Punct (codes "&") ∷ []) (when m (keyword (codes "mut") ∷ Blank ∷ []) (Part (pat_form Single (about_pat x)) Done))) depth ts rest
      → (pat_good Single (about_pat x) && not (about_pat x).span && (m || not (about_pat x).begins_mut)) ≡ true
      → Follows (pat_facts (Pat-F.Ref m (about_pat x))) rest → Made (pat.Ref m x) ts rest
  ref_made m x ts rest s g f =
      let goods = and_parts (pat_good Single (about_pat x) && not (about_pat x).span) (m || not (about_pat x).begins_mut) g in
      let good = and_parts (pat_good Single (about_pat x)) (not (about_pat x).span) goods.0 in
      let mid = s.0 in
      let o : IsOne Punct (codes "&") ts mid = bit_alone (Fixed Punct (codes "&")) ts mid s.1 in
      let d = word m mid s.2 goods.1 good.0 in
      let one = reads.pats Single x d.0 rest d.2 good.0 follows in
      (suc one.0, omega (arith, one.1), ref_by m x one.0 ts mid d.0 rest o d.1 one.2 (not-true (about_pat x).span good.1))
    where
      follows : Follows (about_pat x) rest
      follows = record { paren = f.paren; brace = f.brace; dots = f.dots; span = f.span; at = f.at; refuses = f.refuses }

      word : (m : Bool) (us : Tokens) → Spells (when m (keyword (codes "mut") ∷ Blank ∷ []) (Part (pat_form Single (about_pat x)) Done)) depth us rest
          → (m || not (about_pat x).begins_mut) ≡ true → pat_good Single (about_pat x) ≡ true
          → (at : Tokens) × (flag (is_keyword (codes "mut")) us ≡ (m, at)) × Spells (about_pat x).told.form depth at rest
      word true us t h good =
          let o : IsOne Ident (codes "mut") us t.0 = before_blank (keyword (codes "mut")) us t.0 t.1 in
          (t.0, rw (keyword_there (codes "mut") us t.0 o, one_left Ident (codes "mut") us t.0 o) refl, part_alone (about_pat x).told.form depth t.0 rest t.2)
      word false us t h good =
          let spelled = part_alone (about_pat x).told.form depth us rest t in
          let no = (single_begins x depth us rest spelled good).mut (not-true (about_pat x).begins_mut h) in
          (us, rw no refl, spelled)
