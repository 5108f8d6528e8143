-- Patterns and their fields pass, kind by kind, given the facts about them and that the patterns within them pass.
use Rattle.std.proofs.Common.{◌≡◌, ℕ, List, [], ◌∷◌, ◌++◌, Bool, true, false, not, ◌&&◌, ◌||◌, refl, codes, map, Option, Some, None, is_some}
use Rattle.std.specs.List.{list_all}
use Rattle.std.proofs.lemmas.Bool.{and_parts, and_from}
use Rattle.lay_piece.specs.Characters as char
use Rattle.lay_piece.specs.declared.kind.Delim.TheVariants.{Paren, Bracket}
use Rattle.lay_piece.specs.declared.kind.Kind.TheVariants as kind
use Rattle.lay_form.specs.Form as form
use Rattle.lay_form.specs.Form.{Bit, Blank, Operator, Form, Done, Piece, Leaf, punct, opener, closer}
use Rattle.lay_form.specs.Notation.{B, I0, piece, when, each, comma_gap, last_break, comma_list, braces}
use Rattle.lay_form.specs.Pieces.{is_text_of, are_pieces}
use Rattle.lay_node.specs.Words.{is_name, leaf_of}
use Rattle.lay_node.specs.nodes.Attr.{are_attrs, attr_form}
use Rattle.lay_node.specs.nodes.Call.{about_call}
use Rattle.lay_node.specs.nodes.Facts.{Facts, forms, all_good}
use Rattle.lay_node.specs.nodes.Patterns.{PatFacts, pat_form, pat_good, pat_forms, all_pats_good, field_facts, pat_facts, rest_form, bound_form, bound_good, one_form, tuple_form, first_end, dots, last_end, has_ends, may_end, may_be_path, value_form, end_form}
use Rattle.lay_node.specs.nodes.Types.{about_path, colon, deeper, is_several, joined, lone_word}
use Rattle.lay_node.specs.declared.attr.Attr.{Attr}
use Rattle.lay_node.specs.declared.patterns.FieldPat.TheOpen.{FieldPat-F, Pat-F}
use Rattle.lay_node.specs.declared.patterns.PatPlace.{PatPlace}
use Rattle.lay_node.specs.declared.patterns.PatPlace.TheVariants.{Alternatives, Single}
use Rattle.lay_node.specs.declared.patterns.PatValue.{PatValue}
use Rattle.lay_node.specs.declared.patterns.SpanEnd.{SpanEnd}
use Rattle.lay_node.specs.declared.token.Name.{Name}
use Rattle.lay_node.specs.declared.tokens.MacroCall.{MacroCall}
use Rattle.lay_node.specs.declared.types.Path.{Path}
use Rattle.lay_node.specs.declared.types.PathStyle.TheVariants.{Code}
use Rattle.lay_reparse.proofs.borders.Border.{Border, beyond}
use Rattle.lay_reparse.proofs.borders.Move.{under}
use Rattle.lay_reparse.proofs.forms.Opened.{bits_open, is_even, even}
use Rattle.lay_reparse.proofs.forms.Passes.{plain}
use Rattle.lay_reparse.proofs.forms.Rules.{tables, From, All, Leads, under-refl, wider, ends, simple, fixed, dotted, breaks, within, part, level, left_out, each_part, with_outer, list_fits, list, braces_fit, bracing}
use Rattle.lay_reparse.proofs.file.Nodes.{behind_word, behind_raw, ends_line, word, rest_pieces, when_pieces, each_pieces, list_pieces, both_pieces, both_all, outer_pieces, attrs_pass}
use Rattle.lay_reparse.proofs.file.TypeParts.{ends_type, ends_arg, int_passes, joined_pieces}
use Rattle.lay_reparse.proofs.file.TypeArgs.{Any, Each, Passing, all_pass, words_lead}
use Rattle.lay_reparse.proofs.file.TypeKinds.{deep_pieces}
use Rattle.lay_reparse.proofs.file.Types.{begins_path, path_passes_at}
use Rattle.lay_reparse.proofs.file.PatternParts.{ends_pat, begins_pat, begins, by_ref, mutably, borrow, wild, is_whole, begins_group, begins_span, dots_pass, end_passes, value_passes, call_passes_at}

-- ---- the facts about a pattern

-- It passes from each border where a pattern may begin.
pub record PatPasses (x : PatFacts) : Type 0 where
  pub go : (b : Border) → begins_pat b ≡ true → Passing b ends_pat x.told

-- one may begin where nothing is asked
pub begins_plain : begins_pat plain ≡ true
unfolding tables
begins_plain = refl

-- at a place: where alternatives may stand, the bar before them is left out
pub placed : (place : PatPlace) (x : PatFacts) → PatPasses x → (b : Border) → begins_pat b ≡ true
    → pat_good place x ≡ true → are_pieces (pat_form place x) ≡ true → From b (pat_form place x) ends_pat
unfolding tables
placed Alternatives x k b h g w =
    left_out refl refl (part b ends_pat (under-refl b)
    ((k.go b h).go g (and_parts (are_pieces x.told.form) true w).0) (ends refl))
placed Single x k b h g w = (k.go b h).go (and_parts x.told.good _ g).0 w

-- as a part, where nothing is asked
inner : (place : PatPlace) (x : PatFacts) → PatPasses x → pat_good place x ≡ true → are_pieces (pat_form place x) ≡ true
    → From plain (pat_form place x) ends_pat
inner place x k g w = placed place x k plain begins_plain g w

pats_pass : (place : PatPlace) (xs : List PatFacts) → Each PatPasses xs → all_pats_good place xs ≡ true
    → list_all are_pieces (pat_forms place xs) ≡ true → All plain (pat_forms place xs) ends_pat
pats_pass place [] k g w = tt
pats_pass place (x ∷ xs) k g w =
    let n = and_parts (pat_good place x) _ g in
    let p = and_parts (are_pieces (pat_form place x)) _ w in
    (inner place x k.0 n.0 p.0, pats_pass place xs k.1 n.1 p.1)

-- one level deeper
deep : {f : Form} {b : Border} → From b f ends_pat → From b (deeper f) ends_pat
deep {f} {b} k = level b ends_pat (under-refl b) k (ends refl)

-- ---- alternatives

bar_leads : Leads (λ f. B (Piece (Operator (codes "|") ∷ Blank ∷ []) f)) plain ends_pat
unfolding tables
bar_leads = record { to = λ e f k l. breaks refl (fixed refl (part plain ends_pat refl k l)) }

pub or_pass : (xs : List PatFacts) → Each PatPasses xs → PatPasses (pat_facts (Pat-F.Or xs))
or_pass [] k = record { go = λ b h. record { go = λ g w. cc } }
or_pass (x ∷ xs) k = record {
  go = λ b h. record {
    go = λ g w.
        let lead : Form → Form = λ f. B (Piece (Operator (codes "|") ∷ Blank ∷ []) f) in
        let es = pat_forms Single (x ∷ xs) in
        let n = and_parts (pat_good Single x) _ (and_parts (is_several (x ∷ xs)) _ g).1 in
        let q = joined_pieces lead (λ f. refl) es (and_parts (are_pieces (joined lead es)) true
        (deep_pieces (I0 (joined lead es) Done) w)).0 in
        let p = and_parts (are_pieces (pat_form Single x)) _ q in
        deep (within b ends_pat (under-refl b)
        (part b ends_pat (under-refl b) (placed Single x k.0 b h n.0 p.0)
        (each_part (pat_forms Single xs) bar_leads (pats_pass Single xs k.1 n.1 p.1)))
        (ends refl));
  };
}

-- ---- leaves

pub value_pass : (v : PatValue) → PatPasses (pat_facts (Pat-F.Value v))
value_pass v = record {
  go = λ b h. record {
    go = λ g w.
        let s = (and_parts (begins_path b) _ (begins b h).end).1 in
        deep (wider refl (value_passes b s v g (deep_pieces (value_form v) w)));
  };
}

whole : (b : Border) (p : List Bit) → is_whole b p ≡ true
    → (simple b p ≡ true) × (under (beyond b p) ends_pat ≡ true)
whole b p h = and_parts (simple b p) _ h

pub wild_pass : PatPasses (pat_facts Pat-F.Wild)
wild_pass = record {
  go = λ b h. record { go = λ g w. let q = whole b wild (begins b h).wilds in deep (fixed q.0 (ends q.1)) };
}

pub rest_pass : PatPasses (pat_facts Pat-F.Rest)
rest_pass = record {
  go = λ b h. record { go = λ g w. deep (dots_pass b (begins b h).span false None refl refl refl) };
}

pub call_pass : (call : MacroCall) → PatPasses (pat_facts (Pat-F.Call call))
call_pass call = record {
  go = λ b h. record {
    go = λ g w. deep (wider refl (call_passes_at b (begins b h).call call g (deep_pieces (about_call call).form w)));
  };
}

-- a path, from each border where a pattern may begin
path_from : (b : Border) → begins_pat b ≡ true → (path : Path) → Passing b ends_type (about_path path Code)
path_from b h path = path_passes_at b (and_parts (begins_path b) _ (begins b h).end).0 Code path

pub path_pass : (path : Path) → PatPasses (pat_facts (Pat-F.Path path))
path_pass path = record {
  go = λ b h. record {
    go = λ g w.
        let n = and_parts (about_path path Code).good (may_be_path (lone_word path)) g in
        deep (wider refl ((path_from b h path).go n.0 (deep_pieces (about_path path Code).form w)));
  };
}

-- ---- names that are bound

bound_passes : (of : Option PatFacts) → Any PatPasses of → bound_good of ≡ true → are_pieces (bound_form of) ≡ true
    → From behind_word (bound_form of) ends_pat × From behind_raw (bound_form of) ends_pat
unfolding tables
bound_passes None k g w = (ends refl, ends refl)
bound_passes (Some x) k g w =
    let z = part plain ends_pat refl (inner Single x k g (and_parts (are_pieces x.told.form) true w).0) (ends refl) in
    (fixed refl z, fixed refl z)

-- a name after `mut `, after `ref `, and after both
name_passes : (b : Border) → words_lead b ≡ true → (raw : Bool) (t : List ℕ) (of : Option PatFacts)
    → Any PatPasses of → bound_good of ≡ true → are_pieces (leaf_of raw t (bound_form of)) ≡ true
    → From b (leaf_of raw t (bound_form of)) ends_pat
name_passes b h raw t of k g w =
    let l = bound_passes of k g (rest_pieces raw t (bound_form of) w) in word raw t h w l.0 l.1

pub bind_pass : (ref mutable : Bool) (name : Name) (of : Option PatFacts) → Any PatPasses of
    → PatPasses (pat_facts (Pat-F.Bind ref mutable name of))
unfolding tables
bind_pass ref mutable name of k = record {
  go = λ b h. record {
    go = λ g w.
        let f = leaf_of name.raw name.text (bound_form of) in
        let n = and_parts (is_name name.raw name.text) _ g in
        let w1 = deep_pieces (when ref by_ref (when mutable mutably f)) w in
        let w2 = when_pieces ref by_ref (when mutable mutably f) w1 in
        let w3 = when_pieces mutable mutably f w2 in
        deep (by b (begins b h).bind n.1 w3 ref mutable);
  };
}
  where
    by : (b : Border) → words_lead b && (simple b by_ref && simple b mutably) ≡ true → bound_good of ≡ true
        → are_pieces (leaf_of name.raw name.text (bound_form of)) ≡ true → (ref mutable : Bool)
        → From b (when ref by_ref (when mutable mutably (leaf_of name.raw name.text (bound_form of)))) ends_pat
    by b h g w true true =
        let s = and_parts (simple b by_ref) _ (and_parts (words_lead b) _ h).1 in
        fixed s.0 (fixed refl
        (name_passes (beyond (beyond b by_ref) mutably) refl name.raw name.text of k g w))
    by b h g w true false =
        let s = and_parts (simple b by_ref) _ (and_parts (words_lead b) _ h).1 in
        fixed s.0 (name_passes (beyond b by_ref) refl name.raw name.text of k g w)
    by b h g w false true =
        let s = and_parts (simple b by_ref) _ (and_parts (words_lead b) _ h).1 in
        fixed s.1 (name_passes (beyond b mutably) refl name.raw name.text of k g w)
    by b h g w false false = name_passes b (and_parts (words_lead b) _ h).0 name.raw name.text of k g w

-- ---- spans

-- `..` and `..=` may stand after an end, and an end after them
spans_behind_end : begins_span ends_arg ≡ true
unfolding tables
spans_behind_end = refl

pub span_pass : (start : Option SpanEnd) (inclusive : Bool) (end : Option SpanEnd)
    → PatPasses (pat_facts (Pat-F.Span start inclusive end))
span_pass start inclusive end = record {
  go = λ b h. record {
    go = λ g w.
        let n1 = and_parts (has_ends start inclusive end && may_end start) (may_end end) g in
        let n2 = and_parts (has_ends start inclusive end) (may_end start) n1.0 in
        let n3 = and_parts (is_some start || is_some end) (not inclusive || is_some end) n2.0 in
        deep (by start b h n2.1 n3.1 n1.1 (deep_pieces (first_end start (Piece (dots inclusive) (last_end end))) w));
  };
}
  where
    by : (start : Option SpanEnd) (b : Border) → begins_pat b ≡ true → may_end start ≡ true
        → not inclusive || is_some end ≡ true → may_end end ≡ true
        → are_pieces (first_end start (Piece (dots inclusive) (last_end end))) ≡ true
        → From b (first_end start (Piece (dots inclusive) (last_end end))) ends_pat
    by None b h s i e w = dots_pass b (begins b h).span inclusive end i e w
    by (Some x) b h s i e w =
        let p = and_parts (are_pieces (end_form x)) _ w in
        part b ends_arg (under-refl b) (end_passes b (begins b h).end x s p.0)
        (dots_pass ends_arg spans_behind_end inclusive end i e p.1)

-- ---- references

pub ref_pass : (mutable : Bool) (x : PatFacts) → PatPasses x → PatPasses (pat_facts (Pat-F.Ref mutable x))
ref_pass mutable x k = record {
  go = λ b h. record {
    go = λ g w.
        let e = form.Part (pat_form Single x) Done in
        let n = (and_parts (pat_good Single x) _ (and_parts (pat_good Single x && not x.span) _ g).0).0 in
        let p = when_pieces mutable mutably e (deep_pieces (Piece borrow (when mutable mutably e)) w) in
        deep (by b (begins b h).borrows n (and_parts (are_pieces (pat_form Single x)) true p).0 mutable);
  };
}
  where
    by : (b : Border)
        → simple b borrow && (under (beyond b borrow) plain
        && (simple (beyond b borrow) mutably && under (beyond (beyond b borrow) mutably) plain)) ≡ true
        → pat_good Single x ≡ true → are_pieces (pat_form Single x) ≡ true → (mutable : Bool)
        → From b (Piece borrow (when mutable mutably (form.Part (pat_form Single x) Done))) ends_pat
    by b h g w mutable =
        let h1 = and_parts (simple b borrow) _ h in
        let h2 = and_parts (under (beyond b borrow) plain) _ h1.1 in
        let h3 = and_parts (simple (beyond b borrow) mutably) _ h2.1 in
        fixed h1.0 (behind mutable h2.0 h3.0 h3.1)
      where
        behind : (mutable : Bool) → under (beyond b borrow) plain ≡ true → simple (beyond b borrow) mutably ≡ true
            → under (beyond (beyond b borrow) mutably) plain ≡ true
            → From (beyond b borrow) (when mutable mutably (form.Part (pat_form Single x) Done)) ends_pat
        behind true u s v = fixed s (part plain ends_pat v (inner Single x k g w) (ends refl))
        behind false u s v = part plain ends_pat u (inner Single x k g w) (ends refl)

-- ---- structs, tuples and slices

pub braces_pieces : (may : Bool) (es : List Form) → are_pieces (braces may es) ≡ true → list_all are_pieces es ≡ true
braces_pieces may [] w = refl
braces_pieces may (e ∷ es) w =
    let p = and_parts (are_pieces e) _ (and_parts
    (are_pieces e && (are_pieces (each comma_gap es) && are_pieces (last_break may 1 Done))) true w).0 in
    and_from (are_pieces e) _ p.0 (each_pieces comma_gap (λ f. refl) es
    (and_parts (are_pieces (each comma_gap es)) _ p.1).0)

fields_fit : (rest : Bool) → braces_fit (not rest) ends_type plain ends_pat ends_pat ≡ true
unfolding tables
fields_fit true = refl
fields_fit false = refl

rest_passes : (rest : Bool) → All plain (rest_form rest) ends_pat
unfolding tables
rest_passes true = (dotted refl (ends refl) (ends refl), tt)
rest_passes false = tt

pub struct_pass : (path : Path) (fields : List Facts) (rest : Bool) → Each (Passing plain ends_pat) fields
    → PatPasses (pat_facts (Pat-F.Struct path fields rest))
struct_pass path fields rest k = record {
  go = λ b h. record {
    go = λ g w.
        let es = forms fields ++ rest_form rest in
        let n = and_parts (about_path path Code).good (all_good fields) g in
        let p = and_parts (are_pieces (about_path path Code).form) (are_pieces (braces (not rest) es))
        (deep_pieces (form.Part (about_path path Code).form (braces (not rest) es)) w) in
        let q = both_pieces (forms fields) (rest_form rest) (braces_pieces (not rest) es p.1) in
        deep (part b ends_type (under-refl b) ((path_from b h path).go n.0 p.0)
        (bracing (not rest) es plain ends_pat (fields_fit rest)
        (both_all plain ends_pat (forms fields) (rest_form rest) (all_pass plain ends_pat fields k n.1 q.0)
        (rest_passes rest))));
  };
}

elements_fit : list_fits true (opener Paren) (closer Paren) ends_type plain ends_pat ends_pat ≡ true
unfolding tables
elements_fit = refl

pub tuple_struct_pass : (path : Path) (xs : List PatFacts) → Each PatPasses xs
    → PatPasses (pat_facts (Pat-F.TupleStruct path xs))
tuple_struct_pass path xs k = record {
  go = λ b h. record {
    go = λ g w.
        let es = pat_forms Alternatives xs in
        let elements = comma_list true (opener Paren) (closer Paren) es in
        let n = and_parts (about_path path Code).good (all_pats_good Alternatives xs) g in
        let p = and_parts (are_pieces (about_path path Code).form) (are_pieces elements)
        (deep_pieces (form.Part (about_path path Code).form elements) w) in
        deep (part b ends_type (under-refl b) ((path_from b h path).go n.0 p.0)
        (list true (opener Paren) (closer Paren) es plain ends_pat elements_fit
        (pats_pass Alternatives xs k n.1 (list_pieces true (opener Paren) (closer Paren) es p.1))));
  };
}

-- what stands in brackets passes from each border where a pattern may begin
record Groups (b : Border) : Type 0 where
  pub round : list_fits true (opener Paren) (closer Paren) b plain ends_pat ends_pat ≡ true
  pub square : list_fits true (opener Bracket) (closer Bracket) b plain ends_pat ends_pat ≡ true
  pub opens : simple b (opener Paren ∷ []) ≡ true
  pub behind : under (beyond b (opener Paren ∷ [])) plain ≡ true

groups : (b : Border) → begins_group b ≡ true → Groups b
groups b h =
    let p1 = and_parts (list_fits true (opener Paren) (closer Paren) b plain ends_pat ends_pat) _ h in
    let p2 = and_parts (list_fits true (opener Bracket) (closer Bracket) b plain ends_pat ends_pat) _ p1.1 in
    let p3 = and_parts (simple b (opener Paren ∷ [])) _ p2.1 in
    record { round = p1.0; square = p2.0; opens = p3.0; behind = p3.1 }

-- one pattern in parentheses, after which stands what may end it
enclosed : (b : Border) → Groups b → (x : PatFacts) → PatPasses x → (p : List Bit)
    → pat_good Alternatives x ≡ true → are_pieces (form.Part (pat_form Alternatives x) (piece p)) ≡ true
    → simple ends_pat p ≡ true → under (beyond ends_pat p) ends_pat ≡ true
    → is_even (bits_open (bits_open even (opener Paren ∷ [])) p) ≡ true
    → From b (Piece (opener Paren ∷ []) (form.Part (pat_form Alternatives x) (piece p))) ends_pat
enclosed b s x k p g w i u o =
    fixed s.opens (part plain ends_pat s.behind
    (inner Alternatives x k g (and_parts (are_pieces (pat_form Alternatives x)) true w).0)
    (fixed i (ends (and_from (is_even (bits_open (bits_open even (opener Paren ∷ [])) p)) _ o u))))

tuple_passes : (b : Border) → Groups b → (xs : List PatFacts) → Each PatPasses xs
    → all_pats_good Alternatives xs ≡ true → are_pieces (tuple_form xs) ≡ true → From b (tuple_form xs) ends_pat
unfolding tables
tuple_passes b s [] k g w = list true (opener Paren) (closer Paren) [] plain ends_pat s.round tt
tuple_passes b s (x ∷ []) k g w = by x.rest w
  where
    by : (rest : Bool) → are_pieces (one_form rest x) ≡ true → From b (one_form rest x) ends_pat
    by true w =
        enclosed b s x k.0 (closer Paren ∷ []) (and_parts (pat_good Alternatives x) true g).0 w refl refl refl
    by false w =
        enclosed b s x k.0 (punct char.comma ∷ closer Paren ∷ []) (and_parts (pat_good Alternatives x) true g).0 w
        refl refl refl
tuple_passes b s (x ∷ y ∷ xs) k g w =
    let es = pat_forms Alternatives (x ∷ y ∷ xs) in
    list true (opener Paren) (closer Paren) es plain ends_pat s.round
    (pats_pass Alternatives (x ∷ y ∷ xs) k g (list_pieces true (opener Paren) (closer Paren) es w))

pub tuple_pass : (xs : List PatFacts) → Each PatPasses xs → PatPasses (pat_facts (Pat-F.Tuple xs))
tuple_pass xs k = record {
  go = λ b h. record {
    go = λ g w. deep (tuple_passes b (groups b (begins b h).group) xs k g (deep_pieces (tuple_form xs) w));
  };
}

pub paren_pass : (x : PatFacts) → PatPasses x → PatPasses (pat_facts (Pat-F.Paren x))
unfolding tables
paren_pass x k = record {
  go = λ b h. record {
    go = λ g w.
        let inside = form.Part (pat_form Alternatives x) (piece (closer Paren ∷ [])) in
        deep (enclosed b (groups b (begins b h).group) x k (closer Paren ∷ [])
        (and_parts (pat_good Alternatives x) _ g).0 (deep_pieces (Piece (opener Paren ∷ []) inside) w) refl refl refl);
  };
}

pub slice_pass : (xs : List PatFacts) → Each PatPasses xs → PatPasses (pat_facts (Pat-F.Slice xs))
slice_pass xs k = record {
  go = λ b h. record {
    go = λ g w.
        let es = pat_forms Alternatives xs in
        let p = deep_pieces (comma_list true (opener Bracket) (closer Bracket) es) w in
        deep (list true (opener Bracket) (closer Bracket) es plain ends_pat (groups b (begins b h).group).square
        (pats_pass Alternatives xs k g (list_pieces true (opener Bracket) (closer Bracket) es p)));
  };
}

-- ---- fields

pub named_pass : (attrs : List Attr) (name : Name) (x : PatFacts) → PatPasses x
    → Passing plain ends_pat (field_facts (FieldPat-F.Named attrs name x))
unfolding tables
named_pass attrs name x k = record {
  go = λ g w.
      let e = Piece colon (form.Part (pat_form Alternatives x) Done) in
      let es = map attr_form attrs in
      let n1 = and_parts (are_attrs false attrs && is_name name.raw name.text) (pat_good Alternatives x) g in
      let n2 = and_parts (are_attrs false attrs) (is_name name.raw name.text) n1.0 in
      let q = outer_pieces es (leaf_of name.raw name.text e) w in
      let p = (and_parts (are_pieces (pat_form Alternatives x)) true (rest_pieces name.raw name.text e q.1)).0 in
      let z = part plain ends_pat refl (inner Alternatives x k n1.1 p) (ends refl) in
      with_outer es ends_line refl (attrs_pass false attrs n2.0 q.0)
      (word name.raw name.text refl q.1 (fixed refl z) (fixed refl z));
}

pub index_pass : (attrs : List Attr) (index : List ℕ) (x : PatFacts) → PatPasses x
    → Passing plain ends_pat (field_facts (FieldPat-F.Index attrs index x))
unfolding tables
index_pass attrs index x k = record {
  go = λ g w.
      let e = Piece colon (form.Part (pat_form Alternatives x) Done) in
      let es = map attr_form attrs in
      let n = and_parts (are_attrs false attrs) (pat_good Alternatives x) g in
      let q = outer_pieces es (Leaf kind.Int index e) w in
      let r = and_parts (is_text_of kind.Int index) _ q.1 in
      let p = (and_parts (are_pieces (pat_form Alternatives x)) true r.1).0 in
      let z = part plain ends_pat refl (inner Alternatives x k n.1 p) (ends refl) in
      with_outer es ends_line refl (attrs_pass false attrs n.0 q.0) (int_passes index r.0 (fixed refl z) (fixed refl z));
}

pub short_pass : (attrs : List Attr) (x : PatFacts) → PatPasses x
    → Passing plain ends_pat (field_facts (FieldPat-F.Short attrs x))
unfolding tables
short_pass attrs x k = record {
  go = λ g w.
      let es = map attr_form attrs in
      let e = form.Part (pat_form Single x) Done in
      let n1 = and_parts (are_attrs false attrs && x.told.good) x.short g in
      let n2 = and_parts (are_attrs false attrs) x.told.good n1.0 in
      let q = outer_pieces es e w in
      let p = (and_parts (are_pieces x.told.form) true q.1).0 in
      with_outer es ends_line refl (attrs_pass false attrs n2.0 q.0)
      (part plain ends_pat refl ((k.go plain begins_plain).go n2.1 p) (ends refl));
}
