-- The streams of patterns, kind by kind.
use Rattle.std.proofs.Common.{◌≡◌, ◌<◌, ◌≤◌, ◌==◌, Bool, true, false, cond, List, [], ◌∷◌, ◌++◌, map, length, get_or, codes, Option, Some, None, refl, sym, ap, ◌∙◌, append_assoc, arith}
use Rattle.lay_layout.specs.declared.layout.Tok.{Tok}
use Rattle.lay_layout.specs.declared.layout.Tok.TheVariants as tok
use Rattle.lay_piece.specs.Characters as char
use Rattle.lay_piece.specs.declared.kind.Delim.TheVariants.{Paren, Bracket}
use Rattle.lay_form.specs.Form.{Form, Blank, Done, Piece, Part, punct, keyword, opener, closer}
use Rattle.lay_form.specs.Layout.{ends_behind_point, led, text_of_bits, token_ends_in_point}
use Rattle.lay_form.specs.Notation.{I0, comma_list, piece, when}
use Rattle.lay_form.specs.Stream.{fed, stream_of}
use Rattle.lay_node.specs.Words.{leaf_of}
use Rattle.lay_node.specs.nodes.Call.{call_form}
use Rattle.lay_node.specs.nodes.Patterns.{PatFacts, about_pat, bound_form, dots, end_form, first_end, last_end, one_form, pat_form, pat_forms, value_form}
use Rattle.lay_node.specs.nodes.Types.{about_path, joined, literal_form}
use Rattle.lay_node.specs.declared.patterns.Pat.{Pat}
use Rattle.lay_node.specs.declared.patterns.Pat.TheVariants as pat
use Rattle.lay_node.specs.declared.patterns.PatPlace.TheVariants.{Alternatives, Single}
use Rattle.lay_node.specs.declared.patterns.PatValue.{PatValue}
use Rattle.lay_node.specs.declared.patterns.SpanEnd.{SpanEnd}
use Rattle.lay_node.specs.declared.patterns.SpanEnd.TheVariants as span_end
use Rattle.lay_node.specs.declared.token.Name.{Name}
use Rattle.lay_node.specs.declared.tokens.MacroCall.{MacroCall}
use Rattle.lay_node.specs.declared.types.Path.{Path}
use Rattle.lay_node.specs.declared.types.PathStyle.TheVariants.{Code}
use Rattle.lay_node.proofs.nodes.PatternsLaws.{IsBind, IsCall, IsOr, IsParen, IsPath, IsRef, IsRest, IsSlice, IsSpan, IsStruct, IsTuple, IsTupleStruct, IsValue, IsWild, PatView, pat_bind_is, pat_call_is, pat_or_is, pat_paren_is, pat_path_is, pat_ref_is, pat_rest_is, pat_slice_is, pat_span_is, pat_struct_is, pat_tuple_is, pat_tuple_struct_is, pat_value_is, pat_view, pat_wild_is}
use Rattle.lay_out_tokens.proofs.StreamParts.{fed_more, leaf_more}
use Rattle.lay_out_pats.specs.PatternRows.{alternatives_form, bar_lead, pat_told}
use Rattle.lay_out_types.specs.Rows.{comma_between, further, list_closed, list_opened, row}
use Rattle.lay_out_types.proofs.FormRows.{are_none, list_is, none_is, part_more}
use Rattle.lay_out_types.proofs.TypeLemmas.{parens_are}
use Rattle.lay_out_pats.proofs.PathEnds.{path_any}

-- the stream of a pattern
abbrev pub told : Pat → List Tok
told x = stream_of (pat_told x)

-- it is of this kind
pub told_is : (x y : Pat) (facts : PatFacts) → x ≡ y → about_pat y ≡ facts → stream_of facts.told.form ≡ told x
told_is x y facts is e = sym (ap told is ∙ ap (λ (z : PatFacts). stream_of z.told.form) e)

-- ---- values and ends of spans

pub value_is : (v : PatValue)
    → cond v.negative (tok.Text (codes "-") ∷ []) [] ++ stream_of (literal_form v.literal Done)
    ≡ stream_of (value_form v)
value_is v = by v.negative
  where
    by : (n : Bool) → cond n (tok.Text (codes "-") ∷ []) [] ++ stream_of (literal_form v.literal Done)
        ≡ stream_of (when n (punct char.minus ∷ []) (literal_form v.literal Done))
    by true = refl
    by false = refl

pub value_end : (e : SpanEnd) (v : PatValue) → e ≡ span_end.Value v → stream_of (value_form v) ≡ stream_of (end_form e)
value_end e v is = rw is refl

pub path_end : (e : SpanEnd) (p : Path) → e ≡ span_end.Path p
    → stream_of (about_path p Code).form ≡ stream_of (end_form e)
path_end e p is = rw is refl

-- a number ends as its literal does
pub value_point : (e : SpanEnd) (v : PatValue) (b : Bool) → e ≡ span_end.Value v
    → b ≡ token_ends_in_point v.literal.kind v.literal.text → b ≡ ends_behind_point false (end_form e)
value_point e v b is h = rw is (by v.negative)
  where
    by : (n : Bool)
        → b ≡ ends_behind_point false (when n (punct char.minus ∷ []) (literal_form v.literal Done))
    by true = h
    by false = h

-- after a point an end is fed as anywhere
end_any : (e : SpanEnd) (q : Bool) → fed q (end_form e) [] ≡ stream_of (end_form e)
end_any (span_end.Value v) q = by v.negative q
  where
    by : (n q : Bool) → fed q (when n (punct char.minus ∷ []) (literal_form v.literal Done)) []
        ≡ stream_of (when n (punct char.minus ∷ []) (literal_form v.literal Done))
    by true true = refl
    by true false = refl
    by false q = refl
end_any (span_end.Path p) q = path_any p q

last_any : (e : Option SpanEnd) (q : Bool) → fed q (last_end e) [] ≡ stream_of (last_end e)
last_any None q = refl
last_any (Some e) q = end_any e q

-- `..` or `..=`, and what follows it
dots_text : (q i : Bool) (f : Form) → ((r : Bool) → fed r f [] ≡ stream_of f)
    → tok.Text (text_of_bits (led q (dots i))) ∷ stream_of f ≡ fed q (Piece (dots i) f) []
dots_text true true f any = refl
dots_text true false f any = ap (λ (s : List Tok). tok.Text (codes " ..") ∷ s) (sym (any true))
dots_text false true f any = refl
dots_text false false f any = ap (λ (s : List Tok). tok.Text (codes "..") ∷ s) (sym (any true))

pub dots_alone : (s : Option SpanEnd) (i : Bool) → s ≡ None
    → tok.Text (cond i (codes "..=") (codes "..")) ∷ [] ≡ stream_of (first_end s (piece (dots i)))
dots_alone s true is = rw is refl
dots_alone s false is = rw is refl

pub dots_apart : (q i : Bool) → q ≡ true
    → tok.Text (cond i (codes " ..=") (codes " ..")) ∷ [] ≡ tok.Text (text_of_bits (led q (dots i))) ∷ []
dots_apart q true is = rw is refl
dots_apart q false is = rw is refl

pub dots_close : (q i : Bool) → q ≡ false
    → tok.Text (cond i (codes "..=") (codes "..")) ∷ [] ≡ tok.Text (text_of_bits (led q (dots i))) ∷ []
dots_close q true is = rw is refl
dots_close q false is = rw is refl

pub dots_behind : (s : Option SpanEnd) (e : SpanEnd) (i q : Bool) → s ≡ Some e
    → q ≡ ends_behind_point false (end_form e)
    → stream_of (end_form e) ++ (tok.Text (text_of_bits (led q (dots i))) ∷ [])
    ≡ stream_of (first_end s (piece (dots i)))
dots_behind s e i q is point =
    rw (is, point) (ap (λ (s : List Tok). stream_of (end_form e) ++ s)
    (dots_text (ends_behind_point false (end_form e)) i Done (λ r. refl))
    ∙ sym (fed_more false (end_form e) (fed (ends_behind_point false (end_form e)) (piece (dots i)) [])))

pub no_last : (e : Option SpanEnd) → e ≡ None → [] ≡ stream_of (last_end e)
no_last e is = rw is refl

pub some_last : (e : Option SpanEnd) (x : SpanEnd) → e ≡ Some x → stream_of (end_form x) ≡ stream_of (last_end e)
some_last e x is = rw is refl

dots_last : (q i : Bool) (e : Option SpanEnd)
    → fed q (piece (dots i)) [] ++ stream_of (last_end e) ≡ fed q (Piece (dots i) (last_end e)) []
dots_last q i e =
    ap (λ (s : List Tok). s ++ stream_of (last_end e)) (sym (dots_text q i Done (λ r. refl)))
    ∙ dots_text q i (last_end e) (last_any e)

span_parts : (s : Option SpanEnd) (i : Bool) (e : Option SpanEnd)
    → stream_of (first_end s (piece (dots i))) ++ stream_of (last_end e)
    ≡ stream_of (first_end s (Piece (dots i) (last_end e)))
span_parts None i e = dots_last false i e
span_parts (Some x) i e =
    let q = ends_behind_point false (end_form x) in
    ap (λ (s : List Tok). s ++ stream_of (last_end e)) (fed_more false (end_form x) (fed q (piece (dots i)) []))
    ∙ append_assoc (stream_of (end_form x)) (fed q (piece (dots i)) []) (stream_of (last_end e))
    ∙ ap (λ (s : List Tok). stream_of (end_form x) ++ s) (dots_last q i e)
    ∙ sym (fed_more false (end_form x) (fed q (Piece (dots i) (last_end e)) []))

pub span_pat : (x : Pat) (s : Option SpanEnd) (i : Bool) (e : Option SpanEnd) → x ≡ pat.Span s i e
    → stream_of (first_end s (piece (dots i))) ++ stream_of (last_end e) ≡ told x
span_pat x s i e is = span_parts s i e ∙ told_is x (pat.Span s i e) _ is (pat_span_is s i e)

-- ---- leaves

pub value_pat : (x : Pat) (v : PatValue) → x ≡ pat.Value v → stream_of (value_form v) ≡ told x
value_pat x v is = told_is x (pat.Value v) _ is (pat_value_is v)

pub wild_pat : (x : Pat) → x ≡ pat.Wild → tok.Text (codes "_") ∷ [] ≡ told x
wild_pat x is = told_is x pat.Wild _ is pat_wild_is

pub rest_pat : (x : Pat) → x ≡ pat.Rest → tok.Text (codes "..") ∷ [] ≡ told x
rest_pat x is = told_is x pat.Rest _ is pat_rest_is

pub call_pat : (x : Pat) (call : MacroCall) → x ≡ pat.Call call → stream_of (call_form call) ≡ told x
call_pat x call is = told_is x (pat.Call call) _ is (pat_call_is call)

pub path_pat : (x : Pat) (p : Path) → x ≡ pat.Path p → stream_of (about_path p Code).form ≡ told x
path_pat x p is = told_is x (pat.Path p) _ is (pat_path_is p)

-- ---- names that are bound, and references

bound_parts : (r m : Bool) (f : Form)
    → cond r (tok.Text (codes "ref ") ∷ []) [] ++ (cond m (tok.Text (codes "mut ") ∷ []) [] ++ stream_of f)
    ≡ stream_of (when r (keyword (codes "ref") ∷ Blank ∷ []) (when m (keyword (codes "mut") ∷ Blank ∷ []) f))
bound_parts true true f = refl
bound_parts true false f = refl
bound_parts false true f = refl
bound_parts false false f = refl

pub bare_bind : (x : Pat) (r m : Bool) (name : Name) (of : Option Pat) → x ≡ pat.Bind r m name of → of ≡ None
    → cond r (tok.Text (codes "ref ") ∷ []) []
    ++ (cond m (tok.Text (codes "mut ") ∷ []) [] ++ stream_of (leaf_of name.raw name.text Done)) ≡ told x
bare_bind x r m name of is none =
    bound_parts r m (leaf_of name.raw name.text Done)
    ∙ told_is x (pat.Bind r m name None) _ (is ∙ ap (λ (o : Option Pat). pat.Bind r m name o) none)
    (pat_bind_is r m name None)

pub full_bind : (x : Pat) (r m : Bool) (name : Name) (of : Option Pat) (inner put : Pat) → x ≡ pat.Bind r m name of
    → of ≡ Some inner → put ≡ inner
    → cond r (tok.Text (codes "ref ") ∷ []) [] ++ (cond m (tok.Text (codes "mut ") ∷ []) []
    ++ (stream_of (leaf_of name.raw name.text Done) ++ (tok.Text (codes " @ ") ∷ told put))) ≡ told x
full_bind x r m name of inner put is some e =
    let f = bound_form (Some (about_pat inner)) in
    rw e (ap (λ (s : List Tok). cond r (tok.Text (codes "ref ") ∷ []) []
    ++ (cond m (tok.Text (codes "mut ") ∷ []) [] ++ s))
    (leaf_more name.raw name.text f)
    ∙ bound_parts r m (leaf_of name.raw name.text f)
    ∙ told_is x (pat.Bind r m name (Some inner)) _ (is ∙ ap (λ (o : Option Pat). pat.Bind r m name o) some)
    (pat_bind_is r m name (Some inner)))

ref_parts : (m : Bool) (f : Form)
    → cond m (tok.Text (codes "mut ") ∷ []) [] ++ stream_of f
    ≡ stream_of (when m (keyword (codes "mut") ∷ Blank ∷ []) (Part f Done))
ref_parts true f = refl
ref_parts false f = refl

pub ref_pat : (x : Pat) (m : Bool) (inner put : Pat) → x ≡ pat.Ref m inner → put ≡ inner
    → tok.Text (codes "&") ∷ (cond m (tok.Text (codes "mut ") ∷ []) [] ++ told put) ≡ told x
ref_pat x m inner put is e =
    rw e (ap (λ (s : List Tok). tok.Text (codes "&") ∷ s) (ref_parts m (pat_told inner))
    ∙ told_is x (pat.Ref m inner) _ is (pat_ref_is m inner))

-- ---- alternatives

told_forms : (xs : List Pat) → map pat_told xs ≡ pat_forms Single (map about_pat xs)
told_forms [] = refl
told_forms (x ∷ xs) = ap (λ (es : List Form). pat_told x ∷ es) (told_forms xs)

pub or_pat : (x : Pat) (xs put : List Pat) → x ≡ pat.Or xs → put ≡ xs → stream_of (alternatives_form put) ≡ told x
or_pat x xs put is e =
    rw e (ap (λ (es : List Form). stream_of (I0 (joined bar_lead es) Done)) (told_forms xs)
    ∙ told_is x (pat.Or xs) _ is (pat_or_is xs))

-- ---- patterns in brackets

further_placed : (between : List Tok) (xs : List Pat)
    → further between (map pat_told xs) ≡ further between (pat_forms Alternatives (map about_pat xs))
further_placed between [] = refl
further_placed between (x ∷ xs) = ap (λ (s : List Tok). between ++ (told x ++ s)) (further_placed between xs)

row_placed : (opening between : List Tok) (xs : List Pat)
    → row opening between (map pat_told xs) ≡ row opening between (pat_forms Alternatives (map about_pat xs))
row_placed opening between [] = refl
row_placed opening between (x ∷ xs) = ap (λ (s : List Tok). opening ++ (told x ++ s)) (further_placed between xs)

none_placed : (xs : List Pat) (b : Bool) → b ≡ are_none (map pat_told xs)
    → b ≡ are_none (pat_forms Alternatives (map about_pat xs))
none_placed [] b e = e
none_placed (x ∷ xs) b e = e

round_are : (xs : List Pat) (bare : Bool) → bare ≡ (length xs == 0)
    → row (list_opened (codes "(")) comma_between (map pat_told xs) ++ list_closed true bare (codes "()") (codes ")")
    ≡ stream_of (comma_list true (opener Paren) (closer Paren) (pat_forms Alternatives (map about_pat xs)))
round_are xs bare e =
    ap (λ (s : List Tok). s ++ list_closed true bare (codes "()") (codes ")"))
    (row_placed (list_opened (codes "(")) comma_between xs)
    ∙ parens_are true (pat_forms Alternatives (map about_pat xs)) bare
    (none_placed xs bare (none_is pat_told xs bare e))

square_are : (xs : List Pat) (bare : Bool) → bare ≡ (length xs == 0)
    → row (list_opened (codes "[")) comma_between (map pat_told xs) ++ list_closed true bare (codes "[]") (codes "]")
    ≡ stream_of (comma_list true (opener Bracket) (closer Bracket) (pat_forms Alternatives (map about_pat xs)))
square_are xs bare e =
    ap (λ (s : List Tok). s ++ list_closed true bare (codes "[]") (codes "]"))
    (row_placed (list_opened (codes "[")) comma_between xs)
    ∙ list_is true (opener Bracket) (closer Bracket) (codes "[") (codes "[]") (codes "]") (λ f more. refl) closes refl
    (pat_forms Alternatives (map about_pat xs)) bare (none_placed xs bare (none_is pat_told xs bare e))
  where
    closes : (q : Bool) (more : List Tok) → fed q (piece (closer Bracket ∷ [])) more ≡ tok.Text (codes "]") ∷ more
    closes true more = refl
    closes false more = refl

pub slice_pat : (x : Pat) (xs put : List Pat) (bare : Bool) → x ≡ pat.Slice xs → put ≡ xs → bare ≡ (length put == 0)
    → row (list_opened (codes "[")) comma_between (map pat_told put) ++ list_closed true bare (codes "[]") (codes "]")
    ≡ told x
slice_pat x xs put bare is e none =
    square_are put bare none
    ∙ told_is x (pat.Slice put) _ (is ∙ ap pat.Slice (sym e)) (pat_slice_is put)

list_any : (es : List Form) (q : Bool)
    → fed q (comma_list true (opener Paren) (closer Paren) es) []
    ≡ stream_of (comma_list true (opener Paren) (closer Paren) es)
list_any [] true = refl
list_any [] false = refl
list_any (e ∷ es) true = refl
list_any (e ∷ es) false = refl

pub tuple_struct_pat : (x : Pat) (path : Path) (xs put : List Pat) (bare : Bool) → x ≡ pat.TupleStruct path xs
    → put ≡ xs → bare ≡ (length put == 0)
    → stream_of (about_path path Code).form ++ (row (list_opened (codes "(")) comma_between (map pat_told put)
    ++ list_closed true bare (codes "()") (codes ")")) ≡ told x
tuple_struct_pat x path xs put bare is e none =
    let es = pat_forms Alternatives (map about_pat put) in
    ap (λ (s : List Tok). stream_of (about_path path Code).form ++ s) (round_are put bare none)
    ∙ part_more (about_path path Code).form (comma_list true (opener Paren) (closer Paren) es) (list_any es)
    ∙ told_is x (pat.TupleStruct path put) _ (is ∙ ap (λ (ys : List Pat). pat.TupleStruct path ys) (sym e))
    (pat_tuple_struct_is path put)

pub no_tuple : (x : Pat) (xs put : List Pat) → x ≡ pat.Tuple xs → put ≡ xs → length put < 1
    → tok.Text (codes "()") ∷ [] ≡ told x
no_tuple x xs [] is e none = told_is x (pat.Tuple []) _ (is ∙ ap pat.Tuple (sym e)) (pat_tuple_is [])
no_tuple x xs (y ∷ ys) is e none = absurd (omega arith)

pub one_tuple : (x : Pat) (xs put : List Pat) (only : Pat) → x ≡ pat.Tuple xs → put ≡ xs → 1 ≤ length put
    → length put < 2 → only ≡ get_or put 0 only
    → stream_of (one_form (about_pat only).rest (about_pat only)) ≡ told x
one_tuple x xs [] only is e some one first = absurd (omega arith)
one_tuple x xs (y ∷ []) only is e some one first =
    rw first (told_is x (pat.Tuple (y ∷ [])) _ (is ∙ ap pat.Tuple (sym e)) (pat_tuple_is (y ∷ [])))
one_tuple x xs (y ∷ z ∷ more) only is e some one first = absurd (omega arith)

pub tuple_pat : (x : Pat) (xs put : List Pat) (bare : Bool) → x ≡ pat.Tuple xs → put ≡ xs → 2 ≤ length put
    → bare ≡ (length put == 0)
    → row (list_opened (codes "(")) comma_between (map pat_told put) ++ list_closed true bare (codes "()") (codes ")")
    ≡ told x
tuple_pat x xs [] bare is e many none = absurd (omega arith)
tuple_pat x xs (y ∷ []) bare is e many none = absurd (omega arith)
tuple_pat x xs (y ∷ z ∷ more) bare is e many none =
    round_are (y ∷ z ∷ more) bare none
    ∙ told_is x (pat.Tuple (y ∷ z ∷ more)) _ (is ∙ ap pat.Tuple (sym e)) (pat_tuple_is (y ∷ z ∷ more))

paren_any : (q : Bool) → fed q (piece (closer Paren ∷ [])) [] ≡ tok.Text (codes ")") ∷ []
paren_any true = refl
paren_any false = refl

comma_any : (q : Bool) → fed q (piece (punct char.comma ∷ closer Paren ∷ [])) [] ≡ tok.Text (codes ",)") ∷ []
comma_any true = refl
comma_any false = refl

-- a pattern in parentheses, and what closes them
in_parens : (x : Pat) (close : Form) → ((q : Bool) → fed q close [] ≡ stream_of close)
    → tok.Text (codes "(") ∷ (told x ++ stream_of close)
    ≡ stream_of (Piece (opener Paren ∷ []) (Part (pat_form Alternatives (about_pat x)) close))
in_parens x close any =
    ap (λ (s : List Tok). tok.Text (codes "(") ∷ s) (part_more (pat_form Alternatives (about_pat x)) close any)

pub paren_pat : (x inner put : Pat) → x ≡ pat.Paren inner → put ≡ inner
    → tok.Text (codes "(") ∷ (told put ++ (tok.Text (codes ")") ∷ [])) ≡ told x
paren_pat x inner put is e =
    rw e (in_parens inner (piece (closer Paren ∷ [])) paren_any
    ∙ told_is x (pat.Paren inner) _ is (pat_paren_is inner))

pub one_single : (x : Pat) (rest : Bool) → rest ≡ (about_pat x).rest
    → tok.Text (codes "(") ∷ (told x ++ (tok.Text (cond rest (codes ")") (codes ",)")) ∷ []))
    ≡ stream_of (one_form (about_pat x).rest (about_pat x))
one_single x rest e = by rest ∙ ap (λ (r : Bool). stream_of (one_form r (about_pat x))) e
  where
    by : (r : Bool) → tok.Text (codes "(") ∷ (told x ++ (tok.Text (cond r (codes ")") (codes ",)")) ∷ []))
        ≡ stream_of (one_form r (about_pat x))
    by true = in_parens x (piece (closer Paren ∷ [])) paren_any
    by false = in_parens x (piece (punct char.comma ∷ closer Paren ∷ [])) comma_any

-- ---- which pattern is `..` alone

rest_of : (x : Pat) {facts : PatFacts} → about_pat x ≡ facts → facts.rest ≡ (about_pat x).rest
rest_of x e = sym (ap (λ (z : PatFacts). z.rest) e)

pub is_rest_pat : (x : Pat) → x ≡ pat.Rest → true ≡ (about_pat x).rest
is_rest_pat x is = rest_of _ pat_rest_is ∙ ap (λ (z : Pat). (about_pat z).rest) (sym is)

pub no_rest_pat : (x : Pat) → (x ≡ pat.Rest → ⊥) → false ≡ (about_pat x).rest
no_rest_pat x other = by x (pat_view x) other
  where
    by : (y : Pat) → PatView y → (y ≡ pat.Rest → ⊥) → false ≡ (about_pat y).rest
    by _ (IsOr xs) other = rest_of _ (pat_or_is xs)
    by _ (IsValue v) other = rest_of _ (pat_value_is v)
    by _ IsWild other = rest_of _ pat_wild_is
    by _ IsRest other = absurd (other refl)
    by _ (IsCall call) other = rest_of _ (pat_call_is call)
    by _ (IsPath p) other = rest_of _ (pat_path_is p)
    by _ (IsBind r m name of) other = rest_of _ (pat_bind_is r m name of)
    by _ (IsSpan s i e) other = rest_of _ (pat_span_is s i e)
    by _ (IsRef m inner) other = rest_of _ (pat_ref_is m inner)
    by _ (IsStruct path fields rest) other = rest_of _ (pat_struct_is path fields rest)
    by _ (IsTupleStruct path xs) other = rest_of _ (pat_tuple_struct_is path xs)
    by _ (IsTuple xs) other = rest_of _ (pat_tuple_is xs)
    by _ (IsParen inner) other = rest_of _ (pat_paren_is inner)
    by _ (IsSlice xs) other = rest_of _ (pat_slice_is xs)
