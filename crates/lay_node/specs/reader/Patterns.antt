-- The parser of patterns.
use Rattle.std.specs.Prelude.{ℕ, zero, suc, max, nat_le, ◌&&◌, ◌||◌, not, Bool, true, false, if◌then◌else◌, List, [], ◌∷◌, drop, codes, Option, Some, None}
use Rattle.lay_token.specs.Operators.{is_op}
use Rattle.lay_piece.specs.declared.kind.Delim.TheVariants.{Paren, Bracket, Brace}
use Rattle.lay_piece.specs.declared.kind.Kind.{Kind}
use Rattle.lay_piece.specs.declared.kind.Kind.TheVariants as kind
use Rattle.lay_token.specs.declared.token.Token.{Token}
use Rattle.lay_node.specs.Ahead.{Tokens, first, tail, is_keyword, is_mark, opens, closes}
use Rattle.lay_node.specs.Begins.{begins_span_end, begins_value, is_literal_token}
use Rattle.lay_node.specs.Follow.{begins_dots, goes_on_pattern}
use Rattle.lay_node.specs.Words.{is_name, is_number}
use Rattle.lay_node.specs.nodes.Patterns.{about_pat, is_self}
use Rattle.lay_node.specs.nodes.Types.{lone_word}
use Rattle.lay_node.specs.reader.Attr.{attributes}
use Rattle.lay_node.specs.reader.Call.{call}
use Rattle.lay_node.specs.reader.Loops.{Got, Read, ◌>>=◌, passed, nodes, deepest, elements, open_elements}
use Rattle.lay_node.specs.reader.Types.{Within, begins_call, chain, flag, literal, operator, path, within}
use Rattle.lay_node.specs.reader.Words.{name}
use Rattle.lay_node.specs.declared.attr.Attr.{Attr}
use Rattle.lay_node.specs.declared.patterns.FieldPat.{FieldPat}
use Rattle.lay_node.specs.declared.patterns.FieldPat.TheVariants as field
use Rattle.lay_node.specs.declared.patterns.Pat.{Pat}
use Rattle.lay_node.specs.declared.patterns.Pat.TheVariants as pat
use Rattle.lay_node.specs.declared.patterns.PatPlace.{PatPlace}
use Rattle.lay_node.specs.declared.patterns.PatPlace.TheVariants.{Alternatives, Single}
use Rattle.lay_node.specs.declared.patterns.PatValue.{PatValue}
use Rattle.lay_node.specs.declared.patterns.SpanEnd.{SpanEnd}
use Rattle.lay_node.specs.declared.patterns.SpanEnd.TheVariants as span_end
use Rattle.lay_node.specs.declared.token.Name.{Name}
use Rattle.lay_node.specs.declared.token.Word.{Word}
use Rattle.lay_node.specs.declared.types.Path.{Path}
use Rattle.lay_node.specs.declared.types.PathStyle.TheVariants.{Code}

-- The parsers of what is one level deeper: patterns at a place, and the types and the arguments of
-- paths.
pub record PatWithin : Type 0 where
  pub pats : PatPlace → Tokens → Read Pat
  pub kinds : Within

-- ---- values and the ends of spans

abbrev pub is_number_token : Token → Bool
is_number_token t = is_number t.kind

unfoldable pub value : Tokens → Got PatValue
value ts =
    if first (is_mark (codes "-")) ts then (do l ← literal is_number_token (tail ts); Some (record { negative = true; literal = l.0 }, l.1))
    else (do l ← literal is_literal_token ts; Some (record { negative = false; literal = l.0 }, l.1))

unfoldable pub one_end : Within → Tokens → Read SpanEnd
one_end kinds ts =
    if begins_value ts then (do v ← value ts; Some ((span_end.Value v.0, 0), v.1))
    else (do p ← path kinds Code ts; Some ((span_end.Path p.0.0, p.0.1), p.1))

-- `..` without an end after it: a rest, or a span with its first end alone
abbrev pub open_span : Option SpanEnd → ℕ → Tokens → Read Pat
open_span None need ts = Some ((pat.Rest, 1), ts)
open_span (Some start) need ts = Some ((pat.Span (Some start) false None, suc need), ts)

-- what follows the `..` or `..=` of a span; `need` is the depth that its first end needs
abbrev pub closed_span : Within → Option SpanEnd → ℕ → Bool → Tokens → Read Pat
closed_span kinds start need inclusive ts = do
  e ← one_end kinds ts
  Some ((pat.Span start inclusive (Some e.0.0), suc (max need e.0.1)), e.1)

unfoldable pub span : Within → Option SpanEnd → ℕ → Tokens → Read Pat
span kinds start need ts =
    if is_op (codes "..=") ts then closed_span kinds start need true (drop 3 ts)
    else (if begins_span_end (drop 2 ts) then closed_span kinds start need false (drop 2 ts) else open_span start need (drop 2 ts))

-- a value, or a span that it begins
abbrev pub value_by : Within → PatValue → Tokens → Read Pat
value_by kinds v ts = if begins_dots ts then span kinds (Some (span_end.Value v)) 0 ts else Some ((pat.Value v, 1), ts)

unfoldable pub value_pat : Within → Tokens → Read Pat
value_pat kinds ts = do v ← value ts; value_by kinds v.0 v.1

-- ---- names that are bound

-- A name that is bound, with what it is bound to. No `::` and no `!` may follow it.
abbrev pub bound : Pat × ℕ → Tokens → Read Pat
bound x ts = if is_op (codes "::") ts || is_op (codes "!") ts then None else Some (x, ts)

unfoldable pub bind : PatWithin → Bool → Bool → Name → Tokens → Read Pat
bind within by_ref mutable n ts =
    if is_op (codes "@") ts then (do x ← within.pats Single (drop 1 ts); bound (pat.Bind by_ref mutable n (Some x.0.0), suc x.0.1) x.1)
    else bound (pat.Bind by_ref mutable n None, 1) ts

abbrev pub begins_bind : Tokens → Bool
begins_bind ts = first (is_keyword (codes "ref")) ts || first (is_keyword (codes "mut")) ts

-- a name after `ref` or `mut`, or both
unfoldable pub marked_bind : PatWithin → Tokens → Read Pat
marked_bind within ts = do
  n ← name (flag (is_keyword (codes "mut")) (flag (is_keyword (codes "ref")) ts).1).1
  bind within (flag (is_keyword (codes "ref")) ts).0 (flag (is_keyword (codes "mut")) (flag (is_keyword (codes "ref")) ts).1).0 n.0 n.1

-- ---- what begins with a path

abbrev pub plain_path : Path × ℕ → Tokens → Read Pat
plain_path p ts = if is_op (codes "!") ts then None else Some ((pat.Path p.0, suc p.1), ts)

-- A path that is one word: a name is bound, and `self` is no pattern.
abbrev pub word_pat : PatWithin → Path × ℕ → Option Word → Tokens → Read Pat
word_pat within p None ts = plain_path p ts
word_pat within p (Some w) ts =
    if is_name w.raw w.text then bind within false false (record { raw = w.raw; text = w.text }) ts
    else (if is_self w then None else plain_path p ts)

-- elements in parentheses
abbrev pub tuple_struct : PatWithin → Path × ℕ → Tokens → Read Pat
tuple_struct within p ts = do
  xs ← elements (closes Paren) (within.pats Alternatives) ts
  Some ((pat.TupleStruct p.0 (nodes xs.0), suc (max p.1 (deepest xs.0))), xs.1)

abbrev pub is_int : Kind → Bool
is_int kind.Int = true
is_int _ = false

-- the number that a field is called by, and the `:` after it
abbrev pub index : Tokens → Got (List ℕ)
index [] = None
index (t ∷ ts) = if is_int t.kind && is_op (codes ":") ts then Some (t.text, drop 1 ts) else None

-- a name with a `:` after it
abbrev pub field_name : Tokens → Got Name
field_name ts = do n ← name ts; rest ← operator (codes ":") n.1; Some (n.0, rest)

abbrev pub short_field : PatWithin → List Attr → Tokens → Read FieldPat
short_field within attrs ts = do
  x ← within.pats Single ts
  if (about_pat x.0.0).short then Some ((field.Short attrs x.0.0, x.0.1), x.1) else None

abbrev pub named_field : PatWithin → List Attr → Got Name → Tokens → Read FieldPat
named_field within attrs None ts = short_field within attrs ts
named_field within attrs (Some n) ts = do x ← within.pats Alternatives n.1; Some ((field.Named attrs n.0 x.0.0, x.0.1), x.1)

abbrev pub field_by : PatWithin → List Attr → Got (List ℕ) → Tokens → Read FieldPat
field_by within attrs None ts = named_field within attrs (field_name ts) ts
field_by within attrs (Some i) ts = do x ← within.pats Alternatives i.1; Some ((field.Index attrs i.0 x.0.0, x.0.1), x.1)

unfoldable pub one_field : PatWithin → Tokens → Read FieldPat
one_field within ts = do attrs ← attributes false ts; field_by within attrs.0 (index attrs.1) attrs.1

abbrev pub begins_field : Tokens → Bool
begins_field ts = not (first (closes Brace) ts || is_op (codes "..") ts)

-- fields after a `{`, and whether a `..` stands after them
unfoldable pub fields : PatWithin → Tokens → Read (List FieldPat × Bool)
fields within ts = do
  fs ← open_elements begins_field (one_field within) ts
  rest ← passed (closes Brace) (if fs.0.1 && is_op (codes "..") fs.1 then drop 2 fs.1 else fs.1)
  Some (((nodes fs.0.0, fs.0.1 && is_op (codes "..") fs.1), deepest fs.0.0), rest)

abbrev pub struct_pat : PatWithin → Path × ℕ → Tokens → Read Pat
struct_pat within p ts = do fs ← fields within ts; Some ((pat.Struct p.0 fs.0.0.0 fs.0.0.1, suc (max p.1 fs.0.1)), fs.1)

-- what follows a path
unfoldable pub path_by : PatWithin → Path × ℕ → Tokens → Read Pat
path_by within p ts =
    if first (opens Paren) ts then tuple_struct within p (tail ts)
    else (if first (opens Brace) ts then struct_pat within p (tail ts)
    else (if begins_dots ts then span within.kinds (Some (span_end.Path p.0)) p.1 ts
    else word_pat within p (lone_word p.0) ts))

unfoldable pub path_pat : PatWithin → Tokens → Read Pat
path_pat within ts = do p ← path within.kinds Code ts; path_by within p.0 p.1

abbrev pub call_pat : Tokens → Read Pat
call_pat ts = do c ← call ts; Some ((pat.Call c.0, 1), c.1)

-- ---- in delimiters, and references

-- what follows a `&`
unfoldable pub ref_pat : PatWithin → Tokens → Read Pat
ref_pat within ts = do
  x ← within.pats Single (flag (is_keyword (codes "mut")) ts).1
  if (about_pat x.0.0).span then None else Some ((pat.Ref (flag (is_keyword (codes "mut")) ts).0 x.0.0, suc x.0.1), x.1)

-- A pattern alone in parentheses: `..` is the one element of a tuple.
abbrev pub alone_of : Pat × ℕ → Tokens → Read Pat
alone_of x ts = if (about_pat x.0).rest then Some ((pat.Tuple (x.0 ∷ []), suc x.1), ts) else Some ((pat.Paren x.0, suc x.1), ts)

-- A tuple of one element that is `..` has no comma.
abbrev pub tuple_of : Pat × ℕ → List (Pat × ℕ) → Tokens → Read Pat
tuple_of x [] ts = if (about_pat x.0).rest then None else Some ((pat.Tuple (x.0 ∷ []), suc x.1), ts)
tuple_of x (y ∷ more) ts = Some ((pat.Tuple (x.0 ∷ nodes (y ∷ more)), suc (max x.1 (deepest (y ∷ more)))), ts)

-- what follows a `(` and a pattern
abbrev pub paren_by : PatWithin → Pat × ℕ → Tokens → Read Pat
paren_by within x ts =
    if first (closes Paren) ts then alone_of x (tail ts)
    else (do
      behind ← passed (is_mark (codes ",")) ts
      more ← elements (closes Paren) (within.pats Alternatives) behind
      tuple_of x more.0 more.1)

-- what follows a `(`
unfoldable pub paren_pat : PatWithin → Tokens → Read Pat
paren_pat within ts =
    if first (closes Paren) ts then Some ((pat.Tuple [], 1), tail ts)
    else (do x ← within.pats Alternatives ts; paren_by within x.0 x.1)

-- what follows a `[`
unfoldable pub slice_pat : PatWithin → Tokens → Read Pat
slice_pat within ts = do
  xs ← elements (closes Bracket) (within.pats Alternatives) ts
  Some ((pat.Slice (nodes xs.0), suc (deepest xs.0)), xs.1)

-- ---- each kind

abbrev pub is_underscore_kind : Kind → Bool
is_underscore_kind kind.Underscore = true
is_underscore_kind _ = false

abbrev pub is_underscore : Token → Bool
is_underscore t = is_underscore_kind t.kind

-- a pattern that begins with a word, or with what a path begins with
abbrev pub word_led : PatWithin → Tokens → Read Pat
word_led within ts =
    if begins_bind ts then marked_bind within ts else (if begins_call ts then call_pat ts else path_pat within ts)

unfoldable pub pat_by : PatWithin → Tokens → Read Pat
pat_by within ts =
    if begins_value ts then value_pat within.kinds ts
    else (if first is_underscore ts then Some ((pat.Wild, 1), tail ts)
    else (if begins_dots ts then span within.kinds None 0 ts
    else (if first (is_mark (codes "&")) ts then ref_pat within (tail ts)
    else (if first (opens Paren) ts then paren_pat within (tail ts)
    else (if first (opens Bracket) ts then slice_pat within (tail ts)
    else word_led within ts)))))

-- The pattern, if nothing follows it that would continue it.
abbrev pub ended : (Pat × ℕ) → Tokens → Read Pat
ended x ts = if goes_on_pattern ts then None else Some (x, ts)

abbrev pub single_by : PatWithin → Tokens → Read Pat
single_by within ts = do x ← pat_by within ts; ended x.0 x.1

-- ---- alternatives

-- One by itself is no alternative. Several are one level above each of them.
abbrev pub alternatives_of : ℕ → List (Pat × ℕ) → Tokens → Read Pat
alternatives_of budget (x ∷ []) ts = Some (x, ts)
alternatives_of budget xs ts =
    if nat_le (suc (deepest xs)) budget then Some ((pat.Or (nodes xs), suc (deepest xs)), ts) else None

-- after the bar that may stand before alternatives
abbrev pub behind_bar : Tokens → Tokens
behind_bar ts = if is_op (codes "|") ts then drop 1 ts else ts

abbrev pub pat_in : ℕ → (Tokens → Read Pat) → PatPlace → Tokens → Read Pat
pat_in budget one Single ts = one ts
pat_in budget one Alternatives ts = do xs ← chain (codes "|") one (behind_bar ts); alternatives_of budget xs.0 xs.1

-- one pattern, without alternatives, within a budget
unfoldable pub single_at : ℕ → Tokens → Read Pat
single_at zero ts = None
single_at (suc budget) ts =
    single_by (record { pats = λ place us. pat_in budget (single_at budget) place us; kinds = within budget }) ts

abbrev pub pat_at : PatPlace → ℕ → Tokens → Read Pat
pat_at place budget ts = pat_in budget (single_at budget) place ts
