-- Patterns: when they are well formed, their forms, and what may follow (Rust Reference,
-- "Patterns").
use Rattle.std.specs.Prelude.{ℕ, ◌&&◌, ◌||◌, not, Bool, true, false, List, [], ◌∷◌, ◌++◌, map, codes, Option, Some, None, is_some}
use Rattle.std.specs.List.{list_all}
use Rattle.std.specs.Str.{bytes_eq}
use Rattle.lay_piece.specs.Characters as char
use Rattle.lay_piece.specs.declared.kind.Delim.TheVariants.{Paren, Bracket}
use Rattle.lay_piece.specs.declared.kind.Kind.TheVariants as kind
use Rattle.lay_token.specs.Operators.{is_op}
use Rattle.lay_form.specs.Form.{Bit, Blank, Fixed, Operator, Form, Done, Piece, Leaf, Part, Optional, punct, keyword, opener, closer}
use Rattle.lay_form.specs.Notation.{B, I0, piece, when, comma_list, braces, behind_attrs}
use Rattle.lay_form.specs.Spelled as spelled
use Rattle.lay_node.specs.Ahead.{Tokens}
use Rattle.lay_node.specs.Begins.{begins_span_end}
use Rattle.lay_node.specs.Follow.{Begin, OfColons, OfBang, goes_on_pattern, may_follow}
use Rattle.lay_node.specs.Words.{is_name, is_literal, is_number, leaf_of}
use Rattle.lay_node.specs.nodes.Attr.{are_attrs, attr_form}
use Rattle.lay_node.specs.nodes.Call.{about_call}
use Rattle.lay_node.specs.nodes.Facts.{Facts, forms, all_good}
use Rattle.lay_node.specs.nodes.Types.{about_path, colon, deeper, is_several, joined, last_refuses, literal_form, lone_word}
use Rattle.lay_node.specs.declared.patterns.FieldPat.{FieldPat}
use Rattle.lay_node.specs.declared.patterns.FieldPat.TheFolds.{fold-FieldPat, fold-Pat}
use Rattle.lay_node.specs.declared.patterns.FieldPat.TheOpen.{FieldPat-F, Pat-F}
use Rattle.lay_node.specs.declared.patterns.Pat.{Pat}
use Rattle.lay_node.specs.declared.patterns.PatPlace.{PatPlace}
use Rattle.lay_node.specs.declared.patterns.PatPlace.TheVariants.{Alternatives, Single}
use Rattle.lay_node.specs.declared.patterns.PatValue.{PatValue}
use Rattle.lay_node.specs.declared.patterns.SpanEnd.{SpanEnd}
use Rattle.lay_node.specs.declared.patterns.SpanEnd.TheVariants as span_end
use Rattle.lay_node.specs.declared.token.Word.{Word}
use Rattle.lay_node.specs.declared.types.PathStyle.TheVariants.{Code}

-- ---- parts with no patterns within them

-- a literal, or a number after a `-`
abbrev pub value_form : PatValue → Form
value_form v = when v.negative (punct char.minus ∷ []) (literal_form v.literal Done)

abbrev pub is_value : PatValue → Bool
is_value v = is_literal v.literal.kind v.literal.text && (not v.negative || is_number v.literal.kind)

abbrev pub end_form : SpanEnd → Form
end_form (span_end.Value v) = value_form v
end_form (span_end.Path p) = (about_path p Code).form

abbrev pub is_end : SpanEnd → Bool
is_end (span_end.Value v) = is_value v
is_end (span_end.Path p) = (about_path p Code).good

abbrev pub end_refuses : SpanEnd → List Begin
end_refuses (span_end.Value v) = []
end_refuses (span_end.Path p) = (about_path p Code).refuses

abbrev pub dots : Bool → List Bit
dots true = Operator (codes "..=") ∷ []
dots false = Operator (codes "..") ∷ []

abbrev pub first_end : Option SpanEnd → Form → Form
first_end None f = f
first_end (Some e) f = Part (end_form e) f

abbrev pub last_end : Option SpanEnd → Form
last_end None = Done
last_end (Some e) = Part (end_form e) Done

abbrev pub may_end : Option SpanEnd → Bool
may_end None = true
may_end (Some e) = is_end e

abbrev pub last_end_refuses : Option SpanEnd → List Begin
last_end_refuses None = []
last_end_refuses (Some e) = end_refuses e

-- A span has at least one end, and after `..=` its last one.
abbrev pub has_ends : Option SpanEnd → Bool → Option SpanEnd → Bool
has_ends start inclusive end = (is_some start || is_some end) && (not inclusive || is_some end)

-- the word `self`, which by itself is no pattern
abbrev pub is_self : Word → Bool
is_self w = not w.raw && bytes_eq w.text (codes "self")

-- A name by itself is bound, so it is no path. `self` by itself is none either.
abbrev pub may_be_path : Option Word → Bool
may_be_path None = true
may_be_path (Some w) = not (is_name w.raw w.text) && not (is_self w)

-- ---- the facts about patterns

pub record PatFacts : Type 0 where
  pub told : Facts
  -- It is several alternatives.
  pub several : Bool
  -- It is `..` alone.
  pub rest : Bool
  -- It is a span.
  pub span : Bool
  -- It is a name that is bound, with nothing after it.
  pub short : Bool
  -- It is a name that is bound and begins with `mut`.
  pub begins_mut : Bool
  -- It ends in a `..` without an end after it.
  pub lacks_end : Bool
  -- It ends in a name that is bound to no pattern.
  pub lacks_bound : Bool

abbrev pub plain_pat : Facts → PatFacts
plain_pat told = record {
  told = told;
  several = false;
  rest = false;
  span = false;
  short = false;
  begins_mut = false;
  lacks_end = false;
  lacks_bound = false;
}

-- Where alternatives may stand, a bar may be spelled before them.
abbrev pub pat_form : PatPlace → PatFacts → Form
pat_form Alternatives x = Optional false (Operator (codes "|") ∷ []) (Part x.told.form Done)
pat_form Single x = x.told.form

abbrev pub pat_good : PatPlace → PatFacts → Bool
pat_good Alternatives x = x.told.good
pat_good Single x = x.told.good && not x.several

-- What may follow a pattern: nothing that would continue it, and no last part of its own that was
-- left out. Such a part is an end after its `..`, or an `@` after a name.
abbrev pub single_follows : PatFacts → Tokens → Bool
single_follows x ts =
    not (goes_on_pattern ts) && not (x.lacks_end && begins_span_end ts) && not (x.lacks_bound && is_op (codes "@") ts) && may_follow x.told.refuses ts

-- Where alternatives may stand, no bar may follow them.
abbrev pub pat_follows : PatPlace → PatFacts → Tokens → Bool
pat_follows Alternatives x ts = not (is_op (codes "|") ts) && single_follows x ts
pat_follows Single x ts = single_follows x ts

abbrev pub pat_forms : PatPlace → List PatFacts → List Form
pat_forms place xs = map (pat_form place) xs

abbrev pub all_pats_good : PatPlace → List PatFacts → Bool
all_pats_good place xs = list_all (pat_good place) xs

abbrev pub all_told : List PatFacts → List Facts
all_told xs = map (λ (x : PatFacts). x.told) xs

-- whether it holds of the last pattern
abbrev pub of_last : (PatFacts → Bool) → List PatFacts → Bool
of_last p [] = false
of_last p (x ∷ []) = p x
of_last p (x ∷ y ∷ xs) = of_last p (y ∷ xs)

-- ---- fields

abbrev pub field_facts : FieldPat-F Facts PatFacts → Facts
field_facts (FieldPat-F.Named attrs name x) = record {
  form = behind_attrs (map attr_form attrs) (leaf_of name.raw name.text (Piece colon (Part (pat_form Alternatives x) Done)));
  good = are_attrs false attrs && is_name name.raw name.text && pat_good Alternatives x;
  refuses = x.told.refuses;
}
field_facts (FieldPat-F.Index attrs index x) = record {
  form = behind_attrs (map attr_form attrs) (Leaf kind.Int index (Piece colon (Part (pat_form Alternatives x) Done)));
  good = are_attrs false attrs && pat_good Alternatives x;
  refuses = x.told.refuses;
}
field_facts (FieldPat-F.Short attrs x) = record {
  form = behind_attrs (map attr_form attrs) (Part (pat_form Single x) Done);
  good = are_attrs false attrs && x.told.good && x.short;
  refuses = x.told.refuses;
}

-- the `..` after fields
abbrev pub rest_form : Bool → List Form
rest_form true = piece (Operator (codes "..") ∷ []) ∷ []
rest_form false = []

-- ---- patterns

-- a pattern that ends in a token of its own
abbrev pub shut_pat : Form → Bool → PatFacts
shut_pat form good = plain_pat (record { form = deeper form; good = good; refuses = [] })

abbrev pub bound_form : Option PatFacts → Form
bound_form None = Done
bound_form (Some x) = Piece (Blank ∷ Operator (codes "@") ∷ Blank ∷ []) (Part (pat_form Single x) Done)

abbrev pub bound_good : Option PatFacts → Bool
bound_good None = true
bound_good (Some x) = pat_good Single x

abbrev pub bound_refuses : Option PatFacts → List Begin
bound_refuses None = []
bound_refuses (Some x) = x.told.refuses

abbrev pub bound_lacks_end : Option PatFacts → Bool
bound_lacks_end None = false
bound_lacks_end (Some x) = x.lacks_end

abbrev pub bound_lacks_bound : Option PatFacts → Bool
bound_lacks_bound None = true
bound_lacks_bound (Some x) = x.lacks_bound

-- A tuple of one element has a comma after it, but one of `..` alone has none.
abbrev pub one_form : Bool → PatFacts → Form
one_form true x = Piece (opener Paren ∷ []) (Part (pat_form Alternatives x) (piece (closer Paren ∷ [])))
one_form false x = Piece (opener Paren ∷ []) (Part (pat_form Alternatives x) (piece (punct char.comma ∷ closer Paren ∷ [])))

abbrev pub tuple_form : List PatFacts → Form
tuple_form (x ∷ []) = one_form x.rest x
tuple_form xs = comma_list true (opener Paren) (closer Paren) (pat_forms Alternatives xs)

abbrev pub pat_facts : Pat-F Facts PatFacts → PatFacts
pat_facts (Pat-F.Or xs) = record (plain_pat (record {
  form = deeper (I0 (joined (λ f. B (Piece (Operator (codes "|") ∷ Blank ∷ []) f)) (pat_forms Single xs)) Done);
  good = is_several xs && all_pats_good Single xs;
  refuses = last_refuses (all_told xs);
})) {
  several = true;
  lacks_end = of_last (λ (x : PatFacts). x.lacks_end) xs;
  lacks_bound = of_last (λ (x : PatFacts). x.lacks_bound) xs;
}
pat_facts (Pat-F.Value v) = shut_pat (value_form v) (is_value v)
pat_facts Pat-F.Wild = shut_pat (piece (Fixed kind.Underscore (codes "_") ∷ [])) true
pat_facts Pat-F.Rest = record (shut_pat (piece (Operator (codes "..") ∷ [])) true) { rest = true; lacks_end = true }
pat_facts (Pat-F.Call call) = shut_pat (about_call call).form (about_call call).good
pat_facts (Pat-F.Path path) = plain_pat (record {
  form = deeper (about_path path Code).form;
  good = (about_path path Code).good && may_be_path (lone_word path);
  refuses = OfBang ∷ (about_path path Code).refuses;
})
pat_facts (Pat-F.Bind by_ref mutable name of) = record (plain_pat (record {
  form = deeper (when by_ref (keyword (codes "ref") ∷ Blank ∷ []) (when mutable (keyword (codes "mut") ∷ Blank ∷ []) (leaf_of name.raw name.text (bound_form of))));
  good = is_name name.raw name.text && bound_good of;
  refuses = OfColons ∷ OfBang ∷ bound_refuses of;
})) {
  short = not (is_some of);
  begins_mut = not by_ref && mutable;
  lacks_end = bound_lacks_end of;
  lacks_bound = bound_lacks_bound of;
}
pat_facts (Pat-F.Span start inclusive end) = record (plain_pat (record {
  form = deeper (first_end start (Piece (dots inclusive) (last_end end)));
  good = has_ends start inclusive end && may_end start && may_end end;
  refuses = last_end_refuses end;
})) { span = true; lacks_end = not (is_some end) }
pat_facts (Pat-F.Ref mutable x) = record (plain_pat (record {
  form = deeper (Piece (Fixed kind.Punct (codes "&") ∷ []) (when mutable (keyword (codes "mut") ∷ Blank ∷ []) (Part (pat_form Single x) Done)));
  good = pat_good Single x && not x.span && (mutable || not x.begins_mut);
  refuses = x.told.refuses;
})) { lacks_end = x.lacks_end; lacks_bound = x.lacks_bound }
pat_facts (Pat-F.Struct path fields rest) =
    shut_pat (Part (about_path path Code).form (braces (not rest) (forms fields ++ rest_form rest)))
    ((about_path path Code).good && all_good fields)
pat_facts (Pat-F.TupleStruct path xs) =
    shut_pat (Part (about_path path Code).form (comma_list true (opener Paren) (closer Paren) (pat_forms Alternatives xs)))
    ((about_path path Code).good && all_pats_good Alternatives xs)
pat_facts (Pat-F.Tuple xs) = shut_pat (tuple_form xs) (all_pats_good Alternatives xs)
pat_facts (Pat-F.Paren x) =
    shut_pat (Piece (opener Paren ∷ []) (Part (pat_form Alternatives x) (piece (closer Paren ∷ [])))) (pat_good Alternatives x && not x.rest)
pat_facts (Pat-F.Slice xs) = shut_pat (comma_list true (opener Bracket) (closer Bracket) (pat_forms Alternatives xs)) (all_pats_good Alternatives xs)

-- ---- the facts about each node

unfoldable pub about_pat : Pat → PatFacts
about_pat = fold-Pat Facts PatFacts field_facts pat_facts

unfoldable pub about_field_pat : FieldPat → Facts
about_field_pat = fold-FieldPat Facts PatFacts field_facts pat_facts

-- ---- beginnings

-- A pattern with these facts stands at the start of the tokens, at the place.
abbrev pub PatFront : PatPlace → PatFacts → Tokens → ℕ → ℕ → Type 0
PatFront place x ts n depth = spelled.Front (pat_form place x) (pat_good place x) (pat_follows place x) ts n depth
