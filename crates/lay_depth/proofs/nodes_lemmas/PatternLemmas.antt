-- What patterns need, kind by kind.
use Rattle.std.proofs.Common.{◌≡◌, ◌∙◌, ◌⊎◌, inl, inr, ℕ, ◌+◌, Bool, true, false, not, List, [], ◌∷◌, ◌++◌, map, codes, length, take, ◌≤◌, max, refl, ap, arith, Option, option_map, Some, None}
use Rattle.lay_piece.specs.declared.kind.Delim.TheVariants.{Paren, Bracket}
use Rattle.lay_form.specs.Depth.{least_depth}
use Rattle.lay_form.specs.Form.{Blank, Operator, Form, Done, Part, Piece, Leaf, keyword, opener, closer, punct}
use Rattle.lay_form.specs.Notation.{B, when}
use Rattle.lay_piece.specs.Characters as char
use Rattle.lay_piece.specs.declared.kind.Kind.TheVariants as kind
use Rattle.lay_node.specs.Words.{leaf_of}
use Rattle.lay_node.specs.nodes.Facts.{Facts, forms}
use Rattle.lay_node.specs.nodes.Patterns.{PatFacts, about_field_pat, about_pat, bound_form, dots, first_end, last_end, one_form, pat_form, pat_forms, rest_form, tuple_form}
use Rattle.lay_node.specs.nodes.Types.{about_path, colon, literal_form}
use Rattle.lay_node.specs.declared.attr.Attr.{Attr}
use Rattle.lay_node.specs.declared.patterns.FieldPat.{FieldPat}
use Rattle.lay_node.specs.declared.patterns.FieldPat.TheVariants as field
use Rattle.lay_node.specs.declared.patterns.Pat.{Pat}
use Rattle.lay_node.specs.declared.patterns.Pat.TheVariants as pat
use Rattle.lay_node.specs.declared.patterns.PatPlace.TheVariants.{Alternatives, Single}
use Rattle.lay_node.specs.declared.patterns.PatValue.{PatValue}
use Rattle.lay_node.specs.declared.patterns.SpanEnd.{SpanEnd}
use Rattle.lay_node.specs.declared.patterns.SpanEnd.TheVariants as span_end
use Rattle.lay_node.specs.declared.token.Name.{Name}
use Rattle.lay_node.specs.declared.tokens.MacroCall.{MacroCall}
use Rattle.lay_node.specs.declared.types.Path.{Path}
use Rattle.lay_node.specs.declared.types.PathStyle.TheVariants.{Code, Kind}
use Rattle.lay_node.proofs.nodes.PatternsLaws as laws
use Rattle.lay_depth.specs.nodes.Depths.{counted, greatest}
use Rattle.lay_depth.proofs.nodes_lemmas.Forms.{behind_attrs_is, both_are, braces_are, call_is, joined_is, leaf_is, list_is, when_is}
use Rattle.lay_depth.proofs.nodes_lemmas.Loops.{all_turns}
use Rattle.lay_depth.proofs.nodes_lemmas.PathLemmas.{style_is}

-- the depth of a pattern and of a field of one, from the facts about its kind
by_kind : {x y : Pat} {facts : PatFacts} → x ≡ y → about_pat y ≡ facts → least_depth (about_pat x).told.form ≡ least_depth facts.told.form
by_kind is told = ap (λ (z : Pat). least_depth (about_pat z).told.form) is ∙ ap (λ (f : PatFacts). least_depth f.told.form) told

field_by_kind : {x y : FieldPat} {facts : Facts} → x ≡ y → about_field_pat y ≡ facts → least_depth (about_field_pat x).form ≡ least_depth facts.form
field_by_kind is told = ap (λ (z : FieldPat). least_depth (about_field_pat z).form) is ∙ ap (λ (f : Facts). least_depth f.form) told

-- ---- several patterns

abbrev pub form_of_pat : Pat → Form
form_of_pat x = (about_pat x).told.form

forms_are : (xs : List Pat) → map form_of_pat xs ≡ pat_forms Single (map about_pat xs)
forms_are [] = refl
forms_are (x ∷ xs) = ap (λ (es : List Form). form_of_pat x ∷ es) (forms_are xs)

pub all_pats : (xs : List Pat) (i most : ℕ) → length xs ≤ i → most ≡ counted (greatest (map form_of_pat (take i xs)))
    → most ≡ counted (greatest (pat_forms Single (map about_pat xs)))
all_pats xs i most h e = all_turns form_of_pat xs i most h e ∙ ap (λ es. counted (greatest es)) (forms_are xs)

-- ---- patterns with no others within them

value_is : (x : Pat) (value : PatValue) → x ≡ pat.Value value → least_depth (about_pat x).told.form ≡ 1
value_is x value is =
    by_kind is (laws.pat_value_is value)
    ∙ (let m = when_is value.negative (punct char.minus ∷ []) (literal_form value.literal Done) in omega (arith, m))

wild_is : (x : Pat) → x ≡ pat.Wild → least_depth (about_pat x).told.form ≡ 1
wild_is x is = by_kind is laws.pat_wild_is

rest_is : (x : Pat) → x ≡ pat.Rest → least_depth (about_pat x).told.form ≡ 1
rest_is x is = by_kind is laws.pat_rest_is

macro_is : (x : Pat) (call : MacroCall) → x ≡ pat.Call call → least_depth (about_pat x).told.form ≡ 1
macro_is x call is = by_kind is (laws.pat_call_is call) ∙ (let m = call_is call in omega (arith, m))

pub leaf_pat_is : (x : Pat)
    → ((value : PatValue) × (x ≡ pat.Value value)) ⊎ ((x ≡ pat.Wild) ⊎ ((x ≡ pat.Rest) ⊎ ((call : MacroCall) × (x ≡ pat.Call call))))
    → 1 ≡ counted (least_depth (about_pat x).told.form)
leaf_pat_is x (inl v) = let m = value_is x v.0 v.1 in omega (arith, m)
leaf_pat_is x (inr (inl is)) = let m = wild_is x is in omega (arith, m)
leaf_pat_is x (inr (inr (inl is))) = let m = rest_is x is in omega (arith, m)
leaf_pat_is x (inr (inr (inr c))) = let m = macro_is x c.0 c.1 in omega (arith, m)

pub path_is : (x : Pat) (path : Path) → x ≡ pat.Path path → least_depth (about_pat x).told.form ≡ least_depth (about_path path Kind).form + 1
path_is x path is = by_kind is (laws.pat_path_is path) ∙ (let m = style_is path Code in omega (arith, m))

pub end_path_is : (end : Option SpanEnd) (path : Path) → end ≡ Some (span_end.Path path)
    → least_depth (last_end end) ≡ least_depth (about_path path Kind).form
end_path_is end path is =
    ap (λ (z : Option SpanEnd). least_depth (last_end z)) is ∙ (let m = style_is path Code in omega (arith, m))

first_is : (start : Option SpanEnd) (f : Form) → least_depth (first_end start f) ≡ max (least_depth (last_end start)) (least_depth f)
first_is None f = omega arith
first_is (Some e) f = omega arith

pub span_is : (x : Pat) (start : Option SpanEnd) (inclusive : Bool) (end : Option SpanEnd) → x ≡ pat.Span start inclusive end
    → least_depth (about_pat x).told.form ≡ max (least_depth (last_end start)) (least_depth (last_end end)) + 1
span_is x start inclusive end is =
    by_kind is (laws.pat_span_is start inclusive end)
    ∙ (let m = first_is start (Piece (dots inclusive) (last_end end)) in omega (arith, m))

-- ---- patterns within others

bind_is : (by_ref mutable : Bool) (name : Name) (of : Option Pat)
    → least_depth (about_pat (pat.Bind by_ref mutable name of)).told.form ≡ least_depth (bound_form (option_map about_pat of)) + 1
bind_is by_ref mutable name of =
    by_kind refl (laws.pat_bind_is by_ref mutable name of)
    ∙ (let inner = leaf_of name.raw name.text (bound_form (option_map about_pat of)) in
    let m = when_is by_ref (keyword (codes "ref") ∷ Blank ∷ []) (when mutable (keyword (codes "mut") ∷ Blank ∷ []) inner) in
    let n = when_is mutable (keyword (codes "mut") ∷ Blank ∷ []) inner in
    let o = leaf_is name.raw name.text (bound_form (option_map about_pat of)) in omega (arith, m, n, o))

pub name_is : (x : Pat) (by_ref mutable : Bool) (name : Name) (of : Option Pat) → x ≡ pat.Bind by_ref mutable name of → of ≡ None
    → least_depth (about_pat x).told.form ≡ 1
name_is x by_ref mutable name of is none =
    ap (λ (z : Pat). least_depth (about_pat z).told.form) is ∙ bind_is by_ref mutable name of
    ∙ ap (λ (z : Option Pat). least_depth (bound_form (option_map about_pat z)) + 1) none

pub bound_is : (x : Pat) (by_ref mutable : Bool) (name : Name) (of : Option Pat) (inner : Pat) → x ≡ pat.Bind by_ref mutable name of
    → of ≡ Some inner → least_depth (about_pat x).told.form ≡ least_depth (about_pat inner).told.form + 1
bound_is x by_ref mutable name of inner is some =
    ap (λ (z : Pat). least_depth (about_pat z).told.form) is ∙ bind_is by_ref mutable name of
    ∙ ap (λ (z : Option Pat). least_depth (bound_form (option_map about_pat z)) + 1) some ∙ omega arith

pub or_is : (x : Pat) (alternatives : List Pat) → x ≡ pat.Or alternatives
    → least_depth (about_pat x).told.form ≡ greatest (pat_forms Single (map about_pat alternatives)) + 1
or_is x alternatives is =
    by_kind is (laws.pat_or_is alternatives)
    ∙ (let m = joined_is (λ f. B (Piece (Operator (codes "|") ∷ Blank ∷ []) f)) (λ f. refl) (pat_forms Single (map about_pat alternatives)) in
    omega (arith, m))

ref_is : (x : Pat) (mutable : Bool) (inner : Pat) → x ≡ pat.Ref mutable inner
    → least_depth (about_pat x).told.form ≡ least_depth (about_pat inner).told.form + 1
ref_is x mutable inner is =
    by_kind is (laws.pat_ref_is mutable inner)
    ∙ (let m = when_is mutable (keyword (codes "mut") ∷ Blank ∷ []) (Part (about_pat inner).told.form Done) in omega (arith, m))

paren_is : (x inner : Pat) → x ≡ pat.Paren inner → least_depth (about_pat x).told.form ≡ least_depth (about_pat inner).told.form + 1
paren_is x inner is = by_kind is (laws.pat_paren_is inner) ∙ omega arith

pub ref_or_paren : (x inner : Pat) → ((mutable : Bool) × (x ≡ pat.Ref mutable inner)) ⊎ (x ≡ pat.Paren inner)
    → least_depth (about_pat x).told.form ≡ least_depth (about_pat inner).told.form + 1
ref_or_paren x inner (inl r) = ref_is x r.0 inner r.1
ref_or_paren x inner (inr is) = paren_is x inner is

-- A bar that may be spelled before alternatives needs nothing.
alternatives_are : (xs : List PatFacts) → greatest (pat_forms Alternatives xs) ≡ greatest (pat_forms Single xs)
alternatives_are [] = refl
alternatives_are (x ∷ xs) = let m = alternatives_are xs in omega (arith, m)

one_is : (rest : Bool) (x : PatFacts) → least_depth (one_form rest x) ≡ least_depth x.told.form
one_is true x = omega arith
one_is false x = omega arith

elements_are : (xs : List PatFacts) → least_depth (tuple_form xs) ≡ greatest (pat_forms Single xs)
elements_are [] = refl
elements_are (x ∷ []) = let m = one_is x.rest x in omega (arith, m)
elements_are (x ∷ y ∷ xs) =
    list_is true (opener Paren) (closer Paren) (pat_forms Alternatives (x ∷ y ∷ xs)) ∙ alternatives_are (x ∷ y ∷ xs)

tuple_is : (x : Pat) (elements : List Pat) → x ≡ pat.Tuple elements
    → least_depth (about_pat x).told.form ≡ greatest (pat_forms Single (map about_pat elements)) + 1
tuple_is x elements is =
    by_kind is (laws.pat_tuple_is elements) ∙ (let m = elements_are (map about_pat elements) in omega (arith, m))

slice_is : (x : Pat) (elements : List Pat) → x ≡ pat.Slice elements
    → least_depth (about_pat x).told.form ≡ greatest (pat_forms Single (map about_pat elements)) + 1
slice_is x elements is =
    by_kind is (laws.pat_slice_is elements)
    ∙ (let m = list_is true (opener Bracket) (closer Bracket) (pat_forms Alternatives (map about_pat elements)) in
    let n = alternatives_are (map about_pat elements) in omega (arith, m, n))

pub tuple_or_slice : (x : Pat) (elements : List Pat) → (x ≡ pat.Tuple elements) ⊎ (x ≡ pat.Slice elements)
    → least_depth (about_pat x).told.form ≡ greatest (pat_forms Single (map about_pat elements)) + 1
tuple_or_slice x elements (inl is) = tuple_is x elements is
tuple_or_slice x elements (inr is) = slice_is x elements is

pub tuple_struct_is : (x : Pat) (path : Path) (elements : List Pat) → x ≡ pat.TupleStruct path elements
    → least_depth (about_pat x).told.form ≡ max (least_depth (about_path path Kind).form) (greatest (pat_forms Single (map about_pat elements))) + 1
tuple_struct_is x path elements is =
    by_kind is (laws.pat_tuple_struct_is path elements)
    ∙ (let m = style_is path Code in
    let n = list_is true (opener Paren) (closer Paren) (pat_forms Alternatives (map about_pat elements)) in
    let o = alternatives_are (map about_pat elements) in omega (arith, m, n, o))

no_more : (rest : Bool) → greatest (rest_form rest) ≡ 0
no_more true = refl
no_more false = refl

pub struct_is : (x : Pat) (path : Path) (fields : List FieldPat) (rest : Bool) → x ≡ pat.Struct path fields rest
    → least_depth (about_pat x).told.form ≡ max (least_depth (about_path path Kind).form) (greatest (forms (map about_field_pat fields))) + 1
struct_is x path fields rest is =
    by_kind is (laws.pat_struct_is path fields rest)
    ∙ (let m = style_is path Code in
    let n = braces_are (not rest) (forms (map about_field_pat fields) ++ rest_form rest) in
    let o = both_are (forms (map about_field_pat fields)) (rest_form rest) in
    let p = no_more rest in omega (arith, m, n, o, p))

-- ---- fields

named_is : (x : FieldPat) (attrs : List Attr) (name : Name) (inner : Pat) → x ≡ field.Named attrs name inner
    → least_depth (about_field_pat x).form ≡ least_depth (about_pat inner).told.form
named_is x attrs name inner is =
    let f = Piece colon (Part (pat_form Alternatives (about_pat inner)) Done) in
    field_by_kind is (laws.field_named_is attrs name inner) ∙ behind_attrs_is attrs (leaf_of name.raw name.text f)
    ∙ leaf_is name.raw name.text f ∙ omega arith

index_is : (x : FieldPat) (attrs : List Attr) (index : List ℕ) (inner : Pat) → x ≡ field.Index attrs index inner
    → least_depth (about_field_pat x).form ≡ least_depth (about_pat inner).told.form
index_is x attrs index inner is =
    field_by_kind is (laws.field_index_is attrs index inner)
    ∙ behind_attrs_is attrs (Leaf kind.Int index (Piece colon (Part (pat_form Alternatives (about_pat inner)) Done))) ∙ omega arith

short_is : (x : FieldPat) (attrs : List Attr) (inner : Pat) → x ≡ field.Short attrs inner
    → least_depth (about_field_pat x).form ≡ least_depth (about_pat inner).told.form
short_is x attrs inner is =
    field_by_kind is (laws.field_short_is attrs inner) ∙ behind_attrs_is attrs (Part (pat_form Single (about_pat inner)) Done) ∙ omega arith

pub field_is : (x : FieldPat) (inner : Pat)
    → ((attrs : List Attr) × (name : Name) × (x ≡ field.Named attrs name inner))
    ⊎ (((attrs : List Attr) × (index : List ℕ) × (x ≡ field.Index attrs index inner)) ⊎ ((attrs : List Attr) × (x ≡ field.Short attrs inner)))
    → least_depth (about_field_pat x).form ≡ least_depth (about_pat inner).told.form
field_is x inner (inl n) = named_is x n.0 n.1 inner n.2
field_is x inner (inr (inl i)) = index_is x i.0 i.1 inner i.2
field_is x inner (inr (inr s)) = short_is x s.0 inner s.1
