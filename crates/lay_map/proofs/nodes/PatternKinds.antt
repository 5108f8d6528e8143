-- Patterns tell their units, kind by kind, of what is told of them, where what is within them does. Each begins with a token that isn't
-- dropped, and that is neither a bar nor a comma.
use Rattle.std.proofs.Common.{◌≡◌, ℕ, Bool, true, false, not, ◌&&◌, ◌||◌, List, [], ◌∷◌, ◌++◌, codes, map, refl, Option, Some, None}
use Rattle.std.proofs.lemmas.Bool.{and_parts}
use Rattle.lay_piece.specs.Characters as char
use Rattle.lay_piece.specs.declared.kind.Delim.{Delim}
use Rattle.lay_piece.specs.declared.kind.Delim.TheVariants.{Paren, Bracket}
use Rattle.lay_piece.specs.declared.kind.Kind.TheVariants as kind
use Rattle.lay_form.specs.Form.{Blank, Fixed, Operator, Soft, Form, Done, Piece, Part, keyword, opener, closer, punct}
use Rattle.lay_form.specs.Notation.{B, I0, comma_list}
use Rattle.lay_form.specs.Pieces.{are_pieces}
use Rattle.lay_node.specs.Words.{is_literal, is_name}
use Rattle.lay_node.specs.nodes.Attr.{are_attrs, attr_form}
use Rattle.lay_node.specs.nodes.Facts.{Facts, all_good, forms}
use Rattle.lay_node.specs.nodes.Patterns.{PatFacts, all_pats_good, bound_form, bound_good, dots, end_form, field_facts, first_end, has_ends, is_end, is_value, last_end, may_be_path, may_end, one_form, pat_facts, pat_form, pat_forms, pat_good, rest_form, tuple_form, value_form}
use Rattle.lay_node.specs.nodes.Types.{about_path, colon, deeper, is_several, joined, lone_word}
use Rattle.lay_node.specs.declared.attr.Attr.{Attr}
use Rattle.lay_node.specs.declared.patterns.FieldPat.TheOpen.{FieldPat-F, Pat-F}
use Rattle.lay_node.specs.declared.patterns.PatPlace.{PatPlace}
use Rattle.lay_node.specs.declared.patterns.PatPlace.TheVariants.{Alternatives, Single}
use Rattle.lay_node.specs.declared.patterns.PatValue.{PatValue}
use Rattle.lay_node.specs.declared.patterns.SpanEnd.{SpanEnd}
use Rattle.lay_node.specs.declared.patterns.SpanEnd.TheVariants as span_end
use Rattle.lay_node.specs.declared.token.Name.{Name}
use Rattle.lay_node.specs.declared.tokens.MacroCall.{MacroCall}
use Rattle.lay_node.specs.declared.types.Path.{Path}
use Rattle.lay_node.specs.declared.types.PathStyle.TheVariants.{Code}
use Rattle.lay_map.specs.spelling.Choice.{firm_bits}
use Rattle.lay_map.specs.spelling.Units as units
use Rattle.lay_map.specs.spelling.Units.{words}
use Rattle.lay_map.proofs.BodyRules.{Calms, First, braces_told, calms_part, firm_calms}
use Rattle.lay_map.proofs.FrontRules.{Apart, bar, edge_bar, edge_comma, edge_marks, edges, leads_deep, leads_fixed, leads_group, leads_leaf, leads_part, leads_when, leads_word, left_out, list_leads}
use Rattle.lay_map.proofs.Rules.{All, Firm, NoComma, Plain, Tells, anywhere, brk, ends, firm_deep, firm_fixed, firm_group, firm_leaf, firm_part, fixed, group, leaf, list, part}
use Rattle.lay_map.proofs.nodes.Attrs.{attrs_calm_then, attrs_firm, attrs_lined, attrs_then, call_firm, call_tells, firm_when, firm_word, whenever, word}
use Rattle.lay_map.proofs.nodes.PathFronts.{call_leads, path_firm, path_leads}
use Rattle.lay_map.proofs.nodes.TypeArgs.{Each, Given}
use Rattle.lay_map.proofs.nodes.TypeKinds.{deeper_tells, mutable_tells}
use Rattle.lay_map.proofs.nodes.TypeParts.{joined_by, literal_bare, literal_firm, literal_tells}
use Rattle.lay_map.proofs.nodes.Types.{path_tells}

-- ---- the facts about a pattern

-- It tells its units, and begins with a token that isn't dropped and is neither a bar nor a comma.
pub record PatParts (f : Form) : Type 0 where
  pub tells : Plain f
  pub firm_is : Firm f
  pub apart_is : Apart edges f

pub record PatTells (x : PatFacts) : Type 0 where
  pub go : x.told.good ≡ true → PatParts x.told.form

deeper_parts : {f : Form} → PatParts f → PatParts (deeper f)
deeper_parts k = record { tells = deeper_tells k.tells; firm_is = firm_deep k.firm_is; apart_is = leads_deep k.apart_is }

-- a well formed pattern at a place
good_told : (place : PatPlace) (x : PatFacts) → pat_good place x ≡ true → x.told.good ≡ true
good_told Alternatives x g = g
good_told Single x g = (and_parts x.told.good (not x.several) g).0

pub placed_tells : {Next : List units.Word → Type 0} (place : PatPlace) (x : PatFacts) → PatTells x → pat_good place x ≡ true → Tells Next (pat_form place x)
placed_tells Alternatives x k g =
    let p = k.go g in
    left_out bar (λ w ws n. edge_bar (words (Part x.told.form Done) ++ ws) ((leads_part {f = Done} p.apart_is).go w ws)) (part p.tells ends)
placed_tells Single x k g = anywhere (k.go (good_told Single x g)).tells

pub placed_firm : (x : PatFacts) → PatTells x → pat_good Single x ≡ true → Firm (pat_form Single x)
placed_firm x k g = (k.go (good_told Single x g)).firm_is

pub placed_calm : (place : PatPlace) (x : PatFacts) → PatTells x → pat_good place x ≡ true → Calms (pat_form place x)
placed_calm Alternatives x k g = record { go = λ w b. (calms_part {f = Done} (firm_calms (k.go g).firm_is)).go w b }
placed_calm Single x k g = firm_calms (placed_firm x k g)

pub placed_no_comma : (place : PatPlace) (x : PatFacts) → PatTells x → pat_good place x ≡ true → are_pieces (pat_form place x) ≡ true → (ws : List units.Word)
    → NoComma (words (pat_form place x) ++ ws)
placed_no_comma Alternatives x k g w ws = edge_comma (words (Part x.told.form Done) ++ ws) ((leads_part {f = Done} (k.go g).apart_is).go w ws)
placed_no_comma Single x k g w ws = edge_comma (words x.told.form ++ ws) ((k.go (good_told Single x g)).apart_is.go w ws)

all_tell : (place : PatPlace) (xs : List PatFacts) → Each PatTells xs → all_pats_good place xs ≡ true → All Plain (pat_forms place xs)
all_tell place [] k g = tt
all_tell place (x ∷ xs) k g =
    let n = and_parts (pat_good place x) (all_pats_good place xs) g in
    (placed_tells place x k.0 n.0, all_tell place xs k.1 n.1)

-- ---- several

or_parts : (xs : List PatFacts) → Each PatTells xs → is_several xs && all_pats_good Single xs ≡ true
    → PatParts (I0 (joined (λ f. B (Piece (Operator (codes "|") ∷ Blank ∷ []) f)) (pat_forms Single xs)) Done)
or_parts [] k g = absurd (cc g)
or_parts (x ∷ xs) k g =
    let n = (and_parts (is_several (x ∷ xs)) (all_pats_good Single (x ∷ xs)) g).1 in
    let p = k.0.go (good_told Single x (and_parts (pat_good Single x) (all_pats_good Single xs) n).0) in
    record {
      tells = group false 0 (joined_by (λ f. B (Piece (Operator (codes "|") ∷ Blank ∷ []) f)) (pat_forms Single (x ∷ xs))
          (λ f t. brk (Soft false 1) (fixed (Operator (codes "|") ∷ Blank ∷ []) refl t)) (all_tell Single (x ∷ xs) k n)) ends;
      firm_is = firm_group false 0 (firm_part p.firm_is);
      apart_is = leads_group false 0 (leads_part p.apart_is);
    }

pub or_pat : (xs : List PatFacts) → Each PatTells xs → PatTells (pat_facts (Pat-F.Or xs))
or_pat xs k = record { go = λ g. deeper_parts (or_parts xs k g) }

-- ---- single tokens, values and calls

value_parts : (v : PatValue) → is_value v ≡ true → PatParts (value_form v)
value_parts v h =
    let n = (and_parts (is_literal v.literal.kind v.literal.text) _ h).0 in
    record {
      tells = whenever v.negative (punct char.minus ∷ []) refl (literal_tells v.literal n ends);
      firm_is = firm_when v.negative (punct char.minus ∷ []) refl (literal_firm v.literal n);
      apart_is = leads_when v.negative (punct char.minus ∷ []) (λ ws. refl)
          (leads_leaf v.literal.kind v.literal.text edge_marks (literal_bare v.literal.kind v.literal.text n));
    }

pub value_pat : (v : PatValue) → PatTells (pat_facts (Pat-F.Value v))
value_pat v = record { go = λ g. deeper_parts (value_parts v g) }

pub wild_pat : PatTells (pat_facts Pat-F.Wild)
wild_pat = record {
  go = λ g. deeper_parts (record {
    tells = fixed (Fixed kind.Underscore (codes "_") ∷ []) refl ends;
    firm_is = firm_fixed (Fixed kind.Underscore (codes "_") ∷ []) refl;
    apart_is = leads_fixed (Fixed kind.Underscore (codes "_") ∷ []) (λ ws. refl);
  });
}

pub rest_pat : PatTells (pat_facts Pat-F.Rest)
rest_pat = record {
  go = λ g. deeper_parts (record {
    tells = fixed (Operator (codes "..") ∷ []) refl ends;
    firm_is = firm_fixed (Operator (codes "..") ∷ []) refl;
    apart_is = leads_fixed (Operator (codes "..") ∷ []) (λ ws. refl);
  });
}

pub call_pat : (call : MacroCall) → PatTells (pat_facts (Pat-F.Call call))
call_pat call = record {
  go = λ g. deeper_parts (record { tells = call_tells call g; firm_is = call_firm call g; apart_is = call_leads call edge_marks (λ ws. refl) g });
}

-- ---- paths and names

path_parts : (path : Path) → (about_path path Code).good ≡ true → PatParts (about_path path Code).form
path_parts path g = record {
  tells = path_tells Code path g;
  firm_is = path_firm Code path g;
  apart_is = path_leads Code path edge_marks (λ ws. refl) (λ e ws. refl) g;
}

pub path_pat : (path : Path) → PatTells (pat_facts (Pat-F.Path path))
path_pat path = record { go = λ g. deeper_parts (path_parts path (and_parts (about_path path Code).good (may_be_path (lone_word path)) g).0) }

bound_tells : {Next : List units.Word → Type 0} (of : Option PatFacts) → Given PatTells of → bound_good of ≡ true → Tells Next (bound_form of)
bound_tells None k g = ends
bound_tells (Some x) k g = fixed (Blank ∷ Operator (codes "@") ∷ Blank ∷ []) refl (part (placed_tells Single x k g) ends)

pub bind_pat : (by_ref mutable : Bool) (name : Name) (of : Option PatFacts) → Given PatTells of → PatTells (pat_facts (Pat-F.Bind by_ref mutable name of))
bind_pat by_ref mutable name of k = record {
  go = λ g.
      let n = and_parts (is_name name.raw name.text) (bound_good of) g in
      deeper_parts (record {
        tells = whenever by_ref (keyword (codes "ref") ∷ Blank ∷ []) refl (mutable_tells mutable (word name.raw name.text (bound_tells of k n.1)));
        firm_is = firm_when by_ref (keyword (codes "ref") ∷ Blank ∷ []) refl
            (firm_when mutable (keyword (codes "mut") ∷ Blank ∷ []) refl (firm_word (bound_form of) name.raw name.text));
        apart_is = leads_when by_ref (keyword (codes "ref") ∷ Blank ∷ []) (λ ws. refl)
            (leads_when mutable (keyword (codes "mut") ∷ Blank ∷ []) (λ ws. refl) (leads_word (bound_form of) name.raw name.text edge_marks));
      });
}

-- ---- spans

end_parts : (e : SpanEnd) → is_end e ≡ true → PatParts (end_form e)
end_parts (span_end.Value v) h = value_parts v h
end_parts (span_end.Path p) h = path_parts p h

last_tells : {Next : List units.Word → Type 0} (end : Option SpanEnd) → may_end end ≡ true → Tells Next (last_end end)
last_tells None h = ends
last_tells (Some e) h = part (end_parts e h).tells ends

dots_parts : {f : Form} (inclusive : Bool) → Plain f → PatParts (Piece (dots inclusive) f)
dots_parts true t = record {
  tells = fixed (dots true) refl t;
  firm_is = firm_fixed (dots true) refl;
  apart_is = leads_fixed (dots true) (λ ws. refl);
}
dots_parts false t = record {
  tells = fixed (dots false) refl t;
  firm_is = firm_fixed (dots false) refl;
  apart_is = leads_fixed (dots false) (λ ws. refl);
}

span_parts : {f : Form} (start : Option SpanEnd) → may_end start ≡ true → PatParts f → PatParts (first_end start f)
span_parts None h k = k
span_parts (Some e) h k =
    let p = end_parts e h in
    record { tells = part p.tells k.tells; firm_is = firm_part p.firm_is; apart_is = leads_part p.apart_is }

pub span_pat : (start : Option SpanEnd) (inclusive : Bool) (end : Option SpanEnd) → PatTells (pat_facts (Pat-F.Span start inclusive end))
span_pat start inclusive end = record {
  go = λ g.
      let n1 = and_parts (has_ends start inclusive end && may_end start) (may_end end) g in
      let n2 = and_parts (has_ends start inclusive end) (may_end start) n1.0 in
      deeper_parts (span_parts start n2.1 (dots_parts inclusive (last_tells end n1.1)));
}

-- ---- references

pub reference_pat : (mutable : Bool) (x : PatFacts) → PatTells x → PatTells (pat_facts (Pat-F.Ref mutable x))
reference_pat mutable x k = record {
  go = λ g.
      let n1 = and_parts (pat_good Single x && not x.span) (mutable || not x.begins_mut) g in
      let n2 = and_parts (pat_good Single x) (not x.span) n1.0 in
      deeper_parts (record {
        tells = fixed (Fixed kind.Punct (codes "&") ∷ []) refl (mutable_tells mutable (part (placed_tells Single x k n2.0) ends));
        firm_is = firm_fixed (Fixed kind.Punct (codes "&") ∷ []) refl;
        apart_is = leads_fixed (Fixed kind.Punct (codes "&") ∷ []) (λ ws. refl);
      });
}

-- ---- fields

-- A well formed field tells its units, and begins with a token that is in one.
pub record FieldTells (x : Facts) : Type 0 where
  pub tells : x.good ≡ true → Plain x.form
  pub calm_is : x.good ≡ true → Calms x.form

pub named_field : (attrs : List Attr) (name : Name) (x : PatFacts) → PatTells x → FieldTells (field_facts (FieldPat-F.Named attrs name x))
named_field attrs name x k = record {
  tells = λ g.
      let n1 = and_parts (are_attrs false attrs && is_name name.raw name.text) (pat_good Alternatives x) g in
      let n2 = and_parts (are_attrs false attrs) (is_name name.raw name.text) n1.0 in
      attrs_then (map attr_form attrs) (attrs_lined false attrs n2.0)
      (word name.raw name.text (fixed colon refl (part (placed_tells Alternatives x k n1.1) ends)));
  calm_is = λ g. attrs_calm_then (map attr_form attrs) (attrs_firm attrs) (firm_calms (firm_word _ name.raw name.text));
}

pub index_field : (attrs : List Attr) (index : List ℕ) (x : PatFacts) → PatTells x → FieldTells (field_facts (FieldPat-F.Index attrs index x))
index_field attrs index x k = record {
  tells = λ g.
      let n = and_parts (are_attrs false attrs) (pat_good Alternatives x) g in
      attrs_then (map attr_form attrs) (attrs_lined false attrs n.0)
      (leaf kind.Int index refl (fixed colon refl (part (placed_tells Alternatives x k n.1) ends)));
  calm_is = λ g. attrs_calm_then (map attr_form attrs) (attrs_firm attrs) (firm_calms (firm_leaf kind.Int index refl));
}

pub short_field : (attrs : List Attr) (x : PatFacts) → PatTells x → FieldTells (field_facts (FieldPat-F.Short attrs x))
short_field attrs x k = record {
  tells = λ g.
      let n1 = and_parts (are_attrs false attrs && x.told.good) x.short g in
      let n2 = and_parts (are_attrs false attrs) x.told.good n1.0 in
      attrs_then (map attr_form attrs) (attrs_lined false attrs n2.0) (part (k.go n2.1).tells ends);
  calm_is = λ g.
      let n1 = and_parts (are_attrs false attrs && x.told.good) x.short g in
      let n2 = and_parts (are_attrs false attrs) x.told.good n1.0 in
      attrs_calm_then (map attr_form attrs) (attrs_firm attrs) (calms_part (firm_calms (k.go n2.1).firm_is));
}

with_rest : (xs : List Facts) (rest : Bool) → Each FieldTells xs → all_good xs ≡ true → All Plain (forms xs ++ rest_form rest)
with_rest [] true k g = (fixed (Operator (codes "..") ∷ []) refl ends, tt)
with_rest [] false k g = tt
with_rest (x ∷ xs) rest k g =
    let n = and_parts x.good (all_good xs) g in
    (k.0.tells n.0, with_rest xs rest k.1 n.1)

first_calm : (xs : List Facts) (rest : Bool) → Each FieldTells xs → all_good xs ≡ true → First Calms (forms xs ++ rest_form rest)
first_calm [] true k g = firm_calms (firm_fixed (Operator (codes "..") ∷ []) refl)
first_calm [] false k g = tt
first_calm (x ∷ xs) rest k g = k.0.calm_is (and_parts x.good (all_good xs) g).0

-- ---- what begins with a path

behind_path : {f : Form} (path : Path) → (about_path path Code).good ≡ true → Plain f → PatParts (Part (about_path path Code).form f)
behind_path path g t =
    let p = path_parts path g in
    record { tells = part p.tells t; firm_is = firm_part p.firm_is; apart_is = leads_part p.apart_is }

pub struct_pat : (path : Path) (xs : List Facts) (rest : Bool) → Each FieldTells xs → PatTells (pat_facts (Pat-F.Struct path xs rest))
struct_pat path xs rest k = record {
  go = λ g.
      let n = and_parts (about_path path Code).good (all_good xs) g in
      deeper_parts (behind_path path n.0
      (braces_told (not rest) (forms xs ++ rest_form rest) (with_rest xs rest k n.1) (first_calm xs rest k n.1)));
}

-- ---- lists

-- patterns in parentheses or in brackets
paren_list : {Next : List units.Word → Type 0} (xs : List PatFacts) → Each PatTells xs → all_pats_good Alternatives xs ≡ true
    → Tells Next (comma_list true (opener Paren) (closer Paren) (pat_forms Alternatives xs))
paren_list xs k g = list true (opener Paren) (closer Paren) (pat_forms Alternatives xs) refl refl refl (λ ws. refl) (all_tell Alternatives xs k g)

pub tuple_struct_pat : (path : Path) (xs : List PatFacts) → Each PatTells xs → PatTells (pat_facts (Pat-F.TupleStruct path xs))
tuple_struct_pat path xs k = record {
  go = λ g.
      let n = and_parts (about_path path Code).good (all_pats_good Alternatives xs) g in
      deeper_parts (behind_path path n.0 (paren_list xs k n.1));
}

paren_parts : {f : Form} → Plain f → PatParts (Piece (opener Paren ∷ []) f)
paren_parts t = record {
  tells = fixed (opener Paren ∷ []) refl t;
  firm_is = firm_fixed (opener Paren ∷ []) refl;
  apart_is = leads_fixed (opener Paren ∷ []) (λ ws. refl);
}

one_parts : (rest : Bool) (x : PatFacts) → PatTells x → x.told.good ≡ true → PatParts (one_form rest x)
one_parts true x k g = paren_parts (part (placed_tells Alternatives x k g) (fixed (closer Paren ∷ []) refl ends))
one_parts false x k g = paren_parts (part (placed_tells Alternatives x k g) (fixed (punct char.comma ∷ closer Paren ∷ []) refl ends))

-- a list in delimiters begins with its delimiter
list_firm : (may : Bool) (d : Delim) (es : List Form) → firm_bits (opener d ∷ closer d ∷ []) false ≡ true → firm_bits (opener d ∷ []) false ≡ true
    → Firm (comma_list may (opener d) (closer d) es)
list_firm may d [] h k = firm_fixed (opener d ∷ closer d ∷ []) h
list_firm may d (e ∷ es) h k = firm_group true 4 (firm_fixed (opener d ∷ []) k)

tuple_parts : (xs : List PatFacts) → Each PatTells xs → all_pats_good Alternatives xs ≡ true → PatParts (tuple_form xs)
tuple_parts [] k g = record {
  tells = fixed (opener Paren ∷ closer Paren ∷ []) refl ends;
  firm_is = firm_fixed (opener Paren ∷ closer Paren ∷ []) refl;
  apart_is = leads_fixed (opener Paren ∷ closer Paren ∷ []) (λ ws. refl);
}
tuple_parts (x ∷ []) k g = one_parts x.rest x k.0 (and_parts x.told.good true g).0
tuple_parts (x ∷ y ∷ xs) k g = record {
  tells = paren_list (x ∷ y ∷ xs) k g;
  firm_is = list_firm true Paren (pat_forms Alternatives (x ∷ y ∷ xs)) refl refl;
  apart_is = list_leads true Paren (pat_forms Alternatives (x ∷ y ∷ xs)) (λ ws. refl);
}

pub tuple_pat : (xs : List PatFacts) → Each PatTells xs → PatTells (pat_facts (Pat-F.Tuple xs))
tuple_pat xs k = record { go = λ g. deeper_parts (tuple_parts xs k g) }

pub paren_pat : (x : PatFacts) → PatTells x → PatTells (pat_facts (Pat-F.Paren x))
paren_pat x k = record {
  go = λ g. deeper_parts (one_parts true x k (and_parts x.told.good (not x.rest) g).0);
}

pub slice_pat : (xs : List PatFacts) → Each PatTells xs → PatTells (pat_facts (Pat-F.Slice xs))
slice_pat xs k = record {
  go = λ g.
      let es = pat_forms Alternatives xs in
      deeper_parts (record {
        tells = list true (opener Bracket) (closer Bracket) es refl refl refl (λ ws. refl) (all_tell Alternatives xs k g);
        firm_is = list_firm true Bracket es refl refl;
        apart_is = list_leads true Bracket es (λ ws. refl);
      });
}
