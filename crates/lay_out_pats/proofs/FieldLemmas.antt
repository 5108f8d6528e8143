-- The streams of alternatives, of attributes on lines of their own, and of fields in braces.
use Rattle.std.proofs.Common.{◌≡◌, ℕ, suc, ◌<◌, ◌==◌, Bool, true, false, not, cond, List, [], ◌∷◌, ◌++◌, map, length, codes, pos, refl, sym, ap, subst, ◌∙◌, append_assoc, append-nil, OnOk, Result}
use Rattle.lay_layout.specs.Machine.{IsNested, opened}
use Rattle.lay_layout.specs.declared.layout.Break.{Break}
use Rattle.lay_layout.specs.declared.layout.Tok.{Tok}
use Rattle.lay_layout.specs.declared.layout.Tok.TheVariants as tok
use Rattle.lay_piece.specs.declared.kind.Delim.TheVariants.{Brace}
use Rattle.lay_piece.specs.declared.kind.Kind.TheVariants as kind
use Rattle.lay_stream.specs.Fed.{Meanings}
use Rattle.lay_stream.proofs.Calls.{opened_append}
use Rattle.lay_form.specs.Form.{Form, Operator, Done, Leaf, Part, Piece, Hard, closer}
use Rattle.lay_form.specs.Layout.{break_of, ends_behind_point}
use Rattle.lay_form.specs.Notation.{B, H, I0, behind_attrs, braces, comma_gap, each, piece}
use Rattle.lay_form.specs.Notation as notation
use Rattle.lay_form.specs.Stream.{fed, stream_of}
use Rattle.lay_node.specs.Words.{leaf_of}
use Rattle.lay_node.specs.nodes.Attr.{attr_form}
use Rattle.lay_node.specs.nodes.Facts.{Facts, forms}
use Rattle.lay_node.specs.nodes.Patterns.{about_field_pat, about_pat, pat_form, rest_form}
use Rattle.lay_node.specs.nodes.Types.{about_path, colon, joined}
use Rattle.lay_node.specs.declared.attr.Attr.{Attr}
use Rattle.lay_node.specs.declared.patterns.FieldPat.{FieldPat}
use Rattle.lay_node.specs.declared.patterns.FieldPat.TheVariants as field
use Rattle.lay_node.specs.declared.patterns.Pat.{Pat}
use Rattle.lay_node.specs.declared.patterns.Pat.TheVariants as pat
use Rattle.lay_node.specs.declared.patterns.PatPlace.TheVariants.{Alternatives, Single}
use Rattle.lay_node.specs.declared.token.Name.{Name}
use Rattle.lay_node.specs.declared.types.Path.{Path}
use Rattle.lay_node.specs.declared.types.PathStyle.TheVariants.{Code}
use Rattle.lay_node.proofs.nodes.PatternsLaws.{field_index_is, field_named_is, field_short_is, pat_struct_is}
use Rattle.lay_out_tokens.proofs.StreamParts.{fed_more, leaf_more}
use Rattle.lay_out_types.specs.Calls.{Adds}
use Rattle.lay_out_pats.specs.PatternRows.{attr_line, bar_between, bar_lead, braces_closed, braces_opened, closing_break, field_told, fields_form}
use Rattle.lay_out_types.specs.Rows.{comma_between, further, row}
use Rattle.lay_out_types.proofs.Adding.{level_behind, on_ok}
use Rattle.lay_out_types.proofs.FormRows.{are_none, comma_leads, each_is, level_form, level_further, level_row, none_is, one_open, part_more}
use Rattle.lay_out_types.proofs.TypeLemmas.{forms_are}
use Rattle.lay_out_pats.proofs.PatternLemmas.{told, told_is}

-- the first one of two
pub chosen : {A : Type 0} (x y : A) (b : Bool) → b ≡ true → x ≡ cond b x y
chosen x y true e = refl
chosen x y false e = cc

-- ---- alternatives

bars_lead : (q : Bool) (f : Form) (more : List Tok) → fed q (bar_lead f) more ≡ bar_between ++ fed false f more
bars_lead true f more = refl
bars_lead false f more = refl

pub alternatives_are : (es : List Form)
    → (tok.Begin false (pos 0) ∷ row [] bar_between es) ++ (tok.End ∷ []) ≡ stream_of (I0 (joined bar_lead es) Done)
alternatives_are [] = refl
alternatives_are (e ∷ es) = ap (λ (s : List Tok). tok.Begin false (pos 0) ∷ s)
    (append_assoc (stream_of e) (further bar_between es) (tok.End ∷ [])
    ∙ ap (λ (s : List Tok). stream_of e ++ s)
    (sym (each_is bar_lead bar_between bars_lead es (ends_behind_point false e) (tok.End ∷ [])))
    ∙ sym (fed_more false e _))

-- Alternatives may be closed after the last one.
pub may_end_alternatives : {S F T : Type 0} {m : Meanings S F} {a b : S} {p q : Result T F} (es : List Form)
    → Adds m p a (tok.Begin false (pos 0) ∷ row [] bar_between es) q b → OnOk q (0 < m.groups b)
may_end_alternatives {m} {a} {p} {q} es h =
    on_ok q (λ x e. (one_open (m.groups a)
    (level_behind p q x h e ∙ level_row bar_between (λ k. refl) es (suc (m.groups a)))).0)

-- ---- attributes

lines_further : (attrs : List Attr)
    → further [] (map attr_line attrs) ≡ stream_of (behind_attrs (map attr_form attrs) Done)
lines_further [] = refl
lines_further (a ∷ attrs) =
    let f = behind_attrs (map attr_form attrs) Done in
    ap (λ (s : List Tok). s ++ further [] (map attr_line attrs)) (sym (part_more (attr_form a) (H Done) (λ q. refl)))
    ∙ append_assoc (stream_of (attr_form a)) (stream_of (H Done)) (further [] (map attr_line attrs))
    ∙ ap (λ (s : List Tok). stream_of (attr_form a) ++ (tok.Break (break_of (Hard false)) ∷ s)) (lines_further attrs)
    ∙ part_more (attr_form a) (H f) (λ q. refl)

pub lines_are : (attrs : List Attr)
    → row [] [] (map attr_line attrs) ≡ stream_of (behind_attrs (map attr_form attrs) Done)
lines_are [] = refl
lines_are (a ∷ attrs) = lines_further (a ∷ attrs)

pub line_is : (a : Attr) → stream_of (attr_form a) ++ (tok.Break (break_of (Hard false)) ∷ []) ≡ stream_of (attr_line a)
line_is a = part_more (attr_form a) (H Done) (λ q. refl)

pub lines_more : (es : List Form) (f : Form)
    → stream_of (behind_attrs es Done) ++ stream_of f ≡ stream_of (behind_attrs es f)
lines_more [] f = refl
lines_more (e ∷ es) f =
    ap (λ (s : List Tok). s ++ stream_of f) (sym (part_more e (H (behind_attrs es Done)) (λ q. refl)))
    ∙ append_assoc (stream_of e) (tok.Break (break_of (Hard false)) ∷ stream_of (behind_attrs es Done)) (stream_of f)
    ∙ ap (λ (s : List Tok). stream_of e ++ (tok.Break (break_of (Hard false)) ∷ s)) (lines_more es f)
    ∙ part_more e (H (behind_attrs es f)) (λ q. refl)

-- ---- fields

-- it is of this kind
field_is : (x y : FieldPat) (facts : Facts) → x ≡ y → about_field_pat y ≡ facts
    → stream_of facts.form ≡ stream_of (about_field_pat x).form
field_is x y facts is e =
    sym (ap (λ (z : FieldPat). stream_of (about_field_pat z).form) is ∙ ap (λ (z : Facts). stream_of z.form) e)

pub named_field : (x : FieldPat) (attrs put : List Attr) (name : Name) (inner : Pat)
    → x ≡ field.Named attrs name inner → put ≡ attrs
    → stream_of (behind_attrs (map attr_form put) Done)
    ++ (stream_of (leaf_of name.raw name.text Done) ++ (tok.Text (codes ": ") ∷ told inner))
    ≡ stream_of (about_field_pat x).form
named_field x attrs put name inner is e =
    let f = Piece colon (Part (pat_form Alternatives (about_pat inner)) Done) in
    rw e (ap (λ (s : List Tok). stream_of (behind_attrs (map attr_form attrs) Done) ++ s)
    (leaf_more name.raw name.text f)
    ∙ lines_more (map attr_form attrs) (leaf_of name.raw name.text f)
    ∙ field_is x (field.Named attrs name inner) _ is (field_named_is attrs name inner))

pub index_field : (x : FieldPat) (attrs put : List Attr) (index text : List ℕ) (inner : Pat)
    → x ≡ field.Index attrs index inner → put ≡ attrs → text ≡ index
    → stream_of (behind_attrs (map attr_form put) Done)
    ++ (tok.Text text ∷ tok.Text (codes ": ") ∷ told inner)
    ≡ stream_of (about_field_pat x).form
index_field x attrs put index text inner is e same =
    let f = Piece colon (Part (pat_form Alternatives (about_pat inner)) Done) in
    rw (e, same) (lines_more (map attr_form attrs) (Leaf kind.Int index f)
    ∙ field_is x (field.Index attrs index inner) _ is (field_index_is attrs index inner))

pub short_field : (x : FieldPat) (attrs put : List Attr) (inner : Pat)
    → x ≡ field.Short attrs inner → put ≡ attrs
    → stream_of (behind_attrs (map attr_form put) Done) ++ told inner ≡ stream_of (about_field_pat x).form
short_field x attrs put inner is e =
    rw e (lines_more (map attr_form attrs) (Part (pat_form Single (about_pat inner)) Done)
    ∙ field_is x (field.Short attrs inner) _ is (field_short_is attrs inner))

-- ---- braces

pub closing_is : (may bare : Bool) (brk : Break) → bare ≡ false → brk ≡ closing_break may
    → tok.Break brk ∷ tok.End ∷ tok.Text (codes "}") ∷ [] ≡ braces_closed may bare
closing_is may bare brk is e = rw (is, e) refl

brace_any : (q : Bool) → fed q (piece (closer Brace ∷ [])) [] ≡ tok.Text (codes "}") ∷ []
brace_any true = refl
brace_any false = refl

last_is : (may q : Bool) (r : Bool)
    → fed q (notation.last_break may 1 Done) (tok.End ∷ fed r (piece (closer Brace ∷ [])) [])
    ≡ tok.Break (closing_break may) ∷ tok.End ∷ tok.Text (codes "}") ∷ []
last_is true q r = ap (λ (s : List Tok). tok.Break (closing_break true) ∷ tok.End ∷ s) (brace_any r)
last_is false q r = ap (λ (s : List Tok). tok.Break (closing_break false) ∷ tok.End ∷ s) (brace_any r)

pub braces_are : (may : Bool) (es : List Form) (bare : Bool) → bare ≡ are_none es
    → row braces_opened comma_between es ++ braces_closed may bare ≡ stream_of (braces may es)
braces_are may [] bare is = rw is refl
braces_are may (e ∷ es) bare is =
    let q = ends_behind_point false e in
    let inside = B (Part e (Part (each comma_gap es) (notation.last_break may 1 Done))) in
    let end : List Tok = tok.Break (closing_break may) ∷ tok.End ∷ tok.Text (codes "}") ∷ [] in
    ap (λ (b : Bool). row braces_opened comma_between (e ∷ es) ++ braces_closed may b) is
    ∙ ap (λ (s : List Tok). braces_opened ++ s)
    (append_assoc (stream_of e) (further comma_between es) end
    ∙ ap (λ (s : List Tok). stream_of e ++ s)
    (ap (λ (s : List Tok). further comma_between es ++ s)
    (sym (last_is may (ends_behind_point q (each comma_gap es)) (ends_behind_point false inside)))
    ∙ sym (each_is comma_gap comma_between comma_leads es q _))
    ∙ sym (fed_more false e _))

further_last : (between : List Tok) (es : List Form) (f : Form)
    → further between es ++ (between ++ stream_of f) ≡ further between (es ++ f ∷ [])
further_last between [] f = ap (λ (s : List Tok). between ++ s) (sym (append-nil (stream_of f)))
further_last between (e ∷ es) f =
    append_assoc between (stream_of e ++ further between es) (between ++ stream_of f)
    ∙ ap (λ (s : List Tok). between ++ s)
    (append_assoc (stream_of e) (further between es) (between ++ stream_of f)
    ∙ ap (λ (s : List Tok). stream_of e ++ s) (further_last between es f))

row_last : (opening between : List Tok) (es : List Form) (bare : Bool) (f : Form) → bare ≡ are_none es
    → row opening between es ++ (cond bare opening between ++ stream_of f) ≡ row opening between (es ++ f ∷ [])
row_last opening between [] bare f is =
    rw is (ap (λ (s : List Tok). opening ++ s) (sym (append-nil (stream_of f))))
row_last opening between (e ∷ es) bare f is =
    rw is (append_assoc opening (stream_of e ++ further between es) (between ++ stream_of f)
    ∙ ap (λ (s : List Tok). opening ++ s)
    (append_assoc (stream_of e) (further between es) (between ++ stream_of f)
    ∙ ap (λ (s : List Tok). stream_of e ++ s) (further_last between es f)))

not_none : (es : List Form) (f : Form) → false ≡ are_none (es ++ f ∷ [])
not_none [] f = refl
not_none (e ∷ es) f = refl

-- the fields, and the `..` after them
pub with_rest : (fields : List FieldPat) (bare rest : Bool) → bare ≡ (length fields == 0) → rest ≡ true
    → row braces_opened comma_between (map field_told fields)
    ++ (cond bare braces_opened comma_between ++ (tok.Text (codes "..") ∷ braces_closed false false))
    ≡ stream_of (fields_form fields rest)
with_rest fields bare rest none is =
    let es = map field_told fields in
    let dots = piece (Operator (codes "..") ∷ []) in
    rw is (ap (λ (s : List Tok). row braces_opened comma_between es ++ s)
    (sym (append_assoc (cond bare braces_opened comma_between) (stream_of dots) (braces_closed false false)))
    ∙ sym (append_assoc (row braces_opened comma_between es) (cond bare braces_opened comma_between ++ stream_of dots)
    (braces_closed false false))
    ∙ ap (λ (s : List Tok). s ++ braces_closed false false)
    (row_last braces_opened comma_between es bare dots (none_is field_told fields bare none))
    ∙ braces_are false (es ++ dots ∷ []) false (not_none es dots))

pub without_rest : (fields : List FieldPat) (bare rest : Bool) → bare ≡ (length fields == 0) → rest ≡ false
    → row braces_opened comma_between (map field_told fields) ++ braces_closed true bare
    ≡ stream_of (fields_form fields rest)
without_rest fields bare rest none is =
    let es = map field_told fields in
    rw is (braces_are true es bare (none_is field_told fields bare none)
    ∙ ap (λ (fs : List Form). stream_of (braces true fs)) (sym (append-nil es)))

braces_any : (may : Bool) (es : List Form) (q : Bool) → fed q (braces may es) [] ≡ stream_of (braces may es)
braces_any may [] true = refl
braces_any may [] false = refl
braces_any may (e ∷ es) true = refl
braces_any may (e ∷ es) false = refl

pub struct_pat : (x : Pat) (path : Path) (fields put : List FieldPat) (rest : Bool) → x ≡ pat.Struct path fields rest
    → put ≡ fields → stream_of (about_path path Code).form ++ stream_of (fields_form put rest) ≡ told x
struct_pat x path fields put rest is e =
    let es = forms (map about_field_pat put) ++ rest_form rest in
    ap (λ (fs : List Form). stream_of (about_path path Code).form
    ++ stream_of (braces (not rest) (fs ++ rest_form rest)))
    (forms_are about_field_pat put)
    ∙ part_more (about_path path Code).form (braces (not rest) es) (braces_any (not rest) es)
    ∙ told_is x (pat.Struct path put rest) _ (is ∙ ap (λ (fs : List FieldPat). pat.Struct path fs rest) (sym e))
    (pat_struct_is path put rest)

-- ---- which groups are open

braces_nested : (may : Bool) (es : List Form) (bare : Bool) (n k : ℕ) → bare ≡ are_none es
    → k ≡ opened (row braces_opened comma_between es) n → IsNested k (braces_closed may bare)
braces_nested may [] bare n k is e = rw is tt
braces_nested may (f ∷ es) bare n k is e = rw is (one_open n
    (e ∙ opened_append (stream_of f) (further comma_between es) (suc n)
    ∙ ap (opened (further comma_between es)) (level_form f (suc n))
    ∙ level_further comma_between (λ m. refl) es (suc n)))

-- Braces may be closed after the fields.
pub may_close_braces : {S F T : Type 0} {m : Meanings S F} {a b : S} {p q : Result T F} (may : Bool) (es : List Form)
    (bare : Bool) → bare ≡ are_none es → Adds m p a (row braces_opened comma_between es) q b
    → OnOk q (IsNested (m.groups b) (braces_closed may bare))
may_close_braces {p} {q} may es bare is h =
    on_ok q (λ x e. braces_nested may es bare _ _ is (level_behind p q x h e))

-- So they may after the `..`.
pub may_close_rest : {S F T : Type 0} {m : Meanings S F} {a b : S} {p q : Result T F} (es : List Form) (bare : Bool)
    → bare ≡ are_none es
    → Adds m p a (row braces_opened comma_between es
    ++ (cond bare braces_opened comma_between ++ (tok.Text (codes "..") ∷ []))) q b
    → OnOk q (IsNested (m.groups b) (braces_closed false false))
may_close_rest {m} {a} {b} {p} {q} es bare is h =
    let dots = piece (Operator (codes "..") ∷ []) in
    may_close_braces false (es ++ dots ∷ []) false (not_none es dots)
    (subst (λ (s : List Tok). Adds m p a s q b) (row_last braces_opened comma_between es bare dots is) h)
