-- The streams of fields in braces, and of a head with what follows it.
use Rattle.std.proofs.Common.{◌≡◌, ℕ, suc, ◌<◌, Bool, true, false, List, [], ◌∷◌, ◌++◌, codes, pos, refl, sym, ap, ◌∙◌, append_assoc, append-nil, OnOk, Result}
use Rattle.lay_layout.specs.Machine.{IsNested, opened}
use Rattle.lay_layout.specs.declared.layout.Tok.{Tok}
use Rattle.lay_layout.specs.declared.layout.Tok.TheVariants as tok
use Rattle.lay_stream.specs.Fed.{Meanings}
use Rattle.lay_stream.proofs.Calls.{opened_append}
use Rattle.lay_form.specs.Form.{Form, Done, Optional, Part, comma}
use Rattle.lay_form.specs.Layout.{ends_behind_point}
use Rattle.lay_form.specs.Notation.{H, body, fields, piece, with_commas}
use Rattle.lay_form.specs.Stream.{fed, stream_of}
use Rattle.lay_node.specs.nodes.Fields.{blank_if}
use Rattle.lay_node.specs.nodes.Heads.{HeadFacts, seen}
use Rattle.lay_node.specs.nodes.Vis.{vis_form}
use Rattle.lay_node.specs.declared.vis.Vis.{Vis}
use Rattle.lay_node.specs.declared.vis.Vis.TheVariants as vis
use Rattle.lay_out_tokens.proofs.StreamParts.{fed_more}
use Rattle.lay_out_types.specs.Calls.{Adds}
use Rattle.lay_out_types.specs.Rows.{further, row}
use Rattle.lay_out_types.proofs.Adding.{level_behind, on_ok}
use Rattle.lay_out_types.proofs.FormRows.{are_none, each_is, level_form, level_further, one_open, part_more}
use Rattle.lay_out_heads.specs.FieldRows.{body_closed, body_opened, fields_between, fields_closed, fields_opened, line}
use Rattle.lay_out_heads.proofs.Steady.{Steady}

-- ---- parts in braces

comma_is : (e : Form) → stream_of e ++ (tok.Text (codes ",") ∷ []) ≡ stream_of (Part e (piece comma))
comma_is e = part_more e (piece comma) any
  where
    any : Steady (piece comma)
    any true = refl
    any false = refl

last_comma_is : (e : Form) → stream_of e ++ (tok.Text (codes ",") ∷ []) ≡ stream_of (Part e (Optional true comma Done))
last_comma_is e = part_more e (Optional true comma Done) any
  where
    any : Steady (Optional true comma Done)
    any true = refl
    any false = refl

-- Each stands after a newline, with a comma after it.
lines_are : (e : Form) (es : List Form)
    → further line (with_commas (e ∷ es))
    ≡ line ++ (stream_of e ++ (further fields_between es ++ (tok.Text (codes ",") ∷ [])))
lines_are e [] =
    ap (λ (s : List Tok). line ++ s) (append-nil _ ∙ sym (last_comma_is e))
lines_are e (f ∷ es) =
    let end : List Tok = tok.Text (codes ",") ∷ [] in
    ap (λ (s : List Tok). line ++ s)
    (ap (λ (s : List Tok). s ++ further line (with_commas (f ∷ es))) (sym (comma_is e))
    ∙ append_assoc (stream_of e) (tok.Text (codes ",") ∷ []) (further line (with_commas (f ∷ es)))
    ∙ ap (λ (s : List Tok). stream_of e ++ (tok.Text (codes ",") ∷ s)) (lines_are f es)
    ∙ ap (λ (s : List Tok). stream_of e ++ (fields_between ++ s))
    (sym (append_assoc (stream_of f) (further fields_between es) end)))

pub body_is : (lead : Bool) (w : Form) (ws : List Form)
    → stream_of (body (blank_if lead) [] (w ∷ ws)) ≡ body_opened lead ++ (further line (w ∷ ws) ++ body_closed)
body_is true w ws = ap (λ (s : List Tok). body_opened true ++ s) (each_is H line (λ q f more. refl) (w ∷ ws) false body_closed)
body_is false w ws = ap (λ (s : List Tok). body_opened false ++ s) (each_is H line (λ q f more. refl) (w ∷ ws) false body_closed)

whole : (lead : Bool) (e : Form) (es : List Form)
    → stream_of (fields (blank_if lead) (e ∷ es)) ≡ body_opened lead ++ (further line (with_commas (e ∷ es)) ++ body_closed)
whole lead e [] = body_is lead (Part e (Optional true comma Done)) []
whole lead e (f ∷ es) = body_is lead (Part e (piece comma)) (with_commas (f ∷ es))

-- A part, and further ones, up to what closes the braces.
part_lines : (e : Form) (es : List Form)
    → further line (with_commas (e ∷ es)) ++ body_closed
    ≡ line ++ (stream_of e ++ (further fields_between es ++ (tok.Text (codes ",") ∷ body_closed)))
part_lines e es =
    let end : List Tok = tok.Text (codes ",") ∷ [] in
    ap (λ (s : List Tok). s ++ body_closed) (lines_are e es)
    ∙ ap (λ (s : List Tok). line ++ s)
    (append_assoc (stream_of e) (further fields_between es ++ end) body_closed
    ∙ ap (λ (s : List Tok). stream_of e ++ s) (append_assoc (further fields_between es) end body_closed))

pub braces_are : (lead : Bool) (es : List Form) (bare : Bool) → bare ≡ are_none es
    → row (fields_opened lead) fields_between es ++ fields_closed lead bare ≡ stream_of (fields (blank_if lead) es)
braces_are true [] bare is = rw is refl
braces_are false [] bare is = rw is refl
braces_are lead (e ∷ es) bare is =
    ap (λ (b : Bool). row (fields_opened lead) fields_between (e ∷ es) ++ fields_closed lead b) is
    ∙ ap (λ (s : List Tok). fields_opened lead ++ s)
    (append_assoc (stream_of e) (further fields_between es) (tok.Text (codes ",") ∷ body_closed))
    ∙ ap (λ (s : List Tok). body_opened lead ++ s) (sym (part_lines e es))
    ∙ sym (whole lead e es)

braces_nested : (lead : Bool) (es : List Form) (bare : Bool) (n k : ℕ) → bare ≡ are_none es
    → k ≡ opened (row (fields_opened lead) fields_between es) n → IsNested k (fields_closed lead bare)
braces_nested lead [] bare n k is e = rw is tt
braces_nested lead (f ∷ es) bare n k is e = rw is (one_open n
    (e ∙ opened_append (stream_of f) (further fields_between es) (suc n)
    ∙ ap (opened (further fields_between es)) (level_form f (suc n))
    ∙ level_further fields_between (λ m. refl) es (suc n)))

-- Braces may be closed after their parts.
pub may_close_braces : {S F T : Type 0} {m : Meanings S F} {a b : S} {p q : Result T F} (lead : Bool) (es : List Form)
    (bare : Bool) → bare ≡ are_none es → Adds m p a (row (fields_opened lead) fields_between es) q b
    → OnOk q (IsNested (m.groups b) (fields_closed lead bare))
may_close_braces {p} {q} lead es bare is h =
    on_ok q (λ x e. braces_nested lead es bare _ _ is (level_behind p q x h e))

-- ---- what follows a visibility, and heads

ends_plain : (v : Vis) → ends_behind_point false (vis_form v) ≡ false
ends_plain vis.Inherited = refl
ends_plain vis.Public = refl
ends_plain vis.Crate = refl
ends_plain vis.Own = refl
ends_plain vis.Super = refl
ends_plain (vis.In path) = refl

pub behind_vis : (v : Vis) (f : Form) → stream_of (vis_form v) ++ stream_of f ≡ stream_of (Part (vis_form v) f)
behind_vis v f =
    sym (fed_more false (vis_form v) (stream_of f))
    ∙ ap (λ (q : Bool). fed false (vis_form v) (fed q f [])) (sym (ends_plain v))

pub seen_is : (v : Vis) (x : HeadFacts) → Steady x.tail
    → (tok.Begin false (pos 0) ∷ stream_of (vis_form v)) ++ (stream_of x.head ++ (tok.End ∷ stream_of x.tail))
    ≡ stream_of (seen v x)
seen_is v x any =
    let head = Part (vis_form v) x.head in
    let point = ends_behind_point false head in
    ap (λ (s : List Tok). tok.Begin false (pos 0) ∷ s)
    (sym (append_assoc (stream_of (vis_form v)) (stream_of x.head) (tok.End ∷ stream_of x.tail))
    ∙ ap (λ (s : List Tok). s ++ (tok.End ∷ stream_of x.tail)) (behind_vis v x.head)
    ∙ ap (λ (s : List Tok). stream_of head ++ (tok.End ∷ s)) (sym (any point))
    ∙ sym (fed_more false head (tok.End ∷ fed point x.tail [])))

head_opened : (v : Vis) (f : Form) (n : ℕ)
    → opened ((tok.Begin false (pos 0) ∷ stream_of (vis_form v)) ++ stream_of f) n ≡ suc n
head_opened v f n =
    opened_append (stream_of (vis_form v)) (stream_of f) (suc n)
    ∙ ap (opened (stream_of f)) (level_form (vis_form v) (suc n))
    ∙ level_form f (suc n)

-- The group of a head may be closed after it.
pub may_end_head : {S F T : Type 0} {m : Meanings S F} {a b : S} {p q : Result T F} (v : Vis) (f : Form)
    → Adds m p a ((tok.Begin false (pos 0) ∷ stream_of (vis_form v)) ++ stream_of f) q b → OnOk q (0 < m.groups b)
may_end_head {m} {a} {p} {q} v f h =
    on_ok q (λ x e. (one_open (m.groups a) (level_behind p q x h e ∙ head_opened v f (m.groups a))).0)
