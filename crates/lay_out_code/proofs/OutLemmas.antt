-- The streams of bodies, of items, and of files.
use Rattle.std.proofs.Common.{◌≡◌, ℕ, suc, ◌<◌, Bool, true, false, cond, List, [], ◌∷◌, ◌++◌, map, length, codes, pos, Option, Some, None, refl, sym, ap, ◌∙◌, append_assoc, append-nil, ◌==◌, ◌&&◌, option_map, OnOk, Result}
use Rattle.std.proofs.Math.Dec.{eqb-suc-zero}
use Rattle.lay_layout.specs.Document.{Document, Empty, stream}
use Rattle.lay_layout.specs.Machine.{opened}
use Rattle.lay_layout.specs.declared.layout.Tok.{Tok}
use Rattle.lay_layout.specs.declared.layout.Tok.TheVariants as tok
use Rattle.lay_stream.specs.Fed.{Meanings}
use Rattle.lay_stream.proofs.Calls.{opened_append}
use Rattle.lay_form.specs.Form.{Form, Done, Hard, Part, Never}
use Rattle.lay_form.specs.Layout.{break_of, document}
use Rattle.lay_form.specs.Notation.{H, behind_attrs, body, each, lines}
use Rattle.lay_form.specs.Stream.{stream_of}
use Rattle.lay_form.proofs.StreamLaws.{stream_is}
use Rattle.lay_node.specs.nodes.Attr.{attr_form}
use Rattle.lay_node.specs.nodes.Fields.{blank_if}
use Rattle.lay_node.specs.nodes.Heads.{HeadFacts, leads, seen, value_head_form}
use Rattle.lay_node.specs.nodes.Vis.{vis_form}
use Rattle.lay_node.specs.nodes.Where.{wheres_before_body}
use Rattle.lay_node.specs.declared.attr.Attr.{Attr}
use Rattle.lay_node.specs.declared.generics.Wheres.{Wheres}
use Rattle.lay_node.specs.declared.heads.Site.TheVariants.{Module}
use Rattle.lay_node.specs.declared.heads.ValueHead.{ValueHead}
use Rattle.lay_node.specs.declared.vis.Vis.{Vis}
use Rattle.lay_code.specs.Out.{behind_shebang, layout_of_file}
use Rattle.lay_code.specs.nodes.Code.{about_expr, about_item, form_of_item, told_of_item, told_of_kind}
use Rattle.lay_code.specs.nodes.CodeFacts.{ItemFacts, KindFacts}
use Rattle.lay_code.specs.nodes.Exprs.{ExprFacts, value_form}
use Rattle.lay_code.specs.nodes.File.{form_of_file}
use Rattle.lay_code.specs.nodes.Item.{item_body, item_forms, kind_form}
use Rattle.lay_code.specs.declared.exprs.Expr.{Expr}
use Rattle.lay_code.specs.declared.file.File.{File}
use Rattle.lay_code.specs.declared.item.Item.{Item}
use Rattle.lay_code.specs.declared.item.ItemKind.{ItemKind}
use Rattle.lay_code.proofs.nodes.ItemLaws.{item_is}
use Rattle.lay_out_tokens.proofs.StreamParts.{fed_more}
use Rattle.lay_out_types.specs.Calls.{Adds}
use Rattle.lay_out_types.specs.Rows.{further, row}
use Rattle.lay_out_types.proofs.Adding.{level_behind, on_ok}
use Rattle.lay_out_pats.proofs.FieldLemmas.{lines_more}
use Rattle.lay_out_types.proofs.FormRows.{each_is, level_form, one_open, part_more}
use Rattle.lay_out_types.proofs.TypeLemmas.{forms_are}
use Rattle.lay_out_heads.specs.FieldRows.{body_closed, body_opened, line}
use Rattle.lay_out_heads.proofs.Rows.{body_is, seen_is}
use Rattle.lay_out_heads.proofs.Steady.{Steady, steady_part, steady_wheres_body}
use Rattle.lay_out_code.specs.Parts.{head_row, kind_row, no_forms}

-- ---- parts on lines of their own

-- the same newline before each
pub line_before : (b : Bool) (s : List Tok) → line ++ s ≡ cond b line line ++ s
line_before true s = refl
line_before false s = refl

pub each_lines : (es : List Form) → stream_of (each H es) ≡ further line es
each_lines es = each_is H line (λ q f more. refl) es false [] ∙ append-nil (further line es)

pub lines_put : (es : List Form) → row line line es ≡ stream_of (each H es)
lines_put [] = refl
lines_put (e ∷ es) = sym (each_lines (e ∷ es))

pub further_joined : (between : List Tok) (es fs : List Form)
    → further between es ++ further between fs ≡ further between (es ++ fs)
further_joined between [] fs = refl
further_joined between (e ∷ es) fs =
    append_assoc between (stream_of e ++ further between es) (further between fs)
    ∙ ap (λ (s : List Tok). between ++ s)
    (append_assoc (stream_of e) (further between es) (further between fs)
    ∙ ap (λ (s : List Tok). stream_of e ++ s) (further_joined between es fs))

pub lines_joined : (es fs : List Form) → stream_of (each H es) ++ stream_of (each H fs) ≡ further line (es ++ fs)
lines_joined es fs =
    ap (λ (s : List Tok). s ++ stream_of (each H fs)) (each_lines es)
    ∙ ap (λ (s : List Tok). further line es ++ s) (each_lines fs)
    ∙ further_joined line es fs

-- ---- bodies

pub bare_body : (lead : Bool) (es : List Form) (bare : Bool) → bare ≡ no_forms es → bare ≡ true
    → tok.Text (cond lead (codes " {}") (codes "{}")) ∷ [] ≡ stream_of (body (blank_if lead) [] es)
bare_body true [] bare e is = refl
bare_body false [] bare e is = refl
bare_body lead (f ∷ es) bare e is = cc

body_parts : (lead : Bool) (es : List Form) (bare : Bool) → bare ≡ no_forms es → bare ≡ false
    → body_opened lead ++ (further line es ++ body_closed) ≡ stream_of (body (blank_if lead) [] es)
body_parts lead [] bare e is = cc
body_parts lead (f ∷ es) bare e is = sym (body_is lead f es)

pub full_body : (lead : Bool) (es fs : List Form) (bare : Bool) → bare ≡ no_forms (es ++ fs) → bare ≡ false
    → body_opened lead ++ (stream_of (each H es) ++ (stream_of (each H fs) ++ body_closed))
    ≡ stream_of (body (blank_if lead) [] (es ++ fs))
full_body lead es fs bare e is =
    ap (λ (s : List Tok). body_opened lead ++ s)
    (sym (append_assoc (stream_of (each H es)) (stream_of (each H fs)) body_closed)
    ∙ ap (λ (s : List Tok). s ++ body_closed) (lines_joined es fs))
    ∙ body_parts lead (es ++ fs) bare e is

body_open : (lead : Bool) (e f : Form) (n : ℕ) → opened (body_opened lead ++ (stream_of e ++ stream_of f)) n ≡ suc n
body_open lead e f n =
    opened_append (stream_of e) (stream_of f) (suc n)
    ∙ ap (opened (stream_of f)) (level_form e (suc n))
    ∙ level_form f (suc n)

-- A body may be closed after its parts.
pub may_close_body : {S F T : Type 0} {m : Meanings S F} {a b : S} {p q : Result T F} (lead : Bool) (e f : Form)
    → Adds m p a (body_opened lead ++ (stream_of e ++ stream_of f)) q b → OnOk q (0 < m.groups b)
may_close_body {m} {a} {p} {q} lead e f h =
    on_ok q (λ x is. (one_open (m.groups a) (level_behind p q x h is ∙ body_open lead e f (m.groups a))).0)

-- whether nothing stands in a body
pub bare_is : {A : Type 0} (form : A → Form) (attrs : List Attr) (xs : List A) (bare none empty : Bool) → bare ≡ (none && empty)
    → none ≡ (length attrs == 0) → empty ≡ (length xs == 0) → bare ≡ no_forms (map attr_form attrs ++ map form xs)
bare_is form attrs xs bare none empty e n m = rw (e, n, m) (by attrs xs)
  where
    by : (bs : List Attr) (ys : List _) → ((length bs == 0) && (length ys == 0)) ≡ no_forms (map attr_form bs ++ map form ys)
    by [] [] = refl
    by [] (y ∷ ys) = eqb-suc-zero (length ys)
    by (b ∷ bs) ys = ap (λ (c : Bool). c && (length ys == 0)) (eqb-suc-zero (length bs))

steady_body : (lead : Bool) (es : List Form) → Steady (body (blank_if lead) [] es)
steady_body true [] true = refl
steady_body false [] true = refl
steady_body true (e ∷ es) true = refl
steady_body false (e ∷ es) true = refl
steady_body lead es false = refl

-- ---- heads

-- A head after its visibility, and what follows it.
pub headed : (v : Vis) (x : HeadFacts) → Steady x.tail → head_row v x.head ++ stream_of x.tail ≡ stream_of (seen v x)
headed v x any =
    let end : List Tok = tok.End ∷ [] in
    ap (λ (s : List Tok). tok.Begin false (pos 0) ∷ s)
    (append_assoc (stream_of (vis_form v)) (stream_of x.head ++ end) (stream_of x.tail)
    ∙ ap (λ (s : List Tok). stream_of (vis_form v) ++ s) (append_assoc (stream_of x.head) end (stream_of x.tail)))
    ∙ seen_is v x any

pub steady_value : (value : Option ExprFacts) → Steady (value_form value)
steady_value None q = refl
steady_value (Some x) true = refl
steady_value (Some x) false = refl

-- The head of a constant or a static, and its value.
pub valued_head : (head : ValueHead) (value : Option ExprFacts)
    → stream_of (value_head_form head) ++ stream_of (value_form value)
    ≡ stream_of (Part (value_head_form head) (value_form value))
valued_head head value = part_more (value_head_form head) (value_form value) (steady_value value)

-- A value that is there, after its `=`.
pub some_value : (value : Option Expr) (x : Expr) → value ≡ Some x
    → tok.Text (codes " = ") ∷ tok.Break (break_of Never) ∷ stream_of (about_expr x).form ≡ stream_of (value_form (option_map about_expr value))
some_value value x is = rw is refl

-- an item that is of this kind
pub kind_of : {k made : ItemKind} {x : KindFacts} (v : Vis) → k ≡ made → told_of_kind made ≡ x
    → kind_row v x ≡ kind_row v (told_of_kind k)
kind_of v is told =
    sym (ap (λ (y : ItemKind). kind_row v (told_of_kind y)) is ∙ ap (λ (y : KindFacts). kind_row v y) told)

item_forms_are : (items : List Item) → map form_of_item items ≡ item_forms (map told_of_item items)
item_forms_are [] = refl
item_forms_are (x ∷ items) = ap (λ (es : List Form). form_of_item x ∷ es) (item_forms_are items)

body_form : (lead : Bool) (attrs put : List Attr) (items puts : List Item) → put ≡ attrs → puts ≡ items
    → body (blank_if lead) [] (map attr_form put ++ map form_of_item puts)
    ≡ item_body lead attrs (map told_of_item items)
body_form lead attrs put items puts same sames =
    rw (same, sames) (ap (λ (es : List Form). body (blank_if lead) [] (map attr_form attrs ++ es)) (item_forms_are items))

-- a head, and a body
pub head_body : (v : Vis) (head : Form) (attrs put : List Attr) (items puts : List Item) → put ≡ attrs
    → puts ≡ items
    → head_row v head ++ stream_of (body (blank_if true) [] (map attr_form put ++ map form_of_item puts))
    ≡ stream_of (kind_form v (Some head) (item_body true attrs (map told_of_item items)))
head_body v head attrs put items puts same sames =
    let tail = item_body true attrs (map told_of_item items) in
    ap (λ (f : Form). head_row v head ++ stream_of f) (body_form true attrs put items puts same sames)
    ∙ headed v (record { head = head; tail = tail; good = true })
    (steady_body true (map attr_form attrs ++ item_forms (map told_of_item items)))

-- a head, a where clause, and a body
pub clause_body : (v : Vis) (head : Form) (wheres : Wheres) (lead : Bool) (attrs put : List Attr)
    (items puts : List Item) → lead ≡ leads wheres → put ≡ attrs → puts ≡ items
    → (head_row v head ++ stream_of (wheres_before_body wheres))
    ++ stream_of (body (blank_if lead) [] (map attr_form put ++ map form_of_item puts))
    ≡ stream_of (kind_form v (Some head)
    (Part (wheres_before_body wheres) (item_body (leads wheres) attrs (map told_of_item items))))
clause_body v head wheres lead attrs put items puts is same sames =
    let clause = wheres_before_body wheres in
    let braces = item_body (leads wheres) attrs (map told_of_item items) in
    let steady = steady_body (leads wheres) (map attr_form attrs ++ item_forms (map told_of_item items)) in
    ap (λ (b : Bool). (head_row v head ++ stream_of clause)
    ++ stream_of (body (blank_if b) [] (map attr_form put ++ map form_of_item puts))) is
    ∙ ap (λ (f : Form). (head_row v head ++ stream_of clause) ++ stream_of f)
    (body_form (leads wheres) attrs put items puts same sames)
    ∙ append_assoc (head_row v head) (stream_of clause) (stream_of braces)
    ∙ ap (λ (s : List Tok). head_row v head ++ s) (part_more clause braces steady)
    ∙ headed v (record { head = head; tail = Part clause braces; good = true })
    (steady_part clause braces (steady_wheres_body wheres) steady)

-- ---- items

pub item_parts : (one : Item) (put : List Attr) → put ≡ one.attrs
    → stream_of (behind_attrs (map attr_form put) Done) ++ kind_row one.vis (told_of_kind one.kind)
    ≡ stream_of (form_of_item one)
item_parts one put same =
    let kind = told_of_kind one.kind in
    rw same (lines_more (map attr_form one.attrs) (Part (kind_form one.vis kind.head kind.tail) Done)
    ∙ sym (ap (λ (x : ItemFacts). stream_of x.form) (item_is one)))

-- ---- files

pub next_own_line : (e : Form) (es : List Form)
    → stream_of e ++ (tok.Break (break_of (Hard false)) ∷ stream_of (lines es)) ≡ stream_of (lines (e ∷ es))
next_own_line e es = sym (fed_more false e (tok.Break (break_of (Hard false)) ∷ stream_of (lines es)))

own_lines_joined : (es fs : List Form)
    → stream_of (behind_attrs es Done) ++ stream_of (lines fs) ≡ stream_of (lines (es ++ fs))
own_lines_joined [] fs = refl
own_lines_joined (e ∷ es) fs =
    let brk : List Tok = tok.Break (break_of (Hard false)) ∷ stream_of (behind_attrs es Done) in
    ap (λ (s : List Tok). s ++ stream_of (lines fs)) (fed_more false e brk)
    ∙ append_assoc (stream_of e) brk (stream_of (lines fs))
    ∙ ap (λ (s : List Tok). stream_of e ++ (tok.Break (break_of (Hard false)) ∷ s)) (own_lines_joined es fs)
    ∙ next_own_line e (es ++ fs)

behind_line : (first : Option (List ℕ)) (d : Document)
    → stream (behind_shebang first Empty) ++ stream d ≡ stream (behind_shebang first d)
behind_line None d = refl
behind_line (Some text) d = refl

pub file_parts : (file : File) (attrs : List Attr) (items : List Item) → attrs ≡ file.attrs → items ≡ file.items
    → stream (behind_shebang file.shebang Empty)
    ++ (stream_of (behind_attrs (map attr_form attrs) Done) ++ stream_of (lines (map form_of_item items)))
    ≡ stream (layout_of_file file)
file_parts file attrs items same sames =
    rw (same, sames) (ap (λ (s : List Tok). stream (behind_shebang file.shebang Empty) ++ s)
    (own_lines_joined (map attr_form file.attrs) (map form_of_item file.items)
    ∙ ap (λ (es : List Form). stream_of (lines (map attr_form file.attrs ++ es))) (forms_are (about_item Module) file.items)
    ∙ sym (stream_is (form_of_file file)))
    ∙ behind_line file.shebang (document (form_of_file file)))
