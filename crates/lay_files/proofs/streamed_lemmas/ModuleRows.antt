-- The row of a module.
use Rattle.std.proofs.Common.{◌≡◌, ℕ, suc, ◌<◌, Bool, true, false, List, [], ◌∷◌, ◌++◌, map, codes, refl, sym, ap, ◌∙◌, append_assoc}
use Rattle.lay_layout.specs.Machine.{opened}
use Rattle.lay_layout.specs.declared.layout.Tok.{Tok}
use Rattle.lay_layout.specs.declared.layout.Tok.TheVariants as tok
use Rattle.lay_stream.specs.Fed.{Meanings, Puts}
use Rattle.lay_stream.proofs.Calls.{opened_append}
use Rattle.lay_form.specs.Form.{Form, Done}
use Rattle.lay_form.specs.Notation.{H, behind_attrs, body as form_body, each}
use Rattle.lay_form.specs.Stream.{stream_of}
use Rattle.lay_node.specs.nodes.Attr.{attr_form}
use Rattle.lay_node.specs.nodes.Fields.{blank_if}
use Rattle.lay_node.specs.nodes.Vis.{vis_form}
use Rattle.lay_node.specs.declared.heads.Site.TheVariants.{Module}
use Rattle.lay_node.specs.declared.vis.Vis.{Vis}
use Rattle.lay_code.specs.nodes.Code.{about_item, form_of_item}
use Rattle.lay_code.specs.nodes.CodeFacts.{KindFacts}
use Rattle.lay_code.specs.nodes.Item.{module_head}
use Rattle.lay_code.specs.declared.file.File.{File}
use Rattle.lay_code.proofs.nodes.ItemLaws.{module_is}
use Rattle.lay_out_types.specs.Rows.{further}
use Rattle.lay_out_types.proofs.FormRows.{level_form, one_open}
use Rattle.lay_out_types.proofs.TypeLemmas.{forms_are}
use Rattle.lay_out_heads.specs.FieldRows.{body_closed, body_opened, line}
use Rattle.lay_out_heads.proofs.Rows.{body_is}
use Rattle.lay_out_code.specs.Parts.{head_row, kind_row}
use Rattle.lay_out_code.proofs.OutLemmas.{each_lines, head_body, item_parts}
use Rattle.lay_files.specs.windows.Parts.{module_of, parts_of}
use Rattle.lay_files.specs.declared.windows.heads.Head.{Head}
use Rattle.lay_files.specs.streamed.Through.{bare, closing, empty_module, line_before, line_behind, module_begun, module_row, opening, rows}
use Rattle.lay_files.proofs.streamed_lemmas.Rows.{one_row}

-- ---- the stream of a module

-- its head, and its body
module_stream : (head : Head) (body : File)
    → module_row head ++ stream_of (form_body (blank_if true) [] (parts_of body)) ≡ stream_of (form_of_item (module_of head body))
module_stream head body =
    let before = stream_of (behind_attrs (map attr_form head.attrs) Done) in
    let row = head_row head.vis (module_head head.name) in
    let attrs = map attr_form body.attrs in
    append_assoc before row (stream_of (form_body (blank_if true) [] (parts_of body)))
    ∙ ap (λ (s : List Tok). before ++ s)
    (ap (λ (es : List Form). row ++ stream_of (form_body (blank_if true) [] (attrs ++ es))) (sym (forms_are (about_item Module) body.items))
    ∙ head_body head.vis (module_head head.name) body.attrs body.attrs body.items body.items refl refl
    ∙ ap (λ (k : KindFacts). kind_row head.vis k) (sym (module_is head.name body.attrs body.items)))
    ∙ item_parts (module_of head body) head.attrs refl

-- its row, where these tokens are its body
module_line : (within : Bool) (head : Head) (body : File) (inside : List Tok) → stream_of (form_body (blank_if true) [] (parts_of body)) ≡ inside
    → module_begun within head ++ (inside ++ line_behind within) ≡ rows within (form_of_item (module_of head body) ∷ [])
module_line within head body inside e =
    append_assoc (line_before within) (module_row head) (inside ++ line_behind within)
    ∙ ap (λ (s : List Tok). line_before within ++ s)
    (sym (append_assoc (module_row head) inside (line_behind within))
    ∙ ap (λ (s : List Tok). s ++ line_behind within) (ap (λ (s : List Tok). module_row head ++ s) (sym e) ∙ module_stream head body))
    ∙ one_row within (form_of_item (module_of head body))

pub empty_line : (within : Bool) (head : Head) → empty_module within head ≡ rows within (form_of_item (module_of head bare) ∷ [])
empty_line within head = module_line within head bare (tok.Text (codes " {}") ∷ []) refl

body_stream : (es : List Form) → (es ≡ [] → ⊥) → stream_of (form_body (blank_if true) [] es) ≡ body_opened true ++ (further line es ++ body_closed)
body_stream [] n = absurd (n refl)
body_stream (e ∷ es) n = body_is true e es

pub full_line : (within : Bool) (head : Head) (body : File) → (parts_of body ≡ [] → ⊥)
    → opening within head ++ (rows true (parts_of body) ++ closing within) ≡ rows within (form_of_item (module_of head body) ∷ [])
full_line within head body full =
    let parts = parts_of body in
    let lines = further line parts in
    append_assoc (module_begun within head) (body_opened true) (rows true parts ++ closing within)
    ∙ ap (λ (s : List Tok). module_begun within head ++ (body_opened true ++ s))
    (ap (λ (s : List Tok). s ++ closing within) (each_lines parts) ∙ sym (append_assoc lines body_closed (line_behind within)))
    ∙ module_line within head body (body_opened true ++ (lines ++ body_closed)) (body_stream parts full)

-- ---- which groups are open

level_head : (v : Vis) (f : Form) (n : ℕ) → opened (head_row v f) n ≡ n
level_head v f n =
    opened_append (stream_of (vis_form v)) (stream_of f ++ (tok.End ∷ [])) (suc n)
    ∙ ap (opened (stream_of f ++ (tok.End ∷ []))) (level_form (vis_form v) (suc n))
    ∙ opened_append (stream_of f) (tok.End ∷ []) (suc n)
    ∙ ap (opened (tok.End ∷ [])) (level_form f (suc n))

level_line : (within : Bool) (n : ℕ) → opened (line_before within) n ≡ n
level_line true n = refl
level_line false n = refl

level_opening : (within : Bool) (head : Head) (n : ℕ) → opened (opening within head) n ≡ suc n
level_opening within head n =
    let before = stream_of (behind_attrs (map attr_form head.attrs) Done) in
    let row = head_row head.vis (module_head head.name) in
    opened_append (module_begun within head) (body_opened true) n
    ∙ ap (opened (body_opened true))
    (opened_append (line_before within) (module_row head) n
    ∙ ap (opened (module_row head)) (level_line within n)
    ∙ opened_append before row n
    ∙ ap (opened row) (level_form (behind_attrs (map attr_form head.attrs) Done) n)
    ∙ level_head head.vis (module_head head.name) n)

-- A module may be closed after its parts.
pub may_close : {S F : Type 0} (m : Meanings S F) (a b c : S) (within : Bool) (head : Head) (parts : List Form) → Puts m a (opening within head) b
    → Puts m b (rows true parts) c → 0 < m.groups c
may_close m a b c within head parts p q =
    (one_open (m.groups a)
    (q.level ∙ ap (opened (rows true parts)) (p.level ∙ level_opening within head (m.groups a)) ∙ level_form (each H parts) (suc (m.groups a)))).0
