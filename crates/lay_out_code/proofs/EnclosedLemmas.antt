-- The stream of a file of one constant.
use Rattle.std.proofs.Common.{◌≡◌, ◌<◌, suc, List, [], ◌∷◌, ◌++◌, codes, pos, Some, false, refl, sym, ap, ◌∙◌, append_assoc, OnOk, Result}
use Rattle.lay_layout.specs.Document.{stream}
use Rattle.lay_layout.specs.declared.layout.Tok.{Tok}
use Rattle.lay_layout.specs.declared.layout.Tok.TheVariants as tok
use Rattle.lay_stream.specs.Fed.{Meanings}
use Rattle.lay_form.specs.Form.{Blank, Done, Form, Hard, Never, Part, Piece, keyword}
use Rattle.lay_form.specs.Layout.{break_of}
use Rattle.lay_form.specs.Stream.{stream_of}
use Rattle.lay_node.specs.nodes.Heads.{value_head_form}
use Rattle.lay_node.specs.nodes.Types.{TypeFacts, colon, given_form}
use Rattle.lay_node.specs.declared.heads.Site.TheVariants.{Module}
use Rattle.lay_node.specs.declared.heads.ValueHead.{ValueHead}
use Rattle.lay_node.specs.declared.heads.ValueHead.TheVariants as head
use Rattle.lay_node.specs.declared.token.GivenName.TheVariants as given
use Rattle.lay_node.specs.declared.types.Ty.TheVariants as ty
use Rattle.lay_node.specs.declared.vis.Vis.TheVariants as vis
use Rattle.lay_node.proofs.nodes.TypesLaws.{type_tuple_is}
use Rattle.lay_code.specs.Out.{layout_of_file}
use Rattle.lay_code.specs.nodes.Code.{about_expr, form_of_item}
use Rattle.lay_code.specs.nodes.Exprs.{value_form}
use Rattle.lay_code.specs.nodes.Item.{about_value}
use Rattle.lay_code.specs.declared.exprs.Expr.{Expr}
use Rattle.lay_code.proofs.nodes.ItemLaws.{value_is}
use Rattle.lay_paren_defs.specs.Constant.{constant, constant_item}
use Rattle.lay_out_types.specs.Calls.{Adds}
use Rattle.lay_out_types.proofs.Adding.{level_behind, on_ok}
use Rattle.lay_out_types.proofs.FormRows.{level_form, one_open}
use Rattle.lay_out_heads.proofs.Steady.{steady_semicolon}
use Rattle.lay_out_code.specs.Parts.{head_row}
use Rattle.lay_out_code.proofs.OutLemmas.{file_parts, headed, item_parts, kind_of, next_own_line, valued_head}

-- what stands before the value, and then the value
abbrev pub constant_row : Form → List Tok
constant_row f =
    tok.Begin false (pos 0) ∷ tok.Text (codes "const ") ∷ tok.Text (codes "_") ∷ tok.Text (codes ": ") ∷ tok.Text (codes "()")
    ∷ tok.Text (codes " = ") ∷ tok.Break (break_of Never) ∷ stream_of f

-- What opens the group of a constant leaves it open.
pub may_end_constant : {S F T : Type 0} {m : Meanings S F} {a b : S} {p q : Result T F} (f : Form)
    → Adds m p a (constant_row f) q b → OnOk q (0 < m.groups b)
may_end_constant {m} {a} {p} {q} f h =
    on_ok q (λ x is. (one_open (m.groups a) (level_behind p q x h is ∙ level_form f (suc (m.groups a)))).0)

-- the head of the constant
abbrev nameless : ValueHead
nameless = head.Const given.Underscore (ty.Tuple [])

nameless_is : tok.Text (codes "const ") ∷ tok.Text (codes "_") ∷ tok.Text (codes ": ") ∷ tok.Text (codes "()") ∷ []
    ≡ stream_of (value_head_form nameless)
nameless_is =
    sym (ap (λ (t : TypeFacts). stream_of
    (Piece (keyword (codes "const") ∷ Blank ∷ []) (given_form given.Underscore (Piece colon (Part t.told.form Done))))) (type_tuple_is []))

abbrev ended : List Tok
ended = tok.Text (codes ";") ∷ []

abbrev own_line : List Tok
own_line = tok.Break (break_of (Hard false)) ∷ []

-- the constant, after its head
row_is : (x : Expr) → constant_row (about_expr x).form ++ (tok.End ∷ [])
    ≡ head_row vis.Inherited (Part (value_head_form nameless) (value_form (Some (about_expr x))))
row_is x =
    let value = value_form (Some (about_expr x)) in
    ap (λ (s : List Tok). tok.Begin false (pos 0) ∷ ((s ++ stream_of value) ++ (tok.End ∷ []))) nameless_is
    ∙ ap (λ (s : List Tok). tok.Begin false (pos 0) ∷ (s ++ (tok.End ∷ []))) (valued_head nameless (Some (about_expr x)))

item_row : (x : Expr) → (constant_row (about_expr x).form ++ (tok.End ∷ [])) ++ ended ≡ stream_of (form_of_item (constant_item x))
item_row x =
    ap (λ (s : List Tok). s ++ ended) (row_is x)
    ∙ headed vis.Inherited (about_value Module nameless (Some (about_expr x))) steady_semicolon
    ∙ kind_of vis.Inherited refl (value_is nameless (Some x))
    ∙ item_parts (constant_item x) [] refl

-- the file
pub constant_file : (x : Expr)
    → constant_row (about_expr x).form ++ (tok.End ∷ tok.Text (codes ";") ∷ tok.Break (break_of (Hard false)) ∷ [])
    ≡ stream (layout_of_file (constant x))
constant_file x =
    let row = constant_row (about_expr x).form in
    sym (append_assoc (row ++ (tok.End ∷ [])) ended own_line
    ∙ append_assoc row (tok.End ∷ []) (ended ++ own_line))
    ∙ ap (λ (s : List Tok). s ++ own_line) (item_row x)
    ∙ next_own_line (form_of_item (constant_item x)) []
    ∙ file_parts (constant x) [] (constant_item x ∷ []) refl refl
