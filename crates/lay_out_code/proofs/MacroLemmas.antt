-- The streams of macros among items, and of the heads of foreign blocks.
use Rattle.std.proofs.Common.{◌≡◌, Bool, true, false, cond, List, [], ◌∷◌, ◌++◌, codes, Option, Some, refl, ap, ◌∙◌}
use Rattle.lay_layout.specs.declared.layout.Tok.{Tok}
use Rattle.lay_layout.specs.declared.layout.Tok.TheVariants as tok
use Rattle.lay_piece.specs.declared.kind.Delim.{Delim}
use Rattle.lay_piece.specs.declared.kind.Delim.TheVariants.{Paren, Bracket, Brace}
use Rattle.lay_form.specs.Form.{Form, Done, Piece, keyword}
use Rattle.lay_form.specs.Stream.{stream_of}
use Rattle.lay_node.specs.Words.{leaf_of}
use Rattle.lay_node.specs.nodes.Call.{before_rules, end_form, call_form}
use Rattle.lay_node.specs.nodes.Types.{literal_form}
use Rattle.lay_node.specs.tokens.Lists.{group_form}
use Rattle.lay_node.specs.declared.token.Literal.{Literal}
use Rattle.lay_node.specs.declared.token.Name.{Name}
use Rattle.lay_node.specs.declared.tokens.Group.{Group}
use Rattle.lay_node.specs.declared.tokens.MacroCall.{MacroCall}
use Rattle.lay_code.specs.nodes.Item.{call_item_form, foreign_abi, rules_form}
use Rattle.lay_out_tokens.proofs.StreamParts.{behind_group_is, leaf_more}
use Rattle.lay_out_types.proofs.FormRows.{part_more}
use Rattle.lay_out_heads.proofs.HeadLemmas.{unsafe_word}
use Rattle.lay_out_heads.proofs.Steady.{Steady}
use Rattle.lay_out_code.specs.Parts.{foreign_head}

-- ---- macros

steady_end : (d : Delim) → Steady (end_form d)
steady_end Paren true = refl
steady_end Bracket true = refl
steady_end Brace true = refl
steady_end d false = refl

before_more : (d : Delim) (f : Form) → stream_of (before_rules d Done) ++ stream_of f ≡ stream_of (before_rules d f)
before_more Paren f = refl
before_more Bracket f = refl
before_more Brace f = refl

pub rules_parts : (name : Name) (rules : Group)
    → tok.Text (codes "macro_rules! ") ∷
    (stream_of (leaf_of name.raw name.text Done)
    ++ (stream_of (before_rules rules.delim Done)
    ++ (stream_of (group_form rules Done) ++ stream_of (end_form rules.delim))))
    ≡ stream_of (rules_form name rules)
rules_parts name rules =
    let group = group_form rules (end_form rules.delim) in
    ap (λ (s : List Tok). tok.Text (codes "macro_rules! ") ∷ s)
    (ap (λ (s : List Tok). stream_of (leaf_of name.raw name.text Done) ++ s)
    (ap (λ (s : List Tok). stream_of (before_rules rules.delim Done) ++ s)
    (behind_group_is false rules (end_form rules.delim) (λ q. steady_end rules.delim q))
    ∙ before_more rules.delim group)
    ∙ leaf_more name.raw name.text (before_rules rules.delim group))

pub call_item_parts : (call : MacroCall)
    → stream_of (call_form call) ++ stream_of (end_form call.tokens.delim) ≡ stream_of (call_item_form call)
call_item_parts call = part_more (call_form call) (end_form call.tokens.delim) (steady_end call.tokens.delim)

-- ---- foreign blocks

pub named_abi : (abi : Option Literal) (name : Literal) → abi ≡ Some name
    → tok.Text (codes " ") ∷ stream_of (literal_form name Done) ≡ stream_of (foreign_abi abi)
named_abi abi name is = rw is refl

pub foreign_head_is : (is_unsafe : Bool) (abi : Option Literal)
    → cond is_unsafe (tok.Text (codes "unsafe ") ∷ []) [] ++ (tok.Text (codes "extern") ∷ stream_of (foreign_abi abi))
    ≡ stream_of (foreign_head is_unsafe abi)
foreign_head_is is_unsafe abi = unsafe_word is_unsafe (Piece (keyword (codes "extern") ∷ []) (foreign_abi abi))
