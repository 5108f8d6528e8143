-- The file of one constant can be written exactly where its value stands where anything may stand, and its tokens are pieces.
use Rattle.std.proofs.Common.{◌≡◌, ◌↔◌, ◌+◌, codes, max, Bool, true, false, ◌&&◌, [], Some, IsTrue, refl, sym, ap, ◌∙◌, arith}
use Rattle.std.specs.Str.{chars, is_utf8}
use Rattle.lay_piece.specs.Forms.{has_form}
use Rattle.lay_piece.specs.declared.kind.Kind.TheVariants.{Underscore}
use Rattle.lay_form.specs.Depth.{least_depth}
use Rattle.lay_form.specs.Pieces.{are_pieces, is_text_of}
use Rattle.lay_node.specs.declared.heads.ValueHead.{ValueHead}
use Rattle.lay_node.specs.declared.heads.ValueHead.TheVariants as head
use Rattle.lay_node.specs.declared.token.GivenName.TheVariants as given
use Rattle.lay_node.specs.declared.types.Ty.TheVariants as ty
use Rattle.lay_node.specs.declared.vis.Vis.TheVariants as vis
use Rattle.lay_node.proofs.nodes.TypesLaws.{type_tuple_is}
use Rattle.lay_code.specs.Written.{Written}
use Rattle.lay_code.specs.nodes.Code.{about_expr, told_of_item}
use Rattle.lay_code.specs.nodes.CodeFacts.{ItemFacts, KindFacts}
use Rattle.lay_code.specs.nodes.Exprs.{placed}
use Rattle.lay_code.specs.nodes.File.{form_of_file, is_normal}
use Rattle.lay_code.specs.nodes.Item.{item_facts, kind_facts}
use Rattle.lay_code.specs.nodes.Places.{FREE}
use Rattle.lay_code.specs.declared.blocks.Stmt.TheOpen.{ItemKind-F}
use Rattle.lay_code.specs.declared.exprs.Expr.{Expr}
use Rattle.lay_code.proofs.nodes.ItemLaws.{item_is, value_is}
use Rattle.lay_paren_defs.specs.Constant.{constant, constant_item}

abbrev unit_head : ValueHead
unit_head = head.Const given.Underscore (ty.Tuple [])

abbrev told_kind : Expr → KindFacts
told_kind x = kind_facts (ItemKind-F.Value unit_head (Some (about_expr x)))

abbrev told_constant : Expr → ItemFacts
told_constant x = item_facts (record { attrs = []; vis = vis.Inherited; kind = told_kind x })

constant_told : (x : Expr) → told_of_item (constant_item x) ≡ told_constant x
constant_told x =
    item_is (constant_item x)
    ∙ ap (λ (k : KindFacts). item_facts (record { attrs = []; vis = vis.Inherited; kind = k })) (value_is unit_head (Some x))

normal_is : (x : Expr) → is_normal (constant x) ≡ placed (about_expr x) FREE
normal_is x = rw (constant_told x, type_tuple_is []) (by (placed (about_expr x) FREE))
  where
    by : (a : Bool) → (a && true) ≡ a
    by true = refl
    by false = refl

underscore : is_text_of Underscore (codes "_") ≡ true
unfolding is_text_of has_form is_utf8 chars lib.Utf8.encode
underscore = refl

pieces_are : (x : Expr) → are_pieces (form_of_file (constant x)) ≡ are_pieces (about_expr x).form
pieces_are x = rw (constant_told x, type_tuple_is [], underscore) (by (are_pieces (about_expr x).form))
  where
    by : (a : Bool) → (a && true && true && true && true && true) ≡ a
    by true = refl
    by false = refl

pub constant_written : (x : Expr) → Written (constant x) ↔ (IsTrue (placed (about_expr x) FREE) × IsTrue (are_pieces (about_expr x).form))
constant_written x = (
  λ w. (sym (normal_is x) ∙ w.normal, sym (pieces_are x) ∙ w.pieces),
  λ h. record { shebang = refl; normal = normal_is x ∙ h.0; pieces = pieces_are x ∙ h.1 },
)

pub constant_depth : (x : Expr) → least_depth (form_of_file (constant x)) ≡ max 1 (least_depth (about_expr x).form) + 1
constant_depth x = rw (constant_told x, type_tuple_is []) (omega arith)
