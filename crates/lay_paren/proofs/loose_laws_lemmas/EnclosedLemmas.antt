-- A tree is loose exactly where it is written with each part in parentheses.
use Rattle.std.proofs.Common.{◌≡◌, ◌↔◌, ◌+◌, ◌*◌, ◌≤◌, true, false, sym, ap, ◌∙◌, arith}
use Rattle.lay_form.specs.Depth.{least_depth}
use Rattle.lay_form.specs.Pieces.{are_pieces}
use Rattle.lay_code.specs.Written.{Written}
use Rattle.lay_code.specs.nodes.Code.{about_expr}
use Rattle.lay_code.specs.nodes.Exprs.{ExprFacts, placed}
use Rattle.lay_code.specs.nodes.File.{form_of_file}
use Rattle.lay_code.specs.nodes.Places.{FREE}
use Rattle.lay_code.specs.declared.exprs.Expr.{Expr}
use Rattle.lay_code.proofs.nodes.ExprsLaws.{expr_paren_is}
use Rattle.lay_paren_defs.specs.Constant.{constant}
use Rattle.lay_paren_defs.specs.Enclosed.{enclosed, part}
use Rattle.lay_paren_defs.specs.loose.Loose.{Loose, meets_rules}
use Rattle.lay_paren.proofs.PiecesFamily.{pieces_same}
use Rattle.lay_paren.proofs.loose_laws_lemmas.ConstantLemmas.{constant_depth, constant_written}
use Rattle.lay_paren.proofs.loose_laws_lemmas.DepthFamily.{enclosed_deep}
use Rattle.lay_paren.proofs.loose_laws_lemmas.DepthParts.{paren_depth}
use Rattle.lay_paren.proofs.loose_laws_lemmas.Family.{expr_good}
use Rattle.lay_paren.proofs.loose_laws_lemmas.PartLemmas.{free_placed, part_erased}

pub rules : (x : Expr) → meets_rules x ≡ placed (about_expr (part true x)) FREE
rules x =
    sym (ap (λ (F : ExprFacts). placed F FREE) (expr_paren_is (enclosed x)) ∙ free_placed (about_expr (enclosed x)) ∙ (expr_good x).within false)

-- Both trees have the tokens that they have without parentheses.
pub pieces : (x : Expr) → are_pieces (about_expr (part true x)).form ≡ are_pieces (about_expr x).form
pieces x =
    sym (pieces_same (part true x)) ∙ ap (λ (y : Expr). are_pieces (about_expr y).form) (part_erased (x, expr_good x)) ∙ pieces_same x

pub written : (x : Expr) → Loose x ↔ (Written (constant (part true x)) × (least_depth (about_expr x).form ≤ 256))
written x = (
  λ l. ((constant_written (part true x)).1 (sym (rules x) ∙ l.rules, pieces x ∙ l.pieces), l.depth),
  λ w.
      let h = (constant_written (part true x)).0 w.0 in
      record { rules = rules x ∙ h.0; pieces = sym (pieces x) ∙ h.1; depth = w.1 },
)

-- The constant is at most twice as deep as the tree, and two levels more.
pub constant_deep : (x : Expr) → least_depth (form_of_file (constant (part true x))) ≤ 2 * least_depth (about_expr x).form + 2
constant_deep x =
    let whole = constant_depth (part true x) in
    let more = paren_depth (enclosed x) in
    let deep = enclosed_deep x in omega (arith, whole, more, deep)
