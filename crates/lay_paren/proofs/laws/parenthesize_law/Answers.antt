use Rattle.std.proofs.Common.{◌≡◌, ◌≤◌, [], true, not, sym, ap, ◌∙◌}
use Rattle.std.specs.List.{list_all}
use Rattle.lay_form.specs.Pieces.{are_pieces}
use Rattle.lay_code.specs.nodes.Code.{about_expr}
use Rattle.lay_code.specs.nodes.Exprs.{placed}
use Rattle.lay_code.specs.declared.exprs.Expr.{Expr}
use Rattle.lay_code.specs.declared.exprs.Place.{Place}
use Rattle.lay_paren_defs.specs.loose.Loose.{meets_rules}
use Rattle.lay_paren_defs.specs.loose.Slots.{Any}
use Rattle.lay_paren.specs.Made.{Made}
use Rattle.lay_paren.specs.Least.{cuts, least}
use Rattle.lay_paren.proofs.Choice.{all_weaker, any, in_place, refuted, unwritten, written}
use Rattle.lay_paren.proofs.CountedFamily.{all_cut}
use Rattle.lay_paren.proofs.Family.{expr_good}
use Rattle.lay_paren.proofs.PiecesFamily.{pieces_same}
use Rattle.lay_paren.proofs.laws.parenthesize_law.Goals as goal

stands : (x : Expr) (p : Place) → p.level ≤ 14 → meets_rules x ≡ true → placed (about_expr (least x p)) p ≡ true
stands x p low loose = in_place (about_expr (least x p)) p Any ((expr_good x).stands loose p Any low)

-- Neither tree has other tokens than without parentheses.
pieces : (x : Expr) (p : Place) → are_pieces (about_expr (least x p)).form ≡ are_pieces (about_expr x).form
pieces x p =
    sym (pieces_same (least x p)) ∙ ap (λ (y : Expr). are_pieces (about_expr y).form) ((expr_good x).erases p Any) ∙ pieces_same x

needed : (x : Expr) (p : Place) → list_all (λ (y : Expr). not (placed (about_expr y) p)) (cuts x p) ≡ true
needed x p =
    all_weaker (unwritten p Any) (λ (y : Expr). not (placed (about_expr y) p))
    (λ y. refuted (placed (about_expr y) p) (written p Any y) (any (about_expr y) p)) (cuts x p) ((expr_good x).needed p Any tt).needed

keeps : (x : Expr) (p : Place) → placed (about_expr x) p ≡ true → (least x p ≡ x) × (cuts x p ≡ [])
keeps x p h =
    let is = ((expr_good x).needed p Any tt).keeps (any (about_expr x) p h) in
    (ap (λ (m : Made Expr). m.result) is, ap (λ (m : Made Expr). m.cuts) is)

pub returns : goal.returns
returns c = record { stands = stands; pieces = pieces; erased = λ x p. (expr_good x).erases p Any; needed = needed; all_cut = all_cut; kept = keeps }
