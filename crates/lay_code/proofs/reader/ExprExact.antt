-- Expressions are read exactly where they stand.
use Rattle.std.proofs.Common.{◌≡◌, ℕ, drop}
use Rattle.lay_node.specs.Ahead.{Tokens}
use Rattle.lay_node.specs.reader.Exact.{Exact}
use Rattle.lay_node.proofs.reader.Exact.{one_by_reading}
use Rattle.lay_code.specs.nodes.Code.{about_expr}
use Rattle.lay_code.specs.nodes.Exprs.{ExprFront}
use Rattle.lay_code.specs.reader.Code.{expr_at}
use Rattle.lay_code.specs.declared.exprs.Expr.{Expr}
use Rattle.lay_code.specs.declared.exprs.Place.{Place}
use Rattle.lay_code.proofs.reader.CodeComplete.{expr_read}
use Rattle.lay_code.proofs.reader.CodeSound.{exprs_stand}
use Rattle.lay_code.proofs.reader.FrontsHeld.{fronts}

-- What is read stands there, and what stands there is read.
pub exprs_exact : (place : Place) → Exact (expr_at place) (λ (x : Expr). ExprFront place (about_expr x))
exprs_exact place = record {
  sound = exprs_stand place;
  complete = λ x ts n depth f budget h. expr_read fronts place x depth budget ts (drop n ts) h f.1 f.2 f.3;
}

-- So at most one expression and one count of tokens fit.
pub one_expr : (place : Place) (node other : Expr) (ts : Tokens) (n m depth : ℕ)
    → ExprFront place (about_expr node) ts n depth → ExprFront place (about_expr other) ts m depth → (node ≡ other) × (n ≡ m)
one_expr place = one_by_reading (λ (x : Expr). ExprFront place (about_expr x)) (expr_at place) (λ x ts n depth f. f.0) (exprs_exact place)
