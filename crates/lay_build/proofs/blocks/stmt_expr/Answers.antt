use Rattle.std.proofs.Common.{ℕ, ◌+◌, ap, subst, arith}
use Rattle.lay_code.specs.declared.blocks.Stmt.{Stmt}
use Rattle.lay_code.specs.declared.exprs.Expr.{Expr}
use Rattle.lay_build_types.specs.Kinds.{IsStmt, form_of_stmt}
use Rattle.lay_build_types.proofs.AnswerLemmas.{Is, part_of}
use Rattle.lay_build.specs.Nodes as node
use Rattle.lay_build.proofs.BlockLemmas.{expr_stmt_made, expr_stmt_need}
use Rattle.lay_build.proofs.PartLemmas.{both_is}
use Rattle.lay_build.proofs.blocks.stmt_expr.Goals as goal

pub kept-requires : goal.kept-requires
kept-requires c =
    let x = c.args.expr in
    let parts = c.into_parts-expr.ensures.parts in
    let y = c.into_parts-expr.result in
    let same = ap (λ (p : Expr × ℕ). node.stmt_expr p.0) parts in
    let need = ap (λ (p : Expr × ℕ). p.1) parts in
    let whole = expr_stmt_need x in
    part_of form_of_stmt IsStmt (node.stmt_expr x) (y.1 + 1) c.both.result
    (subst (λ (s : Stmt). Is s (y.1 + 1) c.both.result) same
    (both_is (node.stmt_expr y.0) (y.1 + 1) c.expr_stmt.result c.both.result c.expr_stmt.ensures c.both.ensures))
    (omega (arith, need, whole))
    (expr_stmt_made x c.into_parts-expr.ensures.kept)
