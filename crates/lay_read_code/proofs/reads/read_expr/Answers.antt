use Rattle.std.proofs.Common.{◌∙◌}
use Rattle.std.proofs.lemmas.Result.{err_from_is_err_and}
use Rattle.lay_code.specs.nodes.Code.{about_expr}
use Rattle.lay_code.specs.nodes.Exprs.{ExprFront}
use Rattle.lay_code.specs.reader.Code.{expr_at}
use Rattle.lay_code.specs.declared.exprs.Expr.{Expr}
use Rattle.lay_code.proofs.reader.ExprExact.{exprs_exact}
use Rattle.lay_read_parts.proofs.AtFront.{node_read, none_read}
use Rattle.lay_read_code.proofs.Alone.{expr_lifts}
use Rattle.lay_read_code.proofs.reads.read_expr.Goals as goal

pub returns-in_err-found : goal.returns-in_err-found
returns-in_err-found c =
    let place = c.args.place in
    let p = err_from_is_err_and c.from_residual.result c.from_residual.ensures.1 in
    rw (p.1, p.2) (none_read (expr_at place) (λ (x : Expr). ExprFront place (about_expr x)) (exprs_exact place)
    (expr_lifts place) c.args.depth c.args.at.now c.requires c.new-ahead.result (c.new-ahead.ensures ∙ c.fork.ensures)
    c.in_err-found.field-0.0 c.in_err-found.ensures.read)

pub returns : goal.returns
returns c =
    let place = c.args.place in
    let found = c.in_ok-found.found in
    rw (c.into_cursor.ensures, c.into_inner.ensures) (node_read (expr_at place) (λ (x : Expr). ExprFront place (about_expr x)) (exprs_exact place)
    (expr_lifts place) c.args.depth c.args.at.now c.requires c.new-ahead.result (c.new-ahead.ensures ∙ c.fork.ensures)
    found.node found.need c.expr_ahead.new.at c.in_ok-found.ensures.read)
