use Rattle.std.proofs.Common.{ap, ◌∙◌}
use Rattle.lay_code.specs.nodes.Code.{about_expr}
use Rattle.lay_code.specs.declared.exprs.Expr.{Expr}
use Rattle.lay_ops.proofs.BodyFacts.{of_structless}
use Rattle.lay_ops.proofs.bodies.is_stmt_structless.Goals as goal

pub returns-in-Expr : goal.returns-in-Expr
returns-in-Expr c =
    let x = c.in-Expr in
    c.is_structless.ensures ∙ ap (λ (y : Expr). (about_expr y).structless) c.get.ensures
    ∙ of_structless c.args.stmt.now x.attrs x.expr x.ended x.is
