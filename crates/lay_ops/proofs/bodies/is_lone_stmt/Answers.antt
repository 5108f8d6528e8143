use Rattle.std.proofs.Common.{◌∙◌}
use Rattle.lay_ops.proofs.BodyFacts.{of_lone}
use Rattle.lay_ops.proofs.bodies.is_lone_stmt.Goals as goal

pub returns-in-Expr : goal.returns-in-Expr
returns-in-Expr c =
    let x = c.in-Expr in
    let lone = rw c.get.ensures at c.is_lone_expr.ensures in
    lone ∙ of_lone c.args.stmt.now x.attrs c.as_slice.result.now x.expr x.ended x.is c.as_slice.ensures
