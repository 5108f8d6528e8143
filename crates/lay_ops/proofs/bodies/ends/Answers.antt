use Rattle.std.proofs.Common.{refl}
use Rattle.lay_ops.proofs.BodyFacts.{of_stmt}
use Rattle.lay_ops.proofs.bodies.ends.Goals as goal

pub returns-then-ended : goal.returns-then-ended
returns-then-ended c =
    let x = c.in-Expr in
    let told = of_stmt c.args.stmt.now x.attrs x.expr x.ended x.is in
    rw (told, c.if-ended.true) refl

pub returns-else-ended : goal.returns-else-ended
returns-else-ended c =
    let x = c.in-Expr in
    let told = of_stmt c.args.stmt.now x.attrs x.expr x.ended x.is in
    let like = rw c.get.ensures at c.is_block_like.ensures in
    rw (told, c.if-ended.false) like
