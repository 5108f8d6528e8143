use Rattle.std.proofs.Common.{◌&&◌, not, ap, ◌∙◌}
use Rattle.lay_out_exprs.proofs.BlockLemmas.{bare_expr, not_bare}
use Rattle.lay_out_exprs.proofs.blocks.is_bare.Goals as goal

pub returns-in-Expr : goal.returns-in-Expr
returns-in-Expr c =
    c.both.ensures ∙ ap (λ b. b && not c.in-Expr.ended) c.is_empty.ensures
    ∙ bare_expr c.args.stmt.now c.in-Expr.attrs _ _ c.in-Expr.ended c.in-Expr.is c.as_slice.ensures

pub returns-in_default : goal.returns-in_default
returns-in_default c = not_bare c.args.stmt.now c.in_default.not-Expr
