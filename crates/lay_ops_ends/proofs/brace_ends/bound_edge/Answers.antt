use Rattle.std.proofs.Common.{◌∙◌}
use Rattle.lay_ops_ends.proofs.TypeBraces.{of_bound, of_parens}
use Rattle.lay_ops_ends.proofs.brace_ends.bound_edge.Goals as goal

pub returns-then-parens-clause-told : goal.returns-then-parens-clause-told
returns-then-parens-clause-told c =
    let m = c.in-Meets in of_parens c.args.bound.now m.parens m.maybe m.binder m.path m.is c.if-parens.true

pub returns-else-parens-clause-told : goal.returns-else-parens-clause-told
returns-else-parens-clause-told c =
    let m = c.in-Meets in
    c.path_edge.ensures.told ∙ of_bound c.args.bound.now m.parens m.maybe m.binder m.path m.is c.if-parens.false
