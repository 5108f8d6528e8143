use Rattle.std.proofs.Common.{arith}
use Rattle.lay_depth.proofs.ExprLemmas.{closure_param_is}
use Rattle.lay_depth.proofs.exprs.param_depth.Goals as goal

pub returns : goal.returns
returns c =
    let m = closure_param_is c.args.param.now in omega (arith, m, c.pat_depth.ensures, c.type_or_none_depth.ensures, c.max.ensures)
