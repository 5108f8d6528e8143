use Rattle.std.proofs.Common.{arith}
use Rattle.lay_depth.proofs.nodes_lemmas.GenericLemmas as of
use Rattle.lay_depth.proofs.nodes.generics.GenericParamDeep.depth.Goals as goal

pub returns-in-Region : goal.returns-in-Region
returns-in-Region c =
    let m = of.region_param_is c.args.self.now c.in-Region.param c.in-Region.is in omega (arith, m)

pub returns-in-Named : goal.returns-in-Named
returns-in-Named c =
    let x = c.in-Named in
    let m = of.named_param_is c.args.self.now x.attrs x.name x.bounds x.default x.is in
    let n = rw c.as_slice.ensures at c.bounds_depth.ensures in omega (arith, m, n, c.type_or_none_depth.ensures, c.max.ensures)

pub returns-in-Const : goal.returns-in-Const
returns-in-Const c =
    let x = c.in-Const in
    let m = of.const_param_is c.args.self.now x.attrs x.name x.ty x.default x.is in omega (arith, m, c.type_depth.ensures)
