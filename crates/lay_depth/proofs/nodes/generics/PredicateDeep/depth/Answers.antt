use Rattle.std.proofs.Common.{arith}
use Rattle.lay_depth.proofs.nodes_lemmas.GenericLemmas as of
use Rattle.lay_depth.proofs.nodes.generics.PredicateDeep.depth.Goals as goal

pub returns-in-Region : goal.returns-in-Region
returns-in-Region c =
    let x = c.in-Region in
    let m = of.region_predicate_is c.args.self.now x.lifetime x.bounds x.is in omega (arith, m)

pub returns-in-Bounded : goal.returns-in-Bounded
returns-in-Bounded c =
    let x = c.in-Bounded in
    let m = of.bounded_predicate_is c.args.self.now x.binder x.ty x.bounds x.is in
    let n = rw c.as_slice.ensures at c.bounds_depth.ensures in omega (arith, m, n, c.type_depth.ensures, c.max.ensures)
