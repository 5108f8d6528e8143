use Rattle.std.proofs.Common.{arith}
use Rattle.lay_depth.proofs.nodes_lemmas.GenericLemmas as of
use Rattle.lay_depth.proofs.nodes.generics.generics_depth.Goals as goal

pub returns : goal.returns
returns c =
    let m = of.generics_are c.args.generics.now in
    let n = rw c.as_slice.ensures at c.deepest.ensures in omega (arith, m, n)
