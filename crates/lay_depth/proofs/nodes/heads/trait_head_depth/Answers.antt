use Rattle.std.proofs.Common.{arith}
use Rattle.lay_depth.proofs.nodes_lemmas.HeadLemmas as of
use Rattle.lay_depth.proofs.nodes.heads.trait_head_depth.Goals as goal

pub returns : goal.returns
returns c =
    let m = of.trait_head_is c.args.head.now in
    let n = rw c.as_slice.ensures at c.bounds_depth.ensures in omega (arith, m, n, c.generics_depth.ensures, c.max.ensures)
