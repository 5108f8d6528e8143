use Rattle.std.proofs.Common.{arith}
use Rattle.lay_depth.proofs.nodes_lemmas.HeadLemmas as of
use Rattle.lay_depth.proofs.nodes.heads.enum_depth.Goals as goal

pub returns : goal.returns
returns c =
    let m = of.enum_is c.args.item.now in
    let n = rw c.as_slice.ensures at c.deepest.ensures in
    omega (arith, m, n, c.generics_depth.ensures, c.wheres_depth.ensures, c.max.ensures, c.max-2.ensures)
