use Rattle.std.proofs.Common.{arith}
use Rattle.lay_depth.proofs.nodes_lemmas.HeadLemmas as of
use Rattle.lay_depth.proofs.nodes.functions.fn_head_depth.Goals as goal

pub returns : goal.returns
returns c =
    let m = of.fn_head_is c.args.head.now in
    let n = rw c.as_slice.ensures at c.deepest.ensures in
    omega (arith, m, n, c.generics_depth.ensures, c.max.ensures, c.type_or_none_depth.ensures, c.max-2.ensures)
