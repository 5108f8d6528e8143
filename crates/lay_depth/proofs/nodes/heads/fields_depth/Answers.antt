use Rattle.std.proofs.Common.{arith}
use Rattle.lay_depth.proofs.nodes_lemmas.HeadLemmas as of
use Rattle.lay_depth.proofs.nodes.heads.fields_depth.Goals as goal

pub returns-in-Tuple : goal.returns-in-Tuple
returns-in-Tuple c =
    let m = of.tuple_is c.args.fields.now c.in-Tuple.fields c.in-Tuple.is in
    let n = rw c.as_slice.ensures at c.deepest.ensures in omega (arith, m, n)

pub returns-in-Named : goal.returns-in-Named
returns-in-Named c =
    let m = of.named_is c.args.fields.now c.in-Named.fields c.in-Named.is in
    let n = rw c.as_slice-in-Named.ensures at c.deepest-in-Named.ensures in omega (arith, m, n)
