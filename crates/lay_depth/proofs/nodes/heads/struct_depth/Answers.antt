use Rattle.std.proofs.Common.{arith}
use Rattle.lay_depth.proofs.nodes_lemmas.HeadLemmas as of
use Rattle.lay_depth.proofs.nodes.heads.struct_depth.Goals as goal

pub returns : goal.returns
returns c =
    let m = of.struct_is c.args.item.now in
    omega (arith, m, c.generics_depth.ensures, c.fields_depth.ensures, c.max.ensures, c.wheres_depth.ensures, c.max-2.ensures)
