use Rattle.std.proofs.Common.{arith}
use Rattle.lay_depth.proofs.nodes_lemmas.HeadLemmas as of
use Rattle.lay_depth.proofs.nodes.heads.FieldDeep.depth.Goals as goal

pub returns : goal.returns
returns c =
    let m = of.field_is c.args.self.now in omega (arith, m, c.type_depth.ensures)
