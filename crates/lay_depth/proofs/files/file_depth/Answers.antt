use Rattle.std.proofs.Common.{arith}
use Rattle.lay_depth.proofs.ItemLemmas.{file_is}
use Rattle.lay_depth.proofs.files.file_depth.Goals as goal

pub returns : goal.returns
returns c =
    let m = file_is c.args.file.now in
    let n = rw c.as_slice.ensures at c.items_depth.ensures in omega (arith, m, n)
