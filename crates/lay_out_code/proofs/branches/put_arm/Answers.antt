use Rattle.std.proofs.Common.{refl}
use Rattle.lay_stream.proofs.Calls.{last}
use Rattle.lay_out_code.proofs.BranchLemmas.{any_arm}
use Rattle.lay_out_code.proofs.branches.put_arm.Goals as goal

pub returns : goal.returns
returns g c = λ is_last. last (c.add_arm.ensures.goes_on _ refl) (any_arm c.args.arm.now is_last)
