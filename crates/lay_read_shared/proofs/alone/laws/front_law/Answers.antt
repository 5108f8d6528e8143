use Rattle.lay_read_shared.proofs.alone_lemmas.ArmFronts.{one_arm}
use Rattle.lay_read_shared.proofs.alone_lemmas.Fronts.{one_block, one_stmt}
use Rattle.lay_read_shared.proofs.alone.laws.front_law.Goals as goal

pub returns : goal.returns
returns c = record { one_block = one_block; one_stmt = one_stmt; one_arm = one_arm }
