use Rattle.lay_read_shared.proofs.alone_lemmas.ArmFronts.{arms_exact}
use Rattle.lay_read_shared.proofs.alone_lemmas.Fronts.{blocks_exact, stmts_exact}
use Rattle.lay_read_shared.proofs.alone.laws.alone_law.Goals as goal

pub returns : goal.returns
returns c = record { blocks = blocks_exact; stmts = stmts_exact; arms = arms_exact }
