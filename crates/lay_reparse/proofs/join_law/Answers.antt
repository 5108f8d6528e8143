use Rattle.lay_reparse.proofs.join.Joining.{joined}
use Rattle.lay_reparse.proofs.join_law.Goals as goal

pub returns : goal.returns
returns c = joined
