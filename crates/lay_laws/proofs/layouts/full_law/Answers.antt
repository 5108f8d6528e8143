use Rattle.lay_laws.proofs.FullLemmas.{full_file}
use Rattle.lay_laws.proofs.layouts.full_law.Goals as goal

pub returns : goal.returns
returns c = full_file
