use Rattle.lay_map.proofs.FoundLemmas.{all_found}
use Rattle.lay_map.proofs.law.found_law.Goals as goal

pub returns : goal.returns
returns c = all_found
