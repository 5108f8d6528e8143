use Rattle.lay_map.proofs.spelling_lemmas.UnitLemmas.{told, same}
use Rattle.lay_map.proofs.spelling_lemmas.ChoiceLemmas.{all_units}
use Rattle.lay_map.proofs.spelling.units_law.Goals as goal

pub returns : goal.returns
returns c = record { told = told; same = same; first = all_units }
