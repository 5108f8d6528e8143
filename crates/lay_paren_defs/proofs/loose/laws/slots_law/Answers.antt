use Rattle.lay_paren_defs.proofs.loose_lemmas.SlotLemmas.{paren_fits, whole_fits}
use Rattle.lay_paren_defs.proofs.loose.laws.slots_law.Goals as goal

pub returns : goal.returns
returns c = record { in_parentheses = paren_fits; whole = whole_fits }
