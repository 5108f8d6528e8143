use Rattle.lay_paren.proofs.loose_laws_lemmas.EnclosedLemmas.{constant_deep, pieces, rules, written}
use Rattle.lay_paren.proofs.loose_laws.laws.enclosed_law.Goals as goal

pub returns : goal.returns
returns c = record { rules = rules; pieces = pieces; written = written; depth = constant_deep }
