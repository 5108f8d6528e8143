use Rattle.lay_out_types.proofs.Adding.{adds, adds_on}
use Rattle.lay_out_heads.proofs.UseLemmas.{new_name, no_name}
use Rattle.lay_out_heads.proofs.uses.add_rename.Goals as goal

pub returns-in-Underscore : goal.returns-in-Underscore
returns-in-Underscore g c =
    adds (adds_on c.add_text-sign.ensures c.add_text.ensures) (no_name _ _ c.in-Some.is c.in-Underscore.is)

pub returns-in-Name : goal.returns-in-Name
returns-in-Name g c =
    adds (adds_on c.add_text-sign.ensures c.add_word.ensures) (new_name _ _ c.in-Name.name c.in-Some.is c.in-Name.is)
