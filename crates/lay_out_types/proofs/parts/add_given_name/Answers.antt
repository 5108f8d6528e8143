use Rattle.lay_out_types.proofs.Adding.{adds, adds_on}
use Rattle.lay_out_types.proofs.PartLemmas.{given_name_is, no_name_is}
use Rattle.lay_out_types.proofs.parts.add_given_name.Goals as goal

pub returns-in-Underscore : goal.returns-in-Underscore
returns-in-Underscore g c = adds (adds_on c.add_text-name.ensures c.add_text.ensures) (no_name_is _ c.in-Underscore.is)

pub returns-in-Name : goal.returns-in-Name
returns-in-Name g c =
    adds (adds_on c.add_word-name.ensures c.add_text-in-Name.ensures) (given_name_is _ c.in-Name.name c.in-Name.is)
