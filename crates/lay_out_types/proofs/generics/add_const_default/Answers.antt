use Rattle.lay_out_types.proofs.Adding.{adds, adds_on}
use Rattle.lay_out_types.proofs.ClauseLemmas.{default_const, default_name}
use Rattle.lay_out_types.proofs.generics.add_const_default.Goals as goal

pub returns-in-Arg : goal.returns-in-Arg
returns-in-Arg g c =
    adds (adds_on c.add_text-equals.ensures c.add_const.ensures)
    (default_const _ _ c.in-Arg.value c.in-Some.is c.in-Arg.is)

pub returns-in-Name : goal.returns-in-Name
returns-in-Name g c =
    adds (adds_on c.add_text-equals.ensures c.add_word.ensures)
    (default_name _ _ c.in-Name.name c.in-Some.is c.in-Name.is)
