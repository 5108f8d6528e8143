use Rattle.lay_out_types.proofs.Adding.{adds, adds_on}
use Rattle.lay_out_types.proofs.ClauseLemmas.{default_is}
use Rattle.lay_out_types.proofs.generics.add_default.Goals as goal

pub returns-in-Some : goal.returns-in-Some
returns-in-Some g c =
    adds (adds_on c.add_text-equals.ensures c.add_type.ensures) (default_is _ c.in-Some.ty c.in-Some.is)
