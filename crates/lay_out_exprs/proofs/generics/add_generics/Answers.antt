use Rattle.lay_out_types.proofs.Adding.{adds, adds_on}
use Rattle.lay_out_exprs.proofs.StepLemmas.{some_generics}
use Rattle.lay_out_exprs.proofs.generics.add_generics.Goals as goal

pub returns-in-Some : goal.returns-in-Some
returns-in-Some g c =
    adds (adds_on c.add_text-colons.ensures c.add_angles.ensures)
    (some_generics _ c.in-Some.args _ c.in-Some.is c.as_slice.ensures)
