use Rattle.lay_out_types.proofs.Adding.{adds, adds_on}
use Rattle.lay_out_types.proofs.PartLemmas.{binder_is}
use Rattle.lay_out_types.proofs.parts.add_binder.Goals as goal

pub returns-in-Some : goal.returns-in-Some
returns-in-Some g c =
    adds (adds_on c.add_text-word.ensures (adds_on c.add_lifetime_params-params.ensures c.add_text.ensures))
    (binder_is _ c.in-Some.binder _ c.in-Some.is c.as_slice.ensures)
