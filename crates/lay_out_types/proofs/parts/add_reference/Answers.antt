use Rattle.lay_out_types.proofs.Adding.{adds, adds_on}
use Rattle.lay_out_types.proofs.PartLemmas.{reference_is}
use Rattle.lay_out_types.proofs.parts.add_reference.Goals as goal

pub returns-in-Some : goal.returns-in-Some
returns-in-Some g c =
    adds (adds_on c.add_text-reference.ensures (adds_on c.add_text-lifetime.ensures c.add_text.ensures))
    (reference_is _ c.in-Some.lifetime _ c.in-Some.is c.as_bytes.ensures)
