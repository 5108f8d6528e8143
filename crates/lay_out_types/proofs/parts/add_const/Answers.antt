use Rattle.lay_out_types.proofs.Adding.{adds, adds_on}
use Rattle.lay_out_types.proofs.PartLemmas.{negative_is}
use Rattle.lay_out_types.proofs.parts.add_const.Goals as goal

pub returns-in-Negative : goal.returns-in-Negative
returns-in-Negative g c =
    adds (adds_on c.add_text-minus.ensures c.add_literal-in-Negative.ensures)
    (negative_is _ c.in-Negative.literal c.in-Negative.is)
