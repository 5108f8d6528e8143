use Rattle.lay_out_types.proofs.Adding.{adds, adds_on}
use Rattle.lay_out_exprs.proofs.BlockLemmas.{some_label}
use Rattle.lay_out_exprs.proofs.blocks.add_labelled.Goals as goal

pub returns-in-Some : goal.returns-in-Some
returns-in-Some g c =
    adds (adds_on c.add_text-label.ensures c.add_text.ensures) (some_label _ c.in-Some.label _ c.in-Some.is c.as_bytes.ensures)
