use Rattle.lay_out_types.proofs.Adding.{adds_on}
use Rattle.lay_out_exprs.proofs.blocks.close_soft.Goals as goal

pub returns : goal.returns
returns g c = adds_on c.add_break-line.ensures (adds_on c.add_end-end.ensures c.add_text.ensures)
