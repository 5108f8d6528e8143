use Rattle.lay_out_types.proofs.Adding.{adds_on}
use Rattle.lay_out_heads.proofs.loops.open_body.Goals as goal

pub returns : goal.returns
returns g c = adds_on c.add_either-brace.ensures (adds_on c.add_break-never.ensures c.add_inside.ensures)
