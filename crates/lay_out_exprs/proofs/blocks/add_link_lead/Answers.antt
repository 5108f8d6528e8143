use Rattle.lay_out_types.proofs.Adding.{adds, adds_on, other}
use Rattle.lay_out_exprs.proofs.blocks.add_link_lead.Goals as goal

pub returns : goal.returns
returns g c = adds (adds_on c.add_break-line.ensures c.add_text.ensures) (other _ _ c.args.first c.if-first.false)
