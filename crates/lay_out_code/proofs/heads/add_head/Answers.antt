use Rattle.lay_out_types.proofs.Adding.{adds_on}
use Rattle.lay_out_heads.proofs.Rows.{may_end_head}
use Rattle.lay_out_code.proofs.heads.add_head.Goals as goal

pub add_end-requires : goal.add_end-requires
add_end-requires g c =
    may_end_head c.args.vis.now (g.H.Head.form c.args.head.now) (adds_on c.open_head-opened.ensures c.add-head.ensures)

pub returns : goal.returns
returns g c = adds_on c.open_head-opened.ensures (adds_on c.add-head.ensures c.add_end.ensures)
