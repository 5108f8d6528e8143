use Rattle.std.proofs.Common.{refl}
use Rattle.lay_node.specs.nodes.Heads.{about_struct}
use Rattle.lay_out_types.proofs.Adding.{adds, adds_on}
use Rattle.lay_out_heads.proofs.ItemLemmas.{struct_is}
use Rattle.lay_out_heads.proofs.Rows.{may_end_head}
use Rattle.lay_out_heads.proofs.items.put_struct.Goals as goal

pub add_end-end-requires : goal.add_end-end-requires
add_end-end-requires g c =
    may_end_head c.args.vis.now (about_struct c.args.node.now).head
    (adds_on c.open_head-opened.ensures c.add_struct_head-head.ensures)

pub returns : goal.returns
returns g c =
    (adds (adds_on c.open_head-opened.ensures
    (adds_on c.add_struct_head-head.ensures (adds_on c.add_end-end.ensures c.add_struct_tail.ensures)))
    (struct_is c.args.vis.now c.args.node.now)).goes_on _ refl
