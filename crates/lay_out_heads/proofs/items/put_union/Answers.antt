use Rattle.std.proofs.Common.{codes, refl}
use Rattle.lay_node.specs.nodes.Heads.{about_union}
use Rattle.lay_out_types.proofs.Adding.{adds, adds_on}
use Rattle.lay_out_heads.proofs.HeadLemmas.{called_alone}
use Rattle.lay_out_heads.proofs.ItemLemmas.{union_is}
use Rattle.lay_out_heads.proofs.Rows.{may_end_head}
use Rattle.lay_out_heads.proofs.items.put_union.Goals as goal

pub add_end-end-requires : goal.add_end-end-requires
add_end-end-requires g c =
    may_end_head c.args.vis.now (about_union c.args.node.now).head
    (adds_on c.open_head-opened.ensures (adds c.add_called-head.ensures
    (called_alone (codes "union") (codes "union ") c.args.node.now.name c.args.node.now.generics (λ g. refl))))

pub returns : goal.returns
returns g c =
    (adds (adds_on c.open_head-opened.ensures (adds_on (adds c.add_called-head.ensures
    (called_alone (codes "union") (codes "union ") c.args.node.now.name c.args.node.now.generics (λ g. refl)))
    (adds_on c.add_end-end.ensures c.add_body.ensures)))
    (union_is c.args.vis.now c.args.node.now _ c.as_slice.ensures)).goes_on _ refl
