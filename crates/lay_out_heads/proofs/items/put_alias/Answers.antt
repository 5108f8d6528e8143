use Rattle.std.proofs.Common.{refl}
use Rattle.lay_node.specs.nodes.Heads.{about_alias}
use Rattle.lay_node.specs.declared.heads.Site.TheVariants.{Module}
use Rattle.lay_out_types.proofs.Adding.{adds, adds_on}
use Rattle.lay_out_heads.proofs.ItemLemmas.{alias_head, alias_is}
use Rattle.lay_out_heads.proofs.Rows.{may_end_head}
use Rattle.lay_out_heads.proofs.items.put_alias.Goals as goal

pub add_end-end-requires : goal.add_end-end-requires
add_end-end-requires g c =
    may_end_head c.args.vis.now (about_alias Module c.args.node.now).head
    (adds_on c.open_head-opened.ensures
    (adds (adds_on c.add_called-name.ensures (adds_on c.add_asked-bounds.ensures c.add_default-head.ensures))
    (alias_head c.args.node.now _ c.as_slice.ensures)))

pub returns : goal.returns
returns g c = λ site.
    (adds (adds_on c.open_head-opened.ensures (adds_on
    (adds (adds_on c.add_called-name.ensures (adds_on c.add_asked-bounds.ensures c.add_default-head.ensures))
    (alias_head c.args.node.now _ c.as_slice.ensures))
    (adds_on c.add_end-end.ensures c.add_semicolon.ensures)))
    (alias_is c.args.vis.now site c.args.node.now)).goes_on _ refl
