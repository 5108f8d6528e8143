use Rattle.std.proofs.Common.{refl}
use Rattle.lay_node.specs.nodes.Heads.{about_extern_crate}
use Rattle.lay_out_types.proofs.Adding.{adds, adds_on}
use Rattle.lay_out_heads.proofs.ItemLemmas.{extern_crate_head, extern_crate_is}
use Rattle.lay_out_heads.proofs.Rows.{may_end_head}
use Rattle.lay_out_heads.proofs.items.put_extern_crate.Goals as goal

pub add_end-end-requires : goal.add_end-end-requires
add_end-end-requires g c =
    may_end_head c.args.vis.now (about_extern_crate c.args.node.now).head
    (adds_on c.open_head-opened.ensures
    (adds (adds_on c.add_text-words.ensures (adds_on c.add_word-word.ensures c.add_rename-head.ensures))
    (extern_crate_head c.args.node.now)))

pub returns : goal.returns
returns g c =
    (adds (adds_on c.open_head-opened.ensures (adds_on
    (adds (adds_on c.add_text-words.ensures (adds_on c.add_word-word.ensures c.add_rename-head.ensures))
    (extern_crate_head c.args.node.now))
    (adds_on c.add_end-end.ensures c.add_text.ensures)))
    (extern_crate_is c.args.vis.now c.args.node.now)).goes_on _ refl
