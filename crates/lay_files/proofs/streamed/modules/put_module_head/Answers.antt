use Rattle.std.proofs.Common.{List, ap, map, refl}
use Rattle.lay_form.specs.Form.{Done}
use Rattle.lay_form.specs.Notation.{behind_attrs}
use Rattle.lay_form.specs.Stream.{stream_of}
use Rattle.lay_node.specs.nodes.Attr.{attr_form}
use Rattle.lay_node.specs.declared.attr.Attr.{Attr}
use Rattle.lay_code.specs.nodes.Item.{module_head}
use Rattle.lay_out_types.proofs.Adding.{adds, adds_on}
use Rattle.lay_out_heads.proofs.Rows.{may_end_head}
use Rattle.lay_files.proofs.streamed.modules.put_module_head.Goals as goal

pub add_end-requires : goal.add_end-requires
add_end-requires g c =
    may_end_head c.args.head.now.vis (module_head c.args.head.now.name)
    (adds_on c.open_head-opened.ensures (adds_on c.add_text-word.ensures c.add_word-name.ensures))

pub returns : goal.returns
returns g c =
    let attrs = adds c.add_attrs-attrs.ensures
    (ap (λ (put : List Attr). stream_of (behind_attrs (map attr_form put) Done)) c.as_slice.ensures) in
    (adds_on attrs (adds_on c.open_head-opened.ensures
    (adds_on (adds_on c.add_text-word.ensures c.add_word-name.ensures) c.add_end.ensures))).goes_on _ refl
