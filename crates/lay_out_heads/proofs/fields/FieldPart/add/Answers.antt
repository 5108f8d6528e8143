use Rattle.lay_out_types.proofs.Adding.{adds, adds_on}
use Rattle.lay_out_heads.proofs.FieldLemmas.{field_is}
use Rattle.lay_out_heads.proofs.fields.FieldPart.add.Goals as goal

pub returns : goal.returns
returns g c =
    adds (adds_on c.add_attrs-attrs.ensures (adds_on c.add_vis-vis.ensures
    (adds_on c.add_word-name.ensures (adds_on c.add_text-colon.ensures c.add_type.ensures))))
    (field_is c.args.self.now _ c.as_slice.ensures)
