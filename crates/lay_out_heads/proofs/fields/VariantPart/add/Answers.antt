use Rattle.lay_out_types.proofs.Adding.{adds, adds_on}
use Rattle.lay_out_heads.proofs.FieldLemmas.{variant_is}
use Rattle.lay_out_heads.proofs.fields.VariantPart.add.Goals as goal

pub returns : goal.returns
returns g c =
    adds (adds_on c.add_attrs-attrs.ensures (adds_on c.add_vis-vis.ensures
    (adds_on c.add_word-name.ensures (adds_on c.add_fields-fields.ensures c.add_discriminant.ensures))))
    (variant_is c.args.self.now _ c.as_slice.ensures)
