use Rattle.lay_out_types.proofs.Adding.{adds, adds_on}
use Rattle.lay_out_heads.proofs.FieldLemmas.{tuple_field_is}
use Rattle.lay_out_heads.proofs.fields.TupleFieldPart.add.Goals as goal

pub returns : goal.returns
returns g c =
    adds (adds_on c.add_attrs-attrs.ensures (adds_on c.add_vis-vis.ensures c.add_type.ensures))
    (tuple_field_is c.args.self.now _ c.as_slice.ensures)
