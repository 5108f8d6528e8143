use Rattle.lay_out_types.proofs.Adding.{adds, adds_on}
use Rattle.lay_out_heads.proofs.ItemLemmas.{struct_head_is}
use Rattle.lay_out_heads.proofs.items.add_struct_head.Goals as goal

pub returns : goal.returns
returns g c =
    adds (adds_on c.add_called-name.ensures c.add_head_fields.ensures) (struct_head_is c.args.node.now)
