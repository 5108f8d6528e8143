use Rattle.lay_out_types.proofs.Adding.{adds, adds_nothing}
use Rattle.lay_out_heads.proofs.ItemLemmas.{no_tuple_head, tuple_head}
use Rattle.lay_out_heads.proofs.items.add_head_fields.Goals as goal

pub returns-in-Tuple : goal.returns-in-Tuple
returns-in-Tuple g c = adds c.add_parens.ensures (tuple_head _ c.in-Tuple.fields _ c.in-Tuple.is c.as_slice.ensures)

pub returns-in_default : goal.returns-in_default
returns-in_default g c = adds adds_nothing (no_tuple_head _ c.in_default.not-Tuple)
