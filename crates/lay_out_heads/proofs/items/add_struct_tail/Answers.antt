use Rattle.lay_out_types.proofs.Adding.{adds}
use Rattle.lay_out_heads.proofs.ItemLemmas.{named_tail, other_tail}
use Rattle.lay_out_heads.proofs.items.add_struct_tail.Goals as goal

pub returns-in-Named : goal.returns-in-Named
returns-in-Named g c =
    adds c.add_body.ensures (named_tail _ _ c.in-Named.fields _ c.in-Named.is c.as_slice.ensures)

pub returns-in_default : goal.returns-in_default
returns-in_default g c = adds c.add_semicolon.ensures (other_tail _ _ c.in_default.not-Named)
