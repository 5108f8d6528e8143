use Rattle.lay_out_types.proofs.Adding.{adds_on}
use Rattle.lay_out_heads.proofs.heads.add_called.Goals as goal

pub returns : goal.returns
returns g c = adds_on c.add_text-word.ensures (adds_on c.add_word-name.ensures c.add_generics.ensures)
