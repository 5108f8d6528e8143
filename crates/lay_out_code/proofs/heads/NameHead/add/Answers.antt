use Rattle.lay_out_types.proofs.Adding.{adds_on}
use Rattle.lay_out_code.proofs.heads.NameHead.add.Goals as goal

pub returns : goal.returns
returns g c = adds_on c.add_text-word.ensures c.add_word.ensures
