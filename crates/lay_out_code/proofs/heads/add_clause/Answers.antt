use Rattle.lay_out_types.proofs.Adding.{adds_on}
use Rattle.lay_out_code.proofs.heads.add_clause.Goals as goal

pub returns : goal.returns
returns g c = adds_on c.add_head-head.ensures c.add_wheres.ensures
