use Rattle.lay_out_types.proofs.Adding.{adds, adds_on}
use Rattle.lay_out_heads.proofs.ItemLemmas.{semicolon_tail}
use Rattle.lay_out_heads.proofs.items.add_semicolon.Goals as goal

pub returns : goal.returns
returns g c = adds (adds_on c.add_wheres-clause.ensures c.add_text.ensures) (semicolon_tail c.args.wheres.now)
