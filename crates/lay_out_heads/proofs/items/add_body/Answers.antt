use Rattle.std.proofs.Common.{map}
use Rattle.lay_out_types.proofs.Adding.{adds, adds_on}
use Rattle.lay_out_heads.proofs.ItemLemmas.{body_tail}
use Rattle.lay_out_heads.proofs.items.add_body.Goals as goal

pub returns : goal.returns
returns g c =
    adds (adds_on c.add_wheres-clause.ensures c.add_braces.ensures)
    (body_tail c.args.wheres.now (map g.P.Part.form c.args.parts.now) _ c.leads.ensures)
