use Rattle.lay_out_heads.proofs.ItemLemmas.{leads_is}
use Rattle.lay_out_heads.proofs.items.leads.Goals as goal

pub returns : goal.returns
returns c = leads_is c.args.wheres.now _ _ c.as_slice.ensures c.is_empty.ensures
