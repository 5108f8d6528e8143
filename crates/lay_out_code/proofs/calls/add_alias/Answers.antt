use Rattle.lay_node.specs.declared.heads.Site.TheVariants.{Module}
use Rattle.lay_out_types.proofs.Adding.{went_well}
use Rattle.lay_out_code.proofs.calls.add_alias.Goals as goal

pub returns : goal.returns
returns g c = went_well c.in_ok-before.was (c.put_alias.ensures Module)
