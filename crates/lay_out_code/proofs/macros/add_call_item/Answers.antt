use Rattle.lay_out_types.proofs.Adding.{adds, adds_on}
use Rattle.lay_out_code.proofs.MacroLemmas.{call_item_parts}
use Rattle.lay_out_code.proofs.macros.add_call_item.Goals as goal

pub returns : goal.returns
returns g c = adds (adds_on c.add_call-group.ensures c.add_item_end.ensures) (call_item_parts c.args.call.now)
