use Rattle.lay_paren_defs.proofs.ShellLemmas.{items_off}
use Rattle.lay_tree.proofs.PartLemmas.{told}
use Rattle.lay_tree.proofs.equal.same_items.Goals as goal

pub returns : goal.returns
returns c = told (items_off c.args.items.now) c.same_items.ensures
