use Rattle.std.proofs.lemmas.List.{drop-set-add}
use Rattle.lay_ring.proofs.marks.Marks.set.Goals as goal

pub returns-clause-items : goal.returns-clause-items
returns-clause-items g c = rw (← c.self.view_is) (drop-set-add c.self.inside.first c.self.inside.kept.items c.args.place c.args.item)
