use Rattle.lay_read_pats.proofs.Steps.{short_none}
use Rattle.lay_read_pats.proofs.facts.is_short.Goals as goal

pub returns-in-Bind : goal.returns-in-Bind
returns-in-Bind c =
    let b = c.in-Bind in rw b.is (short_none b.by_ref b.mutable b.name b.of c.is_none.result c.is_none.ensures)
