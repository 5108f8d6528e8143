use Rattle.lay_out_types.proofs.Adding.{adds, adds_nothing, adds_on}
use Rattle.lay_out_types.proofs.ClauseLemmas.{no_bounds, some_bounds}
use Rattle.lay_out_types.proofs.generics.add_asked.Goals as goal

pub returns-then-is_empty : goal.returns-then-is_empty
returns-then-is_empty g c =
    adds adds_nothing (no_bounds c.args.bounds.now _ c.is_empty.ensures c.if-is_empty.true)

pub returns : goal.returns
returns g c =
    adds (adds_on c.add_text-colon.ensures c.add_bounds.ensures)
    (some_bounds c.args.bounds.now _ c.is_empty.ensures c.if-is_empty.false)
