use Rattle.lay_out_types.proofs.Adding.{adds, adds_on}
use Rattle.lay_out_exprs.proofs.BlockLemmas.{closure_marked_closed}
use Rattle.lay_out_exprs.proofs.bodies.close_closure.Goals as goal

pub returns-in-Marked : goal.returns-in-Marked
returns-in-Marked g c =
    adds (adds_on c.add_break-line.ensures c.add_end.ensures) (closure_marked_closed c.args.braces c.in-Marked.is)
