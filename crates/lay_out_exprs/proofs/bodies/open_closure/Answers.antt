use Rattle.lay_out_types.proofs.Adding.{adds, adds_on}
use Rattle.lay_out_exprs.proofs.BlockLemmas.{closure_marked_opened}
use Rattle.lay_out_exprs.proofs.bodies.open_closure.Goals as goal

pub returns-in-Marked : goal.returns-in-Marked
returns-in-Marked g c =
    adds (adds_on c.add_break-never.ensures (adds_on c.add_inside-group.ensures c.add_break.ensures))
    (closure_marked_opened c.args.braces c.in-Marked.is)
