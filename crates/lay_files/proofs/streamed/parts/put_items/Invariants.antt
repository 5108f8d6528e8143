use Rattle.lay_files.specs.streamed.Through.{PutsItems}
use Rattle.lay_files.proofs.streamed.parts.put_items.Given as goal

abbrev pub invariant-loop : goal.invariant-loop
invariant-loop g l = PutsItems g.E.Emit.meanings l.within l.depth l.fn.are_items l.are_items l.fn.at l.at l.fn.out l.out
