use Rattle.lay_files.specs.streamed.Through.{PutsAttrs}
use Rattle.lay_files.proofs.streamed.parts.put_attrs.Given as goal

abbrev pub invariant-loop : goal.invariant-loop
invariant-loop g l = PutsAttrs g.E.Emit.meanings l.within l.fn.at l.at l.fn.out l.out
