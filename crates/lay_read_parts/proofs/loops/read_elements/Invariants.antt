use Rattle.std.proofs.Common.{◌≤◌, length}
use Rattle.lay_node.specs.reader.Loops.{elements_from, elements}
use Rattle.lay_read_tokens.proofs.Holding.{Holding}
use Rattle.lay_read_tokens.proofs.Turns.{Turn, Held}
use Rattle.lay_read_parts.specs.Answers.{closed_by}
use Rattle.lay_read_parts.proofs.loops.read_elements.Given as goal

abbrev pub invariant-loop-closer : goal.invariant-loop-closer
invariant-loop-closer g l = record {
  held : Held (λ read. Turn (elements_from (closed_by l.closer) (g.P.Part.reads l.depth l.place))
      (elements (closed_by l.closer) (g.P.Part.reads l.depth l.place) l.fn.at) read l.at) (Holding l.nodes l.need);
  within : l.need ≤ l.depth;
}

abbrev pub decreases-loop-closer : goal.decreases-loop-closer
decreases-loop-closer g l = length l.at
