use Rattle.std.proofs.Common.{◌≤◌, length}
use Rattle.lay_node.specs.reader.Loops.{open_elements_from, open_elements}
use Rattle.lay_read_tokens.proofs.Holding.{Holding}
use Rattle.lay_read_tokens.proofs.Turns.{Held}
use Rattle.lay_read_parts.specs.Answers.{begins_part}
use Rattle.lay_read_parts.proofs.Turning.{Turning}
use Rattle.lay_read_parts.proofs.loops.read_open_elements.Given as goal

abbrev pub invariant-loop-opening : goal.invariant-loop-opening
invariant-loop-opening g l = record {
  held : Held (λ read. Turning (open_elements_from (begins_part l.opening) (g.P.Part.reads l.depth l.place))
      (open_elements (begins_part l.opening) (g.P.Part.reads l.depth l.place) l.fn.at) read l.at) (Holding l.nodes l.need);
  within : l.need ≤ l.depth;
}

abbrev pub decreases-loop-opening : goal.decreases-loop-opening
decreases-loop-opening g l = length l.at
