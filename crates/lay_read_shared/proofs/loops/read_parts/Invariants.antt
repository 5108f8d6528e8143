use Rattle.std.proofs.Common.{◌≤◌, length}
use Rattle.lay_node.specs.reader.Loops.{repeat_from, repeat}
use Rattle.lay_read_tokens.proofs.Holding.{Holding}
use Rattle.lay_read_tokens.proofs.Turns.{Turn, Held}
use Rattle.lay_read_shared.specs.Loops.{goes_on}
use Rattle.lay_read_shared.proofs.loops.read_parts.Given as goal

abbrev pub invariant-loop-going : goal.invariant-loop-going
invariant-loop-going g l = record {
  held : Held (λ read. Turn (repeat_from (goes_on l.going) (g.P.Part.reads l.depth l.place))
      (repeat (goes_on l.going) (g.P.Part.reads l.depth l.place) l.fn.at) read l.at) (Holding l.nodes l.need);
  within : l.need ≤ l.depth;
}

abbrev pub decreases-loop-going : goal.decreases-loop-going
decreases-loop-going g l = length l.at
