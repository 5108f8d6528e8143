use Rattle.std.proofs.Common.{◌≤◌, length}
use Rattle.lay_read_parts.specs.Answers.{joined_by}
use Rattle.lay_read_parts.proofs.Turning.{Chained}
use Rattle.lay_read_parts.proofs.loops.read_chain.Given as goal

abbrev pub invariant-loop-joint : goal.invariant-loop-joint
invariant-loop-joint g l = record {
  held : Chained (joined_by l.joint) (g.P.Part.reads l.depth l.place) l.fn.at l.nodes l.need l.at;
  within : l.need ≤ l.depth;
}

abbrev pub decreases-loop-joint : goal.decreases-loop-joint
decreases-loop-joint g l = length l.at
