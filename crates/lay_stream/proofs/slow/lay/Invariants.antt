use Rattle.std.proofs.Common.{◌≡◌, [], length}
use Rattle.lay_layout.specs.Machine.{Layout, play, begun}
use Rattle.lay_stream.specs.Pages.{IsLaid}
use Rattle.lay_stream.proofs.slow.lay.Given as goal

-- some layout that the line, the text and the frames are at; laying out the rest from it is laying out all
abbrev pub invariant-loop-tok : goal.invariant-loop-tok
invariant-loop-tok l = (m : Layout) × IsLaid l.line l.frames l.sink.text m × (play l.rest [] m ≡ play l.toks [] begun)

abbrev pub decreases-loop-tok : goal.decreases-loop-tok
decreases-loop-tok l = length l.rest
