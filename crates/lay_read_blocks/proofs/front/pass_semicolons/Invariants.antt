use Rattle.std.proofs.Common.{◌≡◌, length}
use Rattle.lay_code.specs.reader.Blocks.{behind_semicolons}
use Rattle.lay_read_blocks.proofs.front.pass_semicolons.Given as goal

abbrev pub invariant-loop-at : goal.invariant-loop-at
invariant-loop-at l = behind_semicolons l.at ≡ behind_semicolons l.fn.at

abbrev pub decreases-loop-at : goal.decreases-loop-at
decreases-loop-at l = length l.at
