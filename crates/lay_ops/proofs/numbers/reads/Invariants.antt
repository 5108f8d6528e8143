use Rattle.std.proofs.Common.{◌≡◌, length}
use Rattle.lay_ops.specs.Numbers.{run}
use Rattle.lay_ops.proofs.numbers.reads.Given as goal

-- what is left tells it
abbrev pub invariant-loop-byte : goal.invariant-loop-byte
invariant-loop-byte l = run l.reading l.rest ≡ run l.fn.start l.text

abbrev pub decreases-loop-byte : goal.decreases-loop-byte
decreases-loop-byte l = length l.rest
