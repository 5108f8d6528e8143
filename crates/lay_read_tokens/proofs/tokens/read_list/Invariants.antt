use Rattle.std.proofs.Common.{length}
use Rattle.lay_read_tokens.proofs.Lists.{ReadFrom}
use Rattle.lay_read_tokens.proofs.tokens.read_list.Given as goal

abbrev pub invariant-loop-alloc : goal.invariant-loop-alloc
invariant-loop-alloc l = ReadFrom l.fn.to_comma l.fn.at l.list l.at

abbrev pub decreases-loop-alloc : goal.decreases-loop-alloc
decreases-loop-alloc l = length l.at
