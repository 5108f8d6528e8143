use Rattle.std.proofs.Common.{◌≡◌, length}
use Rattle.std.specs.Prelude.{option_and_then}
use Rattle.lay_token.specs.Operators.{op_at}
use Rattle.lay_code.specs.Operators.{named}
use Rattle.lay_ops.proofs.operators.first_of.Given as goal

-- what is left tells it
abbrev pub invariant-loop-rest : goal.invariant-loop-rest
invariant-loop-rest l = option_and_then (named l.rest) (op_at l.at) ≡ option_and_then (named l.ops) (op_at l.at)

abbrev pub decreases-loop-rest : goal.decreases-loop-rest
decreases-loop-rest l = length l.rest
