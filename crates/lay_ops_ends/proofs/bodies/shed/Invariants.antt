use Rattle.std.proofs.Common.{ℕ, ◌≡◌, ◌+◌}
use Rattle.lay_code.specs.reader.Exprs.{shed}
use Rattle.lay_ops_ends.proofs.OnePair.{layers}
use Rattle.lay_ops_ends.proofs.bodies.shed.Given as goal

abbrev pub invariant-loop-body : goal.invariant-loop-body
invariant-loop-body l = (turns : ℕ) × ((n : ℕ) → shed l.fn.no_struct (turns + n) l.fn.expr ≡ shed l.fn.no_struct n l.body)

abbrev pub decreases-loop-body : goal.decreases-loop-body
decreases-loop-body l = layers l.body
