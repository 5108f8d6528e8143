use Rattle.std.proofs.Common.{ℕ, ◌≡◌, ◌+◌}
use Rattle.lay_code.specs.reader.Blocks.{undressed}
use Rattle.lay_ops_ends.proofs.OnePair.{layers}
use Rattle.lay_ops_ends.proofs.bodies.undressed.Given as goal

abbrev pub invariant-loop-body : goal.invariant-loop-body
invariant-loop-body l = (turns : ℕ) × ((n : ℕ) → undressed (turns + n) l.fn.expr ≡ undressed n l.body)

abbrev pub decreases-loop-body : goal.decreases-loop-body
decreases-loop-body l = layers l.body
