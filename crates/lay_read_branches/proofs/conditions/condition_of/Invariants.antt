use Rattle.std.proofs.Common.{◌≡◌, ◌∷◌, map}
use Rattle.lay_code.specs.reader.Conditions.{linked}
use Rattle.lay_read_branches.proofs.conditions.condition_of.Given as goal

-- the links that are passed, after the first one
abbrev pub invariant-loop-link : goal.invariant-loop-link
invariant-loop-link l = l.links ≡ map linked (l.fn.first ∷ l.yielded)
