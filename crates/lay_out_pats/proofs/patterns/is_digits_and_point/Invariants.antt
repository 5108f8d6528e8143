use Rattle.std.proofs.Common.{◌≡◌, length}
use Rattle.lay_piece.specs.Number.{ends_in_point}
use Rattle.lay_out_pats.proofs.patterns.is_digits_and_point.Given as goal

-- what is left tells it
abbrev pub invariant-loop-rest : goal.invariant-loop-rest
invariant-loop-rest l = ends_in_point l.rest ≡ ends_in_point l.text

abbrev pub decreases-loop-rest : goal.decreases-loop-rest
decreases-loop-rest l = length l.rest
