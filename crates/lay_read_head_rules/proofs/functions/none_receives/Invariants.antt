use Rattle.std.proofs.Common.{◌≡◌, length}
use Rattle.lay_read_head_rules.specs.Answers.{none_receives}
use Rattle.lay_read_head_rules.proofs.functions.none_receives.Given as goal

-- what is left tells it
abbrev pub invariant-loop-rest : goal.invariant-loop-rest
invariant-loop-rest l = none_receives l.rest ≡ none_receives l.params

abbrev pub decreases-loop-rest : goal.decreases-loop-rest
decreases-loop-rest l = length l.rest
