use Rattle.std.proofs.Common.{◌≡◌, false, drop}
use Rattle.lay_out_exprs.proofs.StepLemmas.{are_several}
use Rattle.lay_out_exprs.proofs.steps.are_several_methods.Given as goal

-- what is left tells it
abbrev pub invariant-loop-step : goal.invariant-loop-step
invariant-loop-step l = are_several false l.steps ≡ are_several l.found (drop l.step-index l.steps)
