use Rattle.lay_out_exprs.proofs.StepLemmas.{is_method_step, no_method_step}
use Rattle.lay_out_exprs.proofs.steps.is_method.Goals as goal

pub returns-in-Method : goal.returns-in-Method
returns-in-Method c = is_method_step _ _ _ _ c.in-Method.is

pub returns-in_default : goal.returns-in_default
returns-in_default c = no_method_step _ c.in_default.not-Method
