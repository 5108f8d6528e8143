use Rattle.std.proofs.Common.{◌∙◌}
use Rattle.lay_build_exprs.proofs.StepLemmas.{field_at_end}
use Rattle.lay_build_exprs.proofs.operands.field_last.Goals as goal

pub returns-in-Some : goal.returns-in-Some
returns-in-Some c = c.is_field.ensures ∙ field_at_end c.args.steps.now c.in-Some.step.now c.in-Some.ensures.value
