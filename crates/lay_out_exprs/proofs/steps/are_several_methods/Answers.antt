use Rattle.std.proofs.Common.{Bool, true, ◌||◌, cond, drop, ◌+◌, ap, sym, ◌∙◌}
use Rattle.lay_out_exprs.proofs.StepLemmas.{are_several, none_left, several_turn}
use Rattle.lay_out_exprs.proofs.steps.are_several_methods.Goals as goal

pub returns-then-both : goal.returns-then-both
returns-then-both c =
    sym (c.loop-step.invariant
    ∙ several_turn c.loop-step.found _ c.args.steps.now _ _ c.loop-step-test.true c.step-item.is c.is_method-method.ensures
    ∙ ap (λ (b : Bool). cond b true (are_several (c.loop-step.found || c.is_method-method.result)
    (drop (c.loop-step.step-index + 1) c.args.steps.now))) (sym c.both.ensures ∙ c.if-both.true))

pub loop-step-preserved : goal.loop-step-preserved
loop-step-preserved c =
    c.loop-step.invariant
    ∙ several_turn c.loop-step.found _ c.args.steps.now _ _ c.loop-step-test.true c.step-item.is c.is_method-method.ensures
    ∙ ap (λ (b : Bool). cond b true (are_several (c.loop-step.found || c.is_method-method.result)
    (drop (c.loop-step.step-index + 1) c.args.steps.now))) (sym c.both.ensures ∙ c.if-both.false)
    ∙ ap (λ (b : Bool). are_several b (drop (c.loop-step.step-index + 1) c.args.steps.now)) (sym c.either-found.ensures)

pub returns : goal.returns
returns c = sym (c.loop-step.invariant ∙ none_left c.loop-step.found c.args.steps.now _ c.loop-step-test.false)
