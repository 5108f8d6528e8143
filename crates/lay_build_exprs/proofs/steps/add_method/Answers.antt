use Rattle.std.proofs.Common.{◌∙◌, ℕ, List, map, None, sym, ap, subst, arith}
use Rattle.lay_code.specs.declared.exprs.Expr.{Expr}
use Rattle.lay_code.specs.declared.exprs.Step.TheVariants as step
use Rattle.lay_depth.specs.nodes.Depths.{greatest}
use Rattle.lay_build_types.specs.Answers.{Gives}
use Rattle.lay_build_types.specs.Kinds.{form_of_expr}
use Rattle.lay_build_exprs.specs.Nodes as node
use Rattle.lay_build_exprs.specs.Parts.{WithNeed}
use Rattle.lay_build_exprs.proofs.PartLemmas.{always, operand_within, need_of}
use Rattle.lay_build_exprs.proofs.StepLemmas.{method_depth}
use Rattle.lay_build_exprs.proofs.steps.add_method.Goals as goal

pub stepped-requires-clause-need : goal.stepped-requires-clause-need
stepped-requires-clause-need c =
    need_of (node.operand c.args.base.now) (c.operand.new.expr, c.in_ok-need.need) c.in_ok-need.ensures

pub stepped-requires-clause-low : goal.stepped-requires-clause-low
stepped-requires-clause-low c =
    let n = ap (λ (p : Expr × ℕ). p.1) c.in_ok-need.ensures in
    let within = operand_within c.args.base.now (omega (arith, c.requires.need, c.requires.within)) in omega (arith, n, within)

pub stepped-requires-clause-more : goal.stepped-requires-clause-more
stepped-requires-clause-more c =
    let parts = c.in_ok-args.ensures in
    parts.need ∙ ap (λ (xs : List Expr). greatest (map form_of_expr xs)) (sym parts.same) ∙ sym (method_depth c.args.name c.in_ok-args.args)

pub returns-clause-step : goal.returns-clause-step
returns-clause-step c =
    let y = c.stepped.new.base in
    let made = c.stepped.result in
    let x = node.operand c.args.base.now in
    let told =
    subst (λ (p : Expr × ℕ). Gives made (λ n. WithNeed (node.stepped p.0 (step.Method c.args.name None c.in_ok-args.args)) (y, n))) c.in_ok-need.ensures c.stepped.ensures in
    subst (λ (xs : List Expr). Gives made (λ n. WithNeed (node.stepped x (step.Method c.args.name None xs)) (y, n))) c.in_ok-args.ensures.same told

pub returns-clause-kept : goal.returns-clause-kept
returns-clause-kept c = always c.stepped.result c.in_ok-args.ensures.kept
