use Rattle.std.proofs.Common.{ℕ, sym, ap, subst, arith}
use Rattle.lay_code.specs.declared.exprs.Expr.{Expr}
use Rattle.lay_code.specs.declared.exprs.Step.TheVariants as step
use Rattle.lay_build_types.specs.Answers.{Gives}
use Rattle.lay_build_exprs.specs.Nodes as node
use Rattle.lay_build_exprs.specs.Parts.{WithNeed}
use Rattle.lay_build_exprs.proofs.PartLemmas.{need_of, operand_within}
use Rattle.lay_build_exprs.proofs.StepLemmas.{field_depth}
use Rattle.lay_build_exprs.proofs.steps.add_field.Goals as goal

pub stepped-requires-clause-need : goal.stepped-requires-clause-need
stepped-requires-clause-need c =
    need_of (node.operand c.args.base.now) (c.operand.new.expr, c.in_ok-need.need) c.in_ok-need.ensures

pub stepped-requires-clause-low : goal.stepped-requires-clause-low
stepped-requires-clause-low c =
    let n = ap (λ (p : Expr × ℕ). p.1) c.in_ok-need.ensures in
    let within = operand_within c.args.base.now (omega (arith, c.requires.need, c.requires.within)) in omega (arith, n, within)

pub stepped-requires-clause-more : goal.stepped-requires-clause-more
stepped-requires-clause-more c = sym (field_depth c.args.name)

pub returns : goal.returns
returns c =
    let y = c.stepped.new.base in
    subst (λ (p : Expr × ℕ). Gives c.stepped.result (λ n. WithNeed (node.stepped p.0 (step.Field c.args.name)) (y, n))) c.in_ok-need.ensures c.stepped.ensures
