use Rattle.std.proofs.Common.{ℕ, ap, subst, arith}
use Rattle.lay_code.specs.declared.exprs.Expr.{Expr}
use Rattle.lay_build_types.specs.Answers.{Gives}
use Rattle.lay_build_exprs.specs.Nodes as node
use Rattle.lay_build_exprs.specs.Parts.{WithNeed}
use Rattle.lay_build_exprs.proofs.PartLemmas.{on_ok, kept_makes, kept_part, need_of}
use Rattle.lay_build_exprs.proofs.StepLemmas.{expr_call_made}
use Rattle.lay_build_exprs.proofs.steps.expr_call.Goals as goal

pub add_call-need-requires-clause-need : goal.add_call-need-requires-clause-need
add_call-need-requires-clause-need c =
    need_of c.args.base c.into_parts-base.result c.into_parts-base.ensures.parts

pub add_call-need-requires-clause-within : goal.add_call-need-requires-clause-within
add_call-need-requires-clause-within c =
    let n = ap (λ (p : Expr × ℕ). p.1) c.into_parts-base.ensures.parts in
    let within = c.into_parts-base.ensures.kept.within in omega (arith, n, within)

pub kept_with-requires : goal.kept_with-requires
kept_with-requires c =
    let base = c.args.base in
    let y = c.add_call-need.new.base in
    let need = c.add_call-need.result in
    let told =
    subst (λ (p : Expr × ℕ). Gives need (λ n. WithNeed (node.expr_call p.0 c.args.args) (y, n))) c.into_parts-base.ensures.parts c.add_call-need.ensures.step in
    kept_part (node.expr_call base c.args.args) y need told
    (on_ok need (expr_call_made base c.into_parts-base.ensures.kept c.args.args) c.add_call-need.ensures.kept)

pub returns : goal.returns
returns c =
    let base = c.args.base in
    let y = c.add_call-need.new.base in
    let need = c.add_call-need.result in
    let told =
    subst (λ (p : Expr × ℕ). Gives need (λ n. WithNeed (node.expr_call p.0 c.args.args) (y, n))) c.into_parts-base.ensures.parts c.add_call-need.ensures.step in
    kept_makes (node.expr_call base c.args.args) y need c.kept_with.result told c.kept_with.ensures
