use Rattle.std.proofs.Common.{ℕ, ap, subst, arith}
use Rattle.lay_node.specs.declared.token.Name.{Name}
use Rattle.lay_code.specs.declared.exprs.Expr.{Expr}
use Rattle.lay_build_types.specs.Answers.{Gives}
use Rattle.lay_build_exprs.specs.Nodes as node
use Rattle.lay_build_exprs.specs.Parts.{WithNeed}
use Rattle.lay_build_exprs.proofs.PartLemmas.{always, kept_makes, kept_part, need_of}
use Rattle.lay_build_exprs.proofs.StepLemmas.{expr_field_made}
use Rattle.lay_build_exprs.proofs.steps.expr_field.Goals as goal

pub add_field-need-requires-clause-need : goal.add_field-need-requires-clause-need
add_field-need-requires-clause-need c =
    need_of c.args.base c.into_parts-base.result c.into_parts-base.ensures.parts

pub add_field-need-requires-clause-within : goal.add_field-need-requires-clause-within
add_field-need-requires-clause-within c =
    let n = ap (λ (p : Expr × ℕ). p.1) c.into_parts-base.ensures.parts in
    let within = c.into_parts-base.ensures.kept.within in omega (arith, n, within)

pub kept_with-requires : goal.kept_with-requires
kept_with-requires c =
    let base = c.args.base in
    let y = c.add_field-need.new.base in
    let need = c.add_field-need.result in
    let told =
    subst (λ (p : Expr × ℕ). Gives need (λ n. WithNeed (node.expr_field p.0 c.into_parts-name.result.0) (y, n))) c.into_parts-base.ensures.parts c.add_field-need.ensures in
    let named = subst (λ (p : Name × ℕ). Gives need (λ n. WithNeed (node.expr_field base p.0) (y, n))) c.into_parts-name.ensures.parts told in
    kept_part (node.expr_field base c.args.field) y need named
    (always need (expr_field_made base c.into_parts-base.ensures.kept c.args.field c.into_parts-name.ensures.kept))

pub returns : goal.returns
returns c =
    let base = c.args.base in
    let y = c.add_field-need.new.base in
    let need = c.add_field-need.result in
    let told =
    subst (λ (p : Expr × ℕ). Gives need (λ n. WithNeed (node.expr_field p.0 c.into_parts-name.result.0) (y, n))) c.into_parts-base.ensures.parts c.add_field-need.ensures in
    let named = subst (λ (p : Name × ℕ). Gives need (λ n. WithNeed (node.expr_field base p.0) (y, n))) c.into_parts-name.ensures.parts told in
    kept_makes (node.expr_field base c.args.field) y need c.kept_with.result named c.kept_with.ensures
