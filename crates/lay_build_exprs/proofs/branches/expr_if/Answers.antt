use Rattle.std.proofs.Common.{ℕ, Option, ap, subst, arith}
use Rattle.lay_form.specs.Depth.{least_depth}
use Rattle.lay_code.specs.declared.blocks.Block.{Block}
use Rattle.lay_code.specs.declared.exprs.Expr.{Expr}
use Rattle.lay_build_types.specs.Answers.{Gives, need_if}
use Rattle.lay_build_types.specs.Kinds.{form_of_block}
use Rattle.lay_build_exprs.specs.Nodes as node
use Rattle.lay_build_exprs.specs.Parts.{WithNeed}
use Rattle.lay_build_exprs.proofs.BranchLemmas.{if_made, test_made}
use Rattle.lay_build_exprs.proofs.PartLemmas.{always, kept_makes, kept_part, need_of, own_need}
use Rattle.lay_build_exprs.proofs.branches.expr_if.Goals as goal

pub add_blocks-need-requires-clause-need : goal.add_blocks-need-requires-clause-need
add_blocks-need-requires-clause-need c =
    need_of c.args.test c.into_parts-test.result c.into_parts-test.ensures.parts

pub add_blocks-need-requires-clause-within : goal.add_blocks-need-requires-clause-within
add_blocks-need-requires-clause-within c =
    let n = ap (λ (p : Expr × ℕ). p.1) c.into_parts-test.ensures.parts in
    let within = c.into_parts-test.ensures.kept.within in omega (arith, n, within)

pub add_blocks-need-requires-clause-blocks : goal.add_blocks-need-requires-clause-blocks
add_blocks-need-requires-clause-blocks c =
    let body = own_need (λ (b : Block). least_depth (form_of_block b)) c.args.then c.into_parts-body.result c.into_parts-body.ensures.parts in
    let other = own_need (need_if form_of_block) c.args.other c.part_or_none-otherwise.result c.part_or_none-otherwise.ensures.part in
    omega (arith, c.max.ensures, body, other)

pub kept_with-requires : goal.kept_with-requires
kept_with-requires c =
    let x = c.args.test in
    let body = c.args.then in
    let other = c.args.other in
    let y = c.add_blocks-need.new.test in
    let need = c.add_blocks-need.result in
    let o = c.part_or_none-otherwise.result.0 in
    let one =
    subst (λ (p : Expr × ℕ). Gives need (λ n. WithNeed (node.expr_if p.0 c.into_parts-body.result.0 o) (y, n))) c.into_parts-test.ensures.parts
    c.add_blocks-need.ensures in
    let two = subst (λ (p : Block × ℕ). Gives need (λ n. WithNeed (node.expr_if x p.0 o) (y, n))) c.into_parts-body.ensures.parts one in
    let three = subst (λ (p : Option Block × ℕ). Gives need (λ n. WithNeed (node.expr_if x body p.0) (y, n))) c.part_or_none-otherwise.ensures.part two in
    kept_part (node.expr_if x body other) y need three
    (always need (if_made (node.test x) body (test_made x c.into_parts-test.ensures.kept) c.into_parts-body.ensures.kept other c.part_or_none-otherwise.ensures.kept))

pub returns : goal.returns
returns c =
    let x = c.args.test in
    let body = c.args.then in
    let other = c.args.other in
    let y = c.add_blocks-need.new.test in
    let need = c.add_blocks-need.result in
    let o = c.part_or_none-otherwise.result.0 in
    let one =
    subst (λ (p : Expr × ℕ). Gives need (λ n. WithNeed (node.expr_if p.0 c.into_parts-body.result.0 o) (y, n))) c.into_parts-test.ensures.parts
    c.add_blocks-need.ensures in
    let two = subst (λ (p : Block × ℕ). Gives need (λ n. WithNeed (node.expr_if x p.0 o) (y, n))) c.into_parts-body.ensures.parts one in
    let three = subst (λ (p : Option Block × ℕ). Gives need (λ n. WithNeed (node.expr_if x body p.0) (y, n))) c.part_or_none-otherwise.ensures.part two in
    kept_makes (node.expr_if x body other) y need c.kept_with.result three c.kept_with.ensures
