use Rattle.std.proofs.Common.{ℕ, ap, subst, arith}
use Rattle.lay_code.specs.declared.exprs.Expr.{Expr}
use Rattle.lay_build_types.specs.Answers.{Gives}
use Rattle.lay_build_exprs.specs.Nodes as node
use Rattle.lay_build_exprs.specs.Parts.{WithNeed}
use Rattle.lay_build_exprs.proofs.ExprLemmas.{chain_made, operand_made}
use Rattle.lay_build_exprs.proofs.PartLemmas.{always, kept_makes, kept_part, need_of}
use Rattle.lay_build_exprs.proofs.operators.expr_binary.Goals as goal

pub add_operand-need-requires-clause-need : goal.add_operand-need-requires-clause-need
add_operand-need-requires-clause-need c =
    need_of c.args.left c.into_parts-left.result c.into_parts-left.ensures.parts

pub add_operand-need-requires-clause-within : goal.add_operand-need-requires-clause-within
add_operand-need-requires-clause-within c =
    let n = ap (λ (p : Expr × ℕ). p.1) c.into_parts-left.ensures.parts in
    let within = c.into_parts-left.ensures.kept.within in omega (arith, n, within)

pub add_operand-need-requires-clause-more : goal.add_operand-need-requires-clause-more
add_operand-need-requires-clause-more c =
    need_of c.args.right c.into_parts-right.result c.into_parts-right.ensures.parts

pub add_operand-need-requires-clause-little : goal.add_operand-need-requires-clause-little
add_operand-need-requires-clause-little c =
    let n = ap (λ (p : Expr × ℕ). p.1) c.into_parts-right.ensures.parts in
    let within = c.into_parts-right.ensures.kept.within in omega (arith, n, within)

pub kept_with-requires : goal.kept_with-requires
kept_with-requires c =
    let op = c.args.op in
    let left = c.args.left in
    let right = c.args.right in
    let y = c.add_operand-need.new.left in
    let need = c.add_operand-need.result in
    let one =
    subst (λ (p : Expr × ℕ). Gives need (λ n. WithNeed (node.expr_binary op p.0 c.into_parts-right.result.0) (y, n))) c.into_parts-left.ensures.parts
    c.add_operand-need.ensures in
    let two = subst (λ (p : Expr × ℕ). Gives need (λ n. WithNeed (node.expr_binary op left p.0) (y, n))) c.into_parts-right.ensures.parts one in
    kept_part (node.expr_binary op left right) y need two
    (always need (chain_made op (node.operand left) (node.operand right) (operand_made left c.into_parts-left.ensures.kept) (operand_made right c.into_parts-right.ensures.kept) c.requires))

pub returns : goal.returns
returns c =
    let op = c.args.op in
    let left = c.args.left in
    let right = c.args.right in
    let y = c.add_operand-need.new.left in
    let need = c.add_operand-need.result in
    let one =
    subst (λ (p : Expr × ℕ). Gives need (λ n. WithNeed (node.expr_binary op p.0 c.into_parts-right.result.0) (y, n))) c.into_parts-left.ensures.parts
    c.add_operand-need.ensures in
    let two = subst (λ (p : Expr × ℕ). Gives need (λ n. WithNeed (node.expr_binary op left p.0) (y, n))) c.into_parts-right.ensures.parts one in
    kept_makes (node.expr_binary op left right) y need c.kept_with.result two c.kept_with.ensures
