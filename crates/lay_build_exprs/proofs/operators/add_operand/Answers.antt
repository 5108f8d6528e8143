use Rattle.std.proofs.Common.{ℕ, ◌+◌, Result, sym, ap, subst, arith}
use Rattle.lay_code.specs.declared.exprs.Expr.{Expr}
use Rattle.lay_build_types.specs.Answers.{Gives}
use Rattle.lay_build_types.specs.declared.built.BuildError.{BuildError}
use Rattle.lay_build_exprs.specs.Nodes as node
use Rattle.lay_build_exprs.specs.Parts.{WithNeed}
use Rattle.lay_build_exprs.proofs.PartLemmas.{chain_with, operand_within}
use Rattle.lay_build_exprs.proofs.operators.add_operand.Goals as goal

pub overflow_add-need : goal.overflow_add-need
overflow_add-need c =
    let right = c.args.right in
    let other =
    subst (λ (r : Result ℕ BuildError). Gives r (λ n. WithNeed (node.operand right) (c.operand-more.new.expr, n))) c.in_ok-more.was c.operand-more.ensures in
    let n = ap (λ (p : Expr × ℕ). p.1) c.in_ok-need.ensures in
    let m = ap (λ (p : Expr × ℕ). p.1) other in
    let first = operand_within c.args.left.now (omega (arith, c.requires.need, c.requires.within)) in
    let second = operand_within right (omega (arith, c.requires.more, c.requires.little)) in omega (arith, n, m, first, second)

pub returns : goal.returns
returns c =
    let right = c.args.right in
    let m = c.in_ok-more.more in
    let other =
    subst (λ (r : Result ℕ BuildError). Gives r (λ n. WithNeed (node.operand right) (c.operand-more.new.expr, n))) c.in_ok-more.was c.operand-more.ensures in
    let boxed = subst (λ (x : Expr). WithNeed (node.operand right) (x, m)) (sym c.in_ok-right.ensures) other in
    chain_with c.args.op c.args.left.now right c.operand.new.expr c.in_ok-right.right c.chain.new.left c.in_ok-need.need m (c.max-need.result + 1)
    c.in_ok-need.ensures boxed c.in_ok-chain.ensures (omega (arith, c.max-need.ensures))
