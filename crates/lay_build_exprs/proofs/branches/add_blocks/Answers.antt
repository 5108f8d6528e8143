use Rattle.std.proofs.Common.{ℕ, ap, arith}
use Rattle.lay_code.specs.declared.exprs.Expr.{Expr}
use Rattle.lay_build_exprs.proofs.PartLemmas.{if_with, test_within}
use Rattle.lay_build_exprs.proofs.branches.add_blocks.Goals as goal

pub overflow_add-need : goal.overflow_add-need
overflow_add-need c =
    let n = ap (λ (p : Expr × ℕ). p.1) c.in_ok-need.ensures in
    let within = test_within c.args.test.now (omega (arith, c.requires.need, c.requires.within)) in omega (arith, n, within)

pub returns : goal.returns
returns c =
    let x = c.args.test.now in
    if_with x c.args.body c.args.otherwise c.test.new.expr c.one_branch.new.test c.in_ok-need.need c.max-need.result c.in_ok-need.ensures
    c.in_ok-one_branch.ensures (omega (arith, c.max-need.ensures, c.requires.blocks))
