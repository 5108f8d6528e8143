use Rattle.std.proofs.Common.{ap, ◌∙◌}
use Rattle.lay_code.specs.nodes.Code.{about_expr}
use Rattle.lay_code.specs.nodes.Exprs.{Tail}
use Rattle.lay_code.specs.declared.exprs.Expr.{Expr}
use Rattle.lay_ops.proofs.ExprEnds.{no_chain, of_assign, of_chain}
use Rattle.lay_ops_ends.proofs.ExprBraces.{unary_closes}
use Rattle.lay_ops_ends.proofs.brace_ends.closure_edge.Goals as goal

pub returns-in-Some-clause-told : goal.returns-in-Some-clause-told
returns-in-Some-clause-told c =
    let x = c.in-Chain in
    ap (λ (y : Expr). (about_expr y).tail.closure) c.get.ensures
    ∙ ap (λ (t : Tail). t.closure) (of_chain c.args.expr.now x.first x.rest c.as_slice.result.now c.in-Some.field-0.now x.is
    c.as_slice.ensures c.in-Some.ensures.value)

pub returns-in-None-clause-told : goal.returns-in-None-clause-told
returns-in-None-clause-told c =
    let x = c.in-Chain in
    ap (λ (t : Tail). t.closure) (no_chain c.args.expr.now x.first x.rest c.as_slice.result.now x.is c.as_slice.ensures
    c.in-None.ensures.value)

pub returns-in-Unary-clause-told : goal.returns-in-Unary-clause-told
returns-in-Unary-clause-told c =
    let x = c.in-Unary in unary_closes c.args.expr.now x.operand c.get-in-Unary.result.now x.prefixes x.is c.get-in-Unary.ensures

pub returns-in-Assign-clause-told : goal.returns-in-Assign-clause-told
returns-in-Assign-clause-told c =
    let x = c.in-Assign in
    ap (λ (t : Tail). t.closure) (of_assign c.args.expr.now x.value c.get-in-Assign.result.now x.targets x.is c.get-in-Assign.ensures)
