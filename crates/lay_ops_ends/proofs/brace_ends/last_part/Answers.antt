use Rattle.std.proofs.Common.{ap, ◌∙◌}
use Rattle.lay_code.specs.nodes.Code.{about_expr}
use Rattle.lay_code.specs.nodes.Ends.{ends_in_brace}
use Rattle.lay_code.specs.declared.exprs.Expr.{Expr}
use Rattle.lay_ops_ends.proofs.ExprBraces.{no_cast, no_chain, no_steps, of_assign, of_call, of_cast, of_chain, of_closure, of_if, of_lit, of_path, of_unary, some_steps}
use Rattle.lay_ops_ends.proofs.brace_ends.last_part.Goals as goal

pub returns-in-Lit-clause-told : goal.returns-in-Lit-clause-told
returns-in-Lit-clause-told c = c.is_brace_kind.ensures ∙ of_lit c.args.expr.now c.in-Lit.literal c.in-Lit.is

pub returns-in-Path-clause-told : goal.returns-in-Path-clause-told
returns-in-Path-clause-told c =
    c.type_edge_of.ensures.told ∙ c.code_edge.ensures.told ∙ of_path c.args.expr.now c.in-Path.path c.in-Path.is

pub returns-in-Call-clause-told : goal.returns-in-Call-clause-told
returns-in-Call-clause-told c = c.is_brace.ensures ∙ of_call c.args.expr.now c.in-Call.call c.in-Call.is

pub returns-in-Some-clause-told : goal.returns-in-Some-clause-told
returns-in-Some-clause-told c =
    let x = c.in-Chain in
    ap (λ (y : Expr). ends_in_brace (about_expr y).form) c.get.ensures
    ∙ of_chain c.args.expr.now x.first x.rest c.as_slice.result.now c.in-Some.field-0.now x.is c.as_slice.ensures
    c.in-Some.ensures.value

pub returns-in-None-clause-told : goal.returns-in-None-clause-told
returns-in-None-clause-told c =
    let x = c.in-Chain in
    no_chain c.args.expr.now x.first c.get-in-None.result.now x.rest c.as_slice.result.now x.is c.as_slice.ensures
    c.in-None.ensures.value c.get-in-None.ensures

pub returns-in-Some-last-clause-told : goal.returns-in-Some-last-clause-told
returns-in-Some-last-clause-told c =
    let x = c.in-Cast in
    of_cast c.args.expr.now x.operand x.types c.as_slice-in-Cast.result.now c.in-Some-last.ty.now x.is
    c.as_slice-in-Cast.ensures c.in-Some-last.ensures.value

pub returns-in-None-last-clause-told : goal.returns-in-None-last-clause-told
returns-in-None-last-clause-told c =
    let x = c.in-Cast in
    no_cast c.args.expr.now x.operand c.get-in-None-last.result.now x.types c.as_slice-in-Cast.result.now x.is
    c.as_slice-in-Cast.ensures c.in-None-last.ensures.value c.get-in-None-last.ensures

pub returns-in-Unary-clause-told : goal.returns-in-Unary-clause-told
returns-in-Unary-clause-told c =
    let x = c.in-Unary in
    of_unary c.args.expr.now x.operand c.get-in-Unary.result.now x.prefixes x.is c.get-in-Unary.ensures

pub returns-in-Assign-clause-told : goal.returns-in-Assign-clause-told
returns-in-Assign-clause-told c =
    let x = c.in-Assign in
    of_assign c.args.expr.now x.value c.get-in-Assign.result.now x.targets x.is c.get-in-Assign.ensures

pub returns-in-Closure-clause-told : goal.returns-in-Closure-clause-told
returns-in-Closure-clause-told c =
    let x = c.in-Closure in
    of_closure c.args.expr.now x.body c.get-in-Closure.result.now x.is_async x.moves x.params x.is c.get-in-Closure.ensures

pub returns-then-is_empty-clause-told : goal.returns-then-is_empty-clause-told
returns-then-is_empty-clause-told c =
    let x = c.in-Postfix in
    no_steps c.args.expr.now x.base c.get-then-is_empty.result.now x.steps c.as_slice-in-Postfix.result.now c.is_empty.result
    x.is c.as_slice-in-Postfix.ensures c.is_empty.ensures c.if-is_empty.true c.get-then-is_empty.ensures

pub returns-else-is_empty-clause-told : goal.returns-else-is_empty-clause-told
returns-else-is_empty-clause-told c =
    let x = c.in-Postfix in
    some_steps c.args.expr.now x.base x.steps c.as_slice-in-Postfix.result.now c.is_empty.result x.is
    c.as_slice-in-Postfix.ensures c.is_empty.ensures c.if-is_empty.false

pub returns-in-If-clause-told : goal.returns-in-If-clause-told
returns-in-If-clause-told c =
    let x = c.in-If in
    c.has_block.ensures ∙ of_if c.args.expr.now x.branches c.as_slice-in-If.result.now x.otherwise x.is c.as_slice-in-If.ensures
