use Rattle.std.proofs.Common.{ap, ◌∙◌}
use Rattle.lay_code.specs.nodes.Code.{about_expr}
use Rattle.lay_code.specs.nodes.Exprs.{is_open, is_typed}
use Rattle.lay_code.specs.declared.exprs.Expr.{Expr}
use Rattle.lay_ops.proofs.ExprEnds.{no_chain, of_assign, of_cast, of_chain, of_path, unary_open, unary_typed}
use Rattle.lay_ops.proofs.expr_ends.expr_end.Goals as goal

pub returns-in-Some-clause-open : goal.returns-in-Some-clause-open
returns-in-Some-clause-open c =
    let x = c.in-Chain in
    ap (λ (y : Expr). is_open (about_expr y).tail) c.get.ensures
    ∙ ap is_open (of_chain c.args.expr.now x.first x.rest c.as_slice.result.now c.in-Some.field-0.now x.is c.as_slice.ensures
    c.in-Some.ensures.value)

pub returns-in-Some-clause-typed : goal.returns-in-Some-clause-typed
returns-in-Some-clause-typed c =
    let x = c.in-Chain in
    ap (λ (y : Expr). is_typed (about_expr y).tail) c.get.ensures
    ∙ ap is_typed (of_chain c.args.expr.now x.first x.rest c.as_slice.result.now c.in-Some.field-0.now x.is c.as_slice.ensures
    c.in-Some.ensures.value)

pub returns-in-None-clause-open : goal.returns-in-None-clause-open
returns-in-None-clause-open c =
    let x = c.in-Chain in
    ap is_open (no_chain c.args.expr.now x.first x.rest c.as_slice.result.now x.is c.as_slice.ensures c.in-None.ensures.value)

pub returns-in-None-clause-typed : goal.returns-in-None-clause-typed
returns-in-None-clause-typed c =
    let x = c.in-Chain in
    ap is_typed (no_chain c.args.expr.now x.first x.rest c.as_slice.result.now x.is c.as_slice.ensures c.in-None.ensures.value)

pub returns-in-Unary-clause-open : goal.returns-in-Unary-clause-open
returns-in-Unary-clause-open c =
    let x = c.in-Unary in unary_open c.args.expr.now x.operand c.get-in-Unary.result.now x.prefixes x.is c.get-in-Unary.ensures

pub returns-in-Unary-clause-typed : goal.returns-in-Unary-clause-typed
returns-in-Unary-clause-typed c =
    let x = c.in-Unary in unary_typed c.args.expr.now x.operand c.get-in-Unary.result.now x.prefixes x.is c.get-in-Unary.ensures

pub returns-in-Assign-clause-open : goal.returns-in-Assign-clause-open
returns-in-Assign-clause-open c =
    let x = c.in-Assign in
    ap is_open (of_assign c.args.expr.now x.value c.get-in-Assign.result.now x.targets x.is c.get-in-Assign.ensures)

pub returns-in-Assign-clause-typed : goal.returns-in-Assign-clause-typed
returns-in-Assign-clause-typed c =
    let x = c.in-Assign in
    ap is_typed (of_assign c.args.expr.now x.value c.get-in-Assign.result.now x.targets x.is c.get-in-Assign.ensures)

pub returns-in-Cast-clause-typed : goal.returns-in-Cast-clause-typed
returns-in-Cast-clause-typed c =
    let x = c.in-Cast in
    c.typed_if.ensures.typed ∙ c.last_lacks_args.ensures
    ∙ of_cast c.args.expr.now x.operand x.types c.as_slice-in-Cast.result.now x.is c.as_slice-in-Cast.ensures

pub returns-in-Path-clause-typed : goal.returns-in-Path-clause-typed
returns-in-Path-clause-typed c =
    c.typed_if-in-Path.ensures.typed ∙ c.path_lacks_args.ensures ∙ of_path c.args.expr.now c.in-Path.path c.in-Path.is
