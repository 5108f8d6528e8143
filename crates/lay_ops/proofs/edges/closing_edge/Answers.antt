use Rattle.std.proofs.Common.{◌&&◌, not, sym, ap, ◌∙◌}
use Rattle.lay_code.specs.nodes.Bodies.{is_lone_body}
use Rattle.lay_code.specs.nodes.Code.{about_expr}
use Rattle.lay_code.specs.declared.exprs.Expr.{Expr}
use Rattle.lay_code.proofs.nodes.ExprsLaws.{expr_assign_is, expr_closure_is, expr_unary_is}
use Rattle.lay_ops.proofs.EdgeFacts.{by_kind, no_chain, of_chain}
use Rattle.lay_ops.proofs.edges.closing_edge.Goals as goal

pub returns-in-Some-clause-told : goal.returns-in-Some-clause-told
returns-in-Some-clause-told c =
    let x = c.in-Chain in
    ap (λ (y : Expr). (about_expr y).tight) c.get.ensures
    ∙ of_chain c.args.expr.now x.first x.rest c.as_slice.result.now c.in-Some.field-0.now x.is c.as_slice.ensures c.in-Some.ensures.value

pub returns-in-None-clause-told : goal.returns-in-None-clause-told
returns-in-None-clause-told c =
    let x = c.in-Chain in
    no_chain c.args.expr.now x.first x.rest c.as_slice.result.now x.is c.as_slice.ensures c.in-None.ensures.value

pub returns-in-Unary-clause-told : goal.returns-in-Unary-clause-told
returns-in-Unary-clause-told c =
    let x = c.in-Unary in
    ap (λ (y : Expr). (about_expr y).tight) c.get-in-Unary.ensures
    ∙ by_kind (λ F. F.tight) _ _ x.is (expr_unary_is x.prefixes x.operand)

pub returns-in-Assign-clause-told : goal.returns-in-Assign-clause-told
returns-in-Assign-clause-told c =
    let x = c.in-Assign in
    ap (λ (y : Expr). (about_expr y).tight) c.get-in-Assign.ensures
    ∙ by_kind (λ F. F.tight) _ _ x.is (expr_assign_is x.targets x.value)

pub returns-then-is_lone_body-clause-told : goal.returns-then-is_lone_body-clause-told
returns-then-is_lone_body-clause-told c =
    let x = c.in-Closure in
    let same = ap (λ (y : Expr). is_lone_body (about_expr y).kind) c.get-in-Closure.ensures in
    let lone = sym c.if-is_lone_body.true ∙ c.is_lone_body.ensures ∙ same in
    ap (λ b. not b && (about_expr x.body).tight) lone
    ∙ by_kind (λ F. F.tight) _ _ x.is (expr_closure_is x.is_async x.moves x.params x.body)

pub returns-else-is_lone_body-clause-told : goal.returns-else-is_lone_body-clause-told
returns-else-is_lone_body-clause-told c =
    let x = c.in-Closure in
    let same = ap (λ (y : Expr). is_lone_body (about_expr y).kind) c.get-in-Closure.ensures in
    let other = sym c.if-is_lone_body.false ∙ c.is_lone_body.ensures ∙ same in
    ap (λ (y : Expr). (about_expr y).tight) c.get-else-is_lone_body.ensures
    ∙ ap (λ b. not b && (about_expr x.body).tight) other
    ∙ by_kind (λ F. F.tight) _ _ x.is (expr_closure_is x.is_async x.moves x.params x.body)
