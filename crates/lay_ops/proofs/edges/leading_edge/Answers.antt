use Rattle.std.proofs.Common.{ap, ◌∙◌}
use Rattle.lay_code.specs.nodes.Code.{about_expr}
use Rattle.lay_code.specs.nodes.Exprs.{is_brace_lead}
use Rattle.lay_code.specs.declared.exprs.Expr.{Expr}
use Rattle.lay_code.proofs.nodes.ExprsLaws.{expr_block_is, expr_cast_is, expr_chain_is, expr_postfix_is}
use Rattle.lay_ops.proofs.EdgeFacts.{by_kind, first_target_braced, unlabelled, value_braced}
use Rattle.lay_ops.proofs.edges.leading_edge.Goals as goal

pub returns-in-Chain-clause-told : goal.returns-in-Chain-clause-told
returns-in-Chain-clause-told c =
    let x = c.in-Chain in
    ap (λ (y : Expr). is_brace_lead (about_expr y).lead) c.get.ensures
    ∙ by_kind (λ F. is_brace_lead F.lead) _ _ x.is (expr_chain_is x.first x.rest)

pub returns-in-Cast-clause-told : goal.returns-in-Cast-clause-told
returns-in-Cast-clause-told c =
    let x = c.in-Cast in
    ap (λ (y : Expr). is_brace_lead (about_expr y).lead) c.get-in-Cast.ensures
    ∙ by_kind (λ F. is_brace_lead F.lead) _ _ x.is (expr_cast_is x.operand x.types)

pub returns-in-Postfix-clause-told : goal.returns-in-Postfix-clause-told
returns-in-Postfix-clause-told c =
    let x = c.in-Postfix in
    ap (λ (y : Expr). is_brace_lead (about_expr y).lead) c.get-in-Postfix.ensures
    ∙ by_kind (λ F. is_brace_lead F.lead) _ _ x.is (expr_postfix_is x.base x.steps)

pub returns-in-empty-clause-told : goal.returns-in-empty-clause-told
returns-in-empty-clause-told c =
    let x = c.in-Assign in
    ap (λ (y : Expr). is_brace_lead (about_expr y).lead) c.get-in-empty.ensures
    ∙ value_braced x.targets c.as_slice.result.now _ x.value x.is c.as_slice.ensures c.in-empty.len_below

pub returns-in-len1-up-clause-told : goal.returns-in-len1-up-clause-told
returns-in-len1-up-clause-told c =
    let x = c.in-Assign in
    ap (λ (y : Expr). is_brace_lead (about_expr y).lead) c.get-in-len1-up.ensures
    ∙ first_target_braced x.targets c.as_slice.result.now c.index-target-0.result _ x.value x.is c.as_slice.ensures
    c.in-len1-up.len_at_least

pub returns-in-Block-clause-told : goal.returns-in-Block-clause-told
returns-in-Block-clause-told c =
    let x = c.in-Block in
    c.is_unlabelled.ensures ∙ unlabelled x.label ∙ by_kind (λ F. is_brace_lead F.lead) _ _ x.is (expr_block_is x.label x.body)
