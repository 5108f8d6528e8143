use Rattle.std.proofs.Common.{◌||◌, sym, ap, ◌∙◌}
use Rattle.lay_code.specs.nodes.Code.{about_expr}
use Rattle.lay_code.specs.nodes.Exprs.{begins_part}
use Rattle.lay_code.specs.declared.exprs.Expr.{Expr}
use Rattle.lay_code.proofs.nodes.ExprsLaws.{expr_cast_is, expr_chain_is, expr_postfix_is}
use Rattle.lay_ops.specs.Edges.{dotted_first}
use Rattle.lay_ops.proofs.EdgeFacts.{by_kind, first_target, no_target}
use Rattle.lay_ops.proofs.edges.starting_edge.Goals as goal

pub returns-in-Chain-clause-told : goal.returns-in-Chain-clause-told
returns-in-Chain-clause-told c =
    let x = c.in-Chain in
    ap (λ (y : Expr). begins_part (about_expr y)) c.get.ensures ∙ by_kind (λ F. F.starts) _ _ x.is (expr_chain_is x.first x.rest)

pub returns-in-Cast-clause-told : goal.returns-in-Cast-clause-told
returns-in-Cast-clause-told c =
    let x = c.in-Cast in
    ap (λ (y : Expr). begins_part (about_expr y)) c.get-in-Cast.ensures ∙ by_kind (λ F. F.starts) _ _ x.is (expr_cast_is x.operand x.types)

pub returns-in-empty-clause-told : goal.returns-in-empty-clause-told
returns-in-empty-clause-told c =
    let x = c.in-Assign in no_target x.targets c.as_slice.result.now _ x.value x.is c.as_slice.ensures c.in-empty.len_below

pub returns-in-len1-up-clause-told : goal.returns-in-len1-up-clause-told
returns-in-len1-up-clause-told c =
    let x = c.in-Assign in
    ap (λ (y : Expr). begins_part (about_expr y)) c.get-in-len1-up.ensures
    ∙ first_target x.targets c.as_slice.result.now c.index-target-0.result _ x.value x.is c.as_slice.ensures c.in-len1-up.len_at_least

pub returns-then-begins_dotted-clause-told : goal.returns-then-begins_dotted-clause-told
returns-then-begins_dotted-clause-told c =
    let x = c.in-Postfix in
    let dotted = sym c.if-begins_dotted.true ∙ c.begins_dotted.ensures ∙ ap dotted_first c.as_slice-in-Postfix.ensures in
    ap (λ b. b || begins_part (about_expr x.base)) dotted ∙ by_kind (λ F. F.starts) _ _ x.is (expr_postfix_is x.base x.steps)

pub returns-else-begins_dotted-clause-told : goal.returns-else-begins_dotted-clause-told
returns-else-begins_dotted-clause-told c =
    let x = c.in-Postfix in
    let dotted = sym c.if-begins_dotted.false ∙ c.begins_dotted.ensures ∙ ap dotted_first c.as_slice-in-Postfix.ensures in
    ap (λ (y : Expr). begins_part (about_expr y)) c.get-else-begins_dotted.ensures
    ∙ ap (λ b. b || begins_part (about_expr x.base)) dotted ∙ by_kind (λ F. F.starts) _ _ x.is (expr_postfix_is x.base x.steps)
