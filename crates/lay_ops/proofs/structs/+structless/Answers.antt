use Rattle.std.proofs.Common.{◌&&◌, option_map, sym, ap, ◌∙◌}
use Rattle.lay_code.specs.nodes.Code.{about_expr}
use Rattle.lay_code.specs.nodes.Exprs.{structless_end}
use Rattle.lay_code.specs.declared.exprs.Expr.{Expr}
use Rattle.lay_code.proofs.nodes.ExprsLaws.{expr_range_is, expr_struct_is}
use Rattle.lay_ops.specs.Edges.{structless_operands, structless_targets}
use Rattle.lay_ops.proofs.EdgeFacts.{assign_structless, by_kind, chain_structless, jump_structless, part_structless}
use Rattle.lay_ops.proofs.structs.+structless.Goals as goal

pub is_structless-returns-then-is_structless : goal.is_structless-returns-then-is_structless
is_structless-returns-then-is_structless g c =
    let x = c.in-Chain in
    let first = sym c.if-is_structless.true ∙ c.is_structless.ensures ∙ ap (λ (y : Expr). (about_expr y).structless) c.get.ensures in
    c.are_operands_structless.ensures ∙ ap structless_operands c.as_slice.ensures ∙ ap (λ b. b && structless_operands x.rest) first
    ∙ chain_structless c.args.expr.now x.first x.rest x.is

pub is_structless-returns-else-is_structless : goal.is_structless-returns-else-is_structless
is_structless-returns-else-is_structless g c =
    let x = c.in-Chain in
    let first = sym c.if-is_structless.false ∙ c.is_structless.ensures ∙ ap (λ (y : Expr). (about_expr y).structless) c.get.ensures in
    c.if-is_structless.false ∙ ap (λ b. b && structless_operands x.rest) first
    ∙ chain_structless c.args.expr.now x.first x.rest x.is

pub is_structless-returns-then-are_targets_structless : goal.is_structless-returns-then-are_targets_structless
is_structless-returns-then-are_targets_structless g c =
    let x = c.in-Assign in
    let targets = sym c.if-are_targets_structless.true ∙ c.are_targets_structless.ensures
    ∙ ap structless_targets c.as_slice-in-Assign.ensures in
    c.is_structless-then-are_targets_structless.ensures
    ∙ ap (λ (y : Expr). (about_expr y).structless) c.get-then-are_targets_structless.ensures
    ∙ ap (λ b. b && (about_expr x.value).structless) targets ∙ assign_structless c.args.expr.now x.value x.targets x.is

pub is_structless-returns-else-are_targets_structless : goal.is_structless-returns-else-are_targets_structless
is_structless-returns-else-are_targets_structless g c =
    let x = c.in-Assign in
    let targets = sym c.if-are_targets_structless.false ∙ c.are_targets_structless.ensures
    ∙ ap structless_targets c.as_slice-in-Assign.ensures in
    c.if-are_targets_structless.false ∙ ap (λ b. b && (about_expr x.value).structless) targets
    ∙ assign_structless c.args.expr.now x.value x.targets x.is

pub is_structless-returns-then-is_start_structless : goal.is_structless-returns-then-is_start_structless
is_structless-returns-then-is_start_structless g c =
    let x = c.in-Range in
    let start = sym c.if-is_start_structless.true ∙ c.is_start_structless.ensures in
    c.is_end_structless.ensures ∙ ap (λ b. b && structless_end (option_map about_expr x.end)) start
    ∙ by_kind (λ F. F.structless) _ _ x.is (expr_range_is x.start x.inclusive x.end)

pub is_structless-returns-else-is_start_structless : goal.is_structless-returns-else-is_start_structless
is_structless-returns-else-is_start_structless g c =
    let x = c.in-Range in
    let start = sym c.if-is_start_structless.false ∙ c.is_start_structless.ensures in
    c.if-is_start_structless.false ∙ ap (λ b. b && structless_end (option_map about_expr x.end)) start
    ∙ by_kind (λ F. F.structless) _ _ x.is (expr_range_is x.start x.inclusive x.end)

pub is_structless-returns-in-Return : goal.is_structless-returns-in-Return
is_structless-returns-in-Return g c =
    c.is_end_structless-in-Return.ensures ∙ jump_structless c.args.expr.now c.in-Return.operand c.in-Return.is

pub is_structless-returns-in-Cast : goal.is_structless-returns-in-Cast
is_structless-returns-in-Cast g c =
    c.is_structless-in-Cast.ensures ∙ ap (λ (y : Expr). (about_expr y).structless) c.get-in-Cast.ensures
    ∙ part_structless c.args.expr.now c.in-Cast.part c.in-Cast.is
