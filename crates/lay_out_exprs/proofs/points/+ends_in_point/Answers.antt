use Rattle.std.proofs.Common.{◌&&◌, ap, sym, ◌∙◌}
use Rattle.lay_out_exprs.proofs.PointLemmas as of
use Rattle.lay_out_exprs.proofs.points.+ends_in_point.Goals as goal

pub ends_in_point-returns-in-Lit : goal.ends_in_point-returns-in-Lit
ends_in_point-returns-in-Lit t c = of.lit_point c.args.point _ c.in-Lit.literal _ c.in-Lit.is c.is_pointed.ensures

pub ends_in_point-returns-in-Path : goal.ends_in_point-returns-in-Path
ends_in_point-returns-in-Path t c =
    c.both.ensures ∙ of.path_at_point c.args.point _ c.in-Path.path _ c.in-Path.is c.is_nothing.ensures

pub ends_in_point-returns-in-empty : goal.ends_in_point-returns-in-empty
ends_in_point-returns-in-empty t c =
    of.no_operand c.args.point _ c.in-Chain.first _ c.in-Chain.rest _ _ c.in-Chain.is c.get.ensures c.as_slice.ensures
    c.in-empty.len_below c.ends_in_point.ensures

pub ends_in_point-returns-in-len1-up : goal.ends_in_point-returns-in-len1-up
ends_in_point-returns-in-len1-up t c =
    let last = rw c.get-in-len1-up.ensures at c.ends_in_point-in-len1-up.ensures in
    of.last_operand c.args.point _ c.in-Chain.first c.in-Chain.rest _ c.index-operand.result _ c.in-Chain.is c.as_slice.ensures
    c.in-len1-up.len_at_least last

pub ends_in_point-returns-then-is_empty : goal.ends_in_point-returns-then-is_empty
ends_in_point-returns-then-is_empty t c =
    ap (λ b. b && c.ends_in_point-then-is_empty.result) (sym c.if-is_empty.true ∙ c.is_empty.ensures)
    ∙ of.cast_point c.args.point _ c.in-Cast.operand _ c.in-Cast.types _ _ c.in-Cast.is c.get-then-is_empty.ensures
    c.as_slice-in-Cast.ensures c.ends_in_point-then-is_empty.ensures

pub ends_in_point-returns-else-is_empty : goal.ends_in_point-returns-else-is_empty
ends_in_point-returns-else-is_empty t c =
    c.if-is_empty.false ∙ of.some_types c.args.point _ c.in-Cast.operand c.in-Cast.types _ c.in-Cast.is c.as_slice-in-Cast.ensures
    (sym c.if-is_empty.false ∙ c.is_empty.ensures)

pub ends_in_point-returns-in-Unary : goal.ends_in_point-returns-in-Unary
ends_in_point-returns-in-Unary t c =
    of.unary_point c.args.point _ _ c.in-Unary.operand _ c.in-Unary.prefixes _ _ c.in-Unary.is c.as_slice-in-Unary.ensures
    c.get-in-Unary.ensures (c.both-in-Unary.ensures ∙ ap (λ b. c.args.point && b) c.is_empty-in-Unary.ensures)
    c.ends_in_point-in-Unary.ensures

pub ends_in_point-returns-in-Range : goal.ends_in_point-returns-in-Range
ends_in_point-returns-in-Range t c =
    of.range_point c.args.point _ _ c.in-Range.inclusive c.in-Range.end _ c.in-Range.is c.operand_ends_in_point.ensures

pub ends_in_point-returns-in-Assign : goal.ends_in_point-returns-in-Assign
ends_in_point-returns-in-Assign t c =
    of.assign_point c.args.point _ _ c.in-Assign.value _ c.in-Assign.targets _ _ c.in-Assign.is c.as_slice-in-Assign.ensures
    c.get-in-Assign.ensures (c.both-in-Assign.ensures ∙ ap (λ b. c.args.point && b) c.is_empty-in-Assign.ensures)
    c.ends_in_point-in-Assign.ensures

pub ends_in_point-returns-then-is_empty-2 : goal.ends_in_point-returns-then-is_empty-2
ends_in_point-returns-then-is_empty-2 t c =
    ap (λ b. b && c.ends_in_point-then-is_empty-2.result) (sym c.if-is_empty-2.true ∙ c.is_empty-in-Postfix.ensures)
    ∙ of.postfix_point c.args.point _ c.in-Postfix.base _ c.in-Postfix.steps _ _ c.in-Postfix.is
    c.get-then-is_empty-2.ensures c.as_slice-in-Postfix.ensures c.ends_in_point-then-is_empty-2.ensures

pub ends_in_point-returns-else-is_empty-2 : goal.ends_in_point-returns-else-is_empty-2
ends_in_point-returns-else-is_empty-2 t c =
    c.if-is_empty-2.false
    ∙ of.some_steps_behind c.args.point _ c.in-Postfix.base c.in-Postfix.steps _ c.in-Postfix.is c.as_slice-in-Postfix.ensures
    (sym c.if-is_empty-2.false ∙ c.is_empty-in-Postfix.ensures)

pub ends_in_point-returns-in-None : goal.ends_in_point-returns-in-None
ends_in_point-returns-in-None t c =
    c.both-in-None.ensures ∙ ap (λ b. c.args.point && b) c.is_empty-in-None.ensures
    ∙ of.if_point c.args.point _ c.in-If.branches _ c.in-If.otherwise c.in-If.is c.in-None.is c.as_slice-in-None.ensures

pub ends_in_point-returns-in-Some : goal.ends_in_point-returns-in-Some
ends_in_point-returns-in-Some t c = of.else_point c.args.point _ c.in-If.branches c.in-If.otherwise _ c.in-If.is c.in-Some.is

pub ends_in_point-returns-in-Closure : goal.ends_in_point-returns-in-Closure
ends_in_point-returns-in-Closure t c =
    of.closure_point c.args.point _ _ _ _ c.in-Closure.body _ _ c.in-Closure.is c.get-in-Closure.ensures
    c.ends_in_point-in-Closure.ensures

pub ends_in_point-returns-in-Return : goal.ends_in_point-returns-in-Return
ends_in_point-returns-in-Return t c =
    of.return_point c.args.point _ c.in-Return.operand _ c.in-Return.is c.operand_ends_in_point-in-Return.ensures

pub ends_in_point-returns-in-Break : goal.ends_in_point-returns-in-Break
ends_in_point-returns-in-Break t c =
    of.break_point c.args.point _ _ c.in-Break.operand _ c.in-Break.is c.operand_ends_in_point-in-Break.ensures

pub ends_in_point-returns-in_default : goal.ends_in_point-returns-in_default
ends_in_point-returns-in_default t c =
    of.other_ends c.args.point c.args.node.now (record {
      not_lit = c.in_default.not-Lit;
      not_path = c.in_default.not-Path;
      not_chain = c.in_default.not-Chain;
      not_cast = c.in_default.not-Cast;
      not_unary = c.in_default.not-Unary;
      not_range = c.in_default.not-Range;
      not_assign = c.in_default.not-Assign;
      not_postfix = c.in_default.not-Postfix;
      not_if = c.in_default.not-If;
      not_closure = c.in_default.not-Closure;
      not_return = c.in_default.not-Return;
      not_break = c.in_default.not-Break;
    })
