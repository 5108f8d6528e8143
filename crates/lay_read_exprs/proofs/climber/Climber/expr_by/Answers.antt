use Rattle.std.proofs.Common.{ℕ, ◌+◌, sym, ◌∙◌}
use Rattle.std.proofs.lemmas.Result.{err_from_is_err_and}
use Rattle.lay_code.specs.Operands.{expr_lead_at}
use Rattle.lay_code.specs.reader.Exprs.{accepted, expr_by, head_by}
use Rattle.lay_code.specs.declared.exprs.Expr.{Expr}
use Rattle.lay_read_tokens.proofs.Steps.{lost}
use Rattle.lay_read_types.proofs.Steps.{found_by}
use Rattle.lay_read_shared.specs.Code.{code_within}
use Rattle.lay_read_blocks.specs.Answers.{fits}
use Rattle.lay_read_operators.specs.Answers.{climbed}
use Rattle.lay_read_exprs.proofs.HeadSteps.{ended_head, going_head, lost_head}
use Rattle.lay_read_exprs.proofs.climber.Climber.expr_by.Goals as goal

pub returns-in_err-head-clause-read : goal.returns-in_err-head-clause-read
returns-in_err-head-clause-read g c =
    let deeper = code_within c.args.self.now.rules.depth in
    let budget = c.args.self.now.rules.depth + 1 in
    let place = c.args.place in
    let ts = c.args.at.now in
    let p = err_from_is_err_and c.from_residual.result c.from_residual.ensures.1 in
    rw (p.1, p.2) (lost (fits budget (head_by deeper place.no_struct (expr_lead_at ts) ts)) (expr_by deeper budget place ts)
    c.in_err-head.field-0.0 c.in_err-head.ensures.read (lost_head deeper budget place ts))

pub returns-then-is_ended-clause-read : goal.returns-then-is_ended-clause-read
returns-then-is_ended-clause-read g c =
    let deeper = code_within c.args.self.now.rules.depth in
    let budget = c.args.self.now.rules.depth + 1 in
    let place = c.args.place in
    let ts = c.args.at.now in
    let mid = c.head.new.at in
    let head : Expr × ℕ = (c.in_ok-head.head.node, c.in_ok-head.head.need) in
    let ends = rw c.get.ensures at c.is_ended.ensures in
    found_by (expr_by deeper budget place ts) (accepted budget place head mid) c.accepted.result mid
    (ended_head deeper budget place ts head mid c.in_ok-head.ensures.read (sym ends ∙ c.if-is_ended.true))
    c.accepted.ensures.read

pub returns-else-is_ended-clause-read : goal.returns-else-is_ended-clause-read
returns-else-is_ended-clause-read g c =
    let deeper = code_within c.args.self.now.rules.depth in
    let budget = c.args.self.now.rules.depth + 1 in
    let place = c.args.place in
    let ts = c.args.at.now in
    let mid = c.head.new.at in
    let head : Expr × ℕ = (c.in_ok-head.head.node, c.in_ok-head.head.need) in
    let ends = rw c.get.ensures at c.is_ended.ensures in
    found_by (expr_by deeper budget place ts) (climbed deeper budget place 14 head mid) c.climb.result c.climb.new.at
    (going_head deeper budget place ts head mid c.in_ok-head.ensures.read (sym ends ∙ c.if-is_ended.false))
    c.climb.ensures.read
