use Rattle.std.proofs.Common.{◌≡◌, suc, ◌+◌, Some, ap, arith}
use Rattle.std.proofs.lemmas.Result.{err_from_is_err_and}
use Rattle.lay_code.specs.reader.Blocks.{branch_by}
use Rattle.lay_code.specs.reader.Exprs.{while_expr}
use Rattle.lay_code.specs.declared.blocks.Block.{Block}
use Rattle.lay_code.specs.declared.conditions.Condition.{Condition}
use Rattle.lay_code.specs.declared.exprs.Expr.TheVariants as expr
use Rattle.lay_read_tokens.proofs.Steps.{lost}
use Rattle.lay_read_shared.specs.Code.{code_within}
use Rattle.lay_read_branches.proofs.Chains.{while_none, while_read}
use Rattle.lay_read_blocks.proofs.Second.{boxed_read, second_found, second_stopped}
use Rattle.lay_read_branches.proofs.rules.BranchRules.while_expr.Goals as goal

pub returns-in_err-label-clause-read : goal.returns-in_err-label-clause-read
returns-in_err-label-clause-read g c =
    let deeper = code_within c.args.self.now.rules.depth in
    let ts = c.args.at.now in
    let none = c.in_err-label.field-0.0 in
    let p = err_from_is_err_and c.from_residual.result c.from_residual.ensures.1 in
    let stopped = second_stopped (branch_by deeper ts) c.args.label c.branch_by.new.at c.branch_by.result none c.in_err-label.ensures
    c.branch_by.ensures.read in
    rw (p.1, p.2) (lost (branch_by deeper ts) (while_expr deeper c.args.label ts) none stopped (while_none deeper ts c.args.label))

pub returns-clause-read : goal.returns-clause-read
returns-clause-read g c =
    let deeper = code_within c.args.self.now.rules.depth in
    let ts = c.args.at.now in
    let left = c.branch_by.new.at in
    let one = c.in_ok-label in
    let parts = c.into_parts-condition in
    let branch = second_found (branch_by deeper ts) c.args.label left c.branch_by.result one.label one.found one.ensures
    c.branch_by.ensures.read in
    let condition = ap (λ (q : Condition × Block). q.0) parts.ensures in
    let body = ap (λ (q : Condition × Block). q.1) parts.ensures in
    let need : one.found.need + 1 ≡ suc one.found.need = omega arith in
    let read : while_expr deeper c.args.label ts ≡ Some ((expr.While one.label c.into_parts-condition.result.0 c.into_parts-condition.result.1, one.found.need + 1), left) =
    rw (branch.0, condition, body, need) (while_read deeper ts c.args.label one.found.node one.found.need left branch.1) in
    boxed_read (while_expr deeper c.args.label ts) _ _ left c.boxed_found.result read c.boxed_found.ensures.node c.boxed_found.ensures.need
    c.boxed_found.ensures.err
