use Rattle.std.proofs.Common.{drop, Some, sym, ap, ◌∙◌, if◌then◌else◌}
use Rattle.lay_code.specs.reader.Exprs.{label_expr, labelled_expr}
use Rattle.lay_read_types.proofs.Steps.{found_by}
use Rattle.lay_read_shared.specs.Code.{code_within}
use Rattle.lay_read_branches.proofs.Chains.{label_is}
use Rattle.lay_read_branches.proofs.rules.BranchRules.label_expr.Goals as goal

pub returns-clause-read : goal.returns-clause-read
returns-clause-read g c =
    let deeper = code_within c.args.self.now.rules.depth in
    let ts = c.args.at.now in
    let label = c.in_ok-label.label in
    let left = c.read_lifetime.new.at in
    let op = sym c.takes_op.ensures.found ∙ c.if-not-takes_op.false in
    let behind = c.takes_op.ensures.passed ∙ ap (λ b. if b then drop 1 left else left) c.if-not-takes_op.false in
    found_by (label_expr deeper ts) (labelled_expr deeper (Some label) c.takes_op.new.at) c.labelled_expr.result c.labelled_expr.new.at
    (label_is deeper ts label left c.in_ok-label.ensures op ∙ ap (labelled_expr deeper (Some label)) (sym behind))
    c.labelled_expr.ensures.read
