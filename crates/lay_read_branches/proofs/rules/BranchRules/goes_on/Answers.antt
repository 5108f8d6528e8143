use Rattle.std.proofs.Common.{ℕ, ◌-◌, ◌+◌, sym, ap, ◌∙◌, arith}
use Rattle.lay_code.specs.reader.Code.{code_in}
use Rattle.lay_code.specs.declared.exprs.Expr.{Expr}
use Rattle.lay_code.specs.declared.exprs.Place.{Place}
use Rattle.lay_read_types.proofs.Steps.{found_by}
use Rattle.lay_read_shared.specs.Code.{code_within}
use Rattle.lay_read_operators.specs.Answers.{climbed}
use Rattle.lay_read_branches.proofs.ConditionSteps.{goes_deeper, goes_nowhere}
use Rattle.lay_read_branches.proofs.rules.BranchRules.goes_on.Goals as goal

pub returns-then-self-eq0-clause-read : goal.returns-then-self-eq0-clause-read
returns-then-self-eq0-clause-read g c =
    rw c.refused.ensures
    (goes_nowhere c.args.self.now.rules.depth (c.args.lhs.node, c.args.lhs.need) c.args.at.now (omega arith))

pub returns-clause-read : goal.returns-clause-read
returns-clause-read g c =
    let depth = c.args.self.now.rules.depth in
    let deeper = code_within (depth - 1) in
    let lhs : Expr × ℕ = (c.args.lhs.node, c.args.lhs.need) in
    let ts = c.args.at.now in
    found_by ((code_in depth).goes_on lhs ts) (climbed deeper (depth - 1 + 1) c.plain.result 3 lhs ts) c.climb.result c.climb.new.at
    (goes_deeper depth lhs ts (omega arith)
    ∙ ap (λ (place : Place). climbed deeper (depth - 1 + 1) place 3 lhs ts) (sym c.plain.ensures)) c.climb.ensures.read
