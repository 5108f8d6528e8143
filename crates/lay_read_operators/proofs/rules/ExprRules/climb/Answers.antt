use Rattle.std.proofs.Common.{ℕ, ◌+◌, ◌-◌, sym, ◌∙◌, arith}
use Rattle.std.proofs.lemmas.Result.{err_from_is_err_and}
use Rattle.lay_code.specs.declared.exprs.Expr.{Expr}
use Rattle.lay_code.specs.reader.Exprs.{accepted}
use Rattle.lay_read_tokens.proofs.Steps.{lost}
use Rattle.lay_read_types.proofs.Steps.{found_by}
use Rattle.lay_read_shared.specs.Code.{code_within}
use Rattle.lay_read_operators.specs.Answers.{climb_once, climbed}
use Rattle.lay_read_operators.proofs.Climbing.{climb_done, climbs_none, climbs_on, level_reached}
use Rattle.lay_read_operators.proofs.rules.ExprRules.climb.Goals as goal

pub returns-in_err-lhs-clause-read : goal.returns-in_err-lhs-clause-read
returns-in_err-lhs-clause-read g c =
    let deeper = code_within c.args.self.now.depth in
    let budget = c.args.self.now.depth + 1 in
    let place = c.args.place in
    let ts = c.loop-reached.at in
    let lhs : Expr × ℕ = (c.loop-reached.lhs.node, c.loop-reached.lhs.need) in
    let level = c.strength-reached.result - 1 in
    let p = err_from_is_err_and c.from_residual.result c.from_residual.ensures.1 in
    rw (p.1, p.2) (lost (climb_once deeper budget place level lhs ts)
    (climbed deeper budget place c.args.from (c.args.head.node, c.args.head.need) c.args.at.now) c.in_err-lhs.field-0.0
    c.in_err-lhs.ensures.read
    (λ none. c.loop-reached.invariant.same ∙ climbs_none deeper budget place c.loop-reached.reached c.strength-reached.result
    lhs ts (sym c.goes_on.ensures ∙ c.loop-reached-test.true) c.strength-reached.ensures none))

pub loop-reached-preserved : goal.loop-reached-preserved
loop-reached-preserved g c =
    let deeper = code_within c.args.self.now.depth in
    let budget = c.args.self.now.depth + 1 in
    let place = c.args.place in
    let ts = c.loop-reached.at in
    let lhs : Expr × ℕ = (c.loop-reached.lhs.node, c.loop-reached.lhs.need) in
    let test = sym c.goes_on.ensures ∙ c.loop-reached-test.true in
    let strength = c.strength-reached in
    let reached = c.loop-reached.reached in
    let made = c.in_ok-lhs.lhs in
    record {
      same = c.loop-reached.invariant.same
          ∙ climbs_on deeper budget place reached strength.result lhs ts test strength.ensures (made.node, made.need)
          c.climb_once.new.at c.in_ok-lhs.ensures.read;
      small = omega (
        arith,
        level_reached deeper budget place reached strength.result lhs ts test strength.ensures,
        c.loop-reached.invariant.small,
      );
    }

pub returns-clause-read : goal.returns-clause-read
returns-clause-read g c =
    let deeper = code_within c.args.self.now.depth in
    let budget = c.args.self.now.depth + 1 in
    let place = c.args.place in
    let ts = c.loop-reached.at in
    let lhs : Expr × ℕ = (c.loop-reached.lhs.node, c.loop-reached.lhs.need) in
    let done = climb_done deeper budget place c.loop-reached.reached lhs ts
    (sym c.goes_on.ensures ∙ c.loop-reached-test.false) in
    found_by (climbed deeper budget place c.args.from (c.args.head.node, c.args.head.need) c.args.at.now)
    (accepted budget place lhs ts) c.accepted.result ts (c.loop-reached.invariant.same ∙ done) c.accepted.ensures.read
