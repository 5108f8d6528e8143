use Rattle.std.proofs.Common.{ap, sym, ◌∙◌, drop, length}
use Rattle.lay_code.specs.reader.Code.{expr_at}
use Rattle.lay_read_shared.specs.Code.{code_within}
use Rattle.lay_read_operators.proofs.Steps.{operand_read, operand_stops}
use Rattle.lay_read_operators.proofs.rules.ExprRules.operand.Goals as goal

pub returns-then-not-operand_ends-clause-read : goal.returns-then-not-operand_ends-clause-read
returns-then-not-operand_ends-clause-read g c =
    let ts = c.args.at.now in
    let mid = c.pass_tokens.new.at in
    let found = c.in_ok-found.found in
    let passed = c.pass_tokens.ensures ∙ ap (λ text. drop (length text) ts) c.text.ensures in
    let ends = rw c.get.ensures at c.operand_ends.ensures in
    let read = ap (λ p. expr_at p c.args.self.now.depth mid) (sym c.plain.ensures) ∙ c.in_ok-found.ensures.read in
    rw c.refused.ensures (operand_stops (code_within c.args.self.now.depth) c.args.place.0 c.args.place.1 ts c.in-Some.op
    mid found.node found.need c.inner.new.at (sym c.binary.ensures ∙ c.in-Some.is) passed read
    (sym ends ∙ c.if-not-operand_ends.true))

pub returns-clause-read : goal.returns-clause-read
returns-clause-read g c =
    let ts = c.args.at.now in
    let mid = c.pass_tokens.new.at in
    let found = c.in_ok-found.found in
    let passed = c.pass_tokens.ensures ∙ ap (λ text. drop (length text) ts) c.text.ensures in
    let ends = rw c.get.ensures at c.operand_ends.ensures in
    let read = ap (λ p. expr_at p c.args.self.now.depth mid) (sym c.plain.ensures) ∙ c.in_ok-found.ensures.read in
    operand_read (code_within c.args.self.now.depth) c.args.place.0 c.args.place.1 ts c.in-Some.op mid found.node
    found.need c.inner.new.at (sym c.binary.ensures ∙ c.in-Some.is) passed read
    (sym ends ∙ c.if-not-operand_ends.false)
