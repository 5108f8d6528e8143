use Rattle.std.proofs.Common.{ap, ◌∙◌}
use Rattle.lay_code.specs.Operands.{expr_lead_by}
use Rattle.lay_ops.proofs.FirstCharacter.{lead_there}
use Rattle.lay_ops.proofs.operands.expr_lead_at.Goals as goal

pub returns-in-Some : goal.returns-in-Some
returns-in-Some c =
    let t = c.in-Some.token.now in
    c.expr_lead_by.ensures ∙ ap (λ text. expr_lead_by t.kind text c.args.at.now) c.as_bytes.ensures
    ∙ lead_there c.args.at.now t c.in-Some.ensures.token
