use Rattle.std.proofs.Common.{sym, ◌∙◌}
use Rattle.lay_paren_defs.proofs.KeptLemmas.{enclosed_braces, whole_braces}
use Rattle.lay_out_exprs.proofs.bodies.arm_body_braces.Goals as goal

pub returns-then-is_body_enclosed : goal.returns-then-is_body_enclosed
returns-then-is_body_enclosed g c =
    enclosed_braces g.X.Enclose.on c.args.body.now (sym c.is_body_enclosed.ensures ∙ c.if-is_body_enclosed.true)

pub returns : goal.returns
returns g c =
    c.arm_braces.ensures
    ∙ whole_braces g.X.Enclose.on c.args.body.now (sym c.is_body_enclosed.ensures ∙ c.if-is_body_enclosed.false)
