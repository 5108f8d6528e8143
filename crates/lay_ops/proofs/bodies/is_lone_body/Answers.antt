use Rattle.std.proofs.Common.{sym, ap, ◌&&◌, ◌∙◌}
use Rattle.lay_code.specs.nodes.Code.{about_block}
use Rattle.lay_ops.proofs.BodyFacts.{of_block}
use Rattle.lay_ops.proofs.bodies.is_lone_body.Goals as goal

pub returns-then-is_unlabelled : goal.returns-then-is_unlabelled
returns-then-is_unlabelled c =
    let x = c.in-Block in
    let bare = sym c.if-is_unlabelled.true ∙ c.is_unlabelled.ensures in
    c.is_lone.ensures ∙ ap (λ b. b && (about_block x.body).lone) bare ∙ of_block c.args.expr.now x.label x.body x.is

pub returns-else-is_unlabelled : goal.returns-else-is_unlabelled
returns-else-is_unlabelled c =
    let x = c.in-Block in
    let labelled = sym c.if-is_unlabelled.false ∙ c.is_unlabelled.ensures in
    c.if-is_unlabelled.false ∙ ap (λ b. b && (about_block x.body).lone) labelled ∙ of_block c.args.expr.now x.label x.body x.is
