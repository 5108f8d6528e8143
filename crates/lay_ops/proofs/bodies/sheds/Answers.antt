use Rattle.std.proofs.Common.{sym, ap, ◌&&◌, ◌||◌, ◌∙◌, not}
use Rattle.lay_code.specs.nodes.Code.{about_block}
use Rattle.lay_ops.proofs.BodyFacts.{of_shed}
use Rattle.lay_ops.proofs.bodies.sheds.Goals as goal

pub returns-then-is_unlabelled : goal.returns-then-is_unlabelled
returns-then-is_unlabelled c =
    let x = c.in-Block in
    let bare = sym c.if-is_unlabelled.true ∙ c.is_unlabelled.ensures in
    c.is_shed.ensures
    ∙ ap (λ b. b && ((about_block x.body).lone && (not c.args.no_struct || (about_block x.body).structless))) bare
    ∙ of_shed c.args.expr.now x.label x.body c.args.no_struct x.is

pub returns-else-is_unlabelled : goal.returns-else-is_unlabelled
returns-else-is_unlabelled c =
    let x = c.in-Block in
    let labelled = sym c.if-is_unlabelled.false ∙ c.is_unlabelled.ensures in
    c.if-is_unlabelled.false
    ∙ ap (λ b. b && ((about_block x.body).lone && (not c.args.no_struct || (about_block x.body).structless))) labelled
    ∙ of_shed c.args.expr.now x.label x.body c.args.no_struct x.is
