use Rattle.std.proofs.Common.{◌≡◌, ◌∙◌, sym, arith}
use Rattle.lay_form.specs.Depth.{least_depth}
use Rattle.lay_build_types.specs.Kinds.{form_of_expr}
use Rattle.lay_build_exprs.specs.Nodes as node
use Rattle.lay_build_exprs.proofs.PartLemmas.{with_need}
use Rattle.lay_build_exprs.proofs.PostfixLemmas.{fresh_need, more_need}
use Rattle.lay_build_exprs.proofs.steps.stepped.Goals as goal
use Rattle.lay_build_exprs.proofs.steps.stepped.Goals.{then-has_steps, else-has_steps}

pub returns : goal.returns
returns c =
    let x = c.args.base.now in
    let one = c.args.step in
    let need = c.requires.need in
    let more = c.requires.more in
    let deep : c.if-has_steps.need ≡ least_depth (form_of_expr (node.stepped x one)) =
    elim c.if-has_steps.branch [
      | then-has_steps w ↦
          let depth = more_need x one (sym c.has_steps.ensures ∙ w.if-has_steps.true) in
          omega (arith, w.need-is, w.max-need.ensures, need, more, depth)
      | else-has_steps w ↦
          let depth = fresh_need x one (sym c.has_steps.ensures ∙ w.if-has_steps.false) in
          omega (arith, w.need-is, w.max.ensures, need, more, depth)
    ] in
    with_need (node.stepped x one) c.add_step.new.base c.if-has_steps.need c.in_ok-add_step.ensures deep
