use Rattle.std.proofs.Common.{suc, ◌≡◌, ◌+◌, ◌∙◌, true, sym, ap, subst, arith}
use Rattle.std.specs.Option.{unwrap_or}
use Rattle.lay_code.specs.nodes.Bodies.{is_lone_body}
use Rattle.lay_code.specs.nodes.Code.{about_expr}
use Rattle.lay_code.specs.reader.Blocks.{undressed}
use Rattle.lay_code.specs.declared.exprs.Expr.{Expr}
use Rattle.lay_code.specs.declared.exprs.Expr.TheVariants as expr
use Rattle.lay_code.proofs.reader.ArmsSoundBodies.{undressed_alone}
use Rattle.lay_ops_ends.proofs.OnePair.{layers, one_layer}
use Rattle.lay_ops_ends.proofs.bodies.undressed.Goals as goal

pub loop-body-smaller : goal.loop-body-smaller
loop-body-smaller c =
    let h = c.held.ensures in
    let same : c.in-Some.inner ≡ h.0 = ap (λ o. unwrap_or o expr.Underscore) (sym c.in-Some.is ∙ h.2) in
    let less : layers c.in-Some.inner ≡ layers h.0 = ap layers same in
    let lone : layers c.loop-body.body ≡ suc (layers h.0) = ap layers h.1 ∙ one_layer h.0 in
    omega (arith, less, lone)

pub loop-body-preserved : goal.loop-body-preserved
loop-body-preserved c =
    let h = c.held.ensures in
    let same : c.in-Some.inner ≡ h.0 = ap (λ o. unwrap_or o expr.Underscore) (sym c.in-Some.is ∙ h.2) in
    let turns = c.loop-body.invariant.0 in
    let bare = rw c.get.ensures at c.loop-body-test.ensures in
    let lone = subst (λ (x : Expr). is_lone_body (about_expr x).kind ≡ true) h.1 (sym bare) in (
      suc turns,
      λ n.
          let one : suc turns + n ≡ turns + suc n = omega arith in
          ap (λ k. undressed k c.args.expr) one ∙ c.loop-body.invariant.1 (suc n) ∙ ap (undressed (suc n)) h.1 ∙ undressed_alone n h.0 lone
          ∙ ap (undressed n) (sym same),
    )

pub returns : goal.returns
unfolding undressed
returns c =
    let turns = c.loop-body.invariant.0 in
    let none : turns ≡ turns + 0 = omega arith in
    let bare = rw c.get.ensures at c.loop-body-test.ensures in
    (turns, (ap (λ k. undressed k c.args.expr) none ∙ c.loop-body.invariant.1 0, sym bare))
