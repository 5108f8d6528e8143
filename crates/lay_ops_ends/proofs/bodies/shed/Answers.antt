use Rattle.std.proofs.Common.{suc, ◌≡◌, ◌+◌, ◌∙◌, true, sym, ap, subst, arith}
use Rattle.std.specs.Option.{unwrap_or}
use Rattle.lay_code.specs.nodes.Bodies.{sheds}
use Rattle.lay_code.specs.nodes.Code.{about_expr}
use Rattle.lay_code.specs.reader.Exprs.{shed}
use Rattle.lay_code.specs.declared.exprs.Expr.{Expr}
use Rattle.lay_code.specs.declared.exprs.Expr.TheVariants as expr
use Rattle.lay_code.proofs.reader.ClosureBodies.{lone_sheds, shed_alone}
use Rattle.lay_ops_ends.proofs.OnePair.{layers, one_layer}
use Rattle.lay_ops_ends.proofs.bodies.shed.Goals as goal

pub held-requires : goal.held-requires
held-requires c =
    let goes = rw c.get.ensures at c.loop-body-test.ensures in lone_sheds c.args.no_struct (about_expr c.loop-body.body).kind (sym goes)

pub loop-body-smaller : goal.loop-body-smaller
loop-body-smaller c =
    let h = c.held.ensures in
    let same : c.in-Some.inner ≡ h.0 = ap (λ o. unwrap_or o expr.Underscore) (sym c.in-Some.is ∙ h.2) in
    let less : layers c.in-Some.inner ≡ layers h.0 = ap layers same in
    let lone : layers c.loop-body.body ≡ suc (layers h.0) = ap layers h.1 ∙ one_layer h.0 in
    omega (arith, less, lone)

pub loop-body-preserved : goal.loop-body-preserved
loop-body-preserved c =
    let h = c.held.ensures in
    let same : c.in-Some.inner ≡ h.0 = ap (λ o. unwrap_or o expr.Underscore) (sym c.in-Some.is ∙ h.2) in
    let turns = c.loop-body.invariant.0 in
    let no_struct = c.args.no_struct in
    let bare = rw c.get.ensures at c.loop-body-test.ensures in
    let goes = subst (λ (x : Expr). sheds (about_expr x).kind no_struct ≡ true) h.1 (sym bare) in (
      suc turns,
      λ n.
          let one : suc turns + n ≡ turns + suc n = omega arith in
          ap (λ k. shed no_struct k c.args.expr) one ∙ c.loop-body.invariant.1 (suc n) ∙ ap (shed no_struct (suc n)) h.1
          ∙ shed_alone no_struct n h.0 goes ∙ ap (shed no_struct n) (sym same),
    )

pub returns : goal.returns
unfolding shed
returns c =
    let turns = c.loop-body.invariant.0 in
    let none : turns ≡ turns + 0 = omega arith in
    let bare = rw c.get.ensures at c.loop-body-test.ensures in
    (turns, (ap (λ k. shed c.args.no_struct k c.args.expr) none ∙ c.loop-body.invariant.1 0, sym bare))
