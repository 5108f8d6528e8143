use Rattle.std.proofs.Common.{rules, arith, ◌≡◌, false, refl, sym, ◌∙◌}
use Rattle.std.specs.Str.{chars}
use Rattle.lay_piece.specs.Gap.{Spoilt, is_closed}
use Rattle.lay_lex.specs.Gap.{in_gap}
use Rattle.lay_lex.specs.declared.gap.State.{State}
use Rattle.lay_lex.specs.declared.gap.State.TheVariants as state
use Rattle.lay_lex.proofs.Gaps.{rest_of-spoilt, rest_of-step}
use Rattle.lay_lex.proofs.gap.after_comments.Goals as goal

not_closed : (s : State) → (s ≡ state.Outside → ⊥) → is_closed (in_gap s) ≡ false
not_closed state.Outside n = absurd (n refl)
not_closed state.Opening n = refl
not_closed state.Two n = refl
not_closed state.Three n = refl
not_closed state.Line n = refl
not_closed state.Block n = refl
not_closed state.BlockStar n = refl
not_closed (state.Within b) n = refl
not_closed state.Spoilt n = refl

pub returns-in-Spoilt : goal.returns-in-Spoilt
returns-in-Spoilt c =
    sym c.loop-c.invariant.same
    ∙ sym (rest_of-step (in_gap c.loop-c.state) Spoilt (chars c.loop-c.closed.now) (chars c.loop-c.rest.now)
    (chars c.in-Some.tail.now) c.in-Some.c false
    c.in-Some.ensures.parts c.in-Spoilt.ensures.moved refl)
    ∙ rest_of-spoilt (chars c.loop-c.closed.now) (chars c.in-Some.tail.now)

pub loop-c-preserved : goal.loop-c-preserved
loop-c-preserved c = record {
  text = search rules;
  closed_text = c.loop-c.invariant.closed_text;
  same = rest_of-step (in_gap c.loop-c.state) (in_gap c.step-state.result) (chars c.loop-c.closed.now) (chars c.loop-c.rest.now)
      (chars c.in-Some.tail.now) c.in-Some.c false c.in-Some.ensures.parts c.step-state.ensures.moved
      (not_closed c.step-state.result c.in_default-state.not-Outside)
      ∙ c.loop-c.invariant.same;
  room = omega (arith, c.step-state.ensures.deeper, c.in-Some.ensures.shorter, c.loop-c.invariant.room);
}
