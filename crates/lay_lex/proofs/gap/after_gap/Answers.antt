use Rattle.std.proofs.Common.{rules, sym, ◌∙◌}
use Rattle.std.specs.Str.{chars}
use Rattle.lay_lex.proofs.Gaps.{rest_of-white, rest_of-other}
use Rattle.lay_lex.proofs.gap.after_gap.Goals as goal

pub returns-then-not-is_white : goal.returns-then-not-is_white
returns-then-not-is_white c =
    sym c.loop-c.invariant.same
    ∙ rest_of-other (chars c.loop-c.rest.now) (chars c.in-Some.tail.now) c.in-Some.c c.in-Some.ensures.parts
    (sym c.is_white.ensures ∙ (search rules)) c.if-c-eq47.false

pub loop-c-preserved : goal.loop-c-preserved
loop-c-preserved c = record {
  text = search rules;
  same = rest_of-white (chars c.loop-c.rest.now) (chars c.in-Some.tail.now) c.in-Some.c c.in-Some.ensures.parts
      (sym c.is_white.ensures ∙ (search rules)) ∙ c.loop-c.invariant.same;
}
