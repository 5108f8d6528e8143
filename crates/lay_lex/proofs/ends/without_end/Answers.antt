use Rattle.std.proofs.Common.{◌≡◌, ◌++◌, ◌∷◌, [], ap, ◌∙◌}
use Rattle.std.specs.Str.{encode_utf8_all}
use Rattle.lay_lex.proofs.Trims.{front_text, without_end-step, without_end-other, without_end-none}
use Rattle.lay_lex.proofs.ends.without_end.Goals as goal

pub loop-last-preserved : goal.loop-last-preserved
loop-last-preserved c =
    let cut : c.loop-last.bytes.now ≡ c.in-Some.front.now ++ c.args.byte ∷ [] =
    c.in-Some.ensures.cases.0 ∙ ap (λ d. c.in-Some.front.now ++ d ∷ []) c.if-last-byte.false in
    record {
      text = front_text c.loop-last.bytes.now c.in-Some.front.now c.args.byte c.requires c.loop-last.invariant.text cut;
      same = without_end-step c.loop-last.bytes.now c.in-Some.front.now c.args.byte c.requires c.loop-last.invariant.text cut
          ∙ c.loop-last.invariant.same;
    }

pub returns-then-last-byte : goal.returns-then-last-byte
returns-then-last-byte c =
    without_end-other c.loop-last.bytes.now c.in-Some.front.now c.in-Some.last.now c.args.byte c.requires c.loop-last.invariant.text
    c.in-Some.ensures.cases.0 c.if-last-byte.true
    ∙ ap encode_utf8_all c.loop-last.invariant.same

pub returns-in_default : goal.returns-in_default
returns-in_default c =
    without_end-none c.loop-last.bytes.now c.args.byte c.in_default.ensures.cases
    ∙ ap encode_utf8_all c.loop-last.invariant.same
