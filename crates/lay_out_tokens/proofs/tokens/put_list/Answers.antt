use Rattle.std.proofs.Common.{length, refl, ap, ◌∙◌, arith}
use Rattle.lay_stream.proofs.Calls.{last, stream_on, stream_leave, level_of, no_call}
use Rattle.lay_node.specs.tokens.Pairs.{Seen, is_line_doc}
use Rattle.lay_out_tokens.specs.Fed.{fed_tokens, seen_over}
use Rattle.lay_out_tokens.specs.Separations.{seen_of}
use Rattle.lay_out_tokens.proofs.TokenFeeds.{list_fed, list_seen, list_nested, step_fed, step_seen, step_nested}
use Rattle.lay_out_tokens.proofs.TokenFeeds.{end_fed, end_seen}
use Rattle.lay_out_tokens.proofs.tokens.put_list.Goals as goal

pub loop-token-init : goal.loop-token-init
loop-token-init g c = record {
  put = λ r end h. last h (ap (λ (z : Seen). fed_tokens z c.args.tokens.now) c.at_start-seen.ensures);
  nested = list_nested _ c.args.tokens.now _ c.at_start-seen.ensures c.requires;
  seen = ap (λ (z : Seen). seen_over z c.args.tokens.now) c.at_start-seen.ensures;
  few = omega (arith, ap (λ (z : Seen). z.count) c.at_start-seen.ensures);
}

pub put_next-requires : goal.put_next-requires
put_next-requires g c = record {
  told = c.single-next.ensures;
  nested =
      (step_nested (seen_of c.loop-token.seen) c.in-Some.token.now c.in-Some.more.now _ _ _ _
      c.in-Some.ensures.cases.0 c.loop-token.invariant.nested refl refl).0;
}

pub returns-in_err-put_next-clause-did : goal.returns-in_err-put_next-clause-did
returns-in_err-put_next-clause-did g c =
    last
    (c.loop-token.invariant.put _ _
    (last (stream_leave _ c.in_err-put_next.ensures c.from_residual.ensures.1)
    (step_fed (seen_of c.loop-token.seen) c.in-Some.token.now c.in-Some.more.now _ _ c.in-Some.ensures.cases.0 refl)))
    (list_fed c.args.tokens.now c.requires)

pub loop-token-preserved : goal.loop-token-preserved
loop-token-preserved g c =
    let s = seen_of c.loop-token.seen in
    let t = c.in-Some.token.now in
    let more = c.in-Some.more.now in
    let cases = c.in-Some.ensures.cases.0 in
    let next = c.behind-seen.ensures.seen in
    let level = level_of c.in_ok-put_next.ensures in
    record {
      put = λ r end h.
          c.loop-token.invariant.put r end
          (last (stream_on c.in_ok-put_next.ensures h) (step_fed s t more _ _ cases next));
      nested = (step_nested s t more _ _ _ _ cases c.loop-token.invariant.nested level next).1;
      seen = step_seen s t more _ _ cases next ∙ c.loop-token.invariant.seen;
      few = omega (arith, c.loop-token.invariant.few, c.behind-seen.ensures.count, ap length cases);
    }

pub returns-clause-did : goal.returns-clause-did
returns-clause-did g c =
    last (c.loop-token.invariant.put _ _
    (last no_call (end_fed (seen_of c.loop-token.seen) _ c.in_default.ensures.cases)))
    (list_fed c.args.tokens.now c.requires)

pub returns-clause-line : goal.returns-clause-line
returns-clause-line g c =
    c.is_line_doc.ensures
    ∙ ap (λ (z : Seen). is_line_doc z.last)
    (end_seen (seen_of c.loop-token.seen) _ c.in_default.ensures.cases ∙ c.loop-token.invariant.seen)
    ∙ list_seen c.args.tokens.now c.requires
