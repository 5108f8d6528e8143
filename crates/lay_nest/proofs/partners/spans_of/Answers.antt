use Rattle.std.proofs.Common.{◌≡◌, [], length, Some, sym, ap, ◌∙◌, arith, refl}
use Rattle.std.proofs.lemmas.Option.{slice_get_read}
use Rattle.lay_nest.proofs.Places.{last_open, below_tokens, opener_at, none_read, unclosed, all_closed, nil_by_length}
use Rattle.lay_nest.proofs.partners.spans_of.Goals as goal

pub loop-token-init : goal.loop-token-init
loop-token-init c = record {
  read = rw (c.in-Ok.ensures.spans, c.in-Ok.ensures.places) (none_read c.args.tokens.now);
  place = ap length c.in-Ok.ensures.spans;
}

pub add-requires-clause-next : goal.add-requires-clause-next
add-requires-clause-next c =
    rw c.loop-token.invariant.place
    (slice_get_read c.args.tokens.now (length c.args.tokens.now) c.loop-token.token-index c.token-item.result refl (omega arith) c.token-item.is)

pub token_at-requires : goal.token_at-requires
token_at-requires c =
    below_tokens (last_open c.pop.new.self.items c.in-Some.last c.loop-token.invariant.read c.in-Some.ensures.items)

pub returns-in-Some : goal.returns-in-Some
returns-in-Some c =
    let l = last_open c.pop.new.self.items c.in-Some.last c.loop-token.invariant.read c.in-Some.ensures.items in
    let found : Some c.token_at.result.now ≡ Some l.opener = sym c.token_at.ensures ∙ opener_at l in
    let same : c.token_at.result.now ≡ l.opener = cc in
    let all : length c.loop-token.reading.spans.items ≡ length c.args.tokens.now = omega arith in
    rw (c.unbalanced.ensures, same) (unclosed l all)

pub returns-in-None : goal.returns-in-None
returns-in-None c =
    let all : length c.loop-token.reading.spans.items ≡ length c.args.tokens.now = omega arith in
    let none : c.loop-token.reading.places.items ≡ [] = nil_by_length c.loop-token.reading.places.items (sym c.loop-token.reading.places.ok.0 ∙ c.in-None.ensures.cases.0) in
    rw c.from_vec.ensures (all_closed c.loop-token.invariant.read none all)
