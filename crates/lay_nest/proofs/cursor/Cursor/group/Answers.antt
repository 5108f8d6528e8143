use Rattle.std.proofs.Common.{length, ap, sym, ◌∙◌, arith}
use Rattle.lay_token.specs.Delimiters.{tokens_of}
use Rattle.lay_nest.specs.Ahead.{Last, tokens_ahead, spans_ahead}
use Rattle.lay_nest.specs.Groups.{begins_group}
use Rattle.lay_nest.specs.Spans.{spans_of}
use Rattle.lay_nest.proofs.Steps.{opened, span_is, length-spans}
use Rattle.lay_nest.proofs.cursor.Cursor.group.Goals as goal

pub bounds-self-inside-0 : goal.bounds-self-inside-0
bounds-self-inside-0 c =
    let o = opened c.self.invariant (ap begins_group c.self.view_is ∙ c.requires) in
    omega (arith, ap length o.spans_are)

pub split_group-requires : goal.split_group-requires
split_group-requires c =
    let o = opened c.self.invariant (ap begins_group c.self.view_is ∙ c.requires) in
    (o.opener, o.closer, tokens_of o.inside, tokens_ahead o.behind, o.tokens_are, span_is o)

pub split_group-requires-2 : goal.split_group-requires-2
split_group-requires-2 c =
    let o = opened c.self.invariant (ap begins_group c.self.view_is ∙ c.requires) in (
      length (tokens_of o.inside),
      0,
      spans_of o.inside,
      spans_ahead o.behind,
      o.spans_are,
      span_is o ∙ sym (length-spans o.inside),
    )

pub invariant_of-self : goal.invariant_of-self
invariant_of-self c =
    let o = opened c.self.invariant (ap begins_group c.self.view_is ∙ c.requires) in
    let tokens = c.split_group.ensures o.opener o.closer (tokens_of o.inside) (tokens_ahead o.behind) o.tokens_are (span_is o) in
    let spans = c.split_group-2.ensures (length (tokens_of o.inside)) 0 (spans_of o.inside) (spans_ahead o.behind) o.spans_are
    (span_is o ∙ sym (length-spans o.inside)) in
    record {
      ahead = o.behind;
      paired = o.behind_paired;
      tokens_are = tokens.1;
      spans_are = spans.1;
    }

pub invariant_of-result : goal.invariant_of-result
invariant_of-result c =
    let o = opened c.self.invariant (ap begins_group c.self.view_is ∙ c.requires) in
    let tokens = c.split_group.ensures o.opener o.closer (tokens_of o.inside) (tokens_ahead o.behind) o.tokens_are (span_is o) in
    let spans = c.split_group-2.ensures (length (tokens_of o.inside)) 0 (spans_of o.inside) (spans_ahead o.behind) o.spans_are
    (span_is o ∙ sym (length-spans o.inside)) in
    record {
      ahead = Last o.inside;
      paired = o.paired;
      tokens_are = tokens.0;
      spans_are = spans.0;
    }

pub returns : goal.returns
returns c =
    let o = opened c.self.invariant (ap begins_group c.self.view_is ∙ c.requires) in
    let tokens = c.split_group.ensures o.opener o.closer (tokens_of o.inside) (tokens_ahead o.behind) o.tokens_are (span_is o) in
    record {
      opener = o.opener;
      closer = o.closer;
      whole = rw (tokens.0, tokens.1) (sym c.self.view_is ∙ o.tokens_are);
      pair = o.pair;
      balanced = (o.inside, o.paired, tokens.0);
    }
