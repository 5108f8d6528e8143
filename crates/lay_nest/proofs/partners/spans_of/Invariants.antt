use Rattle.std.proofs.Common.{◌≡◌, length}
use Rattle.lay_nest.specs.Partial.{SoFar}
use Rattle.lay_nest.proofs.partners.spans_of.Given as goal

abbrev pub invariant-loop-token : goal.invariant-loop-token
invariant-loop-token l = record {
  read : SoFar l.tokens l.reading.spans.items l.reading.places.items;
  place : length l.reading.spans.items ≡ l.token-index;
}
