-- The values of the definition that the code's values stand for: neighbours, scans of a list, and
-- separations.
use Rattle.lay_node.specs.tokens.Pairs as pairs
use Rattle.lay_out_tokens.specs.Neighbours.{neighbour_of}
use Rattle.lay_out_tokens.specs.declared.told.Told.{Told}
use Rattle.lay_out_tokens.specs.declared.separation.Seen.{Seen}
use Rattle.lay_out_tokens.specs.declared.separation.Separation.{Separation}
use Rattle.lay_out_tokens.specs.declared.separation.Separation.TheVariants as separation

abbrev pub told_of : Told → pairs.Neighbour
told_of t = neighbour_of t.neighbour

abbrev pub seen_of : Seen → pairs.Seen
seen_of s = record {
  before = told_of s.before;
  last = told_of s.last;
  place = s.place;
  opens = s.opens;
  closes = s.closes;
  count = s.count;
}

abbrev pub separation_of : Separation → pairs.Separation
separation_of separation.NoBreak = pairs.NoBreak
separation_of separation.SoftBreak = pairs.SoftBreak
separation_of separation.HardBreak = pairs.HardBreak

-- the state of the scan after one more neighbour
abbrev pub seen_next : pairs.Seen → pairs.Neighbour → pairs.Seen
seen_next s r = record {
  before = s.last;
  last = r;
  place = pairs.is_index_place s.before s.last;
  opens = pairs.opens_turbofish s r;
  closes = pairs.closes_turbofish s r;
  count = pairs.count_behind s r;
}
