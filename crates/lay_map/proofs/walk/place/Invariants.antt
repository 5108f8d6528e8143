-- Placing what is left from here on is placing all from the start.
use Rattle.std.proofs.Common.{◌≡◌, length}
use Rattle.lay_map.specs.Ahead.{tokens_of}
use Rattle.lay_map.specs.Walks.{IsCount, placed_in}
use Rattle.lay_map.proofs.walk.place.Given as goal

abbrev pub invariant-loop-left : goal.invariant-loop-left
invariant-loop-left l = record {
  same : placed_in l.fn.loose l.fn.row (tokens_of l.fn.ahead) l.fn.braces l.fn.units ≡ placed_in l.fn.loose l.left (tokens_of l.ahead) l.braces l.units;
  count : IsCount l.fn.loose l.count (tokens_of l.ahead);
}

abbrev pub decreases-loop-left : goal.decreases-loop-left
decreases-loop-left l = length (tokens_of l.ahead)
