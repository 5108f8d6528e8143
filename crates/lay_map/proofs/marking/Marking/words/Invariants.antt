-- The words of the rest from here on are those of all from the start.
use Rattle.std.proofs.Common.{◌≡◌, length}
use Rattle.lay_map.specs.Marking.{words_of}
use Rattle.lay_map.proofs.marking.Marking.words.Given as goal

abbrev pub invariant-loop-byte : goal.invariant-loop-byte
invariant-loop-byte l = words_of 0 l.fn.text l.fn.self ≡ words_of 0 l.rest l.self

abbrev pub decreases-loop-byte : goal.decreases-loop-byte
decreases-loop-byte l = length l.rest
