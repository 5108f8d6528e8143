-- the bytes so far are counted after each text
use Rattle.std.proofs.Common.{◌≡◌, ◌+◌, ◌++◌, ℕ, List, take}
use Rattle.lay_sample.specs.counting.Tallies.{IsTallyOf}
use Rattle.lay_sample.proofs.counting.tally.Tally.add.Given as goal

abbrev pub invariant-loop-byte : goal.invariant-loop-byte
invariant-loop-byte l = (l.self.bytes ≡ l.fn.self.bytes + l.byte-index)
    × ((text : List ℕ) → IsTallyOf l.fn.self text → IsTallyOf l.self (text ++ take l.byte-index l.piece))
