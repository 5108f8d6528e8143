use Rattle.std.proofs.Common.{◌≡◌, ◌++◌, length}
use Rattle.lay_token.specs.Source.{folded}
use Rattle.lay_lex.proofs.source.folded.Given as goal

abbrev pub invariant-loop-byte : goal.invariant-loop-byte
invariant-loop-byte l = l.text.items ++ folded l.rest ≡ folded l.s

abbrev pub decreases-loop-byte : goal.decreases-loop-byte
decreases-loop-byte l = length l.rest
