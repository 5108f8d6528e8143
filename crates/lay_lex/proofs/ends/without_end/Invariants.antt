use Rattle.std.proofs.Common.{◌≡◌, length, IsUtf8}
use Rattle.std.specs.Str.{chars}
use Rattle.lay_piece.specs.Chars.{without_end}
use Rattle.lay_lex.proofs.ends.without_end.Given as goal

abbrev pub invariant-loop-last : goal.invariant-loop-last
invariant-loop-last l = record {
  text : IsUtf8 l.bytes;
  same : without_end l.byte (chars l.bytes) ≡ without_end l.byte (chars l.s);
}

abbrev pub decreases-loop-last : goal.decreases-loop-last
decreases-loop-last l = length l.bytes
