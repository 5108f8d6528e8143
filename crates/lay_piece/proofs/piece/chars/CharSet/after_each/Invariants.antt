use Rattle.std.proofs.Common.{◌≡◌, ◌≤◌, length}
use denote.Text.{Utf8}
use denote.Shadow.{shadow}
use Rattle.std.specs.Str.{chars}
use Rattle.lay_piece.specs.Chars.{after}
use Rattle.lay_piece.specs.Found.{in_set}
use Rattle.lay_piece.proofs.piece.chars.CharSet.after_each.Given as goal

abbrev pub invariant-loop-c : goal.invariant-loop-c
invariant-loop-c l = record {
  text : shadow (Utf8 l.rest);
  run : after (in_set l.self) (chars l.rest) ≡ after (in_set l.self) (chars l.s);
  shorter : length l.rest ≤ length l.s;
}

abbrev pub decreases-loop-c : goal.decreases-loop-c
decreases-loop-c l = length l.rest
