use Rattle.std.proofs.Common.{◌≡◌, length}
use denote.Text.{Utf8}
use denote.Shadow.{shadow}
use Rattle.std.specs.Str.{chars}
use Rattle.lay_piece.specs.Forms.{after_string}
use Rattle.lay_piece.proofs.piece.quoted.after_string.Given as goal

abbrev pub invariant-loop-c : goal.invariant-loop-c
invariant-loop-c l = record {
  text : shadow (Utf8 l.rest);
  same : after_string l.of (chars l.rest) ≡ after_string l.of (chars l.s);
}

abbrev pub decreases-loop-c : goal.decreases-loop-c
decreases-loop-c l = length l.rest
