use Rattle.std.proofs.Common.{◌≡◌, length}
use denote.Text.{Utf8}
use denote.Shadow.{shadow}
use Rattle.std.specs.Str.{chars}
use Rattle.lay_piece.specs.Scan.{run}
use Rattle.lay_piece.specs.Quoted.{Inside, raw_step}
use Rattle.lay_piece.specs.Forms.{after_raw}
use Rattle.lay_piece.proofs.piece.quoted.after_raw.Given as goal

abbrev pub invariant-loop-c : goal.invariant-loop-c
invariant-loop-c l = record {
  text : shadow (Utf8 l.rest);
  same : run (raw_step l.of) (Inside l.hashes) (chars l.rest) ≡ after_raw l.of (chars l.s);
}

abbrev pub decreases-loop-c : goal.decreases-loop-c
decreases-loop-c l = length l.rest
