use Rattle.std.proofs.Common.{◌≡◌, ◌≤◌, ◌<◌, ◌^◌, length}
use denote.Text.{Utf8}
use denote.Shadow.{shadow}
use Rattle.std.specs.Str.{chars}
use Rattle.lay_piece.specs.Scan.{run}
use Rattle.lay_piece.specs.Quoted.{Digits, escape_step}
use Rattle.lay_piece.proofs.piece.quoted.after_char_value.Given as goal

abbrev pub invariant-loop-c : goal.invariant-loop-c
invariant-loop-c l = record {
  text : shadow (Utf8 l.rest);
  same : run (escape_step l.of) (Digits l.count l.value) (chars l.rest) ≡ run (escape_step l.of) (Digits 0 0) (chars l.s);
  few : l.count ≤ 6;
  small : l.value < 16 ^ l.count;
  shorter : length l.rest ≤ length l.s;
}

abbrev pub decreases-loop-c : goal.decreases-loop-c
decreases-loop-c l = length l.rest
