use Rattle.std.proofs.Common.{◌≡◌, ◌≤◌, length}
use denote.Text.{Utf8}
use denote.Shadow.{shadow}
use Rattle.std.specs.Str.{chars}
use Rattle.lay_piece.specs.Chars.{after}
use Rattle.lay_cook.specs.Steps.{is_unmarked}
use Rattle.lay_cook.proofs.strings.after_run.Given as goal

abbrev pub invariant-loop-c : goal.invariant-loop-c
invariant-loop-c l = record {
  text : shadow (Utf8 l.rest);
  run : after is_unmarked (chars l.rest) ≡ after is_unmarked (chars l.s);
  shorter : length l.rest ≤ length l.s;
}

abbrev pub decreases-loop-c : goal.decreases-loop-c
decreases-loop-c l = length l.rest
