use Rattle.std.proofs.Common.{◌≤◌, length}
use denote.Text.{Utf8}
use denote.Shadow.{shadow}
use Rattle.std.specs.Str.{chars}
use Rattle.lay_cook.proofs.DigitLemmas.{InDigits}
use Rattle.lay_cook.proofs.strings.char_value.Given as goal

abbrev pub invariant-digits : goal.invariant-digits
invariant-digits l = record {
  text : shadow (Utf8 l.rest);
  digits : InDigits l.value (chars l.rest) (chars l.s);
  shorter : length l.rest ≤ length l.s;
}

abbrev pub decreases-digits : goal.decreases-digits
decreases-digits l = length l.rest
