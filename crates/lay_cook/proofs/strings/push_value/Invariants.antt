use Rattle.std.proofs.Common.{◌≡◌, ◌++◌, length}
use denote.Text.{Utf8}
use denote.Shadow.{shadow}
use Rattle.std.specs.Str.{chars, encode_utf8_all}
use Rattle.lay_piece.specs.Quoted.{Plain}
use Rattle.lay_piece.specs.Value.{string_value}
use Rattle.lay_cook.specs.Steps.{Closes}
use Rattle.lay_cook.proofs.strings.push_value.Given as goal

abbrev pub invariant-runs : goal.invariant-runs
invariant-runs l = record {
  text : shadow (Utf8 l.rest);
  closes : Closes Plain (chars l.rest);
  value : l.value ++ encode_utf8_all (string_value Plain (chars l.rest))
      ≡ l.initial.value ++ encode_utf8_all (string_value Plain (chars l.inside));
}

abbrev pub decreases-runs : goal.decreases-runs
decreases-runs l = length l.rest
