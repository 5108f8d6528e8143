use Rattle.std.proofs.Common.{◌≡◌, length}
use denote.Text.{Utf8}
use denote.Shadow.{shadow}
use Rattle.std.specs.Str.{chars}
use Rattle.lay_piece.specs.Gap.{Outside}
use Rattle.lay_lex.specs.Gap.{rest_of}
use Rattle.lay_lex.proofs.gap.after_gap.Given as goal

abbrev pub invariant-loop-c : goal.invariant-loop-c
invariant-loop-c l = record {
  text : shadow (Utf8 l.rest);
  same : rest_of Outside (chars l.rest) (chars l.rest) ≡ rest_of Outside (chars l.s) (chars l.s);
}

abbrev pub decreases-loop-c : goal.decreases-loop-c
decreases-loop-c l = length l.rest
