use Rattle.std.proofs.Common.{◌≡◌, ◌+◌, ◌≤◌, length}
use denote.Text.{Utf8}
use denote.Shadow.{shadow}
use Rattle.std.specs.Str.{chars}
use Rattle.lay_piece.specs.Gap.{Outside}
use Rattle.lay_lex.specs.Gap.{depth, in_gap, rest_of}
use Rattle.lay_lex.proofs.gap.after_comments.Given as goal

abbrev pub invariant-loop-c : goal.invariant-loop-c
invariant-loop-c l = record {
  text : shadow (Utf8 l.rest);
  closed_text : shadow (Utf8 l.closed);
  same : rest_of (in_gap l.state) (chars l.closed) (chars l.rest) ≡ rest_of Outside (chars l.s) (chars l.s);
  room : depth l.state + length l.rest ≤ length l.s;
}

abbrev pub decreases-loop-c : goal.decreases-loop-c
decreases-loop-c l = length l.rest
