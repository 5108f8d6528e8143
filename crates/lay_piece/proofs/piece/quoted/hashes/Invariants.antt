use Rattle.std.proofs.Common.{◌≡◌, ◌≤◌, ◌+◌, length}
use denote.Text.{Utf8}
use denote.Shadow.{shadow}
use Rattle.std.specs.Str.{chars}
use Rattle.lay_piece.specs.Found.{hashes, behind_hashes}
use Rattle.lay_piece.proofs.piece.quoted.hashes.Given as goal

abbrev pub invariant-loop-missing : goal.invariant-loop-missing
invariant-loop-missing l = record {
  text : shadow (Utf8 l.rest);
  count : l.most + hashes l.missing (chars l.rest) ≡ l.missing + hashes l.most (chars l.s);
  rest : behind_hashes l.missing (chars l.rest) ≡ behind_hashes l.most (chars l.s);
  shorter : length l.rest ≤ length l.s;
  below : l.missing ≤ l.most;
}

abbrev pub decreases-loop-missing : goal.decreases-loop-missing
decreases-loop-missing l = l.missing
