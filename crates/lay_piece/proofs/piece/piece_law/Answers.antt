use Rattle.lay_piece.proofs.GapLaws.{piece_no_gap, gap_no_piece}
use Rattle.lay_piece.proofs.Unique.{had_two, one_piece}
use Rattle.lay_piece.proofs.piece.piece_law.Goals as goal

pub returns : goal.returns
returns c = record {
  no_gap = piece_no_gap;
  no_piece = gap_no_piece;
  two_characters = had_two;
  one_piece = λ k l p q r t i e h g. let same = one_piece k l p q r t i e h g in (same.kind, same.piece);
}
