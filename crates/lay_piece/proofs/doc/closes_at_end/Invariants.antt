use Rattle.std.proofs.Common.{◌≡◌, ◌≤◌, ◌++◌, codes, drop}
use Rattle.lay_piece.specs.Scan.{run}
use Rattle.lay_piece.specs.Quoted.{Deep, doc_step}
use Rattle.lay_piece.specs.Forms.{is_whole}
use Rattle.lay_piece.specs.Docs.{depth, in_block}
use Rattle.lay_piece.proofs.doc.closes_at_end.Given as goal

abbrev pub invariant-loop-byte : goal.invariant-loop-byte
invariant-loop-byte l = record {
  few : depth l.place ≤ l.byte-index;
  same : is_whole (run doc_step (in_block l.place) (drop l.byte-index l.text ++ codes "*/"))
      ≡ is_whole (run doc_step (Deep 0) (l.text ++ codes "*/"));
}
