use Rattle.lay_stream.proofs.Paging.{moves_no_blanks, moves_no_bytes}
use Rattle.lay_stream.proofs.line.Line.write.Goals as goal

pub returns-in_err-write_blanks-clause-moves : goal.returns-in_err-write_blanks-clause-moves
returns-in_err-write_blanks-clause-moves g c = moves_no_blanks _ _ _ _ _ _ c.args.bytes.now c.from_residual.ensures.1 c.in_err-write_blanks.ensures.bytes

pub returns-in_err-write-clause-moves : goal.returns-in_err-write-clause-moves
returns-in_err-write-clause-moves g c = moves_no_bytes _ _ _ _ _ _ _ c.args.bytes.now c.from_residual-in_err-write.ensures.1 c.in_ok-write_blanks.ensures.bytes c.in_err-write.ensures.bytes
