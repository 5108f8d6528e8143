use Rattle.lay_stream.proofs.Paging.{moves_blanks}
use Rattle.lay_stream.proofs.line.Line.skip.Goals as goal

pub returns-clause-moves : goal.returns-clause-moves
returns-clause-moves g c = moves_blanks _ _ _ _ _ _ c.args.brk c.add_blanks.ensures.pending c.add_blanks.ensures.used c.add_blanks.ensures.room c.put_mark.ensures.moves
