use Rattle.std.proofs.Common.{le_trans, ◌∙◌, arith}
use Rattle.lay_stream.proofs.Paging.{blanks_err, blanks_more}
use Rattle.lay_stream.proofs.line.Line.write_pending.Goals as goal

pub returns-in_err-write-clause-bytes : goal.returns-in_err-write-clause-bytes
returns-in_err-write-clause-bytes g c = blanks_err _ _ _ _ _ _ _ c.min-count.result c.from_residual.ensures.1 (omega (arith, c.loop-self.invariant.less)) (omega (arith, c.min-count.ensures)) (omega (arith, c.min-count.ensures)) c.loop-self.invariant.bytes c.in_err-write.ensures.bytes

pub loop-self-preserved : goal.loop-self-preserved
loop-self-preserved g c =
    let i = c.loop-self.invariant in
    record {
      bytes = blanks_more _ _ _ _ _ c.min-count.result (omega (arith, i.less)) (omega (arith, c.min-count.ensures)) (omega (arith, c.min-count.ensures)) i.bytes c.in_ok-write.ensures.bytes;
      less = omega (arith, i.less);
      room = i.room;
      used = i.used;
      faults = le_trans i.faults c.in_ok-write.ensures.cause.later;
      loan = c.in_ok-write.ensures.loan ∙ i.loan;
    }
