use Rattle.std.proofs.Common.{refl}
use Rattle.lay_fmt.proofs.finished.Goals as goal

pub returns-in-Err-clause-failed : goal.returns-in-Err-clause-failed
returns-in-Err-clause-failed g c = rw c.in-Err.is (refl, c.tell_failed_write.ensures.part)

pub returns-in-Err-clause-whole : goal.returns-in-Err-clause-whole
returns-in-Err-clause-whole g c = rw c.in-Err.is c.tell_failed_write.ensures.whole
