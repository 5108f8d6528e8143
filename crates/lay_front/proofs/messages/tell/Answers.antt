use Rattle.lay_front.proofs.TellingLemmas.{writes_part}
use Rattle.lay_front.proofs.messages.tell.Goals as goal

pub returns-clause-part : goal.returns-clause-part
returns-clause-part g c = rw c.in-Err.is (writes_part _ _ _ c.write_line.result c.write_line.ensures.bytes)
