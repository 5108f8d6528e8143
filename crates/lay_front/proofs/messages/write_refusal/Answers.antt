use Rattle.std.proofs.Common.{refl}
use Rattle.lay_front.proofs.TellingLemmas.{then_writes, stops_writing}
use Rattle.lay_front.proofs.messages.write_refusal.Goals as goal

pub returns-in-Err-clause-bytes : goal.returns-in-Err-clause-bytes
returns-in-Err-clause-bytes g c = stops_writing _ _ _ _ _ refl c.in-Err.ensures.bytes

pub returns-clause-bytes : goal.returns-clause-bytes
returns-clause-bytes g c =
    then_writes _ _ _ _ _ _ c.write_number-2.result refl c.in_default.ensures.bytes (rw c.reason.ensures at c.write_number-2.ensures.bytes)
