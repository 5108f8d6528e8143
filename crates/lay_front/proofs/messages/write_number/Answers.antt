use Rattle.std.proofs.Common.{◌∙◌}
use Rattle.lay_front.proofs.TellingLemmas.{then_writes, stops_writing}
use Rattle.lay_front.proofs.messages.write_number.Goals as goal

pub returns-in-Err-clause-bytes : goal.returns-in-Err-clause-bytes
returns-in-Err-clause-bytes g c =
    stops_writing _ _ _ c.args.behind.now _ (c.as_bytes.ensures.value ∙ c.format.ensures.text) c.in-Err.ensures.bytes

pub returns-clause-bytes : goal.returns-clause-bytes
returns-clause-bytes g c =
    then_writes _ _ _ _ c.args.behind.now _ c.write-2.result (c.as_bytes.ensures.value ∙ c.format.ensures.text) c.in_default.ensures.bytes c.write-2.ensures.bytes
