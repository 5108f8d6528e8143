use Rattle.lay_stream.proofs.ListedLemmas.{list_did}
use Rattle.lay_stream.proofs.stream.StreamEmit.text.Goals as goal

pub returns-in-Ok-clause-did : goal.returns-in-Ok-clause-did
returns-in-Ok-clause-did c = rw (← c.in-Ok.ensures.ok) (list_did _ _ _ _ _ _ c.push.ensures.ok c.push.ensures.err)
