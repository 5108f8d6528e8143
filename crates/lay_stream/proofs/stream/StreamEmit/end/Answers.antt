use Rattle.lay_stream.proofs.ListedLemmas.{list_did}
use Rattle.lay_stream.proofs.stream.StreamEmit.end.Goals as goal

pub returns-clause-did : goal.returns-clause-did
returns-clause-did c = list_did _ _ _ _ _ _ c.push.ensures.ok c.push.ensures.err
