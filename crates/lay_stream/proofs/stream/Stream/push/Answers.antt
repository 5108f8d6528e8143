use Rattle.lay_stream.proofs.ListedLemmas.{nested_either}
use Rattle.lay_stream.proofs.stream.Stream.push.Goals as goal

pub invariant_of-self : goal.invariant_of-self
invariant_of-self c = nested_either _ _ _ _ _ _ c.push_token.ensures.ok c.push_token.ensures.err c.self.invariant (rw c.self.view_is c.requires)
