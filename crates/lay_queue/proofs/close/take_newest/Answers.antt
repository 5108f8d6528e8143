use Rattle.lay_queue.proofs.Splitting.{popped_last, kept_none, kept_below}
use Rattle.lay_queue.proofs.close.take_newest.Goals as goal

pub returns-in-None-clause-level : goal.returns-in-None-clause-level
returns-in-None-clause-level c = kept_none _ _ c.in-None.ensures

pub returns-then-newest-cur-clause-level : goal.returns-then-newest-cur-clause-level
returns-then-newest-cur-clause-level c = kept_below _ _ _ c.in-Some.ensures c.if-newest-cur.true

pub returns-clause-rest : goal.returns-clause-rest
returns-clause-rest c = popped_last _ _ _ c.pop.ensures.value c.pop.ensures.items
