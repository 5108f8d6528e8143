use Rattle.lay_map.proofs.MarkLemmas.{mark_did}
use Rattle.lay_map.proofs.marker.MarkerEmit.text.Goals as goal

pub returns : goal.returns
returns c =
    rw (← c.self.view_is) (mark_did _ _ _ _ _ _ _ _ _ c.text-given.ensures c.answer.ensures.same c.answer.ensures.ok c.answer.ensures.err)
