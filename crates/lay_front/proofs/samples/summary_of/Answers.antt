use Rattle.std.proofs.Common.{refl, codes, [], ◌∷◌}
use Rattle.lay_front.proofs.SampleLemmas.{five}
use Rattle.lay_front.proofs.samples.summary_of.Goals as goal

pub returns : goal.returns
returns c =
    five _ _ _ _ _ _ _ (codes "items ") (codes ", bytes in ") (codes ", bytes out ") (codes ", lines ") (codes ", longest ")
    (10 ∷ []) _ _ _ _ _ _ _ _ _ _ c.new-line.ensures
    c.in_ok-add.ensures c.from.ensures c.in_ok-add-2.ensures refl c.in_ok-add-3.ensures c.in_ok-counts.ensures.bytes
    c.in_ok-add-4.ensures c.in_ok-counts.ensures.lines c.in_ok-add-5.ensures c.in_ok-counts.ensures.longest
    c.in_ok-push.ensures.ok
