use Rattle.lay_out_types.proofs.Adding.{adds, adds_nothing}
use Rattle.lay_out_pats.proofs.PatternLemmas.{no_last, some_last}
use Rattle.lay_out_pats.proofs.patterns.add_last_end.Goals as goal

pub returns-in-None : goal.returns-in-None
returns-in-None g c = adds adds_nothing (no_last _ c.in-None.is)

pub returns-in-Some : goal.returns-in-Some
returns-in-Some g c = adds c.add_span_end.ensures (some_last _ c.in-Some.end c.in-Some.is)
