use Rattle.lay_out_types.proofs.Adding.{adds, adds_on}
use Rattle.lay_out_pats.proofs.PatternLemmas.{dots_alone, dots_behind}
use Rattle.lay_out_pats.proofs.patterns.add_dots.Goals as goal

pub returns-in-None : goal.returns-in-None
returns-in-None g c = adds c.add_either.ensures (dots_alone _ c.args.inclusive c.in-None.is)

pub returns-in-Some : goal.returns-in-Some
returns-in-Some g c =
    adds (adds_on c.add_span_end-first.ensures c.add_dots_behind.ensures)
    (dots_behind _ c.in-Some.start c.args.inclusive _ c.in-Some.is c.ends_in_point.ensures)
