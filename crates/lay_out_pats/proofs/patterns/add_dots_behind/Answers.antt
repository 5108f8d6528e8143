use Rattle.lay_out_types.proofs.Adding.{adds}
use Rattle.lay_out_pats.proofs.PatternLemmas.{dots_apart, dots_close}
use Rattle.lay_out_pats.proofs.patterns.add_dots_behind.Goals as goal

pub returns-then-point : goal.returns-then-point
returns-then-point g c = adds c.add_either.ensures (dots_apart _ c.args.inclusive c.if-point.true)

pub returns : goal.returns
returns g c = adds c.add_either-2.ensures (dots_close _ c.args.inclusive c.if-point.false)
