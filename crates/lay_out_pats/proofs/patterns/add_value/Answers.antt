use Rattle.lay_out_types.proofs.Adding.{adds, adds_on}
use Rattle.lay_out_pats.proofs.PatternLemmas.{value_is}
use Rattle.lay_out_pats.proofs.patterns.add_value.Goals as goal

pub returns : goal.returns
returns g c = adds (adds_on c.add_if-minus.ensures c.add_literal.ensures) (value_is c.args.value.now)
