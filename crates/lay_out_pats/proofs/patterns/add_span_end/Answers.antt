use Rattle.lay_out_types.proofs.Adding.{adds}
use Rattle.lay_out_pats.proofs.PatternLemmas.{path_end, value_end}
use Rattle.lay_out_pats.proofs.patterns.add_span_end.Goals as goal

pub returns-in-Value : goal.returns-in-Value
returns-in-Value g c = adds c.add_value.ensures (value_end _ c.in-Value.value c.in-Value.is)

pub returns-in-Path : goal.returns-in-Path
returns-in-Path g c = adds c.add_path.ensures (path_end _ c.in-Path.path c.in-Path.is)
