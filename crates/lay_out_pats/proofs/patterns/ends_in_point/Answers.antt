use Rattle.lay_out_pats.proofs.PathPoints.{path_point}
use Rattle.lay_out_pats.proofs.PatternLemmas.{value_point}
use Rattle.lay_out_pats.proofs.patterns.ends_in_point.Goals as goal

pub returns-in-Value : goal.returns-in-Value
returns-in-Value c = value_point _ c.in-Value.value _ c.in-Value.is c.is_pointed.ensures

pub returns-in-Path : goal.returns-in-Path
returns-in-Path c = path_point _ _ c.in-Path.is
