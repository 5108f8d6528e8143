use Rattle.lay_out_pats.proofs.PatternLemmas.{is_rest_pat, no_rest_pat}
use Rattle.lay_out_pats.proofs.patterns.is_rest.Goals as goal

pub returns-in-Rest : goal.returns-in-Rest
returns-in-Rest c = is_rest_pat _ c.in-Rest.is

pub returns-in_default : goal.returns-in_default
returns-in_default c = no_rest_pat _ c.in_default.not-Rest
