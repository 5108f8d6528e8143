use Rattle.std.proofs.Common.{◌∙◌}
use Rattle.lay_out_exprs.proofs.PointLemmas.{local_start, some_start}
use Rattle.lay_out_exprs.proofs.points.is_nothing.Goals as goal

pub returns-in-Local : goal.returns-in-Local
returns-in-Local c = c.is_empty.ensures ∙ local_start c.args.path.now _ c.in-Local.is c.as_slice.ensures

pub returns-in_default : goal.returns-in_default
returns-in_default c = some_start c.args.path.now c.in_default.not-Local
