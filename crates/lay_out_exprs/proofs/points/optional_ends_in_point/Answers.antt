use Rattle.std.proofs.Common.{◌∙◌}
use Rattle.lay_out_exprs.proofs.PartLemmas.{no_end, some_end}
use Rattle.lay_out_exprs.proofs.points.optional_ends_in_point.Goals as goal

pub returns-in-None : goal.returns-in-None
returns-in-None g c = no_end g.X.Enclose.on c.args.point c.args.node.now c.in-None.is

pub returns-in-Some : goal.returns-in-Some
returns-in-Some g c =
    c.part_ends_in_point.ensures ∙ some_end g.X.Enclose.on c.args.point c.args.node.now _ _ c.in-Some.is c.get.ensures
