use Rattle.std.proofs.Common.{sym, ◌∙◌}
use Rattle.lay_out_exprs.proofs.PartLemmas.{enclosed_end, whole_end}
use Rattle.lay_out_exprs.proofs.points.part_ends_in_point.Goals as goal

pub returns-then-on : goal.returns-then-on
returns-then-on g c =
    enclosed_end g.X.Enclose.on c.args.point c.args.node.now (sym c.on.ensures ∙ c.if-on.true)

pub returns : goal.returns
returns g c =
    c.ends_in_point.ensures ∙ whole_end g.X.Enclose.on c.args.point c.args.node.now (sym c.on.ensures ∙ c.if-on.false)
