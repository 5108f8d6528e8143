use Rattle.std.proofs.Common.{◌∙◌}
use Rattle.std.proofs.lemmas.Result.{err_from_is_err_and}
use Rattle.lay_node.specs.nodes.Facts.{ToldFront}
use Rattle.lay_node.specs.nodes.Vis.{about_vis}
use Rattle.lay_node.specs.reader.Vis.{visibility}
use Rattle.lay_node.specs.declared.vis.Vis.{Vis}
use Rattle.lay_node.proofs.reader.Vis.{vis_exact}
use Rattle.lay_read_tokens.proofs.Steps.{node_read, none_read}
use Rattle.lay_read_heads.proofs.reads.read_vis.Goals as goal

pub returns-in_err-vis : goal.returns-in_err-vis
returns-in_err-vis c =
    let p = err_from_is_err_and c.from_residual.result c.from_residual.ensures.1 in
    rw (p.1, p.2) (none_read visibility (λ (x : Vis). ToldFront (about_vis x)) vis_exact c.args.at.now c.requires
    c.new-ahead.result (c.new-ahead.ensures ∙ c.fork.ensures) c.in_err-vis.field-0.0 c.in_err-vis.ensures)

pub returns : goal.returns
returns c =
    rw c.into_cursor.ensures (node_read visibility (λ (x : Vis). ToldFront (about_vis x)) vis_exact c.args.at.now c.requires
    c.new-ahead.result (c.new-ahead.ensures ∙ c.fork.ensures) c.in_ok-vis.vis c.vis_ahead.new.at c.in_ok-vis.ensures)
