use Rattle.std.proofs.Common.{◌∙◌, ap, arith, Some}
use Rattle.lay_depth.proofs.nodes_lemmas.PatternLemmas as of
use Rattle.lay_depth.proofs.nodes.patterns.end_depth.Goals as goal

pub returns-in-Path : goal.returns-in-Path
returns-in-Path c =
    let m = of.end_path_is c.args.end.now c.in-Path.path (c.in-Some.is ∙ ap Some c.in-Path.is) in omega (arith, m, c.path_depth.ensures)
