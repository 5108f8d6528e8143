use Rattle.std.proofs.Common.{◌≡◌, map, take}
use Rattle.lay_depth.specs.nodes.Depths.{counted, greatest}
use Rattle.lay_depth.proofs.nodes.levels.deepest.Given as goal

abbrev pub invariant-loop-node : goal.invariant-loop-node
invariant-loop-node g l = l.most ≡ counted (greatest (map g.T.Deep.form (take l.node-index l.nodes)))
