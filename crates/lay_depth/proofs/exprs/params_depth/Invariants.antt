use Rattle.std.proofs.Common.{◌≡◌, map, take}
use Rattle.lay_code.specs.nodes.Exprs.{closure_param}
use Rattle.lay_depth.specs.nodes.Depths.{counted, greatest}
use Rattle.lay_depth.proofs.exprs.params_depth.Given as goal

abbrev pub invariant-loop-param : goal.invariant-loop-param
invariant-loop-param l = l.most ≡ counted (greatest (map closure_param (take l.param-index l.params)))
