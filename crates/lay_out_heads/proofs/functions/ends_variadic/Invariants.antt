use Rattle.std.proofs.Common.{◌≡◌, take}
use Rattle.lay_node.specs.nodes.Functions.{ends_variadic}
use Rattle.lay_out_heads.proofs.functions.ends_variadic.Given as goal

-- the facts about the parameters so far
abbrev pub invariant-loop-param : goal.invariant-loop-param
invariant-loop-param l = l.ends ≡ ends_variadic (take l.param-index l.params)
