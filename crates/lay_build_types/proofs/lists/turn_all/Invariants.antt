use Rattle.std.proofs.Common.{◌≡◌, ◌++◌, length, map, reverse}
use Rattle.lay_build_types.proofs.lists.turn_all.Given as goal

-- what was made so far, and what is made of those that are left
abbrev pub invariant-loop-node : goal.invariant-loop-node
invariant-loop-node g l = map g.N.Turns.turned l.fn.list ≡ l.made ++ map g.N.Turns.turned (reverse l.left.items)

abbrev pub decreases-loop-node : goal.decreases-loop-node
decreases-loop-node g l = length l.left.items
