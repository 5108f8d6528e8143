use Rattle.std.proofs.Common.{◌≡◌, length, take}
use Rattle.lay_same_nodes.proofs.uses.+use_trees.Given as goal

abbrev pub invariant-same_trees-loop-tree : goal.invariant-same_trees-loop-tree
invariant-same_trees-loop-tree l = take (length l.yielded) l.trees ≡ take (length l.yielded) l.others
