use Rattle.std.proofs.Common.{◌≡◌, length, take}
use Rattle.lay_same_nodes.proofs.lists.same_items.Given as goal

abbrev pub invariant-loop-item : goal.invariant-loop-item
invariant-loop-item g l = take (length l.yielded) l.items ≡ take (length l.yielded) l.others
