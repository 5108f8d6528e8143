use Rattle.std.proofs.Common.{◌≡◌, length, take}
use Rattle.lay_tree.proofs.operators.same_prefixes.Given as goal

abbrev pub invariant-loop-prefix : goal.invariant-loop-prefix
invariant-loop-prefix l = take (length l.yielded) l.prefixes ≡ take (length l.yielded) l.others
