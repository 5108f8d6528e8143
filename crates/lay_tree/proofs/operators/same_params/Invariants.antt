use Rattle.std.proofs.Common.{◌≡◌, length, take}
use Rattle.lay_tree.proofs.operators.same_params.Given as goal

abbrev pub invariant-loop-param : goal.invariant-loop-param
invariant-loop-param l = take (length l.yielded) l.params ≡ take (length l.yielded) l.others
