use Rattle.std.proofs.Common.{◌≡◌}
use Rattle.lay_read_shared.proofs.boxes.unboxed.Given as goal

-- the nodes whose boxes are passed
abbrev pub invariant-loop-node : goal.invariant-loop-node
invariant-loop-node g l = l.nodes ≡ l.yielded
