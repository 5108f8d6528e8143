use Rattle.std.proofs.Common.{◌≡◌, ◌++◌, length, reverse}
use Rattle.lay_build_types.specs.Nodes as node
use Rattle.lay_build_types.proofs.names.segments.Given as goal

-- what is left tells the other segments
abbrev pub invariant-loop-next : goal.invariant-loop-next
invariant-loop-next l =
    node.segments l.fn.first l.fn.rest l.fn.arguments ≡ l.segments ++ node.segments l.last (reverse l.rest.items) l.arguments

abbrev pub decreases-loop-next : goal.decreases-loop-next
decreases-loop-next l = length l.rest.items
