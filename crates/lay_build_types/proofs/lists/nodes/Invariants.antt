use Rattle.std.proofs.Common.{◌≡◌, ◌≤◌, ◌++◌, length, map, reverse}
use Rattle.std.specs.List.{AllByRecursion}
use Rattle.lay_code.specs.Reading.{top}
use Rattle.lay_depth.specs.nodes.Depths.{greatest}
use Rattle.lay_build_types.specs.Answers.{IsKept}
use Rattle.lay_build_types.proofs.lists.nodes.Given as goal

-- the nodes so far and those that are left are the list
abbrev pub invariant-loop-built : goal.invariant-loop-built
invariant-loop-built g l = record {
  same : l.fn.list ≡ l.nodes ++ reverse l.left.items;
  need : l.need ≡ greatest (map g.N.Node.form l.nodes);
  within : l.need ≤ top;
  kept : AllByRecursion (IsKept g.N.Node.form g.N.Node.Holds) l.nodes;
}

abbrev pub decreases-loop-built : goal.decreases-loop-built
decreases-loop-built g l = length l.left.items
