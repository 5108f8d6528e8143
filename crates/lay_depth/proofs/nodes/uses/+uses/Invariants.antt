use Rattle.std.proofs.Common.{◌≡◌, map, take}
use Rattle.lay_depth.specs.nodes.Depths.{counted, greatest}
use Rattle.lay_node.specs.nodes.Use.{about_use}
use Rattle.lay_depth.proofs.nodes_lemmas.Loops.{form_of}
use Rattle.lay_depth.proofs.nodes.uses.+uses.Given as goal

abbrev pub invariant-trees_depth-loop-tree : goal.invariant-trees_depth-loop-tree
invariant-trees_depth-loop-tree l = l.most ≡ counted (greatest (map (form_of about_use) (take l.tree-index l.trees)))
