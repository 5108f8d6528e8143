use Rattle.std.proofs.Common.{arith}
use Rattle.lay_node.specs.nodes.Use.{about_use}
use Rattle.lay_depth.proofs.nodes_lemmas.Loops.{all_told, form_of, turn}
use Rattle.lay_depth.proofs.nodes_lemmas.UseLemmas as of
use Rattle.lay_depth.proofs.nodes.uses.+uses.Goals as goal

pub trees_depth-loop-tree-preserved : goal.trees_depth-loop-tree-preserved
trees_depth-loop-tree-preserved g c =
    turn (form_of about_use) c.args.trees.now _ _ _ _ _ c.loop-tree-test.true c.tree-item.is c.loop-tree.invariant
    c.use_depth.ensures c.max-most.ensures

pub trees_depth-returns : goal.trees_depth-returns
trees_depth-returns g c = all_told about_use c.args.trees.now _ _ c.loop-tree-test.false c.loop-tree.invariant

pub use_depth-returns : goal.use_depth-returns
use_depth-returns g c =
    let m = of.tree_is c.args.tree.now in omega (arith, m, c.end_depth.ensures, c.deeper.ensures)

pub end_depth-returns-in-Group : goal.end_depth-returns-in-Group
end_depth-returns-in-Group g c =
    let m = of.group_is c.args.end.now c.in-Group.trees c.in-Group.is in
    let n = rw c.as_slice.ensures at c.trees_depth.ensures in omega (arith, m, n)

pub end_depth-returns-in-Word : goal.end_depth-returns-in-Word
end_depth-returns-in-Word g c = of.word_or_glob c.args.end.now c.in-Word.is

pub end_depth-returns-in-Word-2 : goal.end_depth-returns-in-Word-2
end_depth-returns-in-Word-2 g c = of.word_or_glob c.args.end.now c.in-Word.is
