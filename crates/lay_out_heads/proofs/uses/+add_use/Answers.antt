use Rattle.std.proofs.Common.{List, ◌++◌, true, map, codes, refl, ◌∙◌}
use Rattle.lay_node.specs.declared.use_tree.UseTree.{UseTree}
use Rattle.lay_out_types.specs.Rows.{comma_between, list_closed, list_opened, row}
use Rattle.lay_out_types.proofs.Adding.{adds, adds_on}
use Rattle.lay_out_types.proofs.FormRows.{may_close, none_is, none_left}
use Rattle.lay_out_types.proofs.RowLemmas.{all_turns, turn}
use Rattle.lay_out_heads.proofs.UseLemmas.{glob_end, group_end, tree_form, trees_are, use_parts, word_end}
use Rattle.lay_out_heads.proofs.uses.+add_use.Goals as goal

pub add_use-returns : goal.add_use-returns
add_use-returns g t c =
    adds (adds_on c.add_if-global.ensures (adds_on c.add_words-words.ensures c.add_use_end.ensures))
    (use_parts c.args.tree.now _ c.as_slice.ensures)

pub add_use_end-returns-in-Word : goal.add_use_end-returns-in-Word
add_use_end-returns-in-Word g t c =
    adds (adds_on c.add_word-word.ensures c.add_rename.ensures)
    (word_end _ c.in-Word.word c.in-Word.rename c.in-Word.is)

pub add_use_end-returns-in-Glob : goal.add_use_end-returns-in-Glob
add_use_end-returns-in-Glob g t c = adds c.add_text.ensures (glob_end _ c.in-Glob.is)

pub add_use_end-returns-in-Group : goal.add_use_end-returns-in-Group
add_use_end-returns-in-Group g t c =
    adds c.add_trees.ensures (group_end _ c.in-Group.trees _ c.in-Group.is c.as_slice.ensures)

pub add_trees-loop-index-preserved : goal.add_trees-loop-index-preserved
add_trees-loop-index-preserved g t c =
    adds (adds_on c.loop-index.invariant (adds_on c.add_lead-done.ensures c.add_use-done.ensures))
    (turn tree_form (list_opened (codes "{")) comma_between c.args.trees.now _ _ c.loop-index-test.true
    c.index-trees-index.is _ refl)

pub add_trees-add_close-requires : goal.add_trees-add_close-requires
add_trees-add_close-requires g t c =
    may_close (codes "{") (codes "{}") (codes "}") true _ _
    (none_left tree_form c.args.trees.now _ _ c.loop-index-test.false c.is_empty.ensures) c.loop-index.invariant

pub add_trees-returns : goal.add_trees-returns
add_trees-returns g t c =
    adds (adds_on c.loop-index.invariant c.add_close.ensures)
    (all_turns (λ (ts : List UseTree). row (list_opened (codes "{")) comma_between (map tree_form ts)
    ++ list_closed true c.is_empty.result (codes "{}") (codes "}")) c.args.trees.now _ c.loop-index-test.false
    ∙ trees_are c.args.trees.now _ (none_is tree_form _ _ c.is_empty.ensures))
