-- The facts about a use tree and about its end, kind by kind.
use Rattle.std.proofs.Common.{◌≡◌, List, map, Option, sym, ap, ◌∙◌, subst}
use Rattle.lay_node.specs.nodes.Facts.{Facts}
use Rattle.lay_node.specs.nodes.Use.{end_facts, tree_facts, about_use, about_use_end}
use Rattle.lay_node.specs.declared.token.GivenName.{GivenName}
use Rattle.lay_node.specs.declared.token.Word.{Word}
use Rattle.lay_node.specs.declared.use_tree.UseEnd.{UseEnd}
use Rattle.lay_node.specs.declared.use_tree.UseEnd.TheVariants as use_end
use Rattle.lay_node.specs.declared.use_tree.UseEnd.TheOpen.{UseEnd-F}
use Rattle.lay_node.specs.declared.use_tree.UseEnd.TheViews.{out-UseEnd, roll-UseEnd, roll-out-UseEnd, rolls-Word, rolls-Glob, rolls-Group}
use Rattle.lay_node.specs.declared.use_tree.UseEnd.TheFolds.{fold_out-UseTree, fold-roll-UseEnd}
use Rattle.lay_node.specs.declared.use_tree.UseTree.{UseTree}

-- which end it is
pub data EndView : UseEnd → Type 0 where
  IsWord : (word : Word) (renamed : Option GivenName) → EndView (use_end.Word word renamed)
  IsGlob : EndView use_end.Glob
  IsGroup : (trees : List UseTree) → EndView (use_end.Group trees)

end_layer : (layer : UseEnd-F UseEnd UseTree) → EndView (roll-UseEnd layer)
end_layer (UseEnd-F.Word word renamed) = subst EndView (sym (rolls-Word word renamed)) (IsWord word renamed)
end_layer UseEnd-F.Glob = subst EndView (sym rolls-Glob) IsGlob
end_layer (UseEnd-F.Group trees) = subst EndView (sym (rolls-Group trees)) (IsGroup trees)

pub end_view : (end : UseEnd) → EndView end
end_view end = subst EndView (roll-out-UseEnd end) (end_layer (out-UseEnd end))

pub use_is : (tree : UseTree) → about_use tree ≡ tree_facts (record { global = tree.global; path = tree.path; end = about_use_end tree.end })
unfolding about_use about_use_end
use_is tree = fold_out-UseTree Facts Facts end_facts tree_facts tree

pub word_is : (word : Word) (renamed : Option GivenName) → about_use_end (use_end.Word word renamed) ≡ end_facts (UseEnd-F.Word word renamed)
unfolding about_use_end
word_is word renamed =
    ap about_use_end (sym (rolls-Word word renamed)) ∙ fold-roll-UseEnd Facts Facts end_facts tree_facts (UseEnd-F.Word word renamed)

pub glob_is : about_use_end use_end.Glob ≡ end_facts UseEnd-F.Glob
unfolding about_use_end
glob_is = ap about_use_end (sym rolls-Glob) ∙ fold-roll-UseEnd Facts Facts end_facts tree_facts UseEnd-F.Glob

pub group_is : (trees : List UseTree) → about_use_end (use_end.Group trees) ≡ end_facts (UseEnd-F.Group (map about_use trees))
unfolding about_use about_use_end
group_is trees = ap about_use_end (sym (rolls-Group trees)) ∙ fold-roll-UseEnd Facts Facts end_facts tree_facts (UseEnd-F.Group trees)
