-- What use trees need.
use Rattle.std.proofs.Common.{◌≡◌, ◌∙◌, ◌⊎◌, inl, inr, ◌+◌, true, List, [], ◌∷◌, map, ap, refl, arith, Option, Some, None}
use Rattle.lay_form.specs.Depth.{least_depth}
use Rattle.lay_piece.specs.declared.kind.Delim.TheVariants.{Brace}
use Rattle.lay_form.specs.Form.{Form, Done, Part, opener, closer}
use Rattle.lay_node.specs.Words.{colons}
use Rattle.lay_node.specs.nodes.Facts.{Facts, forms}
use Rattle.lay_node.specs.nodes.Use.{about_use, about_use_end, rename_form, words_form}
use Rattle.lay_node.specs.declared.token.GivenName.{GivenName}
use Rattle.lay_node.specs.declared.token.GivenName.TheVariants as given_name
use Rattle.lay_node.specs.declared.token.Word.{Word}
use Rattle.lay_node.specs.declared.use_tree.UseEnd.{UseEnd}
use Rattle.lay_node.specs.declared.use_tree.UseEnd.TheVariants as use_end
use Rattle.lay_node.specs.declared.use_tree.UseTree.{UseTree}
use Rattle.lay_node.proofs.nodes.UseLaws as laws
use Rattle.lay_depth.specs.nodes.Depths.{counted, greatest}
use Rattle.lay_depth.proofs.nodes_lemmas.Forms.{leaf_is, list_is, when_is}

words_are : (ws : List Word) (f : Form) → least_depth (words_form ws f) ≡ least_depth f
words_are [] f = refl
words_are (w ∷ ws) f = leaf_is w.raw w.text _ ∙ words_are ws f

pub tree_is : (tree : UseTree) → least_depth (about_use tree).form ≡ least_depth (about_use_end tree.end).form + 1
tree_is tree =
    ap (λ (x : Facts). least_depth x.form) (laws.use_is tree)
    ∙ (let m = when_is tree.global colons (words_form tree.path (Part (about_use_end tree.end).form Done)) in
    let n = words_are tree.path (Part (about_use_end tree.end).form Done) in omega (arith, m, n))

pub rename_is : (renamed : Option GivenName) → least_depth (rename_form renamed) ≡ 0
rename_is None = refl
rename_is (Some (given_name.Name name)) = leaf_is name.raw name.text Done
rename_is (Some given_name.Underscore) = refl

pub word_is : (end : UseEnd) (word : Word) (renamed : Option GivenName) → end ≡ use_end.Word word renamed
    → least_depth (about_use_end end).form ≡ 0
word_is end word renamed is =
    ap (λ (x : UseEnd). least_depth (about_use_end x).form) is ∙ ap (λ (x : Facts). least_depth x.form) (laws.word_is word renamed)
    ∙ leaf_is word.raw word.text _ ∙ rename_is renamed

pub glob_is : (end : UseEnd) → end ≡ use_end.Glob → least_depth (about_use_end end).form ≡ 0
glob_is end is = ap (λ (x : UseEnd). least_depth (about_use_end x).form) is ∙ ap (λ (x : Facts). least_depth x.form) laws.glob_is

pub group_is : (end : UseEnd) (trees : List UseTree) → end ≡ use_end.Group trees
    → least_depth (about_use_end end).form ≡ greatest (forms (map about_use trees))
group_is end trees is =
    ap (λ (x : UseEnd). least_depth (about_use_end x).form) is ∙ ap (λ (x : Facts). least_depth x.form) (laws.group_is trees)
    ∙ list_is true (opener Brace) (closer Brace) (forms (map about_use trees))

pub word_or_glob : (end : UseEnd) → ((word : Word) × (renamed : Option GivenName) × (end ≡ use_end.Word word renamed)) ⊎ (end ≡ use_end.Glob)
    → 0 ≡ counted (least_depth (about_use_end end).form)
word_or_glob end (inl w) = let m = word_is end w.0 w.1 w.2 in omega (arith, m)
word_or_glob end (inr e) = let m = glob_is end e in omega (arith, m)
