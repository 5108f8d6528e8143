-- Use trees: when they are well formed, their forms, and what may follow (Rust Reference, "Use
-- declarations").
use Rattle.std.specs.Prelude.{Bool, true, ◌&&◌, List, [], ◌∷◌, codes, Option, Some, None}
use Rattle.lay_piece.specs.declared.kind.Delim.TheVariants.{Brace}
use Rattle.lay_piece.specs.declared.kind.Kind.TheVariants.{Underscore}
use Rattle.lay_form.specs.Form.{Blank, Operator, Form, Done, Piece, Leaf, Part, Deeper, keyword, opener, closer}
use Rattle.lay_form.specs.Notation.{piece, when, comma_list}
use Rattle.lay_node.specs.Follow.{Begin, OfRename, OfColons}
use Rattle.lay_node.specs.Words.{is_name, is_path_word, are_path_words, leaf_of, colons}
use Rattle.lay_node.specs.nodes.Facts.{Facts, forms, all_good}
use Rattle.lay_node.specs.declared.token.GivenName.{GivenName}
use Rattle.lay_node.specs.declared.token.GivenName.TheVariants as given_name
use Rattle.lay_node.specs.declared.token.Word.{Word}
use Rattle.lay_node.specs.declared.use_tree.UseEnd.{UseEnd}
use Rattle.lay_node.specs.declared.use_tree.UseEnd.TheFolds.{fold-UseEnd, fold-UseTree}
use Rattle.lay_node.specs.declared.use_tree.UseEnd.TheOpen.{UseEnd-F, UseTree-F}
use Rattle.lay_node.specs.declared.use_tree.UseTree.{UseTree}

-- ---- another name

abbrev pub is_rename : Option GivenName → Bool
is_rename None = true
is_rename (Some (given_name.Name name)) = is_name name.raw name.text
is_rename (Some given_name.Underscore) = true

abbrev pub as_word : Form → Form
as_word f = Piece (Blank ∷ keyword (codes "as") ∷ Blank ∷ []) f

abbrev pub rename_form : Option GivenName → Form
rename_form None = Done
rename_form (Some (given_name.Name name)) = as_word (leaf_of name.raw name.text Done)
rename_form (Some given_name.Underscore) = as_word (Leaf Underscore (codes "_") Done)

abbrev pub refuses_rename : Option GivenName → List Begin
refuses_rename None = OfRename ∷ []
refuses_rename (Some r) = []

-- ---- what a use tree ends in, given all facts about the trees within it

abbrev pub end_form : UseEnd-F Facts Facts → Form
end_form (UseEnd-F.Word word renamed) = leaf_of word.raw word.text (rename_form renamed)
end_form UseEnd-F.Glob = piece (Operator (codes "*") ∷ [])
end_form (UseEnd-F.Group trees) = comma_list true (opener Brace) (closer Brace) (forms trees)

abbrev pub end_good : UseEnd-F Facts Facts → Bool
end_good (UseEnd-F.Word word renamed) = is_path_word word.raw word.text && is_rename renamed
end_good UseEnd-F.Glob = true
end_good (UseEnd-F.Group trees) = all_good trees

abbrev pub end_refuses : UseEnd-F Facts Facts → List Begin
end_refuses (UseEnd-F.Word word renamed) = refuses_rename renamed
end_refuses UseEnd-F.Glob = []
end_refuses (UseEnd-F.Group trees) = []

abbrev pub end_facts : UseEnd-F Facts Facts → Facts
end_facts end = record { form = end_form end; good = end_good end; refuses = end_refuses end }

-- ---- a use tree

-- words, each with a `::` after it
abbrev pub words_form : List Word → Form → Form
words_form [] f = f
words_form (w ∷ ws) f = leaf_of w.raw w.text (Piece colons (words_form ws f))

abbrev pub tree_facts : UseTree-F Facts Facts → Facts
tree_facts tree = record {
  form = Deeper (when tree.global colons (words_form tree.path (Part tree.end.form Done))) Done;
  good = are_path_words tree.path && tree.end.good;
  refuses = OfColons ∷ tree.end.refuses;
}

unfoldable pub about_use : UseTree → Facts
about_use = fold-UseTree Facts Facts end_facts tree_facts

unfoldable pub about_use_end : UseEnd → Facts
about_use_end = fold-UseEnd Facts Facts end_facts tree_facts
