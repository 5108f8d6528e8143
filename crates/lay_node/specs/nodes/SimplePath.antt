-- Simple paths, which are words alone: when they are well formed, and their forms (Rust Reference,
-- "Simple paths").
use Rattle.std.specs.Prelude.{Bool, false, List, [], ◌∷◌}
use Rattle.lay_form.specs.Form.{Form, Done, Piece}
use Rattle.lay_form.specs.Notation.{when}
use Rattle.lay_node.specs.Follow.{OfColons}
use Rattle.lay_node.specs.Words.{are_path_words, leaf_of, colons}
use Rattle.lay_node.specs.nodes.Facts.{Facts}
use Rattle.lay_node.specs.declared.simple_path.SimplePath.{SimplePath}
use Rattle.lay_node.specs.declared.token.Word.{Word}

-- at least one word, each a word of a path
abbrev pub are_simple_words : List Word → Bool
are_simple_words [] = false
are_simple_words (w ∷ more) = are_path_words (w ∷ more)

-- words with `::` between them
abbrev pub simple_words_form : List Word → Form → Form
simple_words_form [] f = f
simple_words_form (w ∷ []) f = leaf_of w.raw w.text f
simple_words_form (w ∷ v ∷ more) f = leaf_of w.raw w.text (Piece colons (simple_words_form (v ∷ more) f))

abbrev pub is_simple_path : SimplePath → Bool
is_simple_path path = are_simple_words path.words

abbrev pub simple_path_form : SimplePath → Form
simple_path_form path = when path.global colons (simple_words_form path.words Done)

abbrev pub about_simple_path : SimplePath → Facts
about_simple_path path = record { form = simple_path_form path; good = is_simple_path path; refuses = OfColons ∷ [] }
