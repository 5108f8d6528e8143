-- The streams of the parts of heads.
use Rattle.std.specs.Prelude.{ℕ, List, ◌∷◌, ◌++◌}
use Rattle.lay_layout.specs.declared.layout.Tok.{Tok}
use Rattle.lay_layout.specs.declared.layout.Tok.TheVariants as tok
use Rattle.lay_form.specs.Form.{Form, Done, Piece}
use Rattle.lay_form.specs.Stream.{stream_of}
use Rattle.lay_node.specs.Words.{colons, leaf_of}
use Rattle.lay_node.specs.nodes.Generics.{generics_form}
use Rattle.lay_node.specs.declared.generics.Generics.{Generics}
use Rattle.lay_node.specs.declared.token.Name.{Name}
use Rattle.lay_node.specs.declared.token.Word.{Word}

-- a text, a name, and generic parameters
abbrev pub called_row : List ℕ → Name → Generics → List Tok
called_row word name generics = tok.Text word ∷ (stream_of (leaf_of name.raw name.text Done) ++ stream_of (generics_form generics))

-- a word of a use tree, and the `::` after it
abbrev pub word_colons : Word → Form
word_colons w = leaf_of w.raw w.text (Piece colons Done)
