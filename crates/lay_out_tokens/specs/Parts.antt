-- The forms of parts that the code lays out by functions of their own.
use Rattle.std.specs.Prelude.{List, [], ◌∷◌}
use Rattle.lay_piece.specs.declared.kind.Delim.{Delim}
use Rattle.lay_form.specs.Form.{Form, Done, Piece}
use Rattle.lay_node.specs.Words.{leaf_of, colons}
use Rattle.lay_node.specs.tokens.Lists.{group_form}
use Rattle.lay_node.specs.declared.token.Listed.{Listed}
use Rattle.lay_node.specs.declared.token.Word.{Word}

-- the words of a simple path after its first, each with a `::` before it
abbrev pub further_words : List Word → Form
further_words [] = Done
further_words (w ∷ more) = Piece colons (leaf_of w.raw w.text (further_words more))

-- a token list in delimiters
abbrev pub enclosed : Delim → List Listed → Form
enclosed d ts = group_form (record { delim = d; tokens = ts }) Done
