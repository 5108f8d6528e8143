-- The parser of simple paths.
use Rattle.std.specs.Prelude.{Bool, ◌∷◌, drop, codes, Some}
use Rattle.lay_token.specs.Operators.{is_op}
use Rattle.lay_node.specs.Ahead.{Tokens}
use Rattle.lay_node.specs.reader.Loops.{Got, ◌>>=◌, repeat}
use Rattle.lay_node.specs.reader.Words.{word, global}
use Rattle.lay_node.specs.declared.simple_path.SimplePath.{SimplePath}
use Rattle.lay_node.specs.declared.token.Word.{Word}

abbrev pub begins_colons : Tokens → Bool
begins_colons ts = is_op (codes "::") ts

-- a word after its `::`
abbrev pub further_word : Tokens → Got Word
further_word ts = word (drop 2 ts)

unfoldable pub simple_path : Tokens → Got SimplePath
simple_path ts = do
  w ← word (global ts).1
  more ← repeat begins_colons further_word w.1
  Some (record { global = (global ts).0; words = w.0 ∷ more.0 }, more.1)
