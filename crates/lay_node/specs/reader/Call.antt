-- The parser of macro calls.
use Rattle.std.specs.Prelude.{if◌then◌else◌, drop, codes, Option, Some, None}
use Rattle.lay_token.specs.Operators.{is_op}
use Rattle.lay_piece.specs.declared.kind.Delim.{Delim}
use Rattle.lay_piece.specs.declared.kind.Delim.TheVariants.{Brace}
use Rattle.lay_node.specs.Ahead.{Tokens, is_mark}
use Rattle.lay_node.specs.reader.Loops.{Got, ◌>>=◌, passed}
use Rattle.lay_node.specs.reader.SimplePath.{simple_path}
use Rattle.lay_node.specs.reader.Tokens.{group}
use Rattle.lay_node.specs.declared.tokens.MacroCall.{MacroCall}

-- what follows the `!` of a macro call
abbrev pub behind_bang : Tokens → Option Tokens
behind_bang ts = if is_op (codes "!") ts then Some (drop 1 ts) else None

unfoldable pub call : Tokens → Got MacroCall
call ts = do
  p ← simple_path ts
  within ← behind_bang p.1
  g ← group within
  Some (record { path = p.0; tokens = g.0 }, g.1)

-- what follows the end of an item that is a macro call or declares a macro
abbrev pub behind_end : Delim → Tokens → Option Tokens
behind_end Brace ts = Some ts
behind_end _ ts = passed (is_mark (codes ";")) ts
