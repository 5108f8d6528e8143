-- The parser of use trees.
use Rattle.std.specs.Prelude.{ℕ, zero, suc, if◌then◌else◌, drop, codes, Option, Some, None}
use Rattle.lay_token.specs.Operators.{is_op}
use Rattle.lay_piece.specs.declared.kind.Delim.TheVariants.{Brace}
use Rattle.lay_node.specs.Ahead.{Tokens, first, tail, is_keyword, opens, closes}
use Rattle.lay_node.specs.Follow.{begins_there, OfColons}
use Rattle.lay_node.specs.reader.Loops.{Got, Read, ◌>>=◌, nodes, deepest, elements}
use Rattle.lay_node.specs.reader.Words.{word, given_name, global, path_words}
use Rattle.lay_node.specs.declared.token.GivenName.{GivenName}
use Rattle.lay_node.specs.declared.use_tree.UseEnd.{UseEnd}
use Rattle.lay_node.specs.declared.use_tree.UseEnd.TheVariants as use_end
use Rattle.lay_node.specs.declared.use_tree.UseTree.{UseTree}

unfoldable pub renamed : Tokens → Got (Option GivenName)
renamed ts =
    if first (is_keyword (codes "as")) ts then (do r ← given_name (tail ts); Some (Some r.0, r.1))
    else Some (None, ts)

abbrev pub use_word : Tokens → Read UseEnd
use_word ts = do w ← word ts; r ← renamed w.1; Some ((use_end.Word w.0 r.0, 0), r.1)

abbrev pub use_group : (Tokens → Read UseTree) → Tokens → Read UseEnd
use_group within ts = do trees ← elements (closes Brace) within ts; Some ((use_end.Group (nodes trees.0), deepest trees.0), trees.1)

abbrev pub use_end_by : (Tokens → Read UseTree) → Tokens → Read UseEnd
use_end_by within ts =
    if first (opens Brace) ts then use_group within (tail ts)
    else (if is_op (codes "*") ts then Some ((use_end.Glob, 0), drop 1 ts) else use_word ts)

-- No `::` may follow a use tree. No `as` follows a word without another name, since it would have
-- been parsed.
abbrev pub ended : (UseTree × ℕ) → Tokens → Read UseTree
ended tree ts = if begins_there OfColons ts then None else Some (tree, ts)

-- a use tree with trees within it
abbrev pub use_by : (Tokens → Read UseTree) → Tokens → Read UseTree
use_by within ts = do
  path ← path_words (global ts).1
  end ← use_end_by within path.1
  ended (record { global = (global ts).0; path = path.0; end = end.0.0 }, suc end.0.1) end.1

-- a use tree within a budget
unfoldable pub use_at : ℕ → Tokens → Read UseTree
use_at zero ts = None
use_at (suc budget) ts = use_by (use_at budget) ts
