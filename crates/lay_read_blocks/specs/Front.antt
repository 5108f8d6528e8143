-- Lookahead for items among statements, in code.
use Rattle.std.specs.Prelude.{◌&&◌, not, Bool, [], ◌∷◌, codes}
use Rattle.lay_piece.specs.declared.kind.Delim.TheVariants.{Brace}
use Rattle.lay_node.specs.Ahead.{Tokens, first, tail, is_keyword, opens}
use Rattle.lay_code.specs.reader.Blocks.{begins_with}

-- An item begins with `const` or `unsafe`: no `{` follows the word.
abbrev pub begins_const_item : Tokens → Bool
begins_const_item ts = begins_with (codes "const" ∷ codes "unsafe" ∷ []) ts && not (first (opens Brace) (tail ts))

-- A function begins with `async`: one of its further words follows.
abbrev pub begins_async_fn : Tokens → Bool
begins_async_fn ts =
    first (is_keyword (codes "async")) ts && begins_with (codes "fn" ∷ codes "unsafe" ∷ codes "extern" ∷ []) (tail ts)
