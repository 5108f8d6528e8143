-- What may not follow a node. A node refuses the tokens that would make it longer: those that its
-- own rule names, and those that the node at its end refuses. The rules are in the order of
-- docs/GRAMMAR.md.
use Rattle.std.specs.Prelude.{◌&&◌, ◌||◌, not, Bool, true, List, [], ◌∷◌, codes}
use Rattle.lay_token.specs.Operators.{is_op}
use Rattle.lay_piece.specs.declared.kind.Delim.TheVariants.{Paren, Brace}
use Rattle.lay_node.specs.Ahead.{Tokens, first, is_keyword, opens, opens_args, opens_args_late}

pub data Begin : Type 0 where
  -- an optional last part that is left out: another name, after the word that an import ends in
  OfRename : Begin
  -- generic arguments that are left out: in what names a kind of things, and in code
  OfArgs : Begin
  OfCodeArgs : Begin
  -- a return type that is left out
  OfArrow : Begin
  -- `::`, after a path and a use tree
  OfColons : Begin
  -- `!`, after a path that is a type
  OfBang : Begin

-- The tokens begin with it.
abbrev pub begins_there : Begin → Tokens → Bool
begins_there OfRename ts = first (is_keyword (codes "as")) ts
begins_there OfArgs ts = opens_args ts || (opens_args_late ts || first (opens Paren) ts)
begins_there OfCodeArgs ts = opens_args_late ts
begins_there OfArrow ts = is_op (codes "->") ts
begins_there OfColons ts = is_op (codes "::") ts
begins_there OfBang ts = is_op (codes "!") ts

-- The tokens may follow a node that refuses these.
abbrev pub may_follow : List Begin → Tokens → Bool
may_follow [] ts = true
may_follow (b ∷ bs) ts = not (begins_there b ts) && may_follow bs ts

-- the `..` or `..=` of a span
abbrev pub begins_dots : Tokens → Bool
begins_dots ts = is_op (codes "..") ts || is_op (codes "..=") ts

-- What would continue a pattern: fields in parentheses or in braces, and the `..` or `..=` of a
-- span.
abbrev pub goes_on_pattern : Tokens → Bool
goes_on_pattern ts = first (opens Paren) ts || (first (opens Brace) ts || begins_dots ts)
