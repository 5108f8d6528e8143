-- The group, or the token tree, at the start of a list of tokens.
use Rattle.std.specs.Prelude.{◌≡◌, ◌<◌, Bool, true, false, not, List, [], ◌∷◌, ◌++◌, length, IsTrue}
use Rattle.lay_token.specs.Delimiters.{Balanced, NoTree, One, Nest, Paired, Trees, is_opener, is_closer, is_pair, tokens_of}
use Rattle.lay_token.specs.declared.token.Token.{Token}

-- The first token is an opener.
abbrev pub begins_group : List Token → Bool
begins_group [] = false
begins_group (t ∷ ts) = is_opener t.kind

-- The tokens are a group and `behind`, the tokens after it. A group is an opener, the tokens
-- inside, and the opener's partner.
pub record Grouped (tokens inside behind : List Token) : Type 0 where
  pub opener : Token
  pub closer : Token
  pub whole : tokens ≡ opener ∷ (inside ++ closer ∷ behind)
  pub pair : IsTrue (is_pair opener.kind closer.kind)
  pub balanced : Balanced inside

-- The first token isn't a closer.
abbrev pub begins_tree : List Token → Bool
begins_tree [] = false
begins_tree (t ∷ ts) = not (is_closer t.kind)

abbrev pub is_one : Trees → Bool
is_one (One token NoTree) = true
is_one (Nest opener inside closer NoTree) = true
is_one _ = false

-- The tokens are one token tree: a token that isn't a delimiter, or a group with its delimiters.
abbrev pub AreTree : List Token → Type 0
AreTree tokens = (tree : Trees) × IsTrue (is_one tree) × Paired tree × (tokens ≡ tokens_of tree)

-- The tokens are a token tree and `behind`, the tokens after it.
pub record BehindTree (tokens behind : List Token) : Type 0 where
  pub tree : List Token
  pub whole : tokens ≡ tree ++ behind
  pub are_tree : AreTree tree
  pub some : 0 < length tree
