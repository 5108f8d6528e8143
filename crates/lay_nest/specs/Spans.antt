-- Spans of groups: how far each opener is from its partner.
use Rattle.std.specs.Prelude.{ℕ, ◌≡◌, List, [], ◌∷◌, ◌++◌, length}
use Rattle.lay_token.specs.Delimiters as delimiters
use Rattle.lay_token.specs.Delimiters.{Trees, Paired, tokens_of}
use Rattle.lay_token.specs.declared.token.Token.{Token}

-- for each token, how many tokens stand between it and its partner if it is an opener, else 0
abbrev pub spans_of : Trees → List ℕ
spans_of delimiters.NoTree = []
spans_of (delimiters.One t more) = 0 ∷ spans_of more
spans_of (delimiters.Nest opener inside closer more) =
    length (tokens_of inside) ∷ (spans_of inside ++ 0 ∷ spans_of more)

-- The tokens are balanced, and the spans are theirs.
pub record Spanned (tokens : List Token) (spans : List ℕ) : Type 0 where
  pub trees : Trees
  pub paired : Paired trees
  pub tokens_are : tokens ≡ tokens_of trees
  pub spans_are : spans ≡ spans_of trees
