-- Delimiters in a list of tokens: when they are balanced, and where they aren't (Rust Reference,
-- "Macros": token trees; "Delimiters").
use Rattle.std.specs.Prelude.{ℕ, ◌≡◌, ◌⊎◌, ◌&&◌, Bool, true, false, not, List, [], ◌∷◌, ◌++◌, IsTrue, IsFalse}
use Rattle.lay_piece.specs.declared.kind.Delim.TheVariants.{Paren, Bracket, Brace}
use Rattle.lay_piece.specs.declared.kind.Kind.{Kind}
use Rattle.lay_piece.specs.declared.kind.Kind.TheVariants.{Opener, Closer}
use Rattle.lay_token.specs.declared.token.Token.{Token}

abbrev pub is_opener : Kind → Bool
is_opener (Opener d) = true
is_opener _ = false

abbrev pub is_closer : Kind → Bool
is_closer (Closer d) = true
is_closer _ = false

-- an opener and the closer of its own delimiter
abbrev pub is_pair : Kind → Kind → Bool
is_pair (Opener Paren) (Closer Paren) = true
is_pair (Opener Bracket) (Closer Bracket) = true
is_pair (Opener Brace) (Closer Brace) = true
is_pair _ _ = false

-- token trees: tokens that aren't delimiters, and groups; a group is its two delimiters and the
-- trees between them
pub data Trees : Type 0 where
  NoTree : Trees
  One : Token → Trees → Trees
  Nest : Token → Trees → Token → Trees → Trees

-- the tokens of the trees, in order
abbrev pub tokens_of : Trees → List Token
tokens_of NoTree = []
tokens_of (One t more) = t ∷ tokens_of more
tokens_of (Nest opener inside closer more) = opener ∷ (tokens_of inside ++ closer ∷ tokens_of more)

-- The delimiters of each group are partners, and no token outside of these is a delimiter.
abbrev pub Paired : Trees → Type 0
Paired NoTree = Unit {0}
Paired (One t more) = IsFalse (is_opener t.kind) × IsFalse (is_closer t.kind) × Paired more
Paired (Nest opener inside closer more) = IsTrue (is_pair opener.kind closer.kind) × Paired inside × Paired more

-- The tokens are those of token trees: each opener has its partner, and so has each closer.
abbrev pub Balanced : List Token → Type 0
Balanced tokens = (trees : Trees) × Paired trees × (tokens ≡ tokens_of trees)

-- The tokens are balanced except for these openers, which stay open. The last opener is listed
-- first.
abbrev pub LeaveOpen : List Token → List Token → Type 0
LeaveOpen [] tokens = Balanced tokens
LeaveOpen (opener ∷ others) tokens = (before inside : List Token) × (tokens ≡ before ++ opener ∷ inside)
    × IsTrue (is_opener opener.kind) × LeaveOpen others before × Balanced inside

-- Where these openers are open, a token of this kind is a stray closer: it doesn't close the last
-- one.
abbrev pub is_stray : List Token → Kind → Bool
is_stray [] kind = is_closer kind
is_stray (opener ∷ others) kind = is_closer kind && not (is_pair opener.kind kind)

-- The first stray closer stands at this place of the text. It isn't the partner of the last opener
-- still open.
pub record Stray (tokens : List Token) (at : ℕ) : Type 0 where
  pub before : List Token
  pub closer : Token
  pub after : List Token
  pub open_ones : List Token
  pub whole : tokens ≡ before ++ closer ∷ after
  pub left : LeaveOpen open_ones before
  pub stray : IsTrue (is_stray open_ones closer.kind)
  pub place : at ≡ closer.at

-- Each closer has its partner. The last opener that stays open stands at this place of the text.
pub record Unclosed (tokens : List Token) (at : ℕ) : Type 0 where
  pub last : Token
  pub others : List Token
  pub left : LeaveOpen (last ∷ others) tokens
  pub place : at ≡ last.at

-- where tokens are unbalanced
abbrev pub UnbalancedAt : List Token → ℕ → Type 0
UnbalancedAt tokens at = Stray tokens at ⊎ Unclosed tokens at
