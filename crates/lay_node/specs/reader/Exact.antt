-- What is proved of the parser: a node is parsed exactly where it stands at the start of the
-- tokens.
use Rattle.std.specs.Prelude.{ℕ, ◌≡◌, ◌≤◌, Bool, ◌||◌, not, drop, map, Some, IsTrue}
use Rattle.std.specs.List.{list_all}
use Rattle.lay_token.specs.Lexes.{is_punct}
use Rattle.lay_token.specs.declared.token.Token.{Token}
use Rattle.lay_node.specs.Ahead.{Tokens}
use Rattle.lay_node.specs.reader.Loops.{Got, Read, ◌>>=◌}
use Rattle.lay_node.specs.tokens.Lexed.{fits}
use Rattle.lay_node.specs.tokens.Listing.{as_listed}
use Rattle.lay_node.specs.tokens.Pairs.{Neighbour}

-- No token but punctuation is joint.
abbrev pub is_loose : Token → Bool
is_loose t = is_punct t.kind || not t.joint

-- The tokens are consecutive in what some text lexes to, and stand after these two others.
pub record InText (ts : Tokens) : Type 0 where
  pub before : Neighbour
  pub last : Neighbour
  pub fit : IsTrue (fits before last (map as_listed ts))
  pub loose : IsTrue (list_all is_loose ts)

-- The parser is sound and complete. What is parsed within a budget stands at the start of the
-- tokens at the depth that it needs. What stands there at a depth is parsed within every budget
-- from that depth on. So at most one node and one count of tokens fit.
pub record Exact {A : Type 0} (read : ℕ → Tokens → Read A) (Front : A → Tokens → ℕ → ℕ → Type 0) : Type 0 where
  pub sound : (budget : ℕ) (ts : Tokens) (x : A) (need : ℕ) (rest : Tokens) → InText ts → read budget ts ≡ Some ((x, need), rest)
      → (n : ℕ) × (drop n ts ≡ rest) × (need ≤ budget) × Front x ts n need
  pub complete : (x : A) (ts : Tokens) (n depth : ℕ) → Front x ts n depth
      → (budget : ℕ) → depth ≤ budget → (need : ℕ) × (need ≤ depth) × (read budget ts ≡ Some ((x, need), drop n ts))

-- the parser of a node with no nodes within it
abbrev pub needless : {A : Type 0} → (Tokens → Got A) → ℕ → Tokens → Read A
needless one budget ts = do x ← one ts; Some ((x.0, 0), x.1)
