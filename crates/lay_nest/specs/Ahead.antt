-- The tokens ahead of a cursor. The cursor may stand within groups, after their openers.
use Rattle.std.specs.Prelude.{ℕ, ◌≡◌, List, ◌∷◌, ◌++◌, IsTrue}
use Rattle.lay_token.specs.Delimiters.{Trees, Paired, tokens_of, is_closer}
use Rattle.lay_token.specs.declared.token.Token.{Token}
use Rattle.lay_nest.specs.Spans.{spans_of}

-- token trees to the end, or token trees up to the closer of a group that was entered, and what is
-- ahead after that closer
pub data Ahead : Type 0 where
  Last : Trees → Ahead
  UpTo : Trees → Token → Ahead → Ahead

abbrev pub tokens_ahead : Ahead → List Token
tokens_ahead (Last trees) = tokens_of trees
tokens_ahead (UpTo trees closer more) = tokens_of trees ++ closer ∷ tokens_ahead more

abbrev pub spans_ahead : Ahead → List ℕ
spans_ahead (Last trees) = spans_of trees
spans_ahead (UpTo trees closer more) = spans_of trees ++ 0 ∷ spans_ahead more

abbrev pub PairedAhead : Ahead → Type 0
PairedAhead (Last trees) = Paired trees
PairedAhead (UpTo trees closer more) = Paired trees × IsTrue (is_closer closer.kind) × PairedAhead more

-- The spans are those of the tokens ahead.
pub record SpannedAhead (tokens : List Token) (spans : List ℕ) : Type 0 where
  pub ahead : Ahead
  pub paired : PairedAhead ahead
  pub tokens_are : tokens ≡ tokens_ahead ahead
  pub spans_are : spans ≡ spans_ahead ahead
