-- The groups among the tokens read so far, some of them still open.
use Rattle.std.specs.Prelude.{ℕ, ◌≡◌, ◌+◌, List, [], ◌∷◌, ◌++◌, length, IsTrue, Result, Ok, Err}
use Rattle.lay_token.specs.Delimiters.{Trees, Paired, tokens_of, is_opener}
use Rattle.lay_token.specs.declared.token.Token.{Token}
use Rattle.lay_text.specs.declared.refusal.FormatError.{FormatError}
use Rattle.lay_nest.specs.Nested.{RefusedAs}
use Rattle.lay_nest.specs.Spans.{spans_of}
use Rattle.lay_nest.specs.declared.partners.Reading.{Reading}

-- token trees, with openers among them that are still open
pub data Partial : Type 0 where
  Closed : Trees → Partial
  Within : Partial → Token → Trees → Partial

abbrev pub tokens_so_far : Partial → List Token
tokens_so_far (Closed trees) = tokens_of trees
tokens_so_far (Within before opener inside) = tokens_so_far before ++ opener ∷ tokens_of inside

-- the spans of the tokens; that of an opener still open is 0
abbrev pub spans_so_far : Partial → List ℕ
spans_so_far (Closed trees) = spans_of trees
spans_so_far (Within before opener inside) = spans_so_far before ++ 0 ∷ spans_of inside

-- the indices of the openers still open, the last one last
abbrev pub places_open : Partial → List ℕ
places_open (Closed trees) = []
places_open (Within before opener inside) = places_open before ++ length (tokens_so_far before) ∷ []

abbrev pub PairedSoFar : Partial → Type 0
PairedSoFar (Closed trees) = Paired trees
PairedSoFar (Within before opener inside) = PairedSoFar before × IsTrue (is_opener opener.kind) × Paired inside

-- A prefix of the tokens is read, one for each span. The spans are theirs, and the places are those
-- of the openers still open.
pub record SoFar (tokens : List Token) (spans places : List ℕ) : Type 0 where
  pub partial : Partial
  pub behind : List Token
  pub paired : PairedSoFar partial
  pub whole : tokens ≡ tokens_so_far partial ++ behind
  pub spans_are : spans ≡ spans_so_far partial
  pub places_are : places ≡ places_open partial

-- One more token than this many is read.
pub record Added (tokens : List Token) (len : ℕ) (reading : Reading) : Type 0 where
  pub read : SoFar tokens reading.spans.items reading.places.items
  pub one_more : length reading.spans.items ≡ len + 1

abbrev pub AddedAs : List Token → ℕ → Reading → Result (Unit {0}) FormatError → Type 0
AddedAs tokens len reading (Ok done) = Added tokens len reading
AddedAs tokens len reading (Err error) = RefusedAs tokens error
