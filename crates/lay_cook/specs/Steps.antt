-- The rest of a string literal at each step of cooking it.
use Rattle.std.specs.Prelude.{◌≡◌, ℕ, Bool, false, ◌||◌, ◌==◌, not, List, [], ◌∷◌, ◌++◌, IsTrue, Some}
use Rattle.lay_piece.specs.Scan.{run}
use Rattle.lay_piece.specs.Quoted.{InString, Plain, string_step}
use Rattle.lay_piece.specs.Forms.{after_literal, after_raw, is_literal_end}
use Rattle.lay_piece.specs.Value.{string_value}
use Rattle.lay_piece.specs.declared.piece.quoted.Contents.TheVariants as of
use Rattle.lay_piece.specs.declared.kind.Kind.{Kind}

-- The text is a literal of the kind, with a suffix or without.
abbrev pub IsLiteral : Kind → List ℕ → Type 0
IsLiteral kind cs = IsTrue (is_literal_end (after_literal kind cs))

-- The text is the rest of a string, from this state to its closing quote.
abbrev pub Closes : InString → List ℕ → Type 0
Closes s cs = run (string_step of.Chars) s cs ≡ Some []

-- The text is a raw string without its r, up to its closing quote and hashes.
abbrev pub ClosesRaw : List ℕ → Type 0
ClosesRaw cs = after_raw of.Chars cs ≡ Some []

-- The start of the string's rest has this value, and `rest` is what then remains of the string.
pub record Reads (s : InString) (cs said rest : List ℕ) : Type 0 where
  pub value : string_value s cs ≡ said ++ string_value Plain rest
  pub closes : Closes Plain rest

-- a character that stands for itself: no quote and no backslash
abbrev pub is_unmarked : ℕ → Bool
is_unmarked c = not (c == 34 || c == 92)

-- The text has a last character, and it passes.
abbrev pub ends : (ℕ → Bool) → List ℕ → Bool
ends p [] = false
ends p (c ∷ []) = p c
ends p (c ∷ d ∷ ds) = ends p (d ∷ ds)

-- The text ends in a quote or a hash.
abbrev pub ends_in_mark : List ℕ → Bool
ends_in_mark cs = ends (λ c. c == 34) cs || ends (λ c. c == 35) cs
