-- The result of `nest`: tokens with their spans, or an error.
use Rattle.std.specs.Prelude.{ℕ, ◌≡◌, List, Result, Ok, Err}
use Rattle.lay_token.specs.Delimiters.{Balanced, UnbalancedAt}
use Rattle.lay_token.specs.declared.token.Token.{Token}
use Rattle.lay_text.specs.declared.refusal.FormatError.{FormatError}
use Rattle.lay_text.specs.declared.refusal.FormatError.TheVariants.{Refused, NoMemory}
use Rattle.lay_text.specs.declared.refusal.Refusal.TheVariants.{NotUtf8, NoToken, Unbalanced, NoItem}
use Rattle.lay_nest.specs.Spans.{Spanned}
use Rattle.lay_nest.specs.declared.nesting.Nested.{Nested}

-- The tokens are unbalanced at this place, or memory ran out.
abbrev pub RefusedAs : List Token → FormatError → Type 0
RefusedAs tokens (Refused (Unbalanced at)) = UnbalancedAt tokens at
RefusedAs tokens (Refused (NotUtf8 at)) = ⊥
RefusedAs tokens (Refused (NoToken at)) = ⊥
RefusedAs tokens (Refused (NoItem at)) = ⊥
RefusedAs tokens NoMemory = Unit {0}

abbrev pub SpannedAs : List Token → Result (List ℕ) FormatError → Type 0
SpannedAs tokens (Ok spans) = Spanned tokens spans
SpannedAs tokens (Err error) = RefusedAs tokens error

-- The tokens, which are balanced, or the place where they aren't. Memory may run out in any case.
abbrev pub NestedAs : List Token → Result Nested FormatError → Type 0
NestedAs tokens (Ok nested) = (nested ≡ tokens) × Balanced tokens
NestedAs tokens (Err error) = RefusedAs tokens error
