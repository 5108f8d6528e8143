-- The result of the lexer: tokens, or an error.
use Rattle.std.specs.Prelude.{ℕ, List, Result, Ok, Err}
use Rattle.lay_token.specs.Lexes.{Lexes, NoTokenAt}
use Rattle.lay_token.specs.declared.token.Token.{Token}
use Rattle.lay_text.specs.declared.refusal.FormatError.{FormatError}
use Rattle.lay_text.specs.declared.refusal.FormatError.TheVariants.{Refused, NoMemory}
use Rattle.lay_text.specs.declared.refusal.Refusal.TheVariants.{NotUtf8, NoToken, Unbalanced, NoItem}

-- The tokens, or the place where there is no token. Memory may run out in any case.
abbrev pub LexedAs : List ℕ → ℕ → Result (List Token) FormatError → Type 0
LexedAs text start (Ok tokens) = Lexes text start tokens
LexedAs text start (Err (Refused (NoToken at))) = NoTokenAt text start at
LexedAs text start (Err (Refused (NotUtf8 at))) = ⊥
LexedAs text start (Err (Refused (Unbalanced at))) = ⊥
LexedAs text start (Err (Refused (NoItem at))) = ⊥
LexedAs text start (Err NoMemory) = Unit {0}
