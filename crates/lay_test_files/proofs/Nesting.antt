-- What is proved of the tokens of a text once they nest.
use Rattle.std.proofs.Common.{ℕ, List, [], Result, Ok, Err, IfOk, sym, ◌∙◌, subst, append-nil, IsUtf8, IsCharBoundary}
use Rattle.std.proofs.lemmas.Str.{IsUtf8-drop}
use Rattle.lay_token.specs.Lexes.{Lexes}
use Rattle.lay_token.specs.declared.token.Token.{Token}
use Rattle.lay_text.specs.declared.refusal.FormatError.{FormatError}
use Rattle.lay_nest.specs.Nested.{NestedAs}
use Rattle.lay_nest.specs.declared.nesting.Nested.{Nested}
use Rattle.lay_read_tokens.specs.Answers.{AreLexed}

pub are_lexed : (text : List ℕ) (start : ℕ) (tokens : List Token) (found : Result Nested FormatError)
    → IsUtf8 text → IsCharBoundary text start → Lexes text start tokens → NestedAs tokens found
    → IfOk found (λ nested. AreLexed nested)
are_lexed text start tokens (Ok nested) utf8 border lexes nests = record {
  bytes = text;
  start = start;
  before = [];
  after = [];
  utf8 = IsUtf8-drop text start utf8 border;
  lexes = subst (λ (ts : List Token). Lexes text start ts) (sym nests.0 ∙ sym (append-nil nested)) lexes;
}
are_lexed text start tokens (Err error) utf8 border lexes nests = tt
