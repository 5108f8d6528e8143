-- The tokens lexed so far, and how the next one is added to them.
use Rattle.std.specs.Prelude.{◌≡◌, Bool, List, []}
use Rattle.lay_token.specs.Lexes as lexes
use Rattle.lay_token.specs.declared.token.Token.{Token}
use Rattle.lay_lex.specs.Added.{added, before, behind}
use Rattle.lay_lex.specs.declared.tokens.Tokens.{Tokens}

abbrev pub so_far : Tokens → List Token
so_far t = t.read.items

pub record IsBegun (tokens : Tokens) : Type 0 where
  pub none : so_far tokens ≡ []
  pub before : before tokens.before ≡ lexes.Other

-- The next token is added to the tokens; `touches` says that no gap is before it.
pub record Adds (touches : Bool) (next : Token) (old new : Tokens) : Type 0 where
  pub tokens : so_far new ≡ added touches next (so_far old)
  pub before : before new.before ≡ behind (before old.before) touches next
