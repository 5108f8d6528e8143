-- What a window of tokens is: tokens in a row, and why the row stops.
use Rattle.std.specs.Prelude.{ℕ, ◌≡◌, false, List, [], ◌∷◌, ◌++◌, codes}
use Rattle.lay_piece.specs.declared.kind.Delim.TheVariants.{Brace}
use Rattle.lay_piece.specs.declared.kind.Kind.TheVariants.{Opener, Closer}
use Rattle.lay_token.specs.Lexes.{Lexes}
use Rattle.lay_token.specs.declared.token.Token.{Token}
use Rattle.lay_lex.specs.Window.{UpTo}
use Rattle.lay_lex.specs.declared.window.Stop.{Stop}
use Rattle.lay_lex.specs.declared.window.Stop.TheVariants.{End, More, Opened, Closed}
use Rattle.lay_read_tokens.specs.Answers.{AreLexed}

-- The token is the brace at which the window stops.
abbrev pub IsBrace : Stop → Token → Type 0
IsBrace End t = ⊥
IsBrace More t = ⊥
IsBrace Opened t = (t.kind ≡ Opener Brace) × (t.text ≡ codes "{")
IsBrace Closed t = (t.kind ≡ Closer Brace) × (t.text ≡ codes "}")

-- the tokens of the window without that brace
abbrev pub Unbraced : Stop → List Token → List Token → Type 0
Unbraced End tokens rest = rest ≡ tokens
Unbraced More tokens rest = rest ≡ tokens
Unbraced Opened tokens rest = (brace : Token) × IsBrace Opened brace × (tokens ≡ rest ++ brace ∷ [])
Unbraced Closed tokens rest = (brace : Token) × IsBrace Closed brace × (tokens ≡ rest ++ brace ∷ [])

-- The last token isn't joint.
abbrev pub IsQuiet : List Token → Type 0
IsQuiet [] = Unit {0}
IsQuiet (t ∷ []) = t.joint ≡ false
IsQuiet (t ∷ u ∷ us) = IsQuiet (u ∷ us)

-- The text lexes from the start to these tokens, and to the brace after them if the window stops at
-- one. They reach as far as the window does.
abbrev pub Goes : List ℕ → ℕ → List Token → ℕ → Stop → Type 0
Goes text start tokens end End = Lexes text start tokens
Goes text start tokens end More = UpTo text start end tokens
Goes text start tokens end Opened = (brace : Token) × IsBrace Opened brace × UpTo text start end (tokens ++ brace ∷ [])
Goes text start tokens end Closed = (brace : Token) × IsBrace Closed brace × UpTo text start end (tokens ++ brace ∷ [])

pub record IsWindow (text : List ℕ) (start : ℕ) (tokens : List Token) (end : ℕ) (stop : Stop) : Type 0 where
  pub lexed : AreLexed tokens
  pub quiet : IsQuiet tokens
  pub goes : Goes text start tokens end stop
