-- The result of lexing a window: tokens up to a stop, or an error.
use Rattle.std.specs.Prelude.{ℕ, ◌≡◌, ◌+◌, ◌-◌, ◌^◌, min, Bool, true, false, ◌&&◌, ◌||◌, List, [], ◌∷◌, codes, drop, IsTrue, Result, Ok, Err}
use Rattle.std.specs.Str.{chars, bytes_eq, IsCharBoundary}
use Rattle.lay_piece.specs.declared.kind.Kind.{Kind}
use Rattle.lay_piece.specs.declared.kind.Kind.TheVariants as kinds
use Rattle.lay_token.specs.Delimiters.{is_opener, is_closer}
use Rattle.lay_token.specs.Lexes.{Part, Other, spell, Fit, Lexes, NoTokenAt, is_punct, tokens_from}
use Rattle.lay_token.specs.declared.token.Token.{Token}
use Rattle.lay_text.specs.declared.refusal.FormatError.{FormatError}
use Rattle.lay_text.specs.declared.refusal.FormatError.TheVariants.{Refused, NoMemory}
use Rattle.lay_text.specs.declared.refusal.Refusal.TheVariants.{NotUtf8, NoToken, Unbalanced, NoItem}
use Rattle.lay_lex.specs.declared.window.Stop.{Stop}
use Rattle.lay_lex.specs.declared.window.Stop.TheVariants.{End, More, Opened, Closed}
use Rattle.lay_lex.specs.declared.window.Window.{Window}

-- a stop: a delimiter or a `;`, which no text after it can change
abbrev pub is_stop : Kind → List ℕ → Bool
is_stop kind text = is_opener kind || (is_closer kind || is_punct kind && bytes_eq text (codes ";"))

-- The last token is a stop.
abbrev pub ends_in_stop : List Token → Bool
ends_in_stop [] = false
ends_in_stop (t ∷ []) = is_stop t.kind t.text
ends_in_stop (t ∷ u ∷ us) = ends_in_stop (u ∷ us)

-- How many groups are open after a token of this kind, by how many are open before it. A closer
-- without a partner leaves none open. The number stays within 64 bits.
abbrev pub open_after : ℕ → Kind → ℕ
open_after groups (kinds.Opener d) = min (groups + 1) (2 ^ 64 - 1)
open_after groups (kinds.Closer d) = groups - 1
open_after groups _ = groups

-- Parts stand between two places of the text. These tokens are theirs, and the last one is a stop.
pub record UpTo (text : List ℕ) (from to : ℕ) (tokens : List Token) : Type 0 where
  pub parts : List Part
  pub whole : chars (drop from text) ≡ spell parts (chars (drop to text))
  pub fit : Fit Other parts (chars (drop to text))
  pub tokens_are : tokens ≡ tokens_from from parts
  pub stops : IsTrue (ends_in_stop tokens)
  pub border : IsCharBoundary text to

abbrev pub is_end : Stop → Bool
is_end End = true
is_end More = false
is_end Opened = false
is_end Closed = false

-- A window that ends with the text holds the tokens that the text lexes to from the place on. Each
-- other window goes up to its end.
abbrev pub GoesTo : List ℕ → ℕ → Window → Stop → Type 0
GoesTo text start window End = Lexes text start window.tokens
GoesTo text start window More = UpTo text start window.end window.tokens
GoesTo text start window Opened = UpTo text start window.end window.tokens
GoesTo text start window Closed = UpTo text start window.end window.tokens

-- The window, or the place where there is no token. Memory may run out in any case.
abbrev pub WindowAs : List ℕ → ℕ → Result Window FormatError → Type 0
WindowAs text start (Ok window) = GoesTo text start window window.stop
WindowAs text start (Err (Refused (NoToken at))) = NoTokenAt text start at
WindowAs text start (Err (Refused (NotUtf8 at))) = ⊥
WindowAs text start (Err (Refused (Unbalanced at))) = ⊥
WindowAs text start (Err (Refused (NoItem at))) = ⊥
WindowAs text start (Err NoMemory) = Unit {0}
