-- The tokens ahead of a place in a text: those of its parts, as long as a gap and a piece come
-- next. If the text lexes to tokens from that place on, then to these.
use Rattle.std.specs.Prelude.{ℕ, zero, suc, ◌-◌, ◌≡◌, Bool, List, [], ◌∷◌, length, take, Option, Some, None, MatchOption}
use Rattle.std.specs.Str.{chars}
use Rattle.lay_piece.specs.Found.{FrontPiece, front_of}
use Rattle.lay_piece.specs.Gap.{Outside}
use Rattle.lay_token.specs.Lexes.{Before, Part, is_index_place, step, tokens_from}
use Rattle.lay_token.specs.declared.token.Token.{Token}
use Rattle.lay_lex.specs.Added.{before}
use Rattle.lay_lex.specs.Gap.{rest_of}
use Rattle.lay_lex.specs.declared.one_by_one.cursor.Cursor.{Cursor}
use Rattle.lay_lex.specs.declared.one_by_one.cursor.Lexeme.{Lexeme}

-- a part and the characters after it, if there is a part
abbrev pub Next : Type 0
Next = Option (Part × List ℕ)

abbrev pub next_is : Part → List ℕ → Next
next_is p rest = Some (p, rest)

-- the characters `cs` without `rest`, which is their end
abbrev pub up_to : List ℕ → List ℕ → List ℕ
up_to cs rest = take (length cs - length rest) cs

-- The part of this piece, which follows the gap, if there is a piece.
abbrev pub with_piece : List ℕ → List ℕ → FrontPiece → Next
with_piece cs rest None = None
with_piece cs rest (Some f) = next_is (record { gap = up_to cs rest; kind = f.0; piece = up_to rest f.1 }) f.1

-- The part of this gap and the piece after it, if there is one.
abbrev pub with_gap : Bool → List ℕ → Option (List ℕ) → Next
with_gap index cs None = None
with_gap index cs (Some rest) = with_piece cs rest (front_of index rest)

-- the next part: the longest gap at the start, and then a piece
abbrev pub next_part : Before → List ℕ → Next
next_part b cs = with_gap (is_index_place b) cs (rest_of Outside cs cs)

abbrev pub parts_by : (Part → List ℕ → List Part) → Next → List Part
parts_by more None = []
parts_by more (Some x) = x.0 ∷ more x.0 x.1

-- at most this many parts
abbrev pub parts_in : ℕ → Before → List ℕ → List Part
parts_in zero b cs = []
parts_in (suc n) b cs = parts_by (λ p rest. parts_in n (step b p) rest) (next_part b cs)

-- all parts; there are at most as many as characters, since each part has at least one
abbrev pub parts_of : Before → List ℕ → List Part
parts_of b cs = parts_in (length cs) b cs

abbrev pub tokens_ahead : Cursor → List Token
tokens_ahead c = tokens_from (c.end - length c.ahead.now) (parts_of (before c.before) (chars c.ahead.now))

-- The lexeme lends the parts of the token.
pub record Tells (l : Lexeme) (t : Token) : Type 0 where
  pub kind : t.kind ≡ l.kind
  pub text : t.text ≡ l.text.now
  pub at : t.at ≡ l.at
  pub len : t.len ≡ l.len

-- The result is the next token, if there is one, and `behind` are the tokens after it.
abbrev pub IsNext : List Token → Option Lexeme → List Token → Type 0
IsNext ts result behind = MatchOption result ((ts ≡ []) × (behind ≡ [])) (λ l. (t : Token) × (ts ≡ t ∷ behind) × Tells l t)
