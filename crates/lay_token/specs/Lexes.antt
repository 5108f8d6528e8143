-- Lexing: a text is gaps and pieces in turn, and ends in a gap (Rust Reference, "Lexical
-- structure"). A piece is a lexeme, and each makes a token.
use Rattle.std.specs.Prelude.{◌≡◌, ℕ, ◌+◌, ◌-◌, Bool, true, false, cond, ◌&&◌, ◌||◌, ◌==◌, not, List, [], ◌∷◌, ◌++◌, IsTrue, codes, length, take, drop, encode_utf8_all}
use Rattle.std.specs.List.{list_any}
use Rattle.std.specs.Str.{chars, bytes_eq}
use Rattle.lay_piece.specs.Characters as char
use Rattle.lay_piece.specs.Chars.{is_nil, without_end}
use Rattle.lay_piece.specs.Begins.{BeginsNoGap, BeginsNoPiece}
use Rattle.lay_piece.specs.Forms.{Had}
use Rattle.lay_piece.specs.Gap.{is_gap, is_last_gap}
use Rattle.lay_piece.specs.declared.kind.Kind.{Kind}
use Rattle.lay_piece.specs.declared.kind.Kind.TheVariants.{RawIdent, Punct, Doc}
use Rattle.lay_token.specs.declared.token.Token.{Token}

-- a gap and the piece after it
pub record Part : Type 0 where
  pub gap : List ℕ
  pub kind : Kind
  pub piece : List ℕ

-- the text of the parts and the last gap
abbrev pub spell : List Part → List ℕ → List ℕ
spell [] last = last
spell (p ∷ ps) last = p.gap ++ (p.piece ++ spell ps last)

-- what stands before a place: a point, a point right after another point, or anything else
pub data Before : Type 0 where
  Other : Before
  Point : Before
  Points : Before

-- A number after a point may be a tuple index, but not after `..`.
abbrev pub is_index_place : Before → Bool
is_index_place Point = true
is_index_place _ = false

abbrev pub is_punct : Kind → Bool
is_punct Punct = true
is_punct _ = false

abbrev pub is_point : Before → Bool
is_point Other = false
is_point _ = true

unfoldable pub step : Before → Part → Before
step b p =
    cond (is_punct p.kind && bytes_eq p.piece (codes ".")) (cond (is_point b && is_nil p.gap) Points Point) Other

abbrev pub steps : Before → List Part → Before
steps b [] = b
steps b (p ∷ ps) = steps (step b p) ps

-- Each part is a gap and a piece of its kind, by what follows it; `rest` follows the last part.
abbrev pub Fit : Before → List Part → List ℕ → Type 0
Fit b [] rest = Unit {0}
Fit b (p ∷ ps) rest =
    IsTrue (is_gap p.gap) × Had p.kind p.piece (spell ps rest) (is_index_place b) × Fit (step b p) ps rest

-- how many bytes the characters take
abbrev pub size : List ℕ → ℕ
size cs = length (encode_utf8_all cs)

-- The text of a documentation comment: without its opening, and without the end of a block. If it
-- is one line, the blanks at its end are dropped.
abbrev pub doc_text : Bool → List ℕ → List ℕ
doc_text block cs =
    let text = cond block (take (length cs - 5) (drop 3 cs)) (drop 3 cs) in
    cond (list_any (λ c. c == char.line_feed) text) text (without_end char.blank text)

-- the text of the token that the piece makes
abbrev pub text_of_piece : Kind → List ℕ → List ℕ
text_of_piece RawIdent cs = drop 2 cs
text_of_piece (Doc inner block) cs = doc_text block cs
text_of_piece _ cs = cs

abbrev pub is_separator : List ℕ → Bool
is_separator cs = bytes_eq cs (codes ",") || bytes_eq cs (codes ";")

-- The part's token is joint with the first token of the parts that follow.
abbrev pub is_joint : Part → List Part → Bool
is_joint p [] = false
is_joint p (q ∷ qs) =
    is_punct p.kind && is_punct q.kind && is_nil q.gap && not (is_separator p.piece) && not (is_separator q.piece)

-- the tokens of the parts, where the first gap begins at this place
abbrev pub tokens_from : ℕ → List Part → List Token
tokens_from at [] = []
tokens_from at (p ∷ ps) = let place = at + size p.gap in
    record {
      kind = p.kind;
      text = encode_utf8_all (text_of_piece p.kind p.piece);
      joint = is_joint p ps;
      at = place;
      len = size p.piece;
    } ∷ tokens_from (place + size p.piece) ps

-- The characters are these parts and a last gap.
pub record AreParts (text : List ℕ) (parts : List Part) (last : List ℕ) : Type 0 where
  pub whole : text ≡ spell parts last
  pub fit : Fit Other parts last
  pub end : IsTrue (is_last_gap last)

-- From the place on, the text lexes to the tokens. Each gap is as long as it can be, since no piece
-- begins with a gap.
abbrev pub Lexes : List ℕ → ℕ → List Token → Type 0
Lexes bytes start tokens = (parts : List Part) × (last : List ℕ)
    × AreParts (chars (drop start bytes)) parts last × (tokens ≡ tokens_from start parts)

-- The text is parts, then a gap as long as it can be, and then a rest that begins with no piece.
pub record PartsBefore (text : List ℕ) (parts : List Part) (gap rest : List ℕ) : Type 0 where
  pub whole : text ≡ spell parts (gap ++ rest)
  pub fit : Fit Other parts (gap ++ rest)
  pub closed : IsTrue (is_gap gap)
  pub no_gap : BeginsNoGap rest
  pub no_piece : BeginsNoPiece rest (is_index_place (steps Other parts))

-- Lexing from `start` stops at this place: the first one after a gap where no piece comes next.
abbrev pub NoTokenAt : List ℕ → ℕ → ℕ → Type 0
NoTokenAt bytes start at = (parts : List Part) × (gap rest : List ℕ)
    × PartsBefore (chars (drop start bytes)) parts gap rest × (at ≡ start + size (spell parts gap))
