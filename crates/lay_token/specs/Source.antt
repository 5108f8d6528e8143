-- The source text of an input, and where lexing begins in it (Rust Reference, "Input format": byte
-- order mark removal, CRLF normalization and shebang removal). Whether the first line is a shebang
-- line is decided here by that line alone.
use Rattle.std.specs.Prelude.{ℕ, ◌+◌, Bool, true, false, cond, ◌&&◌, ◌||◌, ◌==◌, not, List, [], ◌∷◌, Option, Some, None, Result, Ok, Err, codes, encode_utf8_all}
use Rattle.std.specs.Str.{chars, is_utf8}
use Rattle.std.specs.Str.Lossy.{utf8_valid_len}
use Rattle.lay_piece.specs.Characters as char
use Rattle.lay_piece.specs.Chars.{is_white, begins, behind, front, after, is_nil, without_end}
use Rattle.lay_token.specs.Lexes.{size}
use Rattle.lay_text.specs.declared.refusal.Refusal.{Refusal}
use Rattle.lay_text.specs.declared.refusal.Refusal.TheVariants.{NotUtf8}

-- the text with each CR LF as one LF
abbrev pub folded : List ℕ → List ℕ
folded [] = []
folded (c ∷ cs) = cond (c == char.carriage_return && begins (λ d. d == char.line_feed) cs) (folded cs) (c ∷ folded cs)

-- the text without a byte order mark at its start
abbrev pub without_mark : List ℕ → List ℕ
without_mark [] = []
without_mark (c ∷ cs) = cond (c == char.byte_order_mark) cs (c ∷ cs)

abbrev pub is_in_line : ℕ → Bool
is_in_line c = not (c == char.line_feed)

-- The rest of the line after white space is empty, or it begins as an attribute or a comment does.
abbrev pub is_no_command : List ℕ → Bool
is_no_command cs =
    is_nil cs || behind false (codes "[") (λ ds. true) cs || behind false (codes "//") (λ ds. true) cs
    || behind false (codes "/*") (λ ds. true) cs

-- A first line that begins with #! is a shebang line, unless its rest may belong to an attribute.
abbrev pub is_shebang : List ℕ → Bool
is_shebang line = behind false (codes "#!") (λ cs. not (is_no_command (after is_white cs))) line

-- The text, its shebang, and the byte at which lexing begins. The shebang is the first line without
-- the CRs at its end.
pub record Source : Type 0 where
  pub text : List ℕ
  pub shebang : Option (List ℕ)
  pub start : ℕ

-- the size of the first line in bytes, with the LF that ends it, if any
abbrev pub line_size : List ℕ → ℕ
line_size text = size (front is_in_line text) + cond (is_nil (after is_in_line text)) 0 1

abbrev pub source_of : List ℕ → Source
source_of text = let line = front is_in_line text in record {
  text = encode_utf8_all text;
  shebang = cond (is_shebang line) (Some (encode_utf8_all (without_end 13 line))) None;
  start = cond (is_shebang line) (line_size text) 0;
}

-- An input that isn't UTF-8 is refused, at the end of its longest prefix that is UTF-8.
abbrev pub source : List ℕ → Result Source Refusal
source bytes =
    cond (is_utf8 bytes) (Ok (source_of (folded (without_mark (chars bytes))))) (Err (NotUtf8 (utf8_valid_len bytes)))
