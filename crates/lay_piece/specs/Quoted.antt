-- Automata for the forms that mark their own end: strings, characters, raw strings and block
-- comments.
use Rattle.std.specs.Prelude.{ℕ, zero, suc, ◌+◌, ◌*◌, Bool, true, false, cond, ◌&&◌, ◌||◌, ◌==◌, not, nat_lt}
use Rattle.std.specs.Char.{is_ascii_hexdigit}
use Rattle.lay_piece.specs.Characters as char
use Rattle.lay_piece.specs.Chars.{is_between, hex_value}
use Rattle.lay_piece.specs.Scan.{Next, Go, End, Bad}
use Rattle.lay_piece.specs.declared.piece.quoted.Contents.{Contents}
use Rattle.lay_piece.specs.declared.piece.quoted.Contents.TheVariants as of

-- The character may stand for itself. No literal holds a CR, a byte literal holds ASCII alone, and
-- a C string holds no NUL (Rust Reference, "Tokens": "String literals", "Byte string literals", "C
-- string literals").
abbrev pub is_plain : Contents → ℕ → Bool
is_plain of.Chars c = not (c == char.carriage_return)
is_plain of.Bytes c = not (c == char.carriage_return) && nat_lt c 128
is_plain of.CChars c = not (c == char.carriage_return) && not (c == 0)

-- \n \r \t \\ \' \", and \0 where NUL is allowed (Rust Reference, "Quote escapes", "ASCII escapes", "Byte escapes")
abbrev pub is_short_escape : Contents → ℕ → Bool
is_short_escape of.CChars c = c == char.letter_n || c == char.letter_r || c == char.letter_t || c == char.backslash || c == char.apostrophe || c == char.quote
is_short_escape _ c = c == char.letter_n || c == char.letter_r || c == char.letter_t || c == char.backslash || c == char.apostrophe || c == char.quote || c == char.zero

-- a value that \x may name
abbrev pub is_byte_value : Contents → ℕ → Bool
is_byte_value of.Chars v = nat_lt v 128
is_byte_value of.Bytes v = true
is_byte_value of.CChars v = not (v == 0)

-- whether \u begins an escape
abbrev pub takes_unicode : Contents → Bool
takes_unicode of.Bytes = false
takes_unicode _ = true

-- a value that \u may name: a character, so no surrogate (Rust Reference, "Unicode escapes")
abbrev pub is_char_value : Contents → ℕ → Bool
is_char_value of.CChars v = not (v == 0) && nat_lt v 1114112 && not (is_between 55296 57343 v)
is_char_value _ v = nat_lt v 1114112 && not (is_between 55296 57343 v)

pub data InEscape : Type 0 where
  -- after the backslash
  Backslash : InEscape
  -- after \x
  Hex : InEscape
  -- after \x and a digit of this value
  HexTwo : ℕ → InEscape
  -- after \u
  Open : InEscape
  -- after \u{ and this many digits, which have this value
  Digits : ℕ → ℕ → InEscape

-- At most six digits. An underscore may follow a digit, and at least one digit stands before the
-- closing brace.
abbrev pub digits_step : Contents → ℕ → ℕ → ℕ → Next InEscape
digits_step y n v c =
    cond (is_ascii_hexdigit c) (cond (nat_lt n 6) (Go (Digits (n + 1) (16 * v + hex_value c))) Bad)
    (cond (n == 0) Bad (cond (c == char.underscore) (Go (Digits n v)) (cond (c == char.close_brace && is_char_value y v) End Bad)))

unfoldable pub escape_step : Contents → InEscape → ℕ → Next InEscape
escape_step y Backslash c =
    cond (is_short_escape y c) End (cond (c == char.letter_x) (Go Hex) (cond (takes_unicode y && c == char.letter_u) (Go Open) Bad))
escape_step y Hex c = cond (is_ascii_hexdigit c) (Go (HexTwo (hex_value c))) Bad
escape_step y (HexTwo h) c = cond (is_ascii_hexdigit c && is_byte_value y (16 * h + hex_value c)) End Bad
escape_step y Open c = cond (c == char.open_brace) (Go (Digits 0 0)) Bad
escape_step y (Digits n v) c = digits_step y n v c

-- the states in a string, after its opening quote
pub data InString : Type 0 where
  Plain : InString
  -- after a backslash
  Turned : InString
  Escape : InEscape → InString
  -- after a backslash before an LF
  Skip : InString

abbrev pub plain_step : Contents → ℕ → Next InString
plain_step y c = cond (c == char.quote) End (cond (c == char.backslash) (Go Turned) (cond (is_plain y c) (Go Plain) Bad))

abbrev pub in_string : Next InEscape → Next InString
in_string (Go e) = Go (Escape e)
in_string End = Go Plain
in_string Bad = Bad

-- what a backslash before an LF skips: LF, blank and tab (Rust Reference, "String continuation escapes")
abbrev pub is_skipped : ℕ → Bool
is_skipped c = c == char.line_feed || c == char.blank || c == char.tab

unfoldable pub string_step : Contents → InString → ℕ → Next InString
string_step y Plain c = plain_step y c
string_step y Turned c = cond (c == char.line_feed) (Go Skip) (in_string (escape_step y Backslash c))
string_step y (Escape e) c = in_string (escape_step y e c)
string_step y Skip c = cond (is_skipped c) (Go Skip) (plain_step y c)

-- the states in a character, after its opening quote
pub data InChar : Type 0 where
  First : InChar
  CharEscape : InEscape → InChar
  Last : InChar

abbrev pub in_char : Next InEscape → Next InChar
in_char (Go e) = Go (CharEscape e)
in_char End = Go Last
in_char Bad = Bad

-- the character of a literal of one plain character: no quote, LF or tab (Rust Reference, "Character literals")
abbrev pub is_lone : Contents → ℕ → Bool
is_lone y c = is_plain y c && not (c == char.apostrophe || c == char.line_feed || c == char.tab)

unfoldable pub char_step : Contents → InChar → ℕ → Next InChar
char_step y First c = cond (c == char.backslash) (Go (CharEscape Backslash)) (cond (is_lone y c) (Go Last) Bad)
char_step y (CharEscape e) c = in_char (escape_step y e c)
char_step y Last c = cond (c == char.apostrophe) End Bad

-- the states in a raw string, after its r (Rust Reference, "Raw string literals")
pub data InRaw : Type 0 where
  -- this many hashes so far
  Hashes : ℕ → InRaw
  -- within this many hashes
  Inside : ℕ → InRaw
  -- within this many hashes, after a quote and this many hashes
  Closing : ℕ → ℕ → InRaw

abbrev pub inside_step : Contents → ℕ → ℕ → Next InRaw
inside_step y n c = cond (c == char.quote) (cond (n == 0) End (Go (Closing n 0))) (cond (is_plain y c) (Go (Inside n)) Bad)

unfoldable pub raw_step : Contents → InRaw → ℕ → Next InRaw
raw_step y (Hashes n) c = cond (c == char.hash && nat_lt n 255) (Go (Hashes (n + 1))) (cond (c == char.quote) (Go (Inside n)) Bad)
raw_step y (Inside n) c = inside_step y n c
raw_step y (Closing n k) c = cond (c == char.hash) (cond (k + 1 == n) End (Go (Closing n (k + 1)))) (inside_step y n c)

-- the states in a block comment, after its opening (Rust Reference, "Comments")
pub data InBlock : Type 0 where
  -- this many comments are open around this one
  Deep : ℕ → InBlock
  -- after a star
  Star : ℕ → InBlock
  -- after a slash
  Slash : ℕ → InBlock

abbrev pub deep_step : ℕ → ℕ → Next InBlock
deep_step n c = cond (c == char.star) (Go (Star n)) (cond (c == char.slash) (Go (Slash n)) (Go (Deep n)))

abbrev pub close_one : ℕ → Next InBlock
close_one zero = End
close_one (suc n) = Go (Deep n)

unfoldable pub block_step : InBlock → ℕ → Next InBlock
block_step (Deep n) c = deep_step n c
block_step (Star n) c = cond (c == char.slash) (close_one n) (deep_step n c)
block_step (Slash n) c = cond (c == char.star) (Go (Deep (suc n))) (deep_step n c)

-- A doc comment is a block comment that holds no CR (Rust Reference, "Doc comments").
unfoldable pub doc_step : InBlock → ℕ → Next InBlock
doc_step s c = cond (c == char.carriage_return) Bad (block_step s c)
