-- The place of a byte in a text, by line and column.
use Rattle.std.specs.Prelude.{ℕ, ◌+◌, ◌==◌, Bool, not, List, length, take, count_by, reverse, take_while}
use Rattle.lay_piece.specs.Characters as char
use Rattle.lay_token.specs.declared.place.Place2.{Place2}

abbrev pub is_line_feed : ℕ → Bool
is_line_feed byte = byte == char.line_feed

abbrev pub is_in_line : ℕ → Bool
is_in_line byte = not (is_line_feed byte)

-- The place of byte number `at` of a text. Its line is 1 plus the count of line feeds before it.
-- Its column is 1 plus the count of bytes after the last of these.
abbrev pub place_of : List ℕ → ℕ → Place2
place_of text at = record {
  line = 1 + count_by is_line_feed (take at text);
  column = 1 + length (take_while is_in_line (reverse (take at text)));
}
