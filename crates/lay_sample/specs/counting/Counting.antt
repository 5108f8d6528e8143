-- What is counted of a text. An LF ends a line and isn't part of it. After the last LF there is one
-- more line, which is empty if the text ends with the LF.
use Rattle.std.specs.Prelude.{ℕ, Bool, ◌==◌, max, List, [], ◌∷◌, length, map, fold, count_by}
use Rattle.std.specs.List.{slice_split}

-- whether a byte is an LF
abbrev pub is_line_feed : ℕ → Bool
is_line_feed byte = byte == 10

-- how many LFs a text has
abbrev pub lines_of : List ℕ → ℕ
lines_of text = count_by is_line_feed text

-- the lines of a text, without their LFs
abbrev pub split_lines : List ℕ → List (List ℕ)
split_lines text = slice_split is_line_feed text

-- the length of the longest of some lines
abbrev pub greatest_length : List (List ℕ) → ℕ
greatest_length lines = fold max 0 (map length lines)

-- the last of some lines
abbrev pub last_of : List (List ℕ) → List ℕ
last_of [] = []
last_of (line ∷ []) = line
last_of (line ∷ next ∷ more) = last_of (next ∷ more)

-- the length in bytes of the longest line of a text
abbrev pub longest_line : List ℕ → ℕ
longest_line text = greatest_length (split_lines text)

-- the length in bytes of the last line of a text
abbrev pub last_line : List ℕ → ℕ
last_line text = length (last_of (split_lines text))
