-- The constants of the layout: widths, indents and blanks. The code has each of them too, in
-- capitals.
use Rattle.std.specs.Prelude.{ℕ}

-- how many columns a line has
abbrev pub margin : ℕ
margin = 89

-- the least space that a new line has, in columns, however many blanks it begins with
abbrev pub least_space : ℕ
least_space = 60

-- the greatest indent of a frame, in blanks
abbrev pub greatest_indent : ℕ
greatest_indent = 240

-- how many blanks may wait to be written
abbrev pub greatest_blanks : ℕ
greatest_blanks = 1000000

-- The greatest width that a printer keeps, 2^62. No line has that many columns, so no comparison
-- can tell it from a greater one.
abbrev pub greatest_width : ℕ
greatest_width = 0x4000_0000_0000_0000
