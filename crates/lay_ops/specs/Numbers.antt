-- Whether a text is a number without a suffix, read byte by byte by a state machine.
use Rattle.std.specs.Prelude.{ℕ, ◌==◌, ◌||◌, Bool, true, false, if◌then◌else◌, List, [], ◌∷◌}
use Rattle.lay_piece.specs.Characters as char
use Rattle.lay_piece.specs.Chars.{in_digits, in_hex}
use Rattle.lay_piece.specs.Number.{is_exponent_letter, is_sign}
use Rattle.lay_ops.specs.declared.numbers.Reading.{Reading}
use Rattle.lay_ops.specs.declared.numbers.Reading.TheVariants as read

abbrev pub digits : ℕ → Reading
digits c = if in_digits c then read.Digits else read.Refused

abbrev pub exponent : ℕ → Reading
exponent c = if is_exponent_letter c then read.Exponent else read.Refused

abbrev pub leads_to : Reading → ℕ → Reading
leads_to read.Start c = if c == 48 then read.Zero else digits c
leads_to read.Zero c =
    if c == char.letter_x then read.Hex else (if c == char.letter_o || c == char.letter_b then read.Digits else digits c)
leads_to read.Digits c = digits c
leads_to read.Hex c = if in_hex c then read.Hex else read.Refused
leads_to read.Whole c = if in_digits c then read.Whole else (if c == char.point then read.Fraction else exponent c)
leads_to read.Fraction c = if in_digits c then read.Fraction else exponent c
leads_to read.Exponent c = if is_sign c then read.Digits else digits c
leads_to read.Refused c = read.Refused

abbrev pub is_read : Reading → Bool
is_read read.Refused = false
is_read _ = true

-- From this state the bytes are read to their end, and the number is complete there.
abbrev pub run : Reading → List ℕ → Bool
run r [] = is_read r
run r (c ∷ cs) = run (leads_to r c) cs
