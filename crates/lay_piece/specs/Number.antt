-- Number literals: bases, runs of digits, exponents, fractions and suffixes.
use Rattle.std.specs.Prelude.{ℕ, Bool, true, false, cond, ◌&&◌, ◌||◌, ◌==◌, not, List, [], ◌∷◌, drop}
use Rattle.std.specs.List.{list_all, list_any}
use Rattle.std.specs.Char.{is_ascii_digit, is_ascii_hexdigit}
use Rattle.lay_piece.specs.Characters as char
use Rattle.lay_piece.specs.Chars.{is_between, begins, front, after, behind, is_nil, is_suffix, starts_word, in_word, in_digits, in_hex}
use Rattle.lay_piece.specs.declared.piece.numbers.Base.{Base}
use Rattle.lay_piece.specs.declared.piece.numbers.Base.TheVariants.{Binary, Octal, Decimal, Hexadecimal}

-- the base that a number's first two characters name (Rust Reference, "Integer literals")
abbrev pub base_of : List ℕ → Base
base_of cs = behind Decimal (48 ∷ []) named cs
  where
    named : List ℕ → Base
    named [] = Decimal
    named (c ∷ cs) = cond (c == char.letter_x) Hexadecimal (cond (c == char.letter_o) Octal (cond (c == char.letter_b) Binary Decimal))

-- the text without its 0x, 0o or 0b
abbrev pub digits_of : Base → List ℕ → List ℕ
digits_of Decimal cs = cs
digits_of _ cs = drop 2 cs

-- The character continues a run of digits, whether the base has that digit or not.
abbrev pub in_run : Base → ℕ → Bool
in_run Hexadecimal c = in_hex c
in_run _ c = in_digits c

abbrev pub in_base : Base → ℕ → Bool
in_base Binary c = is_between 48 49 c
in_base Octal c = is_between 48 55 c
in_base Decimal c = is_ascii_digit c
in_base Hexadecimal c = is_ascii_hexdigit c

-- The run holds at least one digit, and none outside of its base.
abbrev pub is_run_in : Base → List ℕ → Bool
is_run_in base run = list_any (in_base base) run && list_all (λ c. in_base base c || c == char.underscore) run

-- the letter of an exponent
abbrev pub is_exponent_letter : ℕ → Bool
is_exponent_letter c = c == char.letter_e || c == char.capital_e

abbrev pub is_sign : ℕ → Bool
is_sign c = c == char.plus || c == char.minus

-- nothing, or any suffix
abbrev pub is_any_suffix : List ℕ → Bool
is_any_suffix cs = is_nil cs || is_suffix cs

-- nothing, or a suffix that doesn't read as an exponent (Rust Reference, "Number literals": SUFFIX_NO_E)
abbrev pub is_plain_suffix : List ℕ → Bool
is_plain_suffix cs = is_nil cs || (is_suffix cs && not (begins is_exponent_letter cs))

-- nothing, or the suffix of an integer. In base 16 the letter of an exponent is a digit, so no
-- suffix begins with it.
abbrev pub is_int_suffix : Base → List ℕ → Bool
is_int_suffix Hexadecimal cs = is_any_suffix cs
is_int_suffix _ cs = is_plain_suffix cs

-- what follows the digits that the text begins with
abbrev pub behind_digits : List ℕ → List ℕ
behind_digits cs = after (in_run (base_of cs)) (digits_of (base_of cs) cs)

-- an integer (Rust Reference, "Integer literals")
abbrev pub is_int : List ℕ → Bool
is_int cs = let base = base_of cs in
    begins is_ascii_digit cs && is_run_in base (front (in_run base) (digits_of base cs))
    && is_int_suffix base (behind_digits cs)

-- the digits of an exponent, and nothing or any suffix
abbrev pub is_exponent_run : List ℕ → Bool
is_exponent_run cs = is_run_in Decimal (front in_digits cs) && is_any_suffix (after in_digits cs)

-- a sign or none, and then these digits
abbrev pub is_signed_run : List ℕ → Bool
is_signed_run [] = false
is_signed_run (c ∷ cs) = cond (is_sign c) (is_exponent_run cs) (is_exponent_run (c ∷ cs))

-- an exponent (Rust Reference, "Floating-point literals": FLOAT_EXPONENT)
abbrev pub is_exponent : List ℕ → Bool
is_exponent [] = false
is_exponent (c ∷ cs) = is_exponent_letter c && is_signed_run cs

-- a fraction, which begins with a digit, and then a suffix or an exponent
abbrev pub is_fraction : List ℕ → Bool
is_fraction cs =
    begins is_ascii_digit cs && (is_plain_suffix (after in_digits cs) || is_exponent (after in_digits cs))

-- what follows the whole part of a Float: a point alone, a point and a fraction, or an exponent
abbrev pub is_float_tail : List ℕ → Bool
is_float_tail [] = false
is_float_tail (c ∷ cs) = cond (c == char.point) (is_nil cs || is_fraction cs) (is_exponent (c ∷ cs))

abbrev pub is_decimal : Base → Bool
is_decimal Decimal = true
is_decimal _ = false

-- a number with a point or an exponent (Rust Reference, "Floating-point literals")
abbrev pub is_float : List ℕ → Bool
is_float cs = begins is_ascii_digit cs && is_decimal (base_of cs) && is_float_tail (after in_digits cs)

-- The Float ends in its point.
abbrev pub ends_in_point : List ℕ → Bool
ends_in_point cs = behind false (46 ∷ []) is_nil (after in_digits cs)

-- The integer has no suffix.
abbrev pub is_bare_int : List ℕ → Bool
is_bare_int cs = is_nil (behind_digits cs)

-- a point that isn't followed by a point, an underscore or XID_Start: it makes a number a Float
abbrev pub begins_point : List ℕ → Bool
begins_point [] = false
begins_point (c ∷ cs) = c == char.point && not (begins (λ d. d == char.point || starts_word d) cs)

-- An index is digits alone (Rust Reference, "Tuple index").
abbrev pub is_index : List ℕ → Bool
is_index cs = begins is_ascii_digit cs && list_all is_ascii_digit cs

-- The piece begins with digits, and no XID_Continue follows them, be it in the piece or in the
-- rest. Where the piece is digits alone and the rest begins with a digit, no number ends there, be
-- it an index or not.
abbrev pub fronts_index : List ℕ → List ℕ → Bool
fronts_index piece rest = begins is_ascii_digit piece
    && not (cond (list_all is_ascii_digit piece) (begins in_word rest) (begins in_word (after is_ascii_digit piece)))
