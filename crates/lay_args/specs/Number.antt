-- Numbers as they are written in texts.
use Rattle.std.specs.Prelude.{ℕ, ◌-◌, ◌^◌, ◌&&◌, Bool, List, Option, Some, None, length, if◌then◌else◌, nat_le}
use Rattle.std.specs.Char.{is_ascii_digit}
use Rattle.std.specs.List.{list_all}
use Rattle.std.specs.Str.Parse.{digits_value}

-- The text is 1 to `digits` ASCII digits.
abbrev pub is_numeral : (digits : ℕ) → List ℕ → Bool
is_numeral digits text = nat_le 1 (length text) && (nat_le (length text) digits && list_all is_ascii_digit text)

-- the number that a text of digits stands for
abbrev pub number : List ℕ → ℕ
number text = digits_value 10 text

-- the number of a text of 1 to `digits` ASCII digits, if it is at most `limit`
abbrev pub number_within : (digits limit : ℕ) → List ℕ → Option ℕ
number_within digits limit text =
    if is_numeral digits text && nat_le (number text) limit then Some (number text) else None

-- A seed is a number of 64 bits, written in at most 20 digits.
abbrev pub seed_of : List ℕ → Option ℕ
seed_of = number_within 20 (2 ^ 64 - 1)

-- the greatest number of items that may be asked for
abbrev pub most_items : ℕ
most_items = 200000

-- A number of items is written in at most 6 digits.
abbrev pub item_count_of : List ℕ → Option ℕ
item_count_of = number_within 6 most_items
