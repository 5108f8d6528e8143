-- `parse` and the definition read the same number in the same texts.
use Rattle.std.proofs.Common.{◌≡◌, ◌≢◌, ◌∙◌, ◌&&◌, ◌<◌, ◌≤◌, ◌^◌, ℕ, List, Some, None, Ok, Err, OkIff, Result, true, ap, sym, length, slice_index, nat_le, arith, rules}
use Rattle.std.proofs.lemmas.Bool.{and_from, and_parts, cond-false, cond-true, eqb-false, false_from_ne_true, le-leb, leb-true}
use Rattle.std.proofs.lemmas.Str.Parse.{IsNumeralModel, numerals_by_value, parse_plain}
use Rattle.std.specs.Char.{is_ascii_digit}
use Rattle.std.specs.List.{list_all}
use Rattle.std.specs.Str.Parse.{ParsesUnsigned, digits_value}
use Rattle.lay_args.specs.Number.{is_numeral, number, number_within}
use Rattle.lay_args.proofs.numbers.number.Goals as goal

-- the test is true of just the texts of digits
of_digits : IsNumeralModel (λ text. list_all is_ascii_digit text ≡ true) (digits_value 10)
of_digits = numerals_by_value _ (search rules)

-- what `parse` gives, whatever its error is
abbrev Parses : List ℕ → Result ℕ ℕ → Type 0
Parses = ParsesUnsigned 64 10

-- what `parse` reads in a text without a leading plus
parsed : (text : List ℕ) (r : Result ℕ ℕ) → slice_index text 0 ≢ 43 → Parses text r
    → OkIff r ((list_all is_ascii_digit text ≡ true) × (0 < length text) × (number text < 2 ^ 64)) (number text)
parsed text r plain parses = parse_plain of_digits 64 text r parses plain

-- the number that `parse` gives is the one within the limit
number_within-some : (digits limit value : ℕ) (text : List ℕ) → slice_index text 0 ≢ 43 → Parses text (Ok value)
    → length text ≤ digits → value ≤ limit → Some value ≡ number_within digits limit text
number_within-some digits limit value text plain parses short within =
    let reads = parsed text (Ok value) plain parses in
    let ends : (nat_le (length text) digits && list_all is_ascii_digit text) ≡ true =
    and_from _ _ (le-leb (length text) digits short) reads.0.0 in
    let numeral : is_numeral digits text ≡ true = and_from _ _ (le-leb 1 (length text) reads.0.1) ends in
    let bounded : number text ≤ limit = omega (arith, reads.1) in
    ap Some reads.1
    ∙ sym (cond-true _ (Some (number text)) None (and_from _ _ numeral (le-leb (number text) limit bounded)))

-- where `parse` gives none, there is none within the limit
number_within-none : (digits limit : ℕ) (text : List ℕ) → slice_index text 0 ≢ 43 → Parses text (Err 0)
    → limit < 2 ^ 64 → None ≡ number_within digits limit text
number_within-none digits limit text plain parses wide =
    sym (cond-false _ (Some (number text)) None (false_from_ne_true _ (λ passes.
    let both = and_parts (is_numeral digits text) (nat_le (number text) limit) passes in
    let begun = and_parts (nat_le 1 (length text)) (nat_le (length text) digits && list_all is_ascii_digit text) both.0 in
    let ended = and_parts (nat_le (length text) digits) (list_all is_ascii_digit text) begun.1 in
    let fits : number text < 2 ^ 64 = omega (arith, leb-true (number text) limit both.1) in
    parsed text (Err 0) plain parses (ended.1, leb-true 1 (length text) begun.0, fits))))

pub returns-in-Ok-clause-value : goal.returns-in-Ok-clause-value
returns-in-Ok-clause-value c =
    let begins = c.starts_with.ensures.byte (omega arith) (omega arith) (λ w o h. h) in
    let plain = eqb-false (slice_index c.args.text.now 0) 43 (sym begins ∙ c.if-starts_with.false) in
    number_within-some c.args.digits c.args.limit c.in-Ok.value c.args.text.now plain c.in-Ok.ensures.value.0
    (omega arith) (omega arith)

pub returns-in_default-2-clause-value : goal.returns-in_default-2-clause-value
returns-in_default-2-clause-value c =
    let begins = c.starts_with.ensures.byte (omega arith) (omega arith) (λ w o h. h) in
    let plain = eqb-false (slice_index c.args.text.now 0) 43 (sym begins ∙ c.if-starts_with.false) in
    number_within-none c.args.digits c.args.limit c.args.text.now plain c.in_default.ensures.value.0
    (omega (arith, c.ranges.limit.fits))
