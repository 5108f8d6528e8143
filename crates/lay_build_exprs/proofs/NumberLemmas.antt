-- The decimal digits of a number are an integer literal.
use Rattle.std.proofs.Common.{◌≡◌, ◌∙◌, ◌<◌, ◌≤◌, ℕ, ◌+◌, ◌%◌, ◌^◌, Bool, true, false, cond, List, [], ◌∷◌, ◌++◌, refl, ap, arith}
use Rattle.std.specs.Prelude.{◌==◌, decimal}
use Rattle.std.specs.Char.{is_ascii_digit}
use Rattle.std.specs.List.{list_all, list_any}
use Rattle.std.specs.Str.{IsAscii, chars, is_utf8}
use Rattle.std.proofs.lemmas.Bool.{and_parts, and_from, le-leb, leb-true, ne_eqb}
use Rattle.std.proofs.lemmas.Fmt.{decimal_by_steps_wide}
use Rattle.std.proofs.lemmas.Str.{IsUtf8-from_ascii, chars-IsAscii, is_utf8-from_IsUtf8}
use Rattle.std.proofs.lemmas.Str.Ascii.{IsAscii-cons, IsAscii-nil}
use Rattle.lay_piece.specs.Chars.{after, begins, front, in_digits}
use Rattle.lay_piece.specs.Forms.{has_form}
use Rattle.lay_piece.specs.Number.{base_of, is_int}
use Rattle.lay_piece.specs.declared.kind.Kind.TheVariants.{Int}
use Rattle.lay_piece.specs.declared.piece.numbers.Base.TheVariants.{Binary, Decimal, Hexadecimal, Octal}
use Rattle.lay_form.specs.Pieces.{is_text_of}

-- digits, of which there is one
record AreDigits (ds : List ℕ) : Type 0 where
  all : list_all is_ascii_digit ds ≡ true
  some : begins is_ascii_digit ds ≡ true

digit : (d : ℕ) → d < 10 → is_ascii_digit (48 + d) ≡ true
digit d h = and_from _ _ (le-leb 48 (48 + d) (omega arith)) (le-leb (48 + d) 57 (omega arith))

all_both : (xs ys : List ℕ) → list_all is_ascii_digit xs ≡ true → list_all is_ascii_digit ys ≡ true → list_all is_ascii_digit (xs ++ ys) ≡ true
all_both [] ys h g = g
all_both (x ∷ xs) ys h g =
    let parts = and_parts (is_ascii_digit x) (list_all is_ascii_digit xs) h in
    and_from (is_ascii_digit x) (list_all is_ascii_digit (xs ++ ys)) parts.0 (all_both xs ys parts.1 g)

still_begins : (xs ys : List ℕ) → begins is_ascii_digit xs ≡ true → begins is_ascii_digit (xs ++ ys) ≡ true
still_begins [] ys h = cc
still_begins (x ∷ xs) ys h = h

decimal_digits : (n : ℕ) → n < 10 ^ 64 → AreDigits (decimal n)
decimal_digits n h =
    decimal_by_steps_wide (λ m ds. AreDigits ds)
    (λ m small. record { all = and_from (is_ascii_digit (48 + m)) true (digit m small) refl; some = digit m small })
    (λ m ds large more.
    let last = digit (m % 10) (omega arith) in
    record {
      all = all_both ds ((48 + m % 10) ∷ []) more.all (and_from (is_ascii_digit (48 + m % 10)) true last refl);
      some = still_begins ds ((48 + m % 10) ∷ []) more.some;
    })
    n h

-- ---- a run of digits

digit_low : (c : ℕ) → is_ascii_digit c ≡ true → c ≤ 57
digit_low c h = leb-true c 57 (and_parts _ _ h).1

digits_front : (ds : List ℕ) → list_all is_ascii_digit ds ≡ true → front in_digits ds ≡ ds
digits_front [] h = refl
digits_front (d ∷ ds) h =
    let parts = and_parts (is_ascii_digit d) (list_all is_ascii_digit ds) h in
    rw (parts.0) (ap (λ (l : List ℕ). d ∷ l) (digits_front ds parts.1))

digits_after : (ds : List ℕ) → list_all is_ascii_digit ds ≡ true → after in_digits ds ≡ []
digits_after [] h = refl
digits_after (d ∷ ds) h =
    let parts = and_parts (is_ascii_digit d) (list_all is_ascii_digit ds) h in rw (parts.0) (digits_after ds parts.1)

digits_run : (ds : List ℕ) → list_all is_ascii_digit ds ≡ true → list_all in_digits ds ≡ true
digits_run [] h = refl
digits_run (d ∷ ds) h =
    let parts = and_parts (is_ascii_digit d) (list_all is_ascii_digit ds) h in
    and_from (in_digits d) (list_all in_digits ds) (rw (parts.0) refl) (digits_run ds parts.1)

-- After a 0 no letter names a base.
no_letter : (c n : ℕ) → is_ascii_digit c ≡ true → 57 < n → c == n ≡ false
no_letter c n h more = let low = digit_low c h in ne_eqb c n (λ e. absurd (omega (arith, low, more, e)))

decimal_base : (ds : List ℕ) → list_all is_ascii_digit ds ≡ true → base_of ds ≡ Decimal
decimal_base [] h = refl
decimal_base (c ∷ []) h = by (48 == c)
  where
    by : (b : Bool) → cond b Decimal Decimal ≡ Decimal
    by true = refl
    by false = refl
decimal_base (c ∷ d ∷ ds) h = by (48 == c)
  where
    second : is_ascii_digit d ≡ true
    second = (and_parts (is_ascii_digit d) (list_all is_ascii_digit ds) (and_parts (is_ascii_digit c) (list_all is_ascii_digit (d ∷ ds)) h).1).0

    by : (b : Bool) → cond b (cond (d == 120) Hexadecimal (cond (d == 111) Octal (cond (d == 98) Binary Decimal))) Decimal ≡ Decimal
    by true = rw (no_letter d 120 second (omega arith), no_letter d 111 second (omega arith), no_letter d 98 second (omega arith)) refl
    by false = refl

any_digit : (ds : List ℕ) → begins is_ascii_digit ds ≡ true → list_any is_ascii_digit ds ≡ true
any_digit [] h = cc
any_digit (d ∷ ds) h = rw h refl

digits_int : (ds : List ℕ) → AreDigits ds → is_int ds ≡ true
digits_int ds h =
    let base = decimal_base ds h.all in
    let run = digits_front ds h.all in
    let rest = digits_after ds h.all in
    rw (base, h.some, run, rest, any_digit ds h.some, digits_run ds h.all) refl

-- ---- the literal

ascii : (ds : List ℕ) → list_all is_ascii_digit ds ≡ true → IsAscii ds
ascii [] h = IsAscii-nil
ascii (d ∷ ds) h =
    let parts = and_parts (is_ascii_digit d) (list_all is_ascii_digit ds) h in
    IsAscii-cons d ds (let low = digit_low d parts.0 in omega (arith, low)) (ascii ds parts.1)

pub decimal_piece : (n : ℕ) → n < 10 ^ 64 → is_text_of Int (decimal n) ≡ true
unfolding is_text_of has_form
decimal_piece n small =
    let h = decimal_digits n small in
    let low = ascii (decimal n) h.all in
    and_from (is_utf8 (decimal n)) (is_int (chars (decimal n))) (is_utf8-from_IsUtf8 (decimal n) (IsUtf8-from_ascii (decimal n) low))
    (ap is_int (chars-IsAscii (decimal n) low) ∙ digits_int (decimal n) h)
