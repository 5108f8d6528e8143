-- Which sets of characters are subsets of which, proved by trying the first 128 characters.
use Rattle.std.proofs.Common.{◌≡◌, inl, inr, ℕ, zero, suc, ◌<◌, ◌≤◌, List, [], ◌∷◌, Bool, true, false, not, ◌&&◌, ◌||◌, sym, refl, subst, arith}
use Rattle.std.specs.Prelude.{◌==◌, nat_le}
use Rattle.std.specs.Char.{is_ascii_digit}
use Rattle.std.proofs.lemmas.Bool.{cases_Bool, and_parts, or_cases, eqb-true, eqb-false, leb-true}
use Rattle.unicode_ident.proofs.Computing.{unicode_ident}
use Rattle.lay_piece.specs.Chars.{begins, starts_word, in_word, in_digits, in_hex}
use Rattle.lay_piece.specs.Number.{in_base, in_run, is_exponent_letter, is_sign}
use Rattle.lay_piece.specs.declared.piece.numbers.Base.{Base}
use Rattle.lay_piece.specs.declared.piece.numbers.Base.TheVariants.{Binary, Octal, Decimal, Hexadecimal}
use Rattle.lay_piece.proofs.Literals.{starts_in}

abbrev pub all_below : ℕ → (ℕ → Bool) → Bool
all_below zero p = true
all_below (suc n) p = p n && all_below n p

pub below : (n : ℕ) (p : ℕ → Bool) (c : ℕ) → all_below n p ≡ true → c < n → p c ≡ true
below zero p c h l = absurd (omega arith)
below (suc n) p c h l = elim (cases_Bool (c == n)) [
  | inl e ↦ let P : ℕ → Type 0 = λ m. p m ≡ true in subst P (sym (eqb-true c n e)) (and_parts _ _ h).0
  | inr e ↦ below n p c (and_parts _ _ h).1 (let ne : c ≡ n → ⊥ = eqb-false c n e in omega arith)
]

-- one set lies in another
in_both : (p q : ℕ → Bool) → all_below 128 (λ c. not (p c) || q c) ≡ true → ((c : ℕ) → p c ≡ true → c < 128)
    → (c : ℕ) → p c ≡ true → q c ≡ true
in_both p q h b c e = by_case (p c) (q c) e (below 128 (λ c. not (p c) || q c) c h (b c e))
  where
    by_case : (a d : Bool) → a ≡ true → not a || d ≡ true → d ≡ true
    by_case true d e h = h
    by_case false d e h = cc

in_range : (low high c : ℕ) → nat_le low c && nat_le c high ≡ true → high < 128 → c < 128
in_range low high c h l = let e : c ≤ high = leb-true c high (and_parts _ _ h).1 in omega arith

is_one : (c n : ℕ) → c == n ≡ true → n < 128 → c < 128
is_one c n h l = let e : c ≡ n = eqb-true c n h in omega arith

digit_small : (c : ℕ) → is_ascii_digit c ≡ true → c < 128
digit_small c h = in_range 48 57 c h (omega arith)

digits_small : (c : ℕ) → in_digits c ≡ true → c < 128
digits_small c h = elim (or_cases _ _ h) [ inl e ↦ digit_small c e | inr e ↦ is_one c 95 e (omega arith) ]

hex_small : (c : ℕ) → in_hex c ≡ true → c < 128
hex_small c h = elim (or_cases _ (c == 95) h) [
  | inr e ↦ is_one c 95 e (omega arith)
  | inl e ↦ elim (or_cases _ (nat_le 97 c && nat_le c 102) e) [
    | inr f ↦ in_range 97 102 c f (omega arith)
    | inl f ↦ elim (or_cases (nat_le 48 c && nat_le c 57) _ f) [
      | inl g ↦ in_range 48 57 c g
          (omega arith)
      | inr g ↦ in_range 65 70 c g (omega arith)
    ]
  ]
]

run_small : (b : Base) (c : ℕ) → in_run b c ≡ true → c < 128
run_small Binary c h = digits_small c h
run_small Octal c h = digits_small c h
run_small Decimal c h = digits_small c h
run_small Hexadecimal c h = hex_small c h

base_small : (b : Base) (c : ℕ) → in_base b c ≡ true → c < 128
base_small Binary c h = in_range 48 49 c h (omega arith)
base_small Octal c h = in_range 48 55 c h (omega arith)
base_small Decimal c h = digit_small c h
base_small Hexadecimal c h = elim (or_cases _ (nat_le 97 c && nat_le c 102) h) [
  | inr f ↦ in_range 97 102 c f (omega arith)
  | inl f ↦ elim (or_cases (nat_le 48 c && nat_le c 57) _ f) [
    | inl g ↦ in_range 48 57 c g
        (omega arith)
    | inr g ↦ in_range 65 70 c g (omega arith)
  ]
]

base_table : (b : Base) → all_below 128 (λ c. not (in_base b c) || in_run b c) ≡ true
base_table Binary = refl
base_table Octal = refl
base_table Decimal = refl
base_table Hexadecimal = refl

pub base_in_run : (b : Base) (c : ℕ) → in_base b c ≡ true → in_run b c ≡ true
base_in_run b = in_both (in_base b) (in_run b) (base_table b) (base_small b)

run_table : (b : Base) → all_below 128 (λ c. not (in_run b c) || in_word c) ≡ true
unfolding unicode_ident in_word
run_table Binary = refl
run_table Octal = refl
run_table Decimal = refl
run_table Hexadecimal = refl

pub run_in_word : (b : Base) (c : ℕ) → in_run b c ≡ true → in_word c ≡ true
run_in_word b = in_both (in_run b) in_word (run_table b) (run_small b)

pub underscore_in_run : (b : Base) (c : ℕ) → c == 95 ≡ true → in_run b c ≡ true
underscore_in_run b c h = let P : ℕ → Type 0 = λ v. in_run b v ≡ true in subst P (sym (eqb-true c 95 h)) (at b)
  where
    at : (b : Base) → in_run b 95 ≡ true
    at Binary = refl
    at Octal = refl
    at Decimal = refl
    at Hexadecimal = refl

pub underscore_no_digit : (b : Base) (c : ℕ) → c == 95 ≡ true → in_base b c ≡ false
underscore_no_digit b c h = let P : ℕ → Type 0 = λ v. in_base b v ≡ false in subst P (sym (eqb-true c 95 h)) (at b)
  where
    at : (b : Base) → in_base b 95 ≡ false
    at Binary = refl
    at Octal = refl
    at Decimal = refl
    at Hexadecimal = refl

digit_table : all_below 128
    (λ c. not (is_ascii_digit c)
    || (not (starts_word c) && not (c == 46) && in_digits c && not (is_sign c)
    && not (is_exponent_letter c))) ≡ true
unfolding unicode_ident starts_word
digit_table = refl

digit_alone : (c : ℕ) → is_ascii_digit c ≡ true
    → not (starts_word c) && not (c == 46) && in_digits c && not (is_sign c) && not (is_exponent_letter c) ≡ true
digit_alone = in_both is_ascii_digit
    (λ c. not (starts_word c) && not (c == 46) && in_digits c && not (is_sign c)
    && not (is_exponent_letter c)) digit_table digit_small

letter_small : (c : ℕ) → is_exponent_letter c ≡ true → c < 128
letter_small c h = elim
    (or_cases (c == 101) (c == 69) h) [ inl e ↦ is_one c 101 e (omega arith) | inr e ↦ is_one c 69 e (omega arith) ]

letter_table : all_below 128
    (λ c. not (is_exponent_letter c) || (starts_word c && in_word c && in_hex c && not (c == 46))) ≡ true
unfolding unicode_ident starts_word in_word
letter_table = refl

letter_in : (c : ℕ) → is_exponent_letter c ≡ true → starts_word c && in_word c && in_hex c && not (c == 46) ≡ true
letter_in = in_both is_exponent_letter
    (λ c. starts_word c && in_word c && in_hex c && not (c == 46)) letter_table letter_small

-- A digit begins no word, and is no point, sign or letter.
pub digit_parts : (c : ℕ) → is_ascii_digit c ≡ true
    → (starts_word c ≡ false) × (c == 46 ≡ false) × (in_digits c ≡ true) × (is_sign c ≡ false)
    × (is_exponent_letter c ≡ false)
digit_parts c h = five (starts_word c) (c == 46) (in_digits c) (is_sign c) (is_exponent_letter c) (digit_alone c h)
  where
    five : (a b d e f : Bool) → not a && not b && d && not e && not f ≡ true
        → (a ≡ false) × (b ≡ false) × (d ≡ true) × (e ≡ false) × (f ≡ false)
    five true b d e f h = cc
    five false true d e f h = cc
    five false false false e f h = cc
    five false false true true f h = cc
    five false false true false true h = cc
    five false false true false false h = (refl, refl, refl, refl, refl)

-- The letter of an exponent may begin a word, and is a digit of base 16.
pub letter_parts : (c : ℕ) → is_exponent_letter c ≡ true
    → (starts_word c ≡ true) × (in_word c ≡ true) × (in_hex c ≡ true) × (c == 46 ≡ false)
letter_parts c h = four (starts_word c) (in_word c) (in_hex c) (c == 46) (letter_in c h)
  where
    four : (a b d e : Bool) → a && b && d && not e ≡ true → (a ≡ true) × (b ≡ true) × (d ≡ true) × (e ≡ false)
    four false b d e h = cc
    four true false d e h = cc
    four true true false e h = cc
    four true true true true h = cc
    four true true true false h = (refl, refl, refl, refl)

-- of what begins a text
pub begins_in : (p q : ℕ → Bool) (cs : List ℕ) → ((c : ℕ) → p c ≡ true → q c ≡ true) → begins q cs ≡ false
    → begins p cs ≡ false
begins_in p q [] h e = refl
begins_in p q (c ∷ cs) h e = elim (cases_Bool (p c)) [ inl f ↦ let g = h c f in cc | inr f ↦ f ]

pub no_word : (r : List ℕ) → begins in_word r ≡ false → begins starts_word r ≡ false
no_word r h = begins_in starts_word in_word r starts_in h
