-- An integer without suffix is ASCII, so its bytes are its characters.
use Rattle.std.proofs.Common.{◌≡◌, inl, inr, ℕ, ◌<◌, ◌≤◌, Bool, true, ◌&&◌, List, [], ◌∷◌, sym, ◌∙◌, subst, arith}
use Rattle.std.specs.Prelude.{◌==◌, nat_le}
use Rattle.std.specs.Char.{is_ascii_digit}
use Rattle.std.specs.Str.{IsAscii, chars, is_utf8}
use Rattle.std.proofs.lemmas.Bool.{cases_Bool, and_parts, or_cases, eqb-true, leb-true}
use Rattle.std.proofs.lemmas.Str.{IsUtf8-from_is_utf8, encodes-IsAscii, encodes-chars}
use Rattle.std.proofs.lemmas.Str.Ascii.{IsAscii-cons, IsAscii-nil}
use Rattle.lay_piece.specs.Characters as char
use Rattle.lay_piece.specs.Chars.{after, in_digits, in_hex, is_nil}
use Rattle.lay_piece.specs.Number.{is_bare_int}

in_range : (low high c : ℕ) → nat_le low c && nat_le c high ≡ true → high < 128 → c < 128
in_range low high c h l = let e : c ≤ high = leb-true c high (and_parts _ _ h).1 in omega arith

is_one : (c n : ℕ) → c == n ≡ true → n < 128 → c < 128
is_one c n h l = let e : c ≡ n = eqb-true c n h in omega arith

digits_small : (c : ℕ) → in_digits c ≡ true → c < 128
digits_small c h = elim (or_cases (is_ascii_digit c) (c == 95) h) [ inl e ↦ in_range 48 57 c e (omega arith) | inr e ↦ is_one c 95 e (omega arith) ]

hex_small : (c : ℕ) → in_hex c ≡ true → c < 128
hex_small c h = elim (or_cases _ (c == 95) h) [
  | inr e ↦ is_one c 95 e (omega arith)
  | inl e ↦ elim (or_cases _ (nat_le 97 c && nat_le c 102) e) [
    | inr f ↦ in_range 97 102 c f (omega arith)
    | inl f ↦ elim (or_cases (nat_le 48 c && nat_le c 57) _ f) [
      | inl g ↦ in_range 48 57 c g (omega arith)
      | inr g ↦ in_range 65 70 c g (omega arith)
    ]
  ]
]

-- A run that goes to the end is of the characters that pass.
run_ascii : (p : ℕ → Bool) → ((c : ℕ) → p c ≡ true → c < 128) → (cs : List ℕ) → is_nil (after p cs) ≡ true → IsAscii cs
run_ascii p low [] h = IsAscii-nil
run_ascii p low (c ∷ cs) h = elim (cases_Bool (p c)) [
  | inl e ↦ IsAscii-cons c cs (low c e) (run_ascii p low cs (rw e at h))
  | inr e ↦ let no : is_nil (c ∷ cs) ≡ true = rw e at h in absurd (cc)
]

digits_ascii : (cs : List ℕ) → is_nil (after in_digits cs) ≡ true → IsAscii cs
digits_ascii cs h = run_ascii in_digits digits_small cs h

-- After `0` and the letter of a base stand digits.
based_ascii : (c d : ℕ) (ds : List ℕ) → 48 == c ≡ true → d < 128 → IsAscii ds → IsAscii (c ∷ d ∷ ds)
based_ascii c d ds e l h =
    let zero : 48 ≡ c = eqb-true 48 c e in IsAscii-cons c (d ∷ ds) (omega arith) (IsAscii-cons d ds l h)

bare_ascii : (cs : List ℕ) → is_bare_int cs ≡ true → IsAscii cs
bare_ascii [] h = IsAscii-nil
bare_ascii (c ∷ []) h = elim (cases_Bool (48 == c)) [
  | inl e ↦ digits_ascii (c ∷ []) (rw e at h)
  | inr e ↦ digits_ascii (c ∷ []) (rw e at h)
]
bare_ascii (c ∷ d ∷ ds) h = elim (cases_Bool (48 == c)) [
  | inr e ↦ digits_ascii (c ∷ d ∷ ds) (rw e at h)
  | inl e ↦ elim (cases_Bool (d == char.letter_x)) [
    | inl x ↦ based_ascii c d ds e (is_one d 120 x (omega arith)) (run_ascii in_hex hex_small ds (rw (e, x) at h))
    | inr x ↦ elim (cases_Bool (d == char.letter_o)) [
      | inl o ↦ based_ascii c d ds e (is_one d 111 o (omega arith)) (digits_ascii ds (rw (e, x, o) at h))
      | inr o ↦ elim (cases_Bool (d == char.letter_b)) [
        | inl b ↦ based_ascii c d ds e (is_one d 98 b (omega arith)) (digits_ascii ds (rw (e, x, o, b) at h))
        | inr b ↦ digits_ascii (c ∷ d ∷ ds) (rw (e, x, o, b) at h)
      ]
    ]
  ]
]

-- Where the characters are such an integer, the bytes are.
pub bytes_bare : (t : List ℕ) → is_utf8 t ≡ true → is_bare_int (chars t) ≡ true → is_bare_int t ≡ true
bytes_bare t u h =
    let same : chars t ≡ t = sym (encodes-IsAscii (chars t) (bare_ascii (chars t) h)) ∙ encodes-chars t (IsUtf8-from_is_utf8 t u) in
    subst (λ cs. is_bare_int cs ≡ true) same h
