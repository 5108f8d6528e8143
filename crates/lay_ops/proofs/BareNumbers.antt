-- Numbers without suffix: reading byte by byte tells them.
use Rattle.std.proofs.Common.{◌≡◌, inl, inr, ℕ, false, List, [], ◌∷◌, refl, sym, ◌∙◌}
use Rattle.std.specs.Prelude.{◌==◌}
use Rattle.std.proofs.lemmas.Bool.{cases_Bool, eq-eqb, eqb-true, false≢true}
use Rattle.lay_piece.specs.Characters as char
use Rattle.lay_piece.specs.Chars.{after, in_digits, in_hex, is_nil}
use Rattle.lay_piece.specs.Number.{is_bare_int, is_exponent_letter, is_sign}
use Rattle.lay_piece.specs.declared.kind.Kind.{Kind}
use Rattle.lay_piece.specs.declared.kind.Kind.TheVariants as kind
use Rattle.lay_node.specs.Words.{behind_exponent, behind_fraction, behind_sign, is_bare_number}
use Rattle.lay_ops.specs.Numbers.{exponent, run}
use Rattle.lay_ops.specs.declared.numbers.Reading.TheVariants as read

-- ---- what is read goes on to the end

refused : (cs : List ℕ) → run read.Refused cs ≡ false
refused [] = refl
refused (c ∷ cs) = refused cs

digits_run : (cs : List ℕ) → run read.Digits cs ≡ is_nil (after in_digits cs)
digits_run [] = refl
digits_run (c ∷ cs) = elim (cases_Bool (in_digits c)) [ inl e ↦ rw e (digits_run cs) | inr e ↦ rw e (refused cs) ]

hex_run : (cs : List ℕ) → run read.Hex cs ≡ is_nil (after in_hex cs)
hex_run [] = refl
hex_run (c ∷ cs) = elim (cases_Bool (in_hex c)) [ inl e ↦ rw e (hex_run cs) | inr e ↦ rw e (refused cs) ]

-- ---- integers

zero_run : (cs : List ℕ) → run read.Zero cs ≡ is_bare_int (48 ∷ cs)
zero_run [] = refl
zero_run (c ∷ cs) = elim (cases_Bool (c == char.letter_x)) [
  | inl e ↦ rw e (hex_run cs)
  | inr e ↦ elim (cases_Bool (c == char.letter_o)) [
    | inl f ↦ rw (e, f) (digits_run cs)
    | inr f ↦ elim (cases_Bool (c == char.letter_b)) [
      | inl g ↦ rw (e, f, g) (digits_run cs)
      | inr g ↦ rw (e, f, g) (digits_run (c ∷ cs))
    ]
  ]
]

not_zero : (c : ℕ) → c == 48 ≡ false → 48 == c ≡ false
not_zero c h = elim (cases_Bool (48 == c)) [
  | inl e ↦ absurd (false≢true (sym h ∙ eq-eqb c 48 (sym (eqb-true 48 c e))))
  | inr e ↦ e
]

start_run : (cs : List ℕ) → run read.Start cs ≡ is_bare_int cs
start_run [] = refl
start_run (c ∷ cs) = elim (cases_Bool (c == 48)) [
  | inl e ↦ let same : c ≡ 48 = eqb-true c 48 e in rw same (zero_run cs)
  | inr e ↦ rw (e, not_zero c e) (digits_run (c ∷ cs))
]

-- ---- floats

exponent_run : (cs : List ℕ) → run read.Exponent cs ≡ is_nil (after in_digits (behind_sign cs))
exponent_run [] = refl
exponent_run (c ∷ cs) = elim (cases_Bool (is_sign c)) [ inl e ↦ rw e (digits_run cs) | inr e ↦ rw e (digits_run (c ∷ cs)) ]

letter_run : (c : ℕ) (cs : List ℕ) → run (exponent c) cs ≡ is_nil (behind_exponent (c ∷ cs))
letter_run c cs = elim (cases_Bool (is_exponent_letter c)) [ inl e ↦ rw e (exponent_run cs) | inr e ↦ rw e (refused cs) ]

fraction_run : (cs : List ℕ) → run read.Fraction cs ≡ is_nil (behind_exponent (after in_digits cs))
fraction_run [] = refl
fraction_run (c ∷ cs) = elim (cases_Bool (in_digits c)) [ inl e ↦ rw e (fraction_run cs) | inr e ↦ rw e (letter_run c cs) ]

whole_run : (cs : List ℕ) → run read.Whole cs ≡ is_nil (behind_fraction (after in_digits cs))
whole_run [] = refl
whole_run (c ∷ cs) = elim (cases_Bool (in_digits c)) [
  | inl e ↦ rw e (whole_run cs)
  | inr e ↦ elim (cases_Bool (c == char.point)) [
    | inl f ↦ rw (e, f) (fraction_run cs)
    | inr f ↦ rw (e, f) (letter_run c cs)
  ]
]

-- ---- what the code tells

pub of_int : (k : Kind) (text : List ℕ) → k ≡ kind.Int → run read.Start text ≡ is_bare_number k text
of_int k text e = rw e (start_run text)

pub of_float : (k : Kind) (text : List ℕ) → k ≡ kind.Float → run read.Whole text ≡ is_bare_number k text
of_float k text e = rw e (whole_run text)
