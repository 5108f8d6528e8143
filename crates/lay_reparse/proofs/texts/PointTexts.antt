-- A number's text ends in its point as characters where it does as bytes.
use Rattle.std.proofs.Common.{◌≡◌, ℕ, ◌≤◌, List, [], ◌∷◌, ◌++◌, Bool, true, false, cond, ◌||◌, sym, refl, ap, ◌∙◌, arith}
use Rattle.std.specs.Prelude.{◌==◌, nat_le}
use Rattle.std.specs.Char.{is_ascii_digit}
use Rattle.std.specs.Str.{chars, encode_utf8_all, is_utf8}
use Rattle.std.proofs.lemmas.Bool.{and_parts, leb-true, false_from_ne_true, ne_eqb}
use Rattle.lay_piece.specs.Chars.{after, behind, in_digits, is_nil}
use Rattle.lay_piece.specs.Number.{ends_in_point}
use Rattle.lay_piece.specs.declared.kind.Kind.{Kind}
use Rattle.lay_piece.specs.declared.kind.Kind.TheVariants.{Float, RawIdent, Doc}
use Rattle.lay_token.proofs.Encoding.{Own, Above, bytes_of, IsLow, high_le, no_one}
use Rattle.lay_form.specs.Layout.{token_ends_in_point}
use Rattle.lay_reparse.proofs.borders.Need.{point_of}
use Rattle.lay_reparse.proofs.texts.Laid.{laid, raw, text_chars}

low_digit : IsLow is_ascii_digit
low_digit c l = false_from_ne_true (is_ascii_digit c)
    (λ h. let e = leb-true c 57 (and_parts (nat_le 48 c) (nat_le c 57) h).1 in absurd (omega (arith, e)))

low_digits : IsLow in_digits
low_digits c l = (λ i. low_digit c l i || no_one 95 (omega arith) c l i)

above : (c : ℕ) (cs : List ℕ) → 128 ≤ c → ends_in_point (c ∷ cs) ≡ false
above c cs l =
    ap (λ x. behind false (46 ∷ []) is_nil (cond x (after in_digits cs) (c ∷ cs))) (low_digits c l)
    ∙ ap (λ x. cond x (is_nil cs) false) (ne_eqb 46 c (λ e. absurd (omega (arith, e))))

nil_encodes : (cs : List ℕ) → is_nil (encode_utf8_all cs) ≡ is_nil cs
nil_encodes [] = refl
nil_encodes (c ∷ cs) = elim (bytes_of c) [
  | Own l e ↦ ap (λ x. is_nil (x ++ encode_utf8_all cs)) e
  | Above l b bs h g e ↦ ap (λ x. is_nil (x ++ encode_utf8_all cs)) e
]

own : (c : ℕ) (cs : List ℕ) (x : Bool) → ends_in_point (encode_utf8_all cs) ≡ ends_in_point cs
    → behind false (46 ∷ []) is_nil (cond x (after in_digits (encode_utf8_all cs)) (c ∷ encode_utf8_all cs))
    ≡ behind false (46 ∷ []) is_nil (cond x (after in_digits cs) (c ∷ cs))
own c cs true h = h
own c cs false h = ap (λ x. cond (46 == c) x false) (nil_encodes cs)

point_encodes : (cs : List ℕ) → ends_in_point (encode_utf8_all cs) ≡ ends_in_point cs
point_encodes [] = refl
point_encodes (c ∷ cs) = elim (bytes_of c) [
  | Own l e ↦ ap (λ x. ends_in_point (x ++ encode_utf8_all cs)) e ∙ own c cs (in_digits c) (point_encodes cs)
  | Above l b bs h g e ↦ ap (λ x. ends_in_point (x ++ encode_utf8_all cs)) e
      ∙ above b (bs ++ encode_utf8_all cs) (high_le b h) ∙ sym (above c cs l)
]

point_own : (t : List ℕ) → is_utf8 t ≡ true → ends_in_point (chars t) ≡ ends_in_point t
point_own t u = sym (point_encodes (chars t)) ∙ ap ends_in_point (text_chars t u)

-- the point of a Float
pub raw_point : (k : Kind) (t : List ℕ) → is_utf8 t ≡ true → point_of k (raw k t) ≡ token_ends_in_point k t
raw_point Float t u = point_own t u
raw_point RawIdent t u = refl
raw_point (Doc inner block) t u = refl
raw_point _ t u = refl

pub laid_point : (k : Kind) (t : List ℕ) → is_utf8 t ≡ true → point_of (laid k t) (raw k t) ≡ token_ends_in_point k t
laid_point Float t u = point_own t u
laid_point RawIdent t u = refl
laid_point (Doc inner block) t u = refl
laid_point _ t u = refl
