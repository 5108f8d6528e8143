-- Digits, as bytes and as characters.
use Rattle.std.proofs.Common.{◌≡◌, ℕ, ◌&&◌, ◌<◌, Bool, true, false, List, [], ◌∷◌, IsUtf8, refl, sym, ap, ◌∙◌, arith}
use Rattle.std.specs.Char.{is_ascii_digit}
use Rattle.std.specs.List.{list_all}
use Rattle.std.specs.Str.{IsAscii, chars}
use Rattle.std.proofs.lemmas.Bool.{and_parts}
use Rattle.std.proofs.lemmas.Bool.Decides.{nat_tests}
use Rattle.std.proofs.lemmas.Str.{chars-IsAscii, encodes-chars}
use Rattle.std.proofs.lemmas.Str.Ascii.{IsAscii-nil, IsAscii-cons, encodes-IsAscii}
use Rattle.lay_piece.specs.Number.{is_index}

digit_ascii : (b : ℕ) → is_ascii_digit b ≡ true → b < 128
digit_ascii b h = grind (arith, nat_tests)

digits_ascii : (bs : List ℕ) → list_all is_ascii_digit bs ≡ true → IsAscii bs
digits_ascii [] h = IsAscii-nil
digits_ascii (b ∷ bs) h =
    let both = and_parts (is_ascii_digit b) (list_all is_ascii_digit bs) h in
    IsAscii-cons b bs (digit_ascii b both.0) (digits_ascii bs both.1)

and_none : (b : Bool) → b && false ≡ false
and_none true = refl
and_none false = refl

no_index : (cs : List ℕ) → list_all is_ascii_digit cs ≡ false → is_index cs ≡ false
no_index [] h = absurd (cc)
no_index (c ∷ cs) h = ap (λ b. is_ascii_digit c && b) h ∙ and_none (is_ascii_digit c)

-- A text that is an index as characters is one as bytes.
pub index_chars : (bs : List ℕ) → IsUtf8 bs → is_index (chars bs) ≡ is_index bs
index_chars bs u = by (list_all is_ascii_digit bs) (list_all is_ascii_digit (chars bs)) refl refl
  where
    by : (b d : Bool) → list_all is_ascii_digit bs ≡ b → list_all is_ascii_digit (chars bs) ≡ d
        → is_index (chars bs) ≡ is_index bs
    by true d h g = ap is_index (chars-IsAscii bs (digits_ascii bs h))
    by false true h g = ap is_index (sym (encodes-IsAscii (chars bs) (digits_ascii (chars bs) g)) ∙ encodes-chars bs u)
    by false false h g = no_index (chars bs) g ∙ sym (no_index bs h)

-- Digits are an index where there is one.
pub index_some : (b : ℕ) (bs : List ℕ) → list_all is_ascii_digit (b ∷ bs) ≡ is_index (b ∷ bs)
index_some b bs = by (is_ascii_digit b)
  where
    by : (d : Bool) → d && list_all is_ascii_digit bs ≡ d && (d && list_all is_ascii_digit bs)
    by true = refl
    by false = refl
