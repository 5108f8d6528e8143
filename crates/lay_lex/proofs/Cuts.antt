-- Characters and bytes at the ends of texts.
use Rattle.std.proofs.Common.{◌≡◌, ℕ, zero, suc, ◌-◌, List, [], ◌∷◌, ◌++◌, sym, refl, ap, ◌∙◌, subst, arith, length, take, drop, IsUtf8, length-append}
use Rattle.std.specs.Prelude.{◌==◌}
use Rattle.std.specs.List.{list_any}
use Rattle.std.specs.Str.{chars, encode_utf8_all, IsCharBoundary}
use Rattle.std.proofs.Math.Seq.{take-append_seam, drop-append_seam}
use Rattle.std.proofs.lemmas.List.{append-nil}
use Rattle.std.proofs.lemmas.Str.{encodes-append, encodes-chars, encodes_same, scalars-chars, chars-encodes, chars-nil, IsCharBoundary-at_seam}
use lib.Utf8.{encode, scalars}
use Rattle.lay_token.specs.Lexes.{size}
use Rattle.lay_token.proofs.Encoding.{any_encodes, no_one, scalars_parts}

-- a text without its last character
snoc : (s t : List ℕ) (c : ℕ) → IsUtf8 s → IsUtf8 t → s ≡ t ++ encode c → chars s ≡ chars t ++ c ∷ []
snoc s t c us ut e = encodes_same (chars s) (chars t ++ c ∷ []) (
    encodes-chars s us ∙ e ∙ ap (λ l. l ++ encode c) (sym (encodes-chars t ut))
    ∙ sym (encodes-append (chars t) (c ∷ []) ∙ ap (λ l. encode_utf8_all (chars t) ++ l) (append-nil (encode c))))

pub without_last : (s t : List ℕ) (c : ℕ) → IsUtf8 s → IsUtf8 t → s ≡ t ++ encode c
    → chars t ≡ take (length (chars s) - 1) (chars s)
without_last s t c us ut e =
    let cut = snoc s t c us ut e in
    let n : length (chars t) ≡ length (chars s) - 1 = omega (arith, ap length cut, length-append (chars t) (c ∷ [])) in
    sym (ap (λ k. take k (chars s)) (sym n) ∙ ap (take (length (chars t))) cut ∙ take-append_seam (chars t) (c ∷ []))

take_nil : (n : ℕ) → let none : List ℕ = [] in none ≡ take n none
take_nil zero = refl
take_nil (suc n) = refl

pub without_none : (s : List ℕ) (n : ℕ) → length s ≡ 0 → chars s ≡ take (length (chars s) - n) (chars s)
without_none [] n h = rw chars-nil (take_nil (0 - n))
without_none (c ∷ s) n h = absurd (omega arith)

pub any-chars : (s : List ℕ) → IsUtf8 s → list_any (λ d. d == 10) s ≡ list_any (λ d. d == 10) (chars s)
any-chars s u = ap (list_any (λ d. d == 10)) (sym (encodes-chars s u)) ∙ any_encodes (λ d. d == 10) (no_one 10 (omega arith)) (chars s)

pub record Cut (s piece more : List ℕ) : Type 0 where
  pub bytes : s ≡ encode_utf8_all piece ++ encode_utf8_all more
  pub front : chars (encode_utf8_all piece) ≡ piece
  pub back : chars (encode_utf8_all more) ≡ more
  pub text : IsUtf8 (encode_utf8_all more)
  pub piece_text : IsUtf8 (encode_utf8_all piece)

pub cut_at : (s piece more : List ℕ) → IsUtf8 s → chars s ≡ piece ++ more → Cut s piece more
cut_at s piece more u e =
    let p = scalars_parts piece more (sym (ap scalars e) ∙ scalars-chars s u) in
    record {
      bytes = sym (encodes-chars s u) ∙ ap encode_utf8_all e ∙ encodes-append piece more;
      front = chars-encodes piece p.0;
      back = chars-encodes more p.1;
      text = (more, (p.1, refl));
      piece_text = (piece, (p.0, refl));
    }

pub cut_border : (s piece more : List ℕ) (n : ℕ) → IsUtf8 s → chars s ≡ piece ++ more → n ≡ size piece → IsCharBoundary s n
cut_border s piece more n u e h =
    let c = cut_at s piece more u e in
    subst (IsCharBoundary s) (sym h) (IsCharBoundary-at_seam s (encode_utf8_all piece) (encode_utf8_all more) c.bytes c.text)

pub cut_parts : (s piece more x y : List ℕ) (n : ℕ) → IsUtf8 s → chars s ≡ piece ++ more → n ≡ size piece
    → x ≡ take n s → y ≡ drop n s
    → (chars x ≡ piece) × (chars y ≡ more)
cut_parts s piece more x y n u e h f g =
    let c = cut_at s piece more u e in (
      ap chars (f ∙ ap (λ k. take k s) h ∙ ap (take (size piece)) c.bytes
          ∙ take-append_seam (encode_utf8_all piece) (encode_utf8_all more)) ∙ c.front,
      ap chars (g ∙ ap (λ k. drop k s) h ∙ ap (drop (size piece)) c.bytes
          ∙ drop-append_seam (encode_utf8_all piece) (encode_utf8_all more)) ∙ c.back,
    )
