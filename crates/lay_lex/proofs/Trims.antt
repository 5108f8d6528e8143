-- Texts without a given character at their ends.
use Rattle.std.proofs.Common.{◌≡◌, ◌⊎◌, inl, inr, ℕ, ◌<◌, List, [], ◌∷◌, ◌++◌, true, sym, refl, ap, ◌∙◌, subst, arith, length, take, get_or, IsUtf8, length-append}
use Rattle.std.specs.Prelude.{◌==◌}
use Rattle.std.specs.Str.{chars, encode_utf8_all}
use Rattle.std.proofs.Math.Seq.{take-append_seam, get_or-append_seam}
use Rattle.std.proofs.lemmas.Bool.{cases_Bool, eqb-true, eq-eqb, and_from}
use Rattle.std.proofs.lemmas.Str.{encodes-append, encodes-chars, encode_ascii, chars-append, chars-encodes, chars-nil, IsUtf8-take, IsCharBoundary-before_ascii}
use lib.Utf8.{scalar, scalars, low_scalar}
use Rattle.lay_piece.specs.Chars.{kept, without_end}

pub without_end-snoc : (d : ℕ) (cs : List ℕ) → without_end d (cs ++ d ∷ []) ≡ without_end d cs
without_end-snoc d [] = let e : d == d ≡ true = eq-eqb d d refl in rw e refl
without_end-snoc d (c ∷ cs) = ap (kept d c) (without_end-snoc d cs)

-- a text that ends in no such character stays
ends_in : (d : ℕ) (cs : List ℕ) → (without_end d cs ≡ cs) ⊎ ((ds : List ℕ) × (cs ≡ ds ++ d ∷ []))
ends_in d [] = inl refl
ends_in d (c ∷ []) = elim (cases_Bool (c == d)) [
  | inl e ↦ inr ([], ap (λ x. x ∷ []) (eqb-true c d e))
  | inr e ↦ inl (rw e refl)
]
ends_in d (c ∷ e ∷ es) = elim (ends_in d (e ∷ es)) [
  | inl h ↦ inl (ap (kept d c) h)
  | inr p ↦ inr (c ∷ p.0, ap (λ l. c ∷ l) p.1)
]

pub same_last : (x y : List ℕ) (c d : ℕ) → x ++ c ∷ [] ≡ y ++ d ∷ [] → c ≡ d
same_last x y c d e =
    let sizes = ap length e in
    let n : length x ≡ length y = omega (arith, length-append x (c ∷ []), length-append y (d ∷ []), sizes) in
    sym (get_or-append_seam x c [] 0) ∙ ap (λ k. get_or (x ++ c ∷ []) k 0) n ∙ ap (λ l. get_or l (length y) 0) e
    ∙ get_or-append_seam y d [] 0

ascii : (d : ℕ) → d < 128 → encode_utf8_all (d ∷ []) ≡ d ∷ []
ascii d h = ap (λ l. l ++ []) (encode_ascii d h)

lone : (d : ℕ) → d < 128 → scalars (d ∷ []) ≡ true
lone d h = and_from (scalar d) true (low_scalar d (omega arith)) refl

pub front_text : (bytes front : List ℕ) (d : ℕ) → d < 128 → IsUtf8 bytes → bytes ≡ front ++ d ∷ [] → IsUtf8 front
front_text bytes front d h u e =
    let sizes = ap length e in
    let lt : length front < length bytes = omega (arith, sizes, length-append front (d ∷ [])) in
    let here : get_or bytes (length front) 0 ≡ d = ap (λ l. get_or l (length front) 0) e
    ∙ get_or-append_seam front d [] 0 in
    let cut = IsUtf8-take bytes (length front) u (IsCharBoundary-before_ascii bytes (length front) lt (omega (arith, here))) in
    subst IsUtf8 (ap (take (length front)) e ∙ take-append_seam front (d ∷ [])) cut

-- a byte less at the end
pub without_end-step : (bytes front : List ℕ) (d : ℕ) → d < 128 → IsUtf8 bytes → bytes ≡ front ++ d ∷ []
    → without_end d (chars front) ≡ without_end d (chars bytes)
without_end-step bytes front d h u e =
    let uf = front_text bytes front d h u e in
    let one : chars (d ∷ []) ≡ d ∷ [] = ap chars (sym (ascii d h)) ∙ chars-encodes (d ∷ []) (lone d h) in
    let whole : chars bytes ≡ chars front ++ d ∷ [] = ap chars e ∙ chars-append front (d ∷ []) uf
    ∙ ap (λ l. chars front ++ l) one in
    sym (without_end-snoc d (chars front)) ∙ ap (without_end d) (sym whole)

-- a text whose last byte is another
pub without_end-other : (bytes front : List ℕ) (c d : ℕ) → d < 128 → IsUtf8 bytes → bytes ≡ front ++ c ∷ [] → (c ≡ d → ⊥)
    → bytes ≡ encode_utf8_all (without_end d (chars bytes))
without_end-other bytes front c d h u e ne = elim (ends_in d (chars bytes)) [
  | inl s ↦ sym (encodes-chars bytes u) ∙ ap encode_utf8_all (sym s)
  | inr p ↦
      let ends : bytes ≡ encode_utf8_all p.0 ++ d ∷ [] =
      sym (encodes-chars bytes u) ∙ ap encode_utf8_all p.1 ∙ encodes-append p.0 (d ∷ [])
      ∙ ap (λ l. encode_utf8_all p.0 ++ l) (ascii d h) in
      absurd (ne (same_last front (encode_utf8_all p.0) c d (sym e ∙ ends)))
]

pub without_end-none : (bytes : List ℕ) (d : ℕ) → length bytes ≡ 0 → bytes ≡ encode_utf8_all (without_end d (chars bytes))
without_end-none [] d h = sym (ap (λ l. encode_utf8_all (without_end d l)) chars-nil)
without_end-none (b ∷ bytes) d h = absurd (omega arith)
