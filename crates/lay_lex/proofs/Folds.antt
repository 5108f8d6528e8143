-- Folding line ends in the bytes of a text folds them in its characters.
use Rattle.std.proofs.Common.{◌≡◌, inl, inr, ℕ, suc, ◌<◌, ◌≤◌, List, [], ◌∷◌, ◌++◌, Bool, true, false, cond, ◌&&◌, sym, refl, ap, ◌∙◌, arith, length, get_or, append-nil, IsUtf8}
use Rattle.std.specs.Prelude.{◌==◌}
use Rattle.std.specs.List.{list_any}
use Rattle.std.specs.Str.{chars, encode_utf8_all}
use Rattle.std.proofs.lemmas.Bool.{cases_lt, ne_eqb, or_parts}
use Rattle.std.proofs.lemmas.Str.{encode_ascii, inside_one, encodes-chars, scalars-chars, chars-encodes}
use lib.Utf8.{encode}
use Rattle.lay_piece.specs.Chars.{begins}
use Rattle.lay_token.specs.Source.{folded}
use Rattle.lay_token.proofs.Encoding.{begins_encodes, no_one, scalars-folded}

-- each byte is above ASCII
abbrev pub IsHigh : List ℕ → Type 0
IsHigh xs = (k : ℕ) → k < length xs → 128 ≤ get_or xs k 0

pub high : (c : ℕ) → 128 ≤ c → IsHigh (encode c)
high c h k l = elim (cases_lt (get_or (encode c) k 0) 128) [
  | inl s ↦ let e : c ≡ get_or (encode c) k 0 = inside_one c [] (encode c) k (sym (append-nil (encode c))) l s in absurd (omega arith)
  | inr g ↦ g
]

folded-high : (xs ys : List ℕ) → IsHigh xs → folded (xs ++ ys) ≡ xs ++ folded ys
folded-high [] ys h = refl
folded-high (x ∷ xs) ys h =
    let big : 128 ≤ x = h 0 (omega arith) in
    let no : x == 13 ≡ false = ne_eqb x 13 (λ e. absurd (omega arith)) in
    rw no (ap (λ l. x ∷ l) (folded-high xs ys (λ k l. h (suc k) (omega arith))))

cond_encoded : (b : Bool) (c : ℕ) (cs : List ℕ) → encode c ≡ c ∷ []
    → cond b (encode_utf8_all cs) (c ∷ encode_utf8_all cs) ≡ encode_utf8_all (cond b cs (c ∷ cs))
cond_encoded true c cs e = refl
cond_encoded false c cs e = sym (ap (λ l. l ++ encode_utf8_all cs) e)

pub folded-encodes : (cs : List ℕ) → folded (encode_utf8_all cs) ≡ encode_utf8_all (folded cs)
folded-encodes [] = refl
folded-encodes (c ∷ cs) = elim (cases_lt c 128) [
  | inl s ↦
      let one = encode_ascii c s in
      ap (λ xs. folded (xs ++ encode_utf8_all cs)) one
      ∙ ap (λ b. cond (c == 13 && b) (folded (encode_utf8_all cs)) (c ∷ folded (encode_utf8_all cs))) (begins_encodes (λ d. d == 10) (no_one 10 (omega arith)) cs)
      ∙ ap (λ xs. cond (c == 13 && begins (λ d. d == 10) cs) xs (c ∷ xs)) (folded-encodes cs)
      ∙ cond_encoded (c == 13 && begins (λ d. d == 10) cs) c (folded cs) one
  | inr g ↦
      let no : c == 13 ≡ false = ne_eqb c 13 (λ e. absurd (omega arith)) in
      let to : encode_utf8_all (folded (c ∷ cs)) ≡ encode c ++ encode_utf8_all (folded cs) = rw no refl in
      folded-high (encode c) (encode_utf8_all cs) (high c g) ∙ ap (λ xs. encode c ++ xs) (folded-encodes cs) ∙ sym to
]

-- the bytes of a text with its line ends folded
pub folded_text : (bytes text : List ℕ) → IsUtf8 bytes → text ≡ folded bytes
    → (text ≡ encode_utf8_all (folded (chars bytes))) × (chars text ≡ folded (chars bytes)) × IsUtf8 text
folded_text bytes text u e =
    let all : text ≡ encode_utf8_all (folded (chars bytes)) = e ∙ ap folded (sym (encodes-chars bytes u))
    ∙ folded-encodes (chars bytes) in
    let fine = scalars-folded (chars bytes) (scalars-chars bytes u) in
    (all, ap chars all ∙ chars-encodes (folded (chars bytes)) fine, (folded (chars bytes), (fine, sym all)))

-- without a CR nothing is folded
pub folded-none : (bytes : List ℕ) → list_any (λ b. b == 13) bytes ≡ false → bytes ≡ folded bytes
folded-none [] h = refl
folded-none (b ∷ bytes) h =
    let p = or_parts (b == 13) (list_any (λ c. c == 13) bytes) h in
    rw p.0 (ap (λ l. b ∷ l) (folded-none bytes p.1))
