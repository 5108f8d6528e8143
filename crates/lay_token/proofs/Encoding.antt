-- Characters and their bytes: a test that no character above ASCII passes is told by the bytes; and lists of scalars.
use Rattle.std.proofs.Common.{◌≡◌, inl, inr, ℕ, ◌+◌, ◌/◌, ◌<◌, ◌≤◌, List, [], ◌∷◌, ◌++◌, Bool, true, false, ◌&&◌, ◌||◌, sym, refl, ap, ◌∙◌, arith}
use Rattle.std.specs.Prelude.{◌==◌, nat_le, nat_lt}
use Rattle.std.specs.List.{list_all, list_any}
use Rattle.std.specs.Str.{encode_utf8_all}
use Rattle.std.proofs.lemmas.Bool.{cases_Bool, cond_both, and_parts, and_from, le-leb, leb-true, ltb-true, ltb-false, ne_eqb}
use Rattle.std.proofs.lemmas.Str.{encode_ascii}
use lib.Utf8.{encode, next, scalar, scalars}
use Rattle.lay_piece.specs.Chars.{begins}
use Rattle.lay_token.specs.Source.{folded, without_mark}

-- ---- bytes above ASCII

pub is_high : ℕ → Bool
is_high b = nat_le 128 b

high : (x : ℕ) → is_high (128 + x) ≡ true
unfolding is_high
high x = le-leb 128 (128 + x) (omega arith)

high_of : (n : ℕ) → 128 ≤ n → is_high n ≡ true
unfolding is_high
high_of n h = le-leb 128 n h

-- The bytes of a character are itself alone, or one and more above ASCII.
pub data Bytes (c : ℕ) : Type 0 where
  Own : c < 128 → encode c ≡ c ∷ [] → Bytes c
  Above : 128 ≤ c → (b : ℕ) → (bs : List ℕ) → is_high b ≡ true → list_all is_high bs ≡ true → encode c ≡ b ∷ bs
      → Bytes c

pub bytes_of : (c : ℕ) → Bytes c
unfolding encode
bytes_of c = elim (cases_Bool (nat_lt c 128)) [
  | inl e ↦ let l : c < 128 = ltb-true c 128 e in Own l (encode_ascii c l)
  | inr e ↦ more e
]
  where
    more : nat_lt c 128 ≡ false → Bytes c
    more e = by (nat_lt c 2048) (nat_lt c 65536) refl refl
      where
        l : 128 ≤ c
        l = ltb-false c 128 e

        by : (x y : Bool) → nat_lt c 2048 ≡ x → nat_lt c 65536 ≡ y → Bytes c
        by true y p q = Above l (192 + c / 64) (next c ∷ []) (high_of _ (omega arith)) (and_from _ true (high _) refl)
            (rw (e, p) refl)
        by false true p q = Above l (224 + c / 4096) (next (c / 64) ∷ next c ∷ []) (high_of _ (omega arith))
            (and_from _ _ (high _) (and_from _ true (high _) refl)) (rw (e, p, q) refl)
        by false false p q = Above l (240 + c / 262144) (next (c / 4096) ∷ next (c / 64) ∷ next c ∷ [])
            (high_of _ (omega arith)) (and_from _ _ (high _) (and_from _ _ (high _) (and_from _ true (high _) refl)))
            (rw (e, p, q) refl)

-- a test that no character above ASCII passes
abbrev pub IsLow : (ℕ → Bool) → Type 0
IsLow p = (c : ℕ) → 128 ≤ c → p c ≡ false

pub high_le : (b : ℕ) → is_high b ≡ true → 128 ≤ b
unfolding is_high
high_le b h = leb-true 128 b h

any_high : (p : ℕ → Bool) → IsLow p → (bs r : List ℕ) → list_all is_high bs ≡ true → list_any p (bs ++ r) ≡ list_any p r
any_high p f [] r h = refl
any_high p f (b ∷ bs) r h =
    let a = and_parts (is_high b) _ h in
    ap (λ x. x || list_any p (bs ++ r)) (f b (high_le b a.0)) ∙ any_high p f bs r a.1

pub any_encodes : (p : ℕ → Bool) → IsLow p → (cs : List ℕ) → list_any p (encode_utf8_all cs) ≡ list_any p cs
any_encodes p f [] = refl
any_encodes p f (c ∷ cs) = elim (bytes_of c) [
  | Own l e ↦ ap (λ x. list_any p (x ++ encode_utf8_all cs)) e ∙ ap (λ x. p c || x) (any_encodes p f cs)
  | Above l b bs h g e ↦
      ap (λ x. list_any p (x ++ encode_utf8_all cs)) e
      ∙ any_high p f (b ∷ bs) (encode_utf8_all cs) (and_from (is_high b) _ h g)
      ∙ any_encodes p f cs ∙ ap (λ x. x || list_any p cs) (sym (f c l))
]

pub begins_encodes : (p : ℕ → Bool) → IsLow p → (cs : List ℕ) → begins p (encode_utf8_all cs) ≡ begins p cs
begins_encodes p f [] = refl
begins_encodes p f (c ∷ cs) = elim (bytes_of c) [
  | Own l e ↦ ap (λ x. begins p (x ++ encode_utf8_all cs)) e
  | Above l b bs h g e ↦ ap (λ x. begins p (x ++ encode_utf8_all cs)) e ∙ f b (high_le b h) ∙ sym (f c l)
]

pub no_one : (n : ℕ) → n < 128 → IsLow (λ c. c == n)
no_one n h c l = ne_eqb c n (λ e. absurd (omega (arith, e)))

pub no_two : (n m : ℕ) → n < 128 → m < 128 → IsLow (λ c. c == n || c == m)
no_two n m h g c l = (λ i. no_one n h c l i || no_one m g c l i)

-- ---- lists of scalars

pub scalars_parts : (x y : List ℕ) → scalars (x ++ y) ≡ true → (scalars x ≡ true) × (scalars y ≡ true)
scalars_parts [] y h = (refl, h)
scalars_parts (c ∷ x) y h =
    let p = and_parts (scalar c) (scalars (x ++ y)) h in
    let q = scalars_parts x y p.1 in
    (and_from (scalar c) (scalars x) p.0 q.0, q.1)

pub scalars-folded : (cs : List ℕ) → scalars cs ≡ true → scalars (folded cs) ≡ true
scalars-folded [] h = refl
scalars-folded (c ∷ cs) h =
    let p = and_parts (scalar c) (scalars cs) h in
    let more = scalars-folded cs p.1 in
    cond_both (c == 13 && begins (λ d. d == 10) cs) (folded cs) (c ∷ folded cs) (λ l. scalars l ≡ true) (λ e. more)
    (λ e. and_from (scalar c) (scalars (folded cs)) p.0 more)

pub scalars-without_mark : (cs : List ℕ) → scalars cs ≡ true → scalars (without_mark cs) ≡ true
scalars-without_mark [] h = refl
scalars-without_mark (c ∷ cs) h =
    cond_both (c == 65279) cs (c ∷ cs) (λ l. scalars l ≡ true) (λ e. (and_parts (scalar c) (scalars cs) h).1) (λ e. h)
