-- Escapes that are written with digits.
use Rattle.std.proofs.Common.{◌≡◌, ◌≢◌, inl, inr, ℕ, suc, ◌+◌, ◌*◌, ◌^◌, ◌<◌, ◌≤◌, List, [], ◌∷◌, Bool, true, false, cond, ◌&&◌, sym, refl, ap, ◌∙◌, subst, arith, lit<, add-one}
use Rattle.std.specs.Prelude.{◌==◌, nat_lt, nat_le}
use Rattle.std.specs.Char.{is_ascii_hexdigit, InScalarRange}
use Rattle.std.proofs.Math.Nat.{pow-suc, pow-le-pow_right}
use Rattle.std.proofs.lemmas.Bool.{cases_Bool, and_parts, and_cases, not-true, ltb-true, leb-false, ne_eqb}
use Rattle.lay_piece.specs.Chars.{hex_value, is_between}
use Rattle.lay_piece.specs.Scan.{Next, Go, End, Bad}
use Rattle.lay_piece.specs.Quoted.{InEscape, Plain, Escape, Hex, HexTwo, Open, Digits, string_step, escape_step, digits_step, in_string, is_char_value}
use Rattle.lay_piece.specs.Value.{adds, string_value}
use Rattle.lay_piece.specs.declared.piece.quoted.Contents.TheVariants as of
use Rattle.lay_cook.specs.Steps.{Closes, Reads}
use Rattle.lay_cook.proofs.StepLemmas.{Goes, goes, stays}

-- the two digits after \x
high_step : (c : ℕ) (b : Bool) → is_ascii_hexdigit c ≡ b
    → string_step of.Chars (Escape Hex) c ≡ cond b (Go (Escape (HexTwo (hex_value c)))) Bad
unfolding string_step escape_step
high_step c true e = rw e refl
high_step c false e = rw e refl

low_step : (h c : ℕ) (b : Bool) → is_ascii_hexdigit c && nat_lt (16 * h + hex_value c) 128 ≡ b
    → string_step of.Chars (Escape (HexTwo h)) c ≡ cond b (Go Plain) Bad
unfolding string_step escape_step
low_step h c true e = rw e refl
low_step h c false e = rw e refl

high_addition : (c : ℕ) → adds (Escape Hex) c ≡ []
unfolding adds
high_addition c = refl

low_addition : (h c : ℕ) → adds (Escape (HexTwo h)) c ≡ (16 * h + hex_value c) ∷ []
unfolding adds
low_addition h c = refl

pub high_digit : (c : ℕ) (cs : List ℕ) → Closes (Escape Hex) (c ∷ cs)
    → (is_ascii_hexdigit c ≡ true) × Goes (Escape Hex) c cs [] (Escape (HexTwo (hex_value c)))
high_digit c cs h = elim (cases_Bool (is_ascii_hexdigit c)) [
  | inl e ↦ (e, goes _ _ c cs [] (high_step c true e) (high_addition c) h)
  | inr e ↦ absurd (stays _ c cs (high_step c false e) h)
]

pub low_digit : (h c : ℕ) (cs : List ℕ) → Closes (Escape (HexTwo h)) (c ∷ cs)
    → (is_ascii_hexdigit c && nat_lt (16 * h + hex_value c) 128 ≡ true)
    × Goes (Escape (HexTwo h)) c cs ((16 * h + hex_value c) ∷ []) Plain
low_digit h c cs k = elim (cases_Bool (is_ascii_hexdigit c && nat_lt (16 * h + hex_value c) 128)) [
  | inl e ↦ (e, goes _ _ c cs _ (low_step h c true e) (low_addition h c) k)
  | inr e ↦ absurd (stays _ c cs (low_step h c false e) k)
]

pub record ByteValue (text : List ℕ) (high low : ℕ) (rest : List ℕ) : Type 0 where
  pub first : is_ascii_hexdigit high ≡ true
  pub second : is_ascii_hexdigit low ≡ true
  pub small : 16 * hex_value high + hex_value low < 128
  pub reads : Reads (Escape Hex) text ((16 * hex_value high + hex_value low) ∷ []) rest

pub byte_value : (text tail rest : List ℕ) (high low : ℕ) → Closes (Escape Hex) text → text ≡ high ∷ tail
    → tail ≡ low ∷ rest → ByteValue text high low rest
byte_value text tail rest high low h e f =
    let one = high_digit high tail (subst (Closes (Escape Hex)) e h) in
    let two = low_digit (hex_value high) low rest (subst (Closes (Escape (HexTwo (hex_value high)))) f one.1.closes) in
    let parts = and_parts (is_ascii_hexdigit low) _ two.0 in
    record {
      first = one.0;
      second = parts.0;
      small = ltb-true _ _ parts.1;
      reads = record {
        value = ap (string_value (Escape Hex)) e ∙ one.1.value
            ∙ ap (string_value (Escape (HexTwo (hex_value high)))) f ∙ two.1.value;
        closes = two.1.closes;
      };
    }

-- the digits after \u{, this many of them so far
pub record InDigits (v : ℕ) (cs : List ℕ) (whole : List ℕ) : Type 0 where
  pub count : ℕ
  pub few : count ≤ 6
  pub small : v < 16 ^ count
  pub closes : Closes (Escape (Digits count v)) cs
  pub value : string_value (Escape (Digits count v)) cs ≡ string_value (Escape Open) whole

step_is : (n v c : ℕ) (to : Next InEscape) → digits_step of.Chars n v c ≡ to
    → string_step of.Chars (Escape (Digits n v)) c ≡ in_string to
unfolding string_step escape_step
step_is n v c to e = ap in_string e

digit_step : (n v c : ℕ) (b : Bool) → is_ascii_hexdigit c ≡ true → nat_lt n 6 ≡ b
    → digits_step of.Chars n v c ≡ cond b (Go (Digits (n + 1) (16 * v + hex_value c))) Bad
digit_step n v c b h l = rw (h, l) refl

other_step : (n v c : ℕ) → is_ascii_hexdigit c ≡ false → c ≢ 95 → c ≢ 125 → digits_step of.Chars n v c ≡ Bad
other_step n v c h l r = elim (cases_Bool (n == 0)) [
  | inl e ↦ rw (h, e) refl
  | inr e ↦ rw (h, e, ne_eqb c 95 l, ne_eqb c 125 r) refl
]

none_step : (n v c : ℕ) → is_ascii_hexdigit c ≡ false → n == 0 ≡ true → digits_step of.Chars n v c ≡ Bad
none_step n v c h e = rw (h, e) refl

underscore_step : (n v : ℕ) → n == 0 ≡ false → digits_step of.Chars n v 95 ≡ Go (Digits n v)
underscore_step n v e = rw e refl

brace_step : (n v : ℕ) (b : Bool) → n == 0 ≡ false → is_char_value of.Chars v ≡ b
    → digits_step of.Chars n v 125 ≡ cond b End Bad
brace_step n v true e f = rw (e, f) refl
brace_step n v false e f = rw (e, f) refl

no_addition : (n v c : ℕ) → c ≢ 125 → adds (Escape (Digits n v)) c ≡ []
unfolding adds
no_addition n v c e = rw (ne_eqb c 125 e) refl

brace_addition : (n v : ℕ) → adds (Escape (Digits n v)) 125 ≡ v ∷ []
unfolding adds
brace_addition n v = refl

more_digits : (n v d : ℕ) → v < 16 ^ n → d < 16 → 16 * v + d < 16 ^ (n + 1)
more_digits n v d h l = rw add-one (let e : 16 ^ suc n ≡ 16 ^ n * 16 = pow-suc 16 n in omega arith)

few_digits : (n v : ℕ) → v < 16 ^ n → n < 6 → v < 2 ^ 20
few_digits n v h l =
    let up : 16 ^ n ≤ 16 ^ 5 = pow-le-pow_right {n = 16} (lit< tt) {i = n} {j = 5} (omega arith) in omega arith

-- A digit is one more.
pub record IsDigit (v c : ℕ) (cs : List ℕ) (whole : List ℕ) : Type 0 where
  pub digit : is_ascii_hexdigit c ≡ true
  pub small : v < 2 ^ 20
  pub more : hex_value c < 16 → InDigits (16 * v + hex_value c) cs whole

pub digit : (v c : ℕ) (text cs whole : List ℕ) → InDigits v text whole → text ≡ c ∷ cs → c ≢ 95 → c ≢ 125
    → IsDigit v c cs whole
digit v c text cs whole d e l r = elim (cases_Bool (is_ascii_hexdigit c)) [
  | inr bad ↦ absurd (stays _ c cs (step_is n v c Bad (other_step n v c bad l r)) here)
  | inl h ↦ elim (cases_Bool (nat_lt n 6)) [
    | inr bad ↦ absurd (stays _ c cs (step_is n v c Bad (digit_step n v c false h bad)) here)
    | inl few ↦
        let g = goes (Escape (Digits n v)) (Escape (Digits (n + 1) (16 * v + hex_value c))) c cs [] (step_is n v c _ (digit_step n v c true h few)) (no_addition n v c r) here in
        let less : n < 6 = ltb-true n 6 few in
        record {
          digit = h;
          small = few_digits n v d.small less;
          more = λ s. record {
            count = n + 1;
            few = omega (arith, less);
            small = more_digits n v (hex_value c) d.small s;
            closes = g.closes;
            value = sym g.value ∙ ap (string_value (Escape (Digits n v))) (sym e) ∙ d.value;
          };
        }
  ]
]
  where
    n : ℕ
    n = d.count

    here : Closes (Escape (Digits n v)) (c ∷ cs)
    here = subst (Closes (Escape (Digits n v))) e d.closes

pub underscore : (v : ℕ) (text cs whole : List ℕ) → InDigits v text whole → text ≡ 95 ∷ cs → InDigits v cs whole
underscore v text cs whole d e = elim (cases_Bool (d.count == 0)) [
  | inl none ↦ absurd (stays _ 95 cs (step_is d.count v 95 Bad (none_step d.count v 95 refl none)) here)
  | inr some ↦
      let g = goes (Escape (Digits d.count v)) (Escape (Digits d.count v)) 95 cs [] (step_is d.count v 95 _ (underscore_step d.count v some)) (no_addition d.count v 95 (λ f. absurd (omega arith))) here in
      record {
        count = d.count;
        few = d.few;
        small = d.small;
        closes = g.closes;
        value = sym g.value ∙ ap (string_value (Escape (Digits d.count v))) (sym e) ∙ d.value;
      }
]
  where
    here : Closes (Escape (Digits d.count v)) (95 ∷ cs)
    here = subst (Closes (Escape (Digits d.count v))) e d.closes

-- What is_char_value allows is a character.
in_scalars : (v : ℕ) → is_char_value of.Chars v ≡ true → InScalarRange v
in_scalars v h =
    let parts = and_parts (nat_lt v 1114112) _ h in
    let below : v < 1114112 = ltb-true v 1114112 parts.0 in
    elim (and_cases (nat_le 55296 v) (nat_le v 57343) (not-true (is_between 55296 57343 v) parts.1)) [
      | inl e ↦ inl (leb-false 55296 v e)
      | inr e ↦ let above : 57343 < v = leb-false v 57343 e in inr (omega arith, omega arith)
    ]

-- The closing brace ends it.
pub brace : (v : ℕ) (text cs whole : List ℕ) → InDigits v text whole → text ≡ 125 ∷ cs
    → InScalarRange v × Reads (Escape Open) whole (v ∷ []) cs
brace v text cs whole d e = elim (cases_Bool (d.count == 0)) [
  | inl none ↦ absurd (stays _ 125 cs (step_is d.count v 125 Bad (none_step d.count v 125 refl none)) here)
  | inr some ↦ elim (cases_Bool (is_char_value of.Chars v)) [
    | inr bad ↦ absurd (stays _ 125 cs (step_is d.count v 125 Bad (brace_step d.count v false some bad)) here)
    | inl good ↦
        let g = goes (Escape (Digits d.count v)) Plain 125 cs (v ∷ []) (step_is d.count v 125 End (brace_step d.count v true some good)) (brace_addition d.count v) here in (
          in_scalars v good,
          record {
            value = sym d.value ∙ ap (string_value (Escape (Digits d.count v))) e ∙ g.value;
            closes = g.closes;
          },
        )
  ]
]
  where
    here : Closes (Escape (Digits d.count v)) (125 ∷ cs)
    here = subst (Closes (Escape (Digits d.count v))) e d.closes

-- after \u
open_step : (c : ℕ) (b : Bool) → c == 123 ≡ b
    → string_step of.Chars (Escape Open) c ≡ cond b (Go (Escape (Digits 0 0))) Bad
unfolding string_step escape_step
open_step c true e = rw e refl
open_step c false e = rw e refl

open_addition : (c : ℕ) → adds (Escape Open) c ≡ []
unfolding adds
open_addition c = refl

pub opened : (c : ℕ) (text cs : List ℕ) → Closes (Escape Open) text → text ≡ c ∷ cs → InDigits 0 cs text
opened c text cs h e = elim (cases_Bool (c == 123)) [
  | inr bad ↦ absurd (stays _ c cs (open_step c false bad) (subst (Closes (Escape Open)) e h))
  | inl good ↦
      let g = goes (Escape Open) (Escape (Digits 0 0)) c cs [] (open_step c true good) (open_addition c) (subst (Closes (Escape Open)) e h) in
      record {
        count = 0;
        few = omega arith;
        small = lit< tt;
        closes = g.closes;
        value = sym g.value ∙ ap (string_value (Escape Open)) (sym e);
      }
]
