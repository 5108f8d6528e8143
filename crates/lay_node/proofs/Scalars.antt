-- The value of a string that is text is text: each of its characters is a Unicode scalar.
use Rattle.std.proofs.Common.{◌≡◌, inl, inr, ℕ, zero, suc, ◌+◌, ◌-◌, ◌*◌, ◌<◌, ◌≤◌, List, [], ◌∷◌, ◌++◌, Bool, true, false, cond, not, ◌&&◌, Some, None, length, take, drop, refl, ap, ◌∙◌, subst, arith}
use Rattle.std.specs.Prelude.{◌==◌, nat_lt, nat_le}
use Rattle.std.specs.Char.{is_ascii_hexdigit}
use Rattle.std.specs.Str.{encode_utf8_all, is_utf8}
use Rattle.std.proofs.lemmas.Bool.{cases_Bool, and_parts, and_from, eqb-true, not-true, le-leb, leb-false, ltb-true, ltb-false, both_ways}
use Rattle.std.proofs.lemmas.Str.{is_utf8-from_IsUtf8}
use lib.Utf8.{scalar, scalars, low_scalar}
use Rattle.lay_piece.specs.Chars.{front, hex_value, is_between, kept, without_end}
use Rattle.lay_piece.specs.Scan.{Next, Go, End, Bad}
use Rattle.lay_piece.specs.Quoted.{Backslash, Hex, HexTwo, Open, Digits, InString, Plain, Turned, Escape, Skip, string_step, escape_step, digits_step, in_string, is_skipped, is_char_value}
use Rattle.lay_piece.specs.Forms.{after_literal, is_whole}
use Rattle.lay_piece.specs.Value.{short_escape, plain_adds, adds, string_value, is_hash, raw_value, value_of}
use Rattle.lay_piece.specs.declared.piece.quoted.Contents.TheVariants as of
use Rattle.lay_piece.specs.declared.kind.Kind.{Kind}
use Rattle.lay_piece.specs.declared.kind.Kind.TheVariants.{Str, RawStr}

-- ---- lists of scalars

pub text_utf8 : (cs : List ℕ) → scalars cs ≡ true → is_utf8 (encode_utf8_all cs) ≡ true
text_utf8 cs h = is_utf8-from_IsUtf8 (encode_utf8_all cs) (cs, (h, refl))

pub scalars_append : (x y : List ℕ) → scalars x ≡ true → scalars y ≡ true → scalars (x ++ y) ≡ true
scalars_append [] y h g = g
scalars_append (c ∷ x) y h g =
    let p = and_parts (scalar c) (scalars x) h in and_from (scalar c) (scalars (x ++ y)) p.0 (scalars_append x y p.1 g)

pub scalars_drop : (n : ℕ) (cs : List ℕ) → scalars cs ≡ true → scalars (drop n cs) ≡ true
scalars_drop zero cs h = h
scalars_drop (suc n) [] h = refl
scalars_drop (suc n) (c ∷ cs) h = scalars_drop n cs (and_parts (scalar c) (scalars cs) h).1

pub scalars_take : (n : ℕ) (cs : List ℕ) → scalars cs ≡ true → scalars (take n cs) ≡ true
scalars_take zero cs h = refl
scalars_take (suc n) [] h = refl
scalars_take (suc n) (c ∷ cs) h =
    let p = and_parts (scalar c) (scalars cs) h in and_from (scalar c) (scalars (take n cs)) p.0 (scalars_take n cs p.1)

pub scalars_cond : (b : Bool) (x y : List ℕ) → scalars x ≡ true → scalars y ≡ true → scalars (cond b x y) ≡ true
scalars_cond true x y h g = h
scalars_cond false x y h g = g

scalars_kept : (d c : ℕ) (cs : List ℕ) → scalar c ≡ true → scalars cs ≡ true → scalars (kept d c cs) ≡ true
scalars_kept d c [] h g = scalars_cond (c == d) [] (c ∷ []) refl (and_from (scalar c) true h refl)
scalars_kept d c (e ∷ es) h g = and_from (scalar c) (scalars (e ∷ es)) h g

pub scalars_without_end : (d : ℕ) (cs : List ℕ) → scalars cs ≡ true → scalars (without_end d cs) ≡ true
scalars_without_end d [] h = refl
scalars_without_end d (c ∷ cs) h =
    let p = and_parts (scalar c) (scalars cs) h in scalars_kept d c (without_end d cs) p.0 (scalars_without_end d cs p.1)

-- ---- the value of a string

one_scalar : (c : ℕ) → scalar c ≡ true → scalars (c ∷ []) ≡ true
one_scalar c h = and_from (scalar c) true h refl

short_scalars : (c : ℕ) → scalars (short_escape c) ≡ true
short_scalars c =
    scalars_cond (c == 110) _ _ refl
    (scalars_cond (c == 114) _ _ refl
    (scalars_cond (c == 116) _ _ refl
    (scalars_cond (c == 48) _ _ refl
    (scalars_cond (c == 92) _ _ refl
    (scalars_cond (c == 39) _ _ refl
    (scalars_cond (c == 34) _ _ refl refl))))))

plain_scalars : (c : ℕ) → scalar c ≡ true → scalars (plain_adds c) ≡ true
plain_scalars c h = scalars_cond (c == 92) [] (c ∷ []) refl (one_scalar c h)

-- what \x names is below 128
byte_scalar : (digit value : Bool) (v : ℕ) (s : InString) → (value ≡ true → v < 128)
    → in_string (cond (digit && value) End Bad) ≡ Go s → scalars (v ∷ []) ≡ true
byte_scalar true true v s small e = one_scalar v (low_scalar v (let h = small refl in omega (arith, h)))
byte_scalar true false v s small e = cc
byte_scalar false value v s small e = cc

-- what \u names is no surrogate
above : (v : ℕ) → 55296 ≤ v → is_between 55296 57343 v ≡ false → 57344 ≤ v
above v l e = elim (cases_Bool (nat_le v 57343)) [
  | inl g ↦
      let f : is_between 55296 57343 v ≡ true = and_from (nat_le 55296 v) (nat_le v 57343) (le-leb 55296 v l) g in
      absurd (both_ways (is_between 55296 57343 v) e f)
  | inr g ↦ let h : 57343 < v = leb-false v 57343 g in omega arith
]

char_scalar : (v : ℕ) → nat_lt v 1114112 && not (is_between 55296 57343 v) ≡ true → scalar v ≡ true
char_scalar v h = by_case (nat_lt v 55296) refl
  where
    p : (nat_lt v 1114112 ≡ true) × (not (is_between 55296 57343 v) ≡ true)
    p = and_parts (nat_lt v 1114112) (not (is_between 55296 57343 v)) h

    by_case : (b : Bool) → nat_lt v 55296 ≡ b → cond b true (nat_le 57344 v && nat_lt v 1114112) ≡ true
    by_case true e = refl
    by_case false e =
        let l = above v (ltb-false v 55296 e) (not-true (is_between 55296 57343 v) p.1) in
        and_from (nat_le 57344 v) (nat_lt v 1114112) (le-leb 57344 v l) p.0

-- the last step of \u, at the brace
digits_scalar : (n v : ℕ) (s : InString) → in_string (digits_step of.Chars n v 125) ≡ Go s → scalar v ≡ true
digits_scalar n v s e = by_case (n == 0) (is_char_value of.Chars v) refl e
  where
    by_case : (none value : Bool) → is_char_value of.Chars v ≡ value
        → in_string (cond none Bad (cond value End Bad)) ≡ Go s → scalar v ≡ true
    by_case true value g e = cc
    by_case false true g e = char_scalar v g
    by_case false false g e = cc

digits_adds : (n v c : ℕ) (s : InString) → in_string (digits_step of.Chars n v c) ≡ Go s
    → scalars (cond (c == 125) (v ∷ []) []) ≡ true
digits_adds n v c s e = by_case (c == 125) refl
  where
    by_case : (b : Bool) → c == 125 ≡ b → scalars (cond b (v ∷ []) []) ≡ true
    by_case true f =
        let P : ℕ → Type 0 = λ x. in_string (digits_step of.Chars n v x) ≡ Go s in
        one_scalar v (digits_scalar n v s (subst P (eqb-true c 125 f) e))
    by_case false f = refl

-- What a character adds to the value, where the string goes on, is scalars.
adds_scalars : (s t : InString) (c : ℕ) → scalar c ≡ true → string_step of.Chars s c ≡ Go t → scalars (adds s c) ≡ true
unfolding string_step escape_step adds
adds_scalars Plain t c h e = plain_scalars c h
adds_scalars Turned t c h e = short_scalars c
adds_scalars (Escape Backslash) t c h e = short_scalars c
adds_scalars (Escape Hex) t c h e = refl
adds_scalars (Escape (HexTwo d)) t c h e =
    byte_scalar (is_ascii_hexdigit c) (nat_lt (16 * d + hex_value c) 128) (16 * d + hex_value c) t
    (ltb-true (16 * d + hex_value c) 128) e
adds_scalars (Escape Open) t c h e = refl
adds_scalars (Escape (Digits n v)) t c h e = digits_adds n v c t e
adds_scalars Skip t c h e = scalars_cond (is_skipped c) [] (plain_adds c) refl (plain_scalars c h)

-- the value from a character on, where it does this to the state
abbrev valued : InString → ℕ → List ℕ → Next InString → List ℕ
valued s c cs (Go t) = adds s c ++ string_value t cs
valued s c cs End = []
valued s c cs Bad = []

value-cons : (s : InString) (c : ℕ) (cs : List ℕ) → string_value s (c ∷ cs) ≡ valued s c cs (string_step of.Chars s c)
unfolding string_value
value-cons s c cs = by_step (string_step of.Chars s c)
  where
    by_step : (n : Next InString)
        → elim n [ Go t ↦ adds s c ++ string_value t cs | End ↦ [] | Bad ↦ [] ] ≡ valued s c cs n
    by_step (Go t) = refl
    by_step End = refl
    by_step Bad = refl

value-nil : (s : InString) → string_value s [] ≡ []
unfolding string_value
value-nil s = refl

valued_scalars : (s : InString) (c : ℕ) (cs : List ℕ) → scalar c ≡ true
    → ((t : InString) → scalars (string_value t cs) ≡ true)
    → (n : Next InString) → string_step of.Chars s c ≡ n → scalars (valued s c cs n) ≡ true
valued_scalars s c cs h more (Go t) e =
    scalars_append (adds s c) (string_value t cs) (adds_scalars s t c h e) (more t)
valued_scalars s c cs h more End e = refl
valued_scalars s c cs h more Bad e = refl

string_scalars : (cs : List ℕ) (s : InString) → scalars cs ≡ true → scalars (string_value s cs) ≡ true
string_scalars [] s h = ap scalars (value-nil s)
string_scalars (c ∷ cs) s h =
    let p = and_parts (scalar c) (scalars cs) h in
    ap scalars (value-cons s c cs)
    ∙ valued_scalars s c cs p.0 (λ t. string_scalars cs t p.1) (string_step of.Chars s c) refl

-- ---- the value of a literal

-- a value that there is only if it is given
given : (b : Bool) (x y : List ℕ) → cond b (Some x) None ≡ Some y → scalars x ≡ true → scalars y ≡ true
given true x y e h = let f : x ≡ y = cc in subst (λ (l : List ℕ). scalars l ≡ true) f h
given false x y e h = cc

pub value_scalars : (kind : Kind) (piece value : List ℕ) → value_of kind piece ≡ Some value → scalars piece ≡ true
    → scalars value ≡ true
value_scalars Str piece value e h =
    given (is_whole (after_literal Str piece)) (string_value Plain (drop 1 piece)) value e
    (string_scalars (drop 1 piece) Plain (scalars_drop 1 piece h))
value_scalars RawStr piece value e h =
    let cs = drop 1 piece in
    let around = length (front is_hash cs) + 1 in
    given (is_whole (after_literal RawStr piece)) (raw_value cs) value e
    (scalars_take (length cs - 2 * around) (drop around cs) (scalars_drop around cs (scalars_drop 1 piece h)))
value_scalars _ piece value e h = cc
