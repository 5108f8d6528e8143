-- String literals: the literal of a text is a piece, and its value is the text.
use Rattle.std.proofs.Common.{◌≡◌, ◌∙◌, ◌<◌, ◌≤◌, inl, inr, ℕ, Bool, true, false, ◌&&◌, List, [], ◌∷◌, ◌++◌, drop, Some, IsUtf8, refl, sym, ap, subst, arith, append_assoc}
use Rattle.std.specs.Prelude.{◌==◌, codes, flat_map, nat_lt}
use Rattle.std.specs.List.{list_all}
use Rattle.std.specs.Str.{chars, encode_utf8_all, is_utf8}
use Rattle.std.proofs.lemmas.Bool.{and_parts, and_from, cases_Bool, eqb-true, lt-ltb, ltb-true}
use Rattle.std.proofs.lemmas.List.{append-nil}
use Rattle.std.proofs.lemmas.Str.{chars-encodes, encodes-append, encodes-chars, encode_ascii, is_utf8-from_IsUtf8, scalars-chars}
use lib.Utf8.{encode, scalar, scalars}
use Rattle.lay_piece.specs.Scan.{Next, Go, End, Bad, run}
use Rattle.lay_piece.specs.Quoted.{InString, Plain, Turned, string_step, escape_step}
use Rattle.lay_piece.specs.Value.{adds, string_value, value_of}
use Rattle.lay_piece.specs.Forms.{after_literal, has_form, is_literal_end}
use Rattle.lay_piece.specs.declared.piece.quoted.Contents.TheVariants as of
use Rattle.lay_piece.specs.declared.kind.Kind.TheVariants.{Str}
use Rattle.lay_piece.proofs.Runs.{run-step}
use Rattle.lay_token.proofs.Encoding.{Above, Own, bytes_of, high_le, is_high, no_one}
use Rattle.lay_form.specs.Pieces.{is_text_of}
use Rattle.lay_build_types.specs.Strings.{escaped, string_text}

-- ---- which characters are escaped

data Case (c : ℕ) : Type 0 where
  Quote : c ≡ 34 → Case c
  Backslash : c ≡ 92 → Case c
  Feed : c ≡ 10 → Case c
  Return : c ≡ 13 → Case c
  Other : c == 34 ≡ false → c == 92 ≡ false → c == 10 ≡ false → c == 13 ≡ false → Case c

case_of : (c : ℕ) → Case c
case_of c = elim (cases_Bool (c == 34)) [
  | inl quote ↦ Quote (eqb-true c 34 quote)
  | inr a ↦ elim (cases_Bool (c == 92)) [
    | inl backslash ↦ Backslash (eqb-true c 92 backslash)
    | inr b ↦ elim (cases_Bool (c == 10)) [
      | inl feed ↦ Feed (eqb-true c 10 feed)
      | inr d ↦ elim (cases_Bool (c == 13)) [ inl return ↦ Return (eqb-true c 13 return) | inr e ↦ Other a b d e ]
    ]
  ]
]

itself : (c : ℕ) → c == 34 ≡ false → c == 92 ≡ false → c == 10 ≡ false → c == 13 ≡ false → escaped c ≡ c ∷ []
itself c a b d e = rw (a, b, d, e) refl

-- A character above ASCII is as it is.
above : (c : ℕ) → 128 ≤ c → escaped c ≡ c ∷ []
above c high =
    itself c (no_one 34 (omega arith) c high) (no_one 92 (omega arith) c high) (no_one 10 (omega arith) c high) (no_one 13 (omega arith) c high)

-- ---- the value

plain_goes : (c : ℕ) → c == 34 ≡ false → c == 92 ≡ false → c == 13 ≡ false → string_step of.Chars Plain c ≡ Go Plain
unfolding string_step
plain_goes c a b e = rw (a, b, e) refl

plain_adds : (c : ℕ) → c == 92 ≡ false → adds Plain c ≡ c ∷ []
unfolding adds
plain_adds c b = rw b refl

value_step : (s t : InString) (c : ℕ) (cs : List ℕ) → string_step of.Chars s c ≡ Go t → string_value s (c ∷ cs) ≡ adds s c ++ string_value t cs
unfolding string_value
value_step s t c cs e =
    ap (λ (m : Next InString). elim m [ Go u ↦ adds s c ++ string_value u cs | End ↦ [] | Bad ↦ [] ]) e

-- What follows the escape of a character is read as if it stood alone, and the value has the character before it.
record Passes (c : ℕ) (rest : List ℕ) : Type 0 where
  runs : run (string_step of.Chars) Plain (escaped c ++ rest) ≡ run (string_step of.Chars) Plain rest
  value : string_value Plain (escaped c ++ rest) ≡ c ∷ string_value Plain rest

turned : string_step of.Chars Plain 92 ≡ Go Turned
unfolding string_step
turned = refl

module _ (rest : List ℕ) where
  -- a backslash, and a character that names another one
  by_escape : (d c : ℕ) → string_step of.Chars Turned d ≡ Go Plain → adds Plain 92 ++ (adds Turned d ++ []) ≡ c ∷ []
      → escaped c ≡ 92 ∷ d ∷ [] → Passes c rest
  by_escape d c goes says is = record {
    runs =
        ap (λ (cs : List ℕ). run (string_step of.Chars) Plain (cs ++ rest)) is
        ∙ run-step (string_step of.Chars) Plain 92 (d ∷ rest) (Go Turned) turned
        ∙ run-step (string_step of.Chars) Turned d rest (Go Plain) goes;
    value =
        ap (λ (cs : List ℕ). string_value Plain (cs ++ rest)) is
        ∙ value_step Plain Turned 92 (d ∷ rest) turned
        ∙ ap (λ (cs : List ℕ). adds Plain 92 ++ cs) (value_step Turned Plain d rest goes)
        ∙ sym (append_assoc (adds Plain 92) (adds Turned d) (string_value Plain rest))
        ∙ ap (λ (cs : List ℕ). cs ++ string_value Plain rest) (ap (λ (cs : List ℕ). adds Plain 92 ++ cs) (sym (append-nil (adds Turned d))) ∙ says);
  }

  passes : (c : ℕ) → Passes c rest
  unfolding string_step escape_step adds
  passes c = elim (case_of c) [
    | Quote e ↦ subst (λ (x : ℕ). Passes x rest) (sym e) (by_escape 34 34 refl refl refl)
    | Backslash e ↦ subst (λ (x : ℕ). Passes x rest) (sym e) (by_escape 92 92 refl refl refl)
    | Feed e ↦ subst (λ (x : ℕ). Passes x rest) (sym e) (by_escape 110 10 refl refl refl)
    | Return e ↦ subst (λ (x : ℕ). Passes x rest) (sym e) (by_escape 114 13 refl refl refl)
    | Other a b d e ↦ record {
      runs =
          ap (λ (cs : List ℕ). run (string_step of.Chars) Plain (cs ++ rest)) (itself c a b d e)
          ∙ run-step (string_step of.Chars) Plain c rest (Go Plain) (plain_goes c a b e);
      value =
          ap (λ (cs : List ℕ). string_value Plain (cs ++ rest)) (itself c a b d e)
          ∙ value_step Plain Plain c rest (plain_goes c a b e)
          ∙ ap (λ (cs : List ℕ). cs ++ string_value Plain rest) (plain_adds c b);
    }
  ]

-- what follows the opening quote
abbrev inside : List ℕ → List ℕ
inside cs = flat_map escaped cs ++ codes "\""

ended_run : run (string_step of.Chars) Plain (codes "\"") ≡ Some []
unfolding string_step
ended_run = run-step (string_step of.Chars) Plain 34 [] End refl

ended_value : string_value Plain (codes "\"") ≡ []
unfolding string_value string_step
ended_value = refl

runs_on : (cs : List ℕ) → run (string_step of.Chars) Plain (inside cs) ≡ Some []
runs_on [] = ended_run
runs_on (c ∷ cs) =
    ap (run (string_step of.Chars) Plain) (append_assoc (escaped c) (flat_map escaped cs) (codes "\""))
    ∙ (passes (inside cs) c).runs ∙ runs_on cs

valued : (cs : List ℕ) → string_value Plain (inside cs) ≡ cs
valued [] = ended_value
valued (c ∷ cs) =
    ap (string_value Plain) (append_assoc (escaped c) (flat_map escaped cs) (codes "\""))
    ∙ (passes (inside cs) c).value ∙ ap (λ (ds : List ℕ). c ∷ ds) (valued cs)

-- ---- its bytes

flat_both : (xs ys : List ℕ) → flat_map escaped (xs ++ ys) ≡ flat_map escaped xs ++ flat_map escaped ys
flat_both [] ys = refl
flat_both (x ∷ xs) ys =
    ap (λ (l : List ℕ). escaped x ++ l) (flat_both xs ys) ∙ sym (append_assoc (escaped x) (flat_map escaped xs) (flat_map escaped ys))

high_bytes : (bs : List ℕ) → list_all is_high bs ≡ true → flat_map escaped bs ≡ bs
high_bytes [] h = refl
high_bytes (b ∷ bs) h =
    let parts = and_parts (is_high b) (list_all is_high bs) h in
    ap (λ (l : List ℕ). l ++ flat_map escaped bs) (above b (high_le b parts.0)) ∙ ap (λ (l : List ℕ). b ∷ l) (high_bytes bs parts.1)

abbrev is_low : ℕ → Bool
is_low c = nat_lt c 128

low_bytes : (cs : List ℕ) → ((c : ℕ) → c < 128 → encode c ≡ c ∷ []) → list_all is_low cs ≡ true → encode_utf8_all cs ≡ cs
low_bytes [] one h = refl
low_bytes (c ∷ cs) one h =
    let parts = and_parts (is_low c) (list_all is_low cs) h in
    ap (λ (l : List ℕ). l ++ encode_utf8_all cs) (one c (ltb-true c 128 parts.0)) ∙ ap (λ (l : List ℕ). c ∷ l) (low_bytes cs one parts.1)

low_escape : (c : ℕ) → c < 128 → list_all is_low (escaped c) ≡ true
low_escape c low = elim (case_of c) [
  | Quote e ↦ subst (λ (x : ℕ). list_all is_low (escaped x) ≡ true) (sym e) refl
  | Backslash e ↦ subst (λ (x : ℕ). list_all is_low (escaped x) ≡ true) (sym e) refl
  | Feed e ↦ subst (λ (x : ℕ). list_all is_low (escaped x) ≡ true) (sym e) refl
  | Return e ↦ subst (λ (x : ℕ). list_all is_low (escaped x) ≡ true) (sym e) refl
  | Other a b d e ↦ ap (list_all is_low) (itself c a b d e) ∙ and_from (is_low c) true (lt-ltb c 128 low) refl
]

-- The bytes of a character are escaped as the character is.
escape_bytes : (c : ℕ) → flat_map escaped (encode c) ≡ encode_utf8_all (escaped c)
escape_bytes c = elim (bytes_of c) [
  | Own low is ↦
      ap (flat_map escaped) is ∙ append-nil (escaped c) ∙ sym (low_bytes (escaped c) encode_ascii (low_escape c low))
  | Above high b bs one more is ↦
      ap (flat_map escaped) is ∙ high_bytes (b ∷ bs) (and_from (is_high b) (list_all is_high bs) one more)
      ∙ sym is ∙ sym (append-nil (encode c)) ∙ ap encode_utf8_all (sym (above c high))
]

escape_all : (cs : List ℕ) → flat_map escaped (encode_utf8_all cs) ≡ encode_utf8_all (flat_map escaped cs)
escape_all [] = refl
escape_all (c ∷ cs) =
    flat_both (encode c) (encode_utf8_all cs)
    ∙ ap (λ (l : List ℕ). l ++ flat_map escaped (encode_utf8_all cs)) (escape_bytes c)
    ∙ ap (λ (l : List ℕ). encode_utf8_all (escaped c) ++ l) (escape_all cs)
    ∙ sym (encodes-append (escaped c) (flat_map escaped cs))

scalar_escape : (c : ℕ) → scalar c ≡ true → scalars (escaped c) ≡ true
scalar_escape c h = elim (case_of c) [
  | Quote e ↦ subst (λ (x : ℕ). scalars (escaped x) ≡ true) (sym e) refl
  | Backslash e ↦ subst (λ (x : ℕ). scalars (escaped x) ≡ true) (sym e) refl
  | Feed e ↦ subst (λ (x : ℕ). scalars (escaped x) ≡ true) (sym e) refl
  | Return e ↦ subst (λ (x : ℕ). scalars (escaped x) ≡ true) (sym e) refl
  | Other a b d e ↦ ap scalars (itself c a b d e) ∙ and_from (scalar c) true h refl
]

both_scalars : (xs ys : List ℕ) → scalars xs ≡ true → scalars ys ≡ true → scalars (xs ++ ys) ≡ true
both_scalars [] ys h g = g
both_scalars (x ∷ xs) ys h g =
    let parts = and_parts (scalar x) (scalars xs) h in and_from (scalar x) (scalars (xs ++ ys)) parts.0 (both_scalars xs ys parts.1 g)

scalar_escapes : (cs : List ℕ) → scalars cs ≡ true → scalars (flat_map escaped cs) ≡ true
scalar_escapes [] h = refl
scalar_escapes (c ∷ cs) h =
    let parts = and_parts (scalar c) (scalars cs) h in
    both_scalars (escaped c) (flat_map escaped cs) (scalar_escape c parts.0) (scalar_escapes cs parts.1)

-- ---- the literal of a text

module _ (text : List ℕ) (utf8 : IsUtf8 text) where
  -- its characters
  abbrev literal : List ℕ
  literal = 34 ∷ inside (chars text)

  literal_scalars : scalars literal ≡ true
  literal_scalars = and_from (scalar 34) (scalars (inside (chars text))) refl (both_scalars (flat_map escaped (chars text)) (codes "\"") (scalar_escapes (chars text) (scalars-chars text utf8)) refl)

  literal_bytes : encode_utf8_all literal ≡ string_text text
  literal_bytes =
      ap (λ (l : List ℕ). l ++ encode_utf8_all (inside (chars text))) (encode_ascii 34 (omega arith))
      ∙ ap (λ (l : List ℕ). 34 ∷ l)
      (encodes-append (flat_map escaped (chars text)) (codes "\"")
      ∙ ap (λ (l : List ℕ). l ++ encode_utf8_all (codes "\"")) (sym (escape_all (chars text)) ∙ ap (flat_map escaped) (encodes-chars text utf8))
      ∙ ap (λ (l : List ℕ). flat_map escaped text ++ l) (ap (λ (l : List ℕ). l ++ []) (encode_ascii 34 (omega arith))))

  literal_chars : chars (string_text text) ≡ literal
  literal_chars = ap chars (sym literal_bytes) ∙ chars-encodes literal literal_scalars

  pub literal_utf8 : is_utf8 (string_text text) ≡ true
  literal_utf8 = is_utf8-from_IsUtf8 (string_text text) (literal, (literal_scalars, literal_bytes))

  whole : after_literal Str (chars (string_text text)) ≡ Some []
  unfolding after_literal
  whole = ap (after_literal Str) literal_chars ∙ runs_on (chars text)

  -- It is a string literal without suffix,
  pub literal_piece : is_text_of Str (string_text text) ≡ true
  unfolding is_text_of has_form
  literal_piece = and_from (is_utf8 (string_text text)) (has_form Str (chars (string_text text))) literal_utf8 (ap is_literal_end whole)

  -- and its value is the text.
  pub literal_value : value_of Str (chars (string_text text)) ≡ Some (chars text)
  literal_value =
      rw (whole) (ap Some (ap (λ (cs : List ℕ). string_value Plain (drop 1 cs)) literal_chars ∙ valued (chars text)))
