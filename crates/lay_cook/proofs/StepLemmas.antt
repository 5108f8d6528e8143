-- Cooking of strings, character by character.
use Rattle.std.proofs.Common.{◌≡◌, ◌≢◌, inl, inr, ℕ, List, [], ◌∷◌, ◌++◌, Bool, true, false, cond, Some, None, sym, refl, ap, ◌∙◌, subst, append_assoc}
use Rattle.std.specs.Prelude.{◌==◌}
use Rattle.std.specs.Str.{encode_utf8_all}
use Rattle.std.proofs.lemmas.Str.{encodes-append}
use Rattle.std.proofs.lemmas.Bool.{cases_Bool, or_parts, not-true, eqb-true, ne_eqb}
use Rattle.lay_piece.specs.Chars.{begins, after, front}
use Rattle.lay_piece.specs.Scan.{Next, Go, End, Bad, run}
use Rattle.lay_piece.specs.Quoted.{InString, Plain, Turned, Escape, Skip, Hex, Open, string_step, escape_step, is_plain, is_short_escape, is_skipped}
use Rattle.lay_piece.specs.Value.{adds, short_escape, string_value}
use Rattle.lay_piece.specs.declared.piece.quoted.Contents.TheVariants as of
use Rattle.lay_piece.proofs.Runs.{run-nil, run-step, string_skip}
use Rattle.lay_piece.proofs.Fronts.{after-stops}
use Rattle.lay_cook.specs.Steps.{Closes, Reads, is_unmarked}

-- The string goes on after a character, which adds this to the value.
pub record Goes (s : InString) (c : ℕ) (cs : List ℕ) (said : List ℕ) (t : InString) : Type 0 where
  pub value : string_value s (c ∷ cs) ≡ said ++ string_value t cs
  pub closes : Closes t cs

pub value_nil : (s : InString) → string_value s [] ≡ []
unfolding string_value
value_nil s = refl

value_step : (s : InString) (c : ℕ) (cs : List ℕ) (n : Next InString) → string_step of.Chars s c ≡ n
    → string_value s (c ∷ cs) ≡ elim n [ Go t ↦ adds s c ++ string_value t cs | End ↦ [] | Bad ↦ [] ]
unfolding string_value
value_step s c cs n e =
    ap (λ (m : Next InString). elim m [ Go t ↦ adds s c ++ string_value t cs | End ↦ [] | Bad ↦ [] ]) e

pub goes : (s t : InString) (c : ℕ) (cs said : List ℕ) → string_step of.Chars s c ≡ Go t → adds s c ≡ said
    → Closes s (c ∷ cs) → Goes s c cs said t
goes s t c cs said e a h = record {
  value = value_step s c cs (Go t) e ∙ ap (λ l. l ++ string_value t cs) a;
  closes = sym (run-step (string_step of.Chars) s c cs (Go t) e) ∙ h;
}

pub stays : (s : InString) (c : ℕ) (cs : List ℕ) → string_step of.Chars s c ≡ Bad → Closes s (c ∷ cs) → ⊥
stays s c cs e h =
    let f : None ≡ Some [] = sym (run-step (string_step of.Chars) s c cs Bad e) ∙ h in cc

pub not_empty : (s : InString) (cs : List ℕ) → Closes s cs → cs ≢ []
not_empty s cs h e =
    let f : None ≡ Some [] = sym (run-nil (string_step of.Chars) s) ∙ subst (Closes s) e h in cc

-- after a backslash
line_step : string_step of.Chars Turned 10 ≡ Go Skip
unfolding string_step
line_step = refl

hex_letter : string_step of.Chars Turned 120 ≡ Go (Escape Hex)
unfolding string_step escape_step
hex_letter = refl

open_letter : string_step of.Chars Turned 117 ≡ Go (Escape Open)
unfolding string_step escape_step
open_letter = refl

no_addition : (adds Turned 10 ≡ []) × (adds Turned 120 ≡ []) × (adds Turned 117 ≡ []) × (adds Plain 92 ≡ [])
unfolding adds
no_addition = (refl, refl, refl, refl)

pub behind_line : (cs : List ℕ) → Closes Turned (10 ∷ cs) → Goes Turned 10 cs [] Skip
behind_line cs h = goes Turned Skip 10 cs [] line_step no_addition.0 h

pub behind_x : (cs : List ℕ) → Closes Turned (120 ∷ cs) → Goes Turned 120 cs [] (Escape Hex)
behind_x cs h = goes Turned (Escape Hex) 120 cs [] hex_letter no_addition.1 h

pub behind_u : (cs : List ℕ) → Closes Turned (117 ∷ cs) → Goes Turned 117 cs [] (Escape Open)
behind_u cs h = goes Turned (Escape Open) 117 cs [] open_letter no_addition.2 h

short_step : (c : ℕ) (b : Bool) → c ≢ 10 → c ≢ 120 → c ≢ 117 → is_short_escape of.Chars c ≡ b
    → string_step of.Chars Turned c ≡ cond b (Go Plain) Bad
unfolding string_step escape_step
short_step c true l x u e = rw (ne_eqb c 10 l, e) refl
short_step c false l x u e = rw (ne_eqb c 10 l, e, ne_eqb c 120 x, ne_eqb c 117 u) refl

short_addition : (c : ℕ) → adds Turned c ≡ short_escape c
unfolding adds
short_addition c = refl

pub is_short : (c : ℕ) (cs : List ℕ) → c ≢ 10 → c ≢ 120 → c ≢ 117 → Closes Turned (c ∷ cs)
    → is_short_escape of.Chars c ≡ true
is_short c cs l x u h = elim (cases_Bool (is_short_escape of.Chars c)) [
  | inl e ↦ e
  | inr e ↦ absurd (stays Turned c cs (short_step c false l x u e) h)
]

pub behind_short : (c : ℕ) (cs : List ℕ) → c ≢ 10 → c ≢ 120 → c ≢ 117 → Closes Turned (c ∷ cs)
    → Goes Turned c cs (short_escape c) Plain
behind_short c cs l x u h =
    goes Turned Plain c cs (short_escape c) (short_step c true l x u (is_short c cs l x u h)) (short_addition c) h

-- a backslash
turn_step : string_step of.Chars Plain 92 ≡ Go Turned
unfolding string_step
turn_step = refl

pub turned : (cs : List ℕ) → Closes Plain (92 ∷ cs) → Goes Plain 92 cs [] Turned
turned cs h = goes Plain Turned 92 cs [] turn_step no_addition.3 h

-- what a backslash before an LF skips
skip_addition : (c : ℕ) → is_skipped c ≡ true → adds Skip c ≡ []
unfolding adds
skip_addition c e = rw e refl

skip_step : (c : ℕ) → is_skipped c ≡ true → string_step of.Chars Skip c ≡ Go Skip
unfolding string_step
skip_step c e = rw e refl

skip_same : (c : ℕ) → is_skipped c ≡ false
    → (string_step of.Chars Skip c ≡ string_step of.Chars Plain c) × (adds Skip c ≡ adds Plain c)
unfolding string_step adds
skip_same c e = (rw e refl, rw e refl)

same_value : (s t : InString) (c : ℕ) (cs : List ℕ) → string_step of.Chars s c ≡ string_step of.Chars t c
    → adds s c ≡ adds t c → string_value s (c ∷ cs) ≡ string_value t (c ∷ cs)
same_value s t c cs e a =
    value_step s c cs (string_step of.Chars t c) e
    ∙ ap (λ said. elim (string_step of.Chars t c) [ Go u ↦ said ++ string_value u cs | End ↦ [] | Bad ↦ [] ]) a
    ∙ sym (value_step t c cs (string_step of.Chars t c) refl)

pub value_skip : (cs : List ℕ) → string_value Skip cs ≡ string_value Plain (after is_skipped cs)
value_skip [] = value_nil Skip ∙ sym (value_nil Plain)
value_skip (c ∷ cs) = elim (cases_Bool (is_skipped c)) [
  | inl e ↦ value_step Skip c cs (Go Skip) (skip_step c e)
      ∙ ap (λ l. l ++ string_value Skip cs) (skip_addition c e) ∙ value_skip cs ∙ sym (rw e refl)
  | inr e ↦ let s = skip_same c e in same_value Skip Plain c cs s.0 s.1 ∙ sym (rw e refl)
]

pub skipped : (cs rest : List ℕ) → Closes Skip cs → rest ≡ after is_skipped cs → Reads Skip cs [] rest
skipped cs rest h e = record {
  value = value_skip cs ∙ ap (string_value Plain) (sym e);
  closes = ap (run (string_step of.Chars) Plain) e ∙ sym (string_skip of.Chars cs) ∙ h;
}

-- the characters that stand for themselves
plain_step : (c : ℕ) (b : Bool) → is_unmarked c ≡ true → is_plain of.Chars c ≡ b
    → string_step of.Chars Plain c ≡ cond b (Go Plain) Bad
unfolding string_step
plain_step c b u e =
    let no = or_parts (c == 34) (c == 92) (not-true _ u) in rw (no.0, no.1, e) refl

plain_addition : (c : ℕ) → is_unmarked c ≡ true → adds Plain c ≡ c ∷ []
unfolding adds
plain_addition c u = let no = or_parts (c == 34) (c == 92) (not-true _ u) in rw no.1 refl

pub plain_run : (cs : List ℕ) → Closes Plain cs → Reads Plain cs (front is_unmarked cs) (after is_unmarked cs)
plain_run [] h = record { value = refl; closes = h }
plain_run (c ∷ cs) h = elim (cases_Bool (is_unmarked c)) [
  | inl u ↦ rw u (elim (cases_Bool (is_plain of.Chars c)) [
    | inl e ↦
        let g = goes Plain Plain c cs (c ∷ []) (plain_step c true u e) (plain_addition c u) h in
        let r = plain_run cs g.closes in
        record { value = g.value ∙ ap (λ l. c ∷ l) r.value; closes = r.closes }
    | inr e ↦ absurd (stays Plain c cs (plain_step c false u e) h)
  ])
  | inr u ↦ rw u (record { value = refl; closes = h })
]

-- the closing quote
quote_step : string_step of.Chars Plain 34 ≡ End
unfolding string_step
quote_step = refl

pub closed : (cs rest : List ℕ) → rest ≡ after is_unmarked cs → begins (λ d. d == 92) rest ≡ false
    → string_value Plain rest ≡ []
closed cs rest e h = go rest h (ap (begins is_unmarked) e ∙ after-stops is_unmarked cs)
  where
    go : (rest : List ℕ) → begins (λ d. d == 92) rest ≡ false → begins is_unmarked rest ≡ false
        → string_value Plain rest ≡ []
    go [] h u = value_nil Plain
    go (c ∷ cs) h u = elim (cases_Bool (c == 34)) [
      | inl e ↦ value_step Plain c cs End (ap (string_step of.Chars Plain) (eqb-true c 34 e) ∙ quote_step)
      | inr e ↦ let f : is_unmarked c ≡ true = rw (e, h) refl in cc
    ]

-- a character that says nothing, and what is read after it
pub silent : (s t : InString) (c : ℕ) (text cs said rest : List ℕ) → text ≡ c ∷ cs → Goes s c cs [] t
    → Reads t cs said rest → Reads s text said rest
silent s t c text cs said rest e g r = record {
  value = ap (string_value s) e ∙ g.value ∙ r.value;
  closes = r.closes;
}

-- a character by which the escape ends
pub last : (s : InString) (c : ℕ) (text cs said : List ℕ) → text ≡ c ∷ cs → Goes s c cs said Plain
    → Reads s text said cs
last s c text cs said e g = record { value = ap (string_value s) e ∙ g.value; closes = g.closes }

-- what is read of a string is pushed
pub pushed : (s : InString) (value said cs rest whole : List ℕ)
    → value ++ encode_utf8_all (string_value s cs) ≡ whole → Reads s cs said rest
    → (value ++ encode_utf8_all said) ++ encode_utf8_all (string_value Plain rest) ≡ whole
pushed s value said cs rest whole e r =
    append_assoc value (encode_utf8_all said) (encode_utf8_all (string_value Plain rest))
    ∙ ap (λ l. value ++ l) (sym (encodes-append said (string_value Plain rest)) ∙ ap encode_utf8_all (sym r.value)) ∙ e
