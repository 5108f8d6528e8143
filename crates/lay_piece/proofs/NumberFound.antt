-- The scan is complete for numbers: it finds each one that `Had` accepts.
use Rattle.std.proofs.Common.{◌≡◌, inl, inr, ℕ, List, [], ◌∷◌, ◌++◌, Bool, true, false, cond, not, ◌&&◌, ◌||◌, Some, sym, refl, ap, ◌∙◌, subst, drop}
use Rattle.std.specs.Prelude.{◌==◌, option_and_then}
use Rattle.std.specs.List.{list_all}
use Rattle.std.specs.Char.{is_ascii_digit}
use Rattle.std.proofs.lemmas.Bool.{cases_Bool, and_parts, and_from, or_cases, ne_eqb, not-true}
use Rattle.unicode_ident.proofs.Computing.{unicode_ident}
use Rattle.lay_piece.specs.Chars.{begins, front, after, behind, is_nil, is_suffix, starts_word, in_word, in_digits, in_hex}
use Rattle.lay_piece.specs.Number.{base_of, digits_of, in_run, is_run_in, is_exponent_letter, is_sign, is_any_suffix, is_plain_suffix, is_int_suffix, is_int, is_exponent_run, is_signed_run, is_exponent, is_fraction, is_float_tail, is_decimal, is_float, ends_in_point, is_bare_int, begins_point, is_index, fronts_index}
use Rattle.lay_piece.specs.Forms.{had, Had, has_form, may_precede, is_number_kind, is_int_kind}
use Rattle.lay_piece.specs.Found.{found, after_run, suffixed, exponent_run, exponent, fraction, whole, plain_number, number, front_of}
use Rattle.lay_piece.specs.declared.piece.numbers.Base.{Base}
use Rattle.lay_piece.specs.declared.piece.numbers.Base.TheVariants.{Binary, Octal, Decimal, Hexadecimal}
use Rattle.lay_piece.specs.declared.kind.Kind.{Kind}
use Rattle.lay_piece.specs.declared.kind.Kind.TheVariants.{Int, Float}
use Rattle.lay_piece.proofs.Fronts.{after-append, after-more, front-more, each-front, after-stops}
use Rattle.lay_piece.proofs.Literals.{starts_in}
use Rattle.lay_piece.proofs.Complete.{starts_apart, no_starts, underscore_starts}
use Rattle.lay_piece.proofs.Booleans.{equal_both, apart_both}
use Rattle.lay_piece.proofs.Characters.{run_in_word, digit_parts, letter_parts, begins_in, no_word}
use Rattle.lay_piece.proofs.NumberRuns.{run_is}

no_letter : (r : List ℕ) → begins in_word r ≡ false → begins is_exponent_letter r ≡ false
no_letter r h = begins_in is_exponent_letter in_word r (λ c e. (letter_parts c e).1) h

no_run : (b : Base) (r : List ℕ) → begins in_word r ≡ false → begins (in_run b) r ≡ false
no_run b r h = begins_in (in_run b) in_word r (run_in_word b) h

-- suffixes
pub suffix_found : (k : Kind) (q r : List ℕ) → is_any_suffix q ≡ true → begins in_word r ≡ false
    → suffixed k (q ++ r) ≡ found k r
suffix_found k [] r h m = rw (no_word r m, m) refl
suffix_found k (c ∷ q) r h m =
    let form = and_parts (starts_word c && list_all in_word q) _ h in
    let word = and_parts (starts_word c) (list_all in_word q) form.0 in
    rw (word.0, starts_in c word.0, after-append in_word q r word.1 m) refl

any_from : (q : List ℕ) → is_plain_suffix q ≡ true → is_any_suffix q ≡ true
any_from [] h = refl
any_from (c ∷ q) h = (and_parts (is_suffix (c ∷ q)) _ h).0

plain_no_letter : (q r : List ℕ) → is_plain_suffix q ≡ true → begins in_word r ≡ false
    → begins is_exponent_letter (q ++ r) ≡ false
plain_no_letter [] r h m = no_letter r m
plain_no_letter (c ∷ q) r h m = not-true (is_exponent_letter c) (and_parts (is_suffix (c ∷ q)) _ h).1

-- exponents
run_found : (b : Base) (x r : List ℕ) → is_run_in b (front (in_run b) x) ≡ true → begins (in_run b) r ≡ false
    → after_run b (x ++ r) ≡ Some (after (in_run b) x ++ r)
run_found b x r e h = run_is b (x ++ r) ∙ (rw (front-more (in_run b) x r h, after-more (in_run b) x r h, e) refl)

exponent_run_found : (x r : List ℕ) → is_exponent_run x ≡ true → begins in_word r ≡ false
    → exponent_run (x ++ r) ≡ found Float r
exponent_run_found x r h m =
    let parts = and_parts (is_run_in Decimal (front in_digits x)) _ h in
    ap (option_and_then (suffixed Float)) (run_found Decimal x r parts.0 (no_run Decimal r m))
    ∙ suffix_found Float (after in_digits x) r parts.1 m

signed_found : (x r : List ℕ) → is_signed_run x ≡ true → begins in_word r ≡ false
    → exponent (x ++ r) ≡ found Float r
signed_found [] r h m = cc
signed_found (c ∷ x) r h m = by_case (is_sign c) h
  where
    by_case : (b : Bool) → cond b (is_exponent_run x) (is_exponent_run (c ∷ x)) ≡ true
        → cond b (exponent_run (x ++ r)) (exponent_run (c ∷ x ++ r)) ≡ found Float r
    by_case true h = exponent_run_found x r h m
    by_case false h = exponent_run_found (c ∷ x) r h m

fraction_found : (g r : List ℕ) → is_plain_suffix g || is_exponent g ≡ true → begins in_word r ≡ false
    → fraction (g ++ r) ≡ found Float r
fraction_found g r h m =
    elim (or_cases _ _ h) [
      | inl e ↦
          (rw (plain_no_letter g r e m) (suffix_found Float g r (any_from g e) m))
      | inr e ↦ by_letter g e
    ]
  where
    by_letter : (g : List ℕ) → is_exponent g ≡ true → fraction (g ++ r) ≡ found Float r
    by_letter [] e = cc
    by_letter (c ∷ g) e =
        let parts = and_parts (is_exponent_letter c) _ e in rw parts.0 (signed_found g r parts.1 m)

-- a point
point_parts : (r : List ℕ) → not (begins (λ c. is_ascii_digit c || c == 46 || starts_word c) r) ≡ true
    → (begins is_ascii_digit r ≡ false) × (begins (λ d. d == 46 || starts_word d) r ≡ false)
    × (begins starts_word r ≡ false)
point_parts [] h = (refl, refl, refl)
point_parts (c ∷ r) h = by_case (is_ascii_digit c) (c == 46) (starts_word c) h
  where
    by_case : (a b d : Bool) → not (a || b || d) ≡ true → (a ≡ false) × (b || d ≡ false) × (d ≡ false)
    by_case true b d h = cc
    by_case false true d h = cc
    by_case false false true h = cc
    by_case false false false h = (refl, refl, refl)

-- what may follow a Float with this after its whole part
abbrev pub float_may_stop : List ℕ → List ℕ → Bool
float_may_stop q r = cond (behind false (46 ∷ []) is_nil q)
    (not (begins (λ c. is_ascii_digit c || c == 46 || starts_word c) r)) (not (begins in_word r))

lone_point : (b : Base) (c : ℕ) (r : List ℕ) → is_decimal b ≡ true → c == 46 ≡ true
    → not (begins (λ c. is_ascii_digit c || c == 46 || starts_word c) r) ≡ true → whole b (c ∷ r) ≡ found Float r
lone_point b c r d e h = let p = point_parts r h in rw (e, p.1, d, p.0) refl

point_fraction : (b : Base) (c d : ℕ) (f r : List ℕ) → is_decimal b ≡ true → c == 46 ≡ true
    → is_fraction (d ∷ f) ≡ true → begins in_word r ≡ false → whole b (c ∷ d ∷ f ++ r) ≡ found Float r
point_fraction b c d f r dec e h m =
    let parts = and_parts (is_ascii_digit d) _ h in
    let alone = digit_parts d parts.0 in
    let more : after in_digits (d ∷ f ++ r) ≡ after in_digits (d ∷ f) ++ r =
    after-more in_digits (d ∷ f) r (no_run Decimal r m) in
    let to : whole b (c ∷ d ∷ f ++ r) ≡ fraction (after in_digits (d ∷ f ++ r)) =
    rw (e, alone.1, alone.0, dec, parts.0) refl in
    to ∙ ap fraction more ∙ fraction_found (after in_digits (d ∷ f)) r parts.1 m

letter_tail : (b : Base) (c : ℕ) (q r : List ℕ) → is_decimal b ≡ true → is_exponent (c ∷ q) ≡ true
    → begins in_word r ≡ false → whole b (c ∷ q ++ r) ≡ found Float r
letter_tail b c q r d h m =
    let parts = and_parts (is_exponent_letter c) _ h in
    let alone = letter_parts c parts.0 in
    rw (alone.3, parts.0, d) (signed_found q r parts.1 m)

float_tail_found : (b : Base) (q r : List ℕ) → is_decimal b ≡ true → is_float_tail q ≡ true
    → float_may_stop q r ≡ true → whole b (q ++ r) ≡ found Float r
float_tail_found b [] r d h m = cc
float_tail_found b (c ∷ q) r d h m = elim (cases_Bool (c == 46)) [
  | inl e ↦ with_point q e (sym (ap (λ v. cond v (is_nil q || is_fraction q) (is_exponent (c ∷ q))) e) ∙ h)
      (sym (ap (λ v. cond (cond v (is_nil q) false)
      (not (begins (λ c. is_ascii_digit c || c == 46 || starts_word c) r)) (not (begins in_word r)))
      (equal_both c 46 e)) ∙ m)
  | inr e ↦
      let other : 46 == c ≡ false = apart_both c 46 e in
      letter_tail b c q r d (sym (ap (λ v. cond v (is_nil q || is_fraction q) (is_exponent (c ∷ q))) e) ∙ h)
      (not-true _ (sym (ap (λ v. cond (cond v (is_nil q) false)
      (not (begins (λ c. is_ascii_digit c || c == 46 || starts_word c) r)) (not (begins in_word r))) other)
      ∙ m))
]
  where
    with_point : (q : List ℕ) → c == 46 ≡ true → is_nil q || is_fraction q ≡ true
        → cond (is_nil q) (not (begins (λ c. is_ascii_digit c || c == 46 || starts_word c) r))
        (not (begins in_word r)) ≡ true → whole b (c ∷ q ++ r) ≡ found Float r
    with_point [] e h m = lone_point b c r d e m
    with_point (x ∷ q) e h m = point_fraction b c x q r d e h (not-true _ m)

-- an integer's suffix
int_suffix_parts : (b : Base) (q r : List ℕ) → is_int_suffix b q ≡ true → begins (in_run b) (q ++ r) ≡ false
    → begins in_word r ≡ false → (is_any_suffix q ≡ true) × (begins is_exponent_letter (q ++ r) ≡ false)
int_suffix_parts Binary q r h n m = (any_from q h, plain_no_letter q r h m)
int_suffix_parts Octal q r h n m = (any_from q h, plain_no_letter q r h m)
int_suffix_parts Decimal q r h n m = (any_from q h, plain_no_letter q r h m)
int_suffix_parts Hexadecimal q r h n m =
    (h, begins_in is_exponent_letter in_hex (q ++ r) (λ c e. (letter_parts c e).2) n)

no_point : (q r : List ℕ) → is_any_suffix q ≡ true → is_nil q && begins_point r ≡ false
    → begins_point (q ++ r) ≡ false
no_point [] r h e = e
no_point (c ∷ q) r h e =
    let word = and_parts (starts_word c) _ (and_parts (starts_word c && list_all in_word q) _ h).0 in
    let other : c == 46 ≡ false = starts_apart 46 c no_starts.4 word.0 in
    rw other refl

int_tail_found : (b : Base) (q r : List ℕ) → is_int_suffix b q ≡ true → begins (in_run b) (q ++ r) ≡ false
    → begins in_word r ≡ false → is_nil q && begins_point r ≡ false → whole b (q ++ r) ≡ found Int r
int_tail_found b q r h n m e =
    let parts = int_suffix_parts b q r h n m in
    rw (no_point q r parts.0 e, parts.1) (suffix_found Int q r parts.0 m)

-- the base
base_letters : (starts_word 120 ≡ true) × (starts_word 111 ≡ true) × (starts_word 98 ≡ true)
unfolding unicode_ident starts_word
base_letters = (refl, refl, refl)

apart : (c n : ℕ) → starts_word c ≡ false → starts_word n ≡ true → c == n ≡ false
apart c n h g = ne_eqb c n (λ e. let f : starts_word c ≡ true = ap starts_word e ∙ g in cc)

base_append : (c : ℕ) (p r : List ℕ) → begins starts_word r ≡ false → base_of (c ∷ p ++ r) ≡ base_of (c ∷ p)
base_append c (d ∷ p) r h = refl
base_append c [] [] h = refl
base_append c [] (d ∷ r) h =
    rw (apart d 120 h base_letters.0, apart d 111 h base_letters.1, apart d 98 h base_letters.2) refl

pub two_first : (b : Base) (p : List ℕ) → base_of p ≡ b → is_decimal b ≡ false
    → (c d : ℕ) × (ds : List ℕ) × (p ≡ c ∷ d ∷ ds)
two_first b [] e n = let f : is_decimal Decimal ≡ false = ap is_decimal e ∙ n in cc
two_first b (c ∷ []) e n =
    let f : is_decimal (base_of (c ∷ [])) ≡ false = ap is_decimal e ∙ n in by_case (48 == c) f
  where
    by_case : (t : Bool) → is_decimal (cond t Decimal Decimal) ≡ false
        → (x d : ℕ) × (ds : List ℕ) × (c ∷ [] ≡ x ∷ d ∷ ds)
    by_case true f = cc
    by_case false f = cc
two_first b (c ∷ d ∷ ds) e n = (c, d, ds, refl)

digits_append : (b : Base) (p r : List ℕ) → base_of p ≡ b → digits_of b (p ++ r) ≡ digits_of b p ++ r
digits_append Decimal p r e = refl
digits_append Binary p r e =
    let t =
    two_first Binary p e refl in let P : List ℕ → Type 0 = λ v. drop 2 (v ++ r) ≡ drop 2 v ++ r in
    subst P (sym t.3) refl
digits_append Octal p r e =
    let t =
    two_first Octal p e refl in let P : List ℕ → Type 0 = λ v. drop 2 (v ++ r) ≡ drop 2 v ++ r in
    subst P (sym t.3) refl
digits_append Hexadecimal p r e =
    let t =
    two_first Hexadecimal p e refl in let P : List ℕ → Type 0 = λ v. drop 2 (v ++ r) ≡ drop 2 v ++ r in
    subst P (sym t.3) refl

plain_at : (b : Base) (c : ℕ) (p r : List ℕ) → base_of (c ∷ p) ≡ b → begins starts_word r ≡ false
    → is_run_in b (front (in_run b) (digits_of b (c ∷ p))) ≡ true → begins (in_run b) r ≡ false
    → plain_number (c ∷ p ++ r) ≡ whole b (after (in_run b) (digits_of b (c ∷ p)) ++ r)
plain_at b c p r e s h n =
    ap (λ v. option_and_then (whole v) (after_run v (digits_of v (c ∷ p ++ r)))) (base_append c p r s ∙ e)
    ∙ ap (λ x. option_and_then (whole b) (after_run b x)) (digits_append b (c ∷ p) r e)
    ∙ ap (option_and_then (whole b)) (run_found b (digits_of b (c ∷ p)) r h n)

plain_int : (b : Base) (c : ℕ) (p r : List ℕ) → base_of (c ∷ p) ≡ b → is_int (c ∷ p) ≡ true
    → begins in_word r ≡ false → is_bare_int (c ∷ p) && begins_point r ≡ false
    → plain_number (c ∷ p ++ r) ≡ found Int r
plain_int b c p r e h m pt =
    let at : (is_ascii_digit c && is_run_in b (front (in_run b) (digits_of b (c ∷ p)))
    && is_int_suffix b (after (in_run b) (digits_of b (c ∷ p)))) ≡ true =
    sym (ap (λ v. is_ascii_digit c && is_run_in v (front (in_run v) (digits_of v (c ∷ p)))
    && is_int_suffix v (after (in_run v) (digits_of v (c ∷ p)))) e) ∙ h in
    let parts = and_parts (is_ascii_digit c && is_run_in b (front (in_run b) (digits_of b (c ∷ p)))) _ at in
    let runs = and_parts (is_ascii_digit c) _ parts.0 in
    let bare : is_nil (after (in_run b) (digits_of b (c ∷ p))) && begins_point r ≡ false =
    sym (ap (λ v. is_nil (after (in_run v) (digits_of v (c ∷ p))) && begins_point r) e) ∙ pt in
    let ends : begins (in_run b) (after (in_run b) (digits_of b (c ∷ p)) ++ r) ≡ false =
    ap (begins (in_run b)) (sym (after-more (in_run b) (digits_of b (c ∷ p)) r (no_run b r m)))
    ∙ after-stops (in_run b) (digits_of b (c ∷ p) ++ r) in
    plain_at b c p r e (no_word r m) runs.1 (no_run b r m)
    ∙ int_tail_found b (after (in_run b) (digits_of b (c ∷ p))) r parts.1 ends m bare

-- floats
pub decimal_is : (b : Base) → is_decimal b ≡ true → b ≡ Decimal
decimal_is Decimal h = refl
decimal_is Binary h = cc
decimal_is Octal h = cc
decimal_is Hexadecimal h = cc

digits_of_run : (c : ℕ) (p : List ℕ) → is_ascii_digit c ≡ true → is_run_in Decimal (front in_digits (c ∷ p)) ≡ true
digits_of_run c p h =
    let goes : in_digits c ≡ true = (digit_parts c h).2 in
    let all : list_all in_digits (front in_digits (c ∷ p)) ≡ true = each-front in_digits (c ∷ p) in
    and_from _ _ (rw (goes, h) refl) all

float_rest : (t : Bool) (r : List ℕ)
    → cond t (not (begins (λ c. is_ascii_digit c || c == 46 || starts_word c) r)) (not (begins in_word r)) ≡ true
    → (begins starts_word r ≡ false) × (begins in_digits r ≡ false) × (begins is_ascii_digit r ≡ false)
float_rest false r h =
    let m = not-true (begins in_word r) h in
    let n = no_run Decimal r m in
    (no_word r m, n, begins_in is_ascii_digit in_digits r (λ c e. (digit_parts c e).2) n)
float_rest true [] h = (refl, refl, refl)
float_rest true (c ∷ r) h =
    let p = point_parts (c ∷ r) h in
    let other : c == 95 ≡ false = apart c 95 p.2 underscore_starts in
    (p.2, (rw (p.0, other) refl), p.0)

plain_float : (c : ℕ) (p r : List ℕ) → is_float (c ∷ p) ≡ true → may_precede Float (c ∷ p) r ≡ true
    → plain_number (c ∷ p ++ r) ≡ found Float r
unfolding may_precede
plain_float c p r h m =
    let parts = and_parts (is_ascii_digit c && is_decimal (base_of (c ∷ p))) _ h in
    let first = and_parts (is_ascii_digit c) _ parts.0 in
    let rest = float_rest (ends_in_point (c ∷ p)) r m in
    plain_at Decimal c p r (decimal_is _ first.1) rest.0 (digits_of_run c p first.0) rest.1
    ∙ float_tail_found Decimal (after in_digits (c ∷ p)) r refl parts.1 m

pub no_digit : (r : List ℕ) → begins in_word r ≡ false → begins is_ascii_digit r ≡ false
no_digit r h = begins_in is_ascii_digit in_word r (λ c e. run_in_word Decimal c (digit_parts c e).2) h

-- An index is told by what follows its digits.
all_after : (p : ℕ → Bool) (x : List ℕ) → list_all p x ≡ true → after p x ≡ []
all_after p [] h = refl
all_after p (c ∷ x) h = let a = and_parts (p c) (list_all p x) h in rw a.0 (all_after p x a.1)

some_after : (p q : ℕ → Bool) (x r : List ℕ) → list_all p x ≡ false
    → begins q (after p x ++ r) ≡ begins q (after p x)
some_after p q [] r h = cc
some_after p q (c ∷ x) r h = elim (cases_Bool (p c)) [
  | inl e ↦ let f : list_all p x ≡ false = sym (ap (λ v. v && list_all p x) e) ∙ h in rw e (some_after p q x r f)
  | inr e ↦ rw e refl
]

pub fronts_is : (p r : List ℕ) → begins is_ascii_digit r ≡ false
    → cond (list_all is_ascii_digit p) (begins in_word r)
    (begins in_word (after is_ascii_digit p)) ≡ begins in_word (after is_ascii_digit (p ++ r))
fronts_is p r h = elim (cases_Bool (list_all is_ascii_digit p)) [
  | inl e ↦ rw (e, after-more is_ascii_digit p r h, all_after is_ascii_digit p e) refl
  | inr e ↦ rw (e, after-more is_ascii_digit p r h) (sym (some_after is_ascii_digit in_word p r e))
]

same_test : (n d x y i : Bool) → n ≡ true → d ≡ true → x ≡ y → (n && i && (d && not x)) ≡ (i && not y)
same_test n d x y i e f g = rw (e, f, g) refl

-- what a number is, told from the text
pub had-number : (k : Kind) (p r : List ℕ) (i : Bool) → is_number_kind k ≡ true → begins is_ascii_digit p ≡ true
    → begins is_ascii_digit r ≡ false
    → had k p r i ≡ cond (i && not (begins in_word (after is_ascii_digit (p ++ r))))
    (is_int_kind k && is_index p && not (begins in_word r)) (has_form k p && may_precede k p r)
unfolding had
had-number k p r i n d h =
    ap (λ v. cond v (is_int_kind k && is_index p && not (begins in_word r)) (has_form k p && may_precede k p r))
    (same_test (is_number_kind k) (begins is_ascii_digit p) _ _ i n d (fronts_is p r h))

-- what every number that is had meets
digit_first : (k : Kind) (p r : List ℕ) (i : Bool) → is_number_kind k ≡ true → Had k p r i
    → (begins is_ascii_digit p ≡ true) × (begins is_ascii_digit r ≡ false)
unfolding had has_form may_precede
digit_first Int p r i n h = by_case (true && i && fronts_index p r) h
  where
    by_case : (t : Bool) → cond t (is_index p && not (begins in_word r))
        (is_int p && (not (begins in_word r) && not (is_bare_int p && begins_point r))) ≡ true
        → (begins is_ascii_digit p ≡ true) × (begins is_ascii_digit r ≡ false)
    by_case true h =
        let parts = and_parts (is_index p) _ h in
        ((and_parts (begins is_ascii_digit p) _ parts.0).0, no_digit r (not-true (begins in_word r) parts.1))
    by_case false h =
        let parts = and_parts (is_int p) _ h in (
          (and_parts (begins is_ascii_digit p) _
              (and_parts (begins is_ascii_digit p
              && is_run_in (base_of p) (front (in_run (base_of p)) (digits_of (base_of p) p))) _ parts.0).0).0,
          no_digit r (not-true (begins in_word r) (and_parts (not (begins in_word r)) _ parts.1).0),
        )
digit_first Float p r i n h = by_case (true && i && fronts_index p r) h
  where
    by_case : (t : Bool) → cond t (false && is_index p && not (begins in_word r))
        (is_float p && may_precede Float p r) ≡ true
        → (begins is_ascii_digit p ≡ true) × (begins is_ascii_digit r ≡ false)
    by_case true h = cc
    by_case false h =
        let parts = and_parts (is_float p) _ h in
        let first = and_parts (begins is_ascii_digit p) _
        (and_parts (begins is_ascii_digit p && is_decimal (base_of p)) _ parts.0).0 in
        (first.0, (float_rest (ends_in_point p) r parts.1).2)
digit_first _ p r i n h = cc

number_front : (i : Bool) (c : ℕ) (cs : List ℕ) → is_ascii_digit c ≡ true → front_of i (c ∷ cs) ≡ number i (c ∷ cs)
unfolding front_of
number_front i c cs h = rw ((digit_parts c h).0, h) refl

plain_had : (k : Kind) (c : ℕ) (p r : List ℕ) → is_number_kind k ≡ true
    → has_form k (c ∷ p) && may_precede k (c ∷ p) r ≡ true → plain_number (c ∷ p ++ r) ≡ found k r
unfolding has_form may_precede
plain_had Int c p r n h =
    let parts = and_parts (is_int (c ∷ p)) _ h in
    let stops = and_parts (not (begins in_word r)) _ parts.1 in
    plain_int (base_of (c ∷ p)) c p r refl parts.0 (not-true _ stops.0) (not-true _ stops.1)
plain_had Float c p r n h = let parts = and_parts (is_float (c ∷ p)) _ h in plain_float c p r parts.0 parts.1
plain_had _ c p r n h = cc

index_had : (k : Kind) (p r : List ℕ) → is_number_kind k ≡ true
    → is_int_kind k && is_index p && not (begins in_word r) ≡ true
    → found Int (after is_ascii_digit (p ++ r)) ≡ found k r
index_had Int p r n h =
    let parts = and_parts (is_index p) _ h in
    ap (found Int) (after-append is_ascii_digit p r (and_parts (begins is_ascii_digit p) _ parts.0).1
    (no_digit r (not-true (begins in_word r) parts.1)))
index_had _ p r n h = cc

pub number_found : (k : Kind) (p r : List ℕ) (i : Bool) → is_number_kind k ≡ true → Had k p r i
    → front_of i (p ++ r) ≡ found k r
number_found k [] r i n h = let d = digit_first k [] r i n h in let e : false ≡ true = d.0 in cc
number_found k (c ∷ p) r i n h =
    let d = digit_first k (c ∷ p) r i n h in
    number_front i c (p ++ r) d.0
    ∙ by_case (i && not (begins in_word (after is_ascii_digit (c ∷ p ++ r))))
    (sym (had-number k (c ∷ p) r i n d.0 d.1) ∙ h)
  where
    by_case : (t : Bool) → cond t (is_int_kind k && is_index (c ∷ p) && not (begins in_word r))
        (has_form k (c ∷ p) && may_precede k (c ∷ p) r) ≡ true
        → cond t (found Int (after is_ascii_digit (c ∷ p ++ r))) (plain_number (c ∷ p ++ r)) ≡ found k r
    by_case true h = index_had k (c ∷ p) r n h
    by_case false h = plain_had k c p r n h
