-- The scan is sound for numbers: `Had` accepts each one that it finds.
use Rattle.std.proofs.Common.{◌≡◌, ◌⊎◌, inl, inr, ℕ, List, [], ◌∷◌, ◌++◌, Bool, true, false, cond, not, ◌&&◌, ◌||◌, Option, Some, None, sym, refl, ap, ◌∙◌, subst, drop, append_assoc}
use Rattle.std.specs.Prelude.{◌==◌, option_and_then}
use Rattle.std.specs.Char.{is_ascii_digit}
use Rattle.std.proofs.lemmas.Bool.{and_parts, and_from, not-true}
use Rattle.lay_piece.specs.Chars.{begins, front, after, behind, is_nil, begins_suffix, starts_word, in_word, in_digits}
use Rattle.lay_piece.specs.Number.{base_of, digits_of, in_run, is_run_in, is_exponent_letter, is_sign, is_any_suffix, is_plain_suffix, is_int_suffix, is_int, is_exponent_run, is_signed_run, is_exponent, is_fraction, is_float_tail, is_decimal, is_float, is_bare_int, begins_point}
use Rattle.lay_piece.specs.Forms.{has_form, may_precede}
use Rattle.lay_piece.specs.Found.{FrontPiece, after_run, suffixed, exponent_run, exponent, fraction, point, whole, plain_number, number}
use Rattle.lay_piece.specs.declared.piece.numbers.Base.{Base}
use Rattle.lay_piece.specs.declared.piece.numbers.Base.TheVariants.{Binary, Octal, Decimal, Hexadecimal}
use Rattle.lay_piece.specs.declared.kind.Kind.{Kind}
use Rattle.lay_piece.specs.declared.kind.Kind.TheVariants.{Int, Float}
use Rattle.lay_piece.proofs.Fronts.{begins_left, front-after, each-front, after-stops, after-append, front-append}
use Rattle.lay_piece.proofs.Literals.{suffix_front}
use Rattle.lay_piece.proofs.Characters.{underscore_in_run, digit_parts, letter_parts, begins_in}
use Rattle.lay_piece.proofs.NumberRuns.{run_is}
use Rattle.lay_piece.proofs.NumberFound.{float_may_stop, two_first, had-number, no_digit, decimal_is}
use Rattle.lay_piece.proofs.Sound.{Stands, Sound, sound_cond}
use Rattle.lay_piece.proofs.Booleans.{or_left, or_right, equal_both, apart_both}

-- What a part of a number leaves after it, if it is found.
abbrev Ends : (Kind → List ℕ → List ℕ → Type 0) → List ℕ → FrontPiece → Type 0
Ends P cs None = Unit {0}
Ends P cs (Some f) = (q : List ℕ) × (cs ≡ q ++ f.1) × P f.0 q f.1

ends_cond : (P : Kind → List ℕ → List ℕ → Type 0) (cs : List ℕ) (b : Bool) (x y : FrontPiece) → (b ≡ true → Ends P cs x)
    → (b ≡ false → Ends P cs y) → Ends P cs (cond b x y)
ends_cond P cs true x y f g = f refl
ends_cond P cs false x y f g = g refl

ends_then : (P : Kind → List ℕ → List ℕ → Type 0) (cs : List ℕ) (f : List ℕ → FrontPiece) (o : Option (List ℕ))
    → ((r : List ℕ) → o ≡ Some r → Ends P cs (f r)) → Ends P cs (option_and_then f o)
ends_then P cs f None h = tt
ends_then P cs f (Some r) h = h r refl

ends_map : (P Q : Kind → List ℕ → List ℕ → Type 0) (pre cs : List ℕ) (x : FrontPiece)
    → ((k : Kind) (q r : List ℕ) → cs ≡ q ++ r → P k q r → Q k (pre ++ q) r) → Ends P cs x → Ends Q (pre ++ cs) x
ends_map P Q pre cs None h e = tt
ends_map P Q pre cs (Some f) h e =
    (pre ++ e.0, ap (λ l. pre ++ l) e.1 ∙ sym (append_assoc pre e.0 f.1), h f.0 e.0 f.1 e.1 e.2)

-- suffixes
record IsSuffixed (want : Kind) (k : Kind) (q r : List ℕ) : Type 0 where
  kind : k ≡ want
  form : is_any_suffix q ≡ true
  stops : begins in_word r ≡ false

suffix_start : (cs : List ℕ) → begins (λ c. c == 95) cs ≡ false → begins starts_word cs ≡ true
    → begins_suffix cs ≡ true
suffix_start [] h s = cc
suffix_start (c ∷ cs) h s = rw (h, s) refl

suffixed_ends : (k : Kind) (cs : List ℕ) → begins (λ c. c == 95) cs ≡ false → Ends (IsSuffixed k) cs (suffixed k cs)
suffixed_ends k cs h = ends_cond _ cs (begins starts_word cs) _ _
    (λ s. (
      front in_word cs,
      front-after in_word cs,
      record {
        kind = refl;
        form =
            or_right _ _ (suffix_front cs (suffix_start cs h s));
        stops = after-stops in_word cs;
      },
    ))
    (λ s. ends_cond _ cs (begins in_word cs) _ _ (λ w. tt)
    (λ w. ([], refl, record { kind = refl; form = refl; stops = w })))

-- exponents
record IsFloatPart (test : List ℕ → Bool) (k : Kind) (q r : List ℕ) : Type 0 where
  kind : k ≡ Float
  form : test q ≡ true
  stops : begins in_word r ≡ false

run_parts : (b : Base) (cs r : List ℕ) → after_run b cs ≡ Some r
    → (is_run_in b (front (in_run b) cs) ≡ true) × (r ≡ after (in_run b) cs)
run_parts b cs r h = by_case (is_run_in b (front (in_run b) cs)) (sym (run_is b cs) ∙ h)
  where
    by_case : (t : Bool) → cond t (Some (after (in_run b) cs)) None ≡ Some r
        → (t ≡ true) × (r ≡ after (in_run b) cs)
    by_case true h = (refl, let e : after (in_run b) cs ≡ r = cc in sym e)
    by_case false h = cc

no_underscore : (b : Base) (cs : List ℕ) → begins (λ c. c == 95) (after (in_run b) cs) ≡ false
no_underscore b cs = begins_in (λ c. c == 95) (in_run b) (after (in_run b) cs) (underscore_in_run b)
    (after-stops (in_run b) cs)

exponent_run_ends : (cs : List ℕ) → Ends (IsFloatPart is_exponent_run) cs (exponent_run cs)
exponent_run_ends cs = ends_then _ cs (suffixed Float) (after_run Decimal cs)
    (λ r e. go r (run_parts Decimal cs r e).0 (run_parts Decimal cs r e).1)
  where
    tail : (k : Kind) (q r : List ℕ) → is_run_in Decimal (front in_digits cs) ≡ true → after in_digits cs ≡ q ++ r
        → IsSuffixed Float k q r → IsFloatPart is_exponent_run k (front in_digits cs ++ q) r
    tail k q r run w s =
        let n : begins in_digits q ≡ false =
        begins_left in_digits q r (ap (begins in_digits) (sym w) ∙ after-stops in_digits cs) in
        record {
          kind = s.kind;
          form = rw (
            front-append in_digits (front in_digits cs) q
                (each-front in_digits cs) n,
            after-append in_digits (front in_digits cs) q
                (each-front in_digits cs) n,
          ) (and_from _ _ run s.form);
          stops = s.stops;
        }

    go : (r : List ℕ) → is_run_in Decimal (front in_digits cs) ≡ true → r ≡ after in_digits cs
        → Ends (IsFloatPart is_exponent_run) cs (suffixed Float r)
    go r run e =
        let P : List ℕ → Type 0 = λ v. Ends (IsFloatPart is_exponent_run) cs (suffixed Float v) in
        let Q : List ℕ → Type 0 = λ v. Ends (IsFloatPart is_exponent_run) v (suffixed Float (after in_digits cs)) in
        subst P (sym e) (subst Q (sym (front-after in_digits cs))
        (ends_map (IsSuffixed Float) (IsFloatPart is_exponent_run) (front in_digits cs) (after in_digits cs)
        (suffixed Float (after in_digits cs))
        (λ k q r w s. tail k q r run w s) (suffixed_ends Float (after in_digits cs) (no_underscore Decimal cs))))

-- a sign may stand before it
unsigned : (c : ℕ) (cs q r : List ℕ) → is_sign c ≡ false → c ∷ cs ≡ q ++ r → is_exponent_run q ≡ true
    → is_signed_run q ≡ true
unsigned c cs [] r n w h = cc
unsigned c cs (d ∷ q) r n w h =
    let e : d ≡ c = let f : c ≡ d = cc in sym f in let g : is_sign d ≡ false = ap is_sign e ∙ n in rw g h

exponent_ends : (cs : List ℕ) → Ends (IsFloatPart is_signed_run) cs (exponent cs)
exponent_ends [] = tt
exponent_ends (c ∷ cs) = ends_cond _ (c ∷ cs) (is_sign c) _ _
    (λ s. ends_map (IsFloatPart is_exponent_run) (IsFloatPart is_signed_run) (c ∷ []) cs _
    (λ k q r w p. record { kind = p.kind; form = rw s p.form; stops = p.stops }) (exponent_run_ends cs))
    (λ s. ends_map (IsFloatPart is_exponent_run) (IsFloatPart is_signed_run) [] (c ∷ cs) _
    (λ k q r w p. record { kind = p.kind; form = unsigned c cs q r s w p.form; stops = p.stops })
    (exponent_run_ends (c ∷ cs)))

letter_ends : (c : ℕ) (cs : List ℕ) → is_exponent_letter c ≡ true
    → Ends (IsFloatPart is_exponent) (c ∷ cs) (exponent cs)
letter_ends c cs l =
    ends_map (IsFloatPart is_signed_run) (IsFloatPart is_exponent) (c ∷ []) cs _
    (λ k q r w p. record { kind = p.kind; form = and_from _ _ l p.form; stops = p.stops }) (exponent_ends cs)

plain_from : (q r : List ℕ) → begins is_exponent_letter (q ++ r) ≡ false → is_any_suffix q ≡ true
    → is_plain_suffix q ≡ true
plain_from [] r n h = refl
plain_from (c ∷ q) r n h = and_from _ _ h (ap not n)

-- what follows the digits of a fraction
abbrev is_fraction_end : List ℕ → Bool
is_fraction_end q = is_plain_suffix q || is_exponent q

fraction_ends : (cs : List ℕ) → begins (λ c. c == 95) cs ≡ false
    → Ends (IsFloatPart is_fraction_end) cs (fraction cs)
fraction_ends cs h = ends_cond _ cs (begins is_exponent_letter cs) _ _ (λ l. by_letter cs l)
    (λ n. ends_map (IsSuffixed Float) (IsFloatPart is_fraction_end) [] cs _ (λ k q r w p. record {
      kind = p.kind;
      form = or_left _ _ (plain_from q r (ap (begins is_exponent_letter) (sym w) ∙ n) p.form);
      stops = p.stops;
    }) (suffixed_ends Float cs h))
  where
    by_letter : (cs : List ℕ) → begins is_exponent_letter cs ≡ true
        → Ends (IsFloatPart is_fraction_end) cs (exponent (drop 1 cs))
    by_letter [] l = cc
    by_letter (c ∷ cs) l = ends_map (IsFloatPart is_exponent) (IsFloatPart is_fraction_end) [] (c ∷ cs) _
        (λ k q r w p. record { kind = p.kind; form = or_right _ _ p.form; stops = p.stops }) (letter_ends c cs l)

-- what follows the whole part
record IsFloatTail (k : Kind) (q r : List ℕ) : Type 0 where
  kind : k ≡ Float
  form : is_float_tail q ≡ true
  stops : float_may_stop q r ≡ true

starts_digit : (cs q : List ℕ) → begins is_ascii_digit cs ≡ true
    → begins is_ascii_digit (front in_digits cs ++ q) ≡ true
starts_digit [] q h = cc
starts_digit (d ∷ cs) q h = rw (digit_parts d h).2 h

some_nil : (p : ℕ → Bool) (x : List ℕ) → begins p x ≡ true → is_nil x ≡ false
some_nil p [] h = cc
some_nil p (c ∷ x) h = refl

none_of : (r : List ℕ) → begins is_ascii_digit r ≡ false → begins (λ d. d == 46 || starts_word d) r ≡ false
    → not (begins (λ c. is_ascii_digit c || c == 46 || starts_word c) r) ≡ true
none_of [] d h = refl
none_of (c ∷ r) d h = by_case (is_ascii_digit c) (c == 46) (starts_word c) d h
  where
    by_case : (a b e : Bool) → a ≡ false → b || e ≡ false → not (a || b || e) ≡ true
    by_case true b e h g = cc
    by_case false true e h g = cc
    by_case false false true h g = cc
    by_case false false false h g = refl

point_ends : (c : ℕ) (cs : List ℕ) → c == 46 ≡ true → begins (λ d. d == 46 || starts_word d) cs ≡ false
    → Ends IsFloatTail (c ∷ cs) (point cs)
point_ends c cs e h = ends_cond _ (c ∷ cs) (begins is_ascii_digit cs) _ _ (λ d. digits d) (λ d. (
  c ∷ [],
  refl,
  record {
    kind = refl;
    form = rw e refl;
    stops = rw (equal_both c 46 e) (none_of cs d h);
  },
))
  where
    part : (k : Kind) (q r : List ℕ) → begins is_ascii_digit cs ≡ true → after in_digits cs ≡ q ++ r
        → IsFloatPart is_fraction_end k q r → IsFloatTail k (c ∷ (front in_digits cs ++ q)) r
    part k q r d w p =
        let n : begins in_digits q ≡ false =
        begins_left in_digits q r (ap (begins in_digits) (sym w) ∙ after-stops in_digits cs) in
        let first : begins is_ascii_digit (front in_digits cs ++ q) ≡ true = starts_digit cs q d in
        let tail : after in_digits (front in_digits cs ++ q) ≡ q =
        after-append in_digits (front in_digits cs) q (each-front in_digits cs) n in
        let frac : is_fraction (front in_digits cs ++ q) ≡ true = and_from _ _ first (rw tail p.form) in
        record {
          kind = p.kind;
          form = rw e (or_right _ _ frac);
          stops = rw (equal_both c 46 e, some_nil is_ascii_digit (front in_digits cs ++ q) first) (ap not p.stops);
        }

    digits : begins is_ascii_digit cs ≡ true → Ends IsFloatTail (c ∷ cs) (fraction (after in_digits cs))
    digits d =
        let P : List ℕ → Type 0 = λ v. Ends IsFloatTail (c ∷ v) (fraction (after in_digits cs)) in
        subst P (sym (front-after in_digits cs))
        (ends_map (IsFloatPart is_fraction_end) IsFloatTail (c ∷ front in_digits cs) (after in_digits cs)
        (fraction (after in_digits cs))
        (λ k q r w p. part k q r d w p) (fraction_ends (after in_digits cs) (no_underscore Decimal cs)))

-- what follows the digits of a number
record IsIntTail (b : Base) (k : Kind) (q r : List ℕ) : Type 0 where
  kind : k ≡ Int
  form : is_int_suffix b q ≡ true
  stops : begins in_word r ≡ false
  point : is_nil q && begins_point r ≡ false

abbrev IsNumberTail : Base → Kind → List ℕ → List ℕ → Type 0
IsNumberTail b k q r = IsIntTail b k q r ⊎ ((is_decimal b ≡ true) × IsFloatTail k q r)

int_suffix_from : (b : Base) (q r : List ℕ) → begins is_exponent_letter (q ++ r) ≡ false → is_any_suffix q ≡ true
    → is_int_suffix b q ≡ true
int_suffix_from Binary q r n h = plain_from q r n h
int_suffix_from Octal q r n h = plain_from q r n h
int_suffix_from Decimal q r n h = plain_from q r n h
int_suffix_from Hexadecimal q r n h = h

nil_point : (q r : List ℕ) → begins_point (q ++ r) ≡ false → is_nil q && begins_point r ≡ false
nil_point [] r h = h
nil_point (c ∷ q) r h = refl

exponent_tail : (k : Kind) (q r : List ℕ) → IsFloatPart is_exponent k q r → IsFloatTail k q r
exponent_tail k [] r p = let e : false ≡ true = p.form in cc
exponent_tail k (c ∷ q) r p =
    let l = letter_parts c (and_parts (is_exponent_letter c) _ p.form).0 in
    record {
      kind = p.kind;
      form = rw l.3 p.form;
      stops = rw (apart_both c 46 l.3) (ap not p.stops);
    }

whole_ends : (b : Base) (cs : List ℕ) → begins (λ c. c == 95) cs ≡ false → Ends (IsNumberTail b) cs (whole b cs)
whole_ends b cs h = ends_cond _ cs (begins_point cs) _ _
    (λ p. ends_cond _ cs (is_decimal b) _ _ (λ d. by_point cs d p) (λ d. tt))
    (λ p. ends_cond _ cs (begins is_exponent_letter cs) _ _
    (λ l. ends_cond _ cs (is_decimal b) _ _ (λ d. by_letter cs d l) (λ d. tt))
    (λ n. ends_map (IsSuffixed Int) (IsNumberTail b) [] cs _ (λ k q r w s. inl (record {
      kind = s.kind;
      form = int_suffix_from b q r (ap (begins is_exponent_letter) (sym w) ∙ n) s.form;
      stops = s.stops;
      point = nil_point q r (ap begins_point (sym w) ∙ p);
    })) (suffixed_ends Int cs h)))
  where
    by_point : (cs : List ℕ) → is_decimal b ≡ true → begins_point cs ≡ true
        → Ends (IsNumberTail b) cs (point (drop 1 cs))
    by_point [] d p = cc
    by_point (c ∷ cs) d p =
        let parts = and_parts (c == 46) _ p in
        ends_map IsFloatTail (IsNumberTail b) [] (c ∷ cs) _ (λ k q r w t. inr (d, t))
        (point_ends c cs parts.0 (not-true _ parts.1))

    by_letter : (cs : List ℕ) → is_decimal b ≡ true → begins is_exponent_letter cs ≡ true
        → Ends (IsNumberTail b) cs (exponent (drop 1 cs))
    by_letter [] d l = cc
    by_letter (c ∷ cs) d l =
        ends_map (IsFloatPart is_exponent) (IsNumberTail b) [] (c ∷ cs) _
        (λ k q r w t. inr (d, exponent_tail k q r t)) (letter_ends c cs l)

-- the piece: what names the base, the digits, and what follows them
record Numeral (b : Base) (cs q r : List ℕ) : Type 0 where
  piece : List ℕ
  whole : cs ≡ piece ++ r
  base : base_of piece ≡ b
  first : begins is_ascii_digit piece ≡ true
  run : front (in_run b) (digits_of b piece) ≡ front (in_run b) (digits_of b cs)
  tail : after (in_run b) (digits_of b piece) ≡ q

short_base : (p r : List ℕ) → base_of (p ++ r) ≡ Decimal → base_of p ≡ Decimal
short_base [] r e = refl
short_base (c ∷ []) r e = by_case (48 == c)
  where
    by_case : (t : Bool) → cond t Decimal Decimal ≡ Decimal
    by_case true = refl
    by_case false = refl
short_base (c ∷ d ∷ p) r e = e

decimal_numeral : (cs q r : List ℕ) → base_of cs ≡ Decimal → begins is_ascii_digit cs ≡ true
    → after in_digits cs ≡ q ++ r → Numeral Decimal cs q r
decimal_numeral cs q r e d w =
    let n : begins in_digits q ≡ false =
    begins_left in_digits q r (ap (begins in_digits) (sym w) ∙ after-stops in_digits cs) in
    let whole : cs ≡ (front in_digits cs ++ q) ++ r = front-after in_digits cs
    ∙ ap (λ v. front in_digits cs ++ v) w ∙ sym (append_assoc (front in_digits cs) q r) in
    record {
      piece = front in_digits cs ++ q;
      whole = whole;
      base = short_base (front in_digits cs ++ q) r (ap base_of (sym whole) ∙ e);
      first = starts_digit cs q d;
      run = front-append in_digits (front in_digits cs) q (each-front in_digits cs) n;
      tail = after-append in_digits (front in_digits cs) q (each-front in_digits cs) n;
    }

based_numeral : (b : Base) (c d : ℕ) (ds q r : List ℕ) → ((x : List ℕ) → digits_of b (c ∷ d ∷ x) ≡ x)
    → base_of (c ∷ d ∷ ds) ≡ b → is_ascii_digit c ≡ true → after (in_run b) ds ≡ q ++ r → Numeral b (c ∷ d ∷ ds) q r
based_numeral b c d ds q r digits e h w =
    let n : begins (in_run b) q ≡ false =
    begins_left (in_run b) q r (ap (begins (in_run b)) (sym w) ∙ after-stops (in_run b) ds) in
    let whole : ds ≡ (front (in_run b) ds ++ q) ++ r = front-after (in_run b) ds
    ∙ ap (λ v. front (in_run b) ds ++ v) w ∙ sym (append_assoc (front (in_run b) ds) q r) in
    record {
      piece = c ∷ d ∷ (front (in_run b) ds ++ q);
      whole = ap (λ v. c ∷ d ∷ v) whole;
      base = e;
      first = h;
      run = ap (front (in_run b)) (digits (front (in_run b) ds ++ q))
          ∙ front-append (in_run b) (front (in_run b) ds) q (each-front (in_run b) ds) n
          ∙ ap (front (in_run b)) (sym (digits ds));
      tail = ap (after (in_run b)) (digits (front (in_run b) ds ++ q))
          ∙ after-append (in_run b) (front (in_run b) ds) q (each-front (in_run b) ds) n;
    }

other_numeral : (b : Base) (cs q r : List ℕ) → is_decimal b ≡ false → ((x : List ℕ) → digits_of b x ≡ drop 2 x)
    → base_of cs ≡ b → begins is_ascii_digit cs ≡ true → after (in_run b) (digits_of b cs) ≡ q ++ r
    → Numeral b cs q r
other_numeral b cs q r n digits e d w =
    let t = two_first b cs e n in
    let P : List ℕ → Type 0 = λ v. Numeral b v q r in
    subst P (sym t.3) (based_numeral b t.0 t.1 t.2 q r (λ x. digits (t.0 ∷ t.1 ∷ x)) (ap base_of (sym t.3)
    ∙ e) (ap (begins is_ascii_digit) (sym t.3) ∙ d)
    (ap (after (in_run b)) (sym (ap (digits_of b) t.3 ∙ digits (t.0 ∷ t.1 ∷ t.2))) ∙ w))

numeral : (b : Base) (cs q r : List ℕ) → base_of cs ≡ b → begins is_ascii_digit cs ≡ true
    → after (in_run b) (digits_of b cs) ≡ q ++ r → Numeral b cs q r
numeral Decimal cs q r e d w = decimal_numeral cs q r e d w
numeral Binary cs q r e d w = other_numeral Binary cs q r refl (λ x. refl) e d w
numeral Octal cs q r e d w = other_numeral Octal cs q r refl (λ x. refl) e d w
numeral Hexadecimal cs q r e d w = other_numeral Hexadecimal cs q r refl (λ x. refl) e d w

-- The piece has the form of its kind.
int_form : (b : Base) (cs q r : List ℕ) (n : Numeral b cs q r)
    → is_run_in b (front (in_run b) (digits_of b cs)) ≡ true → is_int_suffix b q ≡ true → is_int n.piece ≡ true
int_form b cs q r n run h =
    ap (λ v. begins is_ascii_digit n.piece && is_run_in v (front (in_run v) (digits_of v n.piece))
    && is_int_suffix v (after (in_run v) (digits_of v n.piece))) n.base
    ∙ (and_from _ _ (and_from _ _ n.first (ap (is_run_in b) n.run ∙ run)) (ap (is_int_suffix b) n.tail ∙ h))

bare_form : (b : Base) (cs q r : List ℕ) (n : Numeral b cs q r) → is_bare_int n.piece ≡ is_nil q
bare_form b cs q r n = ap (λ v. is_nil (after (in_run v) (digits_of v n.piece))) n.base ∙ ap is_nil n.tail

float_form : (cs q r : List ℕ) (n : Numeral Decimal cs q r) → is_float_tail q ≡ true → is_float n.piece ≡ true
float_form cs q r n h = and_from _ _ (and_from _ _ n.first (ap is_decimal n.base)) (ap is_float_tail n.tail ∙ h)

no_digit_behind : (t : Bool) (r : List ℕ)
    → cond t (not (begins (λ c. is_ascii_digit c || c == 46 || starts_word c) r)) (not (begins in_word r)) ≡ true
    → begins is_ascii_digit r ≡ false
no_digit_behind false r h = no_digit r (not-true _ h)
no_digit_behind true [] h = refl
no_digit_behind true (c ∷ r) h = by_case (is_ascii_digit c) (c == 46) (starts_word c) h
  where
    by_case : (a b d : Bool) → not (a || b || d) ≡ true → a ≡ false
    by_case true b d h = cc
    by_case false b d h = refl

-- no index stands here
abbrev NoIndex : Bool → List ℕ → Type 0
NoIndex i cs = i && not (begins in_word (after is_ascii_digit cs)) ≡ false

int_stands : (i : Bool) (b : Base) (cs q r : List ℕ) → NoIndex i cs → Numeral b cs q r
    → is_run_in b (front (in_run b) (digits_of b cs)) ≡ true → IsIntTail b Int q r → Stands i cs Int r
unfolding has_form may_precede
int_stands i b cs q r ni n run t =
    let form : has_form Int n.piece ≡ true = int_form b cs q r n run t.form in
    let follow : may_precede Int n.piece r ≡ true =
    and_from _ _ (ap not t.stops) (ap not (ap (λ v. v && begins_point r) (bare_form b cs q r n) ∙ t.point)) in
    let ni2 : i && not (begins in_word (after is_ascii_digit (n.piece ++ r))) ≡ false =
    ap (λ v. i && not (begins in_word (after is_ascii_digit v))) (sym n.whole) ∙ ni in
    record {
      piece = n.piece;
      whole = n.whole;
      is_had = had-number Int n.piece r i refl n.first (no_digit r t.stops) ∙ (rw ni2 (and_from _ _ form follow));
    }

float_stands : (i : Bool) (cs q r : List ℕ) → NoIndex i cs → Numeral Decimal cs q r → IsFloatTail Float q r
    → Stands i cs Float r
unfolding has_form may_precede
float_stands i cs q r ni n t =
    let form : has_form Float n.piece ≡ true = float_form cs q r n t.form in
    let follow : may_precede Float n.piece r ≡ true =
    ap (λ v. cond (behind false (46 ∷ []) is_nil v)
    (not (begins (λ c. is_ascii_digit c || c == 46 || starts_word c) r)) (not (begins in_word r))) n.tail
    ∙ t.stops in
    let ni2 : i && not (begins in_word (after is_ascii_digit (n.piece ++ r))) ≡ false =
    ap (λ v. i && not (begins in_word (after is_ascii_digit v))) (sym n.whole) ∙ ni in
    record {
      piece = n.piece;
      whole = n.whole;
      is_had = had-number Float n.piece r i refl n.first
          (no_digit_behind (behind false (46 ∷ []) is_nil q) r t.stops) ∙ (rw ni2 (and_from _ _ form follow));
    }

as_int : (i : Bool) (cs r : List ℕ) (k : Kind) → k ≡ Int → Stands i cs Int r → Stands i cs k r
as_int i cs r k e s = let P : Kind → Type 0 = λ v. Stands i cs v r in subst P (sym e) s

as_float : (i : Bool) (cs r : List ℕ) (k : Kind) → k ≡ Float → Stands i cs Float r → Stands i cs k r
as_float i cs r k e s = let P : Kind → Type 0 = λ v. Stands i cs v r in subst P (sym e) s

stands_by : (i : Bool) (b : Base) (cs q r : List ℕ) (k : Kind) → NoIndex i cs → base_of cs ≡ b
    → begins is_ascii_digit cs ≡ true → is_run_in b (front (in_run b) (digits_of b cs)) ≡ true
    → after (in_run b) (digits_of b cs) ≡ q ++ r → IsNumberTail b k q r → Stands i cs k r
stands_by i b cs q r k ni e d run w (inl t) =
    as_int i cs r k t.kind
    (int_stands i b cs q r ni (numeral b cs q r e d w) run
    (record { kind = refl; form = t.form; stops = t.stops; point = t.point }))
stands_by i b cs q r k ni e d run w (inr t) =
    let dec : b ≡ Decimal = decimal_is b t.0 in
    let v : after in_digits cs ≡ q ++ r = sym (ap (λ x. after (in_run x) (digits_of x cs)) dec) ∙ w in
    as_float i cs r k t.1.kind
    (float_stands i cs q r ni (decimal_numeral cs q r (e ∙ dec) d v)
    (record { kind = refl; form = t.1.form; stops = t.1.stops }))

from_ends : (i : Bool) (b : Base) (cs t : List ℕ) (x : FrontPiece) → NoIndex i cs → base_of cs ≡ b
    → begins is_ascii_digit cs ≡ true → is_run_in b (front (in_run b) (digits_of b cs)) ≡ true
    → t ≡ after (in_run b) (digits_of b cs) → Ends (IsNumberTail b) t x → Sound i cs x
from_ends i b cs t None ni e d run w h = tt
from_ends i b cs t (Some f) ni e d run w h = stands_by i b cs h.0 f.1 f.0 ni e d run (sym w ∙ h.1) h.2

plain_sound : (i : Bool) (cs : List ℕ) → NoIndex i cs → begins is_ascii_digit cs ≡ true
    → Sound i cs (plain_number cs)
plain_sound i cs ni d = go (after_run (base_of cs) (digits_of (base_of cs) cs)) refl
  where
    go : (o : Option (List ℕ)) → after_run (base_of cs) (digits_of (base_of cs) cs) ≡ o
        → Sound i cs (option_and_then (whole (base_of cs)) o)
    go None e = tt
    go (Some r) e =
        let p = run_parts (base_of cs) (digits_of (base_of cs) cs) r e in
        from_ends i (base_of cs) cs r (whole (base_of cs) r) ni refl d p.0 p.1
        (whole_ends (base_of cs) r (ap (begins (λ c. c == 95)) p.1
        ∙ no_underscore (base_of cs) (digits_of (base_of cs) cs)))

index_stands : (cs : List ℕ) → begins is_ascii_digit cs ≡ true
    → not (begins in_word (after is_ascii_digit cs)) ≡ true → Stands true cs Int (after is_ascii_digit cs)
index_stands cs d h =
    let whole : cs ≡ front is_ascii_digit cs ++ after is_ascii_digit cs = front-after is_ascii_digit cs in
    let first : begins is_ascii_digit (front is_ascii_digit cs) ≡ true = some_front cs d in
    let t : true && not (begins in_word
    (after is_ascii_digit (front is_ascii_digit cs ++ after is_ascii_digit cs))) ≡ true =
    ap (λ v. not (begins in_word (after is_ascii_digit v))) (sym whole) ∙ h in
    record {
      piece = front is_ascii_digit cs;
      whole = whole;
      is_had = had-number Int (front is_ascii_digit cs) (after is_ascii_digit cs) true refl first
          (after-stops is_ascii_digit cs)
          ∙ (rw t (and_from _ _ (and_from _ _ first (each-front is_ascii_digit cs)) h));
    }
  where
    some_front : (cs : List ℕ) → begins is_ascii_digit cs ≡ true
        → begins is_ascii_digit (front is_ascii_digit cs) ≡ true
    some_front [] d = cc
    some_front (c ∷ cs) d = rw d d

pub number_sound : (i : Bool) (cs : List ℕ) → begins is_ascii_digit cs ≡ true → Sound i cs (number i cs)
number_sound false cs d = plain_sound false cs refl d
number_sound true cs d =
    sound_cond true cs (not (begins in_word (after is_ascii_digit cs))) _ _ (λ h. index_stands cs d h)
    (λ h. plain_sound true cs h d)
