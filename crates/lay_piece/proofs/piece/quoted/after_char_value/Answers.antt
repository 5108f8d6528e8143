use Rattle.std.proofs.Common.{rules, arith, ◌≡◌, ◌≢◌, ℕ, suc, ◌+◌, ◌*◌, ◌^◌, ◌<◌, ◌≤◌, List, ◌∷◌, Bool, true, false, cond, sym, refl, ap, ◌∙◌, lit<, add-one}
use Rattle.std.proofs.Math.Nat.{pow-suc, pow-le-pow_right}
use Rattle.std.specs.Prelude.{nat_lt}
use Rattle.std.specs.Char.{is_ascii_hexdigit}
use Rattle.std.proofs.lemmas.Bool.{eq-eqb, ne_eqb, lt-ltb, le-ltb}
use Rattle.lay_piece.specs.Chars.{hex_value}
use Rattle.lay_piece.specs.Scan.{Next, Go, End, Bad, run}
use Rattle.lay_piece.specs.Quoted.{InEscape, Digits, digits_step, escape_step, is_char_value}
use Rattle.lay_piece.specs.declared.piece.quoted.Contents.{Contents}
use Rattle.lay_piece.proofs.Runs.{next, run-nil, run-step}
use Rattle.lay_piece.proofs.piece.quoted.after_char_value.Goals as goal

-- one character after n digits of the value v
at : (y : Contents) (n v c : ℕ) (text cs : List ℕ) (to : Next InEscape) → text ≡ c ∷ cs → digits_step y n v c ≡ to
    → run (escape_step y) (Digits n v) text ≡ next (escape_step y) cs to
unfolding escape_step
at y n v c text cs to e f = ap (run (escape_step y) (Digits n v)) e
    ∙ run-step (escape_step y) (Digits n v) c cs to f

digit_step : (y : Contents) (n v c d : ℕ) → is_ascii_hexdigit c ≡ true → d ≡ hex_value c → n < 6
    → digits_step y n v c ≡ Go (Digits (n + 1) (16 * v + d))
digit_step y n v c d h e l = rw (h, lt-ltb n 6 l, e) refl

seventh_step : (y : Contents) (n v c : ℕ) → is_ascii_hexdigit c ≡ true → n ≡ 6 → digits_step y n v c ≡ Bad
seventh_step y n v c h e = let l : nat_lt n 6 ≡ false = le-ltb n 6 (omega arith) in rw (h, l) refl

no_digit_step : (y : Contents) (n v c : ℕ) → is_ascii_hexdigit c ≡ false → n ≡ 0 → digits_step y n v c ≡ Bad
no_digit_step y n v c h e = rw (h, eq-eqb n 0 e) refl

brace_step : (y : Contents) (n v c : ℕ) (b : Bool) → is_ascii_hexdigit c ≡ false → n ≢ 0 → c ≡ 125
    → b ≡ is_char_value y v → digits_step y n v c ≡ cond b End Bad
brace_step y n v c b h l e f =
    let ne : c ≢ 95 = omega arith in
    rw (h, ne_eqb n 0 l, ne_eqb c 95 ne, eq-eqb c 125 e, f) refl

underscore_step : (y : Contents) (n v c : ℕ) → is_ascii_hexdigit c ≡ false → n ≢ 0 → c ≡ 95
    → digits_step y n v c ≡ Go (Digits n v)
underscore_step y n v c h l e = rw (h, ne_eqb n 0 l, eq-eqb c 95 e) refl

other_step : (y : Contents) (n v c : ℕ) → is_ascii_hexdigit c ≡ false → n ≢ 0 → c ≢ 125 → c ≢ 95
    → digits_step y n v c ≡ Bad
other_step y n v c h l e f = rw (h, ne_eqb n 0 l, ne_eqb c 95 f, ne_eqb c 125 e) refl

more_digits : (n v d : ℕ) → v < 16 ^ n → d < 16 → 16 * v + d < 16 ^ (n + 1)
more_digits n v d h l = rw add-one (let e : 16 ^ suc n ≡ 16 ^ n * 16 = pow-suc 16 n in omega arith)

few_digits : (n v : ℕ) → v < 16 ^ n → n ≤ 6 → n ≢ 6 → v < 2 ^ 20
few_digits n v h l e =
    let up : 16 ^ n ≤ 16 ^ 5 = pow-le-pow_right {n = 16} (lit< tt) {i = n} {j = 5} (omega arith) in omega arith

pub returns-then-count-eq6-clause-rest : goal.returns-then-count-eq6-clause-rest
returns-then-count-eq6-clause-rest c =
    sym c.loop-c.invariant.same
    ∙ at c.args.of c.loop-c.count c.loop-c.value c.in-Some.c _ _ Bad c.in-Some.ensures.parts
    (seventh_step c.args.of c.loop-c.count c.loop-c.value c.in-Some.c c.in-Some-hex_value.ensures.0 c.if-count-eq6.true)

pub overflow_mul-value : goal.overflow_mul-value
overflow_mul-value c =
    let small = few_digits c.loop-c.count c.loop-c.value c.loop-c.invariant.small c.loop-c.invariant.few c.if-count-eq6.false in omega (arith, small)

pub overflow_add-value : goal.overflow_add-value
overflow_add-value c =
    let small = few_digits c.loop-c.count c.loop-c.value c.loop-c.invariant.small c.loop-c.invariant.few c.if-count-eq6.false in
    omega (arith, small, c.in-Some-hex_value.ensures.2)

pub loop-c-preserved-in-Some-hex_value : goal.loop-c-preserved-in-Some-hex_value
loop-c-preserved-in-Some-hex_value c =
    let less : c.loop-c.count < 6 = omega (arith, c.loop-c.invariant.few, c.if-count-eq6.false) in record {
      text = search rules;
      same = sym (at c.args.of c.loop-c.count c.loop-c.value c.in-Some.c _ _
          (Go (Digits (c.loop-c.count + 1) (16 * c.loop-c.value + c.in-Some-hex_value.digit))) c.in-Some.ensures.parts
          (digit_step c.args.of c.loop-c.count c.loop-c.value c.in-Some.c _ c.in-Some-hex_value.ensures.0 c.in-Some-hex_value.ensures.1 less)) ∙ c.loop-c.invariant.same;
      few = omega (arith, less);
      small = more_digits c.loop-c.count c.loop-c.value c.in-Some-hex_value.digit c.loop-c.invariant.small c.in-Some-hex_value.ensures.2;
      shorter = omega (arith, c.in-Some.ensures.shorter, c.loop-c.invariant.shorter);
    }

pub returns-then-count-eq0-clause-rest : goal.returns-then-count-eq0-clause-rest
returns-then-count-eq0-clause-rest c =
    sym c.loop-c.invariant.same
    ∙ at c.args.of c.loop-c.count c.loop-c.value c.in-Some.c _ _ Bad c.in-Some.ensures.parts
    (no_digit_step c.args.of c.loop-c.count c.loop-c.value c.in-Some.c c.in-None.ensures c.if-count-eq0.true)

pub returns-then-is_char_value-clause-rest : goal.returns-then-is_char_value-clause-rest
returns-then-is_char_value-clause-rest c =
    sym c.loop-c.invariant.same
    ∙ at c.args.of c.loop-c.count c.loop-c.value c.in-Some.c _ _ End c.in-Some.ensures.parts
    (brace_step c.args.of c.loop-c.count c.loop-c.value c.in-Some.c true c.in-None.ensures c.if-count-eq0.false c.if-c-eq125.true c.if-is_char_value.ensures)

pub returns-else-is_char_value-clause-rest : goal.returns-else-is_char_value-clause-rest
returns-else-is_char_value-clause-rest c =
    sym c.loop-c.invariant.same
    ∙ at c.args.of c.loop-c.count c.loop-c.value c.in-Some.c _ _ Bad c.in-Some.ensures.parts
    (brace_step c.args.of c.loop-c.count c.loop-c.value c.in-Some.c false c.in-None.ensures c.if-count-eq0.false c.if-c-eq125.true c.if-is_char_value.ensures)

pub returns-then-c-ne95-clause-rest : goal.returns-then-c-ne95-clause-rest
returns-then-c-ne95-clause-rest c =
    sym c.loop-c.invariant.same
    ∙ at c.args.of c.loop-c.count c.loop-c.value c.in-Some.c _ _ Bad c.in-Some.ensures.parts
    (other_step c.args.of c.loop-c.count c.loop-c.value c.in-Some.c c.in-None.ensures c.if-count-eq0.false c.if-c-eq125.false c.if-c-ne95.true)

pub loop-c-preserved : goal.loop-c-preserved
loop-c-preserved c = record {
  text = search rules;
  same = sym (at c.args.of c.loop-c.count c.loop-c.value c.in-Some.c _ _
      (Go (Digits c.loop-c.count c.loop-c.value)) c.in-Some.ensures.parts
      (underscore_step c.args.of c.loop-c.count c.loop-c.value c.in-Some.c c.in-None.ensures c.if-count-eq0.false c.if-c-ne95.false)) ∙ c.loop-c.invariant.same;
  few = c.loop-c.invariant.few;
  small = c.loop-c.invariant.small;
  shorter = omega (arith, c.in-Some.ensures.shorter, c.loop-c.invariant.shorter);
}

pub returns-clause-rest : goal.returns-clause-rest
returns-clause-rest c =
    sym c.loop-c.invariant.same
    ∙ ap (run (escape_step c.args.of) (Digits c.loop-c.count c.loop-c.value)) c.in_default.ensures.parts
    ∙ run-nil (escape_step c.args.of) _
