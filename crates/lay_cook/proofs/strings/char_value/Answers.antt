use Rattle.std.proofs.Common.{rules, ◌≡◌, ◌+◌, ◌*◌, ◌<◌, ◌∷◌, [], sym, ap, ◌∙◌, subst, arith, Some}
use Rattle.std.specs.Str.{chars}
use Rattle.std.specs.Char.{IsScalar}
use Rattle.std.specs.Option.{SomeIff}
use Rattle.lay_piece.specs.Chars.{hex_value}
use Rattle.lay_piece.specs.Quoted.{Digits, Escape, Open}
use Rattle.lay_cook.specs.Steps.{Reads}
use Rattle.lay_cook.proofs.StepLemmas.{not_empty}
use Rattle.lay_cook.proofs.DigitLemmas.{InDigits, opened, brace, digit, underscore}
use Rattle.lay_cook.proofs.strings.char_value.Goals as goal

pub next-requires : goal.next-requires
next-requires c = not_empty (Escape Open) (chars c.args.s.now) c.requires

pub digits-init : goal.digits-init
digits-init c = record {
  text = search rules;
  digits = opened c.next.result.0 (chars c.args.s.now) (chars c.next.result.1.now) c.requires c.next.ensures.parts;
  shorter = omega (arith, c.next.ensures.shorter);
}

pub next-c-requires : goal.next-c-requires
next-c-requires c =
    let d = c.digits.invariant.digits in
    not_empty (Escape (Digits d.count c.digits.value)) (chars c.digits.rest.now) d.closes

pub unwrap-requires : goal.unwrap-requires
unwrap-requires c =
    let cs = chars c.next-c.result.1.now in
    c.from_u32.ensures.succeeds (brace c.digits.value (chars c.digits.rest.now) cs (chars c.args.s.now) c.digits.invariant.digits
    (c.next-c.ensures.parts ∙ ap (λ v. v ∷ cs) c.in-125.is)).0

pub returns-in-125-clause-value : goal.returns-in-125-clause-value
returns-in-125-clause-value c =
    let cs = chars c.next-c.result.1.now in
    let r = brace c.digits.value (chars c.digits.rest.now) cs (chars c.args.s.now) c.digits.invariant.digits
    (c.next-c.ensures.parts ∙ ap (λ v. v ∷ cs) c.in-125.is) in
    let made : SomeIff (Some c.unwrap.result) (IsScalar c.digits.value) c.digits.value =
    subst (λ o. SomeIff o (IsScalar c.digits.value) c.digits.value) c.unwrap.ensures c.from_u32.ensures.value in
    let same : c.digits.value ≡ c.unwrap.result = sym made.1 in
    subst (λ v. Reads (Escape Open) (chars c.args.s.now) (v ∷ []) cs) same r.1

pub digits-preserved-in-95 : goal.digits-preserved-in-95
digits-preserved-in-95 c =
    let cs = chars c.next-c.result.1.now in record {
      text = search rules;
      digits = underscore c.digits.value (chars c.digits.rest.now) cs (chars c.args.s.now) c.digits.invariant.digits
          (c.next-c.ensures.parts ∙ ap (λ v. v ∷ cs) c.in-95.is);
      shorter = omega (arith, c.next-c.ensures.shorter, c.digits.invariant.shorter);
    }

pub overflow_mul-value : goal.overflow_mul-value
overflow_mul-value c =
    let d = digit c.digits.value c.next-c.result.0 (chars c.digits.rest.now) (chars c.next-c.result.1.now) (chars c.args.s.now)
    c.digits.invariant.digits c.next-c.ensures.parts (omega arith) (omega arith) in
    omega (arith, d.small)

pub digit-requires : goal.digit-requires
digit-requires c =
    (digit c.digits.value c.next-c.result.0 (chars c.digits.rest.now) (chars c.next-c.result.1.now) (chars c.args.s.now)
    c.digits.invariant.digits c.next-c.ensures.parts (omega arith) (omega arith)).digit

pub overflow_add-value : goal.overflow_add-value
overflow_add-value c =
    let d = digit c.digits.value c.next-c.result.0 (chars c.digits.rest.now) (chars c.next-c.result.1.now) (chars c.args.s.now)
    c.digits.invariant.digits c.next-c.ensures.parts (omega arith) (omega arith) in
    omega (arith, d.small, c.digit.ensures.small)

pub digits-preserved : goal.digits-preserved
digits-preserved c =
    let cs = chars c.next-c.result.1.now in
    let d = digit c.digits.value c.next-c.result.0 (chars c.digits.rest.now) cs (chars c.args.s.now)
    c.digits.invariant.digits c.next-c.ensures.parts (omega arith) (omega arith) in
    let small : hex_value c.next-c.result.0 < 16 = omega (arith, c.digit.ensures.small, c.digit.ensures.value) in
    record {
      text = search rules;
      digits = subst (λ v. InDigits (16 * c.digits.value + v) cs (chars c.args.s.now)) (sym c.digit.ensures.value) (d.more small);
      shorter = omega (arith, c.next-c.ensures.shorter, c.digits.invariant.shorter);
    }
