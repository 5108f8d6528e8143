use Rattle.std.proofs.Common.{◌≡◌, ◌+◌, ◌*◌, ◌∷◌, [], subst, arith}
use Rattle.std.specs.Str.{chars}
use Rattle.lay_piece.specs.Chars.{hex_value}
use Rattle.lay_piece.specs.Quoted.{Escape, Hex, HexTwo}
use Rattle.lay_cook.specs.Steps.{Closes, Reads}
use Rattle.lay_cook.proofs.StepLemmas.{not_empty}
use Rattle.lay_cook.proofs.DigitLemmas.{high_digit, byte_value}
use Rattle.lay_cook.proofs.strings.byte_value.Goals as goal

pub next-high-requires : goal.next-high-requires
next-high-requires c = not_empty (Escape Hex) (chars c.args.s.now) c.requires

pub next-low-requires : goal.next-low-requires
next-low-requires c =
    let high = c.next-high.result.0 in
    let tail = chars c.next-high.result.1.now in
    let one = high_digit high tail (subst (Closes (Escape Hex)) c.next-high.ensures.parts c.requires) in
    not_empty (Escape (HexTwo (hex_value high))) tail one.1.closes

pub digit-requires : goal.digit-requires
digit-requires c =
    (byte_value (chars c.args.s.now) (chars c.next-high.result.1.now) (chars c.next-low.result.1.now)
    c.next-high.result.0 c.next-low.result.0 c.requires c.next-high.ensures.parts c.next-low.ensures.parts).first

pub digit-requires-2 : goal.digit-requires-2
digit-requires-2 c =
    (byte_value (chars c.args.s.now) (chars c.next-high.result.1.now) (chars c.next-low.result.1.now)
    c.next-high.result.0 c.next-low.result.0 c.requires c.next-high.ensures.parts c.next-low.ensures.parts).second

pub returns-clause-value : goal.returns-clause-value
returns-clause-value c =
    let rest = chars c.next-low.result.1.now in
    let b = byte_value (chars c.args.s.now) (chars c.next-high.result.1.now) rest
    c.next-high.result.0 c.next-low.result.0 c.requires c.next-high.ensures.parts c.next-low.ensures.parts in
    let same : 16 * hex_value c.next-high.result.0 + hex_value c.next-low.result.0 ≡ 16 * c.digit.result + c.digit-2.result =
    omega (arith, c.digit.ensures.value, c.digit-2.ensures.value) in
    subst (λ v. Reads (Escape Hex) (chars c.args.s.now) (v ∷ []) rest) same b.reads
