use Rattle.std.proofs.Common.{◌≡◌, drop, sym, ap, ◌∙◌}
use Rattle.std.specs.Str.{chars, encode_utf8_all}
use Rattle.lay_piece.specs.Forms.{after_literal, is_whole}
use Rattle.lay_piece.specs.Value.{raw_value}
use Rattle.lay_piece.specs.declared.kind.Kind.TheVariants as kind
use Rattle.lay_cook.proofs.CookLemmas.{raw_suffix, raw_closes, no_text, is_text}
use Rattle.lay_cook.proofs.cooking.cook_raw.Goals as goal

pub returns-then-has_suffix : goal.returns-then-has_suffix
returns-then-has_suffix c =
    let cs = chars c.args.piece.now in
    no_text (is_whole (after_literal kind.RawStr cs)) c.has_suffix.result (raw_value (drop 1 cs))
    (raw_suffix cs c.has_suffix.result c.requires c.has_suffix.ensures) c.if-has_suffix.true

pub raw_value-requires : goal.raw_value-requires
raw_value-requires c =
    let cs = chars c.args.piece.now in
    raw_closes c.next.result.0 cs (chars c.next.result.1.now) c.has_suffix.result c.next.ensures.parts
    (raw_suffix cs c.has_suffix.result c.requires c.has_suffix.ensures) c.if-has_suffix.false

pub returns : goal.returns
returns c =
    let cs = chars c.args.piece.now in
    let inside : drop 1 cs ≡ chars c.next.result.1.now = ap (drop 1) c.next.ensures.parts in
    is_text (is_whole (after_literal kind.RawStr cs)) c.has_suffix.result (raw_value (drop 1 cs)) c.in_ok-value.value
    (raw_suffix cs c.has_suffix.result c.requires c.has_suffix.ensures) c.if-has_suffix.false
    (c.in_ok-value.ensures.ok ∙ c.raw_value.ensures ∙ ap (λ l. encode_utf8_all (raw_value l)) (sym inside))
