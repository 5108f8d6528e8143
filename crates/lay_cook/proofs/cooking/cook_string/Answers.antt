use Rattle.std.proofs.Common.{◌≡◌, ◌++◌, drop, sym, ap, ◌∙◌}
use Rattle.std.specs.Str.{chars, encode_utf8_all}
use Rattle.lay_piece.specs.Quoted.{Plain}
use Rattle.lay_piece.specs.Forms.{after_literal, is_whole}
use Rattle.lay_piece.specs.Value.{string_value}
use Rattle.lay_piece.specs.declared.kind.Kind.TheVariants as kind
use Rattle.lay_cook.proofs.CookLemmas.{string_suffix, string_closes, no_text, is_text}
use Rattle.lay_cook.proofs.cooking.cook_string.Goals as goal

pub returns-then-has_suffix : goal.returns-then-has_suffix
returns-then-has_suffix c =
    let cs = chars c.args.piece.now in
    no_text (is_whole (after_literal kind.Str cs)) c.has_suffix.result (string_value Plain (drop 1 cs))
    (string_suffix cs c.has_suffix.result c.requires c.has_suffix.ensures) c.if-has_suffix.true

pub push_value-requires : goal.push_value-requires
push_value-requires c =
    let cs = chars c.args.piece.now in
    string_closes c.next.result.0 cs (chars c.next.result.1.now) c.has_suffix.result c.next.ensures.parts
    (string_suffix cs c.has_suffix.result c.requires c.has_suffix.ensures) c.if-has_suffix.false

pub returns : goal.returns
returns c =
    let cs = chars c.args.piece.now in
    let inside : drop 1 cs ≡ chars c.next.result.1.now = ap (drop 1) c.next.ensures.parts in
    is_text (is_whole (after_literal kind.Str cs)) c.has_suffix.result (string_value Plain (drop 1 cs)) c.push_value.new.value
    (string_suffix cs c.has_suffix.result c.requires c.has_suffix.ensures) c.if-has_suffix.false
    (c.in_ok-push_value.ensures
    ∙ ap (λ l. l ++ encode_utf8_all (string_value Plain (chars c.next.result.1.now))) c.new-value.ensures
    ∙ ap (λ l. encode_utf8_all (string_value Plain l)) (sym inside))
