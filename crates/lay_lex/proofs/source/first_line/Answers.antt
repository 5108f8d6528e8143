use Rattle.std.proofs.Common.{◌≡◌, sym, ap, ◌∙◌, arith, take, length, ◌-◌}
use Rattle.std.specs.Str.{chars, encode_utf8_all}
use Rattle.std.proofs.lemmas.Str.{chars_from_encodes}
use Rattle.lay_piece.specs.Chars.{front}
use Rattle.lay_token.specs.Source.{is_in_line}
use Rattle.lay_piece.proofs.Texts.{bytes_before, length_parts}
use Rattle.lay_lex.proofs.Lines.{line_parts, line_end}
use Rattle.lay_lex.proofs.source.first_line.Goals as goal

pub overflow_sub-s : goal.overflow_sub-s
overflow_sub-s c =
    let sum = length_parts c.args.s.now c.after_line.result.now (front is_in_line (chars c.args.s.now)) c.utf8.s c.after_line.utf8
    (line_parts c.args.s.now c.after_line.result.now c.after_line.ensures) in
    omega (arith, sum)

pub range-requires-clause-end_boundary : goal.range-requires-clause-end_boundary
range-requires-clause-end_boundary c = line_end c.args.s.now c.after_line.result.now c.utf8.s c.after_line.utf8 c.after_line.ensures

pub returns : goal.returns
returns c =
    let ds = front is_in_line (chars c.args.s.now) in
    let n = length c.args.s.now - length c.after_line.result.now in
    let same : n - 0 ≡ n = omega arith in
    let bytes : c.range.result.now ≡ encode_utf8_all ds = c.range.ensures.value ∙ ap (λ k. take k c.args.s.now) same
    ∙ bytes_before c.args.s.now c.after_line.result.now ds c.utf8.s c.after_line.utf8
    (line_parts c.args.s.now c.after_line.result.now c.after_line.ensures) in
    sym (chars_from_encodes ds c.range.result.now c.range.utf8 (sym bytes))
