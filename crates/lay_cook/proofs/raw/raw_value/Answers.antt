use Rattle.std.proofs.Common.{◌+◌, ◌-◌, length, take, drop, ap, ◌∙◌, arith}
use Rattle.lay_cook.proofs.RawLemmas.{raw_bytes}
use Rattle.lay_cook.proofs.raw.raw_value.Goals as goal

pub overflow_sub-result : goal.overflow_sub-result
overflow_sub-result c =
    (raw_bytes c.args.quoted.now c.after-opened.result.now c.utf8.quoted c.after-opened.utf8 c.requires c.after-opened.ensures.run).fits

pub slice_bounds-result-count : goal.slice_bounds-result-count
slice_bounds-result-count c =
    (raw_bytes c.args.quoted.now c.after-opened.result.now c.utf8.quoted c.after-opened.utf8 c.requires c.after-opened.ensures.run).room

pub slice_bounds-result-start : goal.slice_bounds-result-start
slice_bounds-result-start c =
    let b = raw_bytes c.args.quoted.now c.after-opened.result.now c.utf8.quoted c.after-opened.utf8 c.requires c.after-opened.ensures.run in
    omega (arith, b.fits, b.room)

pub returns : goal.returns
returns c =
    let q = c.args.quoted.now in
    let around = length q - length c.after-opened.result.now + 1 in
    ap (λ l. take (length q - around - around) (drop around l)) c.as_bytes.ensures.value
    ∙ (raw_bytes q c.after-opened.result.now c.utf8.quoted c.after-opened.utf8 c.requires c.after-opened.ensures.run).value
