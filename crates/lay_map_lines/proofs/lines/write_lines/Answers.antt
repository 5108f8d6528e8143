use Rattle.std.proofs.Common.{rules, arith, ◌≡◌, ◌∷◌}
use Rattle.lay_map_lines.proofs.LineLemmas.{line_written, part_written}
use Rattle.lay_map_lines.proofs.lines.write_lines.Goals as goal

pub returns-in-Err-clause-part : goal.returns-in-Err-clause-part
returns-in-Err-clause-part g c =
    let e : c.loop-unit.units.now ≡ c.unit.result ∷ c.in-Some.more.now = search rules in
    let f : c.loop-unit.others.now ≡ c.unit-in-Some-split_first.result ∷ c.in-Some-split_first.behind.now = search rules in
    part_written _ _ _ _ _ _ _ c.loop-unit.invariant.0 _ _ _ _ e f c.in-Err.ensures.part

pub loop-unit-preserved : goal.loop-unit-preserved
loop-unit-preserved g c =
    let e : c.loop-unit.units.now ≡ c.unit.result ∷ c.in-Some.more.now = search rules in
    let f : c.loop-unit.others.now ≡ c.unit-in-Some-split_first.result ∷ c.in-Some-split_first.behind.now = search rules in (
      line_written _ _ _ _ _ _ _ c.loop-unit.invariant.0 _ _ _ _ e f c.in-Ok.ensures.whole,
      omega arith,
      search rules,
    )
