use Rattle.std.proofs.Common.{◌-◌, length}
use Rattle.lay_ring.proofs.Rows.{TextsAt}
use Rattle.lay_ring.proofs.row.Row.texts.Given as goal

abbrev pub invariant-loop-count : goal.invariant-loop-count
invariant-loop-count l = TextsAt l.count l.self-inside.entries.items l.len

abbrev pub decreases-loop-count : goal.decreases-loop-count
decreases-loop-count l = length l.self-inside.entries.items - l.count
