use Rattle.std.proofs.Common.{◌≡◌, ◌≤◌, ◌+◌, length, nat_lt}
use Rattle.lay_layout.specs.Machine.{reach}
use Rattle.lay_stream.proofs.slow.reaches_past.Given as goal

abbrev pub invariant-loop-tok : goal.invariant-loop-tok
invariant-loop-tok l = record {
  few : l.depth + length l.rest ≤ 1 + length l.fn.toks;
  same : nat_lt l.fn.limit (reach l.fn.depth l.fn.toks) ≡ nat_lt l.left (reach l.depth l.rest);
}

abbrev pub decreases-loop-tok : goal.decreases-loop-tok
decreases-loop-tok l = length l.rest
