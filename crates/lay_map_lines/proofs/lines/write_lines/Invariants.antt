-- The lines so far were written, and those of the rest are left.
use Rattle.std.proofs.Common.{◌≤◌, length}
use Rattle.lay_io.specs.Faults.{SameLoan}
use Rattle.lay_map_lines.proofs.LineLemmas.{Lined}
use Rattle.lay_map_lines.proofs.lines.write_lines.Given as goal

abbrev pub invariant-loop-unit : goal.invariant-loop-unit
invariant-loop-unit g l = (Lined l.fn.source l.fn.output l.units l.others (g.K.Sink.written l.fn.out) (g.K.Sink.written l.out))
    × (g.K.Sink.faults l.fn.out ≤ g.K.Sink.faults l.out) × SameLoan (g.K.Sink.loan l.fn.out) (g.K.Sink.loan l.out)

abbrev pub decreases-loop-unit : goal.decreases-loop-unit
decreases-loop-unit g l = length l.units
