use Rattle.std.proofs.Common.{◌≡◌, ◌≤◌, ◌-◌, replicate}
use Rattle.lay_io.specs.Told.{GrewBy}
use Rattle.lay_io.specs.Faults.{SameLoan}
use Rattle.lay_stream.proofs.line.Line.write_pending.Given as goal

abbrev pub invariant-loop-self : goal.invariant-loop-self
invariant-loop-self g l = record {
  bytes : GrewBy (g.K.Sink.written l.initial.sink) (g.K.Sink.written l.sink) (replicate (l.initial.self.pending - l.self.pending) 32);
  less : l.self.pending ≤ l.initial.self.pending;
  room : l.self.room ≡ l.initial.self.room;
  used : l.self.used ≡ l.initial.self.used;
  faults : g.K.Sink.faults l.initial.sink ≤ g.K.Sink.faults l.sink;
  loan : SameLoan (g.K.Sink.loan l.initial.sink) (g.K.Sink.loan l.sink);
}

abbrev pub decreases-loop-self : goal.decreases-loop-self
decreases-loop-self g l = l.self.pending
