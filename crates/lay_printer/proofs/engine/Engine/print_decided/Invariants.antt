use Rattle.std.proofs.Common.{◌≡◌, ℕ, ◌≤◌, List, ◌++◌, length}
use Rattle.lay_io.specs.Faults.{SameLoan}
use Rattle.lay_layout.specs.declared.layout.Tok.{Tok}
use Rattle.lay_ring.specs.declared.entry.Entry.{Entry}
use Rattle.lay_queue.specs.Scan.{waiting}
use Rattle.lay_printer.specs.Engines.{Stays}
use Rattle.lay_printer.specs.Queued.{Running}
use Rattle.lay_printer.proofs.engine.Engine.print_decided.Given as goal

abbrev pub invariant-loop-big : goal.invariant-loop-big
invariant-loop-big g l = record {
  runs : (tail : List Entry) → waiting tail ≡ l.behind → (content : List ℕ) (s : List Tok) → Running l.initial.self.queue.ended (l.initial.self.queue.ring.entries ++ tail) l.initial.self.page.line l.initial.self.page.frames.frames (g.K.Sink.written l.initial.sink) content s →
      Running l.initial.self.queue.ended (l.self.queue.ring.entries ++ tail) l.self.page.line l.self.page.frames.frames (g.K.Sink.written l.sink) content s;
  stays : Stays l.initial.self l.self;
  faults : g.K.Sink.faults l.initial.sink ≤ g.K.Sink.faults l.sink;
  loan : SameLoan (g.K.Sink.loan l.initial.sink) (g.K.Sink.loan l.sink);
}

abbrev pub decreases-loop-big : goal.decreases-loop-big
decreases-loop-big g l = length l.self.queue.ring.entries
