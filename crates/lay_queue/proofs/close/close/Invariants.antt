use Rattle.std.proofs.Common.{◌≡◌, ◌^◌, ◌<◌, ◌≤◌, length}
use Rattle.lay_queue.specs.Closed.{Left, toks_of}
use Rattle.lay_queue.specs.Scan.{cap}
use Rattle.lay_queue.proofs.close.close.Given as goal

abbrev pub invariant-loop-note : goal.invariant-loop-note
invariant-loop-note l = record {
  left : Left (toks_of l.fn.ring.entries) l.ring.first l.acc l.cur l.ring.entries l.notes.items;
  number : l.ring.first < 2 ^ 64;
  held : length l.ring.entries ≤ 2 ^ 63;
  first : l.ring.first ≡ l.initial.ring.first;
  ring_spare : l.ring.spare ≡ l.initial.ring.spare;
  notes_spare : l.initial.notes.spare ≤ l.notes.spare;
  width : l.acc ≤ cap;
}

abbrev pub decreases-loop-note : goal.decreases-loop-note
decreases-loop-note l = length l.notes.items
