-- An engine, which is the queue and the page of a printer, and what they keep to.
use Rattle.std.specs.Prelude.{◌≡◌, ℕ, ◌+◌, ◌-◌, ◌%◌, ◌^◌, ◌≤◌, min, false, [], length, Option, None}
use Rattle.lay_queue.specs.Entries.{next_of}
use Rattle.lay_queue.specs.Queues.{room_in}
use Rattle.lay_printer.specs.declared.engine.Engine.{Engine}
use Rattle.lay_printer.specs.declared.engine.PrintError.{PrintError}
use Rattle.lay_printer.specs.Queued.{Decided, IsLimit}

-- for how many more tokens there is room, each with a note, and with a frame for each one that
-- waits
abbrev pub room_of : Engine → ℕ
room_of e = min (room_in e.queue) (e.page.frames.spare - length e.queue.ring.entries)

-- What stays the same while entries are printed.
pub record Stays (old new : Engine) : Type 0 where
  pub ended : new.queue.ended ≡ old.queue.ended
  pub groups : new.queue.groups ≡ old.queue.groups
  pub number : next_of new.queue.ring.first new.queue.ring.entries ≡ next_of old.queue.ring.first old.queue.ring.entries
  pub room : room_of old ≤ room_of new

-- No token waited, and a token was printed at once.
pub record Passes (old new : Engine) : Type 0 where
  pub empty : new.queue.ring.entries ≡ []
  pub ended : new.queue.ended ≡ old.queue.ended
  pub groups : new.queue.groups ≡ old.queue.groups
  pub number : next_of new.queue.ring.first new.queue.ring.entries
      ≡ (next_of old.queue.ring.first old.queue.ring.entries + 1) % 2 ^ 64
  pub room : room_of old ≤ room_of new

-- An invariant of the printer between calls. As long as none has failed, tokens may come, no more
-- text waits than the space, the oldest entry isn't decided, and the limit of text that decides it
-- is known.
pub record Sound (e : Engine) (failed : Option PrintError) (spare : ℕ) : Type 0 where
  pub live : failed ≡ None → e.queue.ended ≡ false
  pub lag : failed ≡ None → e.queue.waiting ≤ e.page.line.room - e.page.line.used
  pub undecided : failed ≡ None → Decided e.queue.ring.entries e.queue.waiting e.page.line None
  pub limit : failed ≡ None → IsLimit e.queue.ring.entries e.page.line e.limit
  pub kept : spare ≤ room_of e
