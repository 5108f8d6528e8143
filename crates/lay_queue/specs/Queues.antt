-- The effect of a call on a queue.
use Rattle.std.specs.Prelude.{◌≡◌, ℕ, ◌+◌, ◌^◌, ◌<◌, ◌≤◌, min, false, List, [], ◌∷◌, ◌++◌, length}
use Rattle.lay_layout.specs.declared.layout.Tok.{Tok}
use Rattle.lay_layout.specs.declared.layout.Tok.TheVariants as tok
use Rattle.lay_layout.specs.Machine.{opened}
use Rattle.lay_layout.specs.Margins.{margin}
use Rattle.lay_ring.specs.declared.entry.Size.{Size}
use Rattle.lay_ring.specs.declared.entry.Entry.{Entry}
use Rattle.lay_queue.specs.Scan.{text_length}
use Rattle.lay_queue.specs.declared.queue.Queue.{Queue}
use Rattle.lay_queue.specs.Closed.{toks_of}

-- for how many more tokens the queue has room, each with a note
abbrev pub room_in : Queue → ℕ
room_in q = min q.ring.spare q.notes.spare

-- A token may come: the queue isn't ended, and it has room.
pub record Ready (q : Queue) : Type 0 where
  pub ended : q.ended ≡ false
  pub ring : 0 < q.ring.spare
  pub notes : 0 < q.notes.spare
  pub held : length q.ring.entries < 2 ^ 63
  pub few : q.waiting ≤ margin
  pub groups : q.groups + 1 < 2 ^ 64

-- A token other than a break is added after the entries, which stay as they are. A break may end
-- the measures of others.
abbrev pub IsAdded : Tok → (old new : List Entry) → Type 0
IsAdded (tok.Break b) old new = Unit {0}
IsAdded t old new = (size : Size) × (new ≡ old ++ record { tok = t; size = size } ∷ [])

-- A token came, and its entry is the last one.
pub record Comes (old new : Queue) (t : Tok) : Type 0 where
  pub toks : toks_of new.ring.entries ≡ toks_of old.ring.entries ++ t ∷ []
  pub added : IsAdded t old.ring.entries new.ring.entries
  pub waiting : new.waiting ≡ old.waiting + text_length t
  pub groups : new.groups ≡ opened (t ∷ []) old.groups
  pub first : new.ring.first ≡ old.ring.first
  pub ended : new.ended ≡ false
  pub room : room_in old ≤ room_in new + 1

-- Only room was made. All else stays as it is.
pub record Roomier (old new : Queue) : Type 0 where
  pub entries : new.ring.entries ≡ old.ring.entries
  pub first : new.ring.first ≡ old.ring.first
  pub groups : new.groups ≡ old.groups
  pub ended : new.ended ≡ old.ended
  pub waiting : new.waiting ≡ old.waiting
  pub room : room_in old ≤ room_in new
