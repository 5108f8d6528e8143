-- What a sink in memory keeps: the bytes written to it, unless a piece didn't fit, and how many
-- more bytes fit.
use Rattle.std.specs.Prelude.{ℕ, ◌-◌, List, [], length, take, Option, None, Some, if◌then◌else◌}
use Rattle.std.specs.Box.{boxed_slice_items, boxed_slice_len}
use Rattle.lay_io.specs.Told.{put_behind}
use Rattle.lay_io.specs.declared.room.Room.{Room}

pub record Kept : Type 0 where
  pub bytes : Option (List ℕ)
  pub spare : ℕ

-- nothing yet, with room for this many bytes
abbrev pub empty : ℕ → Kept
empty room = record { bytes = Some []; spare = room }

-- the piece is put after what was kept; it fits, and takes its length from the room
abbrev pub kept_behind : Kept → List ℕ → Kept
kept_behind kept piece = record { bytes = put_behind kept.bytes piece; spare = kept.spare - length piece }

-- after a piece that doesn't fit: the content is unknown, and the room is as before, since nothing
-- was stored
abbrev pub untold : Kept → Kept
untold kept = record { bytes = None; spare = kept.spare }

abbrev pub kept_in : Room → Kept
kept_in room = record {
  bytes = if room.fits then Some (take room.used (boxed_slice_items room.bytes)) else None;
  spare = boxed_slice_len room.bytes - room.used;
}
