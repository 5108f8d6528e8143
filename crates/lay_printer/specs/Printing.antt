-- What contracts see of frames, and of a printer.
use Rattle.std.specs.Prelude.{ℕ, List, Option}
use Rattle.lay_layout.specs.declared.layout.Frame.{Frame}
use Rattle.lay_ring.specs.declared.entry.Entry.{Entry}
use Rattle.lay_stream.specs.declared.line.Line.{Line}
use Rattle.lay_printer.specs.declared.engine.PrintError.{PrintError}

-- the frames of the open groups, the innermost first, and for how many more there is room
pub record Framed : Type 0 where
  pub frames : List Frame
  pub spare : ℕ

-- The waiting tokens with their sizes, the oldest first; the number of the first one; how many
-- groups are open after all of them; how many tokens may come before memory is taken; why a call
-- failed, if one did; and the line being written, with its frames.
pub record Printing : Type 0 where
  pub entries : List Entry
  pub first : ℕ
  pub groups : ℕ
  pub spare : ℕ
  pub failed : Option PrintError
  pub line : Line
  pub frames : List Frame

-- a printer that owns its sink
pub record Owning (K : Type 0) : Type 0 where
  pub core : Printing
  pub sink : K
