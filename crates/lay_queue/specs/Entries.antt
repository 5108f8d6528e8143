-- What a queue keeps about its entries: their numbers, notes and least widths.
use Rattle.std.specs.Prelude.{ℕ, List, [], ◌∷◌, length}
use Rattle.lay_layout.specs.declared.layout.Tok.{Tok}
use Rattle.lay_layout.specs.declared.layout.Tok.TheVariants as tok
use Rattle.lay_layout.specs.Document.{width_of_break}
use Rattle.lay_ring.specs.Held.{number_of}
use Rattle.lay_ring.specs.declared.entry.Size.{Size}
use Rattle.lay_ring.specs.declared.entry.Size.TheVariants.{Unknown}
use Rattle.lay_ring.specs.declared.entry.Entry.{Entry}
use Rattle.lay_queue.specs.declared.close.Note.{Note}

-- the number of the next entry
abbrev pub next_of : ℕ → List Entry → ℕ
next_of first entries = number_of first (length entries)

-- the notes that remain when an entry of this size is printed
abbrev pub notes_after : Size → List Note → List Note
notes_after Unknown [] = []
notes_after Unknown (m ∷ ms) = ms
notes_after size ms = ms

-- the least width of a token's measure, without texts
abbrev pub least_width : Tok → ℕ
least_width (tok.Break b) = width_of_break b
least_width t = 0
