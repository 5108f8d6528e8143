-- Sizes that are written back to the entries, when their measures end.
use Rattle.std.specs.Prelude.{◌≡◌, ℕ, ◌<◌, ◌⊎◌, List, [], ◌∷◌, ◌++◌, map}
use Rattle.lay_layout.specs.declared.layout.Tok.{Tok}
use Rattle.lay_ring.specs.declared.entry.Size.{Size}
use Rattle.lay_ring.specs.declared.entry.Entry.{Entry}
use Rattle.lay_queue.specs.Scan.{Scan, size_of_scan}
use Rattle.lay_queue.specs.declared.close.Note.{Note}
use Rattle.lay_queue.specs.Notes.{scans, stop, Fits}

abbrev pub toks_of : List Entry → List Tok
toks_of [] = []
toks_of (e ∷ es) = e.tok ∷ toks_of es

abbrev pub sizes_of : List Entry → List Size
sizes_of [] = []
sizes_of (e ∷ es) = e.size ∷ sizes_of es

-- There is no note, or fewer than cur groups were open when the newest one was made.
abbrev pub NoteKept : ℕ → List Note → Type 0
NoteKept cur ms = (ms ≡ []) ⊎ ((before : List Note) × (m : Note) × (ms ≡ before ++ m ∷ []) × (m.level < cur))

-- Some notes were popped, and the tokens of the entries are w. acc is the width since the newest
-- note.
pub record Left (w : List Tok) (first acc cur : ℕ) (entries : List Entry) (ms : List Note) : Type 0 where
  pub now : List Scan
  pub toks : toks_of entries ≡ w
  pub sizes : sizes_of entries ≡ map size_of_scan now
  pub stops : map stop now ≡ map stop (scans w)
  pub fits : Fits first acc cur cur now ms

-- All notes to be popped were popped: no scan remains that a break stops.
pub record Closed (w : List Tok) (first acc cur : ℕ) (entries : List Entry) (ms : List Note) : Type 0 where
  pub left : Left w first acc cur entries ms
  pub none : map stop left.now ≡ left.now
