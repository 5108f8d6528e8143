-- Promises about a printer after any tokens s, whatever tokens r follow: the text, the space, the
-- measures and blanks at ends.
use Rattle.std.specs.Prelude.{◌≡◌, ◌≢◌, ℕ, zero, suc, ◌+◌, ◌-◌, ◌≤◌, eqb, min, ℤ, pos, ◌-ℤ◌}
use Rattle.std.specs.Prelude.{Bool, true, false, List, [], ◌∷◌, ◌++◌, drop, Option}
use Rattle.lay_layout.specs.declared.layout.Tok.{Tok}
use Rattle.lay_layout.specs.declared.layout.Tok.TheVariants as tok
use Rattle.lay_layout.specs.Document.{State}
use Rattle.lay_layout.specs.Machine.{outer, measure, layout_after, shown}
use Rattle.lay_queue.specs.Scan.{cap}
use Rattle.lay_queue.specs.Closed.{toks_of}
use Rattle.lay_printer.specs.Printing.{Printing}
use Rattle.lay_stream.specs.Pages.{Is, Wrote}
use Rattle.lay_printer.specs.Printers.{Runs, at}
use Rattle.lay_ring.specs.declared.entry.Size.TheVariants.{Unknown, Known, Forced}
use Rattle.lay_ring.specs.declared.entry.Entry.{Entry}
use Rattle.lay_stream.specs.declared.line.Line.{Line}

-- The sink grew by the text up to the last printed token, the line is in the state after that
-- token, and the tokens of s after it wait.
pub record InStep (es : List Entry) (p : Line) (w : Option (List ℕ)) (content : List ℕ) (s r : List Tok) : Type 0 where
  pub grown : Wrote w content (shown (s ++ r) (at s es))
  pub line : Is p (layout_after (s ++ r) (at s es)).state
  pub waits : toks_of es ≡ drop (at s es) s

abbrev pub KeepsStep : Printing → Type 0
KeepsStep c = (written : Option (List ℕ)) (content : List ℕ) (s : List Tok)
    → Runs c written content s → (r : List Tok) → InStep c.entries c.line written content s r

-- the state after the last printed token
abbrev pub state_of : Printing → (s r : List Tok) → State
state_of c s r = (layout_after (s ++ r) (at s c.entries)).state

-- the greater of the space and 0
abbrev pub space_left : State → ℕ
space_left s = s.room - s.used

-- the greater of the space and -2^62
abbrev pub least_space : State → ℤ
least_space s = pos s.room -ℤ pos (min s.used (s.room + cap))

-- This many bytes fit in the space.
abbrev pub FitSpace : Printing → ℕ → Type 0
FitSpace c bytes = (written : Option (List ℕ)) (content : List ℕ) (s : List Tok)
    → Runs c written content s → (r : List Tok) → bytes ≤ space_left (state_of c s r)

-- This is the space, or -2^62 where the space is less.
abbrev pub IsSpace : Printing → ℤ → Type 0
IsSpace c space = (written : Option (List ℕ)) (content : List ℕ) (s : List Tok)
    → Runs c written content s → (r : List Tok) → space ≡ least_space (state_of c s r)

-- The printer was fed nothing, and its sink has this content.
abbrev pub RunsFresh : Printing → Option (List ℕ) → Type 0
RunsFresh c written = (content : List ℕ) → Wrote written content [] → Runs c written content []

-- The new printer was fed all that the old one was.
abbrev pub RunsAs : (old new : Printing) → Type 0
RunsAs old new = (written : Option (List ℕ)) (content : List ℕ) (s : List Tok)
    → Runs old written content s → Runs new written content s

-- All but the room is the same.
abbrev pub IsSame : (old new : Printing) → Type 0
IsSame old new = new ≡ record old { spare = new.spare }

-- There is a break outside of all groups: those that begin among the tokens, and the d groups open
-- before them.
abbrev pub has_end : ℕ → List Tok → Bool
has_end d [] = false
has_end d (tok.Text t ∷ ts) = has_end d ts
has_end zero (tok.Break b ∷ ts) = true
has_end (suc d) (tok.Break b ∷ ts) = has_end (suc d) ts
has_end d (tok.Begin c o ∷ ts) = has_end (suc d) ts
has_end d (tok.End ∷ ts) = has_end (outer d) ts

-- The break that ends the token's measure isn't among the tokens after it.
abbrev pub IsOpen : Tok → List Tok → Type 0
IsOpen (tok.Break b) rest = has_end 0 rest ≡ false
IsOpen (tok.Begin c o) rest = has_end 1 rest ≡ false
IsOpen t rest = ⊥

-- The entry's size, where the tokens `rest` were fed after it. A known size is the measure,
-- whatever is fed next, or 2^62 where the measure is greater. The size is unknown only where what
-- ends the measure wasn't fed yet.
pub record IsMeasured (e : Entry) (rest : List Tok) : Type 0 where
  pub known : (k : ℤ) → e.size ≡ Known k → (r : List Tok) → k ≡ pos (min (measure e.tok (rest ++ r)) cap)
  pub unknown : e.size ≡ Unknown → IsOpen e.tok rest
  pub never_forced : e.size ≢ Forced

abbrev pub AreMeasured : List Entry → Type 0
AreMeasured [] = Unit {0}
AreMeasured (e ∷ es) = IsMeasured e (toks_of es) × AreMeasured es

abbrev pub ends_in_blank : List ℕ → Bool
ends_in_blank [] = false
ends_in_blank (x ∷ []) = eqb x 32
ends_in_blank (x ∷ y ∷ ys) = ends_in_blank (y ∷ ys)

-- The last text among the tokens ends in a blank. Without a text, it is as `before` says.
abbrev pub last_blank : List Tok → Bool → Bool
last_blank [] before = before
last_blank (tok.Text t ∷ ts) before = last_blank ts (ends_in_blank t)
last_blank (t ∷ ts) before = last_blank ts before

-- No text among the tokens is empty.
abbrev pub AreFull : List Tok → Type 0
AreFull [] = Unit {0}
AreFull (tok.Text t ∷ ts) = (t ≢ []) × AreFull ts
AreFull (t ∷ ts) = AreFull ts
