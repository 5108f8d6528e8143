-- Waiting tokens, with their sizes as far as the tokens fed so far decide them.
use Rattle.std.specs.Prelude.{ℕ, zero, suc, ◌+◌, min, pos, Bool, true, false, List, [], ◌∷◌, length}
use Rattle.lay_layout.specs.declared.layout.Tok.{Tok}
use Rattle.lay_layout.specs.declared.layout.Tok.TheVariants as tok
use Rattle.lay_ring.specs.declared.entry.Size.{Size}
use Rattle.lay_ring.specs.declared.entry.Size.TheVariants.{Unknown, Known}
use Rattle.lay_ring.specs.declared.entry.Entry.{Entry}
use Rattle.lay_layout.specs.Document.{width_of_break}
use Rattle.lay_layout.specs.Machine.{outer}
use Rattle.lay_layout.specs.Margins.{greatest_width}

-- How far a measure has come in the tokens fed so far. It has ended, or it goes on at a depth.
pub data Scan : Type 0 where
  Stopped : (n : ℕ) → Scan
  Going : (n depth : ℕ) → Scan

abbrev pub widen : ℕ → Scan → Scan
widen w (Stopped n) = Stopped (w + n)
widen w (Going n d) = Going (w + n) d

abbrev pub scan : ℕ → List Tok → Scan
scan d [] = Going 0 d
scan d (tok.Text t ∷ ts) = widen (length t) (scan d ts)
scan zero (tok.Break b ∷ ts) = Stopped 0
scan (suc d) (tok.Break b ∷ ts) = widen (width_of_break b) (scan (suc d) ts)
scan d (tok.Begin c o ∷ ts) = scan (suc d) ts
scan d (tok.End ∷ ts) = scan (outer d) ts

-- the greatest size that is stored
abbrev pub cap : ℕ
cap = greatest_width

abbrev pub size_of_scan : Scan → Size
size_of_scan (Stopped n) = Known (pos (min n cap))
size_of_scan (Going n d) = Unknown

abbrev pub scan_of : Tok → List Tok → Scan
scan_of (tok.Text t) ts = Stopped (length t)
scan_of (tok.Break b) ts = widen (width_of_break b) (scan 0 ts)
scan_of (tok.Begin c o) ts = scan 1 ts
scan_of tok.End ts = Stopped 0

-- the scan when no more tokens come: each measure has ended
abbrev pub at_end : Bool → Scan → Scan
at_end false c = c
at_end true (Stopped n) = Stopped n
at_end true (Going n d) = Stopped n

-- the entries of waiting tokens; `ended` says that no more tokens come
abbrev pub sized : Bool → List Tok → List Entry
sized ended [] = []
sized ended (t ∷ ts) = record { tok = t; size = size_of_scan (at_end ended (scan_of t ts)) } ∷ sized ended ts

-- the length of the text of a token, and of those of entries
abbrev pub text_length : Tok → ℕ
text_length (tok.Text t) = length t
text_length t = 0

abbrev pub waiting : List Entry → ℕ
waiting [] = 0
waiting (e ∷ es) = text_length e.tok + waiting es
