-- Documents of texts, breaks and groups, and the text that each document is laid out as (Oppen,
-- "Prettyprinting", TOPLAS 2(4), 1980). A line has 89 columns, and a new line has a space of at
-- least 60. A width counts bytes. The indent of a frame is between 0 and 240, and at most 1,000,000
-- blanks wait to be written.
use Rattle.std.specs.Prelude.{◌≡◌, ℕ, ◌+◌, ◌-◌, min, max, Bool, true, false, nat_lt, List, [], ◌∷◌, ◌++◌, length, replicate, ℤ, pos, negsuc, ◌-ℤ◌}
use Rattle.lay_layout.specs.declared.layout.Mark.{Mark}
use Rattle.lay_layout.specs.declared.layout.Mark.TheVariants.{Absent, Comma, OpenBrace, CloseBrace}
use Rattle.lay_layout.specs.declared.layout.Break.{Break}
use Rattle.lay_layout.specs.declared.layout.Frame.{Frame}
use Rattle.lay_layout.specs.declared.layout.Frame.TheVariants.{Flat, Broken}
use Rattle.lay_layout.specs.declared.layout.Tok.{Tok}
use Rattle.lay_layout.specs.declared.layout.Tok.TheVariants as tok
use Rattle.lay_layout.specs.Margins.{margin, least_space, greatest_indent, greatest_blanks}

-- A document is texts, breaks and groups, in order.
pub data Document : Type 0 where
  Empty : Document
  AddText : (text : List ℕ) (rest : Document) → Document
  AddBreak : (brk : Break) (rest : Document) → Document
  AddGroup : (consistent : Bool) (offset : ℤ) (inner rest : Document) → Document

-- The stream of a document is its flattening to tokens.
abbrev pub stream : Document → List Tok
stream Empty = []
stream (AddText t rest) = tok.Text t ∷ stream rest
stream (AddBreak b rest) = tok.Break b ∷ stream rest
stream (AddGroup c o inner rest) = tok.Begin c o ∷ (stream inner ++ tok.End ∷ stream rest)

-- A stream is whole where it is the flattening of a document.
abbrev pub IsWhole : List Tok → Type 0
IsWhole s = (d : Document) × (stream d ≡ s)

abbrev pub bytes_of_mark : Mark → List ℕ
bytes_of_mark Absent = []
bytes_of_mark Comma = 44 ∷ []
bytes_of_mark OpenBrace = 123 ∷ []
bytes_of_mark CloseBrace = 125 ∷ []

-- the flat width of a break: its blanks and its mark `instead`
abbrev pub width_of_break : Break → ℕ
width_of_break b = b.blank + length (bytes_of_mark b.instead)

-- the flat width of a document
abbrev pub flat : Document → ℕ
flat Empty = 0
flat (AddText t rest) = length t + flat rest
flat (AddBreak b rest) = width_of_break b + flat rest
flat (AddGroup c o inner rest) = flat inner + flat rest

-- the flat width of the document up to its first break at this level; without such a break, all its
-- flat width plus `follow`
abbrev pub ahead : Document → ℕ → ℕ
ahead Empty follow = follow
ahead (AddText t rest) follow = length t + ahead rest follow
ahead (AddBreak b rest) follow = 0
ahead (AddGroup c o inner rest) follow = flat inner + ahead rest follow

-- The state of the layout: the text so far, and the blanks still to be written before what comes
-- next. The space is the room of the line minus what is used of it. It may be negative.
pub record State : Type 0 where
  pub text : List ℕ
  pub pending : ℕ
  pub room : ℕ
  pub used : ℕ

abbrev pub space_of : State → ℤ
space_of s = pos s.room -ℤ pos s.used

-- The measure is greater than the space.
abbrev pub over : ℕ → State → Bool
over measure s = nat_lt s.room (s.used + measure)

-- the number plus the offset, or 0 where the sum is negative
abbrev pub shift : ℕ → ℤ → ℕ
shift n (pos k) = n + k
shift n (negsuc k) = n - (k + 1)

-- The pending blanks are written, and then the bytes. The bytes take their own length from the
-- space.
abbrev pub write : List ℕ → State → State
write bytes s = record { text = s.text ++ (replicate s.pending 32 ++ bytes); pending = 0; room = s.room; used = s.used + length bytes }

abbrev pub put_mark : Mark → State → State
put_mark Absent s = s
put_mark Comma s = write (bytes_of_mark Comma) s
put_mark OpenBrace s = write (bytes_of_mark OpenBrace) s
put_mark CloseBrace s = write (bytes_of_mark CloseBrace) s

-- An LF is written, and a line begins with k blanks. Blanks that were pending are dropped. The
-- space is what the margin leaves, but no less than the least space.
abbrev pub line : ℕ → State → State
line k s = record { text = s.text ++ 10 ∷ []; pending = k; room = max (margin - k) least_space; used = 0 }

-- A break that is a newline: its mark `before`, a new line, its mark `after`.
abbrev pub newline : Break → ℕ → State → State
newline b indent s = put_mark b.after (line (shift indent b.offset) (put_mark b.before s))

-- A break that is no newline: its blanks become pending, up to the greatest count, and then its
-- mark `instead` is put.
abbrev pub skip : Break → State → State
skip b s = put_mark b.instead (record { text = s.text; pending = min (s.pending + b.blank) greatest_blanks; room = s.room; used = s.used + b.blank })

-- The frame of a group, by the frame around it and by whether its measure is greater than the
-- space. It is flat in a flat frame, and where it fits. Else it is broken, with its offset added to
-- the indent.
abbrev pub enter : Frame → Bool → ℤ → Bool → Frame
enter Flat c o big = Flat
enter (Broken outer i) c o true = Broken c (min (shift i o) greatest_indent)
enter (Broken outer i) c o false = Flat

-- The state after a break, by whether it is never a newline, by its frame, and by whether its
-- measure is greater than the space.
abbrev pub break_by : Bool → Frame → Break → Bool → State → State
break_by true f b big s = skip b s
break_by false Flat b big s = skip b s
break_by false (Broken true i) b big s = newline b i s
break_by false (Broken false i) b true s = newline b i s
break_by false (Broken false i) b false s = skip b s

abbrev pub break_in : Frame → Break → Bool → State → State
break_in f b big s = break_by b.never f b big s

-- The state after a document, which is laid out in a frame and from a state. What follows the
-- document up to the next break has the width `follow`. The measure of a group or a break is its
-- flat width plus the width of what is ahead of it.
abbrev pub render : Document → Frame → State → ℕ → State
render Empty f s follow = s
render (AddText t rest) f s follow = render rest f (write t s) follow
render (AddBreak b rest) f s follow = render rest f (break_in f b (over (width_of_break b + ahead rest follow) s) s) follow
render (AddGroup c o inner rest) f s follow =
    render rest f (render inner (enter f c o (over (flat inner + ahead rest follow) s)) s (ahead rest follow)) follow

-- the frame outside of all groups
abbrev pub outside : Frame
outside = Broken false 0

-- the state before all tokens
abbrev pub start : State
start = record { text = []; pending = 0; room = margin; used = 0 }

-- the text of a document
abbrev pub text_of : Document → List ℕ
text_of d = (render d outside start 0).text
