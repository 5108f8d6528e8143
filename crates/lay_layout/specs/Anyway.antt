-- Every text that a document may be laid out as, if the width of the line decides nothing: each
-- group and each break may go either way that its kind allows.
use Rattle.std.specs.Prelude.{ℕ, ◌≡◌, ◌⊎◌, min, Bool, false, ◌&&◌, ◌||◌, ◌==◌, not, List, IsTrue, IsFalse, ℤ}
use Rattle.lay_layout.specs.declared.layout.Break.{Break}
use Rattle.lay_layout.specs.declared.layout.Frame.{Frame}
use Rattle.lay_layout.specs.declared.layout.Frame.TheVariants.{Flat, Broken}
use Rattle.lay_layout.specs.Margins.{greatest_indent}
use Rattle.lay_layout.specs.Document.{Document, Empty, AddText, AddBreak, AddGroup, State, write, newline, skip, shift, outside, start}

-- A hard break has 65535 blanks, which no space holds.
abbrev pub is_hard : Break → Bool
is_hard b = b.blank == 65535

abbrev pub has_hard : Document → Bool
has_hard Empty = false
has_hard (AddText t rest) = has_hard rest
has_hard (AddBreak b rest) = is_hard b || has_hard rest
has_hard (AddGroup c o inner rest) = has_hard inner || has_hard rest

-- the frames that a group may have: flat in a flat frame; else broken, or flat too where it holds
-- no hard break
abbrev pub Enters : Frame → Bool → ℤ → Document → Frame → Type 0
Enters Flat c o inner g = g ≡ Flat
Enters (Broken outer i) c o inner g = (g ≡ Broken c (min (shift i o) greatest_indent)) ⊎ (IsFalse (has_hard inner) × (g ≡ Flat))

-- Whether a break may be a newline (`may_turn`), and whether it may be none (`may_stay`). A break
-- that is never a newline is none. In a flat frame each other break is none, save that a hard one
-- may be neither there. In a broken frame a hard break is a newline. Each other break is a newline
-- too where the frame is consistent; elsewhere it is a newline or none.
abbrev pub may_turn : Frame → Break → Bool
may_turn Flat b = false
may_turn (Broken c i) b = not b.never

abbrev pub may_stay : Frame → Break → Bool
may_stay Flat b = b.never || not (is_hard b)
may_stay (Broken c i) b = b.never || (not c && not (is_hard b))

abbrev pub indent_of : Frame → ℕ
indent_of Flat = 0
indent_of (Broken c i) = i

-- In the frame, laying out the document may lead from the first state to the second.
abbrev pub Leads : Frame → Document → State → State → Type 0
Leads f Empty s end = s ≡ end
Leads f (AddText t rest) s end = Leads f rest (write t s) end
Leads f (AddBreak b rest) s end =
    (IsTrue (may_turn f b) × Leads f rest (newline b (indent_of f) s) end) ⊎ (IsTrue (may_stay f b) × Leads f rest (skip b s) end)
Leads f (AddGroup c o inner rest) s end =
    (g : Frame) × (mid : State) × Enters f c o inner g × Leads g inner s mid × Leads f rest mid end

-- The text is one of those that the document may be laid out as.
abbrev pub Anyway : Document → List ℕ → Type 0
Anyway d text = (end : State) × Leads outside d start end × (end.text ≡ text)
