-- A line over a sink as a state of the layout, and a line with frames as a layout.
use Rattle.std.specs.Prelude.{◌≡◌, ℕ, ◌+◌, ◌≤◌, List, ◌++◌, min, Option, IfSome, Result, OnOk, OnErr}
use Rattle.lay_layout.specs.declared.layout.Frame.{Frame}
use Rattle.lay_layout.specs.Document.{State}
use Rattle.lay_layout.specs.Machine.{Layout}
use Rattle.lay_layout.specs.Margins.{margin, greatest_width}
use Rattle.lay_stream.specs.declared.line.Line.{Line}

-- the greatest count kept of what is used of a line; the space is exact as long as it is at least
-- -2^62
abbrev pub greatest_used : ℕ
greatest_used = greatest_width + margin

-- The line is at this state. What is used of it is counted up to a bound that no comparison can
-- see.
pub record Is (line : Line) (s : State) : Type 0 where
  pub pending : line.pending ≡ s.pending
  pub room : line.room ≡ s.room
  pub small : s.room ≤ margin
  pub used : line.used ≡ min s.used greatest_used

-- The line and the frames are at this layout.
pub record At (line : Line) (frames : List Frame) (m : Layout) : Type 0 where
  pub frames_are : frames ≡ m.frames
  pub is : Is line m.state

-- if the sink shows what was written, it is the content and then the text
abbrev pub Wrote : Option (List ℕ) → List ℕ → List ℕ → Type 0
Wrote now content text = IfSome now (λ all. all ≡ content ++ text)

-- if the sink shows what was written, it is the content and then a prefix of the text
abbrev pub Cut : Option (List ℕ) → List ℕ → List ℕ → Type 0
Cut now content text =
    IfSome now (λ all. (front : List ℕ) × (back : List ℕ) × (all ≡ content ++ front) × (front ++ back ≡ text))

-- From a line at a state: Ok leads to f of that state. Err leaves a prefix of the text of f of that
-- state.
pub record Moves {T E : Type 0} (line : Line) (before : Option (List ℕ)) (result : Result T E) (after : Line)
    (now : Option (List ℕ)) (f : State → State) : Type 0 where
  pub ok : OnOk result ((content : List ℕ) (s : State)
      → Is line s → Wrote before content s.text → Is after (f s) × Wrote now content (f s).text)
  pub err : OnErr result ((content : List ℕ) (s : State)
      → Is line s → Wrote before content s.text → Cut now content (f s).text)

-- If the line and the text are at a state before, they are at f of that state after.
abbrev pub Follows : (line : Line) (written : List ℕ) (line' : Line) (written' : List ℕ) → (State → State) → Type 0
Follows line written line' written' f =
    (s : State) → Is line s → written ≡ s.text → Is line' (f s) × (written' ≡ (f s).text)

-- a line over a text, with frames, is at this layout
pub record IsLaid (line : Line) (frames : List Frame) (written : List ℕ) (m : Layout) : Type 0 where
  pub at : At line frames m
  pub text : written ≡ m.state.text
