-- The layout of a stream, token by token: the text and the state after its first tokens. It is the
-- same layout as that of documents, but defined for every list of tokens.
use Rattle.std.specs.Prelude.{◌≡◌, ℕ, zero, suc, ◌+◌, ◌<◌, Bool, List, [], ◌∷◌, ◌++◌, length, take, drop, ℤ}
use Rattle.lay_layout.specs.declared.layout.Frame.{Frame}
use Rattle.lay_layout.specs.declared.layout.Tok.{Tok}
use Rattle.lay_layout.specs.declared.layout.Tok.TheVariants as tok
use Rattle.lay_layout.specs.Document.{State, width_of_break, over, write, enter, break_in, outside, start, space_of}

-- the level around this one
abbrev pub outer : ℕ → ℕ
outer zero = zero
outer (suc n) = n

-- how many groups are open after the tokens, where n are open before them
abbrev pub opened : List Tok → ℕ → ℕ
opened [] n = n
opened (tok.Text t ∷ ts) n = opened ts n
opened (tok.Break b ∷ ts) n = opened ts n
opened (tok.Begin c o ∷ ts) n = opened ts (suc n)
opened (tok.End ∷ ts) n = opened ts (outer n)

-- Where n groups are open, each End closes one.
abbrev pub IsNested : ℕ → List Tok → Type 0
IsNested n [] = Unit {0}
IsNested n (tok.Text t ∷ ts) = IsNested n ts
IsNested n (tok.Break b ∷ ts) = IsNested n ts
IsNested n (tok.Begin c o ∷ ts) = IsNested (suc n) ts
IsNested n (tok.End ∷ ts) = (0 < n) × IsNested (outer n) ts

-- Where n groups are open, each End closes one, and none is open at the end.
abbrev pub IsClosed : ℕ → List Tok → Type 0
IsClosed n s = IsNested n s × (opened s n ≡ 0)

-- the flat width from a break on; at depth 0 the break ends the measure
abbrev pub reach_break : ℕ → ℕ → ℕ → ℕ
reach_break zero width rest = 0
reach_break (suc d) width rest = width + rest

-- the flat width of the tokens up to the first break that is in no group: neither in one that
-- begins among the tokens, nor in one of the d groups open before them
abbrev pub reach : ℕ → List Tok → ℕ
reach d [] = 0
reach d (tok.Text t ∷ ts) = length t + reach d ts
reach d (tok.Break b ∷ ts) = reach_break d (width_of_break b) (reach d ts)
reach d (tok.Begin c o ∷ ts) = reach (suc d) ts
reach d (tok.End ∷ ts) = reach (outer d) ts

-- The measure of a token that `rest` follows. A Begin is measured up to the next break outside of
-- its group and of later groups. A Break is measured by its own width, and on to the next break
-- outside of later groups. For the other tokens nothing is compared.
abbrev pub measure : Tok → List Tok → ℕ
measure (tok.Text t) rest = length t
measure (tok.Break b) rest = width_of_break b + reach 0 rest
measure (tok.Begin c o) rest = reach 1 rest
measure tok.End rest = 0

-- the frames of the open groups, the innermost first, and the state
pub record Layout : Type 0 where
  pub frames : List Frame
  pub state : State

-- the frame of the innermost open group, or the frame outside of all groups
abbrev pub top : List Frame → Frame
top [] = outside
top (f ∷ fs) = f

abbrev pub below : List Frame → List Frame
below [] = []
below (f ∷ fs) = fs

-- the layout after a token, by whether the token's measure is greater than the space
abbrev pub act : Tok → Bool → Layout → Layout
act (tok.Text t) big m = record { frames = m.frames; state = write t m.state }
act (tok.Break b) big m = record { frames = m.frames; state = break_in (top m.frames) b big m.state }
act (tok.Begin c o) big m = record { frames = enter (top m.frames) c o big ∷ m.frames; state = m.state }
act tok.End big m = record { frames = below m.frames; state = m.state }

-- the layout after a token that `rest` follows
abbrev pub step : Tok → List Tok → Layout → Layout
step t rest m = act t (over (measure t rest) m.state) m

-- the layout after tokens that `rest` follows
abbrev pub play : List Tok → List Tok → Layout → Layout
play [] rest m = m
play (t ∷ ts) rest m = play ts rest (step t (ts ++ rest) m)

abbrev pub begun : Layout
begun = record { frames = []; state = start }

-- the layout after the first j tokens of a stream
abbrev pub layout_after : List Tok → ℕ → Layout
layout_after s j = play (take j s) (drop j s) begun

-- the text and the space after the first j tokens of a stream
abbrev pub shown : List Tok → ℕ → List ℕ
shown s j = (layout_after s j).state.text

abbrev pub space : List Tok → ℕ → ℤ
space s j = space_of (layout_after s j).state

-- the text of a stream
abbrev pub text : List Tok → List ℕ
text s = (play s [] begun).state.text
