-- A printer between calls: which tokens of a stream are printed and which wait, and how a call
-- changes that.
use Rattle.std.specs.Prelude.{◌≡◌, ℕ, ◌+◌, ◌≤◌, ◌<◌, Bool, true, false, nat_lt, pos, negsuc}
use Rattle.std.specs.Prelude.{List, [], ◌∷◌, ◌++◌, Option, Some, None, Result, OnOk, OnErr}
use Rattle.lay_layout.specs.declared.layout.Tok.{Tok}
use Rattle.lay_layout.specs.declared.layout.Tok.TheVariants as tok
use Rattle.lay_layout.specs.declared.layout.Frame.{Frame}
use Rattle.lay_layout.specs.Document.{over}
use Rattle.lay_layout.specs.Margins.{margin}
use Rattle.lay_layout.specs.Machine.{Layout, act, begun, measure, play, text}
use Rattle.lay_ring.specs.declared.entry.Size.{Size}
use Rattle.lay_ring.specs.declared.entry.Size.TheVariants.{Unknown, Known, Forced}
use Rattle.lay_ring.specs.declared.entry.Entry.{Entry}
use Rattle.lay_queue.specs.Entries.{least_width}
use Rattle.lay_queue.specs.Scan.{sized}
use Rattle.lay_stream.specs.declared.line.Line.{Line}
use Rattle.lay_stream.specs.Pages.{At, Wrote, Cut}

-- The tokens r may follow; none may after the end.
abbrev pub MayFollow : Bool → List Tok → Type 0
MayFollow false r = Unit {0}
MayFollow true r = r ≡ []

-- The printer after the tokens s. The first ones are printed in the same way whatever follows s,
-- and the others wait.
pub record Holds (ended : Bool) (s : List Tok) (entries : List Entry) (layout : Layout) : Type 0 where
  pub printed : List Tok
  pub waits : List Tok
  pub all : printed ++ waits ≡ s
  pub are_sized : entries ≡ sized ended waits
  pub small : layout.state.room ≤ margin
  pub shown : (r : List Tok) → MayFollow ended r → play printed (waits ++ r) begun ≡ layout

-- The decision whether the oldest entry is too big, as far as it is known: the entry has at least
-- this width, and the text that waits. None: not decided.
abbrev pub Says : Size → (least wait : ℕ) → Line → Option Bool → Type 0
Says Unknown least wait line None = line.used + (least + wait) ≤ line.room
Says Unknown least wait line (Some big) = (big ≡ true) × (line.room < line.used + (least + wait))
Says (Known (pos k)) least wait line r = r ≡ Some (nat_lt line.room (line.used + k))
Says (Known (negsuc k)) least wait line r = r ≡ Some false
Says Forced least wait line r = r ≡ Some true

abbrev pub Decided : List Entry → ℕ → Line → Option Bool → Type 0
Decided [] wait line r = r ≡ None
Decided (e ∷ es) wait line r = Says e.size (least_width e.tok) wait line r

-- The oldest entry, if there is one, isn't decided for some length of waiting text.
abbrev pub IsUndecided : List Entry → Line → Type 0
IsUndecided [] line = Unit {0}
IsUndecided (e ∷ es) line = (wait : ℕ) × Says e.size (least_width e.tok) wait line None

-- The oldest entry, if there is one, has no size yet. It is decided where more text than the limit
-- waits.
abbrev pub IsLimit : List Entry → Line → ℕ → Type 0
IsLimit [] line limit = Unit {0}
IsLimit (e ∷ es) line limit = (e.size ≡ Unknown) × (line.used + (least_width e.tok + limit) ≡ line.room)

-- There is an oldest entry, and it has no size yet.
abbrev pub IsOpenAtFront : List Entry → Type 0
IsOpenAtFront [] = ⊥
IsOpenAtFront (e ∷ es) = e.size ≡ Unknown

-- The token that came last leaves the oldest entry undecided, as it was. A text does where no more
-- text waits than the limit, and a break where the entry still has no size.
abbrev pub MayStay : Tok → List Entry → (wait limit : ℕ) → Type 0
MayStay (tok.Text t) entries wait limit = wait ≤ limit
MayStay (tok.Break b) entries wait limit = IsOpenAtFront entries
MayStay t entries wait limit = Unit {0}

-- The token is printed as one that doesn't fit, whatever follows it.
abbrev pub IsClear : Line → List Frame → Tok → Type 0
IsClear line frames t = (m : Layout) → At line frames m → (r : List Tok)
    → act t (over (measure t r) m.state) m ≡ act t true m

-- A token is printed: Ok makes the layout act of it. Err leaves a prefix of the text of that
-- layout.
pub record Prints {T E : Type 0} (line : Line) (frames : List Frame) (before : Option (List ℕ)) (result : Result T E)
    (line' : Line) (frames' : List Frame) (now : Option (List ℕ)) (tok : Tok) (big : Bool) : Type 0 where
  pub ok : OnOk result ((content : List ℕ) (m : Layout) → At line frames m → Wrote before content m.state.text
      → At line' frames' (act tok big m) × Wrote now content (act tok big m).state.text)
  pub err : OnErr result ((content : List ℕ) (m : Layout) → At line frames m → Wrote before content m.state.text
      → Cut now content (act tok big m).state.text)

-- The printer holds the tokens s of a stream. Its sink had this content before them.
pub record Running (ended : Bool) (entries : List Entry) (line : Line) (frames : List Frame)
    (written : Option (List ℕ)) (content : List ℕ) (s : List Tok) : Type 0 where
  pub layout : Layout
  pub holds : Holds ended s entries layout
  pub at : At line frames layout
  pub wrote : Wrote written content layout.state.text

-- What was written is a prefix of the text of s and of whatever tokens may follow.
abbrev pub Broken : Bool → Option (List ℕ) → List ℕ → List Tok → Type 0
Broken ended written content s = (r : List Tok) → MayFollow ended r → Cut written content (text (s ++ r))

-- From a printer that holds tokens: Ok makes it hold f of them. Err leaves a prefix of the text of
-- f of them and what follows.
pub record Advances {T E : Type 0} (ended : Bool) (entries : List Entry) (line : Line) (frames : List Frame)
    (before : Option (List ℕ)) (result : Result T E) (entries' : List Entry) (line' : Line) (frames' : List Frame)
    (now : Option (List ℕ)) (f : List Tok → List Tok) : Type 0 where
  pub ok : OnOk result ((content : List ℕ) (s : List Tok)
      → Running ended entries line frames before content s → Running ended entries' line' frames' now content (f s))
  pub err : OnErr result ((content : List ℕ) (s : List Tok)
      → Running ended entries line frames before content s → Broken ended now content (f s))

-- The waiting tokens are printed, and the stream ends.
pub record Ends {T E : Type 0} (entries : List Entry) (line : Line) (frames : List Frame) (before : Option (List ℕ))
    (result : Result T E) (now : Option (List ℕ)) : Type 0 where
  pub ok : OnOk result ((content : List ℕ) (s : List Tok)
      → Running false entries line frames before content s → Wrote now content (text s))
  pub err : OnErr result ((content : List ℕ) (s : List Tok)
      → Running false entries line frames before content s → Cut now content (text s))
