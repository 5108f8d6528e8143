-- How a row stores entries: small entries, and the bytes of their texts in a row of their own.
use Rattle.std.specs.Prelude.{◌≡◌, ℕ, zero, suc, ◌+◌, ◌-◌, min, ℤ, pos, negsuc, Bool, true, false, List, [], ◌∷◌, ◌++◌, length, take, drop, Option, None, Some}
use Rattle.lay_layout.specs.declared.layout.Tok.{Tok}
use Rattle.lay_layout.specs.declared.layout.Tok.TheVariants as tok
use Rattle.lay_layout.specs.Margins.{margin}
use Rattle.lay_ring.specs.declared.entry.Size.{Size}
use Rattle.lay_ring.specs.declared.entry.Size.TheVariants.{Unknown, Known}
use Rattle.lay_ring.specs.declared.entry.Entry.{Entry}
use Rattle.lay_ring.specs.declared.row.LentTok.{LentTok}
use Rattle.lay_ring.specs.declared.row.LentTok.TheVariants as lent
use Rattle.lay_ring.specs.declared.row.LentEntry.{LentEntry}
use Rattle.lay_ring.specs.declared.row.Kind.{Kind}
use Rattle.lay_ring.specs.declared.row.Kind.TheVariants as kind
use Rattle.lay_ring.specs.declared.row.SmallEntry.{SmallEntry}

-- the token of the layout that was lent
abbrev pub tok_of : LentTok → Tok
tok_of (lent.Text text) = tok.Text text.now
tok_of (lent.Break b) = tok.Break b
tok_of (lent.Begin c o) = tok.Begin c o
tok_of lent.End = tok.End

-- the size that a number stands for; below 0 it is unknown
abbrev pub size_of : ℤ → Size
size_of (pos n) = Known (pos n)
size_of (negsuc n) = Unknown

-- the entry of a lent token, with the size that a number stands for
abbrev pub entry_of : LentTok → ℤ → Entry
entry_of t size = record { tok = tok_of t; size = size_of size }

-- how many bytes of text a token has
abbrev pub text_bytes : Tok → ℕ
text_bytes (tok.Text text) = length text
text_bytes t = 0

-- the text of a token, which is empty where it has none
abbrev pub text_in : Tok → List ℕ
text_in (tok.Text text) = text
text_in t = []

-- how many bytes of text the entries have
abbrev pub bytes_in : List Entry → ℕ
bytes_in [] = 0
bytes_in (e ∷ es) = text_bytes e.tok + bytes_in es

-- the greatest length of a text in bytes: as many as a line has columns
abbrev pub text_most : ℕ
text_most = margin

-- for how many bytes of text there is room at first
abbrev pub bytes_first : ℕ
bytes_first = 128

-- for how many bytes of text there is room when the room is full-sized
abbrev pub bytes_kept : ℕ
bytes_kept = 1024

-- The bytes that wait, and whether their room is full-sized.
pub record Kept : Type 0 where
  pub items : List ℕ
  pub full : Bool

-- for how many bytes there is room
abbrev pub room_in : Bool → ℕ
room_in false = bytes_first
room_in true = bytes_kept

-- For how many of this many texts there is surely room. In a full-sized room it is all. In the
-- first room it is at most one, and only if the longest text fits after what waits.
abbrev pub texts_beside : Bool → (wait count : ℕ) → ℕ
texts_beside true wait count = count
texts_beside false wait count = min count (min 1 (bytes_first + 1 - (wait + text_most)))

abbrev pub texts_in : Kept → ℕ → ℕ
texts_in bytes count = texts_beside bytes.full (length bytes.items) count

-- what is lent is the first entry, if there is one
abbrev pub IsFirst : List Entry → Option LentEntry → Type 0
IsFirst [] r = r ≡ None
IsFirst (e ∷ es) None = ⊥
IsFirst (e ∷ es) (Some w) = (tok_of w.tok ≡ e.tok) × (size_of w.size ≡ e.size)

-- The first `count` entries are texts, and the bytes are these texts, one after the other.
abbrev pub IsRun : ℕ → List Entry → List ℕ → Type 0
IsRun zero es bytes = bytes ≡ []
IsRun (suc n) [] bytes = ⊥
IsRun (suc n) (e ∷ es) bytes =
    (text : List ℕ) × (rest : List ℕ) × (e.tok ≡ tok.Text text) × (bytes ≡ text ++ rest) × IsRun n es rest

-- The first `count` entries are texts, and together they have this many bytes.
abbrev pub AreTexts : ℕ → ℕ → List Entry → Type 0
AreTexts count len es = (bytes : List ℕ) × IsRun count es bytes × (length bytes ≡ len)

-- how many bytes a token of this kind takes from the row of bytes
abbrev pub taken : Kind → ℕ
taken (kind.Text n) = n
taken k = 0

-- the token of this kind, whose text is a prefix of the bytes
abbrev pub tok_at : Kind → List ℕ → Tok
tok_at (kind.Text n) bytes = tok.Text (take n bytes)
tok_at (kind.Break b) bytes = tok.Break b
tok_at (kind.Begin c o) bytes = tok.Begin c o
tok_at kind.End bytes = tok.End

-- the entries that the small entries stand for; the bytes are their texts, one after the other
abbrev pub entries_at : List SmallEntry → List ℕ → List Entry
entries_at [] bytes = []
entries_at (s ∷ ss) bytes =
    record { tok = tok_at s.kind bytes; size = size_of s.size } ∷ entries_at ss (drop (taken s.kind) bytes)

-- how many bytes the small entries take
abbrev pub all_taken : List SmallEntry → ℕ
all_taken [] = 0
all_taken (s ∷ ss) = taken s.kind + all_taken ss

-- If a length is given, the entry at the place is a text of that length.
abbrev pub IsTextAt : List SmallEntry → ℕ → Option ℕ → Type 0
IsTextAt ss i None = Unit {0}
IsTextAt [] i (Some n) = ⊥
IsTextAt (s ∷ ss) zero (Some n) = s.kind ≡ kind.Text n
IsTextAt (s ∷ ss) (suc i) (Some n) = IsTextAt ss i (Some n)
