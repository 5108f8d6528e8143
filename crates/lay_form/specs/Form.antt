-- Forms. A form lists the parts of a node in order. It decides which tokens spell the node, and how
-- the node is laid out.
use Rattle.std.specs.Prelude.{ℕ, Bool, List, [], ◌∷◌}
use Rattle.lay_piece.specs.Characters as char
use Rattle.lay_piece.specs.Forms.{opening, closing}
use Rattle.lay_piece.specs.declared.kind.Delim.{Delim}
use Rattle.lay_piece.specs.declared.kind.Kind.{Kind}
use Rattle.lay_piece.specs.declared.kind.Kind.TheVariants.{Ident, Punct, Opener, Closer}

-- the parts of a piece
pub data Bit : Type 0 where
  -- a blank
  Blank : Bit
  -- a fixed token: a word, a delimiter, or one character of punctuation; anything may follow it
  Fixed : Kind → List ℕ → Bit
  -- an operator: its characters are joint, save the last, and no longer operator stands there
  Operator : List ℕ → Bit
  -- any number of `;`; they aren't in the tree and aren't laid out
  Semicolons : Bit

-- a break, where a line may end; the flag moves the new line one step of four columns back
pub data Space : Type 0 where
  -- of this many blanks
  Soft : Bool → ℕ → Space
  -- always a newline
  Hard : Bool → Space
  -- never a newline, but a measure ends at it
  Never : Space

-- braces around the body of an arm or a closure; the tree doesn't have them
pub data Braces : Type 0 where
  -- none
  Bare : Braces
  -- They may be spelled, and aren't laid out.
  Unseen : Braces
  -- They may be spelled, and are laid out where the body is broken.
  Marked : Braces

-- what follows a body
pub data Behind : Type 0 where
  Nothing : Behind
  -- the comma of an arm; the flags say that the arm is the last one, and that its body is
  -- block-like
  ArmComma : Bool → Bool → Behind

pub data Form : Type 0 where
  -- nothing more
  Done : Form
  -- fixed tokens and operators, which are laid out as one text
  Piece : List Bit → Form → Form
  -- a token of the tree, of this kind and text
  Leaf : Kind → List ℕ → Form → Form
  -- a token of a token list, with its kind, text and joint mark
  Listed : Kind → List ℕ → Bool → Form → Form
  -- documentation in a token list; whether it was a block doesn't count
  ListedDoc : Bool → List ℕ → Form → Form
  -- a break
  Brk : Space → Form → Form
  -- an optional comma; it is laid out before the newline of a break of this many blanks
  LastComma : ℕ → Form → Form
  -- a group, consistent or not, with its offset
  Group : Bool → ℕ → Form → Form → Form
  -- a form within this one
  Part : Form → Form → Form
  -- a form whose nodes are one level deeper
  Deeper : Form → Form → Form
  -- a piece that may be left out of the source; the flag says that it is always laid out, as the
  -- comma after the last of several fields; else it never is
  Optional : Bool → List Bit → Form → Form
  -- documentation: inner for what it stands in, or outer for what follows it
  Docs : Bool → List ℕ → Form → Form
  -- the body of an arm or a closure, and what follows it
  Body : Braces → Behind → Form → Form → Form

abbrev pub punct : ℕ → Bit
punct c = Fixed Punct (c ∷ [])

abbrev pub keyword : List ℕ → Bit
keyword word = Fixed Ident word

abbrev pub opener : Delim → Bit
opener d = Fixed (Opener d) (opening d ∷ [])

abbrev pub closer : Delim → Bit
closer d = Fixed (Closer d) (closing d ∷ [])

abbrev pub comma : List Bit
comma = punct char.comma ∷ []

abbrev pub semicolon : List Bit
semicolon = punct char.semicolon ∷ []
