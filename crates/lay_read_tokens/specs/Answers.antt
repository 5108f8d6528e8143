-- What parsers require of the tokens, and what they answer.
use Rattle.std.specs.Prelude.{ℕ, ◌≡◌, ◌&&◌, not, Bool, true, false, if◌then◌else◌, codes, IsTrue, IsFalse, IsUtf8}
use Rattle.std.specs.Prelude.{List, [], ◌∷◌, ◌++◌, map, drop, encode_utf8_all, Option, Some, None, Result, Ok, Err}
use Rattle.std.specs.List.{list_all}
use Rattle.std.specs.Str.{chars}
use Rattle.lay_nest.specs.Groups.{begins_tree}
use Rattle.lay_token.specs.Lexes.{Lexes}
use Rattle.lay_piece.specs.Value.{value_of}
use Rattle.lay_piece.specs.declared.kind.Delim.{Delim}
use Rattle.lay_piece.specs.declared.kind.Delim.TheVariants.{Bracket}
use Rattle.lay_piece.specs.declared.kind.Kind.{Kind}
use Rattle.lay_piece.specs.declared.kind.Kind.TheVariants.{Underscore, Opener}
use Rattle.lay_token.specs.declared.token.Token.{Token}
use Rattle.lay_node.specs.Ahead.{Tokens, first, tail, closes, is_mark}
use Rattle.lay_node.specs.nodes.Attr.{is_doc_path, is_empty}
use Rattle.lay_node.specs.reader.Attr.{meta_input, made}
use Rattle.lay_node.specs.reader.Loops.{Got, Read, ◌>>=◌, passed, nodes, deepest}
use Rattle.lay_node.specs.reader.Tokens as reader
use Rattle.lay_node.specs.tokens.Lexed.{may_be_laid}
use Rattle.lay_node.specs.tokens.Listing.{as_listed, is_doc_text}
use Rattle.lay_node.specs.declared.attr.Attr.{Attr}
use Rattle.lay_node.specs.declared.attr.Attr.TheVariants as attr
use Rattle.lay_node.specs.declared.attr.MetaInput.{MetaInput}
use Rattle.lay_node.specs.declared.attr.MetaInput.TheVariants as input
use Rattle.lay_node.specs.declared.attr.MetaPath.{MetaPath}
use Rattle.lay_node.specs.declared.token.Listed.{Listed}
use Rattle.lay_node.specs.declared.token.Name.{Name}
use Rattle.lay_node.specs.declared.token.Word.{Word}
use Rattle.lay_read_tokens.specs.declared.found.Found.{Found}
use Rattle.lay_read_tokens.specs.declared.stop.ReadNone.{ReadNone}
use Rattle.lay_read_tokens.specs.declared.stop.ReadNone.TheVariants.{NoReading, NoMemory}

-- Some text lexes to a list that has these tokens in a row.
pub record AreLexed (tokens : List Token) : Type 0 where
  pub bytes : List ℕ
  pub start : ℕ
  pub before : List Token
  pub after : List Token
  pub utf8 : IsUtf8 (drop start bytes)
  pub lexes : Lexes bytes start (before ++ tokens ++ after)

-- A parser that stops has read nothing, unless memory ran out.
abbrev pub Stopped : {A : Type 0} → Option A → ReadNone → Type 0
Stopped got NoReading = got ≡ None
Stopped got NoMemory = Unit {0}

-- The answer is what was read and the cursor stands after it, or nothing was read.
abbrev pub IsGot : {A : Type 0} → Got A → Result A ReadNone → Tokens → Type 0
IsGot got (Ok a) left = got ≡ Some (a, left)
IsGot got (Err none) left = Stopped got none

-- The answer is the node that was read, with the depth that it needs.
abbrev pub IsFound : {A : Type 0} → Read A → Result (Found A) ReadNone → Tokens → Type 0
IsFound read (Ok found) left = read ≡ Some ((found.node, found.need), left)
IsFound read (Err none) left = Stopped read none

-- The answer is the nodes that were read, with the greatest depth that one of them needs.
abbrev pub AreFound : {A : Type 0} → List (A × ℕ) → Found (List A) → Type 0
AreFound read found = (nodes read ≡ found.node) × (deepest read ≡ found.need)

-- The node stands at the beginning at this depth, and these tokens follow it.
abbrev pub StandsBefore : {A : Type 0} → (A → Tokens → ℕ → ℕ → Type 0) → ℕ → Tokens → A → Tokens → Type 0
StandsBefore Front depth ahead node left = (n : ℕ) × (left ≡ drop n ahead) × Front node ahead n depth

-- This node is the only one that stands there, and these tokens are the only ones that can follow.
abbrev pub IsSole : {A : Type 0} → (A → Tokens → Type 0) → A → Tokens → Type 0
IsSole {A} Stands node left = (other : A) (rest : Tokens) → Stands other rest → (other ≡ node) × (rest ≡ left)

-- What the parser of a node answers. If it parses a node, the node is the only one that comes next,
-- and the cursor moves past it. Otherwise no node comes next, or memory ran out, and the cursor
-- stays.
abbrev pub IsRead : {A : Type 0} → (A → Tokens → ℕ → ℕ → Type 0) → Tokens → Result A ReadNone → Tokens → Type 0
IsRead Front ahead (Ok node) left = StandsBefore Front 0 ahead node left × IsSole (StandsBefore Front 0 ahead) node left
IsRead {A} Front ahead (Err NoReading) left = (left ≡ ahead) × ((node : A) (n : ℕ) → Front node ahead n 0 → ⊥)
IsRead Front ahead (Err NoMemory) left = left ≡ ahead

-- The nodes come next one after another, and these tokens follow them.
abbrev pub StandInRow : {A : Type 0} → (A → Tokens → ℕ → ℕ → Type 0) → Tokens → List A → Tokens → Type 0
StandInRow Front ahead [] left = left ≡ ahead
StandInRow Front ahead (node ∷ nodes) left = (rest : Tokens) × StandsBefore Front 0 ahead node rest × StandInRow Front rest nodes left

-- The same, and no further node begins after them.
abbrev pub AreAll : {A : Type 0} → (A → Tokens → ℕ → ℕ → Type 0) → (Tokens → Bool) → Tokens → List A → Tokens → Type 0
AreAll Front begins ahead nodes left = StandInRow Front ahead nodes left × IsFalse (begins left)

-- What the parser of a row of nodes answers. If it parses them, they come next, no further one
-- begins after them, and they are the only such nodes. The cursor moves past them. Otherwise no
-- such row comes next, or memory ran out, and the cursor stays.
abbrev pub AreRead : {A : Type 0} → (A → Tokens → ℕ → ℕ → Type 0) → (Tokens → Bool) → Tokens → Result (List A) ReadNone → Tokens → Type 0
AreRead Front begins ahead (Ok nodes) left = AreAll Front begins ahead nodes left × IsSole (AreAll Front begins ahead) nodes left
AreRead {A} Front begins ahead (Err NoReading) left = (left ≡ ahead) × ((nodes : List A) (rest : Tokens) → AreAll Front begins ahead nodes rest → ⊥)
AreRead Front begins ahead (Err NoMemory) left = left ≡ ahead

-- What the parser holds in its own data is what was read.
abbrev pub IsHeld : {A B : Type 0} → (A → B → Type 0) → Got A → Result B ReadNone → Tokens → Type 0
IsHeld {A} Holds got (Ok b) left = (a : A) × (got ≡ Some (a, left)) × Holds a b
IsHeld Holds got (Err none) left = Stopped got none

-- The answer is this value, unless memory ran out.
abbrev pub IsMade : {A : Type 0} → A → Result A ReadNone → Type 0
IsMade value (Ok a) = a ≡ value
IsMade value (Err NoReading) = ⊥
IsMade value (Err NoMemory) = Unit {0}

-- The answer is the same text, unless memory ran out.
abbrev pub IsCopy : List ℕ → Result (List ℕ) ReadNone → Type 0
IsCopy text answer = IsMade text answer

-- The list of words is this first word and then the others.
abbrev pub BeginWith : Word → List Word → List Word → Type 0
BeginWith first others words = words ≡ first ∷ others

abbrev pub named : List ℕ → Bool → Name
named text raw = record { raw = raw; text = text }

abbrev pub worded : List ℕ → Bool → Word
worded text raw = record { raw = raw; text = text }

abbrev pub is_underscore_kind : Kind → Bool
is_underscore_kind Underscore = true
is_underscore_kind _ = false

abbrev pub is_underscore : Token → Bool
is_underscore t = is_underscore_kind t.kind

-- ---- tokens

-- The tokens may be laid out as the tokens of a list. For documentation that depends on its text.
abbrev pub are_laid : List Token → Bool
are_laid tokens = list_all may_be_laid (map as_listed tokens)

-- The answer is this token of a list. It is refused if it may not be laid out, and memory may run
-- out.
abbrev pub IsLaid : Listed → Result Listed ReadNone → Type 0
IsLaid u (Ok v) = (v ≡ u) × IsTrue (may_be_laid u)
IsLaid u (Err NoReading) = IsFalse (may_be_laid u)
IsLaid u (Err NoMemory) = Unit {0}

-- The same for all of these tokens.
abbrev pub AreListed : List Token → Result (List Listed) ReadNone → Type 0
AreListed tokens (Ok us) = (us ≡ map as_listed tokens) × IsTrue (are_laid tokens)
AreListed tokens (Err NoReading) = IsFalse (are_laid tokens)
AreListed tokens (Err NoMemory) = Unit {0}

-- The same, where the tokens are added to a list.
abbrev pub AreAdded : List Listed → List Token → Result (Unit {0}) ReadNone → List Listed → Type 0
AreAdded before tokens (Ok done) now = (now ≡ before ++ map as_listed tokens) × IsTrue (are_laid tokens)
AreAdded before tokens (Err NoReading) now = IsFalse (are_laid tokens)
AreAdded before tokens (Err NoMemory) now = Unit {0}

-- A token tree begins here, and the list goes on with it. If the flag is set, a comma outside of
-- groups ends the list.
abbrev pub goes_on : Bool → Tokens → Bool
goes_on to_comma ts = begins_tree ts && not (to_comma && first (is_mark (codes ",")) ts)

-- the delimiter of the opener at the beginning
abbrev pub opened_by : Kind → Option Delim
opened_by (Opener d) = Some d
opened_by _ = None

abbrev pub front_opener : Tokens → Option Delim
front_opener [] = None
front_opener (t ∷ ts) = opened_by t.kind

-- ---- attributes

-- an attribute from its input on, with its closing bracket
abbrev pub closed : Bool → MetaPath → Got MetaInput → Got Attr
closed inner path got = do given ← got; rest ← passed (closes Bracket) given.1; Some (made inner path given.0, rest)

abbrev pub meta_rest : Bool → MetaPath → Tokens → Got Attr
meta_rest inner path ts = closed inner path (meta_input ts)

-- the value of an attribute, after the `=`
abbrev pub value_behind : Tokens → Got MetaInput
value_behind ts = do us ← reader.tokens ts; if is_empty us.0 then None else Some (input.Value us.0, us.1)

-- an attribute that is no documentation, from its closing bracket on
abbrev pub meta_closed : Bool → MetaPath → MetaInput → Tokens → Got Attr
meta_closed inner path given ts = do rest ← passed (closes Bracket) ts; Some (attr.Meta inner path given, rest)

-- the text of documentation with this value, if documentation can be written with it
abbrev pub doc_text : Bool → Option (List ℕ) → Option (List ℕ)
doc_text inner None = None
doc_text inner (Some value) = if is_doc_text inner (encode_utf8_all value) then Some (encode_utf8_all value) else None

abbrev pub front_doc : Bool → Tokens → Option (List ℕ)
front_doc inner [] = None
front_doc inner (t ∷ ts) = doc_text inner (value_of t.kind (chars t.text))

-- The text of the documentation that an attribute is. The attribute's value must be one string
-- before the closing bracket.
abbrev pub doc_value : Bool → MetaPath → Tokens → Option (List ℕ)
doc_value inner path ts = if is_doc_path path && first (closes Bracket) (tail ts) then front_doc inner ts else None
