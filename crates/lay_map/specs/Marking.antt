-- Finding the units of tokens by the stream of the layout that they spell. The stream is fed token
-- by token, and each text in it tells which token is the next unit.
use Rattle.std.specs.Prelude.{◌≡◌, ℕ, zero, suc, ◌-◌, ℤ, pos, negsuc, Bool, true, false, cond, ◌&&◌, ◌||◌, ◌==◌, not, List, [], ◌∷◌, codes, Option, Some, None}
use Rattle.std.specs.Str.{bytes_eq}
use Rattle.lay_piece.specs.Characters as char
use Rattle.lay_layout.specs.declared.layout.Break.{Break}
use Rattle.lay_layout.specs.declared.layout.Tok.{Tok}
use Rattle.lay_layout.specs.declared.layout.Tok.TheVariants as tok
use Rattle.lay_token.specs.declared.token.Token.{Token}
use Rattle.lay_map.specs.spelling.Choice.{top, under}
use Rattle.lay_map.specs.Walks.{Place, first_length, more_of, placed, sought_from, taken_from}
use Rattle.lay_map.specs.declared.marking.Opening.{Opening}
use Rattle.lay_map.specs.declared.marking.Within.{Within}
use Rattle.lay_map.specs.declared.marking.Within.TheVariants.{Code, Line, Block, End}
use Rattle.lay_map.specs.declared.unit.Unit.{Unit}
use Rattle.lay_map.specs.declared.walk.Sought.TheVariants.{First, Docs}

pub record State : Type 0 where
  pub place : Place
  -- how many opening braces were fed in a row and have no token yet
  pub row : ℕ
  -- The text fed last is a `,`. The next call tells whether it is a word.
  pub comma : Bool
  -- whether the stream is within documentation, and of which kind
  pub within : Within
  -- The arrow of an arm was fed in the open group. The list says the same of the groups around it.
  pub arrow : Bool
  pub outer : List Bool

-- The state before anything is fed. The flag says that the first line is a shebang.
abbrev pub begun : List Token → Bool → State
begun tokens shebang = record {
  place = record { ahead = tokens; braces = []; units = [] };
  row = 0;
  comma = false;
  within = cond shebang Line Code;
  arrow = false;
  outer = [];
}

-- ---- words

-- The opening braces that wait get their tokens. The flag says that the next word isn't `;`.
abbrev pub settled : Bool → State → State
settled loose s = record s { place = placed loose s.row s.place; row = 0 }

-- The next token that begins with this character is a unit.
abbrev pub found : ℕ → State → State
found c s = let t = settled (not (c == char.semicolon)) s in record t { place = sought_from (First c) t.place }

abbrev pub worded : ℕ → State → State
worded c s = let t = found c s in record t { place = taken_from 0 t.place }

-- how many characters the text of that token has
abbrev pub first_ahead : ℕ → State → ℕ
first_ahead c s = first_length (found c s).place.ahead

abbrev pub raised : State → State
raised s = record s { row = suc s.row }

-- The state after the words of a text. Its first `n` characters belong to the word before.
abbrev pub words_of : ℕ → List ℕ → State → State
words_of n [] s = s
words_of (suc n) (c ∷ cs) s = words_of n cs s
words_of zero (c ∷ cs) s =
    cond (c == char.open_brace) (words_of 0 cs (raised s))
    (cond (c == char.blank) (words_of 0 cs s) (words_of (first_ahead c s - 1) cs (worded c s)))

-- If a word begins with this character, its text has this many characters more.
abbrev pub BeginsWord : ℕ → State → ℕ → State → Type 0
BeginsWord c old n new = (cs : List ℕ) → words_of 0 (c ∷ cs) old ≡ words_of n cs new

-- ---- texts

-- The `,` that waits is a word.
abbrev pub freed : State → State
freed s = record s { comma = false }

abbrev pub comma_settled : State → State
comma_settled s = cond s.comma (worded char.comma (freed s)) s

abbrev pub opening_of : List ℕ → Option Opening
opening_of text =
    let inner = bytes_eq text (codes "//!") || bytes_eq text (codes "/*!") in
    let block = bytes_eq text (codes "/**") || bytes_eq text (codes "/*!") in
    cond (inner || block || bytes_eq text (codes "///")) (Some (record { inner = inner; block = block })) None

-- The next documentation is a unit.
abbrev pub doced : Bool → State → State
doced inner s =
    let t = settled true s in
    let p = sought_from Docs t.place in
    record t { place = taken_from (more_of inner p.ahead) p }

-- Documentation begins.
abbrev pub documented : Opening → State → State
documented opening s = let t = doced opening.inner s in record t { within = cond opening.block Block Line }

-- the state after a text that isn't documentation, which may be the arrow of an arm
abbrev pub code_words : List ℕ → State → State
code_words text s = let t = words_of 0 text s in record t { arrow = bytes_eq text (codes " => ") || t.arrow }

-- The state after such a text. A `r#` is fed before the name of a raw identifier, whose token has
-- the name as its text.
abbrev pub read_code : List ℕ → State → State
read_code text s =
    cond (bytes_eq text (codes "r#")) s (cond (bytes_eq text (codes ",")) (record s { comma = true }) (code_words text s))

abbrev pub read_by : Option Opening → List ℕ → State → State
read_by (Some opening) text s = documented opening s
read_by None text s = read_code text s

abbrev pub read : List ℕ → State → State
read text s = read_by (opening_of text) text s

abbrev pub text_within : Within → List ℕ → State → State
text_within Code text s = read text (comma_settled s)
text_within Line text s = s
text_within Block text s = record s { within = End }
text_within End text s = record s { within = Code }

-- ---- breaks and groups

abbrev pub is_back : ℤ → Bool
is_back (pos n) = false
is_back (negsuc n) = true

-- The `,` before this break is in no unit: it follows the last of several fields, or it is that of
-- an arm.
abbrev pub is_free : Break → Bool → Bool
is_free b arrow = (b.blank == 65535) && (is_back b.offset || arrow)

abbrev pub behind_line : Within → Within
behind_line Line = Code
behind_line w = w

abbrev pub broken : Break → State → State
broken b s = comma_settled (record s { within = behind_line s.within; comma = s.comma && not (is_free b s.arrow) })

abbrev pub group_begun : State → State
group_begun s = let t = comma_settled s in record t { arrow = false; outer = t.arrow ∷ t.outer }

abbrev pub group_ended : State → State
group_ended s = let t = comma_settled s in record t { arrow = top t.outer; outer = under t.outer }

-- ---- layouts

abbrev pub fed_one : Tok → State → State
fed_one (tok.Text text) s = text_within s.within text s
fed_one (tok.Break b) s = broken b s
fed_one (tok.Begin consistent offset) s = group_begun s
fed_one tok.End s = group_ended s

abbrev pub fed_all : List Tok → State → State
fed_all [] s = s
fed_all (t ∷ ts) s = fed_all ts (fed_one t s)

-- the units, if nothing more is fed
abbrev pub units_of : State → List Unit
units_of s = (settled true (comma_settled s)).place.units
