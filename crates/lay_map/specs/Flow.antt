-- For which forms the stream of the layout tells the units. The first characters of a text tell
-- what it is. A text `,` is a word or not by the break after it and by the arrow of an arm before
-- it. After documentation up to the end of a line, a break comes before any text.
use Rattle.std.specs.Prelude.{Bool, true, false, cond, ◌&&◌, ◌||◌, ◌==◌, not, ℕ, List, [], ◌∷◌, codes, Option, Some, None}
use Rattle.std.specs.Str.{bytes_eq}
use Rattle.lay_piece.specs.Characters as char
use Rattle.lay_piece.specs.Chars.{is_nil}
use Rattle.lay_piece.specs.Docs.{doc_form}
use Rattle.lay_piece.specs.declared.kind.Kind.{Kind}
use Rattle.lay_piece.specs.declared.kind.Kind.TheVariants.{Doc}
use Rattle.lay_token.specs.Lexes.{is_punct}
use Rattle.lay_layout.specs.declared.layout.Break.{Break}
use Rattle.lay_form.specs.Form.{Bit, Bare, Unseen, Marked, Behind, Nothing, ArmComma, Form, Done, Piece, Leaf, Listed, ListedDoc, Brk, LastComma, Group, Part, Deeper, Optional, Docs, Body}
use Rattle.lay_form.specs.Layout.{text_of_bits, is_block, break_of, comma_break, opening_break, closing_break}
use Rattle.lay_map.specs.spelling.Choice.{closes, is_semicolon, opens}
use Rattle.lay_map.specs.spelling.Units.{Word, Told, Comment, Documented, bits_words}
use Rattle.lay_map.specs.Marking.{is_free, opening_of}
use Rattle.lay_map.specs.declared.marking.Opening.{Opening}

-- ---- texts

abbrev pub same : Bool → Bool → Bool
same true b = b
same false b = not b

-- The first character of a word tells what the word is.
abbrev pub is_told : Kind → ℕ → List ℕ → Bool
is_told kind c cs =
    same (opens kind) (c == char.open_brace) && (same (closes kind) (c == char.close_brace)
    && (same (is_semicolon kind (c ∷ cs)) (c == char.semicolon) && (not (c == char.blank) && (not (opens kind) || is_nil cs))))

abbrev pub is_proper : Word → Bool
is_proper (Told kind []) = false
is_proper (Told kind (c ∷ cs)) = is_told kind c cs
is_proper (Comment inner text) = true
is_proper (Documented inner text) = true

abbrev pub are_proper : List Word → Bool
are_proper [] = true
are_proper (w ∷ ws) = is_proper w && are_proper ws

abbrev pub is_none : Option Opening → Bool
is_none None = true
is_none (Some opening) = false

-- The text begins neither documentation nor a raw identifier.
abbrev pub is_plain : List ℕ → Bool
is_plain text = is_none (opening_of text) && not (bytes_eq text (codes "r#"))

-- ---- what waits

-- what was fed last and isn't decided before more is fed
pub data Wait : Type 0 where
  -- nothing of the kind
  Still : Wait
  -- a `,` that is a word
  Said : Wait
  -- a `,` that is in no unit
  Laid : Wait
  -- documentation up to the end of the line, which the next break ends
  InLine : Wait

-- The state of a stream: what waits, and whether the arrow of an arm was fed in the open group. It
-- is lost if the stream doesn't tell the units.
pub data Flow : Type 0 where
  Lost : Flow
  At : Wait → Bool → Flow

-- A text may come next.
abbrev pub is_open : Wait → Bool
is_open Still = true
is_open Said = true
is_open Laid = false
is_open InLine = false

-- The words are one `,`.
abbrev pub are_comma : List Word → Bool
are_comma (Told kind text ∷ []) = is_punct kind && bytes_eq text (codes ",")
are_comma _ = false

-- the state after a text that says these words
abbrev pub text_flow : List Word → List ℕ → Wait → Bool → Flow
text_flow ws text w arrow =
    cond (is_open w)
    (cond (bytes_eq text (codes ",")) (cond (are_comma ws) (At Said arrow) Lost) (At Still (bytes_eq text (codes " => ") || arrow)))
    Lost

-- An empty text changes nothing.
abbrev pub words_flow : List Word → List ℕ → Wait → Bool → Flow
words_flow ws [] w arrow = At w arrow
words_flow ws (c ∷ cs) w arrow = text_flow ws (c ∷ cs) w arrow

abbrev pub piece_flow : List Bit → Flow → Flow
piece_flow bits Lost = Lost
piece_flow bits (At w arrow) =
    cond (are_proper (bits_words bits) && is_plain (text_of_bits bits)) (words_flow (bits_words bits) (text_of_bits bits) w arrow) Lost

abbrev pub doc_flow : Bool → List ℕ → Flow → Flow
doc_flow inner text Lost = Lost
doc_flow inner text (At w arrow) = cond (is_open w) (At (cond (is_block (doc_form inner text)) Still InLine) arrow) Lost

abbrev pub leaf_flow : Kind → List ℕ → Flow → Flow
leaf_flow kind text Lost = Lost
leaf_flow (Doc inner block) text (At w arrow) = Lost
leaf_flow kind text (At w arrow) = text_flow (Told kind text ∷ []) text w arrow

-- the state after a `,` that is in no unit
abbrev pub comma_flow : Flow → Flow
comma_flow Lost = Lost
comma_flow (At w arrow) = cond (is_open w) (At Laid arrow) Lost

abbrev pub optional_flow : List Bit → Flow → Flow
optional_flow bits Lost = Lost
optional_flow bits (At w arrow) = cond (bytes_eq (text_of_bits bits) (codes ",")) (comma_flow (At w arrow)) Lost

abbrev pub behind_flow : Behind → Flow → Flow
behind_flow Nothing s = s
behind_flow (ArmComma last block_like) s = comma_flow s

abbrev pub break_flow : Break → Flow → Flow
break_flow b Lost = Lost
break_flow b (At Still arrow) = At Still arrow
break_flow b (At Said arrow) = cond (is_free b arrow) Lost (At Still arrow)
break_flow b (At Laid arrow) = cond (is_free b arrow) (At Still arrow) Lost
break_flow b (At InLine arrow) = At Still arrow

-- the state after a group begins or ends
abbrev pub group_flow : Flow → Flow
group_flow Lost = Lost
group_flow (At Still arrow) = At Still arrow
group_flow (At Said arrow) = At Still arrow
group_flow (At Laid arrow) = Lost
group_flow (At InLine arrow) = At InLine arrow

-- The state at the start of a group, and after it.
abbrev pub entered : Flow → Flow
entered Lost = Lost
entered (At w arrow) = At w false

abbrev pub left : Flow → Flow → Flow
left Lost inner = Lost
left (At w arrow) Lost = Lost
left (At w arrow) (At v inner) = At v arrow

abbrev pub flow : Flow → Form → Flow
flow s Done = s
flow s (Piece bits f) = flow (piece_flow bits s) f
flow s (Leaf kind text f) = flow (leaf_flow kind text s) f
flow s (Listed kind text joint f) = flow (leaf_flow kind text s) f
flow s (ListedDoc inner text f) = flow (doc_flow inner text s) f
flow s (Brk space f) = flow (break_flow (break_of space) s) f
flow s (LastComma blanks f) = flow (break_flow (comma_break blanks) s) f
flow s (Group consistent offset i f) = flow (left s (group_flow (flow (entered (group_flow s)) i))) f
flow s (Part i f) = flow (flow s i) f
flow s (Deeper i f) = flow (flow s i) f
flow s (Optional true bits f) = flow (optional_flow bits s) f
flow s (Optional false bits f) = flow s f
flow s (Docs inner text f) = flow (doc_flow inner text s) f
flow s (Body Bare behind i f) = flow (behind_flow behind (flow s i)) f
flow s (Body Unseen behind i f) = flow (flow s i) f
flow s (Body Marked behind i f) =
    flow (left s (group_flow (break_flow (closing_break behind) (flow (break_flow opening_break (entered (group_flow s))) i)))) f
