-- The layout of a form as a document of texts, breaks and groups.
use Rattle.std.specs.Prelude.{ℕ, zero, suc, Bool, true, false, cond, ◌&&◌, ◌==◌, List, [], ◌∷◌, ◌++◌, ℤ, pos, negsuc, codes}
use Rattle.std.specs.Str.{bytes_eq}
use Rattle.lay_piece.specs.Characters as char
use Rattle.lay_piece.specs.Chars.{begins}
use Rattle.lay_piece.specs.Docs.{doc_form}
use Rattle.lay_layout.specs.Document.{Document, Empty, AddText, AddBreak, AddGroup}
use Rattle.lay_piece.specs.Forms.{doc_opening}
use Rattle.lay_piece.specs.Number.{ends_in_point}
use Rattle.lay_piece.specs.declared.doc.DocForm.{DocForm}
use Rattle.lay_piece.specs.declared.doc.DocForm.TheVariants as doc
use Rattle.lay_layout.specs.declared.layout.Break.{Break}
use Rattle.lay_layout.specs.declared.layout.Mark.{Mark}
use Rattle.lay_layout.specs.declared.layout.Mark.TheVariants.{Absent, Comma, OpenBrace, CloseBrace}
use Rattle.lay_piece.specs.declared.kind.Kind.{Kind}
use Rattle.lay_piece.specs.declared.kind.Kind.TheVariants.{RawIdent, Float, Doc}
use Rattle.lay_form.specs.Form.{Bit, Blank, Fixed, Operator, Semicolons, Space, Soft, Hard, Never, Braces, Bare, Unseen, Marked, Behind, Nothing, ArmComma, Form, Done, Piece, Leaf, Listed, ListedDoc, Brk, LastComma, Group, Part, Deeper, Optional, Docs, Body}

abbrev pub text_of_bit : Bit → List ℕ
text_of_bit Blank = codes " "
text_of_bit (Fixed kind text) = text
text_of_bit (Operator op) = op
text_of_bit Semicolons = []

-- A piece is one text.
abbrev pub text_of_bits : List Bit → List ℕ
text_of_bits [] = []
text_of_bits (b ∷ bs) = text_of_bit b ++ text_of_bits bs

abbrev pub is_block : DocForm → Bool
is_block doc.Block = true
is_block _ = false

-- An empty text is left out.
abbrev pub add : List ℕ → Document → Document
add [] d = d
add (c ∷ cs) d = AddText (c ∷ cs) d

-- documentation: its opening, its text, and the end of a block
abbrev pub add_doc : Bool → Bool → List ℕ → Document → Document
add_doc inner block text d = AddText (doc_opening inner block) (add text (cond block (AddText (codes "*/") d) d))

-- a token of the tree; a raw identifier is two texts
abbrev pub add_token : Kind → List ℕ → Document → Document
add_token RawIdent text d = AddText (codes "r#") (AddText text d)
add_token (Doc inner block) text d = add_doc inner (is_block (doc_form inner text)) text d
add_token kind text d = AddText text d

-- A text that begins with a point gets a blank before it where it would stand directly after the
-- point of a Float or after `..`. There are three such places: a step after a literal like `1.`, a
-- range after one, and a base that begins with a range after the `..` of a struct literal. The
-- blank belongs to the text that gets it, which may stand deep within a part. The functions below
-- say whether the text so far ends in such a point. A number is ASCII, so its bytes are its
-- characters.
abbrev pub token_ends_in_point : Kind → List ℕ → Bool
token_ends_in_point Float text = ends_in_point text
token_ends_in_point _ text = false

abbrev pub bits_end_in_point : Bool → List Bit → Bool
bits_end_in_point point [] = point
bits_end_in_point point (Blank ∷ bs) = bits_end_in_point false bs
bits_end_in_point point (Fixed kind text ∷ bs) = bits_end_in_point false bs
bits_end_in_point point (Operator op ∷ bs) = bits_end_in_point (bytes_eq op (codes "..")) bs
bits_end_in_point point (Semicolons ∷ bs) = bits_end_in_point point bs

abbrev pub keeps_point : Bool → ℕ → Bool
keeps_point point zero = point
keeps_point point (suc n) = false

abbrev pub space_ends_in_point : Bool → Space → Bool
space_ends_in_point point (Soft back n) = keeps_point point n
space_ends_in_point point (Hard back) = false
space_ends_in_point point Never = point

abbrev pub point_behind : Braces → Behind → Bool → Bool
point_behind Unseen behind point = point
point_behind Bare Nothing point = point
point_behind Bare (ArmComma last block_like) point = false
point_behind Marked Nothing point = point
point_behind Marked (ArmComma last block_like) point = false

abbrev pub ends_behind_point : Bool → Form → Bool
ends_behind_point point Done = point
ends_behind_point point (Piece bits f) = ends_behind_point (bits_end_in_point point bits) f
ends_behind_point point (Leaf kind text f) = ends_behind_point (token_ends_in_point kind text) f
ends_behind_point point (Listed kind text joint f) = ends_behind_point (token_ends_in_point kind text) f
ends_behind_point point (ListedDoc inner text f) = ends_behind_point false f
ends_behind_point point (Brk space f) = ends_behind_point (space_ends_in_point point space) f
ends_behind_point point (LastComma blanks f) = ends_behind_point (keeps_point point blanks) f
ends_behind_point point (Group consistent offset i f) = ends_behind_point (ends_behind_point point i) f
ends_behind_point point (Part i f) = ends_behind_point (ends_behind_point point i) f
ends_behind_point point (Deeper i f) = ends_behind_point (ends_behind_point point i) f
ends_behind_point point (Optional true bits f) = ends_behind_point (bits_end_in_point point bits) f
ends_behind_point point (Optional false bits f) = ends_behind_point point f
ends_behind_point point (Docs inner text f) = ends_behind_point false f
ends_behind_point point (Body braces behind i f) = ends_behind_point (point_behind braces behind (ends_behind_point point i)) f

-- a piece, with a leading blank if it gets one
abbrev pub led : Bool → List Bit → List Bit
led point bits = cond (begins (λ c. c == char.point) (text_of_bits bits) && point) (Blank ∷ bits) bits

abbrev pub offset_of : Bool → ℤ
offset_of true = negsuc 3
offset_of false = pos 0

-- A hard break has 65535 blanks, which no space holds.
abbrev pub break_of : Space → Break
break_of (Soft back blanks) = record { offset = offset_of back; blank = blanks; before = Absent; after = Absent; instead = Absent; never = false }
break_of (Hard back) = record { offset = offset_of back; blank = 65535; before = Absent; after = Absent; instead = Absent; never = false }
break_of Never = record { offset = pos 0; blank = 0; before = Absent; after = Absent; instead = Absent; never = true }

-- the break before what closes a list, with a comma before its newline
abbrev pub comma_break : ℕ → Break
comma_break blanks = record { offset = negsuc 3; blank = blanks; before = Comma; after = Absent; instead = Absent; never = false }

-- The breaks around a body. Where they are newlines, braces are laid out. Else a comma is, if the
-- body is that of an arm.
abbrev pub opening_break : Break
opening_break = record { offset = pos 0; blank = 0; before = OpenBrace; after = Absent; instead = Absent; never = false }

abbrev pub mark_behind : Behind → Mark
mark_behind Nothing = Absent
mark_behind (ArmComma last block_like) = Comma

abbrev pub closing_break : Behind → Break
closing_break behind =
    record { offset = negsuc 3; blank = 0; before = Absent; after = CloseBrace; instead = mark_behind behind; never = false }

-- the comma of an arm; its body has no braces in the layout
abbrev pub add_behind : Behind → Document → Document
add_behind Nothing d = d
add_behind (ArmComma last block_like) d = AddText (codes ",") d

-- the layout of a form, followed by the document `d`; `point` says that the text so far ends in a
-- point
abbrev pub laid_out : Bool → Form → Document → Document
laid_out point Done d = d
laid_out point (Piece bits f) d = add (text_of_bits (led point bits)) (laid_out (bits_end_in_point point bits) f d)
laid_out point (Leaf kind text f) d = add_token kind text (laid_out (token_ends_in_point kind text) f d)
laid_out point (Listed kind text joint f) d = add_token kind text (laid_out (token_ends_in_point kind text) f d)
laid_out point (ListedDoc inner text f) d = add_doc inner (is_block (doc_form inner text)) text (laid_out false f d)
laid_out point (Brk space f) d = AddBreak (break_of space) (laid_out (space_ends_in_point point space) f d)
laid_out point (LastComma blanks f) d = AddBreak (comma_break blanks) (laid_out (keeps_point point blanks) f d)
laid_out point (Group consistent offset i f) d =
    AddGroup consistent (pos offset) (laid_out point i Empty) (laid_out (ends_behind_point point i) f d)
laid_out point (Part i f) d = laid_out point i (laid_out (ends_behind_point point i) f d)
laid_out point (Deeper i f) d = laid_out point i (laid_out (ends_behind_point point i) f d)
laid_out point (Optional true bits f) d = add (text_of_bits (led point bits)) (laid_out (bits_end_in_point point bits) f d)
laid_out point (Optional false bits f) d = laid_out point f d
laid_out point (Docs inner text f) d = add_doc inner (is_block (doc_form inner text)) text (laid_out false f d)
laid_out point (Body Bare behind i f) d =
    laid_out point i (add_behind behind (laid_out (point_behind Bare behind (ends_behind_point point i)) f d))
laid_out point (Body Unseen behind i f) d = laid_out point i (laid_out (ends_behind_point point i) f d)
laid_out point (Body Marked behind i f) d =
    AddGroup true (pos 4) (AddBreak opening_break (laid_out point i (AddBreak (closing_break behind) Empty)))
    (laid_out (point_behind Marked behind (ends_behind_point point i)) f d)

abbrev pub document : Form → Document
document f = laid_out false f Empty
