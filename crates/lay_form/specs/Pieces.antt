-- Forms whose tokens can be lexed: each has the text of a piece of its kind.
use Rattle.std.specs.Prelude.{ℕ, Bool, true, ◌&&◌, List, ◌++◌, codes}
use Rattle.std.specs.Str.{chars, is_utf8}
use Rattle.lay_piece.specs.Forms.{has_form}
use Rattle.lay_piece.specs.declared.kind.Kind.{Kind}
use Rattle.lay_piece.specs.declared.kind.Kind.TheVariants.{RawIdent, Doc}
use Rattle.lay_form.specs.Form.{Form, Done, Piece, Leaf, Listed, ListedDoc, Brk, LastComma, Group, Part, Deeper, Optional, Docs, Body}

-- A piece of the kind can have this text. Any UTF-8 text passes as documentation.
unfoldable pub is_text_of : Kind → List ℕ → Bool
is_text_of RawIdent text = is_utf8 text && has_form RawIdent (codes "r#" ++ chars text)
is_text_of (Doc inner block) text = is_utf8 text
is_text_of kind text = is_utf8 text && has_form kind (chars text)

-- Each token in the form has the text of a piece of its kind.
abbrev pub are_pieces : Form → Bool
are_pieces Done = true
are_pieces (Piece bits f) = are_pieces f
are_pieces (Leaf kind text f) = is_text_of kind text && are_pieces f
are_pieces (Listed kind text joint f) = is_text_of kind text && are_pieces f
are_pieces (ListedDoc inner text f) = is_utf8 text && are_pieces f
are_pieces (Brk space f) = are_pieces f
are_pieces (LastComma blanks f) = are_pieces f
are_pieces (Group consistent offset i f) = are_pieces i && are_pieces f
are_pieces (Part i f) = are_pieces i && are_pieces f
are_pieces (Deeper i f) = are_pieces i && are_pieces f
are_pieces (Optional laid bits f) = are_pieces f
are_pieces (Docs inner text f) = is_utf8 text && are_pieces f
are_pieces (Body braces behind i f) = are_pieces i && are_pieces f
