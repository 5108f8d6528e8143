-- The comment form that a documentation text may have: a line or a block (Rust Reference, "Doc
-- comments").
use Rattle.std.specs.Prelude.{ℕ, Option, Some, None, Bool, false, cond, ◌&&◌, ◌==◌, not, List, [], ◌∷◌, ◌++◌, codes}
use Rattle.std.specs.List.{list_any}
use Rattle.lay_piece.specs.Characters as char
use Rattle.lay_piece.specs.Chars.{is_nil}
use Rattle.lay_piece.specs.Forms.{is_line_doc, is_block_doc}
use Rattle.lay_piece.specs.Quoted as block
use Rattle.lay_piece.specs.Scan.{Next, Go, End, Bad}
use Rattle.lay_piece.specs.declared.doc.DocForm.{DocForm}
use Rattle.lay_piece.specs.declared.doc.DocForm.TheVariants.{Line, Block, Neither}
use Rattle.lay_piece.specs.declared.doc.InComment.{InComment}
use Rattle.lay_piece.specs.declared.doc.InComment.TheVariants as comment

abbrev pub ends_in_blank : List ℕ → Bool
ends_in_blank [] = false
ends_in_blank (c ∷ cs) = cond (is_nil cs) (c == char.blank) (ends_in_blank cs)

-- A line comment can hold the text. It drops blanks at the end, so the text has none there.
abbrev pub is_line_text : Bool → List ℕ → Bool
is_line_text inner text = is_line_doc inner text && not (ends_in_blank text)

-- A block comment can hold the text. The text has several lines, and a */ put after it is the first
-- that closes the comment.
abbrev pub is_block_text : Bool → List ℕ → Bool
is_block_text inner text = list_any (λ c. c == char.line_feed) text && is_block_doc inner (text ++ codes "*/")

-- the form of a documentation text: inner for what it stands in, or outer for what follows it
unfoldable pub doc_form : Bool → List ℕ → DocForm
doc_form inner text = cond (is_line_text inner text) Line (cond (is_block_text inner text) Block Neither)

-- the state of the code's scan of a comment, as a state of the definitions
abbrev pub in_block : InComment → block.InBlock
in_block (comment.Deep n) = block.Deep n
in_block (comment.Star n) = block.Star n
in_block (comment.Slash n) = block.Slash n

-- how many comments are open around the innermost one
abbrev pub depth : InComment → ℕ
depth (comment.Deep n) = n
depth (comment.Star n) = n
depth (comment.Slash n) = n

-- the next state, if the form goes on
abbrev pub goes : {S : Type 0} → Next S → Option S
goes (Go s) = Some s
goes End = None
goes Bad = None
