-- The layout of a file as a document, and the text that the document gives.
use Rattle.std.specs.Prelude.{ℕ, false, List, Option, Some, None}
use Rattle.lay_layout.specs.Document.{Document, AddText, AddBreak, Empty, text_of}
use Rattle.lay_form.specs.Form.{Hard}
use Rattle.lay_form.specs.Layout.{laid_out, break_of}
use Rattle.lay_code.specs.nodes.File.{form_of_file}
use Rattle.lay_code.specs.declared.file.File.{File}

-- the shebang of a file on a line of its own, if it has one, and then the document
abbrev pub behind_shebang : Option (List ℕ) → Document → Document
behind_shebang None d = d
behind_shebang (Some line) d = AddText line (AddBreak (break_of (Hard false)) d)

-- the layout of a file
abbrev pub layout_of_file : File → Document
layout_of_file file = behind_shebang file.shebang (laid_out false (form_of_file file) Empty)

-- the text of a file
abbrev pub out : File → List ℕ
out file = text_of (layout_of_file file)
