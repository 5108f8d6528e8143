-- The streams of what stands around alternatives, and around the fields of a struct pattern.
use Rattle.std.specs.Prelude.{Bool, true, false, cond, not, List, [], ◌∷◌, ◌++◌, map, codes, pos}
use Rattle.lay_layout.specs.declared.layout.Break.{Break}
use Rattle.lay_layout.specs.declared.layout.Tok.{Tok}
use Rattle.lay_layout.specs.declared.layout.Tok.TheVariants as tok
use Rattle.lay_form.specs.Form.{Form, Blank, Operator, Done, Piece, Part, Soft}
use Rattle.lay_form.specs.Layout.{break_of, comma_break}
use Rattle.lay_form.specs.Notation.{B, H, I0, braces}
use Rattle.lay_node.specs.nodes.Attr.{attr_form}
use Rattle.lay_node.specs.nodes.Patterns.{about_field_pat, about_pat, rest_form}
use Rattle.lay_node.specs.nodes.Types.{joined}
use Rattle.lay_node.specs.declared.attr.Attr.{Attr}
use Rattle.lay_node.specs.declared.patterns.FieldPat.{FieldPat}
use Rattle.lay_node.specs.declared.patterns.Pat.{Pat}

-- the forms of a pattern and of a field
abbrev pub pat_told : Pat → Form
pat_told x = (about_pat x).told.form

abbrev pub field_told : FieldPat → Form
field_told x = (about_field_pat x).form

-- an attribute, and the newline after it
abbrev pub attr_line : Attr → Form
attr_line a = Part (attr_form a) (H Done)

abbrev pub bar_lead : Form → Form
bar_lead f = B (Piece (Operator (codes "|") ∷ Blank ∷ []) f)

-- alternatives, with a `|` between them
abbrev pub alternatives_form : List Pat → Form
alternatives_form pats = I0 (joined bar_lead (map pat_told pats)) Done

-- what stands between alternatives
abbrev pub bar_between : List Tok
bar_between = tok.Break (break_of (Soft false 1)) ∷ tok.Text (codes "| ") ∷ []

-- fields in braces, and the `..` after them
abbrev pub fields_form : List FieldPat → Bool → Form
fields_form fields rest = braces (not rest) (map field_told fields ++ rest_form rest)

-- what opens braces
abbrev pub braces_opened : List Tok
braces_opened = tok.Text (codes " {") ∷ tok.Begin true (pos 4) ∷ tok.Break (break_of (Soft false 1)) ∷ []

-- the break after the last field; the flag says that a comma may stand there
abbrev pub closing_break : Bool → Break
closing_break may = cond may (comma_break 1) (break_of (Soft true 1))

-- What closes braces. Braces without fields are one text.
abbrev pub braces_closed : Bool → Bool → List Tok
braces_closed may bare =
    cond bare (tok.Text (codes " {}") ∷ []) (tok.Break (closing_break may) ∷ tok.End ∷ tok.Text (codes "}") ∷ [])
