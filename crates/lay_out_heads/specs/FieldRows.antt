-- The streams of what stands around bodies and around fields.
use Rattle.std.specs.Prelude.{Bool, true, false, cond, List, [], ◌∷◌, ◌++◌, codes, pos}
use Rattle.lay_layout.specs.declared.layout.Tok.{Tok}
use Rattle.lay_layout.specs.declared.layout.Tok.TheVariants as tok
use Rattle.lay_form.specs.Form.{Hard, Never}
use Rattle.lay_form.specs.Layout.{break_of}

-- what opens a body: a brace, with or without a leading blank
abbrev pub body_opened : Bool → List Tok
body_opened lead = tok.Text (cond lead (codes " {") (codes "{")) ∷ tok.Break (break_of Never) ∷ tok.Begin true (pos 4) ∷ []

-- what closes a body
abbrev pub body_closed : List Tok
body_closed = tok.Break (break_of (Hard true)) ∷ tok.End ∷ tok.Text (codes "}") ∷ []

-- a newline
abbrev pub line : List Tok
line = tok.Break (break_of (Hard false)) ∷ []

-- what opens fields: a body, and a newline
abbrev pub fields_opened : Bool → List Tok
fields_opened lead = body_opened lead ++ line

-- what stands between two fields
abbrev pub fields_between : List Tok
fields_between = tok.Text (codes ",") ∷ tok.Break (break_of (Hard false)) ∷ []

-- What closes fields. Braces without fields are one text.
abbrev pub fields_closed : Bool → Bool → List Tok
fields_closed lead bare =
    cond bare (tok.Text (cond lead (codes " {}") (codes "{}")) ∷ [])
    (tok.Text (codes ",") ∷ body_closed)
