-- The streams of what is laid out before and around blocks.
use Rattle.std.specs.Prelude.{ℕ, true, false, List, [], ◌∷◌, ◌++◌, codes, pos}
use Rattle.lay_layout.specs.declared.layout.Tok.{Tok}
use Rattle.lay_layout.specs.declared.layout.Tok.TheVariants as tok
use Rattle.lay_form.specs.Form.{Soft}
use Rattle.lay_form.specs.Layout.{break_of}
use Rattle.lay_form.specs.Stream.{stream_of}
use Rattle.lay_node.specs.nodes.Patterns.{about_pat}
use Rattle.lay_node.specs.declared.patterns.Pat.{Pat}

-- what is laid out before a condition: its group begins, and the word
abbrev pub lead_row : List ℕ → List Tok
lead_row word = tok.Begin false (pos 0) ∷ tok.Text word ∷ []

-- what is laid out before the value of a `let` in a condition
abbrev pub let_row : Pat → List Tok
let_row pat = tok.Text (codes "let ") ∷ (stream_of (about_pat pat).told.form ++ (tok.Text (codes " = ") ∷ []))

-- what is laid out between two links of a condition
abbrev pub link_between : List Tok
link_between = tok.Break (break_of (Soft false 1)) ∷ tok.Text (codes "&& ") ∷ []

-- what is laid out between two branches
abbrev pub else_between : List Tok
else_between = tok.Text (codes " else ") ∷ []

-- what closes a block of one expression that may stand on one line
abbrev pub soft_closed : List Tok
soft_closed = tok.Break (break_of (Soft true 1)) ∷ tok.End ∷ tok.Text (codes "}") ∷ []
