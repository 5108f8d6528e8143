-- The streams of elements in a row, and of what opens, separates and closes them.
use Rattle.std.specs.Prelude.{ℕ, Bool, true, false, cond, List, [], ◌∷◌, ◌++◌, codes, pos}
use Rattle.lay_layout.specs.declared.layout.Break.{Break}
use Rattle.lay_layout.specs.declared.layout.Tok.{Tok}
use Rattle.lay_layout.specs.declared.layout.Tok.TheVariants as tok
use Rattle.lay_form.specs.Form.{Form, Soft, Never}
use Rattle.lay_form.specs.Layout.{break_of, comma_break}
use Rattle.lay_form.specs.Stream.{stream_of}

-- elements, with the same tokens before each
abbrev pub further : List Tok → List Form → List Tok
further between [] = []
further between (e ∷ es) = between ++ (stream_of e ++ further between es)

-- elements after what opens them, with the same tokens between them; without elements, nothing
abbrev pub row : List Tok → List Tok → List Form → List Tok
row opening between [] = []
row opening between (e ∷ es) = opening ++ (stream_of e ++ further between es)

-- what stands between the elements of a list
abbrev pub comma_between : List Tok
comma_between = tok.Text (codes ",") ∷ tok.Break (break_of (Soft false 1)) ∷ []

-- what opens a list
abbrev pub list_opened : List ℕ → List Tok
list_opened opener = tok.Begin true (pos 4) ∷ tok.Text opener ∷ tok.Break (break_of (Soft false 0)) ∷ []

-- the break after the last element; the flag says that a comma may stand there
abbrev pub last_break : Bool → Break
last_break may = cond may (comma_break 0) (break_of (Soft true 0))

-- What closes a list. A list without elements is one text.
abbrev pub list_closed : Bool → Bool → List ℕ → List ℕ → List Tok
list_closed may bare both closer =
    cond bare (tok.Text both ∷ []) (tok.Break (last_break may) ∷ tok.Text closer ∷ tok.End ∷ [])

-- what stands between bounds
abbrev pub plus_between : List Tok
plus_between = tok.Break (break_of (Soft false 1)) ∷ tok.Text (codes "+ ") ∷ []

-- what opens the predicates of a where clause
abbrev pub wheres_opened : List Tok
wheres_opened = tok.Break (break_of Never) ∷ tok.Begin true (pos 4) ∷ tok.Break (break_of (Soft true 1)) ∷
    tok.Text (codes "where") ∷ tok.Break (break_of (Soft false 1)) ∷ []

-- what closes the predicates; before a body, a break where a comma may stand comes first
abbrev pub wheres_closed : Bool → Bool → List Tok
wheres_closed body bare = cond bare [] (cond body (tok.Break (comma_break 1) ∷ tok.End ∷ []) (tok.End ∷ []))
