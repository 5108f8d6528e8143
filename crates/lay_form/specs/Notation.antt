-- Short names for forms that the grammar uses: breaks, groups, lists, bodies, fields and braces.
use Rattle.std.specs.Prelude.{ℕ, Bool, true, false, List, [], ◌∷◌, ◌++◌, codes}
use Rattle.lay_piece.specs.declared.kind.Delim.TheVariants.{Brace}
use Rattle.lay_form.specs.Form.{Bit, Blank, Semicolons, Soft, Hard, Never, Form, Done, Piece, Brk, LastComma, Group, Part, Optional, keyword, opener, closer, comma}

-- breaks: of no blank (Z), of one blank (B), hard (H), and never a newline (N); `-` is one step
-- back
abbrev pub Z : Form → Form
Z f = Brk (Soft false 0) f

abbrev pub B : Form → Form
B f = Brk (Soft false 1) f

abbrev pub H : Form → Form
H f = Brk (Hard false) f

abbrev pub N : Form → Form
N f = Brk Never f

abbrev pub Z- : Form → Form
Z- f = Brk (Soft true 0) f

abbrev pub B- : Form → Form
B- f = Brk (Soft true 1) f

abbrev pub H- : Form → Form
H- f = Brk (Hard true) f

-- groups: consistent with an offset of 4, and inconsistent with an offset of 4 and of 0
abbrev pub C4 : Form → Form → Form
C4 i f = Group true 4 i f

abbrev pub I4 : Form → Form → Form
I4 i f = Group false 4 i f

abbrev pub I0 : Form → Form → Form
I0 i f = Group false 0 i f

-- a piece alone
abbrev pub piece : List Bit → Form
piece bits = Piece bits Done

-- a piece, if the flag is true
abbrev pub when : Bool → List Bit → Form → Form
when true bits f = Piece bits f
when false bits f = f

-- each of the parts, with what leads to it
abbrev pub each : (Form → Form) → List Form → Form
each lead [] = Done
each lead (e ∷ es) = lead (Part e (each lead es))

-- a `,` and a break of one blank
abbrev pub comma_gap : Form → Form
comma_gap f = Piece comma (B f)

-- the break of this many blanks after the last element; the flag says that a comma may stand there
abbrev pub last_break : Bool → ℕ → Form → Form
last_break true blanks f = LastComma blanks f
last_break false blanks f = Brk (Soft true blanks) f

-- LIST: elements with a `,` between them. The flag says that a comma may stand after the last
-- element.
abbrev pub comma_list : Bool → Bit → Bit → List Form → Form
comma_list may opening closing [] = piece (opening ∷ closing ∷ [])
comma_list may opening closing (e ∷ es) =
    C4 (Piece (opening ∷ []) (Z (Part e (Part (each comma_gap es) (last_break may 0 (piece (closing ∷ []))))))) Done

-- BODY: parts in braces, each on a line of its own. `before` is the leading blank, if there is one.
-- `skipped` may follow the opening brace, and isn't laid out.
abbrev pub body : List Bit → List Bit → List Form → Form
body before skipped [] = piece (before ++ (opener Brace ∷ (skipped ++ closer Brace ∷ [])))
body before skipped (e ∷ es) =
    Piece (before ++ (opener Brace ∷ skipped)) (N (C4 (Part (each H (e ∷ es)) (H- Done)) (piece (closer Brace ∷ []))))

-- parts with a `,` after each; the last one may be left out
abbrev pub with_commas : List Form → List Form
with_commas [] = []
with_commas (e ∷ []) = Part e (Optional true comma Done) ∷ []
with_commas (e ∷ f ∷ es) = Part e (piece comma) ∷ with_commas (f ∷ es)

-- FIELDS
abbrev pub fields : List Bit → List Form → Form
fields before es = body before [] (with_commas es)

-- BRACES: parts in braces, on one line or each on its own. The flag says that a comma may stand
-- after the last part. None may after a rest or a base.
abbrev pub braces : Bool → List Form → Form
braces may [] = piece (Blank ∷ opener Brace ∷ closer Brace ∷ [])
braces may (e ∷ es) =
    Piece (Blank ∷ opener Brace ∷ []) (C4 (B (Part e (Part (each comma_gap es) (last_break may 1 Done)))) (piece (closer Brace ∷ [])))

-- SOFT: a block of one expression. Other blocks are bodies.
abbrev pub soft : Form → Form
soft e = Piece (Blank ∷ opener Brace ∷ Semicolons ∷ []) (N (C4 (B (Part e (B- Done))) (piece (closer Brace ∷ []))))

abbrev pub where_word : List Bit
where_word = keyword (codes "where") ∷ []

-- `where`, the predicates, and what ends them
abbrev pub predicates : Form → List Form → Form
predicates end [] = Optional false where_word Done
predicates end (e ∷ es) = N (C4 (B- (Piece where_word (B (Part e (Part (each comma_gap es) end))))) Done)

-- WB: predicates before a body. WS: predicates before a `;`. A last comma may be spelled, and so
-- may a `where` without predicates.
abbrev pub where_body : List Form → Form
where_body es = predicates (LastComma 1 Done) es

abbrev pub where_semicolon : List Form → Form
where_semicolon es = predicates (Optional false comma Done) es

-- the predicates, by whether the optional last part is spelled
abbrev pub wheres_spelled : Bool → List Form → Form
wheres_spelled last [] = when last where_word Done
wheres_spelled last (e ∷ es) = predicates (when last comma Done) (e ∷ es)

-- outer attributes, each on a line of its own, and what follows them
abbrev pub behind_attrs : List Form → Form → Form
behind_attrs [] f = f
behind_attrs (a ∷ es) f = Part a (H (behind_attrs es f))

-- parts, each on a line of its own
abbrev pub lines : List Form → Form
lines [] = Done
lines (e ∷ es) = Part e (H (lines es))
