-- The depth that a form needs, which is how deeply nodes are nested in it.
use Rattle.std.specs.Prelude.{ℕ, ◌+◌, max}
use Rattle.lay_form.specs.Form.{Form, Done, Piece, Leaf, Listed, ListedDoc, Brk, LastComma, Group, Part, Deeper, Optional, Docs, Body}

-- the least depth at which tokens can spell the form
abbrev pub least_depth : Form → ℕ
least_depth Done = 0
least_depth (Piece bits f) = least_depth f
least_depth (Leaf kind text f) = least_depth f
least_depth (Listed kind text joint f) = least_depth f
least_depth (ListedDoc inner text f) = least_depth f
least_depth (Brk space f) = least_depth f
least_depth (LastComma blanks f) = least_depth f
least_depth (Group consistent offset i f) = max (least_depth i) (least_depth f)
least_depth (Part i f) = max (least_depth i) (least_depth f)
least_depth (Deeper i f) = max (least_depth i + 1) (least_depth f)
least_depth (Optional laid bits f) = least_depth f
least_depth (Docs inner text f) = least_depth f
least_depth (Body braces behind i f) = max (least_depth i + 1) (least_depth f)

-- A node that isn't counted in the depth has the nodes within it one level deeper, as every node
-- has. As a part of another node it adds no level. Parsed by itself, it takes one level of the
-- depth.
abbrev pub alone : Form → Form
alone f = Deeper f Done
