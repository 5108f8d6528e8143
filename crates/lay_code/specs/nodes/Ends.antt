-- Whether the last token of a form is a `}`.
use Rattle.std.specs.Prelude.{Bool, true, false, List, [], ◌∷◌}
use Rattle.lay_piece.specs.declared.kind.Delim.TheVariants.{Brace}
use Rattle.lay_piece.specs.declared.kind.Kind.{Kind}
use Rattle.lay_piece.specs.declared.kind.Kind.TheVariants as kind
use Rattle.lay_form.specs.Form.{Bit, Blank, Fixed, Operator, Semicolons, Form, Done, Piece, Leaf, Listed, ListedDoc, Brk, LastComma, Group, Part, Deeper, Optional, Docs, Body}

abbrev pub is_brace_kind : Kind → Bool
is_brace_kind (kind.Closer Brace) = true
is_brace_kind _ = false

-- Whether the last token is a `}`. The flag says whether the last token before these bits is one.
abbrev pub brace_bits : Bool → List Bit → Bool
brace_bits before [] = before
brace_bits before (Blank ∷ bits) = brace_bits before bits
brace_bits before (Fixed kind text ∷ bits) = brace_bits (is_brace_kind kind) bits
brace_bits before (Operator text ∷ bits) = brace_bits false bits
brace_bits before (Semicolons ∷ bits) = brace_bits before bits

-- The same of a form. Braces and commas of a body that aren't in the tree don't count. They end no
-- expression but a closure, and a closure may not stand before an `else` anyway.
abbrev pub brace_behind : Bool → Form → Bool
brace_behind before Done = before
brace_behind before (Piece bits f) = brace_behind (brace_bits before bits) f
brace_behind before (Leaf kind text f) = brace_behind (is_brace_kind kind) f
brace_behind before (Listed kind text joint f) = brace_behind (is_brace_kind kind) f
brace_behind before (ListedDoc inner text f) = brace_behind false f
brace_behind before (Brk space f) = brace_behind before f
brace_behind before (LastComma blanks f) = brace_behind before f
brace_behind before (Group consistent offset i f) = brace_behind (brace_behind before i) f
brace_behind before (Part i f) = brace_behind (brace_behind before i) f
brace_behind before (Deeper i f) = brace_behind (brace_behind before i) f
brace_behind before (Optional laid bits f) = brace_behind before f
brace_behind before (Docs inner text f) = brace_behind false f
brace_behind before (Body braces behind i f) = brace_behind (brace_behind before i) f

-- The last token is a `}`.
abbrev pub ends_in_brace : Form → Bool
ends_in_brace f = brace_behind false f
