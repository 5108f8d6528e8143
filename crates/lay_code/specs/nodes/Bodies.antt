-- The bodies of arms and of closures, and the braces around them that the syntax tree doesn't hold.
use Rattle.std.specs.Prelude.{◌&&◌, ◌||◌, not, Bool, true, false}
use Rattle.lay_form.specs.Form.{Braces, Bare, Unseen, Marked}

-- what an expression is as the body of an arm or of a closure
pub data BodyKind : Type 0 where
  -- a macro call
  MacroBody : BodyKind
  -- A block without a label. The first flag says that it holds one expression and nothing else, so
  -- that its braces may be dropped. The second says that this expression holds no struct literal
  -- outside delimiters.
  BlockBody : Bool → Bool → BodyKind
  OtherBody : BodyKind

abbrev pub is_macro : BodyKind → Bool
is_macro MacroBody = true
is_macro _ = false

-- which braces that aren't in the tree may stand around such a body
abbrev pub braces_of : BodyKind → Braces
braces_of MacroBody = Bare
braces_of (BlockBody lone structless) = Unseen
braces_of OtherBody = Marked

-- An arm with this body drops the braces.
abbrev pub is_lone_body : BodyKind → Bool
is_lone_body (BlockBody lone structless) = lone
is_lone_body _ = false

-- A closure with this body drops the braces. Where the flag is set no struct literal may stand in
-- the closure's place, and then the expression within must hold none outside delimiters.
abbrev pub sheds : BodyKind → Bool → Bool
sheds (BlockBody lone structless) no_struct = lone && (not no_struct || structless)
sheds _ no_struct = false
