-- The depths that parts need, as the code counts them.
use Rattle.std.specs.Prelude.{ℕ, List, [], ◌∷◌, max, min, Option, Some, None}
use Rattle.lay_form.specs.Depth.{least_depth}
use Rattle.lay_form.specs.Form.{Form}
use Rattle.lay_node.specs.nodes.Heads.{HeadFacts}
use Rattle.lay_node.specs.nodes.Types.{about_args, about_type}
use Rattle.lay_node.specs.declared.token.Word.{Word}
use Rattle.lay_node.specs.declared.types.Args.{Args}
use Rattle.lay_node.specs.declared.types.Ty.{Ty}

-- a depth, capped at the greatest number of 32 bits
abbrev pub counted : ℕ → ℕ
counted depth = min depth 4294967295

-- the greatest depth that any of the forms needs
abbrev pub greatest : List Form → ℕ
greatest [] = 0
greatest (e ∷ es) = max (least_depth e) (greatest es)

-- the generic arguments of a segment
abbrev pub segment_args : Word × Args → Form
segment_args s = (about_args s.1).kind.form

-- the depth that an optional type needs
abbrev pub type_if : Option Ty → ℕ
type_if None = 0
type_if (Some x) = least_depth (about_type x).told.form

-- the depth that an item with this head needs
abbrev pub head_depth : HeadFacts → ℕ
head_depth x = max (least_depth x.head) (least_depth x.tail)
