-- The places where expressions stand. A place has five rules: the least precedence level of the
-- expression there, whether an operator follows, whether that operator is `<` or `<<`, whether a
-- struct literal is barred, and whether the expression begins a statement or the body of an arm.
use Rattle.std.specs.Prelude.{ℕ, Bool, true, false}
use Rattle.lay_code.specs.declared.exprs.Place.{Place}
use Rattle.lay_code.specs.declared.exprs.Start.{Start}
use Rattle.lay_code.specs.declared.exprs.Start.TheVariants as start

-- A place of this level. The flag says that no struct literal may stand there.
abbrev pub plain : ℕ → Bool → Place
plain level no_struct = record { level = level; no_struct = no_struct; start = start.No; op_after = false; lt_after = false }

-- the place within delimiters, which asks nothing
abbrev pub FREE : Place
FREE = plain 0 false

-- the whole of a statement, or of the body of an arm
abbrev pub statement : Place
statement = record { level = 0; no_struct = false; start = start.Whole; op_after = false; lt_after = false }

abbrev pub begins : Start → Bool
begins start.No = false
begins _ = true

abbrev pub is_whole : Start → Bool
is_whole start.Whole = true
is_whole _ = false

abbrev pub is_part : Start → Bool
is_part start.Part = true
is_part _ = false

-- the start of a place that is part of what begins a statement, if the flag is set
abbrev pub part_if : Bool → Start
part_if true = start.Part
part_if false = start.No

-- The place of a link in a condition with a `let`. The flag says that a further link follows, after
-- its `&&`.
abbrev pub link_place : Bool → Place
link_place more = record { level = 4; no_struct = true; start = start.No; op_after = more; lt_after = false }

-- The place of an operand before an operator. The last two flags say that the operand begins a part
-- of what begins a statement, and that the operator is `<` or `<<`.
abbrev pub before_op : ℕ → Bool → Bool → Bool → Place
before_op level no_struct first angle = record { level = level; no_struct = no_struct; start = part_if first; op_after = true; lt_after = angle }
