-- What the parsers of operators require of the function that they call, and what they answer.
use Rattle.std.specs.Prelude.{ℕ, suc, ◌+◌, ◌^◌, ◌<◌, ◌≤◌, nat_le, ◌&&◌, if◌then◌else◌, List, drop, None, Result, IfOk}
use Rattle.std.specs.declared.alloc.Global.{Global}
use denote.Ref.{MutBor}
use Rattle.lay_piece.specs.declared.kind.Delim.TheVariants.{Bracket}
use Rattle.lay_node.specs.Ahead.{Tokens, opens}
use Rattle.lay_node.specs.reader.Loops.{Read, ◌>>=◌, passed}
use Rattle.lay_node.specs.reader.Types.{Within, angled, one_arg}
use Rattle.lay_node.specs.declared.token.Name.{Name}
use Rattle.lay_node.specs.declared.types.Arg.{Arg}
use Rattle.lay_code.specs.reader.Code.{expr_at}
use Rattle.lay_code.specs.nodes.Code.{about_expr}
use Rattle.lay_code.specs.nodes.Exprs.{stands}
use Rattle.lay_code.specs.reader.Exprs.{accepted, climb, generics_by, index_step, left_place, stage}
use Rattle.lay_code.specs.reader.Within.{ExprWithin}
use Rattle.lay_code.specs.declared.exprs.Expr.{Expr}
use Rattle.lay_code.specs.declared.exprs.Place.{Place}
use Rattle.lay_code.specs.declared.exprs.Step.{Step}
use Rattle.lay_read_tokens.specs.Answers.{IsFound}
use Rattle.lay_read_parts.specs.Answers.{gathered}
use Rattle.lay_read_tokens.specs.declared.found.Found.{Found}
use Rattle.lay_read_tokens.specs.declared.stop.ReadNone.{ReadNone}

-- This function parses expressions at this depth. The depth plus one fits in 32 bits.
pub record AreExprs (depth : ℕ) (may_read : Global → MutBor Tokens → Place → ℕ → Type 0)
    (reads : Global → MutBor Tokens → Place → ℕ → Result (Found Expr) ReadNone → MutBor Tokens → Type 0) : Type 0 where
  pub room : depth + 1 < 2 ^ 32
  pub readable : (alloc : Global) (old : MutBor Tokens) (place : Place) → may_read alloc old place depth
  pub read : (alloc : Global) (old new : MutBor Tokens) (place : Place) (r : Result (Found Expr) ReadNone)
      → reads alloc old place depth r new → IsFound (expr_at place depth old.now) r new.now
  pub within_read : (alloc : Global) (old new : MutBor Tokens) (place : Place) (r : Result (Found Expr) ReadNone)
      → reads alloc old place depth r new → IfOk r (λ found. found.need ≤ depth)

-- ---- steps

-- an index step, with its brackets
abbrev pub bracket_step : ExprWithin → Tokens → Read Step
bracket_step within ts = do behind ← passed (opens Bracket) ts; index_step within behind

-- generic arguments after their `::`
abbrev pub late_args : Within → Tokens → Read (List Arg)
late_args within ts = gathered (angled (one_arg within) (drop 2 ts))

-- a method call with generic arguments, after its name
abbrev pub generic_method : ExprWithin → Name → Tokens → Read Step
generic_method within n ts = generics_by within n (drop 2 ts)

-- ---- operators after an operand

-- The expression that an operator of this level makes of the one before it. The one before must be
-- able to stand there, and one level more must fit in the budget.
abbrev pub climb_once : ExprWithin → ℕ → Place → ℕ → Expr × ℕ → Tokens → Read Expr
climb_once within budget place level lhs ts =
    if nat_le (suc lhs.1) budget && stands (about_expr lhs.0) (left_place place level ts) then stage within level place.no_struct lhs ts
    else None

-- the operators below this level, if what they make is accepted
abbrev pub climbed : ExprWithin → ℕ → Place → ℕ → Expr × ℕ → Tokens → Read Expr
climbed within budget place level lhs ts = do x ← climb within place level lhs ts; accepted budget place x.0 x.1
