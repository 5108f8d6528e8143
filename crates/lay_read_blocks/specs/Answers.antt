-- What the parsers of blocks require of the functions that they call, and what they answer.
use Rattle.std.specs.Prelude.{ℕ, suc, max, nat_le, ◌+◌, ◌-◌, ◌^◌, ◌<◌, ◌≤◌, Bool, if◌then◌else◌, List, drop, codes, Option, Some, None, is_some, Result, Ok, Err, IfOk}
use Rattle.std.specs.declared.alloc.Global.{Global}
use denote.Ref.{MutBor}
use Rattle.lay_token.specs.Operators.{is_op}
use Rattle.lay_node.specs.Ahead.{Tokens, first, tail, is_keyword}
use Rattle.lay_node.specs.reader.Heads.{semicolon}
use Rattle.lay_node.specs.reader.Loops.{Read, ◌>>=◌}
use Rattle.lay_node.specs.reader.Types.{if_read}
use Rattle.lay_node.specs.declared.attr.Attr.{Attr}
use Rattle.lay_node.specs.declared.heads.Site.{Site}
use Rattle.lay_node.specs.declared.patterns.Pat.{Pat}
use Rattle.lay_node.specs.declared.patterns.PatPlace.TheVariants.{Single}
use Rattle.lay_node.specs.declared.types.Ty.{Ty}
use Rattle.lay_node.specs.declared.types.TypePlace.TheVariants.{Bounds, NoBounds}
use Rattle.lay_code.specs.nodes.Places.{FREE}
use Rattle.lay_code.specs.reader.Blocks.{block_by, else_stands}
use Rattle.lay_code.specs.reader.Code.{code_in, expr_at, item_at}
use Rattle.lay_code.specs.reader.Exprs.{closure_expr, label_expr, labelled_expr, block_word_expr}
use Rattle.lay_code.specs.reader.Item.{fn_body}
use Rattle.lay_code.specs.reader.Within.{ExprWithin}
use Rattle.lay_code.specs.declared.blocks.Arm.{Arm}
use Rattle.lay_code.specs.declared.blocks.Block.{Block}
use Rattle.lay_code.specs.declared.blocks.Stmt.{Stmt}
use Rattle.lay_code.specs.declared.blocks.Stmt.TheVariants as stmt
use Rattle.lay_code.specs.declared.exprs.ClosureParam.{ClosureParam}
use Rattle.lay_code.specs.declared.exprs.Expr.{Expr}
use Rattle.lay_code.specs.declared.exprs.Expr.TheVariants as expr
use Rattle.lay_code.specs.declared.exprs.Place.{Place}
use Rattle.lay_code.specs.declared.item.Item.{Item}
use Rattle.lay_read_shared.specs.alone.ArmFronts.{arm_alone, body_begun}
use Rattle.lay_read_shared.specs.alone.Fronts.{stmt_alone}
use Rattle.lay_ops.specs.declared.operands.ExprLead.{ExprLead}
use Rattle.lay_ops.specs.declared.operands.ExprLead.TheVariants as lead
use Rattle.lay_read_tokens.specs.Answers.{IsFound}
use Rattle.lay_read_tokens.specs.declared.found.Found.{Found}
use Rattle.lay_read_tokens.specs.declared.stop.ReadNone.{ReadNone}

-- These functions parse expressions, blocks after an `else`, and items at this depth. The depth
-- plus one fits in 32 bits.
pub record AreCode (depth : ℕ)
    (may_read_expr : Global → MutBor Tokens → Place → ℕ → Type 0)
    (reads_expr : Global → MutBor Tokens → Place → ℕ → Result (Found Expr) ReadNone → MutBor Tokens → Type 0)
    (may_read_block : Global → MutBor Tokens → ℕ → Type 0)
    (reads_block : Global → MutBor Tokens → ℕ → Result (Found Block) ReadNone → MutBor Tokens → Type 0)
    (may_read_item : Global → MutBor Tokens → Site → ℕ → Type 0)
    (reads_item : Global → MutBor Tokens → Site → ℕ → Result (Found Item) ReadNone → MutBor Tokens → Type 0) : Type 0 where
  pub room : depth + 1 < 2 ^ 32
  pub expr_readable : (alloc : Global) (old : MutBor Tokens) (place : Place) → may_read_expr alloc old place depth
  pub expr_read : (alloc : Global) (old new : MutBor Tokens) (place : Place) (r : Result (Found Expr) ReadNone)
      → reads_expr alloc old place depth r new → IsFound (expr_at place depth old.now) r new.now
  pub expr_within : (alloc : Global) (old new : MutBor Tokens) (place : Place) (r : Result (Found Expr) ReadNone)
      → reads_expr alloc old place depth r new → IfOk r (λ found. found.need ≤ depth)
  -- expressions one level deeper, if there is such a level
  pub below_readable : (alloc : Global) (old : MutBor Tokens) (place : Place) → may_read_expr alloc old place (depth - 1)
  pub below_read : (alloc : Global) (old new : MutBor Tokens) (place : Place) (r : Result (Found Expr) ReadNone)
      → reads_expr alloc old place (depth - 1) r new → IsFound (expr_at place (depth - 1) old.now) r new.now
  pub below_within : (alloc : Global) (old new : MutBor Tokens) (place : Place) (r : Result (Found Expr) ReadNone)
      → reads_expr alloc old place (depth - 1) r new → IfOk r (λ found. found.need ≤ depth - 1)
  pub block_readable : (alloc : Global) (old : MutBor Tokens) → may_read_block alloc old depth
  pub block_read : (alloc : Global) (old new : MutBor Tokens) (r : Result (Found Block) ReadNone)
      → reads_block alloc old depth r new → IsFound ((code_in depth).blocks old.now) r new.now
  pub block_within : (alloc : Global) (old new : MutBor Tokens) (r : Result (Found Block) ReadNone)
      → reads_block alloc old depth r new → IfOk r (λ found. found.need ≤ depth)
  pub item_readable : (alloc : Global) (old : MutBor Tokens) (site : Site) → may_read_item alloc old site depth
  pub item_read : (alloc : Global) (old new : MutBor Tokens) (site : Site) (r : Result (Found Item) ReadNone)
      → reads_item alloc old site depth r new → IsFound (item_at site depth old.now) r new.now
  pub item_within : (alloc : Global) (old new : MutBor Tokens) (site : Site) (r : Result (Found Item) ReadNone)
      → reads_item alloc old site depth r new → IfOk r (λ found. found.need ≤ depth)

-- what is read, unless it needs more than the budget
abbrev pub fits : {A : Type 0} → ℕ → Read A → Read A
fits budget read = do x ← read; if nat_le x.0.1 budget then Some x else None

-- ---- statements

-- a `let` after its first word: the pattern, and the type if it has one
abbrev pub let_head : ExprWithin → Tokens → Read (Pat × Option Ty)
let_head within ts = do
  p ← within.pats Single ts
  t ← if_read (is_op (codes ":") p.1) (λ us. within.kinds.types Bounds (drop 1 us)) p.1
  Some (((p.0.0, t.0.0), max p.0.1 t.0.1), t.1)

-- the rest of a `let`: a value and a block after an `else`, if it has them, and the `;`
abbrev pub let_behind : ExprWithin → Tokens → Read (Option Expr × Option Block)
let_behind within ts = do
  x ← if_read (is_op (codes "=") ts) (λ us. within.exprs FREE (drop 1 us)) ts
  b ← if_read (first (is_keyword (codes "else")) x.1) (λ us. within.blocks (tail us)) x.1
  rest ← semicolon b.1
  if else_stands x.0.0 (is_some b.0.0) then Some (((x.0.0, b.0.0), max x.0.1 b.0.1), rest) else None

-- the `let` that both parts make
abbrev pub let_of : List Attr → Found (Pat × Option Ty) → Result (Found (Option Expr × Option Block)) ReadNone → Result (Found Stmt) ReadNone
let_of attrs head (Ok behind) =
    Ok (record { node = stmt.Let attrs head.node.0 head.node.1 behind.node.0 behind.node.1; need = max head.need behind.need })
let_of attrs head (Err none) = Err none

-- a function body, or the `;` of a function without one
abbrev pub body_if : ExprWithin → Tokens → Read (Option Block)
body_if within ts = fn_body within ts

-- ---- arms

-- An arm from its `=>` up to its comma, given its pattern and its guard. The flag that is read says
-- whether its comma may be missing.
abbrev pub arm_behind : ExprWithin → List Attr → Pat × ℕ → Option Expr × ℕ → Tokens → Read (Arm × Bool)
arm_behind within attrs p g ts = do
  x ← (if is_op (codes "=>") ts then body_begun within (drop 2 ts) else None)
  Some (((record { attrs = attrs; pat = p.0; guard = g.0; body = x.0.0.0 }, x.0.0.1), max p.1 (max g.1 x.0.1)), x.1)

-- ---- closures

-- a closure with a type, from its `->` on
abbrev pub typed_closure : ExprWithin → Bool → Bool → List ClosureParam → ℕ → Tokens → Read Expr
typed_closure within is_async moves params need ts = do
  t ← within.kinds.types NoBounds (drop 2 ts)
  b ← block_by within t.1
  Some ((expr.TypedClosure is_async moves params t.0.0 b.0.0, suc (max need (max t.0.1 b.0.1))), b.1)

-- ---- what begins an expression

-- an expression that holds blocks or is a closure, by its first token
abbrev pub block_head : ExprWithin → Bool → ExprLead → Tokens → Read Expr
block_head within no_struct lead.Label ts = label_expr within ts
block_head within no_struct lead.Brace ts = labelled_expr within None ts
block_head within no_struct lead.BlockWord ts = block_word_expr within ts
block_head within no_struct lead.Closure ts = closure_expr within no_struct ts
block_head within no_struct _ ts = None

-- ---- nodes by themselves, one level deeper

abbrev pub deeper_stmt : ExprWithin → Tokens → Read Stmt
deeper_stmt within ts = do s ← stmt_alone within ts; Some ((s.0.0, suc s.0.1), s.1)

-- an arm, unless it is deeper than this depth
abbrev pub deeper_arm : ExprWithin → ℕ → Tokens → Read Arm
deeper_arm within depth ts = do x ← arm_alone within ts; if nat_le x.0.1 depth then Some ((x.0.0, suc x.0.1), x.1) else None
