-- What the parsers of conditions, of branches and of expressions that begin with a block's word
-- answer.
use Rattle.std.specs.Prelude.{ℕ, suc, max, ◌≡◌, if◌then◌else◌, List, [], ◌∷◌, drop, map, codes, Some, None, Result, Ok, Err}
use Rattle.std.specs.List.{list_any}
use Rattle.lay_node.specs.Ahead.{Tokens, first, tail, is_keyword}
use Rattle.lay_node.specs.reader.Loops.{Read, ◌>>=◌, nodes, deepest, repeat}
use Rattle.lay_code.specs.reader.Blocks.{branch_by}
use Rattle.lay_code.specs.reader.Conditions.{ReadLink, alone, condition_of, further_links, is_let, linked}
use Rattle.lay_code.specs.reader.Exprs.{async_expr, begins_else_if, block_expr, if_expr, labelled_expr, match_expr}
use Rattle.lay_code.specs.reader.Within.{ExprWithin}
use Rattle.lay_code.specs.declared.blocks.Branch.{Branch}
use Rattle.lay_code.specs.declared.conditions.Condition.{Condition}
use Rattle.lay_code.specs.declared.exprs.Expr.{Expr}
use Rattle.lay_code.specs.declared.exprs.Expr.TheVariants as expr
use Rattle.lay_code.specs.declared.operators.Op.{Op}
use Rattle.lay_code.specs.declared.operators.Op.TheVariants as op
use Rattle.lay_read_tokens.specs.declared.found.Found.{Found}
use Rattle.lay_read_tokens.specs.declared.stop.ReadNone.{ReadNone}
use Rattle.lay_read_tokens.specs.declared.stop.ReadNone.TheVariants.{NoMemory}

-- ---- conditions

-- a link after its `&&`, as an operand
abbrev pub and_operand : ReadLink → Op × Expr
and_operand l = (op.AndAnd, l.1)

-- The links, of which none has a `let`, as one expression with the depth that it needs. The first
-- number is the need of the first link, and the second one the greatest need of the others.
abbrev pub chain_found : ReadLink → ℕ → List ReadLink → ℕ → Expr × ℕ
chain_found l need [] most = (l.1, need)
chain_found l need (m ∷ more) most = (expr.Chain l.1 (map and_operand (m ∷ more)), suc (max need most))

-- The condition of these links, or of an expression that begins with them. The needs are given in
-- the same way.
abbrev pub condition_found : ExprWithin → ReadLink → ℕ → List ReadLink → ℕ → Tokens → Read Condition
condition_found within l need more most ts =
    if list_any is_let (l ∷ more) then Some ((record { links = map linked (l ∷ more) }, max need most), ts)
    else (do x ← within.goes_on (chain_found l need more most) ts; Some ((alone x.0.0, x.0.1), x.1))

-- the condition with this first link
abbrev pub condition_behind : ExprWithin → ReadLink × ℕ → Tokens → Read Condition
condition_behind within l ts = do more ← further_links within ts; condition_of within l more.0 more.1

-- The condition is this expression alone. If no expression was read, there is no condition for the
-- same reason. Memory may run out in any case.
abbrev pub IsAlone : Result (Found Expr) ReadNone → Result (Found Condition) ReadNone → Type 0
IsAlone (Ok x) (Ok c) = (c.node ≡ alone x.node) × (c.need ≡ x.need)
IsAlone (Ok x) (Err none) = none ≡ NoMemory
IsAlone (Err none) (Ok c) = ⊥
IsAlone (Err none) (Err other) = other ≡ none

-- ---- branches

-- the branches of an `if`, without the first word and up to the last `else`
abbrev pub branches : ExprWithin → Tokens → Read (List Branch)
branches within ts = do
  b ← branch_by within ts
  more ← repeat begins_else_if (λ us. branch_by within (drop 2 us)) b.1
  Some ((b.0.0 ∷ nodes more.0, max b.0.1 (deepest more.0)), more.1)

-- The branch was put before the further ones, unless memory ran out.
abbrev pub AreBranches : Found Branch → Result (Found (List Branch)) ReadNone → Result (Found (List Branch)) ReadNone → Type 0
AreBranches one (Ok more) (Ok all) = (all.node ≡ one.node ∷ more.node) × (all.need ≡ max one.need more.need)
AreBranches one (Ok more) (Err none) = none ≡ NoMemory
AreBranches one (Err none) (Ok all) = ⊥
AreBranches one (Err none) (Err other) = other ≡ none

-- ---- what begins an expression

-- a block after the word `unsafe`, `const` or `async`
abbrev pub worded_block : ExprWithin → Tokens → Read Expr
worded_block within ts =
    if first (is_keyword (codes "unsafe")) ts then block_expr within expr.Unsafe (tail ts)
    else (if first (is_keyword (codes "const")) ts then block_expr within expr.ConstBlock (tail ts)
    else (if first (is_keyword (codes "async")) ts then async_expr within (tail ts) else None))

-- an expression that begins with `if` or `match`, or a loop
abbrev pub worded : ExprWithin → Tokens → Read Expr
worded within ts =
    if first (is_keyword (codes "if")) ts then if_expr within (tail ts)
    else (if first (is_keyword (codes "match")) ts then match_expr within (tail ts) else labelled_expr within None ts)
