-- What a rule gives, from what each of its steps gives.
use Rattle.std.proofs.Common.{◌≡◌, ◌≤◌, ℕ, suc, true, List, ◌∷◌, drop, codes, Option, Some, None, Result, Ok, Err, IfOk, refl, ap, ◌∙◌, arith}
use Rattle.std.specs.Prelude.{max}
use Rattle.lay_token.specs.Operators.{is_op}
use Rattle.lay_node.specs.Ahead.{Tokens, first, tail, is_keyword}
use Rattle.lay_node.specs.reader.Loops.{Read, ◌>>=◌, nodes, deepest, repeat}
use Rattle.lay_node.specs.reader.Types.{if_read, lifetime}
use Rattle.lay_node.specs.declared.token.Lifetime.{Lifetime}
use Rattle.lay_code.specs.reader.Blocks.{block_by, branch_by}
use Rattle.lay_code.specs.reader.Conditions.{condition_by}
use Rattle.lay_code.specs.reader.Exprs.{begins_else_if, if_expr, label_expr, labelled_expr, while_expr}
use Rattle.lay_code.specs.reader.Within.{ExprWithin}
use Rattle.lay_code.specs.declared.blocks.Block.{Block}
use Rattle.lay_code.specs.declared.blocks.Branch.{Branch}
use Rattle.lay_code.specs.declared.conditions.Condition.{Condition}
use Rattle.lay_code.specs.declared.exprs.Expr.{Expr}
use Rattle.lay_code.specs.declared.exprs.Expr.TheVariants as expr
use Rattle.lay_read_tokens.specs.Answers.{AreFound, IsFound, IsHeld}
use Rattle.lay_read_tokens.proofs.Steps.{lost}
use Rattle.lay_read_tokens.specs.declared.found.Found.{Found}
use Rattle.lay_read_tokens.specs.declared.stop.ReadNone.{ReadNone}
use Rattle.lay_read_blocks.proofs.Chains.{step}
use Rattle.lay_read_branches.specs.Answers.{AreBranches, branches}

-- What is put together needs no more than its parts.
pub branches_in : (one : Found Branch) (more all : Result (Found (List Branch)) ReadNone) (depth : ℕ) → one.need ≤ depth
    → IfOk more (λ found. found.need ≤ depth) → AreBranches one more all → IfOk all (λ found. found.need ≤ depth)
branches_in one (Ok more) (Ok all) depth le less h = omega (arith, le, less, h.1)
branches_in one (Ok more) (Err none) depth le less h = tt
branches_in one (Err none) (Ok all) depth le less h = absurd h
branches_in one (Err none) (Err other) depth le less h = tt

module _ (within : ExprWithin) (ts : Tokens) where
  -- ---- branches

  pub branches_none : branch_by within ts ≡ None → branches within ts ≡ None
  branches_none h = rw h refl

  pub branches_read : (one : Found Branch) (mid : Tokens) (more : Result (Found (List Branch)) ReadNone) (left : Tokens)
      (all : Result (Found (List Branch)) ReadNone) → branch_by within ts ≡ Some ((one.node, one.need), mid)
      → IsHeld AreFound (repeat begins_else_if (λ us. branch_by within (drop 2 us)) mid) more left → AreBranches one more all
      → IsFound (branches within ts) all left
  branches_read one mid (Ok more) left (Ok all) e h k = rw (e, h.1, h.2.0, h.2.1, k.0, k.1) refl
  branches_read one mid (Ok more) left (Err none) e h k = rw k tt
  branches_read one mid (Err none) left (Ok all) e h k = absurd k
  branches_read one mid (Err none) left (Err other) e h k =
      rw k (lost (repeat begins_else_if (λ us. branch_by within (drop 2 us)) mid) (branches within ts) none h (λ n. rw (e, n) refl))

  -- ---- `if`: the branches, and then the block after an `else`

  abbrev if_further : (List Branch × ℕ) × Tokens → Read Expr
  if_further xs = if_read (first (is_keyword (codes "else")) xs.1) (λ us. block_by within (tail us)) xs.1
      >>= (λ o. Some ((expr.If xs.0.0 o.0.0, suc (max xs.0.1 o.0.1)), o.1))

  otherwise_made : (bs : List Branch) (n m : ℕ) (o : Read (Option Block))
      → (o >>= (λ o. let x : Read Expr = Some ((expr.If bs o.0.0, suc (max n (max m o.0.1))), o.1) in x))
      ≡ (o >>= (λ o. Some ((expr.If bs o.0.0, suc (max (max n m) o.0.1)), o.1)))
  otherwise_made bs n m None = refl
  otherwise_made bs n m (Some o) = let same : max n (max m o.0.1) ≡ max (max n m) o.0.1 = omega arith in rw same refl

  pub if_is : if_expr within ts ≡ (branches within ts >>= if_further)
  unfolding if_expr
  if_is = step (branch_by within ts) _ _ if_further
      (λ b. step (repeat begins_else_if (λ us. branch_by within (drop 2 us)) b.1) _ _ if_further
      (λ more. otherwise_made (b.0.0 ∷ nodes more.0) b.0.1 (deepest more.0)
      (if_read (first (is_keyword (codes "else")) more.1) (λ us. block_by within (tail us)) more.1)))

  pub label_is : (x : Lifetime) (left : Tokens) → lifetime ts ≡ Some (x, left) → is_op (codes ":") left ≡ true
      → label_expr within ts ≡ labelled_expr within (Some x) (drop 1 left)
  unfolding label_expr
  label_is x left h o = rw (h, o) refl

  -- the expression that a branch is after `while`
  abbrev loop_of : Option Lifetime → (Branch × ℕ) × Tokens → Read Expr
  loop_of label b = Some ((expr.While label b.0.0.condition b.0.0.body, suc b.0.1), b.1)

  behind_body : (label : Option Lifetime) (c : Condition) (n : ℕ) (b : Option ((Block × ℕ) × Tokens))
      → (b >>= (λ b. Some ((expr.While label c b.0.0, suc (max n b.0.1)), b.1)))
      ≡ ((b >>= (λ b. Some (((record { condition = c; body = b.0.0 }), max n b.0.1), b.1))) >>= loop_of label)
  behind_body label c n None = refl
  behind_body label c n (Some b) = refl

  behind_condition : (label : Option Lifetime) (c : Option ((Condition × ℕ) × Tokens))
      → (c >>= (λ c. block_by within c.1 >>= (λ b. Some ((expr.While label c.0.0 b.0.0, suc (max c.0.1 b.0.1)), b.1))))
      ≡ ((c >>= (λ c. block_by within c.1
      >>= (λ b. Some (((record { condition = c.0.0; body = b.0.0 }), max c.0.1 b.0.1), b.1)))) >>= loop_of label)
  behind_condition label None = refl
  behind_condition label (Some c) = behind_body label c.0.0 c.0.1 (block_by within c.1)

  while_is : (label : Option Lifetime) → while_expr within label ts ≡ (branch_by within ts >>= loop_of label)
  unfolding while_expr branch_by
  while_is label = behind_condition label (condition_by within ts)

  pub while_none : (label : Option Lifetime) → branch_by within ts ≡ None → while_expr within label ts ≡ None
  while_none label h = while_is label ∙ ap (λ b. b >>= loop_of label) h

  pub while_read : (label : Option Lifetime) (b : Branch) (need : ℕ) (left : Tokens) → branch_by within ts ≡ Some ((b, need), left)
      → while_expr within label ts ≡ Some ((expr.While label b.condition b.body, suc need), left)
  while_read label b need left h = while_is label ∙ ap (λ b. b >>= loop_of label) h
