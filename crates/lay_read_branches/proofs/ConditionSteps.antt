-- Conditions, from the links that are found.
use Rattle.std.proofs.Common.{◌≡◌, ◌≤◌, ◌-◌, ◌<◌, ℕ, suc, true, List, [], ◌∷◌, map, Some, None, Result, Ok, Err, IfOk, refl, sym, ap, ◌∙◌, ◌+◌, if◌then◌else◌, arith}
use Rattle.std.specs.Prelude.{max}
use Rattle.lay_node.specs.Ahead.{Tokens}
use Rattle.lay_node.specs.reader.Loops.{Read, ◌>>=◌, nodes, deepest}
use Rattle.lay_code.specs.nodes.Places.{plain}
use Rattle.lay_code.specs.reader.Code.{climbed_on, code_in}
use Rattle.lay_code.specs.reader.Conditions.{ReadLink, alone, any_let, chain_of, condition_of, linked}
use Rattle.lay_code.specs.reader.Within.{ExprWithin}
use Rattle.lay_code.specs.declared.conditions.Condition.{Condition}
use Rattle.lay_code.specs.declared.exprs.Expr.{Expr}
use Rattle.lay_code.specs.declared.exprs.Expr.TheVariants as expr
use Rattle.lay_code.specs.declared.operators.Op.TheVariants as op
use Rattle.lay_read_tokens.specs.Answers.{IsFound}
use Rattle.lay_read_tokens.specs.declared.found.Found.{Found}
use Rattle.lay_read_tokens.specs.declared.stop.ReadNone.{ReadNone}
use Rattle.lay_read_tokens.proofs.Steps.{lost}
use Rattle.lay_read_types.proofs.Steps.{above_zero}
use Rattle.lay_read_shared.specs.Code.{code_within}
use Rattle.lay_read_shared.proofs.Left.{code_is}
use Rattle.lay_read_operators.specs.Answers.{climbed}
use Rattle.lay_read_branches.specs.Answers.{IsAlone, and_operand, chain_found, condition_found}

-- ---- links that are found

operands_are : (more : List (ReadLink × ℕ)) → map (λ (n : ReadLink × ℕ). (op.AndAnd, n.0.1)) more ≡ map and_operand (nodes more)
operands_are [] = refl
operands_are (m ∷ more) = ap (λ ys. (op.AndAnd, m.0.1) ∷ ys) (operands_are more)

chain_is : (l : ReadLink × ℕ) (more : List (ReadLink × ℕ)) → chain_of l more ≡ chain_found l.0 l.1 (nodes more) (deepest more)
chain_is l [] = refl
chain_is l (m ∷ more) = ap (λ ys. (expr.Chain l.0.1 ys, suc (max l.1 (deepest (m ∷ more))))) (operands_are (m ∷ more))

-- A condition tells of its links what they are and what they need.
pub condition_is : (within : ExprWithin) (l : ReadLink × ℕ) (more : List (ReadLink × ℕ)) (ts : Tokens)
    → condition_of within l more ts ≡ condition_found within l.0 l.1 (nodes more) (deepest more) ts
unfolding condition_of
condition_is within l more ts = ap (λ (x : Expr × ℕ). let c : Read Condition =
    if any_let l more then Some ((record { links = map linked (l.0 ∷ nodes more) }, max l.1 (deepest more)), ts)
    else (within.goes_on x ts >>= (λ y. Some ((alone y.0.0, y.0.1), y.1))) in c) (chain_is l more)

-- ---- one expression

pub alone_read : (read : Read Expr) (x : Result (Found Expr) ReadNone) (c : Result (Found Condition) ReadNone) (left : Tokens)
    → IsFound read x left → IsAlone x c → IsFound (read >>= (λ y. Some ((alone y.0.0, y.0.1), y.1))) c left
alone_read read (Ok x) (Ok c) left h a = rw (h, a.0, a.1) refl
alone_read read (Ok x) (Err none) left h a = rw a tt
alone_read read (Err none) (Ok c) left h a = absurd a
alone_read read (Err none) (Err other) left h a =
    rw a (lost read (read >>= (λ y. Some ((alone y.0.0, y.0.1), y.1))) none h (λ n. rw n refl))

pub alone_within : (x : Result (Found Expr) ReadNone) (c : Result (Found Condition) ReadNone) (depth : ℕ)
    → IfOk x (λ found. found.need ≤ depth) → IsAlone x c → IfOk c (λ found. found.need ≤ depth)
alone_within (Ok x) (Ok c) depth le a = rw a.1 le
alone_within (Ok x) (Err none) depth le a = tt
alone_within (Err none) (Ok c) depth le a = absurd a
alone_within (Err none) (Err other) depth le a = tt

-- ---- what goes on with the first operands

pub goes_nowhere : (depth : ℕ) (lhs : Expr × ℕ) (ts : Tokens) → depth ≡ 0 → (code_in depth).goes_on lhs ts ≡ None
unfolding code_in
goes_nowhere depth lhs ts e = ap (λ (k : ℕ). (code_in k).goes_on lhs ts) e

pub goes_deeper : (depth : ℕ) (lhs : Expr × ℕ) (ts : Tokens) → 0 < depth
    → (code_in depth).goes_on lhs ts ≡ climbed (code_within (depth - 1)) (depth - 1 + 1) (plain 0 true) 3 lhs ts
unfolding code_in
goes_deeper depth lhs ts some =
    let e : depth - 1 + 1 ≡ suc (depth - 1) = omega arith in
    above_zero (λ (k : ℕ). (code_in k).goes_on lhs ts) depth some ∙ ap (λ w. climbed_on w (suc (depth - 1)) lhs ts) (code_is (depth - 1))
    ∙ ap (λ (k : ℕ). climbed_on (code_within (depth - 1)) k lhs ts) (sym e)
