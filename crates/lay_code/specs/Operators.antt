-- The operators of expressions, their precedence levels, and how strongly the operator that comes
-- next binds (Rust Reference, "Expression precedence").
use Rattle.std.specs.Prelude.{ℕ, suc, ◌||◌, Bool, true, false, cond, if◌then◌else◌, List, [], ◌∷◌, codes, Option, Some, None, option_and_then}
use Rattle.std.specs.Str.{bytes_eq}
use Rattle.lay_piece.specs.declared.kind.Delim.TheVariants.{Paren, Bracket}
use Rattle.lay_token.specs.Lexes.{is_punct}
use Rattle.lay_token.specs.Operators.{op_at, is_op}
use Rattle.lay_node.specs.Ahead.{Tokens, first, tail, is_keyword, opens}
use Rattle.lay_code.specs.declared.operators.Op.{Op}
use Rattle.lay_code.specs.declared.operators.Op.TheVariants as op
use Rattle.lay_code.specs.declared.operators.Prefix.{Prefix}
use Rattle.lay_code.specs.declared.operators.Prefix.TheVariants as before

-- ---- between operands

abbrev pub op_text : Op → List ℕ
op_text op.Set = codes "="
op_text op.AddSet = codes "+="
op_text op.SubSet = codes "-="
op_text op.MulSet = codes "*="
op_text op.DivSet = codes "/="
op_text op.RemSet = codes "%="
op_text op.XorSet = codes "^="
op_text op.AndSet = codes "&="
op_text op.OrSet = codes "|="
op_text op.ShlSet = codes "<<="
op_text op.ShrSet = codes ">>="
op_text op.Upto = codes ".."
op_text op.UptoEq = codes "..="
op_text op.OrOr = codes "||"
op_text op.AndAnd = codes "&&"
op_text op.EqEq = codes "=="
op_text op.Differ = codes "!="
op_text op.Less = codes "<"
op_text op.Greater = codes ">"
op_text op.LessEq = codes "<="
op_text op.GreaterEq = codes ">="
op_text op.BitOr = codes "|"
op_text op.BitXor = codes "^"
op_text op.BitAnd = codes "&"
op_text op.Shl = codes "<<"
op_text op.Shr = codes ">>"
op_text op.Add = codes "+"
op_text op.Sub = codes "-"
op_text op.Mul = codes "*"
op_text op.Div = codes "/"
op_text op.Rem = codes "%"

-- The precedence level of an operator between operands. Above these are `as` at level 11, prefix
-- operators with `return`, `break` and closures at 12, and postfix steps at 13. All other
-- expressions are at 14.
abbrev pub op_level : Op → ℕ
op_level op.Upto = 1
op_level op.UptoEq = 1
op_level op.OrOr = 2
op_level op.AndAnd = 3
op_level op.EqEq = 4
op_level op.Differ = 4
op_level op.Less = 4
op_level op.Greater = 4
op_level op.LessEq = 4
op_level op.GreaterEq = 4
op_level op.BitOr = 5
op_level op.BitXor = 6
op_level op.BitAnd = 7
op_level op.Shl = 8
op_level op.Shr = 8
op_level op.Add = 9
op_level op.Sub = 9
op_level op.Mul = 10
op_level op.Div = 10
op_level op.Rem = 10
op_level _ = 0

abbrev pub all_ops : List Op
all_ops =
    op.Set ∷ op.AddSet ∷ op.SubSet ∷ op.MulSet ∷ op.DivSet ∷ op.RemSet ∷ op.XorSet ∷ op.AndSet ∷ op.OrSet ∷ op.ShlSet ∷ op.ShrSet
    ∷ op.Upto ∷ op.UptoEq ∷ op.OrOr ∷ op.AndAnd ∷ op.EqEq ∷ op.Differ ∷ op.Less ∷ op.Greater ∷ op.LessEq ∷ op.GreaterEq
    ∷ op.BitOr ∷ op.BitXor ∷ op.BitAnd ∷ op.Shl ∷ op.Shr ∷ op.Add ∷ op.Sub ∷ op.Mul ∷ op.Div ∷ op.Rem ∷ []

-- the first operator of the list that has this text
abbrev pub named : List Op → List ℕ → Option Op
named [] text = None
named (o ∷ os) text = cond (bytes_eq (op_text o) text) (Some o) (named os text)

-- the operator between operands that the tokens begin with
unfoldable pub binary : Tokens → Option Op
binary ts = option_and_then (named all_ops) (op_at ts)

-- `<` and `<<`: after a type they would open its generic arguments
abbrev pub is_angle_op : Op → Bool
is_angle_op op.Less = true
is_angle_op op.Shl = true
is_angle_op _ = false

-- ---- before an operand

-- The prefix operator after `&` and `raw`. It is a plain `&` where neither `const` nor `mut`
-- follows.
abbrev pub raw_by : Tokens → Prefix
raw_by ts =
    if first (is_keyword (codes "const")) ts then before.RawConst
    else (if first (is_keyword (codes "mut")) ts then before.RawMut else before.Amp)

abbrev pub amp_by : Tokens → Prefix
amp_by ts =
    if first (is_keyword (codes "mut")) ts then before.AmpMut
    else (if first (is_keyword (codes "raw")) ts then raw_by (tail ts) else before.Amp)

abbrev pub prefix_by : List ℕ → Tokens → Option Prefix
prefix_by text ts =
    if bytes_eq text (codes "-") then Some before.Neg
    else (if bytes_eq text (codes "*") then Some before.Deref
    else (if bytes_eq text (codes "!") then Some before.Bang
    else (if bytes_eq text (codes "&") then Some (amp_by ts) else None)))

-- The prefix operator that the tokens begin with: one character, whatever follows it, and after `&`
-- the words that belong to it.
unfoldable pub prefix : Tokens → Option Prefix
prefix [] = None
prefix (t ∷ ts) = if is_punct t.kind then prefix_by t.text ts else None

-- how many tokens the prefix operator has
abbrev pub prefix_length : Prefix → ℕ
prefix_length before.AmpMut = 2
prefix_length before.RawConst = 3
prefix_length before.RawMut = 3
prefix_length _ = 1

-- ---- after an expression

-- `.` or `?`, which go on with an expression even where no other operator does
abbrev pub is_dot_or_try : Tokens → Bool
is_dot_or_try ts = is_op (codes ".") ts || is_op (codes "?") ts

-- The tokens begin a postfix step.
abbrev pub begins_step : Tokens → Bool
begins_step ts = is_dot_or_try ts || (first (opens Paren) ts || first (opens Bracket) ts)

abbrev pub angle_by : Option Op → Bool
angle_by None = false
angle_by (Some o) = is_angle_op o

abbrev pub is_angle : Tokens → Bool
is_angle ts = angle_by (binary ts)

abbrev pub strength_by : Option Op → Tokens → ℕ
strength_by (Some o) ts = suc (op_level o)
strength_by None ts = if first (is_keyword (codes "as")) ts then 12 else (if begins_step ts then 14 else 0)

-- How strongly the next tokens go on with an expression. The strength is 0 where they don't.
-- Otherwise it is one more than the level of what comes next: an operator, `as` or a postfix step.
-- So where the strength is at most a level, no operator of that level or a higher one comes next.
unfoldable pub strength : Tokens → ℕ
strength ts = strength_by (binary ts) ts
