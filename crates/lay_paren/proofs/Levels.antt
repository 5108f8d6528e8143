-- Levels of operators.
use Rattle.std.proofs.Common.{◌≡◌, ◌≤◌, List, [], ◌∷◌, refl, arith}
use Rattle.lay_code.specs.Operators.{op_level}
use Rattle.lay_code.specs.declared.exprs.Expr.{Expr}
use Rattle.lay_code.specs.declared.operators.Op.{Op}
use Rattle.lay_code.specs.declared.operators.Op.TheVariants as op
use Rattle.lay_ops.specs.RootFacts.{first_level}
use Rattle.lay_paren_defs.specs.Traversal.{level_by}

low : (o : Op) → op_level o ≤ 10
low op.Upto = omega arith
low op.UptoEq = omega arith
low op.OrOr = omega arith
low op.AndAnd = omega arith
low op.EqEq = omega arith
low op.Differ = omega arith
low op.Less = omega arith
low op.Greater = omega arith
low op.LessEq = omega arith
low op.GreaterEq = omega arith
low op.BitOr = omega arith
low op.BitXor = omega arith
low op.BitAnd = omega arith
low op.Shl = omega arith
low op.Shr = omega arith
low op.Add = omega arith
low op.Sub = omega arith
low op.Mul = omega arith
low op.Div = omega arith
low op.Rem = omega arith
low _ = omega arith

pub level_is : (rest : List (Op × Expr)) → first_level rest ≡ level_by rest
level_is [] = refl
level_is (x ∷ more) = refl

pub level_low : (rest : List (Op × Expr)) → first_level rest ≤ 10
level_low [] = omega arith
level_low (x ∷ more) = low x.0
