-- One step of a reader, from what the readers within it give.
use Rattle.std.proofs.Common.{◌≡◌, ℕ, suc, ◌+◌, true, false, [], ◌∷◌, length, drop, Some, None, refl, sym, ap, ◌∙◌, arith, Bool}
use Rattle.std.proofs.lemmas.List.{drop-drop}
use Rattle.lay_node.specs.Ahead.{Tokens, tail}
use Rattle.lay_code.specs.Operators.{op_text, binary}
use Rattle.lay_code.specs.nodes.Code.{about_expr}
use Rattle.lay_code.specs.nodes.Places.{plain}
use Rattle.lay_code.specs.reader.Exprs.{operand, operand_ends}
use Rattle.lay_code.specs.reader.Within.{ExprWithin}
use Rattle.lay_code.specs.declared.exprs.Expr.{Expr}
use Rattle.lay_code.specs.declared.operators.Op.{Op}

-- ---- tokens that are passed

tail_is : (ts : Tokens) → tail ts ≡ drop 1 ts
tail_is [] = refl
tail_is (t ∷ ts) = refl

pub tail_dropped : (n : ℕ) (ts : Tokens) → tail (drop n ts) ≡ drop (n + 1) ts
tail_dropped n ts = tail_is (drop n ts) ∙ drop-drop 1 n ts

-- ---- operators after an operand

module _ (deeper : ExprWithin) (level : ℕ) (no_struct : Bool) (ts : Tokens) (o : Op) (mid : Tokens) (x : Expr) (n : ℕ)
    (rest : Tokens) (b : binary ts ≡ Some o) (d : mid ≡ drop (length (op_text o)) ts)
    (e : deeper.exprs (plain (level + 1) no_struct) mid ≡ Some ((x, n), rest)) where
  behind : deeper.exprs (plain (suc level) no_struct) (drop (length (op_text o)) ts) ≡ Some ((x, n), rest)
  behind =
      let next : suc level ≡ level + 1 = omega arith in
      ap (λ k. deeper.exprs (plain k no_struct) (drop (length (op_text o)) ts)) next
      ∙ ap (deeper.exprs (plain (level + 1) no_struct)) (sym d) ∙ e

  pub operand_read : operand_ends level no_struct (about_expr x) rest ≡ true
      → operand deeper level no_struct ts ≡ Some (((o, x), n), rest)
  unfolding operand
  operand_read h = rw (b, behind, h) refl

  pub operand_stops : operand_ends level no_struct (about_expr x) rest ≡ false → operand deeper level no_struct ts ≡ None
  unfolding operand
  operand_stops h = rw (b, behind, h) refl
