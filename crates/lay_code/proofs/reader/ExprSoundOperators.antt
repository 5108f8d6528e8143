-- What the strength of the tokens ahead tells of them: an operator between operands, `as`, or a postfix step.
use Rattle.std.proofs.Common.{◌≡◌, ℕ, suc, ◌≤◌, true, false, List, [], ◌∷◌, inl, inr, codes, Option, Some, None, refl, ap, arith}
use Rattle.std.specs.Str.{bytes_eq}
use Rattle.std.specs.Prelude.{option_and_then}
use Rattle.lay_token.specs.Operators.{is_op, is_op_of, op_at}
use Rattle.lay_node.specs.Ahead.{Tokens, first, is_keyword}
use Rattle.lay_node.proofs.Steps.{same_some, chosen}
use Rattle.lay_code.specs.Operators.{all_ops, angle_by, begins_step, binary, is_angle, is_angle_op, named, op_level, op_text, strength, strength_by}
use Rattle.lay_code.specs.declared.operators.Op.{Op}
use Rattle.lay_code.specs.declared.operators.Op.TheVariants as op

-- No operator is of a level above 10.
pub op_low : (o : Op) → op_level o ≤ 10
op_low op.Set = omega arith
op_low op.Upto = omega arith
op_low op.UptoEq = omega arith
op_low op.OrOr = omega arith
op_low op.AndAnd = omega arith
op_low op.EqEq = omega arith
op_low op.Differ = omega arith
op_low op.Less = omega arith
op_low op.Greater = omega arith
op_low op.LessEq = omega arith
op_low op.GreaterEq = omega arith
op_low op.BitOr = omega arith
op_low op.BitXor = omega arith
op_low op.BitAnd = omega arith
op_low op.Shl = omega arith
op_low op.Shr = omega arith
op_low op.Add = omega arith
op_low op.Sub = omega arith
op_low op.Mul = omega arith
op_low op.Div = omega arith
op_low op.Rem = omega arith
op_low _ = omega arith

named_text : (ops : List Op) (text : List ℕ) (o : Op) → named ops text ≡ Some o → bytes_eq (op_text o) text ≡ true
named_text [] text o h = absurd (cc h)
named_text (p ∷ ops) text o h = elim (chosen (bytes_eq (op_text p) text) _ _ _ h) [
  | inl g ↦ same_some (λ q. bytes_eq (op_text q) text ≡ true) p o g.1 g.0
  | inr g ↦ named_text ops text o g.1
]

-- The operator between operands is the one at the beginning.
pub binary_op : (ts : Tokens) (o : Op) → binary ts ≡ Some o → is_op (op_text o) ts ≡ true
unfolding binary
binary_op ts o h = by (op_at ts) h
  where
    by : (found : Option (List ℕ)) → option_and_then (named all_ops) found ≡ Some o → is_op_of (op_text o) found ≡ true
    by None h = absurd (cc h)
    by (Some text) h = named_text all_ops text o h

-- how strongly an operator goes on
pub op_strength : (ts : Tokens) (o : Op) → binary ts ≡ Some o → strength ts ≡ suc (op_level o)
unfolding strength
op_strength ts o h = ap (λ found. strength_by found ts) h

-- what goes on with an expression
data GoesOn (ts : Tokens) (level : ℕ) : Type 0 where
  ByOp : (o : Op) → binary ts ≡ Some o → op_level o ≡ level → GoesOn ts level
  ByAs : binary ts ≡ None → first (is_keyword (codes "as")) ts ≡ true → level ≡ 11 → GoesOn ts level
  ByStep : binary ts ≡ None → begins_step ts ≡ true → level ≡ 13 → GoesOn ts level

goes_on : (ts : Tokens) (level : ℕ) → strength ts ≡ suc level → GoesOn ts level
unfolding strength
goes_on ts level h = by (binary ts) refl h
  where
    by : (found : Option Op) → binary ts ≡ found → strength_by found ts ≡ suc level → GoesOn ts level
    by (Some o) e h = ByOp o e (omega (arith, h))
    by None e h = elim (chosen (first (is_keyword (codes "as")) ts) _ _ _ h) [
      | inl g ↦ ByAs e g.0 (omega (arith, g.1))
      | inr g ↦ elim (chosen (begins_step ts) _ _ _ g.1) [
        | inl f ↦ ByStep e f.0 (omega (arith, f.1))
        | inr f ↦ absurd (omega (arith, f.1))
      ]
    ]

-- Off the levels of `as` and of steps an operator goes on.
pub goes_op : (ts : Tokens) (level : ℕ) → strength ts ≡ suc level → (level ≡ 11 → ⊥) → (level ≡ 13 → ⊥)
    → (o : Op) × (binary ts ≡ Some o) × (op_level o ≡ level)
goes_op ts level h a b = elim (goes_on ts level h) [
  | ByOp o e l ↦ (o, e, l)
  | ByAs e f l ↦ absurd (a l)
  | ByStep e f l ↦ absurd (b l)
]

-- `as` goes on at its level alone.
pub goes_as : (ts : Tokens) → strength ts ≡ 12 → (first (is_keyword (codes "as")) ts ≡ true) × (is_angle ts ≡ false)
goes_as ts h = elim (goes_on ts 11 h) [
  | ByOp o e l ↦ absurd (omega (arith, l, op_low o))
  | ByAs e f l ↦ (f, ap angle_by e)
  | ByStep e f l ↦ absurd (omega (arith, l))
]

-- A step goes on at its level alone.
pub goes_step : (ts : Tokens) → strength ts ≡ 14 → (begins_step ts ≡ true) × (is_angle ts ≡ false)
goes_step ts h = elim (goes_on ts 13 h) [
  | ByOp o e l ↦ absurd (omega (arith, l, op_low o))
  | ByAs e f l ↦ absurd (omega (arith, l))
  | ByStep e f l ↦ (f, ap angle_by e)
]

-- The operators of assignments and of ranges are no `<` and no `<<`.
pub low_no_angle : (o : Op) → op_level o ≤ 1 → is_angle_op o ≡ false
low_no_angle op.Less h = absurd (omega (arith, h))
low_no_angle op.Shl h = absurd (omega (arith, h))
low_no_angle _ h = refl
