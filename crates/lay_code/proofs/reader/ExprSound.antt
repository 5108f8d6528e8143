-- Expressions: what is read stands there, at the depth that it needs, where what is one level deeper is read so.
use Rattle.std.proofs.Common.{◌≡◌, ℕ, zero, suc, ◌≤◌, Bool, true, false, not, ◌&&◌, inl, inr, Some, refl, subst, arith}
use Rattle.std.specs.Prelude.{nat_le, ◌==◌}
use Rattle.std.proofs.lemmas.Bool.{and_parts, and_from, eqb-true, eqb-false, leb-true, le-leb}
use Rattle.lay_node.specs.Ahead.{Tokens}
use Rattle.lay_node.specs.reader.Exact.{InText}
use Rattle.lay_node.proofs.Steps.{same_some, chosen, bind_some}
use Rattle.lay_node.proofs.reader.Loops.{SoundStep}
use Rattle.lay_node.proofs.reader.TypesSoundParts.{Out}
use Rattle.lay_code.specs.Operands.{expr_lead_at}
use Rattle.lay_code.specs.Operators.{is_angle, is_dot_or_try, strength}
use Rattle.lay_code.specs.nodes.Code.{about_expr}
use Rattle.lay_code.specs.nodes.Exprs.{is_chain_level, root_follows, stands}
use Rattle.lay_code.specs.nodes.Places.{before_op, begins, plain}
use Rattle.lay_code.specs.reader.Code.{climbed_on}
use Rattle.lay_code.specs.reader.Exprs.{accepted, climb, climb_by, expr_by, head_by, is_ended, left_place, stage}
use Rattle.lay_code.specs.reader.Within.{ExprWithin}
use Rattle.lay_code.specs.declared.exprs.Expr.{Expr}
use Rattle.lay_code.specs.declared.exprs.Place.{Place}
use Rattle.lay_code.proofs.reader.ExprSoundHead.{head_sound}
use Rattle.lay_code.proofs.reader.ExprSoundLeads.{LedWithin}
use Rattle.lay_code.proofs.reader.ExprSoundLevel.{ExprHeld, LeftHeld, SoundExprWithin}
use Rattle.lay_code.proofs.reader.ExprSoundOperands.{assign_stage, chain_stage}
use Rattle.lay_code.proofs.reader.ExprSoundOperators.{goes_op, op_low}
use Rattle.lay_code.proofs.reader.ExprSoundStages.{cast_stage, postfix_stage, range_stage}
use Rattle.lay_code.proofs.reader.Followed.{followed}

and_true : (b : Bool) → (b && true) ≡ b
and_true true = refl
and_true false = refl

module _ (budget : ℕ) (within : ExprWithin) (sound : SoundExprWithin budget within) (led : LedWithin within) (place : Place) where
  abbrev Left : Expr × ℕ → Tokens → Tokens → Type 0
  Left = LeftHeld place.no_struct (begins place.start)

  -- ---- what an operator makes of the expression before it

  -- Before other operators than postfix steps the expression begins what the whole begins.
  left_begins : (x : Expr) (level : ℕ) (ts : Tokens) → (level == 13) ≡ false
      → stands (about_expr x) (left_place place level ts) ≡ true
      → stands (about_expr x) (before_op (suc level) place.no_struct (begins place.start) (is_angle ts)) ≡ true
  left_begins x level ts n h =
      let S : Bool → Type 0 = λ b. stands (about_expr x) (before_op (suc level) place.no_struct b (is_angle ts)) ≡ true in
      subst S (and_true (begins place.start))
      (subst (λ b. S (begins place.start && not (b && is_dot_or_try ts))) n h)

  chain_level : (level : ℕ) (ts : Tokens) → strength ts ≡ suc level → 2 ≤ level → (level ≡ 11 → ⊥) → (level ≡ 13 → ⊥)
      → is_chain_level level ≡ true
  chain_level level ts s le a b =
      let o = goes_op ts level s a b in
      let high : level ≤ 10 = omega (arith, op_low o.0, o.2) in
      and_from (nat_le 2 level) (nat_le level 10) (le-leb 2 level le) (le-leb level 10 high)

  stage_sound : (level : ℕ) (lhs : Expr × ℕ) (begun ts : Tokens) → Left lhs begun ts
      → stands (about_expr lhs.0) (left_place place level ts) ≡ true → strength ts ≡ suc level → InText ts
      → (x : Expr × ℕ) (rest : Tokens) → stage within level place.no_struct lhs ts ≡ Some (x, rest) → Out Left begun (x, rest)
  stage_sound zero lhs begun ts k m s t x rest h =
      assign_stage budget within sound place.no_struct (begins place.start) lhs begun ts k (left_begins lhs.0 0 ts refl m) s t x rest h
  stage_sound (suc zero) lhs begun ts k m s t x rest h =
      range_stage budget within sound place.no_struct (begins place.start) led lhs begun ts k (left_begins lhs.0 1 ts refl m) s t x
      rest h
  stage_sound (suc (suc n)) lhs begun ts k m s t x rest h =
      let level = suc (suc n) in
      let at : ℕ → Type 0 = λ l. stands (about_expr lhs.0) (left_place place l ts) ≡ true in
      elim (chosen (level == 11) _ _ _ h) [
        | inl g ↦
            let e : level ≡ 11 = eqb-true level 11 g.0 in
            cast_stage budget within sound place.no_struct (begins place.start) lhs begun ts k
            (left_begins lhs.0 11 ts refl (subst at e m)) (omega (arith, s, e)) t x rest g.1
        | inr g ↦ elim (chosen (level == 13) _ _ _ g.1) [
          | inl f ↦
              let e : level ≡ 13 = eqb-true level 13 f.0 in
              postfix_stage budget within sound place.no_struct (begins place.start) lhs begun ts k (subst at e m)
              (omega (arith, s, e)) t x rest f.1
          | inr f ↦
              let chains = chain_level level ts s (omega arith) (eqb-false level 11 g.0) (eqb-false level 13 f.0) in
              chain_stage budget within sound place.no_struct (begins place.start) level chains lhs begun ts k
              (left_begins lhs.0 level ts f.0 m) s t x rest f.1
        ]
      ]

  -- ---- operators after an expression

  climb_sound : (level : ℕ) (lhs : Expr × ℕ) (begun ts : Tokens) → Left lhs begun ts → InText ts → (x : Expr × ℕ) (rest : Tokens)
      → climb within place level lhs ts ≡ Some (x, rest) → Out Left begun (x, rest)
  unfolding climb
  climb_sound zero lhs begun ts k t x rest h = same_some (Out Left begun) (lhs, ts) (x, rest) h (k, t)
  climb_sound (suc level) lhs begun ts k t x rest h =
      elim (chosen (nat_le place.level level && strength ts == suc level) _ _ _ h) [
        | inl g ↦
            let s = eqb-true (strength ts) (suc level) (and_parts (nat_le place.level level) (strength ts == suc level) g.0).1 in
            elim (chosen (stands (about_expr lhs.0) (left_place place level ts)) _ _ _ g.1) [
              | inl f ↦
                  let y = bind_some (stage within level place.no_struct lhs ts) _ _ f.1 in
                  let made = stage_sound level lhs begun ts k f.0 s t y.0.0 y.0.1 y.1 in
                  climb_sound level y.0.0 begun y.0.1 made.0 made.1 x rest y.2
              | inr f ↦ absurd (cc f.1)
            ]
        | inr g ↦ climb_sound level lhs begun ts k t x rest g.1
      ]

  climbed_sound : (lhs : Expr × ℕ) (begun ts : Tokens) → Left lhs begun ts → InText ts → (x : Expr × ℕ) (rest : Tokens)
      → climb_by within place lhs ts ≡ Some (x, rest) → Out Left begun (x, rest)
  climbed_sound lhs begun ts k t x rest h = elim (chosen (is_ended place (about_expr lhs.0) ts) _ _ _ h) [
    | inl g ↦ same_some (Out Left begun) (lhs, ts) (x, rest) g.1 (k, t)
    | inr g ↦ climb_sound 14 lhs begun ts k t x rest g.1
  ]

  -- ---- an expression in its place

  accepted_sound : (most : ℕ) (y : Expr × ℕ) (begun ts : Tokens) → Left y begun ts → InText ts → (x : Expr × ℕ) (rest : Tokens)
      → accepted most place y ts ≡ Some (x, rest) → Out (ExprHeld place most) begun (x, rest)
  accepted_sound most y begun ts k t x rest h =
      let told = about_expr y.0 in
      let root = root_follows told place ts in
      let inner = told.within place.no_struct (begins place.start) in
      elim (chosen (stands told place && root && nat_le y.1 most) _ _ _ h) [
        | inl g ↦
            let last = and_parts (stands told place && root) (nat_le y.1 most) g.0 in
            let both = and_parts (stands told place) root last.0 in
            same_some (Out (ExprHeld place most) begun) (y, ts) (x, rest) g.1
            ((leb-true y.1 most last.1, k.0, and_from (stands told place) inner both.0 k.1, followed told place y.1 begun ts both.1 k.2), t)
        | inr g ↦ absurd (cc g.1)
      ]

  -- An expression that is read stands there, where what is one level deeper is read so.
  pub expr_by_sound : (most : ℕ) → SoundStep (expr_by within most place) (ExprHeld place most)
  unfolding expr_by
  expr_by_sound most ts x rest t h =
      let y = bind_some (head_by within place.no_struct (expr_lead_at ts) ts) _ _ h in
      let z = bind_some (climb_by within place y.0.0 y.0.1) _ _ y.2 in
      let begun = head_sound budget within sound led place.no_struct (begins place.start) ts y.0.0 y.0.1 t y.1 in
      let made = climbed_sound y.0.0 ts y.0.1 begun.0 begun.1 z.0.0 z.0.1 z.1 in
      accepted_sound most z.0.0 ts z.0.1 made.0 made.1 x rest z.2

-- What begins with the first operands of a condition stands there, where they do.
pub climbed_on_sound : (budget : ℕ) (within : ExprWithin) → SoundExprWithin budget within → LedWithin within → (most : ℕ) (lhs : Expr × ℕ)
    (begun ts : Tokens) → LeftHeld true false lhs begun ts → InText ts → (x : Expr × ℕ) (rest : Tokens)
    → climbed_on within most lhs ts ≡ Some (x, rest) → Out (ExprHeld (plain 0 true) most) begun (x, rest)
climbed_on_sound budget within sound led most lhs begun ts k t x rest h =
    let place = plain 0 true in
    let y = bind_some (climb within place 3 lhs ts) _ _ h in
    let made = climb_sound budget within sound led place 3 lhs begun ts k t y.0.0 y.0.1 y.1 in
    accepted_sound budget within sound led place most y.0.0 begun y.0.1 made.0 made.1 x rest y.2
