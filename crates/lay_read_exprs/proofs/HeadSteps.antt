-- What begins an expression, where it is deeper than may be.
use Rattle.std.proofs.Common.{◌≡◌, ℕ, nat_le, Bool, true, false, if◌then◌else◌, Some, None, refl, ap, ◌∙◌, arith}
use Rattle.std.proofs.lemmas.Bool.Decides.{nat_tests}
use Rattle.lay_node.specs.Ahead.{Tokens}
use Rattle.lay_node.specs.reader.Loops.{Read, ◌>>=◌}
use Rattle.lay_code.specs.Operands.{expr_lead_at}
use Rattle.lay_code.specs.nodes.Code.{about_expr}
use Rattle.lay_code.specs.reader.Exprs as r
use Rattle.lay_code.specs.reader.Exprs.{accepted}
use Rattle.lay_code.specs.reader.Within.{ExprWithin}
use Rattle.lay_code.specs.declared.exprs.Expr.{Expr}
use Rattle.lay_code.specs.declared.exprs.Place.{Place}
use Rattle.lay_read_blocks.specs.Answers.{fits}
use Rattle.lay_read_operators.specs.Answers.{climbed}
use Rattle.lay_read_operators.proofs.Climbing.{NeedsAt, accepted_none, climb_needs, needs_if}

module _ (deeper : ExprWithin) (budget : ℕ) (place : Place) where
  -- an expression with what follows what begins it
  abbrev from_head : Read Expr → Read Expr
  from_head o = o >>= (λ h. r.climb_by deeper place h.0 h.1 >>= (λ x. accepted budget place x.0 x.1))

  climb_by_needs : (lhs : Expr × ℕ) (ts : Tokens) → NeedsAt lhs.1 (r.climb_by deeper place lhs ts)
  climb_by_needs lhs ts = needs_if lhs.1 (r.is_ended place (about_expr lhs.0) ts) (Some (lhs, ts)) _ (omega arith) (climb_needs deeper place 14 lhs ts)

  pub head_unfit : (o : Read Expr) → fits budget o ≡ None → from_head o ≡ None
  head_unfit None e = refl
  head_unfit (Some x) e = by (nat_le x.0.1 budget) refl e
    where
      by : (b : Bool) → nat_le x.0.1 budget ≡ b → (let got : Read Expr = if b then Some x else None in got) ≡ None → from_head (Some x) ≡ None
      by true g h = absurd (cc)
      by false g h = accepted_none deeper budget place x.0.1 (r.climb_by deeper place x.0 x.1) (grind (arith, nat_tests)) (climb_by_needs x.0 x.1)

  pub head_fits : (o : Read Expr) (y : (Expr × ℕ) × Tokens) → fits budget o ≡ Some y → o ≡ Some y
  head_fits None y e = absurd (cc)
  head_fits (Some x) y e = by (nat_le x.0.1 budget) e
    where
      by : (b : Bool) → (let got : Read Expr = if b then Some x else None in got) ≡ Some y → ◌≡◌ {A = Read Expr} (Some x) (Some y)
      by true h = h
      by false h = absurd (cc)

  -- what begins an expression, told from what the first token begins
  abbrev head_at : Tokens → Read Expr
  head_at ts = r.head_by deeper place.no_struct (expr_lead_at ts) ts

  -- Where nothing begins one that may be so deep, none is read.
  pub lost_head : (ts : Tokens) → fits budget (head_at ts) ≡ None → r.expr_by deeper budget place ts ≡ None
  unfolding r.expr_by
  lost_head ts e = head_unfit (head_at ts) e

  module _ (ts : Tokens) (head : Expr × ℕ) (mid : Tokens) (e : fits budget (head_at ts) ≡ Some (head, mid)) where
    -- Nothing goes on with what is read.
    pub ended_head : r.is_ended place (about_expr head.0) mid ≡ true
        → r.expr_by deeper budget place ts ≡ accepted budget place head mid
    unfolding r.expr_by
    ended_head ends = ap from_head (head_fits (head_at ts) (head, mid) e) ∙ rw ends refl

    pub going_head : r.is_ended place (about_expr head.0) mid ≡ false
        → r.expr_by deeper budget place ts ≡ climbed deeper budget place 14 head mid
    unfolding r.expr_by
    going_head ends = ap from_head (head_fits (head_at ts) (head, mid) e) ∙ rw ends refl
