-- Climbing: levels that are passed over, and the needs of what is made.
use Rattle.std.proofs.Common.{◌≡◌, ℕ, zero, suc, ◌<◌, ◌≤◌, ◌-◌, ◌==◌, nat_le, nat_lt, ◌&&◌, not, Bool, true, false, if◌then◌else◌, drop, Option, Some, None, is_some, codes, refl, ap, ◌∙◌, arith}
use Rattle.std.proofs.lemmas.Bool.{and_parts}
use Rattle.std.proofs.lemmas.Bool.Decides.{nat_tests}
use Rattle.lay_token.specs.Operators.{is_op}
use Rattle.lay_node.specs.Ahead.{Tokens, first, is_keyword}
use Rattle.lay_node.specs.reader.Loops.{Got, Read, ◌>>=◌, repeat}
use Rattle.lay_code.specs.Operators.{begins_step, strength}
use Rattle.lay_code.specs.nodes.Code.{about_expr}
use Rattle.lay_code.specs.nodes.Exprs.{stands, root_follows}
use Rattle.lay_code.specs.reader.Exprs as r
use Rattle.lay_code.specs.reader.Exprs.{accepted, climb, left_place, stage}
use Rattle.lay_code.specs.reader.Within.{ExprWithin}
use Rattle.lay_code.specs.declared.exprs.Expr.{Expr}
use Rattle.lay_code.specs.declared.exprs.Place.{Place}
use Rattle.lay_read_operators.specs.Answers.{climb_once, climbed}

-- ---- needs

-- What is read needs so much at least.
abbrev pub NeedsAt : ℕ → Read Expr → Type 0
NeedsAt n None = Unit {0}
NeedsAt n (Some got) = n ≤ got.0.1

needs_less : (m n : ℕ) (o : Read Expr) → n ≤ m → NeedsAt m o → NeedsAt n o
needs_less m n None e h = tt
needs_less m n (Some got) e h = omega (arith, h)

needs_behind : {A : Type 0} (n : ℕ) (o : Got A) (f : A × Tokens → Read Expr) → ((got : A × Tokens) → NeedsAt n (f got))
    → NeedsAt n (o >>= f)
needs_behind n None f h = tt
needs_behind n (Some got) f h = h got

needs_further : (m n : ℕ) (o : Read Expr) (f : (Expr × ℕ) × Tokens → Read Expr) → NeedsAt m o
    → ((got : (Expr × ℕ) × Tokens) → m ≤ got.0.1 → NeedsAt n (f got)) → NeedsAt n (o >>= f)
needs_further m n None f h g = tt
needs_further m n (Some got) f h g = g got h

pub needs_if : (n : ℕ) (b : Bool) (x y : Read Expr) → NeedsAt n x → NeedsAt n y → NeedsAt n (if b then x else y)
needs_if n true x y h g = h
needs_if n false x y h g = g

module _ (deeper : ExprWithin) where
  range_by_needs : (no_struct : Bool) (lhs : Expr × ℕ) (inclusive : Bool) (ts : Tokens)
      → NeedsAt (suc lhs.1) (r.range_by deeper no_struct (Some lhs.0) lhs.1 inclusive ts)
  range_by_needs no_struct lhs inclusive ts = needs_behind (suc lhs.1) (r.operand_if deeper 2 no_struct ts) _
      (λ (x : (Option Expr × ℕ) × Tokens). needs_if (suc lhs.1) (inclusive && not (is_some x.0.0)) None _ tt (omega arith))

  range_needs : (no_struct : Bool) (lhs : Expr × ℕ) (ts : Tokens)
      → NeedsAt (suc lhs.1) (r.range_expr deeper no_struct (Some lhs.0) lhs.1 ts)
  unfolding r.range_expr
  range_needs no_struct lhs ts = needs_if (suc lhs.1) (is_op (codes "..=") ts) _ _
      (range_by_needs no_struct lhs true (drop 3 ts)) (range_by_needs no_struct lhs false (drop 2 ts))

  cast_needs : (lhs : Expr × ℕ) (ts : Tokens) → NeedsAt (suc lhs.1) (r.cast_expr deeper lhs ts)
  unfolding r.cast_expr
  cast_needs lhs ts = needs_behind (suc lhs.1) (repeat (first (is_keyword (codes "as"))) (r.one_type deeper) ts) _
      (λ types. omega arith)

  postfix_needs : (lhs : Expr × ℕ) (ts : Tokens) → NeedsAt (suc lhs.1) (r.postfix_expr deeper lhs ts)
  unfolding r.postfix_expr
  postfix_needs lhs ts = needs_if (suc lhs.1) ((about_expr lhs.0).is_number && r.begins_tuple_index ts) None _ tt
      (needs_behind (suc lhs.1) (repeat begins_step (r.one_step deeper) ts) _ (λ steps. omega arith))

  chain_needs : (level : ℕ) (no_struct : Bool) (lhs : Expr × ℕ) (ts : Tokens)
      → NeedsAt (suc lhs.1) (r.chain_expr deeper level no_struct lhs ts)
  unfolding r.chain_expr
  chain_needs level no_struct lhs ts = needs_behind (suc lhs.1) (r.operands deeper level no_struct ts) _ (λ more. omega arith)

  assign_needs : (no_struct : Bool) (lhs : Expr × ℕ) (ts : Tokens)
      → NeedsAt (suc lhs.1) (r.assign_expr deeper no_struct lhs ts)
  unfolding r.assign_expr
  assign_needs no_struct lhs ts = needs_behind (suc lhs.1) (r.operands deeper 0 no_struct ts) _ (λ more. omega arith)

  -- What an operator makes needs more than the expression before it.
  stage_needs : (level : ℕ) (no_struct : Bool) (lhs : Expr × ℕ) (ts : Tokens)
      → NeedsAt (suc lhs.1) (stage deeper level no_struct lhs ts)
  stage_needs zero no_struct lhs ts = assign_needs no_struct lhs ts
  stage_needs (suc zero) no_struct lhs ts = range_needs no_struct lhs ts
  stage_needs (suc (suc level)) no_struct lhs ts = needs_if (suc lhs.1) (suc (suc level) == 11) _ _ (cast_needs lhs ts)
      (needs_if (suc lhs.1) (suc (suc level) == 13) _ _ (postfix_needs lhs ts)
      (chain_needs (suc (suc level)) no_struct lhs ts))

  pub climb_needs : (place : Place) (level : ℕ) (lhs : Expr × ℕ) (ts : Tokens) → NeedsAt lhs.1 (climb deeper place level lhs ts)
  unfolding climb
  climb_needs place zero lhs ts = omega arith
  climb_needs place (suc level) lhs ts = needs_if lhs.1 (nat_le place.level level && strength ts == suc level) _ _
      (needs_if lhs.1 (stands (about_expr lhs.0) (left_place place level ts)) _ None
      (needs_further (suc lhs.1) lhs.1 (stage deeper level place.no_struct lhs ts) _
      (stage_needs level place.no_struct lhs ts)
      (λ x e. needs_less x.0.1 lhs.1 _ (omega (arith, e)) (climb_needs place level x.0 x.1))) tt)
      (climb_needs place level lhs ts)

  -- ---- levels that are passed over

  -- an operator of a level that is reached, and those below it
  abbrev from_level : Place → ℕ → Expr × ℕ → Tokens → Read Expr
  from_level place level lhs ts =
      if stands (about_expr lhs.0) (left_place place level ts) then
      (do x ← stage deeper level place.no_struct lhs ts; climb deeper place level x.0 x.1)
      else None

  no_turn : (place : Place) (level : ℕ) (lhs : Expr × ℕ) (ts : Tokens)
      → nat_le place.level level && strength ts == suc level ≡ false
      → climb deeper place (suc level) lhs ts ≡ climb deeper place level lhs ts
  unfolding climb
  no_turn place level lhs ts h = rw h refl

  turn : (place : Place) (level : ℕ) (lhs : Expr × ℕ) (ts : Tokens)
      → nat_le place.level level && strength ts == suc level ≡ true
      → climb deeper place (suc level) lhs ts ≡ from_level place level lhs ts
  unfolding climb
  turn place level lhs ts h = rw h refl

  no_level : (place : Place) (level : ℕ) (ts : Tokens) → (place.level < strength ts → suc level < strength ts)
      → nat_le place.level level && strength ts == suc level ≡ false
  no_level place level ts h = by (nat_le place.level level && strength ts == suc level) refl
    where
      by : (b : Bool) → nat_le place.level level && strength ts == suc level ≡ b → b ≡ false
      by true g =
          let both = and_parts (nat_le place.level level) (strength ts == suc level) g in
          let le : place.level ≤ level = grind (arith, nat_tests) in
          let same : strength ts ≡ suc level = grind (arith, nat_tests) in
          let more : suc level < strength ts = h (omega (arith, le, same)) in
          absurd (omega (arith, more, same))
      by false g = refl

  -- No operator goes on.
  climb_ends : (place : Place) (n : ℕ) (lhs : Expr × ℕ) (ts : Tokens) → (place.level < strength ts → n < strength ts)
      → climb deeper place n lhs ts ≡ Some (lhs, ts)
  unfolding climb
  climb_ends place zero lhs ts h = refl
  climb_ends place (suc level) lhs ts h =
      no_turn place level lhs ts (no_level place level ts h)
      ∙ climb_ends place level lhs ts (λ e. let more = h e in omega (arith, more))

  -- Levels above that of the operator at the beginning are passed over.
  climb_from : (place : Place) (n level : ℕ) (lhs : Expr × ℕ) (ts : Tokens) → strength ts ≡ suc level → place.level ≤ level
      → suc level ≤ n → climb deeper place n lhs ts ≡ from_level place level lhs ts
  climb_from place zero level lhs ts s p l = absurd (omega (arith, l))
  climb_from place (suc m) level lhs ts s p l = by (m == level) refl (λ k. climb_from place m level lhs ts s p k)
    where
      by : (b : Bool) → m == level ≡ b → (suc level ≤ m → climb deeper place m lhs ts ≡ from_level place level lhs ts)
          → climb deeper place (suc m) lhs ts ≡ from_level place level lhs ts
      by true e below =
          let same : m ≡ level = grind (arith, nat_tests) in
          let goes : nat_le place.level level && strength ts == suc level ≡ true = grind (arith, nat_tests) in
          ap (λ k. climb deeper place (suc k) lhs ts) same ∙ turn place level lhs ts goes
      by false e below =
          let other : (m ≡ level) → ⊥ = grind (arith, nat_tests) in
          let stays : nat_le place.level m && strength ts == suc m ≡ false = grind (arith, nat_tests) in
          no_turn place m lhs ts stays ∙ below (omega (arith, l, other))

  -- ---- what is accepted in the end

  pub accepted_none : (budget : ℕ) (place : Place) (n : ℕ) (o : Read Expr) → budget < n → NeedsAt n o
      → (o >>= (λ x. accepted budget place x.0 x.1)) ≡ None
  accepted_none budget place n None l h = refl
  accepted_none budget place n (Some x) l h =
      let deep : nat_le x.0.1 budget ≡ false = grind (arith, nat_tests) in
      rw deep (and_last (stands (about_expr x.0.0) place) (root_follows (about_expr x.0.0) place x.1))
    where
      and_last : (b d : Bool) → (let got : Read Expr = if b && d && false then Some x else None in got) ≡ None
      and_last true true = refl
      and_last true false = refl
      and_last false d = refl

  module _ (budget : ℕ) (place : Place) where
    -- Nothing goes on: what there is, where it is accepted.
    climbed_ends : (n : ℕ) (lhs : Expr × ℕ) (ts : Tokens) → (place.level < strength ts → n < strength ts)
        → climbed deeper budget place n lhs ts ≡ accepted budget place lhs ts
    climbed_ends n lhs ts h = ap (λ (o : Read Expr). o >>= (λ x. accepted budget place x.0 x.1)) (climb_ends place n lhs ts h)

    from_needs : (level : ℕ) (lhs : Expr × ℕ) (ts : Tokens) → NeedsAt (suc lhs.1) (from_level place level lhs ts)
    from_needs level lhs ts = needs_if (suc lhs.1) (stands (about_expr lhs.0) (left_place place level ts)) _ None
        (needs_further (suc lhs.1) (suc lhs.1) (stage deeper level place.no_struct lhs ts) _
        (stage_needs level place.no_struct lhs ts)
        (λ x e. needs_less x.0.1 (suc lhs.1) _ e (climb_needs place level x.0 x.1))) tt

    module _ (n level : ℕ) (lhs : Expr × ℕ) (ts : Tokens) (s : strength ts ≡ suc level) (p : place.level ≤ level)
        (l : suc level ≤ n) where
      from : climbed deeper budget place n lhs ts ≡ (from_level place level lhs ts >>= (λ x. accepted budget place x.0 x.1))
      from = ap (λ (o : Read Expr). o >>= (λ x. accepted budget place x.0 x.1)) (climb_from place n level lhs ts s p l)

      -- An operator is passed, and those of lower levels go on.
      climbed_step : (y : Expr × ℕ) (rest : Tokens) → climb_once deeper budget place level lhs ts ≡ Some (y, rest)
          → climbed deeper budget place n lhs ts ≡ climbed deeper budget place level y rest
      climbed_step y rest e = from ∙ by (nat_le (suc lhs.1) budget) (stands (about_expr lhs.0) (left_place place level ts)) e
        where
          by : (deep b : Bool)
              → (let got : Read Expr = if deep && b then stage deeper level place.no_struct lhs ts else None in got) ≡ Some (y, rest)
              → (let got : Read Expr = if b then (stage deeper level place.no_struct lhs ts
              >>= (λ x. climb deeper place level x.0 x.1)) else None in got >>= (λ x. accepted budget place x.0 x.1))
              ≡ climbed deeper budget place level y rest
          by true true h = rw h refl
          by true false h = absurd (cc)
          by false b h = absurd (cc)

      -- Where none is passed, nothing is read.
      climbed_none : climb_once deeper budget place level lhs ts ≡ None → climbed deeper budget place n lhs ts ≡ None
      climbed_none e = from ∙ by (nat_le (suc lhs.1) budget) (stands (about_expr lhs.0) (left_place place level ts)) refl refl
        where
          by : (deep b : Bool) → nat_le (suc lhs.1) budget ≡ deep → stands (about_expr lhs.0) (left_place place level ts) ≡ b
              → (from_level place level lhs ts >>= (λ x. accepted budget place x.0 x.1)) ≡ None
          by false b d k = accepted_none budget place (suc lhs.1) (from_level place level lhs ts) (grind (arith, nat_tests))
              (from_needs level lhs ts)
          by true false d k = rw k refl
          by true true d k =
              let none : stage deeper level place.no_struct lhs ts ≡ None = ap2 d k ∙ e in
              rw (k, none) refl
            where
              ap2 : nat_le (suc lhs.1) budget ≡ true → stands (about_expr lhs.0) (left_place place level ts) ≡ true
                  → stage deeper level place.no_struct lhs ts ≡ climb_once deeper budget place level lhs ts
              ap2 d k = rw (d, k) refl

    -- ---- by the strength of what is ahead

    -- An operator goes on that the place allows, below the level that is reached.
    abbrev goes_on : ℕ → Tokens → Bool
    goes_on n ts = nat_lt place.level (strength ts) && nat_le (strength ts) n

    module _ (n k : ℕ) (lhs : Expr × ℕ) (ts : Tokens) (g : goes_on n ts ≡ true) (e : k ≡ strength ts) where
      above : place.level < strength ts
      above = let test = (and_parts (nat_lt place.level (strength ts)) (nat_le (strength ts) n) g).0 in grind (arith, nat_tests)

      below : strength ts ≤ n
      below = let test = (and_parts (nat_lt place.level (strength ts)) (nat_le (strength ts) n) g).1 in grind (arith, nat_tests)

      level_is : strength ts ≡ suc (k - 1)
      level_is = omega (arith, above, e)

      pub level_reached : suc (k - 1) ≤ n
      level_reached = omega (arith, above, below, e)

      level_allowed : place.level ≤ k - 1
      level_allowed = omega (arith, above, e)

      pub climbs_on : (y : Expr × ℕ) (rest : Tokens) → climb_once deeper budget place (k - 1) lhs ts ≡ Some (y, rest)
          → climbed deeper budget place n lhs ts ≡ climbed deeper budget place (k - 1) y rest
      climbs_on y rest h = climbed_step n (k - 1) lhs ts level_is level_allowed level_reached y rest h

      pub climbs_none : climb_once deeper budget place (k - 1) lhs ts ≡ None → climbed deeper budget place n lhs ts ≡ None
      climbs_none h = climbed_none n (k - 1) lhs ts level_is level_allowed level_reached h

    pub climb_done : (n : ℕ) (lhs : Expr × ℕ) (ts : Tokens) → goes_on n ts ≡ false
        → climbed deeper budget place n lhs ts ≡ accepted budget place lhs ts
    climb_done n lhs ts h = climbed_ends n lhs ts (λ e. past (nat_lt place.level (strength ts)) (nat_le (strength ts) n) refl refl h e)
      where
        past : (b d : Bool) → nat_lt place.level (strength ts) ≡ b → nat_le (strength ts) n ≡ d → b && d ≡ false
            → place.level < strength ts → n < strength ts
        past true true x y h e = absurd (cc)
        past true false x y h e = grind (arith, nat_tests)
        past false d x y h e = let no : place.level < strength ts → ⊥ = grind (arith, nat_tests) in absurd (no e)
