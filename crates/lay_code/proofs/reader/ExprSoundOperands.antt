-- Operators and their operands after an expression: what is parsed stands there, if that holds one
-- level deeper.
use Rattle.std.proofs.Common.{◌≡◌, ℕ, suc, ◌≤◌, max, Bool, true, false, not, ◌&&◌, List, [], ◌∷◌, inl, inr, length, map, drop, Some, refl, sym, ap, subst, ◌∙◌, arith}
use Rattle.std.specs.Prelude.{◌==◌}
use Rattle.std.proofs.lemmas.Bool.{and_parts, and_from, eq-eqb, eqb-true}
use Rattle.lay_form.specs.Form.{Blank, Operator, Form, Done, Part, Piece}
use Rattle.lay_form.specs.Notation.{B, N}
use Rattle.lay_form.specs.Spelled.{Spells}
use Rattle.lay_form.proofs.FormLaws.{deeper as raise}
use Rattle.lay_node.specs.Ahead.{Tokens}
use Rattle.lay_node.specs.nodes.Types.{is_there}
use Rattle.lay_node.specs.reader.Exact.{InText}
use Rattle.lay_node.specs.reader.Loops.{deepest, nodes}
use Rattle.lay_node.proofs.Parts.{Rows}
use Rattle.lay_node.proofs.Steps.{same_some, chosen, bind_some}
use Rattle.lay_node.proofs.reader.Loops.{repeat_sound}
use Rattle.lay_node.proofs.reader.TypesSoundParts.{Out, bit_texts}
use Rattle.lay_code.specs.Operators.{angle_by, binary, is_angle, is_angle_op, op_level, op_text, strength}
use Rattle.lay_code.specs.nodes.Code.{about_expr}
use Rattle.lay_code.specs.nodes.Exprs.{ExprFacts, Tail, is_chain_level, level_of_chain, may_chain, next_is_angle, operands_form, operands_placed, placed, stands, tail_of_operands, targets_form, targets_placed}
use Rattle.lay_code.specs.nodes.Places.{before_op, plain}
use Rattle.lay_code.specs.reader.Exprs.{assign_expr, chain_expr, operand, operand_ends, operands, targets_of, value_of}
use Rattle.lay_code.specs.reader.Within.{ExprWithin}
use Rattle.lay_code.specs.declared.exprs.Expr.{Expr}
use Rattle.lay_code.specs.declared.blocks.Stmt.TheOpen.{Expr-F}
use Rattle.lay_code.specs.declared.exprs.Expr.TheVariants as expr
use Rattle.lay_code.specs.declared.exprs.Place.{Place}
use Rattle.lay_code.specs.declared.operators.Op.{Op}
use Rattle.lay_code.proofs.nodes.ExprsLaws.{behind_op, expr_assign_is, expr_chain_is}
use Rattle.lay_code.proofs.nodes.ExprsLaws as laws
use Rattle.lay_code.proofs.reader.ExprSoundLevel.{ExprHeld, LeftHeld, SoundExprWithin, made_before, tail_held, within_held}
use Rattle.lay_code.proofs.reader.ExprSoundOperators.{binary_op, goes_op, low_no_angle, op_strength}
use Rattle.lay_code.proofs.reader.ExprSoundPrefixes.{rows_there}
use Rattle.lay_code.proofs.reader.Followed.{SpelledBefore, before_deeper, group_made, last_made, part_made, piece_made}

-- ---- an expression before an operator

-- It stands in its place, where what is within it does.
pub left_placed : (x : ExprFacts) (level : ℕ) (no_struct starts angle : Bool) → stands x (before_op level no_struct starts angle) ≡ true
    → x.within no_struct starts ≡ true → placed x (before_op level no_struct starts angle) ≡ true
left_placed x level no_struct true angle h w = and_from (stands x (before_op level no_struct true angle)) (x.within no_struct true) h w
left_placed x level no_struct false angle h w = and_from (stands x (before_op level no_struct false angle)) (x.within no_struct false) h w

module _ (budget : ℕ) (within : ExprWithin) (sound : SoundExprWithin budget within) (level : ℕ) (no_struct : Bool) where
  -- ---- operands

  -- An operator of the level stands there, and its operand after it, which ends where an operator of the level may follow.
  pub record OperandRow (x : (Op × Expr) × ℕ) (ts rest : Tokens) : Type 0 where
    pub strong : strength ts ≡ suc level
    pub named : binary ts ≡ Some x.0.0
    pub held : ExprHeld (plain (suc level) no_struct) budget (x.0.1, x.1) (drop (length (op_text x.0.0)) ts) rest
    pub ended : operand_ends level no_struct (about_expr x.0.1) rest ≡ true

  row_sound : (ts : Tokens) (x : (Op × Expr) × ℕ) (rest : Tokens) → InText ts → (strength ts == suc level) ≡ true
      → operand within level no_struct ts ≡ Some (x, rest) → Out OperandRow ts (x, rest)
  unfolding operand
  row_sound ts x rest t m h =
      let o = bind_some (binary ts) _ _ h in
      let at = drop (length (op_text o.0)) ts in
      let y = bind_some (within.exprs (plain (suc level) no_struct) at) _ _ o.2 in
      let left = bit_texts (Operator (op_text o.0)) ts at (binary_op ts o.0 o.1, refl) t in
      let s = sound.exprs (plain (suc level) no_struct) at y.0.0 y.0.1 left y.1 in
      elim (chosen (operand_ends level no_struct (about_expr y.0.0.0) y.0.1) _ _ _ y.2) [
        | inl g ↦
            same_some (Out OperandRow ts) (((o.0, y.0.0.0), y.0.0.1), y.0.1) (x, rest) g.1
            (record { strong = eqb-true (strength ts) (suc level) m; named = o.1; held = s.0; ended = g.0 }, s.1)
        | inr g ↦ absurd (cc g.1)
      ]

  abbrev told_operands : List ((Op × Expr) × ℕ) → List (Op × ExprFacts)
  told_operands xs = map behind_op (nodes xs)

  operands_sound : (ts : Tokens) (xs : List ((Op × Expr) × ℕ)) (rest : Tokens) → InText ts → strength ts ≡ suc level
      → operands within level no_struct ts ≡ Some (xs, rest) → Rows OperandRow xs ts rest × InText rest × (is_there xs ≡ true)
  unfolding operands
  operands_sound ts xs rest t s h =
      let more : Tokens → Bool = λ us. strength us == suc level in
      let r = repeat_sound more (operand within level no_struct) OperandRow row_sound ts xs rest t h in
      (r.0, r.1, rows_there more OperandRow xs ts rest r.0 (eq-eqb (strength ts) (suc level) s) r.2)

  -- an operator and its operand, and what follows it
  operand_spelled : (t : Tail) (most : ℕ) (x : (Op × Expr) × ℕ) (f : Form) (ts mid rest : Tokens) → OperandRow x ts mid
      → SpelledBefore t (Part (about_expr x.0.1).form f) no_struct most (drop (length (op_text x.0.0)) ts) rest
      → SpelledBefore t (B (Piece (Operator (op_text x.0.0) ∷ []) (Piece (Blank ∷ []) (Part (about_expr x.0.1).form f)))) no_struct most ts rest
  operand_spelled t most x f ts mid rest r k =
      let at = drop (length (op_text x.0.0)) ts in
      let inner = Part (about_expr x.0.1).form f in
      piece_made t no_struct most (Operator (op_text x.0.0) ∷ []) (Piece (Blank ∷ []) inner) ts at rest
      (at, (binary_op ts x.0.0 r.named, refl), refl) (piece_made t no_struct most (Blank ∷ []) inner at at rest (at, refl, refl) k)

  -- Operators and their operands are spelled, and end in the last operand.
  operands_spelled : (most : ℕ) (xs : List ((Op × Expr) × ℕ)) (ts rest : Tokens) → deepest xs ≤ most → Rows OperandRow xs ts rest
      → is_there xs ≡ true
      → SpelledBefore (tail_of_operands (told_operands xs)) (operands_form (told_operands xs)) no_struct most ts rest
  operands_spelled most [] ts rest le r h = absurd (cc h)
  operands_spelled most (x ∷ []) ts rest le r h =
      let told = about_expr x.0.1 in
      let at = drop (length (op_text x.0.0)) ts in
      let held = before_deeper told.tail told.form no_struct x.1 most at r.0 (omega (arith, le))
      (tail_held (plain (suc level) no_struct) budget told x.1 at r.0 r.1.held) in
      operand_spelled told.tail most x Done ts r.0 rest r.1
      (last_made told.tail no_struct most told.form at rest
      (subst (λ us. SpelledBefore told.tail told.form no_struct most at us) r.2 held))
  operands_spelled most (x ∷ y ∷ xs) ts rest le r h =
      let told = about_expr x.0.1 in
      let at = drop (length (op_text x.0.0)) ts in
      let all = told_operands (y ∷ xs) in
      operand_spelled (tail_of_operands all) most x (operands_form all) ts r.0 rest r.1
      (part_made (tail_of_operands all) no_struct most told.form (operands_form all) at r.0 rest
      (raise told.form x.1 most at r.0 (omega (arith, le)) r.1.held.1)
      (operands_spelled most (y ∷ xs) r.0 rest (omega (arith, le)) r.2 refl))

  -- the level of an operator of a row
  level_is : (x : (Op × Expr) × ℕ) (ts rest : Tokens) → OperandRow x ts rest → op_level x.0.0 ≡ level
  level_is x ts rest r = omega (arith, r.strong, op_strength ts x.0.0 r.named)

  angle_is : (x : (Op × Expr) × ℕ) (ts rest : Tokens) → OperandRow x ts rest → is_angle ts ≡ is_angle_op x.0.0
  angle_is x ts rest r = ap angle_by r.named

  -- What stands before another operator of the level.
  before_next : (x y : (Op × Expr) × ℕ) (ts mid rest : Tokens) → OperandRow x ts mid → OperandRow y mid rest
      → (not (level == 4) ≡ true) × (placed (about_expr x.0.1) (before_op (suc level) no_struct false (is_angle_op y.0.0)) ≡ true)
  before_next x y ts mid rest r s =
      let told = about_expr x.0.1 in
      let ends = stands told (before_op (suc level) no_struct false (is_angle mid)) in
      let e : operand_ends level no_struct told mid ≡ (not (level == 4) && ends) =
      rw (eq-eqb (strength mid) (suc level) s.strong) refl in
      let both = and_parts (not (level == 4)) ends (sym e ∙ r.ended) in
      let stood = subst (λ b. stands told (before_op (suc level) no_struct false b) ≡ true) (angle_is y mid rest s) both.1 in
      let inner = within_held told (plain (suc level) no_struct) r.held.2 in
      (both.0, left_placed told (suc level) no_struct false (is_angle_op y.0.0) stood inner)

  operands_good : (xs : List ((Op × Expr) × ℕ)) (ts rest : Tokens) → Rows OperandRow xs ts rest
      → operands_placed level no_struct (told_operands xs) ≡ true
  operands_good [] ts rest r = refl
  operands_good (x ∷ []) ts rest r =
      let told = about_expr x.0.1 in
      let here = eq-eqb (op_level x.0.0) level (level_is x ts r.0 r.1) in
      and_from ((op_level x.0.0 == level) && placed told (plain (suc level) no_struct)) true
      (and_from (op_level x.0.0 == level) (placed told (plain (suc level) no_struct)) here r.1.held.2) refl
  operands_good (x ∷ y ∷ xs) ts rest r =
      let told = about_expr x.0.1 in
      let place = before_op (suc level) no_struct false (is_angle_op y.0.0) in
      let here = eq-eqb (op_level x.0.0) level (level_is x ts r.0 r.1) in
      let next = before_next x y ts r.0 r.2.0 r.1 r.2.1 in
      and_from ((op_level x.0.0 == level) && placed told place) (operands_placed level no_struct (told_operands (y ∷ xs)))
      (and_from (op_level x.0.0 == level) (placed told place) here next.1) (operands_good (y ∷ xs) r.0 rest r.2)

  operands_chain : (xs : List ((Op × Expr) × ℕ)) (ts rest : Tokens) → Rows OperandRow xs ts rest → is_there xs ≡ true
      → may_chain level (told_operands xs) ≡ true
  operands_chain [] ts rest r h = absurd (cc h)
  operands_chain (x ∷ []) ts rest r h = refl
  operands_chain (x ∷ y ∷ xs) ts rest r h = (before_next x y ts r.0 r.2.0 r.1 r.2.1).0

  first_level : (xs : List ((Op × Expr) × ℕ)) (ts rest : Tokens) → Rows OperandRow xs ts rest → is_there xs ≡ true
      → (level_of_chain (told_operands xs) ≡ level) × (next_is_angle (told_operands xs) ≡ is_angle ts)
  first_level [] ts rest r h = absurd (cc h)
  first_level (x ∷ xs) ts rest r h = (level_is x ts r.0 r.1, sym (angle_is x ts r.0 r.1))

module _ (budget : ℕ) (within : ExprWithin) (sound : SoundExprWithin budget within) (no_struct starts : Bool) where
  abbrev Left : Expr × ℕ → Tokens → Tokens → Type 0
  Left = LeftHeld no_struct starts

  -- ---- chains

  -- Operators of one level and their operands that stand after a first are a chain with it.
  pub chain_stands : (level : ℕ) → is_chain_level level ≡ true → (lhs : Expr × ℕ) (begun ts : Tokens) → Left lhs begun ts
      → stands (about_expr lhs.0) (before_op (suc level) no_struct starts (is_angle ts)) ≡ true → (xs : List ((Op × Expr) × ℕ))
      (end : Tokens) → Rows (OperandRow budget within sound level no_struct) xs ts end → is_there xs ≡ true
      → Left (expr.Chain lhs.0 (nodes xs), suc (max lhs.1 (deepest xs))) begun end
  chain_stands level chains lhs begun ts k m xs end r there =
      let told = about_expr lhs.0 in
      let most = max lhs.1 (deepest xs) in
      let all = map behind_op (nodes xs) in
      let l = first_level budget within sound level no_struct xs ts end r there in
      let place : Bool → Place = λ a. before_op (suc level) no_struct starts a in
      let W : ℕ → Bool → Bool =
      λ n a. is_chain_level n && may_chain n all && placed told (before_op (suc n) no_struct starts a) && operands_placed n no_struct all in
      let good : W level (is_angle ts) ≡ true =
      and_from (is_chain_level level && may_chain level all && placed told (place (is_angle ts))) (operands_placed level no_struct all)
      (and_from (is_chain_level level && may_chain level all) (placed told (place (is_angle ts)))
      (and_from (is_chain_level level) (may_chain level all) chains
      (operands_chain budget within sound level no_struct xs ts end r there))
      (left_placed told (suc level) no_struct starts (is_angle ts) m k.1))
      (operands_good budget within sound level no_struct xs ts end r) in
      let told_good : W (level_of_chain all) (next_is_angle all) ≡ true =
      subst (λ n. W n (next_is_angle all) ≡ true) (sym l.0) (subst (λ a. W level a ≡ true) (sym l.1) good) in
      let ends = tail_of_operands all in
      let inner = Part told.form (operands_form all) in
      let spelled = part_made ends no_struct most told.form (operands_form all) begun ts end
      (raise told.form lhs.1 most begun ts (omega arith) k.0)
      (operands_spelled budget within sound level no_struct most xs ts end (omega arith) r there) in
      made_before no_struct starts (about_expr (expr.Chain lhs.0 (nodes xs))) (Expr-F.Chain told all) most begun end
      (expr_chain_is lhs.0 (nodes xs)) (group_made ends no_struct most false 4 inner begun end spelled) told_good

  -- operators of one level and their operands after a first
  pub chain_stage : (level : ℕ) → is_chain_level level ≡ true → (lhs : Expr × ℕ) (begun ts : Tokens) → Left lhs begun ts
      → stands (about_expr lhs.0) (before_op (suc level) no_struct starts (is_angle ts)) ≡ true → strength ts ≡ suc level → InText ts
      → (x : Expr × ℕ) (rest : Tokens) → chain_expr within level no_struct lhs ts ≡ Some (x, rest) → Out Left begun (x, rest)
  unfolding chain_expr
  chain_stage level chains lhs begun ts k m s t x rest h =
      let more = bind_some (operands within level no_struct ts) _ _ h in
      let xs = more.0.0 in
      let end = more.0.1 in
      let r = operands_sound budget within sound level no_struct ts xs end t s more.1 in
      same_some (Out Left begun) ((expr.Chain lhs.0 (nodes xs), suc (max lhs.1 (deepest xs))), end) (x, rest) more.2
      (chain_stands level chains lhs begun ts k m xs end r.0 r.2, r.1)

  -- ---- assignments

  abbrev Row : (Op × Expr) × ℕ → Tokens → Tokens → Type 0
  Row = OperandRow budget within sound 0 no_struct

  abbrev told_targets : Expr → List ((Op × Expr) × ℕ) → List (ExprFacts × Op)
  told_targets x ys = map laws.before_op (targets_of x (nodes ys))

  -- what follows the targets before this one
  abbrev behind_targets : Expr → List ((Op × Expr) × ℕ) → Form
  behind_targets x ys = targets_form (told_targets x ys) (Part (about_expr (value_of x (nodes ys))).form Done)

  -- the facts about the value
  abbrev value_told : Expr → List ((Op × Expr) × ℕ) → ExprFacts
  value_told x ys = about_expr (value_of x (nodes ys))

  -- a target and its operator, before what follows them
  target_spelled : (t : Tail) (most : ℕ) (x : Expr) (n : ℕ) (y : (Op × Expr) × ℕ) (f : Form) (ts mid end rest : Tokens) → n ≤ most
      → Spells (about_expr x).form n ts mid → Row y mid end
      → SpelledBefore t f no_struct most (drop (length (op_text y.0.0)) mid) rest
      → SpelledBefore t (targets_form ((about_expr x, y.0.0) ∷ []) f) no_struct most ts rest
  target_spelled t most x n y f ts mid end rest le s r k =
      let at = drop (length (op_text y.0.0)) mid in
      let F = about_expr x in
      let blank = Piece (Blank ∷ []) (N f) in
      let named = Piece (Operator (op_text y.0.0) ∷ []) blank in
      part_made t no_struct most F.form (Piece (Blank ∷ []) named) ts mid rest (raise F.form n most ts mid le s)
      (piece_made t no_struct most (Blank ∷ []) named mid mid rest (mid, refl, refl)
      (piece_made t no_struct most (Operator (op_text y.0.0) ∷ []) blank mid at rest (at, (binary_op mid y.0.0 r.named, refl), refl)
      (piece_made t no_struct most (Blank ∷ []) (N f) at at rest (at, refl, refl) k)))

  -- Targets and the value are spelled, and end in the value.
  targets_spelled : (most : ℕ) (x : Expr) (n : ℕ) (ys : List ((Op × Expr) × ℕ)) (ts mid rest : Tokens) → n ≤ most
      → deepest ys ≤ most → Spells (about_expr x).form n ts mid → Rows Row ys mid rest → is_there ys ≡ true
      → SpelledBefore (value_told x ys).tail (behind_targets x ys) no_struct most ts rest
  targets_spelled most x n [] ts mid rest le less s r h = absurd (cc h)
  targets_spelled most x n (y ∷ []) ts mid rest le less s r h =
      let told = about_expr y.0.1 in
      let at = drop (length (op_text y.0.0)) mid in
      let held = before_deeper told.tail told.form no_struct y.1 most at r.0 (omega (arith, less))
      (tail_held (plain 1 no_struct) budget told y.1 at r.0 r.1.held) in
      target_spelled told.tail most x n y (Part told.form Done) ts mid r.0 rest le s r.1
      (last_made told.tail no_struct most told.form at rest
      (subst (λ us. SpelledBefore told.tail told.form no_struct most at us) r.2 held))
  targets_spelled most x n (y ∷ z ∷ ys) ts mid rest le less s r h =
      let at = drop (length (op_text y.0.0)) mid in
      target_spelled (value_told y.0.1 (z ∷ ys)).tail most x n y (behind_targets y.0.1 (z ∷ ys)) ts mid r.0 rest le s r.1
      (targets_spelled most y.0.1 y.1 (z ∷ ys) at r.0 rest (omega (arith, less)) (omega (arith, less)) r.1.held.1 r.2 refl)

  targets_good : (first : Bool) (x : Expr) (ys : List ((Op × Expr) × ℕ)) (ts rest : Tokens)
      → placed (about_expr x) (before_op 1 no_struct first false) ≡ true → Rows Row ys ts rest
      → targets_placed (told_targets x ys) no_struct first ≡ true
  targets_good first x [] ts rest p r = refl
  targets_good first x (y ∷ []) ts rest p r =
      let told = about_expr x in
      let here = eq-eqb (op_level y.0.0) 0 (level_is budget within sound 0 no_struct y ts r.0 r.1) in
      and_from ((op_level y.0.0 == 0) && placed told (before_op 1 no_struct first false)) true
      (and_from (op_level y.0.0 == 0) (placed told (before_op 1 no_struct first false)) here p) refl
  targets_good first x (y ∷ z ∷ ys) ts rest p r =
      let told = about_expr x in
      let here = eq-eqb (op_level y.0.0) 0 (level_is budget within sound 0 no_struct y ts r.0 r.1) in
      let next = before_next budget within sound 0 no_struct y z ts r.0 r.2.0 r.1 r.2.1 in
      let low : op_level z.0.0 ≤ 1 = omega (arith, level_is budget within sound 0 no_struct z r.0 r.2.0 r.2.1) in
      let stood = subst (λ b. placed (about_expr y.0.1) (before_op 1 no_struct false b) ≡ true) (low_no_angle z.0.0 low) next.1 in
      and_from ((op_level y.0.0 == 0) && placed told (before_op 1 no_struct first false))
      (targets_placed (told_targets y.0.1 (z ∷ ys)) no_struct false)
      (and_from (op_level y.0.0 == 0) (placed told (before_op 1 no_struct first false)) here p)
      (targets_good false y.0.1 (z ∷ ys) r.0 rest stood r.2)

  -- The last operand is the value.
  value_good : (x : Expr) (ys : List ((Op × Expr) × ℕ)) (ts rest : Tokens) → Rows Row ys ts rest → is_there ys ≡ true
      → placed (value_told x ys) (plain 1 no_struct) ≡ true
  value_good x [] ts rest r h = absurd (cc h)
  value_good x (y ∷ []) ts rest r h = r.1.held.2
  value_good x (y ∷ z ∷ ys) ts rest r h = value_good y.0.1 (z ∷ ys) r.0 rest r.2 refl

  targets_there : (x : Expr) (ys : List ((Op × Expr) × ℕ)) → is_there ys ≡ true → is_there (told_targets x ys) ≡ true
  targets_there x [] h = absurd (cc h)
  targets_there x (y ∷ ys) h = refl

  -- The operators of assignments and of ranges don't open generic arguments.
  pub no_angle : (level : ℕ) (ts : Tokens) → level ≤ 1 → strength ts ≡ suc level → is_angle ts ≡ false
  no_angle level ts le h =
      let g = goes_op ts level h (λ e. omega (arith, le, e)) (λ e. omega (arith, le, e)) in
      ap angle_by g.1 ∙ low_no_angle g.0 (omega (arith, le, g.2))

  -- targets and a value after a first target
  pub assign_stage : (lhs : Expr × ℕ) (begun ts : Tokens) → Left lhs begun ts
      → stands (about_expr lhs.0) (before_op 1 no_struct starts (is_angle ts)) ≡ true → strength ts ≡ 1 → InText ts
      → (x : Expr × ℕ) (rest : Tokens) → assign_expr within no_struct lhs ts ≡ Some (x, rest) → Out Left begun (x, rest)
  unfolding assign_expr
  assign_stage lhs begun ts k m s t x rest h =
      let more = bind_some (operands within 0 no_struct ts) _ _ h in
      let ys = more.0.0 in
      let end = more.0.1 in
      let r = operands_sound budget within sound 0 no_struct ts ys end t s more.1 in
      let told = about_expr lhs.0 in
      let most = max lhs.1 (deepest ys) in
      let stood = subst (λ b. stands told (before_op 1 no_struct starts b) ≡ true) (no_angle 0 ts (omega arith) s) m in
      let first = left_placed told 1 no_struct starts false stood k.1 in
      let targets = targets_of lhs.0 (nodes ys) in
      let value = value_of lhs.0 (nodes ys) in
      let last = value_good lhs.0 ys ts end r.0 r.2 in
      let told_all = told_targets lhs.0 ys in
      let good = and_from (is_there told_all && targets_placed told_all no_struct starts) (placed (about_expr value) (plain 1 no_struct))
      (and_from (is_there told_all) (targets_placed told_all no_struct starts) (targets_there lhs.0 ys r.2)
      (targets_good starts lhs.0 ys ts end first r.0)) last in
      same_some (Out Left begun) ((expr.Assign targets value, suc most), end) (x, rest) more.2 (
        made_before no_struct starts (about_expr (expr.Assign targets value)) (Expr-F.Assign told_all (about_expr value)) most begun end
            (expr_assign_is targets value)
            (targets_spelled most lhs.0 lhs.1 ys begun ts end (omega arith) (omega arith) k.0 r.0 r.2) good,
        r.1,
      )
