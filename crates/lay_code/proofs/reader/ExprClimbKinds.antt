-- What operators go on with is reached from the operand before them, kind by kind.
use Rattle.std.proofs.Common.{◌≡◌, ℕ, zero, suc, ◌≤◌, ◌<◌, max, Bool, true, false, not, ◌&&◌, nat_le, List, [], ◌∷◌, map, codes, Option, option_map, Some, refl, sym, ap, subst, ◌∙◌, arith, le-leb, eq-eqb, ne_eqb, leb-true}
use Rattle.std.specs.Prelude.{◌==◌}
use Rattle.std.proofs.lemmas.Bool.{and_parts, lt-leb}
use Rattle.lay_form.specs.Form.{Operator, Form, Done, Piece}
use Rattle.lay_form.specs.Spelled.{Spells}
use Rattle.lay_node.specs.Ahead.{Tokens}
use Rattle.lay_node.specs.nodes.Patterns.{dots}
use Rattle.lay_node.specs.nodes.Types.{about_type, is_there}
use Rattle.lay_node.specs.reader.Loops.{nodes, deepest, repeat}
use Rattle.lay_node.specs.declared.types.Ty.{Ty}
use Rattle.lay_node.proofs.Parts.{bit_alone}
use Rattle.lay_code.specs.Operators.{op_level, angle_by, is_angle, is_angle_op, is_dot_or_try, strength}
use Rattle.lay_code.specs.nodes.Code.{about_expr, about_step}
use Rattle.lay_code.specs.nodes.Exprs.{ExprFacts, placed, tail_follows, end_form, is_chain_level, level_of_chain, may_chain, operands_placed, targets_placed, end_placed, is_tuple_index, is_dotted, are_steps, types_good, tail_of_end, tail_of_steps, inside, tail_of, expr_facts, ExprLayer}
use Rattle.lay_code.specs.nodes.Places.{plain, begins, part_if, before_op}
use Rattle.lay_code.specs.reader.Exprs.{operands, chain_expr, assign_expr, one_type, cast_expr, stage}
use Rattle.lay_code.specs.reader.Within.{ExprWithin}
use Rattle.lay_code.specs.declared.exprs.Expr.{Expr}
use Rattle.lay_code.specs.declared.blocks.Stmt.TheOpen.{Expr-F}
use Rattle.lay_code.specs.declared.exprs.Expr.TheVariants as expr
use Rattle.lay_code.specs.declared.exprs.Place.{Place}
use Rattle.lay_code.specs.declared.exprs.Step.{Step}
use Rattle.lay_code.specs.declared.operators.Op.{Op}
use Rattle.lay_code.specs.declared.operators.Op.TheVariants as op
use Rattle.lay_code.proofs.nodes.ExprsLaws.{behind_op, before_op as target_of, expr_chain_is, expr_cast_is, expr_range_is, expr_assign_is, expr_postfix_is}
use Rattle.lay_code.proofs.reader.BodilessKinds.{cast_bare, postfix_bare}
use Rattle.lay_code.proofs.reader.ExprClimb.{Reach, Known, Reaches, Operand, reach_on, operand_reached, operand_stands}
use Rattle.lay_code.proofs.reader.ExprHeadsJumps.{range_read}
use Rattle.lay_code.proofs.reader.ExprOperators.{AtOp, at_op, as_strength, as_binary, as_tail, step_there, step_tail, no_step}
use Rattle.lay_code.proofs.reader.ExprOperatorsRows.{before_tail, chain_before, first_sign, operands_read, first_of, row_before, row_of, row_targets, target_parts, set_no_angle, row_placed, row_chains, is_as, types_spelled, types_read}
use Rattle.lay_code.proofs.reader.ExprOperatorsTails.{before_parts, high_refuses}
use Rattle.lay_code.proofs.reader.ExprQuiet.{tail_fits}
use Rattle.lay_code.proofs.reader.ExprReads.{ExprReads}
use Rattle.lay_code.proofs.reader.ExprSteps.{step_begun, postfix_parts, postfix_read}
use Rattle.lay_code.proofs.reader.Followed.{SpelledBefore, bodiless_tail, node_parts, part_parts, takes, unspelled}

-- After an operator that is no step, what begins a statement begins a part of it.
starts_on : (first begins step dot : Bool) → step ≡ false → first ≡ begins → first ≡ (begins && not (step && dot))
starts_on first begins true dot n e = absurd (cc)
starts_on true true false dot n e = refl
starts_on false false false dot n e = refl
starts_on true false false dot n e = absurd (cc)
starts_on false true false dot n e = absurd (cc)

module _ (within : ExprWithin) (place : Place) (top : ℕ) (Begun : Tokens → Expr × ℕ → Tokens → Type 0) (depth : ℕ)
    (reads : ExprReads depth within) (reaches : Reaches within place top Begun depth) where
  -- an expression with these facts is reached
  abbrev By : Expr → ExprFacts → Type 0
  By x F =
      (level : ℕ) (first : Bool) (ts mid : Tokens) → Known within place level (suc depth) F first ts mid
      → Reach within place top Begun level (suc depth) x ts mid

  -- by the layer of its kind
  told : (x : Expr) (F : ExprLayer) → about_expr x ≡ expr_facts F → By x (expr_facts F) → By x (about_expr x)
  told x F e f = subst (By x) (sym e) f

  -- what is spelled within a level, before what may follow it
  layer : (F : ExprLayer) (level : ℕ) (first : Bool) (ts mid : Tokens) → Known within place level (suc depth) (expr_facts F) first ts mid
      → SpelledBefore (tail_of F) (inside F) place.no_struct depth ts mid
  layer F level first ts mid k = node_parts (tail_of F) place.no_struct depth (inside F) ts mid (k.spelled, k.tail)

  -- an operand before an operator that is no step
  before_operator : (operator : ℕ) (x : Expr) (first angle : Bool) (ts mid : Tokens) → place.level ≤ operator → (operator == 13) ≡ false
      → first ≡ begins place.start
      → placed (about_expr x) (before_op (suc operator) place.no_struct first angle) ≡ true → Spells (about_expr x).form depth ts mid
      → strength mid ≡ suc operator → is_angle mid ≡ angle → tail_follows (about_expr x).tail place.no_struct mid ≡ true
      → Operand within place operator depth x first angle ts mid
  before_operator operator x first angle ts mid allowed off starts there spelled next angled tail = record {
    allowed = allowed;
    whole = λ e. starts;
    starts = starts_on first (begins place.start) (operator == 13) (is_dot_or_try mid) off starts;
    there = there;
    spelled = spelled;
    next = next;
    angled = angled;
    tail = tail;
  }

  -- What an operator makes of the operand before it is reached.
  made_reached : (operator : ℕ) (x y : Expr) (level : ℕ) (first angle : Bool) (ts at mid : Tokens)
      → Operand within place operator depth x first angle ts at → operator < top
      → place.level ≤ level → level ≤ operator → strength mid ≤ level
      → ((n : ℕ) → n ≤ depth → (m : ℕ) × (m ≤ suc depth) × (stage within operator place.no_struct (x, n) at ≡ Some ((y, m), mid)))
      → Reach within place top Begun level (suc depth) y ts mid
  made_reached operator x y level first angle ts at mid o below allowed le weak made =
      reach_on within place top Begun x y operator level depth ts at mid
      (operand_reached within place top Begun depth reaches operator below x first angle ts at o) allowed le weak o.next
      (operand_stands within place top Begun depth reaches operator below x first angle ts at o) made

  -- ---- chains

  -- what operators of the levels of chains make
  stage_chain : (level : ℕ) (lhs : Expr × ℕ) (ts : Tokens) → is_chain_level level ≡ true
      → stage within level place.no_struct lhs ts ≡ chain_expr within level place.no_struct lhs ts
  stage_chain zero lhs ts h = absurd (cc)
  stage_chain (suc zero) lhs ts h = absurd (cc)
  stage_chain (suc (suc least)) lhs ts h =
      let level = suc (suc least) in
      let le = leb-true level 10 (and_parts (nat_le 2 level) (nat_le level 10) h).1 in
      let no_cast : (level == 11) ≡ false = ne_eqb level 11 (λ f. absurd (omega (arith, le, f))) in
      let no_steps : (level == 13) ≡ false = ne_eqb level 13 (λ f. absurd (omega (arith, le, f))) in
      rw (no_cast, no_steps) refl

  -- a chain
  chain_made : (level : ℕ) (x : Expr) (n : ℕ) (ys : List (Op × Expr)) (found : List ((Op × Expr) × ℕ)) (ts rest : Tokens)
      → is_chain_level level ≡ true
      → nodes found ≡ ys → operands within level place.no_struct ts ≡ Some (found, rest)
      → stage within level place.no_struct (x, n) ts ≡ Some ((expr.Chain x ys, suc (max n (deepest found))), rest)
  unfolding chain_expr
  chain_made level x n ys found ts rest c same r = stage_chain level (x, n) ts c ∙ (rw (r, same) refl)

  -- A chain is reached from its first operand.
  pub chain_reached : (x : Expr) (ys : List (Op × Expr))
      → (is_chain_level (level_of_chain (map behind_op ys)) ≡ true → level_of_chain (map behind_op ys) < top)
      → By (expr.Chain x ys) (about_expr (expr.Chain x ys))
  chain_reached x [] below = told (expr.Chain x []) (Expr-F.Chain (about_expr x) []) (expr_chain_is x []) (λ level first ts mid k. absurd (cc))
  chain_reached x (y ∷ ys) below =
      told (expr.Chain x (y ∷ ys)) (Expr-F.Chain (about_expr x) (map behind_op (y ∷ ys))) (expr_chain_is x (y ∷ ys))
      (λ level first ts mid k.
      let F = about_expr x in
      let os = map behind_op (y ∷ ys) in
      let operator = op_level y.0 in
      let angle = is_angle_op y.0 in
      let asked = before_op (suc operator) place.no_struct first angle in
      let parts = chain_before place.no_struct depth x y ys ts mid (layer (Expr-F.Chain F os) level first ts mid k) in
      let at = parts.0 in
      let w3 =
      and_parts (is_chain_level operator && may_chain operator os && placed F asked)
      (operands_placed operator place.no_struct os) k.inside in
      let w2 = and_parts (is_chain_level operator && may_chain operator os) (placed F asked) w3.0 in
      let w1 = and_parts (is_chain_level operator) (may_chain operator os) w2.0 in
      let most = leb-true operator 10 (and_parts (nat_le 2 operator) (nat_le operator 10) w1.0).1 in
      let le = leb-true level operator k.high in
      let sign = first_sign depth place.no_struct y ys at mid parts.2 in
      let a = at_op operator y.0 at sign.0 (eq-eqb operator operator refl) sign.1 in
      let angled : is_angle at ≡ angle = ap angle_by a.binary in
      let b =
      before_parts F (suc operator) place.no_struct first angle (and_parts _ (F.within place.no_struct (begins (part_if first))) w2.1).0 in
      let tail = before_tail F (suc operator) place.no_struct first angle b at y.0 a.binary angled in
      let off : (operator == 13) ≡ false = ne_eqb operator 13 (λ f. absurd (omega (arith, most, f))) in
      let starts = k.starts (lt-leb 14 operator (omega (arith, most))) in
      let o = before_operator operator x first angle ts at (omega (arith, k.allowed, le)) off starts w2.1 parts.1 a.strength angled tail in
      let found = operands_read depth within reads operator place.no_struct y ys at mid parts.2 w3.1 w1.1 (omega (arith, k.weak, le)) in
      made_reached operator x (expr.Chain x (y ∷ ys)) level first angle ts at mid o (below w1.0) k.allowed le k.weak (λ n h.
      (suc (max n (deepest found.0)), omega (arith, h, found.2), chain_made operator x n (y ∷ ys) found.0 at mid w1.0 found.1 found.3)))

  -- ---- casts

  -- a cast
  cast_made : (x : Expr) (n : ℕ) (xs : List Ty) (found : List (Ty × ℕ)) (ts rest : Tokens) → nodes found ≡ xs
      → repeat is_as (one_type within) ts ≡ Some (found, rest)
      → stage within 11 place.no_struct (x, n) ts ≡ Some ((expr.Cast x xs, suc (max n (deepest found))), rest)
  unfolding cast_expr
  cast_made x n xs found ts rest same r = rw (r, same) refl

  -- A cast is reached from its operand.
  pub cast_reached : 11 < top → (x : Expr) (xs : List Ty) → By (expr.Cast x xs) (about_expr (expr.Cast x xs))
  cast_reached below x [] = told (expr.Cast x []) (Expr-F.Cast (about_expr x) []) (expr_cast_is x []) (λ level first ts mid k. absurd (cc))
  cast_reached below x (y ∷ ys) =
      told (expr.Cast x (y ∷ ys)) (Expr-F.Cast (about_expr x) (y ∷ ys)) (expr_cast_is x (y ∷ ys)) (λ level first ts mid k.
      let F = about_expr x in
      let types = map about_type (y ∷ ys) in
      let asked = before_op 12 place.no_struct first false in
      let C : ExprLayer = Expr-F.Cast F (y ∷ ys) in
      let before = layer C level first ts mid k in
      let t = before.0 in
      let at = t.0 in
      let rows = types_spelled depth (y ∷ ys) at mid t.2 in
      let sign = rows.1 in
      let w2 = and_parts (is_there (y ∷ ys) && placed F asked) (types_good types) k.inside in
      let w1 = and_parts (is_there (y ∷ ys)) (placed F asked) w2.0 in
      let inner = and_parts _ (F.within place.no_struct (begins (part_if first))) w1.1 in
      let b = before_parts F 12 place.no_struct first false inner.0 in
      let refuses = high_refuses x place.no_struct (begins (part_if first)) depth ts at t.1 inner.1 b.high b.shut in
      let tail = as_tail F.tail place.no_struct at sign.0 sign.1 b.shut refuses in
      let angled : is_angle at ≡ false = ap angle_by (as_binary at sign.0 sign.1) in
      let le = leb-true level 11 k.high in
      let o =
      before_operator 11 x first false ts at (omega (arith, k.allowed, le)) refl (k.starts refl) w1.1 t.1
      (as_strength at sign.0 sign.1) angled tail in
      let fits = bodiless_tail (tail_of C) (inside C) place.no_struct depth ts mid (cast_bare F y ys) before.1 in
      let follow = (tail_fits (tail_of C) place.no_struct mid fits).refuses in
      let found = types_read depth within reads y ys at mid rows w2.1 (omega (arith, k.weak, le)) follow in
      made_reached 11 x (expr.Cast x (y ∷ ys)) level first false ts at mid o below k.allowed le k.weak (λ n h.
      (suc (max n (deepest found.0)), omega (arith, h, found.2), cast_made x n (y ∷ ys) found.0 at mid found.1 found.3)))

  -- ---- ranges with a start

  -- the operator of a range
  dots_op : Bool → Op
  dots_op true = op.UptoEq
  dots_op false = op.Upto

  -- It stands after the start.
  dots_at : (inclusive : Bool) (f : Form) (at mid : Tokens) → Spells (Piece (dots inclusive) f) depth at mid
      → (behind : Tokens) × AtOp 1 (dots_op inclusive) at behind
  unfolding dots_op
  dots_at true f at mid s = (s.0, at_op 1 op.UptoEq at s.0 refl (bit_alone (Operator (codes "..=")) at s.0 s.1))
  dots_at false f at mid s = (s.0, at_op 1 op.Upto at s.0 refl (bit_alone (Operator (codes "..")) at s.0 s.1))

  -- It takes a token at least.
  dots_taken : (inclusive : Bool) (f : Form) → takes (Piece (dots inclusive) f) ≡ true
  dots_taken true f = refl
  dots_taken false f = refl

  -- It is neither `<` nor `<<`.
  dots_no_angle : (inclusive : Bool) → is_angle_op (dots_op inclusive) ≡ false
  unfolding dots_op
  dots_no_angle true = refl
  dots_no_angle false = refl

  -- A range is reached from its start.
  pub range_reached : 1 < top → (x : Expr) (inclusive : Bool) (end : Option Expr)
      → By (expr.Range (Some x) inclusive end) (about_expr (expr.Range (Some x) inclusive end))
  range_reached below x inclusive end =
      told (expr.Range (Some x) inclusive end) (Expr-F.Range (Some (about_expr x)) inclusive (option_map about_expr end))
      (expr_range_is (Some x) inclusive end) (λ level first ts mid k.
      let F = about_expr x in
      let E = option_map about_expr end in
      let asked = before_op 2 place.no_struct first false in
      let behind : Form = Piece (dots inclusive) (end_form E Done) in
      let t = part_parts (tail_of_end E) place.no_struct depth F.form behind (λ us e. unspelled behind (dots_taken inclusive (end_form E Done)) depth us e)
      ts mid (layer (Expr-F.Range (Some F) inclusive E) level first ts mid k) in
      let at = t.0 in
      let d = dots_at inclusive (end_form E Done) at mid t.2.0 in
      let a = d.1 in
      let w1 = and_parts (placed F asked) (end_placed E inclusive place.no_struct) k.inside in
      let b = before_parts F 2 place.no_struct first false (and_parts _ (F.within place.no_struct (begins (part_if first))) w1.0).0 in
      let angled : is_angle at ≡ false = ap angle_by a.binary ∙ dots_no_angle inclusive in
      let tail = before_tail F 2 place.no_struct first false b at (dots_op inclusive) a.binary angled in
      let le = leb-true level 1 k.high in
      let o = before_operator 1 x first false ts at (omega (arith, k.allowed, le)) refl (k.starts refl) w1.0 t.1 a.strength angled tail in
      made_reached 1 x (expr.Range (Some x) inclusive end) level first false ts at mid o below k.allowed le k.weak (λ n h.
      range_read depth within reads (Some x) n h inclusive end place.no_struct at mid t.2 w1.1 (omega (arith, k.weak, le))))

  -- ---- assignments

  -- an assignment
  assign_made : (y : Expr × Op) (more : List (Expr × Op)) (x : Expr) (n : ℕ) (found : List ((Op × Expr) × ℕ)) (ts rest : Tokens)
      → nodes found ≡ row_of (y ∷ more) x → operands within 0 place.no_struct ts ≡ Some (found, rest)
      → stage within 0 place.no_struct (y.0, n) ts ≡ Some ((expr.Assign (y ∷ more) x, suc (max n (deepest found))), rest)
  unfolding assign_expr
  assign_made y more x n found ts rest same r =
      let back = row_targets more x in
      rw (r, same, back.0, back.1) refl

  -- An assignment is reached from its first target.
  pub assign_reached : 0 < top → (targets : List (Expr × Op)) (x : Expr) → By (expr.Assign targets x) (about_expr (expr.Assign targets x))
  assign_reached below [] x =
      told (expr.Assign [] x) (Expr-F.Assign [] (about_expr x)) (expr_assign_is [] x) (λ level first ts mid k. absurd (cc))
  assign_reached below (y ∷ more) x =
      told (expr.Assign (y ∷ more) x) (Expr-F.Assign (map target_of (y ∷ more)) (about_expr x)) (expr_assign_is (y ∷ more) x)
      (λ level first ts mid k.
      let F = about_expr y.0 in
      let targets = map target_of (y ∷ more) in
      let t = row_before place.no_struct depth y more x ts mid (layer (Expr-F.Assign targets (about_expr x)) level first ts mid k) in
      let at = t.0 in
      let sign = first_sign depth place.no_struct (y.1, first_of more x) (row_of more x) at mid t.2 in
      let w2 =
      and_parts (is_there targets && targets_placed targets place.no_struct first)
      (placed (about_expr x) (plain 1 place.no_struct)) k.inside in
      let w1 = and_parts (is_there targets) (targets_placed targets place.no_struct first) w2.0 in
      let p = target_parts place.no_struct first y more w1.1 in
      let a = at_op 0 y.1 at sign.0 p.level sign.1 in
      let b = before_parts F 1 place.no_struct first false (and_parts _ (F.within place.no_struct (begins (part_if first))) p.target).0 in
      let angled : is_angle at ≡ false = ap angle_by a.binary ∙ set_no_angle y.1 p.level in
      let tail = before_tail F 1 place.no_struct first false b at y.1 a.binary angled in
      let le = leb-true level 0 k.high in
      let o =
      before_operator 0 y.0 first false ts at (omega (arith, k.allowed, le)) refl (k.starts refl) p.target t.1 a.strength angled tail in
      let found = operands_read depth within reads 0 place.no_struct (y.1, first_of more x) (row_of more x) at mid t.2
      (row_placed place.no_struct first y more x w1.1 w2.1) (row_chains y more x) (omega (arith, k.weak, le)) in
      made_reached 0 y.0 (expr.Assign (y ∷ more) x) level first false ts at mid o below k.allowed le k.weak (λ n h.
      (suc (max n (deepest found.0)), omega (arith, h, found.2), assign_made y more x n found.0 at mid found.1 found.3)))

  -- ---- steps

  -- Steps are reached from their base.
  pub postfix_reached : 13 < top → (x : Expr) (ss : List Step) → By (expr.Postfix x ss) (about_expr (expr.Postfix x ss))
  postfix_reached below x [] =
      told (expr.Postfix x []) (Expr-F.Postfix (about_expr x) []) (expr_postfix_is x []) (λ level first ts mid k. absurd (cc))
  postfix_reached below x (s ∷ ss) =
      told (expr.Postfix x (s ∷ ss)) (Expr-F.Postfix (about_expr x) (map about_step (s ∷ ss))) (expr_postfix_is x (s ∷ ss))
      (λ level first ts mid k.
      let F = about_expr x in
      let fs = map about_step (s ∷ ss) in
      let part = first && not (is_dotted (about_step s).kind) in
      let asked = before_op 14 place.no_struct part false in
      let P : ExprLayer = Expr-F.Postfix F fs in
      let before = layer P level first ts mid k in
      let t = postfix_parts depth within reads x (s ∷ ss) ts mid before.0 in
      let at = t.0 in
      let rows = t.2 in
      let begun = step_begun s depth at rows.0 rows.1 in
      let f = step_there at begun.begins in
      let number = not (F.is_number && is_tuple_index (about_step s).kind) in
      let w3 = and_parts (is_there fs && are_steps fs && number) (placed F asked) k.inside in
      let w2 = and_parts (is_there fs && are_steps fs) number w3.0 in
      let steps = (and_parts (is_there fs) (are_steps fs) w2.0).1 in
      let inner = and_parts _ (F.within place.no_struct (begins (part_if part))) w3.1 in
      let b = before_parts F 14 place.no_struct part false inner.0 in
      let high : nat_le 12 F.level ≡ true = le-leb 12 F.level (omega (arith, leb-true 14 F.level b.high)) in
      let refuses = high_refuses x place.no_struct (begins (part_if part)) depth ts at t.1 inner.1 high b.shut in
      let le = leb-true level 13 k.high in
      let o : Operand within place 13 depth x part false ts at = record {
        allowed = omega (arith, k.allowed, le);
        whole = λ e. let g = sym e ∙ b.high in absurd (cc);
        starts = ap (λ c. c && not (is_dotted (about_step s).kind)) (k.starts refl) ∙ ap (λ c. begins place.start && not c)
            (sym begun.dotted);
        there = w3.1;
        spelled = t.1;
        next = f.strength;
        angled = ap angle_by f.binary;
        tail = step_tail F.tail place.no_struct at begun.begins b.shut refuses;
      } in
      let no_more = no_step mid (omega (arith, k.weak, le)) in
      let fits = bodiless_tail (tail_of P) (inside P) place.no_struct depth ts mid (postfix_bare F s ss) before.1 in
      let follow = (tail_fits (tail_of_steps fs) place.no_struct mid fits).refuses in
      let found = postfix_read depth within reads x s ss at mid rows steps w2.1 no_more follow in
      made_reached 13 x (expr.Postfix x (s ∷ ss)) level part false ts at mid o below k.allowed le k.weak (λ n h.
      (suc (max n found.0), omega (arith, h, found.1), found.2 n)))
