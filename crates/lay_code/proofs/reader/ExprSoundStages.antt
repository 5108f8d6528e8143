-- Casts, ranges with a first end, and postfix steps after an expression: what is parsed stands
-- there, if that holds one level deeper.
use Rattle.std.proofs.Common.{◌≡◌, ℕ, suc, ◌≤◌, max, Bool, true, false, not, ◌&&◌, ◌||◌, List, [], ◌∷◌, inl, inr, map, codes, Some, refl, sym, subst, ◌∙◌, arith}
use Rattle.std.specs.Prelude.{nat_le}
use Rattle.std.proofs.lemmas.Bool.{and_from, leb-true}
use Rattle.lay_piece.specs.declared.kind.Kind.TheVariants as kind
use Rattle.lay_token.specs.Operators.{is_op}
use Rattle.lay_form.specs.Form.{keyword}
use Rattle.lay_form.specs.Spelled.{IsOne, Spells}
use Rattle.lay_form.proofs.FormLaws.{deeper as raise}
use Rattle.lay_node.specs.Ahead.{Tokens, first, is_keyword}
use Rattle.lay_node.specs.Follow.{begins_dots, may_follow}
use Rattle.lay_node.specs.nodes.Types.{about_type, good_at, is_there}
use Rattle.lay_node.specs.reader.Exact.{InText}
use Rattle.lay_node.specs.reader.Loops.{deepest, nodes, passed, repeat}
use Rattle.lay_node.specs.declared.types.Ty.{Ty}
use Rattle.lay_node.specs.declared.types.TypePlace.TheVariants.{NoBounds}
use Rattle.lay_node.proofs.Parts.{Rows}
use Rattle.lay_node.proofs.Steps.{same_some, chosen, bind_some}
use Rattle.lay_node.proofs.reader.Loops.{repeat_sound}
use Rattle.lay_node.proofs.reader.TypesSoundLevel.{TypeHeld}
use Rattle.lay_node.proofs.reader.TypesSoundParts.{Out, bit_texts, keyword_passed_is}
use Rattle.lay_code.specs.Operators.{begins_step, is_angle, is_dot_or_try, op_level, op_text, strength}
use Rattle.lay_code.specs.nodes.Code.{about_expr}
use Rattle.lay_code.specs.nodes.Exprs.{ExprFacts, are_steps, first_step, is_dotted, is_tuple_index, level_of, placed, stands, type_refuses, types_form, types_good, within_of, ExprLayer}
use Rattle.lay_code.specs.nodes.Places.{before_op}
use Rattle.lay_code.specs.reader.Exprs.{begins_tuple_index, cast_expr, one_step, one_type, postfix_expr, range_expr}
use Rattle.lay_code.specs.reader.Within.{ExprWithin}
use Rattle.lay_code.specs.declared.exprs.Expr.{Expr}
use Rattle.lay_code.specs.declared.blocks.Stmt.TheOpen.{Expr-F}
use Rattle.lay_code.specs.declared.exprs.Expr.TheVariants as expr
use Rattle.lay_code.specs.declared.operators.Op.{Op}
use Rattle.lay_code.specs.declared.operators.Op.TheVariants as op
use Rattle.lay_code.proofs.nodes.ExprsLaws.{expr_cast_is, expr_postfix_is}
use Rattle.lay_code.proofs.reader.ExprSoundLeads.{LedWithin}
use Rattle.lay_code.proofs.reader.ExprSoundLevel.{LeftHeld, SoundExprWithin, layer_of, made}
use Rattle.lay_code.proofs.reader.ExprSoundOperands.{left_placed, no_angle}
use Rattle.lay_code.proofs.reader.ExprSoundOperators.{binary_op, goes_as, goes_op, goes_step, op_low}
use Rattle.lay_code.proofs.reader.ExprSoundPrefixes.{range_sound, rows_there}
use Rattle.lay_code.proofs.reader.ExprSoundSteps.{StepHeld, postfix_spelled, step_sound, steps_begin, steps_end, steps_good, steps_number, steps_there, told_steps}

-- ---- the base of postfix steps

-- What is at the highest level has the same within it wherever it begins.
within_any : (k : ExprLayer) (no_struct a c : Bool) → nat_le 14 (level_of k) ≡ true
    → within_of k no_struct a ≡ true → within_of k no_struct c ≡ true
within_any (Expr-F.Chain x []) no_struct a c h w = absurd (cc h)
within_any (Expr-F.Chain x (y ∷ more)) no_struct a c h w = absurd (omega (arith, op_low y.0, leb-true 14 (op_level y.0) h))
within_any (Expr-F.Cast x types) no_struct a c h w = absurd (cc h)
within_any (Expr-F.Unary ps x) no_struct a c h w = absurd (cc h)
within_any (Expr-F.Range start inclusive end) no_struct a c h w = absurd (cc h)
within_any (Expr-F.Assign targets x) no_struct a c h w = absurd (cc h)
within_any (Expr-F.Postfix x steps) no_struct a c h w = absurd (cc h)
within_any (Expr-F.Return x) no_struct a c h w = absurd (cc h)
within_any (Expr-F.Break label x) no_struct a c h w = absurd (cc h)
within_any (Expr-F.Closure is_async moves params x) no_struct a c h w = absurd (cc h)
within_any (Expr-F.TypedClosure is_async moves params t b) no_struct a c h w = absurd (cc h)
within_any (Expr-F.Lit l) no_struct a c h w = w
within_any (Expr-F.Path p) no_struct a c h w = w
within_any Expr-F.Underscore no_struct a c h w = refl
within_any (Expr-F.Expr::Call m) no_struct a c h w = w
within_any (Expr-F.Paren x) no_struct a c h w = w
within_any (Expr-F.Continue label) no_struct a c h w = refl
within_any (Expr-F.Tuple xs) no_struct a c h w = w
within_any (Expr-F.Array xs) no_struct a c h w = w
within_any (Expr-F.Repeat x us) no_struct a c h w = w
within_any (Expr-F.Expr::Struct p fs b) no_struct a c h w = w
within_any (Expr-F.Block l b) no_struct a c h w = w
within_any (Expr-F.Unsafe b) no_struct a c h w = w
within_any (Expr-F.ConstBlock b) no_struct a c h w = w
within_any (Expr-F.Async moves b) no_struct a c h w = w
within_any (Expr-F.If branches o) no_struct a c h w = w
within_any (Expr-F.Match x attrs arms) no_struct a c h w = w
within_any (Expr-F.Loop l b) no_struct a c h w = w
within_any (Expr-F.While l condition b) no_struct a c h w = w
within_any (Expr-F.For l p x b) no_struct a c h w = w

pub base_within : (x : Expr) (no_struct a c : Bool) → nat_le 14 (about_expr x).level ≡ true → (about_expr x).within no_struct a ≡ true
    → (about_expr x).within no_struct c ≡ true
base_within x no_struct a c h w =
    let k = layer_of x in
    let P : ExprFacts → Type 0 =
    λ z. nat_le 14 z.level ≡ true → z.within no_struct a ≡ true → z.within no_struct c ≡ true in
    subst P (sym k.1) (within_any k.0 no_struct a c) h w

-- The level of what stands in a place.
stands_level : (a b c d e : Bool) → (a && b && c && d && e) ≡ true → a ≡ true
stands_level true b c d e h = refl
stands_level false b c d e h = absurd (cc h)

no_number : (number first begins : Bool) → (number && begins) ≡ false → (first ≡ true → begins ≡ true)
    → not (number && first) ≡ true
no_number false first begins h f = refl
no_number true false begins h f = refl
no_number true true begins h f = absurd (cc (sym h ∙ f refl))

module _ (budget : ℕ) (within : ExprWithin) (sound : SoundExprWithin budget within) (no_struct starts : Bool) where
  abbrev Left : Expr × ℕ → Tokens → Tokens → Type 0
  Left = LeftHeld no_struct starts

  -- postfix steps after a base
  pub postfix_stage : (lhs : Expr × ℕ) (begun ts : Tokens) → Left lhs begun ts
      → stands (about_expr lhs.0) (before_op 14 no_struct (starts && not (is_dot_or_try ts)) (is_angle ts)) ≡ true
      → strength ts ≡ 14 → InText ts → (x : Expr × ℕ) (rest : Tokens) → postfix_expr within lhs ts ≡ Some (x, rest)
      → Out Left begun (x, rest)
  unfolding postfix_expr
  postfix_stage lhs begun ts k m s t x rest h =
      let told = about_expr lhs.0 in
      elim (chosen (told.is_number && begins_tuple_index ts) _ _ _ h) [
        | inl g ↦ absurd (cc g.1)
        | inr g ↦
            let steps = bind_some (repeat begins_step (one_step within) ts) _ _ g.1 in
            let xs = steps.0.0 in
            let end = steps.0.1 in
            let r = repeat_sound begins_step (one_step within) StepHeld
            (λ us y left i b e. step_sound budget within sound us y left i e) ts xs end t steps.1 in
            let on = goes_step ts s in
            let there = rows_there begins_step StepHeld xs ts end r.0 on.0 r.2 in
            let all = told_steps xs in
            let most = max lhs.1 (deepest xs) in
            let c = starts && not (is_dot_or_try ts) in
            let stood = subst (λ b. stands told (before_op 14 no_struct c b) ≡ true) on.1 m in
            let high = stands_level (nat_le 14 told.level) _ _ _ _ stood in
            let based = left_placed told 14 no_struct c false stood (base_within lhs.0 no_struct starts c high k.1) in
            let base = subst (λ b. placed told (before_op 14 no_struct (starts && not b) false) ≡ true)
            (sym (steps_begin xs ts end r.0 there)) based in
            let place = before_op 14 no_struct (starts && not (first_step is_dotted all)) false in
            let counted = not (told.is_number && first_step is_tuple_index all) in
            let good = and_from (is_there all && are_steps all && counted) (placed told place)
            (and_from (is_there all && are_steps all) counted
            (and_from (is_there all) (are_steps all) (steps_there xs there) (steps_good xs ts end r.0))
            (no_number told.is_number (first_step is_tuple_index all) (begins_tuple_index ts) g.0 (steps_number xs ts end r.0))) base in
            same_some (Out Left begun) ((expr.Postfix lhs.0 (nodes xs), suc most), end) (x, rest) steps.2 (
              made no_struct starts (about_expr (expr.Postfix lhs.0 (nodes xs))) (Expr-F.Postfix told all) most begun end
                  (expr_postfix_is lhs.0 (nodes xs))
                  (postfix_spelled told xs lhs.1 most begun ts end (omega arith) (omega arith) k.0 r.0) good
                  (steps_end no_struct xs ts end r.0),
              r.1,
            )
      ]

  -- ---- casts

  -- `as` and a type
  abbrev TypeRow : Ty × ℕ → Tokens → Tokens → Type 0
  TypeRow x ts rest = (at : Tokens) × IsOne kind.Ident (codes "as") ts at × TypeHeld NoBounds budget x at rest

  type_sound : (ts : Tokens) (x : Ty × ℕ) (rest : Tokens) → InText ts → one_type within ts ≡ Some (x, rest)
      → Out TypeRow ts (x, rest)
  unfolding one_type
  type_sound ts x rest t h =
      let a = bind_some (passed (is_keyword (codes "as")) ts) _ _ h in
      let o = keyword_passed_is (codes "as") ts a.0 a.1 in
      let s = sound.kinds.types NoBounds a.0 x rest (bit_texts (keyword (codes "as")) ts a.0 o t) a.2 in ((a.0, o, s.0), s.1)

  types_spelled : (most : ℕ) (xs : List (Ty × ℕ)) (ts rest : Tokens) → deepest xs ≤ most → Rows TypeRow xs ts rest
      → Spells (types_form (map about_type (nodes xs))) most ts rest × (types_good (map about_type (nodes xs)) ≡ true)
  types_spelled most [] ts rest le r = (r, refl)
  types_spelled most (x ∷ xs) ts rest le r =
      let row = r.1 in
      let told = about_type x.0 in
      let more = types_spelled most xs r.0 rest (omega (arith, le)) r.2 in (
        (
          row.0,
          (ts, refl, (row.0, row.1, (row.0, refl, refl))),
          (r.0, raise told.told.form x.1 most row.0 r.0 (omega (arith, le)) row.2.1, more.0),
        ),
        and_from (good_at NoBounds told) (types_good (map about_type (nodes xs))) row.2.2 more.1,
      )

  types_end : (xs : List (Ty × ℕ)) (ts rest : Tokens) → Rows TypeRow xs ts rest
      → may_follow (type_refuses (map about_type (nodes xs))) rest ≡ true
  types_end [] ts rest r = refl
  types_end (x ∷ []) ts rest r = subst (λ us. may_follow (about_type x.0).told.refuses us ≡ true) r.2 r.1.2.3
  types_end (x ∷ y ∷ xs) ts rest r = types_end (y ∷ xs) r.0 rest r.2

  types_there : (xs : List (Ty × ℕ)) → is_there xs ≡ true → is_there (nodes xs) ≡ true
  types_there [] h = absurd (cc h)
  types_there (x ∷ xs) h = refl

  -- types that an expression is cast to
  pub cast_stage : (lhs : Expr × ℕ) (begun ts : Tokens) → Left lhs begun ts
      → stands (about_expr lhs.0) (before_op 12 no_struct starts (is_angle ts)) ≡ true → strength ts ≡ 12 → InText ts
      → (x : Expr × ℕ) (rest : Tokens) → cast_expr within lhs ts ≡ Some (x, rest) → Out Left begun (x, rest)
  unfolding cast_expr
  cast_stage lhs begun ts k m s t x rest h =
      let more : Tokens → Bool = first (is_keyword (codes "as")) in
      let types = bind_some (repeat more (one_type within) ts) _ _ h in
      let xs = types.0.0 in
      let end = types.0.1 in
      let told = about_expr lhs.0 in
      let most = max lhs.1 (deepest xs) in
      let r = repeat_sound more (one_type within) TypeRow (λ us y left i b e. type_sound us y left i e) ts xs end t types.1 in
      let on = goes_as ts s in
      let there = types_there xs (rows_there more TypeRow xs ts end r.0 on.0 r.2) in
      let all = nodes xs in
      let spelled = types_spelled most xs ts end (omega arith) r.0 in
      let place = before_op 12 no_struct starts false in
      let stood = subst (λ b. stands told (before_op 12 no_struct starts b) ≡ true) on.1 m in
      let good = and_from (is_there all && placed told place) (types_good (map about_type all))
      (and_from (is_there all) (placed told place) there (left_placed told 12 no_struct starts false stood k.1)) spelled.1 in
      same_some (Out Left begun) ((expr.Cast lhs.0 all, suc most), end) (x, rest) types.2 (
        made no_struct starts (about_expr (expr.Cast lhs.0 all)) (Expr-F.Cast told all) most begun end (expr_cast_is lhs.0 all)
            (ts, raise told.form lhs.1 most begun ts (omega arith) k.0, spelled.0) good (types_end xs ts end r.0),
        r.1,
      )

  -- ---- ranges

  range_op : (o : Op) (ts : Tokens) → op_level o ≡ 1 → is_op (op_text o) ts ≡ true → begins_dots ts ≡ true
  range_op op.Upto ts l h = rw h refl
  range_op op.UptoEq ts l h = rw h (either (is_op (codes "..") ts))
    where
      either : (a : Bool) → (a || true) ≡ true
      either true = refl
      either false = refl
  range_op _ ts l h = absurd (cc l)

  -- a range after its first end
  pub range_stage : (led : LedWithin within) (lhs : Expr × ℕ) (begun ts : Tokens) → Left lhs begun ts
      → stands (about_expr lhs.0) (before_op 2 no_struct starts (is_angle ts)) ≡ true → strength ts ≡ 2 → InText ts
      → (x : Expr × ℕ) (rest : Tokens) → range_expr within no_struct (Some lhs.0) lhs.1 ts ≡ Some (x, rest)
      → Out Left begun (x, rest)
  range_stage led lhs begun ts k m s t x rest h =
      let told = about_expr lhs.0 in
      let o = goes_op ts 1 s (λ e. absurd (cc e)) (λ e. absurd (cc e)) in
      let stood = subst (λ b. stands told (before_op 2 no_struct starts b) ≡ true)
      (no_angle budget within sound no_struct starts 1 ts (omega arith) s) m in
      range_sound no_struct starts budget within sound led (Some lhs.0) lhs.1 begun ts
      (k.0, left_placed told 2 no_struct starts false stood k.1) (range_op o.0 ts o.2 (binary_op ts o.0 o.1)) t x rest h
