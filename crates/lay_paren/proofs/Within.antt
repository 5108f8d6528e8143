-- What stands in a node that stands: row by row of the table of places.
use Rattle.std.proofs.Common.{◌≡◌, ℕ, suc, Bool, true, false, not, ◌&&◌, if◌then◌else◌, List, [], ◌∷◌, map, Option, Some, None, option_map, true≢false, refl, sym, subst}
use Rattle.std.proofs.lemmas.Bool.{and_parts, and_from}
use Rattle.lay_node.specs.nodes.Facts.{all_good}
use Rattle.lay_node.specs.declared.attr.Attr.{Attr}
use Rattle.lay_node.specs.declared.patterns.Pat.{Pat}
use Rattle.lay_node.specs.declared.token.Lifetime.{Lifetime}
use Rattle.lay_node.specs.declared.token.Listed.{Listed}
use Rattle.lay_node.specs.declared.types.Path.{Path}
use Rattle.lay_node.specs.declared.types.PathStyle.TheVariants.{Code}
use Rattle.lay_node.specs.declared.types.Ty.{Ty}
use Rattle.lay_node.specs.nodes.Types.{about_path}
use Rattle.lay_code.specs.Operators.{is_angle_op, op_level}
use Rattle.lay_code.specs.nodes.Code.{about_arm, about_block, about_branch, about_condition, about_expr, about_field_expr, about_step}
use Rattle.lay_code.specs.nodes.Exprs.{ExprFacts, all_free, are_steps, arms_good, base_placed, begins_free, branches_good, expr_facts, first_step, is_label_lead, is_tuple_index, may_be_good, placed, start_placed, targets_placed}
use Rattle.lay_code.specs.nodes.Places.{FREE, before_op, begins, plain}
use Rattle.lay_code.specs.nodes.PlacesTable.{OtherOperands, as_node}
use Rattle.lay_code.specs.declared.blocks.Arm.{Arm}
use Rattle.lay_code.specs.declared.blocks.Block.{Block}
use Rattle.lay_code.specs.declared.blocks.Branch.{Branch}
use Rattle.lay_code.specs.declared.blocks.Stmt.TheOpen.{Expr-F}
use Rattle.lay_code.specs.declared.conditions.Condition.{Condition}
use Rattle.lay_code.specs.declared.exprs.ClosureParam.{ClosureParam}
use Rattle.lay_code.specs.declared.exprs.Expr.{Expr}
use Rattle.lay_code.specs.declared.exprs.Expr.TheVariants as expr
use Rattle.lay_code.specs.declared.exprs.FieldExpr.{FieldExpr}
use Rattle.lay_code.specs.declared.exprs.Place.{Place}
use Rattle.lay_code.specs.declared.exprs.Step.{Step}
use Rattle.lay_code.specs.declared.operators.Op.{Op}
use Rattle.lay_code.specs.declared.operators.Prefix.{Prefix}
use Rattle.lay_code.proofs.nodes.ExprsLaws as laws
use Rattle.lay_code.proofs.nodes.PlacesTable as table
use Rattle.lay_paren_defs.specs.loose.Slots.{Any, BeforeIndex, Optional, Prefixed, Slot, slot_fits}
use Rattle.lay_paren_defs.specs.Traversal.{base_place, base_slot, break_slot, operand_at}
use Rattle.lay_paren.proofs.Choice.{any, written}
use Rattle.lay_paren.proofs.Standing.{within}

-- It stands.
abbrev pub At : Place → Expr → Type 0
At p x = placed (about_expr x) p ≡ true

inside : (x : Expr) (F : ExprFacts) (p : Place) → about_expr x ≡ F → At p x → F.within p.no_struct (begins p.start) ≡ true
inside x F p e h = within F p (subst (λ (G : ExprFacts). placed G p ≡ true) e h)

told : (x : Expr) (F : ExprFacts) (p : Place) → about_expr x ≡ F → At p x → placed F p ≡ true
told x F p e h = subst (λ (G : ExprFacts). placed G p ≡ true) e h

-- ---- parts that may be left out

abbrev pub maybe_written : Place → Slot → Option Expr → Bool
maybe_written p s None = true
maybe_written p s (Some x) = written p s x

abbrev pub base_written : Option (Option Expr) → Bool
base_written (Some (Some x)) = written FREE Any x
base_written _ = true

-- operands after operators of this level
abbrev pub others_written : Place → ℕ → List (Op × Expr) → Bool
others_written p level [] = true
others_written p level (x ∷ more) = written (operand_at p level more) Any x.1 && others_written p level more

others_within : (p : Place) (level : ℕ) (xs : List (Op × Expr)) → OtherOperands p level (map laws.behind_op xs)
    → others_written p level xs ≡ true
others_within p level [] h = refl
others_within p level (x ∷ []) h =
    and_from (written (as_node p (suc level)) Any x.1) true (any (about_expr x.1) (as_node p (suc level)) h.1) refl
others_within p level (x ∷ y ∷ more) h =
    let place = before_op (suc level) p.no_struct false (is_angle_op y.0) in
    and_from (written place Any x.1) (others_written p level (y ∷ more)) (any (about_expr x.1) place h.1)
    (others_within p level (y ∷ more) h.2)

and_true : (a : Bool) → not (a && true) ≡ true → not a ≡ true
and_true true h = h
and_true false h = refl

base_in_slot : (index no_struct : Bool) (F : ExprFacts) → not (F.is_number && index) ≡ true
    → slot_fits (if index then BeforeIndex else Any) no_struct F ≡ true
base_in_slot true no_struct F h = and_true F.is_number h
base_in_slot false no_struct F h = refl

start_within : (p : Place) (start : Option Expr) → start_placed (option_map about_expr start) p.no_struct (begins p.start) ≡ true
    → maybe_written (before_op 2 p.no_struct (begins p.start) false) Any start ≡ true
start_within p None h = refl
start_within p (Some x) h = any (about_expr x) (before_op 2 p.no_struct (begins p.start) false) h

-- ---- each kind

module _ (p : Place) where
  pub in_paren : (x : Expr) → At p (expr.Paren x) → written FREE Any x ≡ true
  in_paren x h = any (about_expr x) FREE (inside (expr.Paren x) (expr_facts (Expr-F.Paren (about_expr x))) p (laws.expr_paren_is x) h)

  pub in_tuple : (xs : List Expr) → At p (expr.Tuple xs) → all_free (map about_expr xs) ≡ true
  in_tuple xs h = inside (expr.Tuple xs) (expr_facts (Expr-F.Tuple (map about_expr xs))) p (laws.expr_tuple_is xs) h

  pub in_array : (xs : List Expr) → At p (expr.Array xs) → all_free (map about_expr xs) ≡ true
  in_array xs h = inside (expr.Array xs) (expr_facts (Expr-F.Array (map about_expr xs))) p (laws.expr_array_is xs) h

  pub in_repeat : (x : Expr) (length : List Listed) → At p (expr.Repeat x length) → written FREE Any x ≡ true
  in_repeat x length h =
      let w = inside (expr.Repeat x length) (expr_facts (Expr-F.Repeat (about_expr x) length)) p (laws.expr_repeat_is x length) h in
      any (about_expr x) FREE (and_parts _ _ (and_parts _ _ w).0).0

  pub in_struct : (path : Path) (fields : List FieldExpr) (base : Option (Option Expr)) → At p (expr.Struct path fields base)
      → (all_good (map about_field_expr fields) ≡ true) × (base_written base ≡ true)
  in_struct path fields base h = ((and_parts _ _ w.0).1, by base w.1)
    where
      w : ((about_path path Code).good && all_good (map about_field_expr fields) ≡ true) × (base_placed (option_map (option_map about_expr) base) ≡ true)
      w = and_parts _ _ (inside (expr.Struct path fields base)
          (expr_facts (Expr-F.Expr::Struct path (map about_field_expr fields) (option_map (option_map about_expr) base))) p
          (laws.expr_struct_is path fields base) h)

      by : (base : Option (Option Expr)) → base_placed (option_map (option_map about_expr) base) ≡ true → base_written base ≡ true
      by None k = refl
      by (Some None) k = refl
      by (Some (Some x)) k = any (about_expr x) FREE k

  pub no_chain : {A : Type 0} (x : Expr) → At p (expr.Chain x []) → A
  no_chain x h =
      absurd (true≢false (sym (inside (expr.Chain x []) (expr_facts (Expr-F.Chain (about_expr x) [])) p (laws.expr_chain_is x []) h)))

  pub in_chain : (x : Expr) (o : Op × Expr) (more : List (Op × Expr)) → At p (expr.Chain x (o ∷ more))
      → (written (before_op (suc (op_level o.0)) p.no_struct (begins p.start) (is_angle_op o.0)) Any x ≡ true)
      × (others_written p (op_level o.0) (o ∷ more) ≡ true)
  in_chain x o more h =
      let F = expr_facts (Expr-F.Chain (about_expr x) (map laws.behind_op (o ∷ more))) in
      let r = (table.chain_row p (about_expr x) (laws.behind_op o) (map laws.behind_op more)).0
      (told (expr.Chain x (o ∷ more)) F p (laws.expr_chain_is x (o ∷ more)) h) in (
        any (about_expr x) (before_op (suc (op_level o.0)) p.no_struct (begins p.start) (is_angle_op o.0)) r.3,
        others_within p (op_level o.0) (o ∷ more) r.4,
      )

  pub in_cast : (x : Expr) (types : List Ty) → At p (expr.Cast x types) → written (before_op 12 p.no_struct (begins p.start) false) Any x ≡ true
  in_cast x types h =
      let w = inside (expr.Cast x types) (expr_facts (Expr-F.Cast (about_expr x) types)) p (laws.expr_cast_is x types) h in
      any (about_expr x) (before_op 12 p.no_struct (begins p.start) false) (and_parts _ _ (and_parts _ _ w).0).1

  pub in_unary : (ps : List Prefix) (x : Expr) → At p (expr.Unary ps x) → written (as_node p 12) Prefixed x ≡ true
  in_unary ps x h =
      let F = expr_facts (Expr-F.Unary ps (about_expr x)) in
      let r = (table.unary_row p ps (about_expr x)).0 (told (expr.Unary ps x) F p (laws.expr_unary_is ps x) h) in
      and_from (placed (about_expr x) (as_node p 12)) (slot_fits Prefixed p.no_struct (about_expr x)) r.2 r.3

  pub in_range : (start : Option Expr) (inclusive : Bool) (end : Option Expr) → At p (expr.Range start inclusive end)
      → (maybe_written (before_op 2 p.no_struct (begins p.start) false) Any start ≡ true) × (maybe_written (as_node p 2) Optional end ≡ true)
  in_range start inclusive None h =
      let w = inside (expr.Range start inclusive None) (expr_facts (Expr-F.Range (option_map about_expr start) inclusive None)) p
      (laws.expr_range_is start inclusive None) h in
      (start_within p start (and_parts _ _ w).0, refl)
  in_range start inclusive (Some x) h =
      let F = expr_facts (Expr-F.Range (option_map about_expr start) inclusive (Some (about_expr x))) in
      let r = (table.range_row p (option_map about_expr start) inclusive (about_expr x)).0
      (told (expr.Range start inclusive (Some x)) F p (laws.expr_range_is start inclusive (Some x)) h) in
      (start_within p start r.1, and_from (placed (about_expr x) (as_node p 2)) (slot_fits Optional p.no_struct (about_expr x)) r.2 r.3)

  pub in_assign : (targets : List (Expr × Op)) (x : Expr) → At p (expr.Assign targets x)
      → (targets_placed (map laws.before_op targets) p.no_struct (begins p.start) ≡ true) × (written (as_node p 1) Any x ≡ true)
  in_assign targets x h =
      let F = expr_facts (Expr-F.Assign (map laws.before_op targets) (about_expr x)) in
      let r = (table.assign_row p (map laws.before_op targets) (about_expr x)).0
      (told (expr.Assign targets x) F p (laws.expr_assign_is targets x) h) in
      (r.2, any (about_expr x) (as_node p 1) r.3)

  pub in_postfix : (x : Expr) (steps : List Step) → At p (expr.Postfix x steps)
      → (written (base_place p (map about_step steps)) (base_slot (map about_step steps)) x ≡ true) × (are_steps (map about_step steps) ≡ true)
  in_postfix x steps h =
      let facts = map about_step steps in
      let w = and_parts _ _ (inside (expr.Postfix x steps) (expr_facts (Expr-F.Postfix (about_expr x) facts)) p (laws.expr_postfix_is x steps) h) in
      let v = and_parts _ _ w.0 in (
        and_from (placed (about_expr x) (base_place p facts)) (slot_fits (base_slot facts) p.no_struct (about_expr x)) w.1
            (base_in_slot (first_step is_tuple_index facts) p.no_struct (about_expr x) v.1),
        (and_parts _ _ v.0).1,
      )

  pub in_block : (label : Option Lifetime) (b : Block) → At p (expr.Block label b) → (about_block b).good ≡ true
  in_block label b h = inside (expr.Block label b) (expr_facts (Expr-F.Block label (about_block b))) p (laws.expr_block_is label b) h

  pub in_unsafe : (b : Block) → At p (expr.Unsafe b) → (about_block b).good ≡ true
  in_unsafe b h = inside (expr.Unsafe b) (expr_facts (Expr-F.Unsafe (about_block b))) p (laws.expr_unsafe_is b) h

  pub in_const_block : (b : Block) → At p (expr.ConstBlock b) → (about_block b).good ≡ true
  in_const_block b h = inside (expr.ConstBlock b) (expr_facts (Expr-F.ConstBlock (about_block b))) p (laws.expr_const_block_is b) h

  pub in_async : (moves : Bool) (b : Block) → At p (expr.Async moves b) → (about_block b).good ≡ true
  in_async moves b h = inside (expr.Async moves b) (expr_facts (Expr-F.Async moves (about_block b))) p (laws.expr_async_is moves b) h

  pub in_if : (branches : List Branch) (otherwise : Option Block) → At p (expr.If branches otherwise)
      → (branches_good (map about_branch branches) ≡ true) × (may_be_good (option_map about_block otherwise) ≡ true)
  in_if branches otherwise h =
      let F = expr_facts (Expr-F.If (map about_branch branches) (option_map about_block otherwise)) in
      let w = and_parts _ _ (inside (expr.If branches otherwise) F p (laws.expr_if_is branches otherwise) h) in
      ((and_parts _ _ w.0).1, w.1)

  pub in_match : (x : Expr) (attrs : List Attr) (arms : List Arm) → At p (expr.Match x attrs arms)
      → (written (plain 0 true) Any x ≡ true) × (arms_good (map about_arm arms) ≡ true)
  in_match x attrs arms h =
      let F = expr_facts (Expr-F.Match (about_expr x) attrs (map about_arm arms)) in
      let w = and_parts _ _ (inside (expr.Match x attrs arms) F p (laws.expr_match_is x attrs arms) h) in
      (any (about_expr x) (plain 0 true) (and_parts _ _ w.0).0, w.1)

  pub in_loop : (label : Option Lifetime) (b : Block) → At p (expr.Loop label b) → (about_block b).good ≡ true
  in_loop label b h = inside (expr.Loop label b) (expr_facts (Expr-F.Loop label (about_block b))) p (laws.expr_loop_is label b) h

  pub in_while : (label : Option Lifetime) (c : Condition) (b : Block) → At p (expr.While label c b)
      → ((about_condition c).good ≡ true) × ((about_block b).good ≡ true)
  in_while label c b h =
      let F = expr_facts (Expr-F.While label (about_condition c) (about_block b)) in
      and_parts (about_condition c).good (about_block b).good (inside (expr.While label c b) F p (laws.expr_while_is label c b) h)

  pub in_for : (label : Option Lifetime) (pat : Pat) (x : Expr) (b : Block) → At p (expr.For label pat x b)
      → (written (plain 0 true) Any x ≡ true) × ((about_block b).good ≡ true)
  in_for label pat x b h =
      let F = expr_facts (Expr-F.For label pat (about_expr x) (about_block b)) in
      let w = and_parts _ _ (inside (expr.For label pat x b) F p (laws.expr_for_is label pat x b) h) in
      (any (about_expr x) (plain 0 true) (and_parts _ _ w.0).1, w.1)

  pub in_closure : (is_async moves : Bool) (params : List ClosureParam) (x : Expr) → At p (expr.Closure is_async moves params x)
      → written (plain 0 p.no_struct) Any x ≡ true
  in_closure is_async moves params x h =
      let F = expr_facts (Expr-F.Closure is_async moves params (about_expr x)) in
      let w = and_parts _ _ (inside (expr.Closure is_async moves params x) F p (laws.expr_closure_is is_async moves params x) h) in
      any (about_expr x) (plain 0 p.no_struct) (and_parts _ _ w.0).1

  pub in_typed_closure : (is_async moves : Bool) (params : List ClosureParam) (output : Ty) (b : Block)
      → At p (expr.TypedClosure is_async moves params output b) → (about_block b).good ≡ true
  in_typed_closure is_async moves params output b h =
      let F = expr_facts (Expr-F.TypedClosure is_async moves params output (about_block b)) in
      (and_parts _ _ (inside (expr.TypedClosure is_async moves params output b) F p
      (laws.expr_typed_closure_is is_async moves params output b) h)).1

  pub in_return : (x : Option Expr) → At p (expr.Return x) → maybe_written (plain 0 p.no_struct) Optional x ≡ true
  in_return None h = refl
  in_return (Some x) h = inside (expr.Return (Some x)) (expr_facts (Expr-F.Return (Some (about_expr x)))) p (laws.expr_return_is (Some x)) h

  pub in_break : (label : Option Lifetime) (x : Option Expr) → At p (expr.Break label x)
      → maybe_written (plain 0 p.no_struct) (break_slot label) x ≡ true
  in_break label None h = refl
  in_break None (Some x) h =
      let X = about_expr x in
      let stands = placed X (plain 0 p.no_struct) in
      let free = begins_free p.no_struct X in
      let unlabelled = not (is_label_lead X.lead) in
      let w = and_parts (stands && free) unlabelled
      (inside (expr.Break None (Some x)) (expr_facts (Expr-F.Break None (Some X))) p (laws.expr_break_is None (Some x)) h) in
      let v = and_parts stands free w.0 in
      and_from stands (free && unlabelled) v.0 (and_from free unlabelled v.1 w.1)
  in_break (Some label) (Some x) h =
      let F = expr_facts (Expr-F.Break (Some label) (Some (about_expr x))) in
      (and_parts _ _ (inside (expr.Break (Some label) (Some x)) F p (laws.expr_break_is (Some label) (Some x)) h)).0
