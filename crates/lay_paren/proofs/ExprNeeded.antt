-- Without one of the pairs that were put in, no expression stands in its place: kind by kind.
use Rattle.std.proofs.Common.{◌≡◌, ℕ, suc, ◌==◌, Bool, true, false, not, ◌&&◌, if◌then◌else◌, List, [], ◌∷◌, map, Option, Some, None, option_map, refl, sym, ap, ap₂, subst, ◌∙◌}
use Rattle.std.specs.List.{list_all}
use Rattle.std.proofs.lemmas.Bool.{and_parts, and_from, eq-eqb, eqb-true}
use Rattle.lay_node.specs.nodes.Facts.{all_good}
use Rattle.lay_node.specs.declared.token.Lifetime.{Lifetime}
use Rattle.lay_code.specs.Operators.{is_angle_op, op_level}
use Rattle.lay_code.specs.nodes.Code.{about_arm, about_block, about_branch, about_condition, about_expr, about_field_expr, about_step}
use Rattle.lay_code.specs.nodes.Exprs.{all_free, are_steps, arms_good, branches_good, first_step, is_tuple_index, may, may_be_good, placed, targets_placed}
use Rattle.lay_code.specs.nodes.Places.{FREE, before_op, begins, plain}
use Rattle.lay_code.specs.nodes.PlacesTable.{as_node}
use Rattle.lay_code.specs.declared.blocks.Arm.{Arm}
use Rattle.lay_code.specs.declared.blocks.Block.{Block}
use Rattle.lay_code.specs.declared.blocks.Branch.{Branch}
use Rattle.lay_code.specs.declared.blocks.Stmt.TheOpen.{Expr-F}
use Rattle.lay_code.specs.declared.blocks.Stmt.TheViews as views
use Rattle.lay_code.specs.declared.conditions.Condition.{Condition}
use Rattle.lay_code.specs.declared.exprs.Expr.{Expr}
use Rattle.lay_code.specs.declared.exprs.Expr.TheVariants as expr
use Rattle.lay_code.specs.declared.exprs.FieldExpr.{FieldExpr}
use Rattle.lay_code.specs.declared.exprs.Place.{Place}
use Rattle.lay_code.specs.declared.exprs.Step.{Step}
use Rattle.lay_code.specs.declared.operators.Op.{Op}
use Rattle.lay_code.proofs.nodes.ExprsLaws as laws
use Rattle.lay_paren_defs.specs.loose.Slots.{Any, BeforeIndex, Optional, Prefixed, Slot, slot_fits}
use Rattle.lay_paren.specs.Least.{least_made, made_of}
use Rattle.lay_paren.specs.Made.{both, kept, Made, one, making}
use Rattle.lay_paren_defs.specs.Traversal.{base_place, base_slot, break_slot, level_by, operand_at, postfix_of}
use Rattle.lay_paren.specs.Parts.{Placed, expr_made, free_made, made_parts, operands_made, targets_made}
use Rattle.lay_paren.proofs.Choice.{all_weaker, any, Sure, both_all, both_none, both_sure, chosen_kept, chosen_needed, in_place, in_slot, kept_sure, list_sure, none, one_sure, refuted, unwritten, written}
use Rattle.lay_paren.proofs.ExprLeads.{parts_lead}
use Rattle.lay_paren.proofs.ExprStands.{made_arms, made_branches, made_fields, made_operands, made_steps, made_targets, operands_of, step_trees, told_steps, trees}
use Rattle.lay_paren.proofs.Kept.{ArmIs, BranchIs, FieldIs, Kept, KeptArm, KeptBlock, KeptBranch, KeptExpr, KeptField, KeptStep, Needed, StepIs, expr_layer}
use Rattle.lay_paren.proofs.LeadLemmas.{Apt, misfit}
use Rattle.lay_paren.specs.Nodes.{expr_parts, made_arm, made_block, made_branch, made_condition, made_field, made_step}
use Rattle.lay_paren.proofs.Within as within
use Rattle.lay_paren.proofs.Roots.{placed_may}
use Rattle.lay_code.specs.nodes.Layers.{ExprNode}

-- ---- lists of parts

abbrev at_place : Place → Expr → Bool
at_place p x = placed (about_expr x) p

abbrev pub free : List Expr → Bool
free xs = all_free (map about_expr xs)

pub free_sure : (ys : List KeptExpr) → Sure free (free_made (map made_of (trees ys))) (trees ys)
free_sure [] = kept_sure free []
free_sure (y ∷ ys) =
    both_sure (written FREE Any) free free (λ z zs. z ∷ zs)
    (λ z zs h. let c = and_parts (placed (about_expr z) FREE) (free zs) h in (any (about_expr z) FREE c.0, c.1))
    (made_of y.0 FREE Any) (free_made (map made_of (trees ys))) y.0 (trees ys) (y.1.needed FREE Any tt) (free_sure ys)

abbrev fields_good : List FieldExpr → Bool
fields_good xs = all_good (map about_field_expr xs)

fields_sure : (ys : List KeptField) → Sure fields_good (made_fields ys) (map (λ (y : KeptField). y.0) ys)
fields_sure ys =
    list_sure {Is = FieldIs} (λ (x : FieldExpr). (about_field_expr x).good) fields_good (λ x xs h. and_parts _ _ h) made_field
    (λ x is. is.needed) ys

abbrev all_branches : List Branch → Bool
all_branches xs = branches_good (map about_branch xs)

branches_sure : (ys : List KeptBranch) → Sure all_branches (made_branches ys) (map (λ (y : KeptBranch). y.0) ys)
branches_sure ys =
    list_sure {Is = BranchIs} (λ (x : Branch). (about_branch x).good) all_branches (λ x xs h. and_parts _ _ h) made_branch
    (λ x is. is.needed) ys

abbrev all_arms : List Arm → Bool
all_arms xs = arms_good (map about_arm xs)

arms_sure : (ys : List KeptArm) → Sure all_arms (made_arms ys) (map (λ (y : KeptArm). y.0) ys)
arms_sure ys =
    list_sure {Is = ArmIs} (λ (x : Arm). (about_arm x).good) all_arms (λ x xs h. and_parts _ _ h) made_arm (λ x is. is.needed) ys

abbrev all_steps : List Step → Bool
all_steps xs = are_steps (map about_step xs)

steps_sure : (ys : List KeptStep) → Sure all_steps (made_steps ys) (step_trees ys)
steps_sure ys = list_sure {Is = StepIs} (λ (x : Step). (about_step x).good) all_steps down made_step (λ x is. is.needed) ys
  where
    down : (x : Step) (xs : List Step) → all_steps (x ∷ xs) ≡ true → ((about_step x).good ≡ true) × (all_steps xs ≡ true)
    down x [] h = (h, refl)
    down x (y ∷ xs) h = let a = and_parts _ _ h in ((and_parts _ _ a.0).0, a.1)

abbrev targets_of : List (KeptExpr × Op) → List (Expr × Op)
targets_of ys = map (λ (y : KeptExpr × Op). (y.0.0, y.1)) ys

abbrev targets_stand : Bool → Bool → List (Expr × Op) → Bool
targets_stand no_struct first xs = targets_placed (map laws.before_op xs) no_struct first

targets_sure : (p : Place) (first : Bool) (ys : List (KeptExpr × Op))
    → Sure (targets_stand p.no_struct first) (targets_made p first (made_targets ys)) (targets_of ys)
targets_sure p first [] = kept_sure (targets_stand p.no_struct first) []
targets_sure p first (y ∷ ys) =
    let place = before_op 1 p.no_struct first false in
    both_sure (written place Any) (targets_stand p.no_struct false) (targets_stand p.no_struct first) (λ z zs. (z, y.1) ∷ zs)
    (λ z zs h. let c = and_parts _ _ h in (any (about_expr z) place (and_parts _ _ c.0).1, c.1))
    (made_of y.0.0 place Any) (targets_made p false (made_targets ys)) y.0.0 (targets_of ys) (y.0.1.needed place Any tt) (targets_sure p false ys)

-- ---- operands after operators

-- The operators stay, and an operand doesn't stand.
abbrev Broken : Place → ℕ → List (Op × Placed) → List (Op × Expr) → Bool
Broken p level made xs = (level_by xs == level_by made) && not (within.others_written p level xs)

operand_same : (p : Place) (level : ℕ) (ys : List (Op × KeptExpr))
    → operand_at p level (operands_made p level (made_operands ys)).result ≡ operand_at p level (made_operands ys)
operand_same p level [] = refl
operand_same p level (y ∷ ys) = refl

operands_needed : (p : Place) (level : ℕ) (ys : List (Op × KeptExpr))
    → list_all (Broken p level (made_operands ys)) (operands_made p level (made_operands ys)).cuts ≡ true
operands_needed p level [] = refl
operands_needed p level (y ∷ ys) =
    let place = operand_at p level (made_operands ys) in
    let rest = operands_made p level (made_operands ys) in
    let first = (made_of y.1.0 place Any).result in
    both_all (unwritten place Any) (Broken p level (made_operands ys)) (Broken p level (made_operands (y ∷ ys)))
    (λ z zs. (y.0, z) ∷ zs) (made_of y.1.0 place Any) rest
    (λ z h. and_from (op_level y.0 == op_level y.0) (not (within.others_written p level ((y.0, z) ∷ rest.result))) (eq-eqb (op_level y.0) (op_level y.0) refl)
    (refuted (within.others_written p level ((y.0, z) ∷ rest.result)) (written place Any z)
    (λ k. subst (λ (q : Place). written q Any z ≡ true) (operand_same p level ys) (and_parts _ _ k).0) h))
    (λ zs h. and_from (op_level y.0 == op_level y.0) (not (within.others_written p level ((y.0, first) ∷ zs))) (eq-eqb (op_level y.0) (op_level y.0) refl)
    (refuted (within.others_written p level ((y.0, first) ∷ zs)) (within.others_written p level zs) (λ k. (and_parts _ _ k).1) (and_parts _ _ h).1))
    (y.1.1.needed place Any tt).needed (operands_needed p level ys)

chain_needed : (p : Place) (x : KeptExpr) (o : Op × KeptExpr) (more : List (Op × KeptExpr))
    → none (at_place p) (expr_made p (expr_parts (expr_layer (Expr-F.Chain x (o ∷ more))))).cuts ≡ true
chain_needed p x o more =
    let level = op_level o.0 in
    let place = before_op (suc level) p.no_struct (begins p.start) (is_angle_op o.0) in
    let rest = operands_made p level (made_operands (o ∷ more)) in
    let first = (made_of x.0 place Any).result in
    both_all (unwritten place Any) (Broken p level (made_operands (o ∷ more))) (λ (z : Expr). not (at_place p z)) (λ y ys. expr.Chain y ys)
    (made_of x.0 place Any) rest
    (λ z h. refuted (at_place p (expr.Chain z rest.result)) (written place Any z)
    (λ k. (within.in_chain p z (o.0, (made_of o.1.0 (operand_at p level (made_operands more)) Any).result)
    (operands_made p level (made_operands more)).result k).0) h)
    (λ zs h. broken zs first h) (x.1.needed place Any tt).needed (operands_needed p level (o ∷ more))
  where
    broken : (zs : List (Op × Expr)) (first : Expr) → Broken p (op_level o.0) (made_operands (o ∷ more)) zs ≡ true → not (at_place p (expr.Chain first zs)) ≡ true
    broken [] first h = refuted (at_place p (expr.Chain first [])) false (λ k. within.no_chain p first k) refl
    broken (z ∷ zs) first h =
        let c = and_parts _ _ h in
        let same : op_level z.0 ≡ op_level o.0 = eqb-true (op_level z.0) (op_level o.0) c.0 in
        refuted (at_place p (expr.Chain first (z ∷ zs))) (within.others_written p (op_level o.0) (z ∷ zs))
        (λ k. subst (λ (n : ℕ). within.others_written p n (z ∷ zs) ≡ true) same (within.in_chain p first z zs k).1) c.1

operands_keep : (p : Place) (level : ℕ) (ys : List (Op × KeptExpr)) → within.others_written p level (operands_of ys) ≡ true
    → operands_made p level (made_operands ys) ≡ kept (operands_of ys)
operands_keep p level [] h = refl
operands_keep p level (y ∷ []) h =
    ap (λ (m : Made Expr). both (λ z zs. (y.0, z) ∷ zs) m (kept [])) ((y.1.1.needed (as_node p (suc level)) Any tt).keeps (and_parts _ _ h).0)
operands_keep p level (y ∷ z ∷ more) h =
    let place = before_op (suc level) p.no_struct false (is_angle_op z.0) in
    let c = and_parts (written place Any y.1.0) (within.others_written p level (operands_of (z ∷ more))) h in
    ap₂ (both (λ w ws. (y.0, w) ∷ ws)) ((y.1.1.needed place Any tt).keeps c.0) (operands_keep p level (z ∷ more) c.1)

chain_sure : (p : Place) (x : KeptExpr) (o : Op × KeptExpr) (more : List (Op × KeptExpr))
    → Sure (at_place p) (expr_made p (expr_parts (expr_layer (Expr-F.Chain x (o ∷ more))))) (expr.Chain x.0 (operands_of (o ∷ more)))
chain_sure p x o more = record {
  needed = chain_needed p x o more;
  keeps = λ h.
      let place = before_op (suc (op_level o.0)) p.no_struct (begins p.start) (is_angle_op o.0) in
      let w = within.in_chain p x.0 (o.0, o.1.0) (operands_of more) h in
      ap₂ (both (λ y ys. expr.Chain y ys)) ((x.1.needed place Any tt).keeps w.0) (operands_keep p (op_level o.0) (o ∷ more) w.1);
}

-- ---- parts that may be left out

pub some_sure : (p : Place) (s : Slot) (x : KeptExpr) → Apt p s → Sure (within.maybe_written p s) (one Some (made_of x.0 p s)) (Some x.0)
some_sure p s x apt = one_sure (written p s) (within.maybe_written p s) Some (λ z h. h) (made_of x.0 p s) x.0 (x.1.needed p s apt)

base_apt : (p : Place) (index : Bool) → Apt p (if index then BeforeIndex else Any)
base_apt p true = tt
base_apt p false = tt

break_apt : (p : Place) (label : Option Lifetime) → Apt p (break_slot label)
break_apt p None = tt
break_apt p (Some label) = tt

-- a block after an `else`, if there is one
abbrev pub else_block : Option Block → Bool
else_block b = may_be_good (option_map about_block b)

-- ---- each kind

-- a tree, by its layer
rolled : (p : Place) (layer : ExprNode) (x : Expr) (m : Made Expr) → views.roll-Expr layer ≡ x → Sure (at_place p) m x
    → Sure (at_place p) m (views.roll-Expr layer)
rolled p layer x m e sure = subst (λ (z : Expr). Sure (at_place p) m z) (sym e) sure

abbrev SureAt : Kept Expr-F → Place → Type 0
SureAt y p = Sure (at_place p) (expr_made p (expr_parts (expr_layer y))) (views.roll-Expr (expr_layer y))

block_sure : (p : Place) (f : Block → Expr) → ((b : Block) → at_place p (f b) ≡ true → (about_block b).good ≡ true) → (b : KeptBlock)
    → Sure (at_place p) (one f (made_block b.0)) (f b.0)
block_sure p f down b = one_sure (λ (c : Block). (about_block c).good) (at_place p) f down (made_block b.0) b.0 b.1.needed

leaf_sure : (p : Place) (layer : ExprNode) (x : Expr) → views.roll-Expr layer ≡ x → Sure (at_place p) (kept x) (views.roll-Expr layer)
leaf_sure p layer x e = rolled p layer x (kept x) e (kept_sure (at_place p) x)

-- A postfix expression: the places of its base are told by the steps.
postfix_sure : (p : Place) (x : KeptExpr) (steps : List KeptStep)
    → Sure (at_place p) (postfix_of making made_parts p (made_of x.0) (made_steps steps)) (expr.Postfix x.0 (step_trees steps))
postfix_sure p x steps = record {
  needed =
      both_none (written place slot) all_steps (at_place p) (λ y ys. expr.Postfix y ys) (made_of x.0 place slot) (made_steps steps)
      (λ y h. (within.in_postfix p y (made_steps steps).result h).0) (λ ys h. (within.in_postfix p (made_of x.0 place slot).result ys h).1)
      (x.1.needed place slot (base_apt place (first_step is_tuple_index (told_steps steps)))).needed (steps_sure steps).needed;
  keeps = λ h.
      let told = map about_step (step_trees steps) in
      let w = within.in_postfix p x.0 (step_trees steps) h in
      ap (postfix_of making made_parts p (made_of x.0)) ((steps_sure steps).keeps w.1)
      ∙ ap (λ (m : Made Expr). both (λ y ys. expr.Postfix y ys) m (kept (step_trees steps)))
      ((x.1.needed (base_place p told) (base_slot told) (base_apt (base_place p told) (first_step is_tuple_index told))).keeps w.0);
}
  where
    place : Place
    place = base_place p (told_steps steps)

    slot : Slot
    slot = base_slot (told_steps steps)

sure : (y : Kept Expr-F) (p : Place) → SureAt y p
sure (Expr-F.Lit l) p = leaf_sure p (Expr-F.Lit l) (expr.Lit l) (views.rolls-Lit l)
sure (Expr-F.Path path) p = leaf_sure p (Expr-F.Path path) (expr.Path path) (views.rolls-Path path)
sure Expr-F.Underscore p = leaf_sure p Expr-F.Underscore expr.Underscore views.rolls-Underscore
sure (Expr-F.Expr::Call call) p = leaf_sure p (Expr-F.Expr::Call call) (expr.Call call) (views.rolls-Expr::Call call)
sure (Expr-F.Continue label) p = leaf_sure p (Expr-F.Continue label) (expr.Continue label) (views.rolls-Continue label)
sure (Expr-F.Paren x) p =
    rolled p (Expr-F.Paren x.0) (expr.Paren x.0) _ (views.rolls-Paren x.0)
    (one_sure (written FREE Any) (at_place p) expr.Paren (within.in_paren p) (made_of x.0 FREE Any) x.0 (x.1.needed FREE Any tt))
sure (Expr-F.Tuple ys) p =
    rolled p (Expr-F.Tuple (trees ys)) (expr.Tuple (trees ys)) _ (views.rolls-Tuple (trees ys))
    (one_sure free (at_place p) expr.Tuple (within.in_tuple p) (free_made (map made_of (trees ys))) (trees ys) (free_sure ys))
sure (Expr-F.Array ys) p =
    rolled p (Expr-F.Array (trees ys)) (expr.Array (trees ys)) _ (views.rolls-Array (trees ys))
    (one_sure free (at_place p) expr.Array (within.in_array p) (free_made (map made_of (trees ys))) (trees ys) (free_sure ys))
sure (Expr-F.Repeat x length) p =
    rolled p (Expr-F.Repeat x.0 length) (expr.Repeat x.0 length) _ (views.rolls-Repeat x.0 length)
    (one_sure (written FREE Any) (at_place p) (λ y. expr.Repeat y length) (λ y. within.in_repeat p y length) (made_of x.0 FREE Any) x.0
    (x.1.needed FREE Any tt))
sure (Expr-F.Expr::Struct path fields None) p =
    let all = map (λ (y : KeptField). y.0) fields in
    rolled p (Expr-F.Expr::Struct path all None) (expr.Struct path all None) _ (views.rolls-Expr::Struct path all None)
    (both_sure fields_good within.base_written (at_place p) (λ ys b. expr.Struct path ys b) (within.in_struct p path) (made_fields fields)
    (kept None) all None (fields_sure fields)
    (kept_sure within.base_written None))
sure (Expr-F.Expr::Struct path fields (Some None)) p =
    let all = map (λ (y : KeptField). y.0) fields in
    rolled p (Expr-F.Expr::Struct path all (Some None)) (expr.Struct path all (Some None)) _ (views.rolls-Expr::Struct path all (Some None))
    (both_sure fields_good within.base_written (at_place p) (λ ys b. expr.Struct path ys b) (within.in_struct p path) (made_fields fields)
    (kept (Some None)) all (Some None) (fields_sure fields)
    (kept_sure within.base_written (Some None)))
sure (Expr-F.Expr::Struct path fields (Some (Some x))) p =
    let all = map (λ (y : KeptField). y.0) fields in
    rolled p (Expr-F.Expr::Struct path all (Some (Some x.0))) (expr.Struct path all (Some (Some x.0))) _ (views.rolls-Expr::Struct path all (Some (Some x.0)))
    (both_sure fields_good within.base_written (at_place p) (λ ys b. expr.Struct path ys b) (within.in_struct p path) (made_fields fields)
    (one (λ y. Some (Some y)) (made_of x.0 FREE Any)) all (Some (Some x.0)) (fields_sure fields)
    (one_sure (written FREE Any) within.base_written (λ y. Some (Some y)) (λ z h. h) (made_of x.0 FREE Any) x.0 (x.1.needed FREE Any tt)))
sure (Expr-F.Chain x []) p =
    let place = before_op (suc 0) p.no_struct (begins p.start) false in
    rolled p (Expr-F.Chain x.0 []) (expr.Chain x.0 []) _ (views.rolls-Chain x.0 [])
    (record {
      needed =
          both_none (written place Any) (λ (ys : List (Op × Expr)). true) (at_place p) (λ y ys. expr.Chain y ys) (made_of x.0 place Any) (kept [])
          (λ z h. within.no_chain p z h) (λ zs h. refl) (x.1.needed place Any tt).needed refl;
      keeps = λ h. within.no_chain p x.0 h;
    })
sure (Expr-F.Chain x (o ∷ more)) p =
    rolled p (Expr-F.Chain x.0 (operands_of (o ∷ more))) (expr.Chain x.0 (operands_of (o ∷ more))) _ (views.rolls-Chain x.0 (operands_of (o ∷ more)))
    (chain_sure p x o more)
sure (Expr-F.Cast x types) p =
    let place = before_op 12 p.no_struct (begins p.start) false in
    rolled p (Expr-F.Cast x.0 types) (expr.Cast x.0 types) _ (views.rolls-Cast x.0 types)
    (one_sure (written place Any) (at_place p) (λ y. expr.Cast y types) (λ y. within.in_cast p y types) (made_of x.0 place Any) x.0 (x.1.needed place Any tt))
sure (Expr-F.Unary ps x) p =
    let place = as_node p 12 in
    rolled p (Expr-F.Unary ps x.0) (expr.Unary ps x.0) _ (views.rolls-Unary ps x.0)
    (one_sure (written place Prefixed) (at_place p) (λ y. expr.Unary ps y) (within.in_unary p ps) (made_of x.0 place Prefixed) x.0
    (x.1.needed place Prefixed tt))
sure (Expr-F.Range None inclusive None) p =
    let place = before_op 2 p.no_struct (begins p.start) false in
    rolled p (Expr-F.Range None inclusive None) (expr.Range None inclusive None) _ (views.rolls-Range None inclusive None)
    (both_sure (within.maybe_written place Any) (within.maybe_written (as_node p 2) Optional) (at_place p) (λ c d. expr.Range c inclusive d)
    (λ c d h. within.in_range p c inclusive d h) (kept None) (kept None) None None
    (kept_sure (within.maybe_written place Any) None) (kept_sure (within.maybe_written (as_node p 2) Optional) None))
sure (Expr-F.Range None inclusive (Some y)) p =
    let place = before_op 2 p.no_struct (begins p.start) false in
    rolled p (Expr-F.Range None inclusive (Some y.0)) (expr.Range None inclusive (Some y.0)) _ (views.rolls-Range None inclusive (Some y.0))
    (both_sure (within.maybe_written place Any) (within.maybe_written (as_node p 2) Optional) (at_place p) (λ c d. expr.Range c inclusive d)
    (λ c d h. within.in_range p c inclusive d h) (kept None) (one Some (made_of y.0 (as_node p 2) Optional)) None (Some y.0)
    (kept_sure (within.maybe_written place Any) None) (some_sure (as_node p 2) Optional y tt))
sure (Expr-F.Range (Some x) inclusive None) p =
    let place = before_op 2 p.no_struct (begins p.start) false in
    rolled p (Expr-F.Range (Some x.0) inclusive None) (expr.Range (Some x.0) inclusive None) _ (views.rolls-Range (Some x.0) inclusive None)
    (both_sure (within.maybe_written place Any) (within.maybe_written (as_node p 2) Optional) (at_place p) (λ c d. expr.Range c inclusive d)
    (λ c d h. within.in_range p c inclusive d h) (one Some (made_of x.0 place Any)) (kept None) (Some x.0) None
    (some_sure place Any x tt) (kept_sure (within.maybe_written (as_node p 2) Optional) None))
sure (Expr-F.Range (Some x) inclusive (Some y)) p =
    let place = before_op 2 p.no_struct (begins p.start) false in
    rolled p (Expr-F.Range (Some x.0) inclusive (Some y.0)) (expr.Range (Some x.0) inclusive (Some y.0)) _ (views.rolls-Range (Some x.0) inclusive (Some y.0))
    (both_sure (within.maybe_written place Any) (within.maybe_written (as_node p 2) Optional) (at_place p) (λ c d. expr.Range c inclusive d)
    (λ c d h. within.in_range p c inclusive d h) (one Some (made_of x.0 place Any)) (one Some (made_of y.0 (as_node p 2) Optional)) (Some x.0) (Some y.0)
    (some_sure place Any x tt) (some_sure (as_node p 2) Optional y tt))
sure (Expr-F.Assign targets x) p =
    let first = begins p.start in
    rolled p (Expr-F.Assign (targets_of targets) x.0) (expr.Assign (targets_of targets) x.0) _ (views.rolls-Assign (targets_of targets) x.0)
    (both_sure (targets_stand p.no_struct first) (written (as_node p 1) Any) (at_place p) (λ ys y. expr.Assign ys y) (within.in_assign p)
    (targets_made p first (made_targets targets)) (made_of x.0 (as_node p 1) Any) (targets_of targets) x.0 (targets_sure p first targets)
    (x.1.needed (as_node p 1) Any tt))
sure (Expr-F.Postfix x steps) p =
    rolled p (Expr-F.Postfix x.0 (step_trees steps)) (expr.Postfix x.0 (step_trees steps)) _ (views.rolls-Postfix x.0 (step_trees steps))
    (postfix_sure p x steps)
sure (Expr-F.Block label b) p =
    rolled p (Expr-F.Block label b.0) (expr.Block label b.0) _ (views.rolls-Block label b.0)
    (block_sure p (λ c. expr.Block label c) (within.in_block p label) b)
sure (Expr-F.Unsafe b) p =
    rolled p (Expr-F.Unsafe b.0) (expr.Unsafe b.0) _ (views.rolls-Unsafe b.0)
    (block_sure p expr.Unsafe (within.in_unsafe p) b)
sure (Expr-F.ConstBlock b) p =
    rolled p (Expr-F.ConstBlock b.0) (expr.ConstBlock b.0) _ (views.rolls-ConstBlock b.0)
    (block_sure p expr.ConstBlock (within.in_const_block p) b)
sure (Expr-F.Async moves b) p =
    rolled p (Expr-F.Async moves b.0) (expr.Async moves b.0) _ (views.rolls-Async moves b.0)
    (block_sure p (λ c. expr.Async moves c) (within.in_async p moves) b)
sure (Expr-F.If branches None) p =
    let all = map (λ (y : KeptBranch). y.0) branches in
    rolled p (Expr-F.If all None) (expr.If all None) _ (views.rolls-If all None)
    (both_sure all_branches else_block (at_place p) (λ ys c. expr.If ys c) (within.in_if p) (made_branches branches) (kept None) all None
    (branches_sure branches) (kept_sure else_block None))
sure (Expr-F.If branches (Some b)) p =
    let all = map (λ (y : KeptBranch). y.0) branches in
    rolled p (Expr-F.If all (Some b.0)) (expr.If all (Some b.0)) _ (views.rolls-If all (Some b.0))
    (both_sure all_branches else_block (at_place p) (λ ys c. expr.If ys c) (within.in_if p) (made_branches branches) (one Some (made_block b.0)) all (Some b.0)
    (branches_sure branches) (one_sure (λ (c : Block). (about_block c).good) else_block Some (λ z h. h) (made_block b.0) b.0 b.1.needed))
sure (Expr-F.Match x attrs arms) p =
    let all = map (λ (y : KeptArm). y.0) arms in
    rolled p (Expr-F.Match x.0 attrs all) (expr.Match x.0 attrs all) _ (views.rolls-Match x.0 attrs all)
    (both_sure (written (plain 0 true) Any) all_arms (at_place p) (λ y ys. expr.Match y attrs ys) (λ y ys. within.in_match p y attrs ys)
    (made_of x.0 (plain 0 true) Any) (made_arms arms) x.0 all (x.1.needed (plain 0 true) Any tt) (arms_sure arms))
sure (Expr-F.Loop label b) p =
    rolled p (Expr-F.Loop label b.0) (expr.Loop label b.0) _ (views.rolls-Loop label b.0)
    (block_sure p (λ c. expr.Loop label c) (within.in_loop p label) b)
sure (Expr-F.While label c b) p =
    rolled p (Expr-F.While label c.0 b.0) (expr.While label c.0 b.0) _ (views.rolls-While label c.0 b.0)
    (both_sure (λ (d : Condition). (about_condition d).good) (λ (d : Block). (about_block d).good) (at_place p) (λ d y. expr.While label d y)
    (within.in_while p label) (made_condition c.0) (made_block b.0) c.0 b.0 c.1.needed b.1.needed)
sure (Expr-F.For label pat x b) p =
    rolled p (Expr-F.For label pat x.0 b.0) (expr.For label pat x.0 b.0) _ (views.rolls-For label pat x.0 b.0)
    (both_sure (written (plain 0 true) Any) (λ (d : Block). (about_block d).good) (at_place p) (λ y z. expr.For label pat y z)
    (within.in_for p label pat) (made_of x.0 (plain 0 true) Any) (made_block b.0) x.0 b.0 (x.1.needed (plain 0 true) Any tt) b.1.needed)
sure (Expr-F.Closure is_async moves params x) p =
    let place = plain 0 p.no_struct in
    rolled p (Expr-F.Closure is_async moves params x.0) (expr.Closure is_async moves params x.0) _ (views.rolls-Closure is_async moves params x.0)
    (one_sure (written place Any) (at_place p) (λ y. expr.Closure is_async moves params y) (within.in_closure p is_async moves params)
    (made_of x.0 place Any) x.0 (x.1.needed place Any tt))
sure (Expr-F.TypedClosure is_async moves params output b) p =
    rolled p (Expr-F.TypedClosure is_async moves params output b.0) (expr.TypedClosure is_async moves params output b.0) _ (views.rolls-TypedClosure is_async moves params output b.0)
    (block_sure p (λ c. expr.TypedClosure is_async moves params output c) (within.in_typed_closure p is_async moves params output) b)
sure (Expr-F.Return None) p =
    rolled p (Expr-F.Return None) (expr.Return None) _ (views.rolls-Return None)
    (kept_sure (at_place p) (expr.Return None))
sure (Expr-F.Return (Some x)) p =
    let place = plain 0 p.no_struct in
    rolled p (Expr-F.Return (Some x.0)) (expr.Return (Some x.0)) _ (views.rolls-Return (Some x.0))
    (one_sure (within.maybe_written place Optional) (at_place p) expr.Return (within.in_return p) (one Some (made_of x.0 place Optional)) (Some x.0)
    (some_sure place Optional x tt))
sure (Expr-F.Break label None) p =
    rolled p (Expr-F.Break label None) (expr.Break label None) _ (views.rolls-Break label None)
    (kept_sure (at_place p) (expr.Break label None))
sure (Expr-F.Break label (Some x)) p =
    let place = plain 0 p.no_struct in
    let slot = break_slot label in
    rolled p (Expr-F.Break label (Some x.0)) (expr.Break label (Some x.0)) _ (views.rolls-Break label (Some x.0))
    (one_sure (within.maybe_written place slot) (at_place p) (λ y. expr.Break label y) (within.in_break p label) (one Some (made_of x.0 place slot)) (Some x.0)
    (some_sure place slot x (break_apt place label)))

pub layer_needed : (y : Kept Expr-F) → Needed (least_made (expr_parts (expr_layer y))) (views.roll-Expr (expr_layer y))
layer_needed y p s apt =
    let made = expr_parts (expr_layer y) in
    let x = views.roll-Expr (expr_layer y) in
    record {
      needed = chosen_needed (expr_made p made) (expr_made FREE made) p s (unfit p s) (unfit FREE Any) (misfit made (parts_lead y) p s apt);
      keeps = λ h.
          let placed_there = in_place (about_expr x) p s h in
          chosen_kept (expr_made p made) (expr_made FREE made) p s x ((sure y p).keeps placed_there)
          (and_from (may (about_expr x) p) (slot_fits s p.no_struct (about_expr x)) (placed_may x p placed_there) (in_slot (about_expr x) p s h));
    }
  where
    unfit : (q : Place) (t : Slot) → list_all (unwritten q t) (expr_made q (expr_parts (expr_layer y))).cuts ≡ true
    unfit q t =
        all_weaker (λ (x : Expr). not (at_place q x)) (unwritten q t) (λ x. refuted (written q t x) (at_place q x) (in_place (about_expr x) q t))
        (expr_made q (expr_parts (expr_layer y))).cuts (sure y q).needed
