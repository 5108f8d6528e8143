-- Each expression whose parts stand where they are put stands where its root may.
use Rattle.std.proofs.Common.{◌≡◌, ℕ, suc, ◌≤◌, Bool, true, false, not, ◌&&◌, true≢false, if◌then◌else◌, List, [], ◌∷◌, map, Some, None, refl, sym, ap₂, subst, ◌∙◌, arith}
use Rattle.std.specs.List.{list_all}
use Rattle.std.proofs.lemmas.Bool.{and_parts, and_from, leb-true}
use Rattle.lay_node.specs.nodes.Facts.{Facts, all_good}
use Rattle.lay_node.specs.nodes.Types.{is_there}
use Rattle.lay_code.specs.Operators.{is_angle_op, op_level}
use Rattle.lay_code.specs.nodes.Bodies.{BodyKind, BlockBody, MacroBody, OtherBody, is_lone_body, sheds}
use Rattle.lay_code.specs.nodes.Code.{about_arm, about_branch, about_expr, about_field_expr, about_step}
use Rattle.lay_code.specs.nodes.CodeFacts.{ArmFacts, BranchFacts}
use Rattle.lay_code.specs.nodes.Exprs.{ExprFacts, StepFacts, StepKind, all_free, are_steps, arms_good, branches_good, expr_facts, first_step, is_call, is_field, is_tuple_index, may_chain, operands_placed, placed, stands, targets_placed}
use Rattle.lay_code.specs.nodes.Places.{FREE, before_op, begins, plain}
use Rattle.lay_code.specs.nodes.PlacesTable.{OtherOperands, as_node}
use Rattle.lay_code.specs.declared.blocks.Arm.{Arm}
use Rattle.lay_code.specs.declared.blocks.Branch.{Branch}
use Rattle.lay_code.specs.declared.blocks.Stmt.TheOpen.{Expr-F}
use Rattle.lay_code.specs.declared.blocks.Stmt.TheViews as views
use Rattle.lay_code.specs.declared.exprs.Expr.{Expr}
use Rattle.lay_code.specs.declared.exprs.Expr.TheVariants as expr
use Rattle.lay_code.specs.declared.exprs.FieldExpr.{FieldExpr}
use Rattle.lay_code.specs.declared.exprs.Place.{Place}
use Rattle.lay_code.specs.declared.exprs.Step.{Step}
use Rattle.lay_code.specs.declared.operators.Op.{Op}
use Rattle.lay_code.proofs.nodes.ExprsLaws as laws
use Rattle.lay_code.proofs.nodes.PlacesTable as table
use Rattle.lay_paren_defs.specs.loose.Loose.{meets_rules, loose_about, shielded_facts}
use Rattle.lay_paren_defs.specs.loose.Slots.{Any, BeforeIndex, Optional, Prefixed, Slot, Unlabelled, slot_fits}
use Rattle.lay_paren_defs.proofs.loose_lemmas.SlotLemmas.{and_false}
use Rattle.lay_paren.specs.Least.{least_made, made_of}
use Rattle.lay_paren.specs.Made.{Made, all}
use Rattle.lay_paren_defs.specs.Traversal.{base_place, base_slot, operand_at}
use Rattle.lay_paren.specs.Parts.{expr_made, free_made, operands_made, Placed, targets_made}
use Rattle.lay_paren.proofs.Choice.{chosen_written, in_place, in_slot, refuted, written}
use Rattle.lay_paren.proofs.Kept.{ArmIs, BranchIs, FieldIs, Kept, KeptArm, KeptBranch, KeptExpr, KeptField, KeptStep, Stands, expr_layer}
use Rattle.lay_paren.proofs.LooseFolds.{expr_shielded, expr_shielded_is, loose_arm, loose_branch, loose_field, loose_step}
use Rattle.lay_paren.specs.Nodes.{expr_parts, made_arm, made_block, made_branch, made_condition, made_field, made_step}
use Rattle.lay_paren.proofs.Standing as row

-- the level of a place where nothing is asked
pub lowest : 0 ≤ 14
lowest = omega arith

-- ---- parts

-- What is within a shielded node stands or doesn't, wherever the node is.
loose_within : (x : Expr) (no_struct first : Bool) → (loose_about x).within no_struct first ≡ meets_rules x
loose_within x no_struct first =
    subst (λ (z : Expr). (loose_about z).within no_struct first ≡ meets_rules z) (views.roll-out-Expr x)
    (subst (λ (F : ExprFacts). F.within no_struct first ≡ F.within false false) (sym (expr_shielded_is (views.out-Expr x))) refl)

inner : (x : Expr) (p : Place) → placed (loose_about x) p ≡ true → meets_rules x ≡ true
inner x p h =
    sym (loose_within x p.no_struct (begins p.start)) ∙ (and_parts (stands (loose_about x) p) ((loose_about x).within p.no_struct (begins p.start)) h).1

module _ (x : KeptExpr) (q : Place) (loose : placed (loose_about x.0) q ≡ true) (p : Place) (s : Slot) (low : p.level ≤ 14) where
  pub part_written : written p s (made_of x.0 p s).result ≡ true
  part_written = x.1.stands (inner x.0 q loose) p s low

  pub part_stands : placed (about_expr (made_of x.0 p s).result) p ≡ true
  part_stands = in_place (about_expr (made_of x.0 p s).result) p s part_written

  pub part_fits : slot_fits s p.no_struct (about_expr (made_of x.0 p s).result) ≡ true
  part_fits = in_slot (about_expr (made_of x.0 p s).result) p s part_written

-- ---- lists of parts

abbrev pub trees : List KeptExpr → List Expr
trees ys = map (λ (y : KeptExpr). y.0) ys

pub free_stand : (ys : List KeptExpr) → all_free (map loose_about (trees ys)) ≡ true
    → all_free (map about_expr (free_made (map made_of (trees ys))).result) ≡ true
free_stand [] h = refl
free_stand (y ∷ ys) h =
    let c = and_parts (placed (loose_about y.0) FREE) (all_free (map loose_about (trees ys))) h in
    and_from (placed (about_expr (made_of y.0 FREE Any).result) FREE) (all_free (map about_expr (free_made (map made_of (trees ys))).result))
    (part_stands y FREE c.0 FREE Any (omega arith)) (free_stand ys c.1)

-- nodes that are no expressions
pub nodes_stand : {N A L G : Type 0} (Is : N → Type 0) (loose : N → L) (made : N → Made A) (about : A → G) (was : L → Bool) (is : G → Bool)
    → ((x : N) → Is x → was (loose x) ≡ true → is (about (made x).result) ≡ true)
    → (ys : List ((x : N) × Is x)) → list_all was (map loose (map (λ (y : (x : N) × Is x). y.0) ys)) ≡ true
    → list_all is (map about (all (map made (map (λ (y : (x : N) × Is x). y.0) ys))).result) ≡ true
nodes_stand {N = N} Is loose made about was is each [] h = refl
nodes_stand {N = N} Is loose made about was is each (y ∷ ys) h =
    let c = and_parts (was (loose y.0)) (list_all was (map loose (map (λ (y : (x : N) × Is x). y.0) ys))) h in
    and_from (is (about (made y.0).result)) (list_all is (map about (all (map made (map (λ (y : (x : N) × Is x). y.0) ys))).result))
    (each y.0 y.1 c.0) (nodes_stand Is loose made about was is each ys c.1)

-- operands after operators
abbrev pub operands_of : List (Op × KeptExpr) → List (Op × Expr)
operands_of ys = map (λ (y : Op × KeptExpr). (y.0, y.1.0)) ys

abbrev pub loose_operands : List (Op × KeptExpr) → List (Op × ExprFacts)
loose_operands ys = map (λ (x : Op × Expr). (x.0, loose_about x.1)) (operands_of ys)

abbrev pub made_operands : List (Op × KeptExpr) → List (Op × Placed)
made_operands ys = map (λ (x : Op × Expr). (x.0, made_of x.1)) (operands_of ys)

others_stand : (p : Place) (level : ℕ) → level ≤ 10 → (ys : List (Op × KeptExpr)) → operands_placed level false (loose_operands ys) ≡ true
    → OtherOperands p level (map laws.behind_op (operands_made p level (made_operands ys)).result)
others_stand p level low [] h = tt
others_stand p level low (y ∷ []) h =
    let a = and_parts _ _ h in
    let b = and_parts _ _ a.0 in
    (b.0, part_stands y.1 (plain (suc level) false) b.1 (as_node p (suc level)) Any (omega (arith, low)))
others_stand p level low (y ∷ z ∷ more) h =
    let a = and_parts _ _ h in
    let b = and_parts _ _ a.0 in (
      b.0,
      part_stands y.1 (before_op (suc level) false false (is_angle_op z.0)) b.1
          (before_op (suc level) p.no_struct false (is_angle_op z.0)) Any (omega (arith, low)),
      others_stand p level low (z ∷ more) a.1,
    )

once_stands : (p : Place) (level : ℕ) (ys : List (Op × KeptExpr)) → may_chain level (loose_operands ys) ≡ true
    → may_chain level (map laws.behind_op (operands_made p level (made_operands ys)).result) ≡ true
once_stands p level [] h = h
once_stands p level (y ∷ []) h = refl
once_stands p level (y ∷ z ∷ more) h = h

-- targets of an assignment
abbrev pub loose_targets : List (KeptExpr × Op) → List (ExprFacts × Op)
loose_targets ys = map (λ (x : Expr × Op). (loose_about x.0, x.1)) (map (λ (y : KeptExpr × Op). (y.0.0, y.1)) ys)

abbrev pub made_targets : List (KeptExpr × Op) → List (Placed × Op)
made_targets ys = map (λ (x : Expr × Op). (made_of x.0, x.1)) (map (λ (y : KeptExpr × Op). (y.0.0, y.1)) ys)

targets_stand : (p : Place) (first : Bool) (ys : List (KeptExpr × Op)) → targets_placed (loose_targets ys) false false ≡ true
    → targets_placed (map laws.before_op (targets_made p first (made_targets ys)).result) p.no_struct first ≡ true
targets_stand p first [] h = refl
targets_stand p first (y ∷ more) h =
    let a = and_parts _ _ h in
    let b = and_parts _ _ a.0 in
    and_from _ _
    (and_from _ _ b.0
    (part_stands y.0 (before_op 1 false false false) b.1 (before_op 1 p.no_struct first false) Any (omega arith)))
    (targets_stand p false more a.1)

targets_there : (p : Place) (first : Bool) (ys : List (KeptExpr × Op)) → is_there (loose_targets ys) ≡ true
    → is_there (map laws.before_op (targets_made p first (made_targets ys)).result) ≡ true
targets_there p first [] h = h
targets_there p first (y ∷ more) h = refl

-- steps
abbrev pub step_trees : List KeptStep → List Step
step_trees ys = map (λ (y : KeptStep). y.0) ys

abbrev pub made_steps : List KeptStep → Made (List Step)
made_steps ys = all (map made_step (step_trees ys))

abbrev pub told_steps : List KeptStep → List StepFacts
told_steps ys = map about_step (made_steps ys).result

steps_there : (ys : List KeptStep) → is_there (map loose_step (step_trees ys)) ≡ true → is_there (told_steps ys) ≡ true
steps_there [] h = h
steps_there (y ∷ ys) h = refl

steps_stand : (ys : List KeptStep) → are_steps (map loose_step (step_trees ys)) ≡ true → are_steps (told_steps ys) ≡ true
steps_stand [] h = refl
steps_stand (y ∷ []) h = y.1.good h
steps_stand (y ∷ z ∷ more) h =
    let a = and_parts _ _ h in
    let b = and_parts _ _ a.0 in
    and_from _ _
    (and_from _ _ (y.1.good b.0)
    (ap₂ (λ (j k : StepKind). not (is_field j && is_call k)) y.1.kind z.1.kind ∙ b.1)) (steps_stand (z ∷ more) a.1)

-- branches and arms
abbrev pub made_branches : List KeptBranch → Made (List Branch)
made_branches ys = all (map made_branch (map (λ (y : KeptBranch). y.0) ys))

branches_there : (ys : List KeptBranch) → is_there (map loose_branch (map (λ (y : KeptBranch). y.0) ys)) ≡ true
    → is_there (map about_branch (made_branches ys).result) ≡ true
branches_there [] h = h
branches_there (y ∷ ys) h = refl

branches_stand : (ys : List KeptBranch) → branches_good (map loose_branch (map (λ (y : KeptBranch). y.0) ys)) ≡ true
    → branches_good (map about_branch (made_branches ys).result) ≡ true
branches_stand ys =
    nodes_stand BranchIs loose_branch made_branch about_branch (λ (F : BranchFacts). F.good) (λ (F : BranchFacts). F.good)
    (λ x is. is.good) ys

abbrev pub made_arms : List KeptArm → Made (List Arm)
made_arms ys = all (map made_arm (map (λ (y : KeptArm). y.0) ys))

arms_stand : (ys : List KeptArm) → arms_good (map loose_arm (map (λ (y : KeptArm). y.0) ys)) ≡ true
    → arms_good (map about_arm (made_arms ys).result) ≡ true
arms_stand ys =
    nodes_stand ArmIs loose_arm made_arm about_arm (λ (F : ArmFacts). F.good) (λ (F : ArmFacts). F.good) (λ x is. is.good) ys

-- ---- slots

and_true : (a : Bool) → not a ≡ true → not (a && true) ≡ true
and_true true h = h
and_true false h = refl

base_fits : (index no_struct : Bool) (F : ExprFacts) → slot_fits (if index then BeforeIndex else Any) no_struct F ≡ true
    → not (F.is_number && index) ≡ true
base_fits true no_struct F h = and_true F.is_number h
base_fits false no_struct F h = and_false F.is_number

-- a body that keeps its braces
shed_lone : (kind : BodyKind) (no_struct : Bool) → sheds kind no_struct ≡ true → is_lone_body kind ≡ true
shed_lone MacroBody no_struct h = h
shed_lone (BlockBody lone structless) no_struct h = (and_parts _ _ h).0
shed_lone OtherBody no_struct h = h

lone_shed : (kind : BodyKind) → is_lone_body kind ≡ true → sheds kind false ≡ true
lone_shed MacroBody h = h
lone_shed (BlockBody lone structless) h = and_from lone true h refl
lone_shed OtherBody h = h

-- ---- each kind

abbrev Built : Kept Expr-F → Place → Type 0
Built y p = row.StandsByRoot p (expr_made p (expr_parts (expr_layer y))).result

-- what is within the node, where its parts are shielded
abbrev Inside : Kept Expr-F → Type 0
Inside y = (expr_facts (expr_shielded (expr_layer y))).within false false ≡ true

abbrev pub made_fields : List KeptField → Made (List FieldExpr)
made_fields ys = all (map made_field (map (λ (y : KeptField). y.0) ys))

fields_stand : (ys : List KeptField) → all_good (map loose_field (map (λ (y : KeptField). y.0) ys)) ≡ true
    → all_good (map about_field_expr (made_fields ys).result) ≡ true
fields_stand ys =
    nodes_stand FieldIs loose_field made_field about_field_expr (λ (F : Facts). F.good) (λ (F : Facts). F.good) (λ x is. is.good) ys

built : (y : Kept Expr-F) → Inside y → (p : Place) → Built y p
built (Expr-F.Lit l) w p = row.by_root (expr.Lit l) (expr_facts (Expr-F.Lit l)) p (laws.expr_lit_is l) (table.literal_row p l) w
built (Expr-F.Path path) w p =
    row.by_root (expr.Path path) (expr_facts (Expr-F.Path path)) p (laws.expr_path_is path) (table.path_row p path w) w
built Expr-F.Underscore w p =
    row.by_root expr.Underscore (expr_facts Expr-F.Underscore) p laws.expr_underscore_is (table.underscore_row p) w
built (Expr-F.Expr::Call call) w p =
    row.by_root (expr.Call call) (expr_facts (Expr-F.Expr::Call call)) p (laws.expr_call_is call) (table.call_row p call) w
built (Expr-F.Paren x) w p = row.paren_stands p (made_of x.0 FREE Any).result (part_stands x FREE w FREE Any (omega arith))
built (Expr-F.Continue label) w p =
    row.by_root (expr.Continue label) (expr_facts (Expr-F.Continue label)) p (laws.expr_continue_is label) (table.continue_row p label) w
built (Expr-F.Tuple ys) w p = row.tuple_stands p (free_made (map made_of (trees ys))).result (free_stand ys w)
built (Expr-F.Array ys) w p = row.array_stands p (free_made (map made_of (trees ys))).result (free_stand ys w)
built (Expr-F.Repeat x length) w p =
    let a = and_parts _ _ w in
    let b = and_parts _ _ a.0 in
    row.repeat_stands p (made_of x.0 FREE Any).result length
    (and_from _ _ (and_from _ _ (part_stands x FREE b.0 FREE Any (omega arith)) b.1) a.1)
built (Expr-F.Expr::Struct path fields None) w p =
    let a = and_parts _ _ w in
    let b = and_parts _ _ a.0 in
    row.struct_stands p path (made_fields fields).result None (and_from _ _ (and_from _ _ b.0 (fields_stand fields b.1)) refl)
built (Expr-F.Expr::Struct path fields (Some None)) w p =
    let a = and_parts _ _ w in
    let b = and_parts _ _ a.0 in
    row.struct_stands p path (made_fields fields).result (Some None) (and_from _ _ (and_from _ _ b.0 (fields_stand fields b.1)) refl)
built (Expr-F.Expr::Struct path fields (Some (Some x))) w p =
    let a = and_parts _ _ w in
    let b = and_parts _ _ a.0 in
    row.struct_stands p path (made_fields fields).result (Some (Some (made_of x.0 FREE Any).result))
    (and_from _ _ (and_from _ _ b.0 (fields_stand fields b.1)) (part_stands x FREE a.1 FREE Any (omega arith)))
built (Expr-F.Chain x []) w p = absurd (true≢false (sym w))
built (Expr-F.Chain x (o ∷ more)) w p =
    let level = op_level o.0 in
    let a = and_parts _ _ w in
    let b = and_parts _ _ a.0 in
    let c = and_parts _ _ b.0 in
    let low : level ≤ 10 = leb-true level 10 (and_parts _ _ c.0).1 in
    row.chain_stands p (made_of x.0 (before_op (suc level) p.no_struct (begins p.start) (is_angle_op o.0)) Any).result
    (o.0, (made_of o.1.0 (operand_at p level (made_operands more)) Any).result) (operands_made p level (made_operands more)).result
    c.0 (once_stands p level (o ∷ more) c.1)
    (part_stands x (before_op (suc level) false false (is_angle_op o.0)) b.1
    (before_op (suc level) p.no_struct (begins p.start) (is_angle_op o.0)) Any (omega (arith, low)))
    (others_stand p level low (o ∷ more) a.1)
built (Expr-F.Cast x types) w p =
    let place = before_op 12 p.no_struct (begins p.start) false in
    let a = and_parts _ _ w in
    let b = and_parts _ _ a.0 in
    row.cast_stands p (made_of x.0 place Any).result types
    (and_from _ _ (and_from _ _ b.0 (part_stands x (before_op 12 false false false) b.1 place Any (omega arith))) a.1)
built (Expr-F.Unary ps x) w p =
    let a = and_parts _ _ w in
    let b = and_parts _ _ a.0 in
    row.unary_stands p ps (made_of x.0 (as_node p 12) Prefixed).result b.0
    (part_stands x (plain 12 false) b.1 (as_node p 12) Prefixed (omega arith))
    (part_fits x (plain 12 false) b.1 (as_node p 12) Prefixed (omega arith))
built (Expr-F.Range None inclusive None) w p = row.endless_stands p None inclusive w
built (Expr-F.Range (Some x) inclusive None) w p =
    let place = before_op 2 p.no_struct (begins p.start) false in
    let a = and_parts _ _ w in
    row.endless_stands p (Some (made_of x.0 place Any).result) inclusive
    (and_from _ _ (part_stands x (before_op 2 false false false) a.0 place Any (omega arith)) a.1)
built (Expr-F.Range None inclusive (Some y)) w p =
    let a = and_parts _ _ w in
    row.range_stands p None inclusive (made_of y.0 (as_node p 2) Optional).result refl
    (part_stands y (plain 2 false) a.0 (as_node p 2) Optional (omega arith))
    (part_fits y (plain 2 false) a.0 (as_node p 2) Optional (omega arith))
built (Expr-F.Range (Some x) inclusive (Some y)) w p =
    let place = before_op 2 p.no_struct (begins p.start) false in
    let a = and_parts _ _ w in
    let b = and_parts _ _ a.1 in
    row.range_stands p (Some (made_of x.0 place Any).result) inclusive (made_of y.0 (as_node p 2) Optional).result
    (part_stands x (before_op 2 false false false) a.0 place Any (omega arith))
    (part_stands y (plain 2 false) b.0 (as_node p 2) Optional (omega arith))
    (part_fits y (plain 2 false) b.0 (as_node p 2) Optional (omega arith))
built (Expr-F.Assign targets x) w p =
    let a = and_parts _ _ w in
    let b = and_parts _ _ a.0 in
    row.assign_stands p (targets_made p (begins p.start) (made_targets targets)).result (made_of x.0 (as_node p 1) Any).result
    (targets_there p (begins p.start) targets b.0) (targets_stand p (begins p.start) targets b.1)
    (part_stands x (plain 1 false) a.1 (as_node p 1) Any (omega arith))
built (Expr-F.Postfix x steps) w p =
    let told = told_steps steps in
    let made = (made_of x.0 (base_place p told) (base_slot told)).result in
    let a = and_parts _ _ w in
    let b = and_parts _ _ (and_parts _ _ a.0).0 in
    row.postfix_stands p made (made_steps steps).result
    (and_from _ _
    (and_from _ _ (and_from _ _ (steps_there steps b.0) (steps_stand steps b.1))
    (base_fits (first_step is_tuple_index told) p.no_struct (about_expr made)
    (part_fits x (before_op 14 false false false) a.1 (base_place p told) (base_slot told) (omega arith))))
    (part_stands x (before_op 14 false false false) a.1 (base_place p told) (base_slot told) (omega arith)))
built (Expr-F.Block label b) w p = row.block_stands p label (made_block b.0).result (b.1.good w)
built (Expr-F.Unsafe b) w p = row.unsafe_stands p (made_block b.0).result (b.1.good w)
built (Expr-F.ConstBlock b) w p = row.const_block_stands p (made_block b.0).result (b.1.good w)
built (Expr-F.Async moves b) w p = row.async_stands p moves (made_block b.0).result (b.1.good w)
built (Expr-F.If branches None) w p =
    let a = and_parts _ _ w in
    let b = and_parts _ _ a.0 in
    row.if_stands p (made_branches branches).result None
    (and_from _ _ (and_from _ _ (branches_there branches b.0) (branches_stand branches b.1)) refl)
built (Expr-F.If branches (Some c)) w p =
    let a = and_parts _ _ w in
    let b = and_parts _ _ a.0 in
    row.if_stands p (made_branches branches).result (Some (made_block c.0).result)
    (and_from _ _ (and_from _ _ (branches_there branches b.0) (branches_stand branches b.1)) (c.1.good a.1))
built (Expr-F.Match x attrs arms) w p =
    let a = and_parts _ _ w in
    let b = and_parts _ _ a.0 in
    row.match_stands p (made_of x.0 (plain 0 true) Any).result attrs (made_arms arms).result
    (and_from _ _ (and_from _ _ (part_stands x (plain 0 true) b.0 (plain 0 true) Any (omega arith)) b.1) (arms_stand arms a.1))
built (Expr-F.Loop label b) w p = row.loop_stands p label (made_block b.0).result (b.1.good w)
built (Expr-F.While label c b) w p =
    let a = and_parts _ _ w in
    row.while_stands p label (made_condition c.0).result (made_block b.0).result (and_from _ _ (c.1.good a.0) (b.1.good a.1))
built (Expr-F.For label pat x b) w p =
    let a = and_parts _ _ w in
    let c = and_parts _ _ a.0 in
    row.for_stands p label pat (made_of x.0 (plain 0 true) Any).result (made_block b.0).result
    (and_from _ _ (and_from _ _ c.0 (part_stands x (plain 0 true) c.1 (plain 0 true) Any (omega arith))) (b.1.good a.1))
built (Expr-F.Closure is_async moves params x) w p =
    let place = plain 0 p.no_struct in
    let a = and_parts _ _ w in
    let b = and_parts _ _ a.0 in
    let made = (made_of x.0 place Any).result in
    row.closure_stands p is_async moves params made
    (and_from _ _ (and_from _ _ b.0 (part_stands x (plain 0 false) b.1 place Any (omega arith)))
    (refuted (sheds (about_expr made).kind p.no_struct) (sheds (loose_about x.0).kind false)
    (λ h. lone_shed (loose_about x.0).kind (x.1.whole.lone place Any (shed_lone (about_expr made).kind p.no_struct h))) a.1))
built (Expr-F.TypedClosure is_async moves params output b) w p =
    let a = and_parts _ _ w in
    row.typed_closure_stands p is_async moves params output (made_block b.0).result (and_from _ _ a.0 (b.1.good a.1))
built (Expr-F.Return None) w p = row.return_stands p None refl
built (Expr-F.Return (Some x)) w p =
    let place = plain 0 p.no_struct in
    let a = and_parts _ _ w in
    row.return_stands p (Some (made_of x.0 place Optional).result)
    (and_from _ _ (part_stands x (plain 0 false) a.0 place Optional (omega arith)) (part_fits x (plain 0 false) a.0 place Optional (omega arith)))
built (Expr-F.Break None None) w p = row.break_stands p None None refl
built (Expr-F.Break (Some label) None) w p = row.break_stands p (Some label) None refl
built (Expr-F.Break None (Some x)) w p =
    let place = plain 0 p.no_struct in
    let a = and_parts _ _ (and_parts _ _ w).0 in
    let fits = and_parts _ _ (part_fits x (plain 0 false) a.0 place Unlabelled (omega arith)) in
    row.break_stands p None (Some (made_of x.0 place Unlabelled).result)
    (and_from _ _ (and_from _ _ (part_stands x (plain 0 false) a.0 place Unlabelled (omega arith)) fits.0) fits.1)
built (Expr-F.Break (Some label) (Some x)) w p =
    let place = plain 0 p.no_struct in
    let a = and_parts _ _ (and_parts _ _ w).0 in
    row.break_stands p (Some label) (Some (made_of x.0 place Optional).result)
    (and_from _ _
    (and_from _ _ (part_stands x (plain 0 false) a.0 place Optional (omega arith))
    (part_fits x (plain 0 false) a.0 place Optional (omega arith))) refl)

-- It fits where its root may, and what is put in parentheses stands in FREE.
pub layer_stands : (y : Kept Expr-F) → Stands (shielded_facts (expr_shielded (expr_layer y))) (least_made (expr_parts (expr_layer y)))
layer_stands y loose p s low =
    let made = expr_parts (expr_layer y) in
    let F = expr_facts (expr_shielded (expr_layer y)) in
    let w = row.within F FREE loose in
    chosen_written (expr_made p made) (expr_made FREE made) p s low (built y w p)
    (built y w FREE (row.may_free (about_expr (expr_made FREE made).result)))
