-- Each expression whose parts are as good as they are loose is so: kind by kind.
use Rattle.std.proofs.Common.{◌≡◌, ℕ, suc, ◌==◌, Bool, true, false, not, ◌&&◌, List, [], ◌∷◌, map, Some, None, refl, sym, ap, ap₂, subst}
use Rattle.std.specs.List.{list_all}
use Rattle.lay_node.specs.nodes.Attr.{are_attrs, is_empty}
use Rattle.lay_node.specs.nodes.Facts.{Facts, all_good}
use Rattle.lay_node.specs.nodes.Patterns.{about_pat, pat_good}
use Rattle.lay_node.specs.nodes.Types.{about_path, about_type, good_at, is_there}
use Rattle.lay_node.specs.tokens.Lexed.{is_token_list}
use Rattle.lay_node.specs.declared.patterns.PatPlace.TheVariants.{Alternatives}
use Rattle.lay_node.specs.declared.types.PathStyle.TheVariants.{Code}
use Rattle.lay_node.specs.declared.types.TypePlace.TheVariants.{NoBounds}
use Rattle.lay_code.specs.Operators.{is_angle_op, op_level}
use Rattle.lay_code.specs.nodes.Bodies.{is_lone_body, is_macro}
use Rattle.lay_code.specs.nodes.Code.{about_arm, about_branch, about_expr, about_field_expr, about_step}
use Rattle.lay_code.specs.nodes.CodeFacts.{ArmFacts, BranchFacts}
use Rattle.lay_code.specs.nodes.Exprs.{ExprFacts, StepFacts, StepKind, arms_good, are_steps, branches_good, break_placed, end_placed, expr_facts, first_step, is_call, is_chain_level, is_closure_param, is_dotted, is_field, is_tuple_index, may_chain, operand_placed, operands_placed, targets_placed, types_good}
use Rattle.lay_code.specs.declared.blocks.Arm.{Arm}
use Rattle.lay_code.specs.declared.blocks.Branch.{Branch}
use Rattle.lay_code.specs.declared.blocks.Stmt.TheOpen.{Expr-F}
use Rattle.lay_code.specs.declared.exprs.Expr.{Expr}
use Rattle.lay_code.specs.declared.exprs.Expr.TheVariants as expr
use Rattle.lay_code.specs.declared.exprs.FieldExpr.{FieldExpr}
use Rattle.lay_code.specs.declared.exprs.Step.{Step}
use Rattle.lay_code.specs.declared.operators.Op.{Op}
use Rattle.lay_code.proofs.nodes.ExprsLaws as laws
use Rattle.lay_paren_defs.specs.Enclosed.{body_part, enclose_arm, enclose_block, enclose_branch, enclose_condition, enclose_field, enclose_step, expr_shell, operand_part, part, target_part}
use Rattle.lay_paren_defs.specs.loose.Loose.{loose_about}
use Rattle.lay_paren.proofs.LooseFolds.{expr_shielded, loose_arm, loose_branch, loose_field, loose_step}
use Rattle.lay_paren.proofs.loose_laws_lemmas.Kept.{ArmIs, BranchIs, FieldIs, Kept, KeptArm, KeptBranch, KeptExpr, KeptField, KeptStep, expr_layer}
use Rattle.lay_paren.proofs.loose_laws_lemmas.PartLemmas.{all_placed, asked, at, at_free, before, body_free, body_sheds, nodes_good, parts}

both : (a b c d : Bool) → a ≡ b → c ≡ d → (a && c) ≡ (b && d)
both a b c d e f = ap₂ (λ (x y : Bool). x && y) e f

-- ---- lists of parts

abbrev pub operand_trees : List (Op × KeptExpr) → List (Op × Expr)
operand_trees ys = map (λ (y : Op × KeptExpr). (y.0, y.1.0)) ys

abbrev pub operands : List (Op × KeptExpr) → List (Op × Expr)
operands ys = map (operand_part true) (operand_trees ys)

abbrev told_operands : List (Op × KeptExpr) → List (Op × ExprFacts)
told_operands ys = map laws.behind_op (operands ys)

abbrev loose_operands : List (Op × KeptExpr) → List (Op × ExprFacts)
loose_operands ys = map (λ (x : Op × Expr). (x.0, loose_about x.1)) (operand_trees ys)

operands_alike : (level : ℕ) (ys : List (Op × KeptExpr))
    → operands_placed level false (told_operands ys) ≡ operands_placed level false (loose_operands ys)
operands_alike level [] = refl
operands_alike level (y ∷ []) =
    ap (λ (b : Bool). (op_level y.0 == level) && b && true)
    (at y.1 (suc level) false)
operands_alike level (y ∷ z ∷ more) =
    ap₂ (λ (b c : Bool). (op_level y.0 == level) && b && c) (before y.1 (suc level) false (is_angle_op z.0)) (operands_alike level (z ∷ more))

chain_alike : (level : ℕ) (ys : List (Op × KeptExpr)) → may_chain level (told_operands ys) ≡ may_chain level (loose_operands ys)
chain_alike level [] = refl
chain_alike level (y ∷ []) = refl
chain_alike level (y ∷ z ∷ more) = refl

abbrev pub target_trees : List (KeptExpr × Op) → List (Expr × Op)
target_trees ys = map (λ (y : KeptExpr × Op). (y.0.0, y.1)) ys

abbrev pub targets : List (KeptExpr × Op) → List (Expr × Op)
targets ys = map (target_part true) (target_trees ys)

abbrev told_targets : List (KeptExpr × Op) → List (ExprFacts × Op)
told_targets ys = map laws.before_op (targets ys)

abbrev loose_targets : List (KeptExpr × Op) → List (ExprFacts × Op)
loose_targets ys = map (λ (x : Expr × Op). (loose_about x.0, x.1)) (target_trees ys)

targets_alike : (first : Bool) (ys : List (KeptExpr × Op))
    → targets_placed (told_targets ys) false first ≡ targets_placed (loose_targets ys) false false
targets_alike first [] = refl
targets_alike first (y ∷ more) =
    ap₂ (λ (b c : Bool). (op_level y.1 == 0) && b && c) (before y.0 1 first false) (targets_alike false more)

targets_there : (ys : List (KeptExpr × Op)) → is_there (told_targets ys) ≡ is_there (loose_targets ys)
targets_there [] = refl
targets_there (y ∷ ys) = refl

abbrev pub step_trees : List KeptStep → List Step
step_trees ys = map (λ (y : KeptStep). y.0) ys

abbrev pub steps : List KeptStep → List Step
steps ys = map (enclose_step true) (step_trees ys)

abbrev told_steps : List KeptStep → List StepFacts
told_steps ys = map about_step (steps ys)

abbrev loose_steps : List KeptStep → List StepFacts
loose_steps ys = map loose_step (step_trees ys)

steps_there : (ys : List KeptStep) → is_there (told_steps ys) ≡ is_there (loose_steps ys)
steps_there [] = refl
steps_there (y ∷ ys) = refl

steps_alike : (ys : List KeptStep) → are_steps (told_steps ys) ≡ are_steps (loose_steps ys)
steps_alike [] = refl
steps_alike (y ∷ []) = y.1.good
steps_alike (y ∷ z ∷ more) =
    both _ _ _ _
    (both _ _ _ _ y.1.good (ap₂ (λ (j k : StepKind). not (is_field j && is_call k)) y.1.kind z.1.kind)) (steps_alike (z ∷ more))

abbrev pub field_trees : List KeptField → List FieldExpr
field_trees ys = map (λ (y : KeptField). y.0) ys

abbrev pub fields : List KeptField → List FieldExpr
fields ys = map (enclose_field true) (field_trees ys)

fields_alike : (ys : List KeptField) → all_good (map about_field_expr (fields ys)) ≡ all_good (map loose_field (field_trees ys))
fields_alike =
    nodes_good FieldIs loose_field (enclose_field true) about_field_expr (λ (F : Facts). F.good) (λ (F : Facts). F.good) (λ x is. is.good)

abbrev pub branch_trees : List KeptBranch → List Branch
branch_trees ys = map (λ (y : KeptBranch). y.0) ys

abbrev pub branches : List KeptBranch → List Branch
branches ys = map (enclose_branch true) (branch_trees ys)

branches_alike : (ys : List KeptBranch) → branches_good (map about_branch (branches ys)) ≡ branches_good (map loose_branch (branch_trees ys))
branches_alike =
    nodes_good BranchIs loose_branch (enclose_branch true) about_branch (λ (F : BranchFacts). F.good) (λ (F : BranchFacts). F.good) (λ x is. is.good)

branches_there : (ys : List KeptBranch) → is_there (map about_branch (branches ys)) ≡ is_there (map loose_branch (branch_trees ys))
branches_there [] = refl
branches_there (y ∷ ys) = refl

abbrev pub arm_trees : List KeptArm → List Arm
arm_trees ys = map (λ (y : KeptArm). y.0) ys

abbrev pub arms : List KeptArm → List Arm
arms ys = map (enclose_arm true) (arm_trees ys)

arms_alike : (ys : List KeptArm) → arms_good (map about_arm (arms ys)) ≡ arms_good (map loose_arm (arm_trees ys))
arms_alike = nodes_good ArmIs loose_arm (enclose_arm true) about_arm (λ (F : ArmFacts). F.good) (λ (F : ArmFacts). F.good) (λ x is. is.good)

-- ---- each kind

-- The facts about an enclosed expression are those about the one with shielded parts.
pub record Alike (told loose : ExprFacts) : Type 0 where
  pub within : (first : Bool) → told.within false first ≡ loose.within false false
  pub block_like : told.block_like ≡ loose.block_like
  pub macro : is_macro told.kind ≡ is_macro loose.kind
  pub lone : is_lone_body told.kind ≡ is_lone_body loose.kind

like : (x : Expr) (F loose : ExprFacts) → about_expr x ≡ F → ((first : Bool) → F.within false first ≡ loose.within false false)
    → F.block_like ≡ loose.block_like → is_macro F.kind ≡ is_macro loose.kind → is_lone_body F.kind ≡ is_lone_body loose.kind
    → Alike (about_expr x) loose
like x F loose e within block_like macro lone =
    subst (λ (G : ExprFacts). Alike G loose) (sym e) (record { within = within; block_like = block_like; macro = macro; lone = lone })

pub expr_alike : (y : Kept Expr-F) → Alike (about_expr (expr_shell true (expr_layer y))) (expr_facts (expr_shielded (expr_layer y)))
expr_alike (Expr-F.Lit l) = like (expr.Lit l) _ _ (laws.expr_lit_is l) (λ first. refl) refl refl refl
expr_alike (Expr-F.Path path) = like (expr.Path path) _ _ (laws.expr_path_is path) (λ first. refl) refl refl refl
expr_alike Expr-F.Underscore = like expr.Underscore _ _ laws.expr_underscore_is (λ first. refl) refl refl refl
expr_alike (Expr-F.Expr::Call call) = like (expr.Call call) _ _ (laws.expr_call_is call) (λ first. refl) refl refl refl
expr_alike (Expr-F.Paren x) =
    let z = part true x.0 in
    like (expr.Paren z) _ _ (laws.expr_paren_is z) (λ first. at_free x) refl refl refl
expr_alike (Expr-F.Continue label) = like (expr.Continue label) _ _ (laws.expr_continue_is label) (λ first. refl) refl refl refl
expr_alike (Expr-F.Tuple ys) = like (expr.Tuple (parts ys)) _ _ (laws.expr_tuple_is (parts ys)) (λ first. all_placed ys) refl refl refl
expr_alike (Expr-F.Array ys) = like (expr.Array (parts ys)) _ _ (laws.expr_array_is (parts ys)) (λ first. all_placed ys) refl refl refl
expr_alike (Expr-F.Repeat x length) =
    let z = part true x.0 in
    like (expr.Repeat z length) _ _ (laws.expr_repeat_is z length)
    (λ first. ap (λ (b : Bool). b && not (is_empty length) && is_token_list length) (at_free x)) refl refl refl
expr_alike (Expr-F.Expr::Struct path ys None) =
    like (expr.Struct path (fields ys) None) _ _ (laws.expr_struct_is path (fields ys) None)
    (λ first. ap (λ (b : Bool). (about_path path Code).good && b && true) (fields_alike ys)) refl refl refl
expr_alike (Expr-F.Expr::Struct path ys (Some None)) =
    like (expr.Struct path (fields ys) (Some None)) _ _ (laws.expr_struct_is path (fields ys) (Some None))
    (λ first. ap (λ (b : Bool). (about_path path Code).good && b && true) (fields_alike ys)) refl refl refl
expr_alike (Expr-F.Expr::Struct path ys (Some (Some x))) =
    let z = part true x.0 in
    like (expr.Struct path (fields ys) (Some (Some z))) _ _ (laws.expr_struct_is path (fields ys) (Some (Some z)))
    (λ first. ap₂ (λ (b c : Bool). (about_path path Code).good && b && c) (fields_alike ys) (at_free x)) refl refl refl
expr_alike (Expr-F.Chain x []) =
    let z = part true x.0 in
    like (expr.Chain z []) _ _ (laws.expr_chain_is z []) (λ first. refl) refl refl refl
expr_alike (Expr-F.Chain x (o ∷ more)) =
    let z = part true x.0 in
    let level = op_level o.0 in
    like (expr.Chain z (operands (o ∷ more))) _ _ (laws.expr_chain_is z (operands (o ∷ more)))
    (λ first. both _ _ _ _
    (both _ _ _ _ (ap (λ (b : Bool). is_chain_level level && b) (chain_alike level (o ∷ more))) (before x (suc level) first (is_angle_op o.0)))
    (operands_alike level (o ∷ more))) refl refl refl
expr_alike (Expr-F.Cast x types) =
    let z = part true x.0 in
    like (expr.Cast z types) _ _ (laws.expr_cast_is z types)
    (λ first. ap (λ (b : Bool). is_there types && b && types_good (map about_type types)) (before x 12 first false)) refl refl refl
expr_alike (Expr-F.Unary ps x) =
    let z = part true x.0 in
    like (expr.Unary ps z) _ _ (laws.expr_unary_is ps z)
    (λ first. asked x (λ F. (expr_facts (Expr-F.Unary ps F)).within false false) (λ F. (expr_facts (Expr-F.Unary ps F)).within false false)
    (λ a b stands block_like kind. refl)) refl refl refl
expr_alike (Expr-F.Range None inclusive None) =
    like (expr.Range None inclusive None) _ _ (laws.expr_range_is None inclusive None) (λ first. refl) refl refl refl
expr_alike (Expr-F.Range (Some x) inclusive None) =
    let z = part true x.0 in
    like (expr.Range (Some z) inclusive None) _ _ (laws.expr_range_is (Some z) inclusive None)
    (λ first. ap (λ (b : Bool). b && not inclusive) (before x 2 first false)) refl refl refl
expr_alike (Expr-F.Range None inclusive (Some y)) =
    let end = part true y.0 in
    like (expr.Range None inclusive (Some end)) _ _ (laws.expr_range_is None inclusive (Some end))
    (λ first. asked y (λ F. end_placed (Some F) inclusive false) (λ F. end_placed (Some F) inclusive false)
    (λ a b stands block_like kind. refl)) refl refl refl
expr_alike (Expr-F.Range (Some x) inclusive (Some y)) =
    let z = part true x.0 in
    let end = part true y.0 in
    like (expr.Range (Some z) inclusive (Some end)) _ _ (laws.expr_range_is (Some z) inclusive (Some end))
    (λ first. both _ _ _ _ (before x 2 first false)
    (asked y (λ F. end_placed (Some F) inclusive false) (λ F. end_placed (Some F) inclusive false)
    (λ a b stands block_like kind. refl))) refl refl refl
expr_alike (Expr-F.Assign ys x) =
    let z = part true x.0 in
    like (expr.Assign (targets ys) z) _ _ (laws.expr_assign_is (targets ys) z)
    (λ first. both _ _ _ _ (both _ _ _ _ (targets_there ys) (targets_alike first ys))
    (at x 1 false)) refl refl refl
expr_alike (Expr-F.Postfix x ys) =
    let z = part true x.0 in
    like (expr.Postfix z (steps ys)) _ _ (laws.expr_postfix_is z (steps ys))
    (λ first. both _ _ _ _
    (both _ _ _ _ (both _ _ _ _ (steps_there ys) (steps_alike ys))
    (asked x (λ F. not (F.is_number && first_step is_tuple_index (told_steps ys))) (λ F. not (F.is_number && first_step is_tuple_index (loose_steps ys)))
    (λ a b stands block_like kind. refl)))
    (before x 14 (first && not (first_step is_dotted (told_steps ys))) false)) refl refl refl
expr_alike (Expr-F.Block None b) =
    let c = enclose_block true b.0 in
    like (expr.Block None c) _ _ (laws.expr_block_is None c) (λ first. b.1.good) refl refl b.1.lone
expr_alike (Expr-F.Block (Some label) b) =
    let c = enclose_block true b.0 in
    like (expr.Block (Some label) c) _ _ (laws.expr_block_is (Some label) c) (λ first. b.1.good) refl refl refl
expr_alike (Expr-F.Unsafe b) =
    let c = enclose_block true b.0 in
    like (expr.Unsafe c) _ _ (laws.expr_unsafe_is c) (λ first. b.1.good) refl refl refl
expr_alike (Expr-F.ConstBlock b) =
    let c = enclose_block true b.0 in
    like (expr.ConstBlock c) _ _ (laws.expr_const_block_is c) (λ first. b.1.good) refl refl refl
expr_alike (Expr-F.Async moves b) =
    let c = enclose_block true b.0 in
    like (expr.Async moves c) _ _ (laws.expr_async_is moves c) (λ first. b.1.good) refl refl refl
expr_alike (Expr-F.If ys None) =
    like (expr.If (branches ys) None) _ _ (laws.expr_if_is (branches ys) None)
    (λ first. both _ _ _ _ (both _ _ _ _ (branches_there ys) (branches_alike ys)) refl) refl refl refl
expr_alike (Expr-F.If ys (Some b)) =
    let c = enclose_block true b.0 in
    like (expr.If (branches ys) (Some c)) _ _ (laws.expr_if_is (branches ys) (Some c))
    (λ first. both _ _ _ _ (both _ _ _ _ (branches_there ys) (branches_alike ys)) b.1.good) refl refl refl
expr_alike (Expr-F.Match x attrs ys) =
    let z = part true x.0 in
    like (expr.Match z attrs (arms ys)) _ _ (laws.expr_match_is z attrs (arms ys))
    (λ first. ap₂ (λ (b c : Bool). b && are_attrs true attrs && c)
    (at x 0 true) (arms_alike ys)) refl refl refl
expr_alike (Expr-F.Loop label b) =
    let c = enclose_block true b.0 in
    like (expr.Loop label c) _ _ (laws.expr_loop_is label c) (λ first. b.1.good) refl refl refl
expr_alike (Expr-F.While label c b) =
    let condition = enclose_condition true c.0 in
    let d = enclose_block true b.0 in
    like (expr.While label condition d) _ _ (laws.expr_while_is label condition d) (λ first. both _ _ _ _ c.1.good b.1.good) refl refl refl
expr_alike (Expr-F.For label pat x b) =
    let z = part true x.0 in
    let c = enclose_block true b.0 in
    like (expr.For label pat z c) _ _ (laws.expr_for_is label pat z c)
    (λ first. ap₂ (λ (a d : Bool). pat_good Alternatives (about_pat pat) && a && d)
    (at x 0 true) b.1.good) refl refl refl
expr_alike (Expr-F.Closure is_async moves params x) =
    let z = body_part true x.0 in
    like (expr.Closure is_async moves params z) _ _ (laws.expr_closure_is is_async moves params z)
    (λ first. ap₂ (λ (b c : Bool). list_all is_closure_param params && b && not c) (body_free x) (body_sheds x)) refl refl refl
expr_alike (Expr-F.TypedClosure is_async moves params output b) =
    let c = enclose_block true b.0 in
    like (expr.TypedClosure is_async moves params output c) _ _ (laws.expr_typed_closure_is is_async moves params output c)
    (λ first. ap (λ (d : Bool). list_all is_closure_param params && good_at NoBounds (about_type output) && d) b.1.good) refl refl refl
expr_alike (Expr-F.Return None) = like (expr.Return None) _ _ (laws.expr_return_is None) (λ first. refl) refl refl refl
expr_alike (Expr-F.Return (Some x)) =
    let z = part true x.0 in
    like (expr.Return (Some z)) _ _ (laws.expr_return_is (Some z))
    (λ first. asked x (λ F. operand_placed (Some F) false) (λ F. operand_placed (Some F) false) (λ a b stands block_like kind. refl)) refl refl refl
expr_alike (Expr-F.Break None None) = like (expr.Break None None) _ _ (laws.expr_break_is None None) (λ first. refl) refl refl refl
expr_alike (Expr-F.Break (Some label) None) =
    like (expr.Break (Some label) None) _ _ (laws.expr_break_is (Some label) None) (λ first. refl) refl refl refl
expr_alike (Expr-F.Break None (Some x)) =
    let z = part true x.0 in
    like (expr.Break None (Some z)) _ _ (laws.expr_break_is None (Some z))
    (λ first. asked x (λ F. operand_placed (Some F) false && break_placed None (Some F)) (λ F. operand_placed (Some F) false && break_placed None (Some F))
    (λ a b stands block_like kind. refl)) refl refl refl
expr_alike (Expr-F.Break (Some label) (Some x)) =
    let z = part true x.0 in
    like (expr.Break (Some label) (Some z)) _ _ (laws.expr_break_is (Some label) (Some z))
    (λ first. asked x (λ F. operand_placed (Some F) false && break_placed (Some label) (Some F))
    (λ F. operand_placed (Some F) false && break_placed (Some label) (Some F)) (λ a b stands block_like kind. refl)) refl refl refl
