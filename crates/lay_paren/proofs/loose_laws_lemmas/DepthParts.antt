-- Parts that are enclosed, bodies and lists of nodes: what they need.
use Rattle.std.proofs.Common.{◌≡◌, ◌+◌, ◌*◌, ◌≤◌, Bool, true, false, if◌then◌else◌, List, [], ◌∷◌, map, inl, refl, arith}
use Rattle.lay_node.specs.nodes.Facts.{forms}
use Rattle.lay_code.specs.nodes.Code.{about_expr, about_field_expr, form_of_item}
use Rattle.lay_code.specs.nodes.Exprs.{expr_forms}
use Rattle.lay_code.specs.declared.blocks.Arm.{Arm}
use Rattle.lay_code.specs.declared.blocks.Branch.{Branch}
use Rattle.lay_code.specs.declared.blocks.Stmt.{Stmt}
use Rattle.lay_code.specs.declared.conditions.Link.{Link}
use Rattle.lay_code.specs.declared.exprs.Expr.{Expr}
use Rattle.lay_code.specs.declared.exprs.Expr.TheVariants as expr
use Rattle.lay_code.specs.declared.exprs.FieldExpr.{FieldExpr}
use Rattle.lay_code.specs.declared.exprs.Step.{Step}
use Rattle.lay_code.specs.declared.item.Item.{Item}
use Rattle.lay_code.specs.declared.operators.Op.{Op}
use Rattle.lay_paren_defs.specs.Enclosed.{body_part, bodied, enclose_arm, enclose_branch, enclose_field, enclose_item, enclose_link, enclose_step, enclose_stmt, enclosed, is_bare, operand_part, part, target_part}
use Rattle.lay_depth.specs.nodes.Depths.{greatest}
use Rattle.lay_depth.specs.Parts.{arm_form, branch_form, link_form, operand_form, step_form, target_form}
use Rattle.lay_depth.proofs.BlockLemmas.{stmt_told}
use Rattle.lay_depth.proofs.ExprLemmas.{inner_is}
use Rattle.lay_paren.proofs.loose_laws_lemmas.DepthKept.{DeepArm, DeepBranch, DeepExpr, DeepField, DeepItem, DeepLink, DeepStep, DeepStmt, expr_depth}

-- ---- parts and bodies

pub paren_depth : (x : Expr) → expr_depth (expr.Paren x) ≡ expr_depth x + 1
paren_depth x = inner_is (expr.Paren x) x (inl refl)

pub part_deep : (y : DeepExpr) → expr_depth (part true y.0) ≤ 2 * expr_depth y.0 + 1
part_deep y = let m = paren_depth (enclosed y.0) in let n = y.1 in omega (arith, m, n)

bodied_deep : (x : Expr) → expr_depth (bodied x) ≤ expr_depth x + 1
bodied_deep x = by (is_bare x)
  where
    by : (bare : Bool) → expr_depth (if bare then x else expr.Paren x) ≤ expr_depth x + 1
    by true = omega arith
    by false = let m = paren_depth x in omega (arith, m)

pub body_deep : (y : DeepExpr) → expr_depth (body_part true y.0) ≤ 2 * expr_depth y.0 + 1
body_deep y = let m = bodied_deep (enclosed y.0) in let n = y.1 in omega (arith, m, n)

-- ---- lists

abbrev pub trees : List DeepExpr → List Expr
trees ys = map (λ (y : DeepExpr). y.0) ys

pub exprs_deep : (ys : List DeepExpr)
    → greatest (expr_forms (map about_expr (map (part true) (trees ys)))) ≤ 2 * greatest (expr_forms (map about_expr (trees ys))) + 1
exprs_deep [] = omega arith
exprs_deep (y ∷ ys) = let m = part_deep y in let n = exprs_deep ys in omega (arith, m, n)

abbrev pub operands : List (Op × DeepExpr) → List (Op × Expr)
operands ys = map (λ (y : Op × DeepExpr). (y.0, y.1.0)) ys

pub operands_deep : (ys : List (Op × DeepExpr))
    → greatest (map operand_form (map (operand_part true) (operands ys))) ≤ 2 * greatest (map operand_form (operands ys)) + 1
operands_deep [] = omega arith
operands_deep (y ∷ ys) = let m = part_deep y.1 in let n = operands_deep ys in omega (arith, m, n)

abbrev pub targets : List (DeepExpr × Op) → List (Expr × Op)
targets ys = map (λ (y : DeepExpr × Op). (y.0.0, y.1)) ys

pub targets_deep : (ys : List (DeepExpr × Op))
    → greatest (map target_form (map (target_part true) (targets ys))) ≤ 2 * greatest (map target_form (targets ys)) + 1
targets_deep [] = omega arith
targets_deep (y ∷ ys) = let m = part_deep y.0 in let n = targets_deep ys in omega (arith, m, n)

abbrev pub fields : List DeepField → List FieldExpr
fields ys = map (λ (y : DeepField). y.0) ys

pub fields_deep : (ys : List DeepField)
    → greatest (forms (map about_field_expr (map (enclose_field true) (fields ys)))) ≤ 2 * greatest (forms (map about_field_expr (fields ys))) + 1
fields_deep [] = omega arith
fields_deep (y ∷ ys) = let m = y.1 in let n = fields_deep ys in omega (arith, m, n)

abbrev pub steps : List DeepStep → List Step
steps ys = map (λ (y : DeepStep). y.0) ys

pub steps_deep : (ys : List DeepStep)
    → greatest (map step_form (map (enclose_step true) (steps ys))) ≤ 2 * greatest (map step_form (steps ys)) + 1
steps_deep [] = omega arith
steps_deep (y ∷ ys) = let m = y.1 in let n = steps_deep ys in omega (arith, m, n)

abbrev pub stmts : List DeepStmt → List Stmt
stmts ys = map (λ (y : DeepStmt). y.0) ys

pub stmts_deep : (ys : List DeepStmt)
    → greatest (map stmt_told (map (enclose_stmt true) (stmts ys))) ≤ 2 * greatest (map stmt_told (stmts ys)) + 1
stmts_deep [] = omega arith
stmts_deep (y ∷ ys) = let m = y.1 in let n = stmts_deep ys in omega (arith, m, n)

abbrev pub links : List DeepLink → List Link
links ys = map (λ (y : DeepLink). y.0) ys

pub links_deep : (ys : List DeepLink)
    → greatest (map link_form (map (enclose_link true) (links ys))) ≤ 2 * greatest (map link_form (links ys)) + 1
links_deep [] = omega arith
links_deep (y ∷ ys) = let m = y.1 in let n = links_deep ys in omega (arith, m, n)

abbrev pub branches : List DeepBranch → List Branch
branches ys = map (λ (y : DeepBranch). y.0) ys

pub branches_deep : (ys : List DeepBranch)
    → greatest (map branch_form (map (enclose_branch true) (branches ys))) ≤ 2 * greatest (map branch_form (branches ys)) + 1
branches_deep [] = omega arith
branches_deep (y ∷ ys) = let m = y.1 in let n = branches_deep ys in omega (arith, m, n)

abbrev pub arms : List DeepArm → List Arm
arms ys = map (λ (y : DeepArm). y.0) ys

pub arms_deep : (ys : List DeepArm)
    → greatest (map arm_form (map (enclose_arm true) (arms ys))) ≤ 2 * greatest (map arm_form (arms ys)) + 1
arms_deep [] = omega arith
arms_deep (y ∷ ys) = let m = y.1 in let n = arms_deep ys in omega (arith, m, n)

abbrev pub items : List DeepItem → List Item
items ys = map (λ (y : DeepItem). y.0) ys

pub items_deep : (ys : List DeepItem)
    → greatest (map form_of_item (map (enclose_item true) (items ys))) ≤ 2 * greatest (map form_of_item (items ys)) + 1
items_deep [] = omega arith
items_deep (y ∷ ys) = let m = y.1 in let n = items_deep ys in omega (arith, m, n)
