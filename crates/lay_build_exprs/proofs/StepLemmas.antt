-- Calls, methods and fields that are built.
use Rattle.std.proofs.Common.{◌≡◌, ◌∙◌, suc, ◌-◌, List, [], ◌∷◌, length, map, Some, None, refl, ap, arith}
use Rattle.std.specs.Prelude.{slice_get}
use Rattle.lay_form.specs.Depth.{least_depth}
use Rattle.lay_node.specs.declared.token.Name.{Name}
use Rattle.lay_code.specs.nodes.Code.{about_step}
use Rattle.lay_code.specs.nodes.Exprs.{StepFacts}
use Rattle.lay_code.specs.declared.exprs.Expr.{Expr}
use Rattle.lay_code.specs.declared.exprs.Step.{Step}
use Rattle.lay_code.specs.declared.exprs.Step.TheVariants as step
use Rattle.lay_code.proofs.nodes.ExprsLaws as laws
use Rattle.lay_depth.specs.nodes.Depths.{greatest}
use Rattle.lay_depth.proofs.nodes_lemmas.Forms.{leaf_is}
use Rattle.lay_depth.proofs.ExprLemmas as depths
use Rattle.lay_form.specs.Form.{Done}
use Rattle.lay_build_types.specs.Answers.{IsMade}
use Rattle.lay_build_types.specs.Kinds.{IsExpr, form_of_expr}
use Rattle.lay_build_types.proofs.PathLemmas.{KeptName}
use Rattle.lay_build_exprs.specs.Nodes as node
use Rattle.lay_build_exprs.proofs.ExprLemmas.{KeptExpr, KeptExprs, callee_made, greatest_exprs, operand_made}
use Rattle.lay_build_exprs.proofs.PostfixLemmas.{call_good, callee_apart, callee_root, field_apart, field_good, method_apart, method_good, operand_root, stepped_made}

-- ---- steps

pub field_depth : (n : Name) → least_depth (about_step (step.Field n)).form ≡ 0
field_depth n = ap (λ (s : StepFacts). least_depth s.form) (laws.step_field_is n) ∙ leaf_is n.raw n.text Done

pub method_depth : (n : Name) (xs : List Expr) → least_depth (about_step (step.Method n None xs)).form ≡ greatest (map form_of_expr xs)
method_depth n xs = depths.bare_method_is (step.Method n None xs) n None xs refl refl ∙ greatest_exprs xs

pub call_depth : (xs : List Expr) → least_depth (about_step (step.Apply xs)).form ≡ greatest (map form_of_expr xs)
call_depth xs = depths.apply_is (step.Apply xs) xs refl ∙ greatest_exprs xs

-- ---- the last step

pub field_at_end : (steps : List Step) (one : Step) → Some one ≡ slice_get steps (length steps - 1)
    → node.is_field one ≡ node.field_last steps
field_at_end [] one h = absurd (cc)
field_at_end (s ∷ []) one h = let same : one ≡ s = cc in ap node.is_field same
field_at_end (s ∷ t ∷ more) one h =
    let e : length (s ∷ t ∷ more) - 1 ≡ suc (length (t ∷ more) - 1) = omega arith in
    field_at_end (t ∷ more) one (h ∙ ap (slice_get (s ∷ t ∷ more)) e)

-- ---- what is made

module _ (base : Expr) (kept : KeptExpr base) where
  pub expr_field_made : (n : Name) → KeptName n → IsMade form_of_expr IsExpr (node.expr_field base n)
  expr_field_made n name =
      let x = node.operand base in
      stepped_made x (step.Field n) (operand_made base kept) (operand_root base) (field_good n name) (field_apart x n)

  pub expr_method_made : (n : Name) (xs : List Expr) → KeptName n → KeptExprs xs → IsMade form_of_expr IsExpr (node.expr_method base n xs)
  expr_method_made n xs name all =
      let x = node.operand base in
      let one = step.Method n None xs in
      stepped_made x one (operand_made base kept) (operand_root base) (method_good n name xs all) (method_apart x n xs)

  pub expr_call_made : (xs : List Expr) → KeptExprs xs → IsMade form_of_expr IsExpr (node.expr_call base xs)
  expr_call_made xs all =
      let x = node.callee base in
      let one = step.Apply xs in
      stepped_made x one (callee_made base kept) (callee_root base) (call_good xs all) (callee_apart base one)
