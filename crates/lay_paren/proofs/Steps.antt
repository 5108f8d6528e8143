-- Fields of struct literals, and steps.
use Rattle.std.proofs.Common.{◌≡◌, true, false, ◌&&◌, List, [], ◌∷◌, map, refl, sym, ap, ap₂, subst, ◌∙◌, Bool}
use Rattle.std.proofs.lemmas.Bool.{and_parts, and_from}
use Rattle.lay_node.specs.Words.{is_name}
use Rattle.lay_node.specs.nodes.Attr.{are_attrs}
use Rattle.lay_node.specs.nodes.Facts.{Facts}
use Rattle.lay_code.specs.nodes.Code.{about_expr, about_field_expr, about_step}
use Rattle.lay_code.specs.nodes.Exprs.{StepFacts, all_free, are_generics, field_facts, placed, step_facts}
use Rattle.lay_code.specs.nodes.Places.{FREE}
use Rattle.lay_code.specs.declared.blocks.Stmt.TheOpen.{FieldExpr-F, Step-F}
use Rattle.lay_code.specs.declared.blocks.Stmt.TheViews as views
use Rattle.lay_code.specs.declared.exprs.Expr.{Expr}
use Rattle.lay_code.specs.declared.exprs.FieldExpr.{FieldExpr}
use Rattle.lay_code.specs.declared.exprs.FieldExpr.TheVariants as field
use Rattle.lay_code.specs.declared.exprs.Step.{Step}
use Rattle.lay_code.specs.declared.exprs.Step.TheVariants as step
use Rattle.lay_code.proofs.nodes.ExprsLaws as laws
use Rattle.lay_paren_defs.specs.loose.Slots.{Any}
use Rattle.lay_paren.specs.Erased.{erase}
use Rattle.lay_paren.specs.Least.{made_of}
use Rattle.lay_paren.specs.Parts.{field_made, free_made, step_made}
use Rattle.lay_paren.proofs.Choice.{any, by_layer, kept_sure, one_sure, written}
use Rattle.lay_paren.proofs.ErasedFolds.{field_erased, field_without, field_without_is, step_erased, step_without, step_without_is}
use Rattle.lay_paren.proofs.ExprNeeded.{free, free_sure}
use Rattle.lay_paren.proofs.ExprStands.{free_stand, lowest, part_stands, trees}
use Rattle.lay_paren.proofs.Kept.{FieldGood, Kept, KeptExpr, StepGood, field_layer, step_layer}
use Rattle.lay_paren.proofs.LooseFolds.{field_shielded, step_shielded}
use Rattle.lay_paren.specs.Nodes.{field_parts, step_parts}
use Rattle.lay_paren.specs.Made.{kept, one}

-- ---- expressions without parentheses, in a list

pub free_erased : (ys : List KeptExpr) → map erase (free_made (map made_of (trees ys))).result ≡ map erase (trees ys)
free_erased [] = refl
free_erased (y ∷ ys) = ap₂ (λ x xs. x ∷ xs) (y.1.erases FREE Any) (free_erased ys)

-- ---- fields

abbrev good_field : FieldExpr → Bool
good_field x = (about_field_expr x).good

abbrev FieldStep : Kept FieldExpr-F → Type 0
FieldStep y = FieldGood (field_facts (field_shielded (field_layer y))) (field_made (field_parts (field_layer y)))
    (views.roll-FieldExpr (field_without (field_layer y))) (views.roll-FieldExpr (field_layer y))

field_is : (x : FieldExpr) (F : Facts) → about_field_expr x ≡ F → F.good ≡ true → (about_field_expr x).good ≡ true
field_is x F e h = subst (λ (G : Facts). G.good ≡ true) (sym e) h

is_field : (x : FieldExpr) (F : Facts) → about_field_expr x ≡ F → (about_field_expr x).good ≡ true → F.good ≡ true
is_field x F e h = subst (λ (G : Facts). G.good ≡ true) e h

pub field_step : (y : Kept FieldExpr-F) → FieldStep y
field_step (FieldExpr-F.Named attrs name x) =
    let made = (made_of x.0 FREE Any).result in
    let given = are_attrs false attrs && is_name name.raw name.text in
    record {
      good = λ h.
          let a = and_parts _ _ h in
          field_is (field.Named attrs name made) (field_facts (FieldExpr-F.Named attrs name (about_expr made)))
          (laws.field_expr_named_is attrs name made) (and_from given (placed (about_expr made) FREE) a.0 (part_stands x FREE a.1 FREE Any lowest));
      needed =
          by_layer good_field views.roll-FieldExpr (FieldExpr-F.Named attrs name x.0) (one (λ z. field.Named attrs name z) (made_of x.0 FREE Any))
          (field.Named attrs name x.0) (views.rolls-Named attrs name x.0)
          (one_sure (written FREE Any) good_field (λ z. field.Named attrs name z)
          (λ z h. any (about_expr z) FREE
          (and_parts given (placed (about_expr z) FREE)
          (is_field (field.Named attrs name z) (field_facts (FieldExpr-F.Named attrs name (about_expr z)))
          (laws.field_expr_named_is attrs name z) h)).1)
          (made_of x.0 FREE Any) x.0 (x.1.needed FREE Any tt));
      erases =
          ap field_erased (sym (views.rolls-Named attrs name made)) ∙ field_without_is (FieldExpr-F.Named attrs name made)
          ∙ ap (λ (z : Expr). views.roll-FieldExpr (FieldExpr-F.Named attrs name z)) (x.1.erases FREE Any);
    }
field_step (FieldExpr-F.Numbered attrs index x) =
    let made = (made_of x.0 FREE Any).result in
    record {
      good = λ h.
          let a = and_parts _ _ h in
          field_is (field.Numbered attrs index made) (field_facts (FieldExpr-F.Numbered attrs index (about_expr made)))
          (laws.field_expr_numbered_is attrs index made)
          (and_from (are_attrs false attrs) (placed (about_expr made) FREE) a.0 (part_stands x FREE a.1 FREE Any lowest));
      needed =
          by_layer good_field views.roll-FieldExpr (FieldExpr-F.Numbered attrs index x.0) (one (λ z. field.Numbered attrs index z) (made_of x.0 FREE Any))
          (field.Numbered attrs index x.0) (views.rolls-Numbered attrs index x.0)
          (one_sure (written FREE Any) good_field (λ z. field.Numbered attrs index z)
          (λ z h. any (about_expr z) FREE
          (and_parts (are_attrs false attrs) (placed (about_expr z) FREE)
          (is_field (field.Numbered attrs index z) (field_facts (FieldExpr-F.Numbered attrs index (about_expr z)))
          (laws.field_expr_numbered_is attrs index z) h)).1)
          (made_of x.0 FREE Any) x.0 (x.1.needed FREE Any tt));
      erases =
          ap field_erased (sym (views.rolls-Numbered attrs index made)) ∙ field_without_is (FieldExpr-F.Numbered attrs index made)
          ∙ ap (λ (z : Expr). views.roll-FieldExpr (FieldExpr-F.Numbered attrs index z)) (x.1.erases FREE Any);
    }
field_step (FieldExpr-F.Short attrs name) = record {
  good = field_is (field.Short attrs name) (field_facts (FieldExpr-F.Short attrs name)) (laws.field_expr_short_is attrs name);
  needed =
      by_layer good_field views.roll-FieldExpr (FieldExpr-F.Short attrs name) (kept (field.Short attrs name)) (field.Short attrs name)
      (views.rolls-Short attrs name) (kept_sure good_field (field.Short attrs name));
  erases = ap field_erased (sym (views.rolls-Short attrs name)) ∙ field_without_is (FieldExpr-F.Short attrs name);
}

-- ---- steps

abbrev good_step : Step → Bool
good_step x = (about_step x).good

abbrev StepStep : Kept Step-F → Type 0
StepStep y = StepGood (step_facts (step_shielded (step_layer y))) (step_made (step_parts (step_layer y)))
    (views.roll-Step (step_without (step_layer y))) (views.roll-Step (step_layer y))

step_is : (x : Step) (F : StepFacts) → about_step x ≡ F → F.good ≡ true → (about_step x).good ≡ true
step_is x F e h = subst (λ (G : StepFacts). G.good ≡ true) (sym e) h

is_step : (x : Step) (F : StepFacts) → about_step x ≡ F → (about_step x).good ≡ true → F.good ≡ true
is_step x F e h = subst (λ (G : StepFacts). G.good ≡ true) e h

pub step_step : (y : Kept Step-F) → StepStep y
step_step (Step-F.Field name) = record {
  kind = ap (λ (F : StepFacts). F.kind) (laws.step_field_is name);
  good = step_is (step.Field name) (step_facts (Step-F.Field name)) (laws.step_field_is name);
  needed =
      by_layer good_step views.roll-Step (Step-F.Field name) (kept (step.Field name)) (step.Field name) (views.rolls-Field name)
      (kept_sure good_step (step.Field name));
  erases = ap step_erased (sym (views.rolls-Field name)) ∙ step_without_is (Step-F.Field name);
}
step_step (Step-F.TupleIndex index) = record {
  kind = ap (λ (F : StepFacts). F.kind) (laws.step_tuple_index_is index);
  good = step_is (step.TupleIndex index) (step_facts (Step-F.TupleIndex index)) (laws.step_tuple_index_is index);
  needed =
      by_layer good_step views.roll-Step (Step-F.TupleIndex index) (kept (step.TupleIndex index)) (step.TupleIndex index) (views.rolls-TupleIndex index)
      (kept_sure good_step (step.TupleIndex index));
  erases = ap step_erased (sym (views.rolls-TupleIndex index)) ∙ step_without_is (Step-F.TupleIndex index);
}
step_step (Step-F.Method name generics args) =
    let made = (free_made (map made_of (trees args))).result in
    let given = is_name name.raw name.text && are_generics generics in
    record {
      kind = ap (λ (F : StepFacts). F.kind) (laws.step_method_is name generics made);
      good = λ h.
          let a = and_parts _ _ h in
          step_is (step.Method name generics made) (step_facts (Step-F.Method name generics (map about_expr made)))
          (laws.step_method_is name generics made) (and_from given (all_free (map about_expr made)) a.0 (free_stand args a.1));
      needed =
          by_layer good_step views.roll-Step (Step-F.Method name generics (trees args))
          (one (λ zs. step.Method name generics zs) (free_made (map made_of (trees args)))) (step.Method name generics (trees args))
          (views.rolls-Method name generics (trees args))
          (one_sure free good_step (λ zs. step.Method name generics zs)
          (λ zs h. (and_parts given (all_free (map about_expr zs))
          (is_step (step.Method name generics zs) (step_facts (Step-F.Method name generics (map about_expr zs)))
          (laws.step_method_is name generics zs) h)).1)
          (free_made (map made_of (trees args))) (trees args) (free_sure args));
      erases =
          ap step_erased (sym (views.rolls-Method name generics made)) ∙ step_without_is (Step-F.Method name generics made)
          ∙ ap (λ (zs : List Expr). views.roll-Step (Step-F.Method name generics zs)) (free_erased args);
    }
step_step (Step-F.Apply args) =
    let made = (free_made (map made_of (trees args))).result in
    record {
      kind = ap (λ (F : StepFacts). F.kind) (laws.step_apply_is made);
      good = λ h. step_is (step.Apply made) (step_facts (Step-F.Apply (map about_expr made))) (laws.step_apply_is made) (free_stand args h);
      needed =
          by_layer good_step views.roll-Step (Step-F.Apply (trees args)) (one step.Apply (free_made (map made_of (trees args)))) (step.Apply (trees args))
          (views.rolls-Apply (trees args))
          (one_sure free good_step step.Apply
          (λ zs h. is_step (step.Apply zs) (step_facts (Step-F.Apply (map about_expr zs))) (laws.step_apply_is zs) h)
          (free_made (map made_of (trees args))) (trees args) (free_sure args));
      erases =
          ap step_erased (sym (views.rolls-Apply made)) ∙ step_without_is (Step-F.Apply made)
          ∙ ap (λ (zs : List Expr). views.roll-Step (Step-F.Apply zs)) (free_erased args);
    }
step_step (Step-F.Index x) =
    let made = (made_of x.0 FREE Any).result in
    record {
      kind = ap (λ (F : StepFacts). F.kind) (laws.step_index_is made);
      good = λ h.
          step_is (step.Index made) (step_facts (Step-F.Index (about_expr made))) (laws.step_index_is made)
          (part_stands x FREE h FREE Any lowest);
      needed =
          by_layer good_step views.roll-Step (Step-F.Index x.0) (one step.Index (made_of x.0 FREE Any)) (step.Index x.0) (views.rolls-Index x.0)
          (one_sure (written FREE Any) good_step step.Index
          (λ z h. any (about_expr z) FREE (is_step (step.Index z) (step_facts (Step-F.Index (about_expr z))) (laws.step_index_is z) h))
          (made_of x.0 FREE Any) x.0 (x.1.needed FREE Any tt));
      erases =
          ap step_erased (sym (views.rolls-Index made)) ∙ step_without_is (Step-F.Index made)
          ∙ ap (λ (z : Expr). views.roll-Step (Step-F.Index z)) (x.1.erases FREE Any);
    }
step_step Step-F.Try = record {
  kind = ap (λ (F : StepFacts). F.kind) laws.step_try_is;
  good = step_is step.Try (step_facts Step-F.Try) laws.step_try_is;
  needed = by_layer good_step views.roll-Step Step-F.Try (kept step.Try) step.Try views.rolls-Try (kept_sure good_step step.Try);
  erases = ap step_erased (sym views.rolls-Try) ∙ step_without_is Step-F.Try;
}
step_step Step-F.Await = record {
  kind = ap (λ (F : StepFacts). F.kind) laws.step_await_is;
  good = step_is step.Await (step_facts Step-F.Await) laws.step_await_is;
  needed = by_layer good_step views.roll-Step Step-F.Await (kept step.Await) step.Await views.rolls-Await (kept_sure good_step step.Await);
  erases = ap step_erased (sym views.rolls-Await) ∙ step_without_is Step-F.Await;
}
