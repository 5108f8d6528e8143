-- Fields of struct literals, and steps.
use Rattle.std.proofs.Common.{◌≡◌, Bool, true, false, ◌&&◌, List, refl, sym, ap, ◌∙◌}
use Rattle.lay_node.specs.Words.{is_name}
use Rattle.lay_node.specs.nodes.Attr.{are_attrs}
use Rattle.lay_node.specs.nodes.Facts.{Facts}
use Rattle.lay_code.specs.nodes.Code.{about_field_expr, about_step}
use Rattle.lay_code.specs.nodes.Exprs.{StepFacts, are_generics, field_facts, step_facts}
use Rattle.lay_code.specs.nodes.Layers.{FieldNode, StepNode}
use Rattle.lay_code.specs.declared.blocks.Stmt.TheOpen.{FieldExpr-F, Step-F}
use Rattle.lay_code.specs.declared.blocks.Stmt.TheViews as views
use Rattle.lay_code.specs.declared.exprs.Expr.{Expr}
use Rattle.lay_code.specs.declared.exprs.FieldExpr.{FieldExpr}
use Rattle.lay_code.specs.declared.exprs.FieldExpr.TheVariants as field
use Rattle.lay_code.specs.declared.exprs.Step.{Step}
use Rattle.lay_code.specs.declared.exprs.Step.TheVariants as step
use Rattle.lay_code.proofs.nodes.ExprsLaws as laws
use Rattle.lay_paren_defs.specs.Enclosed.{field_shell, part, step_shell}
use Rattle.lay_paren.proofs.ErasedFolds.{field_erased, field_without, field_without_is, step_erased, step_without, step_without_is}
use Rattle.lay_paren.proofs.LooseFolds.{field_shielded, step_shielded}
use Rattle.lay_paren.proofs.loose_laws_lemmas.Kept.{FieldGood, Kept, StepGood, field_layer, step_layer}
use Rattle.lay_paren.proofs.loose_laws_lemmas.PartLemmas.{all_placed, at_free, part_erased, parts, parts_erased}

-- ---- fields

like_field : (x : FieldExpr) (F loose : Facts) (erased : FieldExpr) → about_field_expr x ≡ F → F.good ≡ loose.good → field_erased x ≡ erased → FieldGood loose x erased
like_field x F loose erased e good erases = record { good = ap (λ (G : Facts). G.good) e ∙ good; erases = erases }

field_out : (layer : FieldNode) (x : FieldExpr) → views.roll-FieldExpr layer ≡ x → field_erased x ≡ views.roll-FieldExpr (field_without layer)
field_out layer x rolls = ap field_erased (sym rolls) ∙ field_without_is layer

pub field_step : (y : Kept FieldExpr-F)
    → FieldGood (field_facts (field_shielded (field_layer y))) (field_shell true (field_layer y)) (views.roll-FieldExpr (field_without (field_layer y)))
field_step (FieldExpr-F.Named attrs name x) =
    let z = part true x.0 in
    like_field (field.Named attrs name z) _ _ _ (laws.field_expr_named_is attrs name z)
    (ap (λ (b : Bool). are_attrs false attrs && is_name name.raw name.text && b) (at_free x))
    (field_out (FieldExpr-F.Named attrs name z) (field.Named attrs name z) (views.rolls-Named attrs name z)
    ∙ ap (λ (w : Expr). views.roll-FieldExpr (FieldExpr-F.Named attrs name w)) (part_erased x))
field_step (FieldExpr-F.Numbered attrs index x) =
    let z = part true x.0 in
    like_field (field.Numbered attrs index z) _ _ _ (laws.field_expr_numbered_is attrs index z)
    (ap (λ (b : Bool). are_attrs false attrs && b) (at_free x))
    (field_out (FieldExpr-F.Numbered attrs index z) (field.Numbered attrs index z) (views.rolls-Numbered attrs index z)
    ∙ ap (λ (w : Expr). views.roll-FieldExpr (FieldExpr-F.Numbered attrs index w)) (part_erased x))
field_step (FieldExpr-F.Short attrs name) =
    like_field (field.Short attrs name) _ _ _ (laws.field_expr_short_is attrs name) refl
    (field_out (FieldExpr-F.Short attrs name) (field.Short attrs name) (views.rolls-Short attrs name))

-- ---- steps

like_step : (x : Step) (F loose : StepFacts) (erased : Step) → about_step x ≡ F → F.kind ≡ loose.kind → F.good ≡ loose.good → step_erased x ≡ erased
    → StepGood loose x erased
like_step x F loose erased e kind good erases =
    record { kind = ap (λ (G : StepFacts). G.kind) e ∙ kind; good = ap (λ (G : StepFacts). G.good) e ∙ good; erases = erases }

step_out : (layer : StepNode) (x : Step) → views.roll-Step layer ≡ x → step_erased x ≡ views.roll-Step (step_without layer)
step_out layer x rolls = ap step_erased (sym rolls) ∙ step_without_is layer

pub step_step : (y : Kept Step-F)
    → StepGood (step_facts (step_shielded (step_layer y))) (step_shell true (step_layer y)) (views.roll-Step (step_without (step_layer y)))
step_step (Step-F.Field name) =
    like_step (step.Field name) _ _ _ (laws.step_field_is name) refl refl (step_out (Step-F.Field name) (step.Field name) (views.rolls-Field name))
step_step (Step-F.TupleIndex index) =
    like_step (step.TupleIndex index) _ _ _ (laws.step_tuple_index_is index) refl refl
    (step_out (Step-F.TupleIndex index) (step.TupleIndex index) (views.rolls-TupleIndex index))
step_step (Step-F.Method name generics ys) =
    like_step (step.Method name generics (parts ys)) _ _ _ (laws.step_method_is name generics (parts ys)) refl
    (ap (λ (b : Bool). is_name name.raw name.text && are_generics generics && b) (all_placed ys))
    (step_out (Step-F.Method name generics (parts ys)) (step.Method name generics (parts ys)) (views.rolls-Method name generics (parts ys))
    ∙ ap (λ (zs : List Expr). views.roll-Step (Step-F.Method name generics zs)) (parts_erased ys))
step_step (Step-F.Apply ys) =
    like_step (step.Apply (parts ys)) _ _ _ (laws.step_apply_is (parts ys)) refl (all_placed ys)
    (step_out (Step-F.Apply (parts ys)) (step.Apply (parts ys)) (views.rolls-Apply (parts ys))
    ∙ ap (λ (zs : List Expr). views.roll-Step (Step-F.Apply zs)) (parts_erased ys))
step_step (Step-F.Index x) =
    let z = part true x.0 in
    like_step (step.Index z) _ _ _ (laws.step_index_is z) refl (at_free x)
    (step_out (Step-F.Index z) (step.Index z) (views.rolls-Index z) ∙ ap (λ (w : Expr). views.roll-Step (Step-F.Index w)) (part_erased x))
step_step Step-F.Try = like_step step.Try _ _ _ laws.step_try_is refl refl (step_out Step-F.Try step.Try views.rolls-Try)
step_step Step-F.Await = like_step step.Await _ _ _ laws.step_await_is refl refl (step_out Step-F.Await step.Await views.rolls-Await)
