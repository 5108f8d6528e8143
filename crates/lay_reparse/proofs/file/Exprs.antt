-- Layers of expressions, of fields of struct literals and of steps pass, where the nodes within them do.
use Rattle.std.proofs.Common.{List, [], ◌∷◌, sym, subst, map, Some, None}
use Rattle.lay_node.specs.nodes.Facts.{Facts}
use Rattle.lay_code.specs.nodes.Code.{about_arm, about_block, about_branch, about_condition, about_expr, about_field_expr, about_step}
use Rattle.lay_code.specs.nodes.Exprs.{ExprFacts, expr_facts, field_facts, step_facts}
use Rattle.lay_code.specs.declared.blocks.Stmt.TheOpen.{Expr-F, FieldExpr-F, Step-F}
use Rattle.lay_code.specs.declared.blocks.Stmt.TheViews as views
use Rattle.lay_code.specs.declared.operators.Op.{Op}
use Rattle.lay_code.proofs.nodes.ExprsLaws as laws
use Rattle.lay_code.proofs.nodes.Layers.{expr_is, expr_told, field_is, field_told, step_is, step_told}
use Rattle.lay_reparse.proofs.forms.Passes.{plain}
use Rattle.lay_reparse.proofs.file.TypeArgs.{Each, Passing}
use Rattle.lay_reparse.proofs.file.Types.{kept}
use Rattle.lay_reparse.proofs.file.ExprParts.{ends_expr}
use Rattle.lay_reparse.proofs.file.ExprPlaces.{ExprPasses}
use Rattle.lay_reparse.proofs.file.ExprSteps.{StepPasses, field_step_pass, tuple_index_pass, method_pass, apply_pass, index_step_pass, try_pass, await_pass, named_pass, numbered_pass, short_pass}
use Rattle.lay_reparse.proofs.file.ExprKinds.{literal_pass, path_pass, underscore_pass, call_pass, paren_pass, tuple_pass, array_pass, repeat_pass, struct_pass}
use Rattle.lay_reparse.proofs.file.ExprOperands.{OperandPasses, TargetPasses, chain_pass, cast_pass, unary_pass, range_pass, assign_pass, postfix_pass, continue_pass, return_pass, break_pass}
use Rattle.lay_reparse.proofs.file.ExprBlocks.{block_expr_pass, unsafe_pass, const_block_pass, async_pass, loop_pass, while_pass, for_pass, match_pass, if_pass}
use Rattle.lay_reparse.proofs.file.Closures.{closure_pass, typed_closure_pass}
use Rattle.lay_reparse.proofs.file.ArmKinds.{ArmPasses, BranchPasses}
use Rattle.lay_reparse.proofs.file.CodeKept.{ExprIs, FieldIs, Kept, KeptArm, KeptBranch, KeptExpr, KeptField, KeptStep, StepIs, expr_layer, field_layer, step_layer}

abbrev exprs_told : List KeptExpr → List ExprFacts
exprs_told ys = map about_expr (map (λ (y : KeptExpr). y.0) ys)

abbrev fields_told : List KeptField → List Facts
fields_told ys = map about_field_expr (map (λ (y : KeptField). y.0) ys)

-- operands with the operators before them, and targets with the operators after them
abbrev operands_told : List (Op × KeptExpr) → List (Op × ExprFacts)
operands_told ys = map laws.behind_op (map (λ (y : Op × KeptExpr). (y.0, y.1.0)) ys)

abbrev targets_told : List (KeptExpr × Op) → List (ExprFacts × Op)
targets_told ys = map laws.before_op (map (λ (y : KeptExpr × Op). (y.0.0, y.1)) ys)

kept_operands : (ys : List (Op × KeptExpr)) → Each OperandPasses (operands_told ys)
kept_operands [] = tt
kept_operands (y ∷ ys) = (y.1.1, kept_operands ys)

kept_targets : (ys : List (KeptExpr × Op)) → Each TargetPasses (targets_told ys)
kept_targets [] = tt
kept_targets (y ∷ ys) = (y.0.1, kept_targets ys)

kept_exprs : (ys : List KeptExpr) → Each ExprPasses (exprs_told ys)
kept_exprs ys = kept ExprPasses about_expr ys

kept_fields : (ys : List KeptField) → Each (Passing plain ends_expr) (fields_told ys)
kept_fields ys = kept (Passing plain ends_expr) about_field_expr ys

-- ---- expressions

expr_layer_passes : (y : Kept Expr-F) → ExprPasses (expr_facts (expr_told (expr_layer y)))
expr_layer_passes (Expr-F.Lit literal) = literal_pass literal
expr_layer_passes (Expr-F.Path path) = path_pass path
expr_layer_passes Expr-F.Underscore = underscore_pass
expr_layer_passes (Expr-F.Expr::Call call) = call_pass call
expr_layer_passes (Expr-F.Paren x) = paren_pass (about_expr x.0) x.1
expr_layer_passes (Expr-F.Continue label) = continue_pass label
expr_layer_passes (Expr-F.Tuple xs) = tuple_pass (exprs_told xs) (kept_exprs xs)
expr_layer_passes (Expr-F.Array xs) = array_pass (exprs_told xs) (kept_exprs xs)
expr_layer_passes (Expr-F.Repeat x length) = repeat_pass (about_expr x.0) length x.1
expr_layer_passes (Expr-F.Expr::Struct path fields None) =
    struct_pass path (fields_told fields) None (kept_fields fields) tt
expr_layer_passes (Expr-F.Expr::Struct path fields (Some None)) =
    struct_pass path (fields_told fields) (Some None) (kept_fields fields) tt
expr_layer_passes (Expr-F.Expr::Struct path fields (Some (Some x))) =
    struct_pass path (fields_told fields) (Some (Some (about_expr x.0))) (kept_fields fields) x.1
expr_layer_passes (Expr-F.Chain x more) =
    chain_pass (about_expr x.0) (operands_told more) x.1 (kept_operands more)
expr_layer_passes (Expr-F.Cast x types) = cast_pass (about_expr x.0) types x.1
expr_layer_passes (Expr-F.Unary prefixes x) = unary_pass prefixes (about_expr x.0) x.1
expr_layer_passes (Expr-F.Range None inclusive None) = range_pass None inclusive None tt tt
expr_layer_passes (Expr-F.Range None inclusive (Some y)) =
    range_pass None inclusive (Some (about_expr y.0)) tt y.1
expr_layer_passes (Expr-F.Range (Some x) inclusive None) =
    range_pass (Some (about_expr x.0)) inclusive None x.1 tt
expr_layer_passes (Expr-F.Range (Some x) inclusive (Some y)) =
    range_pass (Some (about_expr x.0)) inclusive (Some (about_expr y.0)) x.1 y.1
expr_layer_passes (Expr-F.Assign targets x) =
    assign_pass (targets_told targets) (about_expr x.0) (kept_targets targets) x.1
expr_layer_passes (Expr-F.Postfix x steps) =
    postfix_pass (about_expr x.0) (map about_step (map (λ (y : KeptStep). y.0) steps)) x.1
    (kept StepPasses about_step steps)
expr_layer_passes (Expr-F.Block label b) = block_expr_pass label (about_block b.0) b.1
expr_layer_passes (Expr-F.Unsafe b) = unsafe_pass (about_block b.0) b.1
expr_layer_passes (Expr-F.ConstBlock b) = const_block_pass (about_block b.0) b.1
expr_layer_passes (Expr-F.Async moves b) = async_pass moves (about_block b.0) b.1
expr_layer_passes (Expr-F.If branches None) =
    if_pass (map about_branch (map (λ (y : KeptBranch). y.0) branches)) None
    (kept BranchPasses about_branch branches) tt
expr_layer_passes (Expr-F.If branches (Some b)) =
    if_pass (map about_branch (map (λ (y : KeptBranch). y.0) branches)) (Some (about_block b.0))
    (kept BranchPasses about_branch branches) b.1
expr_layer_passes (Expr-F.Match x attrs arms) =
    match_pass (about_expr x.0) attrs (map about_arm (map (λ (y : KeptArm). y.0) arms)) x.1
    (kept ArmPasses about_arm arms)
expr_layer_passes (Expr-F.Loop label b) = loop_pass label (about_block b.0) b.1
expr_layer_passes (Expr-F.While label c b) =
    while_pass label (about_condition c.0) (about_block b.0) c.1 b.1
expr_layer_passes (Expr-F.For label pat x b) = for_pass label pat (about_expr x.0) (about_block b.0) x.1 b.1
expr_layer_passes (Expr-F.Closure is_async moves params x) = closure_pass is_async moves params (about_expr x.0) x.1
expr_layer_passes (Expr-F.TypedClosure is_async moves params output b) =
    typed_closure_pass is_async moves params output (about_block b.0) b.1
expr_layer_passes (Expr-F.Return None) = return_pass None tt
expr_layer_passes (Expr-F.Return (Some x)) = return_pass (Some (about_expr x.0)) x.1
expr_layer_passes (Expr-F.Break label None) = break_pass label None tt
expr_layer_passes (Expr-F.Break label (Some x)) = break_pass label (Some (about_expr x.0)) x.1

pub expr_step : (y : Kept Expr-F) → ExprIs (views.roll-Expr (expr_layer y))
expr_step y = subst ExprPasses (sym (expr_is (expr_layer y))) (expr_layer_passes y)

-- ---- fields and steps

field_layer_passes : (y : Kept FieldExpr-F) → Passing plain ends_expr (field_facts (field_told (field_layer y)))
field_layer_passes (FieldExpr-F.Named attrs name x) = named_pass attrs name (about_expr x.0) x.1
field_layer_passes (FieldExpr-F.Numbered attrs index x) = numbered_pass attrs index (about_expr x.0) x.1
field_layer_passes (FieldExpr-F.Short attrs name) = short_pass attrs name

pub field_step : (y : Kept FieldExpr-F) → FieldIs (views.roll-FieldExpr (field_layer y))
field_step y = subst (Passing plain ends_expr) (sym (field_is (field_layer y))) (field_layer_passes y)

step_layer_passes : (y : Kept Step-F) → StepPasses (step_facts (step_told (step_layer y)))
step_layer_passes (Step-F.Field name) = field_step_pass name
step_layer_passes (Step-F.TupleIndex index) = tuple_index_pass index
step_layer_passes (Step-F.Method name generics args) = method_pass name generics (exprs_told args) (kept_exprs args)
step_layer_passes (Step-F.Apply args) = apply_pass (exprs_told args) (kept_exprs args)
step_layer_passes (Step-F.Index x) = index_step_pass (about_expr x.0) x.1
step_layer_passes Step-F.Try = try_pass
step_layer_passes Step-F.Await = await_pass

pub step_step : (y : Kept Step-F) → StepIs (views.roll-Step (step_layer y))
step_step y = subst StepPasses (sym (step_is (step_layer y))) (step_layer_passes y)
