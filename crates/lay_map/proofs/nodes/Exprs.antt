-- Layers of expressions, of fields of struct literals and of steps tell their units, where the nodes within them do.
use Rattle.std.proofs.Common.{List, [], ◌∷◌, sym, subst, map, Some, None}
use Rattle.lay_node.specs.nodes.Facts.{Facts}
use Rattle.lay_code.specs.nodes.Code.{about_arm, about_block, about_branch, about_condition, about_expr, about_field_expr, about_step}
use Rattle.lay_code.specs.nodes.Exprs.{ExprFacts, expr_facts, field_facts, step_facts}
use Rattle.lay_code.specs.declared.blocks.Stmt.TheOpen.{Expr-F, FieldExpr-F, Step-F}
use Rattle.lay_code.specs.declared.blocks.Stmt.TheViews as views
use Rattle.lay_code.specs.declared.operators.Op.{Op}
use Rattle.lay_code.proofs.nodes.ExprsLaws as laws
use Rattle.lay_code.proofs.nodes.Layers.{expr_is, expr_told, field_is, field_told, step_is, step_told}
use Rattle.lay_map.proofs.nodes.ArmKinds.{ArmTells}
use Rattle.lay_map.proofs.nodes.BlockKinds.{BranchTells}
use Rattle.lay_map.proofs.nodes.CodeKept.{ExprIs, FieldIs, Kept, KeptArm, KeptBranch, KeptExpr, KeptField, KeptStep, StepIs, expr_layer, field_layer, step_layer}
use Rattle.lay_map.proofs.nodes.ExprBlocks.{async_expr, block_expr, closure_expr, const_block_expr, for_expr, if_expr, loop_expr, match_expr, typed_closure_expr, unsafe_expr, while_expr}
use Rattle.lay_map.proofs.nodes.ExprKinds.{OperandTells, TargetTells, array_expr, assign_expr, break_expr, call_expr, cast_expr, chain_expr, continue_expr, literal_expr, paren_expr, path_expr, postfix_expr, range_expr, repeat_expr, return_expr, struct_expr, tuple_expr, unary_expr, underscore_expr}
use Rattle.lay_map.proofs.nodes.ExprParts.{ExprTells, FieldTells, StepTells, apply_tells, await_tells, field_step_tells, index_step_tells, method_tells, named_tells, numbered_tells, short_tells, try_tells, tuple_index_tells}
use Rattle.lay_map.proofs.nodes.TypeArgs.{Each}
use Rattle.lay_map.proofs.nodes.Types.{kept}

abbrev exprs_told : List KeptExpr → List ExprFacts
exprs_told ys = map about_expr (map (λ (y : KeptExpr). y.0) ys)

abbrev fields_told : List KeptField → List Facts
fields_told ys = map about_field_expr (map (λ (y : KeptField). y.0) ys)

-- operands with the operators before them, and targets with the operators after them
abbrev operands_told : List (Op × KeptExpr) → List (Op × ExprFacts)
operands_told ys = map laws.behind_op (map (λ (y : Op × KeptExpr). (y.0, y.1.0)) ys)

abbrev targets_told : List (KeptExpr × Op) → List (ExprFacts × Op)
targets_told ys = map laws.before_op (map (λ (y : KeptExpr × Op). (y.0.0, y.1)) ys)

kept_operands : (ys : List (Op × KeptExpr)) → Each OperandTells (operands_told ys)
kept_operands [] = tt
kept_operands (y ∷ ys) = (y.1.1, kept_operands ys)

kept_targets : (ys : List (KeptExpr × Op)) → Each TargetTells (targets_told ys)
kept_targets [] = tt
kept_targets (y ∷ ys) = (y.0.1, kept_targets ys)

kept_exprs : (ys : List KeptExpr) → Each ExprTells (exprs_told ys)
kept_exprs ys = kept ExprTells about_expr ys

kept_fields : (ys : List KeptField) → Each FieldTells (fields_told ys)
kept_fields ys = kept FieldTells about_field_expr ys

-- ---- expressions

expr_layer_tells : (y : Kept Expr-F) → ExprTells (expr_facts (expr_told (expr_layer y)))
expr_layer_tells (Expr-F.Lit literal) = literal_expr literal
expr_layer_tells (Expr-F.Path path) = path_expr path
expr_layer_tells Expr-F.Underscore = underscore_expr
expr_layer_tells (Expr-F.Expr::Call call) = call_expr call
expr_layer_tells (Expr-F.Paren x) = paren_expr (about_expr x.0) x.1
expr_layer_tells (Expr-F.Continue label) = continue_expr label
expr_layer_tells (Expr-F.Tuple xs) = tuple_expr (exprs_told xs) (kept_exprs xs)
expr_layer_tells (Expr-F.Array xs) = array_expr (exprs_told xs) (kept_exprs xs)
expr_layer_tells (Expr-F.Repeat x length) = repeat_expr (about_expr x.0) length x.1
expr_layer_tells (Expr-F.Expr::Struct path fields None) =
    struct_expr path (fields_told fields) None (kept_fields fields) tt
expr_layer_tells (Expr-F.Expr::Struct path fields (Some None)) =
    struct_expr path (fields_told fields) (Some None) (kept_fields fields) tt
expr_layer_tells (Expr-F.Expr::Struct path fields (Some (Some x))) =
    struct_expr path (fields_told fields) (Some (Some (about_expr x.0))) (kept_fields fields) x.1
expr_layer_tells (Expr-F.Chain x more) =
    chain_expr (about_expr x.0) (operands_told more) x.1 (kept_operands more)
expr_layer_tells (Expr-F.Cast x types) = cast_expr (about_expr x.0) types x.1
expr_layer_tells (Expr-F.Unary prefixes x) = unary_expr prefixes (about_expr x.0) x.1
expr_layer_tells (Expr-F.Range None inclusive None) = range_expr None inclusive None tt tt
expr_layer_tells (Expr-F.Range None inclusive (Some y)) =
    range_expr None inclusive (Some (about_expr y.0)) tt y.1
expr_layer_tells (Expr-F.Range (Some x) inclusive None) =
    range_expr (Some (about_expr x.0)) inclusive None x.1 tt
expr_layer_tells (Expr-F.Range (Some x) inclusive (Some y)) =
    range_expr (Some (about_expr x.0)) inclusive (Some (about_expr y.0)) x.1 y.1
expr_layer_tells (Expr-F.Assign targets x) =
    assign_expr (targets_told targets) (about_expr x.0) (kept_targets targets) x.1
expr_layer_tells (Expr-F.Postfix x steps) =
    postfix_expr (about_expr x.0) (map about_step (map (λ (y : KeptStep). y.0) steps)) x.1
    (kept StepTells about_step steps)
expr_layer_tells (Expr-F.Block label b) = block_expr label (about_block b.0) b.1
expr_layer_tells (Expr-F.Unsafe b) = unsafe_expr (about_block b.0) b.1
expr_layer_tells (Expr-F.ConstBlock b) = const_block_expr (about_block b.0) b.1
expr_layer_tells (Expr-F.Async moves b) = async_expr moves (about_block b.0) b.1
expr_layer_tells (Expr-F.If branches None) =
    if_expr (map about_branch (map (λ (y : KeptBranch). y.0) branches)) None
    (kept BranchTells about_branch branches) tt
expr_layer_tells (Expr-F.If branches (Some b)) =
    if_expr (map about_branch (map (λ (y : KeptBranch). y.0) branches)) (Some (about_block b.0))
    (kept BranchTells about_branch branches) b.1
expr_layer_tells (Expr-F.Match x attrs arms) =
    match_expr (about_expr x.0) attrs (map about_arm (map (λ (y : KeptArm). y.0) arms)) x.1
    (kept ArmTells about_arm arms)
expr_layer_tells (Expr-F.Loop label b) = loop_expr label (about_block b.0) b.1
expr_layer_tells (Expr-F.While label c b) =
    while_expr label (about_condition c.0) (about_block b.0) c.1 b.1
expr_layer_tells (Expr-F.For label pat x b) = for_expr label pat (about_expr x.0) (about_block b.0) x.1 b.1
expr_layer_tells (Expr-F.Closure is_async moves params x) = closure_expr is_async moves params (about_expr x.0) x.1
expr_layer_tells (Expr-F.TypedClosure is_async moves params output b) =
    typed_closure_expr is_async moves params output (about_block b.0) b.1
expr_layer_tells (Expr-F.Return None) = return_expr None tt
expr_layer_tells (Expr-F.Return (Some x)) = return_expr (Some (about_expr x.0)) x.1
expr_layer_tells (Expr-F.Break label None) = break_expr label None tt
expr_layer_tells (Expr-F.Break label (Some x)) = break_expr label (Some (about_expr x.0)) x.1

pub expr_step : (y : Kept Expr-F) → ExprIs (views.roll-Expr (expr_layer y))
expr_step y = subst ExprTells (sym (expr_is (expr_layer y))) (expr_layer_tells y)

-- ---- fields and steps

field_layer_tells : (y : Kept FieldExpr-F) → FieldTells (field_facts (field_told (field_layer y)))
field_layer_tells (FieldExpr-F.Named attrs name x) = named_tells attrs name (about_expr x.0) x.1
field_layer_tells (FieldExpr-F.Numbered attrs index x) = numbered_tells attrs index (about_expr x.0) x.1
field_layer_tells (FieldExpr-F.Short attrs name) = short_tells attrs name

pub field_step : (y : Kept FieldExpr-F) → FieldIs (views.roll-FieldExpr (field_layer y))
field_step y = subst FieldTells (sym (field_is (field_layer y))) (field_layer_tells y)

step_layer_tells : (y : Kept Step-F) → StepTells (step_facts (step_told (step_layer y)))
step_layer_tells (Step-F.Field name) = field_step_tells name
step_layer_tells (Step-F.TupleIndex index) = tuple_index_tells index
step_layer_tells (Step-F.Method name generics args) = method_tells name generics (exprs_told args) (kept_exprs args)
step_layer_tells (Step-F.Apply args) = apply_tells (exprs_told args) (kept_exprs args)
step_layer_tells (Step-F.Index x) = index_step_tells (about_expr x.0) x.1
step_layer_tells Step-F.Try = try_tells
step_layer_tells Step-F.Await = await_tells

pub step_step : (y : Kept Step-F) → StepIs (views.roll-Step (step_layer y))
step_step y = subst StepTells (sym (step_is (step_layer y))) (step_layer_tells y)
