-- The facts about expressions, the fields of struct literals and steps, kind by kind.
use Rattle.std.proofs.Common.{◌≡◌, ℕ, Bool, List, map, Option, option_map, Some, None, sym, ap, ◌∙◌, subst}
use Rattle.lay_node.specs.declared.attr.Attr.{Attr}
use Rattle.lay_node.specs.declared.patterns.Pat.{Pat}
use Rattle.lay_node.specs.declared.token.Lifetime.{Lifetime}
use Rattle.lay_node.specs.declared.token.Listed.{Listed}
use Rattle.lay_node.specs.declared.token.Literal.{Literal}
use Rattle.lay_node.specs.declared.token.Name.{Name}
use Rattle.lay_node.specs.declared.tokens.MacroCall.{MacroCall}
use Rattle.lay_node.specs.declared.types.Arg.{Arg}
use Rattle.lay_node.specs.declared.types.Path.{Path}
use Rattle.lay_node.specs.declared.types.Ty.{Ty}
use Rattle.lay_code.specs.nodes.Code.{about_arm, about_block, about_branch, about_condition, about_expr, about_field_expr, about_step}
use Rattle.lay_code.specs.nodes.Exprs.{ExprFacts, expr_facts, field_facts, step_facts}
use Rattle.lay_code.specs.nodes.Layers.{ExprNode, FieldNode, StepNode}
use Rattle.lay_code.specs.declared.blocks.Arm.{Arm}
use Rattle.lay_code.specs.declared.blocks.Block.{Block}
use Rattle.lay_code.specs.declared.blocks.Branch.{Branch}
use Rattle.lay_code.specs.declared.conditions.Condition.{Condition}
use Rattle.lay_code.specs.declared.exprs.ClosureParam.{ClosureParam}
use Rattle.lay_code.specs.declared.exprs.Expr.{Expr}
use Rattle.lay_code.specs.declared.blocks.Stmt.TheOpen.{Expr-F, FieldExpr-F, Step-F}
use Rattle.lay_code.specs.declared.exprs.Expr.TheVariants as expr
use Rattle.lay_code.specs.declared.blocks.Stmt.TheViews as views
use Rattle.lay_code.specs.declared.exprs.FieldExpr.{FieldExpr}
use Rattle.lay_code.specs.declared.exprs.FieldExpr.TheVariants as field
use Rattle.lay_code.specs.declared.exprs.Step.{Step}
use Rattle.lay_code.specs.declared.exprs.Step.TheVariants as step
use Rattle.lay_code.specs.declared.operators.Op.{Op}
use Rattle.lay_code.specs.declared.operators.Prefix.{Prefix}
use Rattle.lay_code.proofs.nodes.Layers.{expr_is, field_is, step_is}

-- ---- which kind it is

pub data ExprView : Expr → Type 0 where
  IsLit : (literal : Literal) → ExprView (expr.Lit literal)
  IsPath : (path : Path) → ExprView (expr.Path path)
  IsUnderscore : ExprView expr.Underscore
  IsCall : (call : MacroCall) → ExprView (expr.Call call)
  IsParen : (inner : Expr) → ExprView (expr.Paren inner)
  IsContinue : (label : Option Lifetime) → ExprView (expr.Continue label)
  IsTuple : (elements : List Expr) → ExprView (expr.Tuple elements)
  IsArray : (elements : List Expr) → ExprView (expr.Array elements)
  IsRepeat : (element : Expr) (length : List Listed) → ExprView (expr.Repeat element length)
  IsStruct : (path : Path) (fields : List FieldExpr) (base : Option (Option Expr)) → ExprView (expr.Struct path fields base)
  IsChain : (operand : Expr) (more : List (Op × Expr)) → ExprView (expr.Chain operand more)
  IsCast : (operand : Expr) (types : List Ty) → ExprView (expr.Cast operand types)
  IsUnary : (prefixes : List Prefix) (operand : Expr) → ExprView (expr.Unary prefixes operand)
  IsRange : (start : Option Expr) (inclusive : Bool) (end : Option Expr) → ExprView (expr.Range start inclusive end)
  IsAssign : (targets : List (Expr × Op)) (value : Expr) → ExprView (expr.Assign targets value)
  IsPostfix : (operand : Expr) (steps : List Step) → ExprView (expr.Postfix operand steps)
  IsBlock : (label : Option Lifetime) (body : Block) → ExprView (expr.Block label body)
  IsUnsafe : (body : Block) → ExprView (expr.Unsafe body)
  IsConstBlock : (body : Block) → ExprView (expr.ConstBlock body)
  IsAsync : (moves : Bool) (body : Block) → ExprView (expr.Async moves body)
  IsIf : (branches : List Branch) (otherwise : Option Block) → ExprView (expr.If branches otherwise)
  IsMatch : (scrutinee : Expr) (attrs : List Attr) (arms : List Arm) → ExprView (expr.Match scrutinee attrs arms)
  IsLoop : (label : Option Lifetime) (body : Block) → ExprView (expr.Loop label body)
  IsWhile : (label : Option Lifetime) (condition : Condition) (body : Block) → ExprView (expr.While label condition body)
  IsFor : (label : Option Lifetime) (pat : Pat) (iterated : Expr) (body : Block) → ExprView (expr.For label pat iterated body)
  IsClosure : (is_async moves : Bool) (params : List ClosureParam) (body : Expr) → ExprView (expr.Closure is_async moves params body)
  IsTypedClosure : (is_async moves : Bool) (params : List ClosureParam) (output : Ty) (body : Block) → ExprView (expr.TypedClosure is_async moves params output body)
  IsReturn : (operand : Option Expr) → ExprView (expr.Return operand)
  IsBreak : (label : Option Lifetime) (operand : Option Expr) → ExprView (expr.Break label operand)

pub data FieldExprView : FieldExpr → Type 0 where
  IsNamed : (attrs : List Attr) (name : Name) (value : Expr) → FieldExprView (field.Named attrs name value)
  IsNumbered : (attrs : List Attr) (index : List ℕ) (value : Expr) → FieldExprView (field.Numbered attrs index value)
  IsShort : (attrs : List Attr) (name : Name) → FieldExprView (field.Short attrs name)

pub data StepView : Step → Type 0 where
  IsFieldStep : (name : Name) → StepView (step.Field name)
  IsTupleIndexStep : (index : List ℕ) → StepView (step.TupleIndex index)
  IsMethodStep : (name : Name) (generics : Option (List Arg)) (args : List Expr) → StepView (step.Method name generics args)
  IsApplyStep : (args : List Expr) → StepView (step.Apply args)
  IsIndexStep : (index : Expr) → StepView (step.Index index)
  IsTryStep : StepView step.Try
  IsAwaitStep : StepView step.Await

expr_layer : (layer : ExprNode) → ExprView (views.roll-Expr layer)
expr_layer (Expr-F.Lit literal) = subst ExprView (sym (views.rolls-Lit literal)) (IsLit literal)
expr_layer (Expr-F.Path path) = subst ExprView (sym (views.rolls-Path path)) (IsPath path)
expr_layer Expr-F.Underscore = subst ExprView (sym views.rolls-Underscore) IsUnderscore
expr_layer (Expr-F.Expr::Call call) = subst ExprView (sym (views.rolls-Expr::Call call)) (IsCall call)
expr_layer (Expr-F.Paren inner) = subst ExprView (sym (views.rolls-Paren inner)) (IsParen inner)
expr_layer (Expr-F.Continue label) = subst ExprView (sym (views.rolls-Continue label)) (IsContinue label)
expr_layer (Expr-F.Tuple elements) = subst ExprView (sym (views.rolls-Tuple elements)) (IsTuple elements)
expr_layer (Expr-F.Array elements) = subst ExprView (sym (views.rolls-Array elements)) (IsArray elements)
expr_layer (Expr-F.Repeat element length) = subst ExprView (sym (views.rolls-Repeat element length)) (IsRepeat element length)
expr_layer (Expr-F.Expr::Struct path fields base) = subst ExprView (sym (views.rolls-Expr::Struct path fields base)) (IsStruct path fields base)
expr_layer (Expr-F.Chain operand more) = subst ExprView (sym (views.rolls-Chain operand more)) (IsChain operand more)
expr_layer (Expr-F.Cast operand types) = subst ExprView (sym (views.rolls-Cast operand types)) (IsCast operand types)
expr_layer (Expr-F.Unary prefixes operand) = subst ExprView (sym (views.rolls-Unary prefixes operand)) (IsUnary prefixes operand)
expr_layer (Expr-F.Range start inclusive end) = subst ExprView (sym (views.rolls-Range start inclusive end)) (IsRange start inclusive end)
expr_layer (Expr-F.Assign targets value) = subst ExprView (sym (views.rolls-Assign targets value)) (IsAssign targets value)
expr_layer (Expr-F.Postfix operand steps) = subst ExprView (sym (views.rolls-Postfix operand steps)) (IsPostfix operand steps)
expr_layer (Expr-F.Block label body) = subst ExprView (sym (views.rolls-Block label body)) (IsBlock label body)
expr_layer (Expr-F.Unsafe body) = subst ExprView (sym (views.rolls-Unsafe body)) (IsUnsafe body)
expr_layer (Expr-F.ConstBlock body) = subst ExprView (sym (views.rolls-ConstBlock body)) (IsConstBlock body)
expr_layer (Expr-F.Async moves body) = subst ExprView (sym (views.rolls-Async moves body)) (IsAsync moves body)
expr_layer (Expr-F.If branches otherwise) = subst ExprView (sym (views.rolls-If branches otherwise)) (IsIf branches otherwise)
expr_layer (Expr-F.Match scrutinee attrs arms) = subst ExprView (sym (views.rolls-Match scrutinee attrs arms)) (IsMatch scrutinee attrs arms)
expr_layer (Expr-F.Loop label body) = subst ExprView (sym (views.rolls-Loop label body)) (IsLoop label body)
expr_layer (Expr-F.While label condition body) = subst ExprView (sym (views.rolls-While label condition body)) (IsWhile label condition body)
expr_layer (Expr-F.For label pat iterated body) = subst ExprView (sym (views.rolls-For label pat iterated body)) (IsFor label pat iterated body)
expr_layer (Expr-F.Closure is_async moves params body) = subst ExprView (sym (views.rolls-Closure is_async moves params body)) (IsClosure is_async moves params body)
expr_layer (Expr-F.TypedClosure is_async moves params output body) = subst ExprView (sym (views.rolls-TypedClosure is_async moves params output body)) (IsTypedClosure is_async moves params output body)
expr_layer (Expr-F.Return operand) = subst ExprView (sym (views.rolls-Return operand)) (IsReturn operand)
expr_layer (Expr-F.Break label operand) = subst ExprView (sym (views.rolls-Break label operand)) (IsBreak label operand)

field_layer : (layer : FieldNode) → FieldExprView (views.roll-FieldExpr layer)
field_layer (FieldExpr-F.Named attrs name value) = subst FieldExprView (sym (views.rolls-Named attrs name value)) (IsNamed attrs name value)
field_layer (FieldExpr-F.Numbered attrs index value) = subst FieldExprView (sym (views.rolls-Numbered attrs index value)) (IsNumbered attrs index value)
field_layer (FieldExpr-F.Short attrs name) = subst FieldExprView (sym (views.rolls-Short attrs name)) (IsShort attrs name)

step_layer : (layer : StepNode) → StepView (views.roll-Step layer)
step_layer (Step-F.Field name) = subst StepView (sym (views.rolls-Field name)) (IsFieldStep name)
step_layer (Step-F.TupleIndex index) = subst StepView (sym (views.rolls-TupleIndex index)) (IsTupleIndexStep index)
step_layer (Step-F.Method name generics args) = subst StepView (sym (views.rolls-Method name generics args)) (IsMethodStep name generics args)
step_layer (Step-F.Apply args) = subst StepView (sym (views.rolls-Apply args)) (IsApplyStep args)
step_layer (Step-F.Index index) = subst StepView (sym (views.rolls-Index index)) (IsIndexStep index)
step_layer Step-F.Try = subst StepView (sym views.rolls-Try) IsTryStep
step_layer Step-F.Await = subst StepView (sym views.rolls-Await) IsAwaitStep

pub expr_view : (x : Expr) → ExprView x
expr_view x = subst ExprView (views.roll-out-Expr x) (expr_layer (views.out-Expr x))

pub field_expr_view : (x : FieldExpr) → FieldExprView x
field_expr_view x = subst FieldExprView (views.roll-out-FieldExpr x) (field_layer (views.out-FieldExpr x))

pub step_view : (x : Step) → StepView x
step_view x = subst StepView (views.roll-out-Step x) (step_layer (views.out-Step x))

-- ---- the facts about it

-- an operator and the operand after it, and an operand and the operator after it
abbrev pub behind_op : Op × Expr → Op × ExprFacts
behind_op x = (x.0, about_expr x.1)

abbrev pub before_op : Expr × Op → ExprFacts × Op
before_op x = (about_expr x.0, x.1)

pub expr_lit_is : (literal : Literal) → about_expr (expr.Lit literal) ≡ expr_facts (Expr-F.Lit literal)
expr_lit_is literal =
    ap about_expr (sym (views.rolls-Lit literal))
    ∙ expr_is (Expr-F.Lit literal)

pub expr_path_is : (path : Path) → about_expr (expr.Path path) ≡ expr_facts (Expr-F.Path path)
expr_path_is path =
    ap about_expr (sym (views.rolls-Path path))
    ∙ expr_is (Expr-F.Path path)

pub expr_underscore_is : about_expr expr.Underscore ≡ expr_facts Expr-F.Underscore
expr_underscore_is =
    ap about_expr (sym views.rolls-Underscore)
    ∙ expr_is Expr-F.Underscore

pub expr_call_is : (call : MacroCall) → about_expr (expr.Call call) ≡ expr_facts (Expr-F.Expr::Call call)
expr_call_is call =
    ap about_expr (sym (views.rolls-Expr::Call call))
    ∙ expr_is (Expr-F.Expr::Call call)

pub expr_paren_is : (inner : Expr) → about_expr (expr.Paren inner) ≡ expr_facts (Expr-F.Paren (about_expr inner))
expr_paren_is inner =
    ap about_expr (sym (views.rolls-Paren inner))
    ∙ expr_is (Expr-F.Paren inner)

pub expr_continue_is : (label : Option Lifetime) → about_expr (expr.Continue label) ≡ expr_facts (Expr-F.Continue label)
expr_continue_is label =
    ap about_expr (sym (views.rolls-Continue label))
    ∙ expr_is (Expr-F.Continue label)

pub expr_tuple_is : (elements : List Expr) → about_expr (expr.Tuple elements) ≡ expr_facts (Expr-F.Tuple (map about_expr elements))
expr_tuple_is elements =
    ap about_expr (sym (views.rolls-Tuple elements))
    ∙ expr_is (Expr-F.Tuple elements)

pub expr_array_is : (elements : List Expr) → about_expr (expr.Array elements) ≡ expr_facts (Expr-F.Array (map about_expr elements))
expr_array_is elements =
    ap about_expr (sym (views.rolls-Array elements))
    ∙ expr_is (Expr-F.Array elements)

pub expr_repeat_is : (element : Expr) (length : List Listed) → about_expr (expr.Repeat element length) ≡ expr_facts (Expr-F.Repeat (about_expr element) length)
expr_repeat_is element length =
    ap about_expr (sym (views.rolls-Repeat element length))
    ∙ expr_is (Expr-F.Repeat element length)

pub expr_struct_is : (path : Path) (fields : List FieldExpr) (base : Option (Option Expr)) → about_expr (expr.Struct path fields base) ≡ expr_facts (Expr-F.Expr::Struct path (map about_field_expr fields) (option_map (option_map about_expr) base))
expr_struct_is path fields None =
    ap about_expr (sym (views.rolls-Expr::Struct path fields None))
    ∙ expr_is (Expr-F.Expr::Struct path fields None)
expr_struct_is path fields (Some None) =
    ap about_expr (sym (views.rolls-Expr::Struct path fields (Some None)))
    ∙ expr_is (Expr-F.Expr::Struct path fields (Some None))
expr_struct_is path fields (Some (Some x)) =
    ap about_expr (sym (views.rolls-Expr::Struct path fields (Some (Some x))))
    ∙ expr_is (Expr-F.Expr::Struct path fields (Some (Some x)))

pub expr_chain_is : (operand : Expr) (more : List (Op × Expr)) → about_expr (expr.Chain operand more) ≡ expr_facts (Expr-F.Chain (about_expr operand) (map behind_op more))
expr_chain_is operand more =
    ap about_expr (sym (views.rolls-Chain operand more))
    ∙ expr_is (Expr-F.Chain operand more)

pub expr_cast_is : (operand : Expr) (types : List Ty) → about_expr (expr.Cast operand types) ≡ expr_facts (Expr-F.Cast (about_expr operand) types)
expr_cast_is operand types =
    ap about_expr (sym (views.rolls-Cast operand types))
    ∙ expr_is (Expr-F.Cast operand types)

pub expr_unary_is : (prefixes : List Prefix) (operand : Expr) → about_expr (expr.Unary prefixes operand) ≡ expr_facts (Expr-F.Unary prefixes (about_expr operand))
expr_unary_is prefixes operand =
    ap about_expr (sym (views.rolls-Unary prefixes operand))
    ∙ expr_is (Expr-F.Unary prefixes operand)

pub expr_range_is : (start : Option Expr) (inclusive : Bool) (end : Option Expr) → about_expr (expr.Range start inclusive end) ≡ expr_facts (Expr-F.Range (option_map about_expr start) inclusive (option_map about_expr end))
expr_range_is None inclusive None =
    ap about_expr (sym (views.rolls-Range None inclusive None))
    ∙ expr_is (Expr-F.Range None inclusive None)
expr_range_is None inclusive (Some y) =
    ap about_expr (sym (views.rolls-Range None inclusive (Some y)))
    ∙ expr_is (Expr-F.Range None inclusive (Some y))
expr_range_is (Some x) inclusive None =
    ap about_expr (sym (views.rolls-Range (Some x) inclusive None))
    ∙ expr_is (Expr-F.Range (Some x) inclusive None)
expr_range_is (Some x) inclusive (Some y) =
    ap about_expr (sym (views.rolls-Range (Some x) inclusive (Some y)))
    ∙ expr_is (Expr-F.Range (Some x) inclusive (Some y))

pub expr_assign_is : (targets : List (Expr × Op)) (value : Expr) → about_expr (expr.Assign targets value) ≡ expr_facts (Expr-F.Assign (map before_op targets) (about_expr value))
expr_assign_is targets value =
    ap about_expr (sym (views.rolls-Assign targets value))
    ∙ expr_is (Expr-F.Assign targets value)

pub expr_postfix_is : (operand : Expr) (steps : List Step) → about_expr (expr.Postfix operand steps) ≡ expr_facts (Expr-F.Postfix (about_expr operand) (map about_step steps))
expr_postfix_is operand steps =
    ap about_expr (sym (views.rolls-Postfix operand steps))
    ∙ expr_is (Expr-F.Postfix operand steps)

pub expr_block_is : (label : Option Lifetime) (body : Block) → about_expr (expr.Block label body) ≡ expr_facts (Expr-F.Block label (about_block body))
expr_block_is label body =
    ap about_expr (sym (views.rolls-Block label body))
    ∙ expr_is (Expr-F.Block label body)

pub expr_unsafe_is : (body : Block) → about_expr (expr.Unsafe body) ≡ expr_facts (Expr-F.Unsafe (about_block body))
expr_unsafe_is body =
    ap about_expr (sym (views.rolls-Unsafe body))
    ∙ expr_is (Expr-F.Unsafe body)

pub expr_const_block_is : (body : Block) → about_expr (expr.ConstBlock body) ≡ expr_facts (Expr-F.ConstBlock (about_block body))
expr_const_block_is body =
    ap about_expr (sym (views.rolls-ConstBlock body))
    ∙ expr_is (Expr-F.ConstBlock body)

pub expr_async_is : (moves : Bool) (body : Block) → about_expr (expr.Async moves body) ≡ expr_facts (Expr-F.Async moves (about_block body))
expr_async_is moves body =
    ap about_expr (sym (views.rolls-Async moves body))
    ∙ expr_is (Expr-F.Async moves body)

pub expr_if_is : (branches : List Branch) (otherwise : Option Block) → about_expr (expr.If branches otherwise) ≡ expr_facts (Expr-F.If (map about_branch branches) (option_map about_block otherwise))
expr_if_is branches None =
    ap about_expr (sym (views.rolls-If branches None))
    ∙ expr_is (Expr-F.If branches None)
expr_if_is branches (Some x0) =
    ap about_expr (sym (views.rolls-If branches (Some x0)))
    ∙ expr_is (Expr-F.If branches (Some x0))

pub expr_match_is : (scrutinee : Expr) (attrs : List Attr) (arms : List Arm) → about_expr (expr.Match scrutinee attrs arms) ≡ expr_facts (Expr-F.Match (about_expr scrutinee) attrs (map about_arm arms))
expr_match_is scrutinee attrs arms =
    ap about_expr (sym (views.rolls-Match scrutinee attrs arms))
    ∙ expr_is (Expr-F.Match scrutinee attrs arms)

pub expr_loop_is : (label : Option Lifetime) (body : Block) → about_expr (expr.Loop label body) ≡ expr_facts (Expr-F.Loop label (about_block body))
expr_loop_is label body =
    ap about_expr (sym (views.rolls-Loop label body))
    ∙ expr_is (Expr-F.Loop label body)

pub expr_while_is : (label : Option Lifetime) (condition : Condition) (body : Block) → about_expr (expr.While label condition body) ≡ expr_facts (Expr-F.While label (about_condition condition) (about_block body))
expr_while_is label condition body =
    ap about_expr (sym (views.rolls-While label condition body))
    ∙ expr_is (Expr-F.While label condition body)

pub expr_for_is : (label : Option Lifetime) (pat : Pat) (iterated : Expr) (body : Block) → about_expr (expr.For label pat iterated body) ≡ expr_facts (Expr-F.For label pat (about_expr iterated) (about_block body))
expr_for_is label pat iterated body =
    ap about_expr (sym (views.rolls-For label pat iterated body))
    ∙ expr_is (Expr-F.For label pat iterated body)

pub expr_closure_is : (is_async moves : Bool) (params : List ClosureParam) (body : Expr) → about_expr (expr.Closure is_async moves params body) ≡ expr_facts (Expr-F.Closure is_async moves params (about_expr body))
expr_closure_is is_async moves params body =
    ap about_expr (sym (views.rolls-Closure is_async moves params body))
    ∙ expr_is (Expr-F.Closure is_async moves params body)

pub expr_typed_closure_is : (is_async moves : Bool) (params : List ClosureParam) (output : Ty) (body : Block) → about_expr (expr.TypedClosure is_async moves params output body) ≡ expr_facts (Expr-F.TypedClosure is_async moves params output (about_block body))
expr_typed_closure_is is_async moves params output body =
    ap about_expr (sym (views.rolls-TypedClosure is_async moves params output body))
    ∙ expr_is (Expr-F.TypedClosure is_async moves params output body)

pub expr_return_is : (operand : Option Expr) → about_expr (expr.Return operand) ≡ expr_facts (Expr-F.Return (option_map about_expr operand))
expr_return_is None =
    ap about_expr (sym (views.rolls-Return None))
    ∙ expr_is (Expr-F.Return None)
expr_return_is (Some x) =
    ap about_expr (sym (views.rolls-Return (Some x)))
    ∙ expr_is (Expr-F.Return (Some x))

pub expr_break_is : (label : Option Lifetime) (operand : Option Expr) → about_expr (expr.Break label operand) ≡ expr_facts (Expr-F.Break label (option_map about_expr operand))
expr_break_is label None =
    ap about_expr (sym (views.rolls-Break label None))
    ∙ expr_is (Expr-F.Break label None)
expr_break_is label (Some x) =
    ap about_expr (sym (views.rolls-Break label (Some x)))
    ∙ expr_is (Expr-F.Break label (Some x))

pub field_expr_named_is : (attrs : List Attr) (name : Name) (value : Expr) → about_field_expr (field.Named attrs name value) ≡ field_facts (FieldExpr-F.Named attrs name (about_expr value))
field_expr_named_is attrs name value =
    ap about_field_expr (sym (views.rolls-Named attrs name value))
    ∙ field_is (FieldExpr-F.Named attrs name value)

pub field_expr_numbered_is : (attrs : List Attr) (index : List ℕ) (value : Expr) → about_field_expr (field.Numbered attrs index value) ≡ field_facts (FieldExpr-F.Numbered attrs index (about_expr value))
field_expr_numbered_is attrs index value =
    ap about_field_expr (sym (views.rolls-Numbered attrs index value))
    ∙ field_is (FieldExpr-F.Numbered attrs index value)

pub field_expr_short_is : (attrs : List Attr) (name : Name) → about_field_expr (field.Short attrs name) ≡ field_facts (FieldExpr-F.Short attrs name)
field_expr_short_is attrs name =
    ap about_field_expr (sym (views.rolls-Short attrs name))
    ∙ field_is (FieldExpr-F.Short attrs name)

pub step_field_is : (name : Name) → about_step (step.Field name) ≡ step_facts (Step-F.Field name)
step_field_is name =
    ap about_step (sym (views.rolls-Field name))
    ∙ step_is (Step-F.Field name)

pub step_tuple_index_is : (index : List ℕ) → about_step (step.TupleIndex index) ≡ step_facts (Step-F.TupleIndex index)
step_tuple_index_is index =
    ap about_step (sym (views.rolls-TupleIndex index))
    ∙ step_is (Step-F.TupleIndex index)

pub step_method_is : (name : Name) (generics : Option (List Arg)) (args : List Expr) → about_step (step.Method name generics args) ≡ step_facts (Step-F.Method name generics (map about_expr args))
step_method_is name generics args =
    ap about_step (sym (views.rolls-Method name generics args))
    ∙ step_is (Step-F.Method name generics args)

pub step_apply_is : (args : List Expr) → about_step (step.Apply args) ≡ step_facts (Step-F.Apply (map about_expr args))
step_apply_is args =
    ap about_step (sym (views.rolls-Apply args))
    ∙ step_is (Step-F.Apply args)

pub step_index_is : (index : Expr) → about_step (step.Index index) ≡ step_facts (Step-F.Index (about_expr index))
step_index_is index =
    ap about_step (sym (views.rolls-Index index))
    ∙ step_is (Step-F.Index index)

pub step_try_is : about_step step.Try ≡ step_facts Step-F.Try
step_try_is =
    ap about_step (sym views.rolls-Try)
    ∙ step_is Step-F.Try

pub step_await_is : about_step step.Await ≡ step_facts Step-F.Await
step_await_is =
    ap about_step (sym views.rolls-Await)
    ∙ step_is Step-F.Await
