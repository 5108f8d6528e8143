-- What the layout asks of bodies, statements and steps is the same of them where they are enclosed.
use Rattle.std.proofs.Common.{◌≡◌, ℕ, ◌+◌, if◌then◌else◌, not, ◌&&◌, Bool, true, false, List, [], ◌∷◌, map, Option, option_map, Some, None, refl, sym, ap, ◌∙◌}
use Rattle.lay_form.specs.Form.{Marked}
use Rattle.lay_node.specs.declared.attr.Attr.{Attr}
use Rattle.lay_node.specs.declared.token.Lifetime.{Lifetime}
use Rattle.lay_code.specs.nodes.Bodies.{braces_of}
use Rattle.lay_code.specs.nodes.Blocks.{is_single}
use Rattle.lay_code.specs.nodes.Code.{about_expr, about_step, about_stmt}
use Rattle.lay_code.specs.nodes.CodeFacts.{StmtFacts}
use Rattle.lay_code.specs.nodes.Exprs.{ExprFacts, StepFacts, body_braces, is_method, methods}
use Rattle.lay_code.specs.nodes.Layers.{ExprNode}
use Rattle.lay_code.specs.declared.blocks.Block.{Block}
use Rattle.lay_code.specs.declared.blocks.Stmt.{Stmt}
use Rattle.lay_code.specs.declared.blocks.Stmt.TheOpen.{Expr-F}
use Rattle.lay_code.specs.declared.blocks.Stmt.TheViews as views
use Rattle.lay_code.specs.declared.exprs.Expr.{Expr}
use Rattle.lay_code.specs.declared.exprs.Expr.TheVariants as expr
use Rattle.lay_code.specs.declared.exprs.Step.{Step}
use Rattle.lay_code.proofs.nodes.BlocksLaws.{IsExpr, IsItem, IsLet, StmtView, stmt_expr_is, stmt_item_is, stmt_let_is, stmt_view}
use Rattle.lay_code.proofs.nodes.ExprsLaws.{IsApplyStep, IsAwaitStep, IsFieldStep, IsIndexStep, IsMethodStep, IsTryStep, IsTupleIndexStep, StepView, expr_block_is, expr_paren_is, step_apply_is, step_await_is, step_field_is, step_index_is, step_method_is, step_try_is, step_tuple_index_is, step_view}
use Rattle.lay_paren_defs.specs.Enclosed.{bodied, body_part, enclose, enclose_arm, enclose_block, enclose_branch, enclose_condition, enclose_field, enclose_step, enclose_stmt, enclosed, expr_shell, is_bare, is_bare_node, operand_part, part, target_part}
use Rattle.lay_paren_defs.proofs.ShellLemmas.{shell_is}
use Rattle.lay_paren_defs.proofs.WholeLemmas.{whole, whole_step, whole_stmt}

-- ---- bodies

bare_layer : (d : Bool) (layer : ExprNode) → is_bare (expr_shell d layer) ≡ is_bare_node layer
bare_layer d (Expr-F.Lit l) = ap is_bare_node (views.outs-Lit l)
bare_layer d (Expr-F.Path path) = ap is_bare_node (views.outs-Path path)
bare_layer d Expr-F.Underscore = ap is_bare_node views.outs-Underscore
bare_layer d (Expr-F.Expr::Call call) = ap is_bare_node (views.outs-Expr::Call call)
bare_layer d (Expr-F.Paren x) = ap is_bare_node (views.outs-Paren (part d x))
bare_layer d (Expr-F.Continue label) = ap is_bare_node (views.outs-Continue label)
bare_layer d (Expr-F.Tuple xs) = ap is_bare_node (views.outs-Tuple (map (part d) xs))
bare_layer d (Expr-F.Array xs) = ap is_bare_node (views.outs-Array (map (part d) xs))
bare_layer d (Expr-F.Repeat x length) = ap is_bare_node (views.outs-Repeat (part d x) length)
bare_layer d (Expr-F.Expr::Struct path fields base) = ap is_bare_node (views.outs-Expr::Struct path (map (enclose_field d) fields) (option_map (option_map (part d)) base))
bare_layer d (Expr-F.Chain x rest) = ap is_bare_node (views.outs-Chain (part d x) (map (operand_part d) rest))
bare_layer d (Expr-F.Cast x types) = ap is_bare_node (views.outs-Cast (part d x) types)
bare_layer d (Expr-F.Unary ps x) = ap is_bare_node (views.outs-Unary ps (part d x))
bare_layer d (Expr-F.Range start inclusive end) = ap is_bare_node (views.outs-Range (option_map (part d) start) inclusive (option_map (part d) end))
bare_layer d (Expr-F.Assign targets x) = ap is_bare_node (views.outs-Assign (map (target_part d) targets) (part d x))
bare_layer d (Expr-F.Postfix x steps) = ap is_bare_node (views.outs-Postfix (part d x) (map (enclose_step d) steps))
bare_layer d (Expr-F.Unsafe b) = ap is_bare_node (views.outs-Unsafe (enclose_block d b))
bare_layer d (Expr-F.ConstBlock b) = ap is_bare_node (views.outs-ConstBlock (enclose_block d b))
bare_layer d (Expr-F.Async moves b) = ap is_bare_node (views.outs-Async moves (enclose_block d b))
bare_layer d (Expr-F.If branches otherwise) = ap is_bare_node (views.outs-If (map (enclose_branch d) branches) (option_map (enclose_block d) otherwise))
bare_layer d (Expr-F.Match x attrs arms) = ap is_bare_node (views.outs-Match (part d x) attrs (map (enclose_arm d) arms))
bare_layer d (Expr-F.Loop label b) = ap is_bare_node (views.outs-Loop label (enclose_block d b))
bare_layer d (Expr-F.While label c b) = ap is_bare_node (views.outs-While label (enclose_condition d c) (enclose_block d b))
bare_layer d (Expr-F.For label pat x b) = ap is_bare_node (views.outs-For label pat (part d x) (enclose_block d b))
bare_layer d (Expr-F.Closure is_async moves params x) = ap is_bare_node (views.outs-Closure is_async moves params (body_part d x))
bare_layer d (Expr-F.TypedClosure is_async moves params output b) = ap is_bare_node (views.outs-TypedClosure is_async moves params output (enclose_block d b))
bare_layer d (Expr-F.Return x) = ap is_bare_node (views.outs-Return (option_map (part d) x))
bare_layer d (Expr-F.Break label x) = ap is_bare_node (views.outs-Break label (option_map (part d) x))
bare_layer d (Expr-F.Block None b) = ap is_bare_node (views.outs-Block None (enclose_block d b))
bare_layer d (Expr-F.Block (Some l) b) = ap is_bare_node (views.outs-Block (Some l) (enclose_block d b))

-- It is a block without a label or it isn't, enclosed or not.
pub bare_kept : (d : Bool) (x : Expr) → is_bare (enclose d x) ≡ is_bare x
bare_kept d x = sym (ap is_bare (shell_is d x)) ∙ bare_layer d (views.out-Expr x)

bodied_by : (x : Expr) (bare : Bool) → is_bare x ≡ bare → bodied x ≡ (if bare then x else expr.Paren x)
bodied_by x bare is = ap (λ (b : Bool). if b then x else expr.Paren x) is

not_true : (b : Bool) → not b ≡ true → b ≡ false
not_true true e = cc
not_true false e = refl

not_false : (b : Bool) → not b ≡ false → b ≡ true
not_false true e = refl
not_false false e = cc

-- A body that gets parentheses is a part, and any other is a whole.
pub body_enclosed : (d : Bool) (x : Expr) → (d && not (is_bare x)) ≡ true → body_part d x ≡ part d x
body_enclosed true x is = bodied_by (enclosed x) false (bare_kept true x ∙ not_true (is_bare x) is)
body_enclosed false x is = cc

pub body_whole : (d : Bool) (x : Expr) → (d && not (is_bare x)) ≡ false → body_part d x ≡ enclose d x
body_whole true x is = bodied_by (enclosed x) true (bare_kept true x ∙ not_false (is_bare x) is)
body_whole false x is = refl

-- A body in parentheses may wear braces.
paren_braces : (x : Expr) → braces_of (about_expr (expr.Paren x)).kind ≡ Marked
paren_braces x = ap (λ (z : ExprFacts). braces_of z.kind) (expr_paren_is x)

paren_body : (x : Expr) → body_braces (about_expr (expr.Paren x)) ≡ Marked
paren_body x = ap body_braces (expr_paren_is x)

pub enclosed_braces : (d : Bool) (x : Expr) → (d && not (is_bare x)) ≡ true → Marked ≡ braces_of (about_expr (body_part d x)).kind
enclosed_braces true x is =
    sym (ap (λ (z : Expr). braces_of (about_expr z).kind) (body_enclosed true x is) ∙ paren_braces (enclosed x))
enclosed_braces false x is = cc

pub enclosed_body : (d : Bool) (x : Expr) → (d && not (is_bare x)) ≡ true → Marked ≡ body_braces (about_expr (body_part d x))
enclosed_body true x is =
    sym (ap (λ (z : Expr). body_braces (about_expr z)) (body_enclosed true x is) ∙ paren_body (enclosed x))
enclosed_body false x is = cc

-- A block without a label wears those that it wears as it is.
bare_is_block : (layer : ExprNode) → is_bare_node layer ≡ true → (b : Block) × (layer ≡ Expr-F.Block None b)
bare_is_block (Expr-F.Block None b) is = (b, refl)
bare_is_block _ is = cc

bare_block : (x : Expr) → is_bare x ≡ true → (b : Block) × (x ≡ expr.Block None b)
bare_block x is =
    let found = bare_is_block (views.out-Expr x) is in
    (found.0, sym (views.roll-out-Expr x) ∙ ap views.roll-Expr found.1 ∙ views.rolls-Block None found.0)

-- What is no block is none without a label.
pub other_bare : (x : Expr) → ((label : Option Lifetime) (b : Block) → x ≡ expr.Block label b → ⊥) → is_bare x ≡ false
other_bare x no_block = by (is_bare x) refl
  where
    by : (bare : Bool) → is_bare x ≡ bare → bare ≡ false
    by true is = let found = bare_block x is in absurd (no_block None found.0 found.1)
    by false is = refl

-- A block is one where it has none.
pub block_bare : (x : Expr) (label : Option Lifetime) (b : Block) → x ≡ expr.Block label b → label ≡ None → is_bare x ≡ true
block_bare x label b is none =
    ap is_bare is ∙ ap is_bare_node (views.outs-Block label b) ∙ ap (λ (l : Option Lifetime). is_bare_node (Expr-F.Block l b)) none

pub labelled_bare : (x : Expr) (label : Option Lifetime) (b : Block) (l : Lifetime) → x ≡ expr.Block label b → label ≡ Some l
    → is_bare x ≡ false
labelled_bare x label b l is some =
    ap is_bare is ∙ ap is_bare_node (views.outs-Block label b) ∙ ap (λ (m : Option Lifetime). is_bare_node (Expr-F.Block m b)) some

-- A body gets parentheses where parts do, unless it is one.
pub never_enclosed : (d bare : Bool) → bare ≡ true → false ≡ (d && not bare)
never_enclosed true bare is = rw is refl
never_enclosed false bare is = refl

pub enclosed_as_parts : (d bare : Bool) → bare ≡ false → d ≡ (d && not bare)
enclosed_as_parts true bare is = rw is refl
enclosed_as_parts false bare is = refl

block_by : {A : Type 0} (f : Expr → A) (d : Bool) (x : Expr) → ((b c : Block) → f (expr.Block None b) ≡ f (expr.Block None c))
    → is_bare x ≡ true → f x ≡ f (enclose d x)
block_by f d x any is =
    let found = bare_block x is in
    ap f found.1 ∙ any found.0 (enclose_block d found.0) ∙ sym (ap f (whole d found.1 (views.outs-Block None found.0)))

pub whole_braces : (d : Bool) (x : Expr) → (d && not (is_bare x)) ≡ false
    → braces_of (about_expr x).kind ≡ braces_of (about_expr (body_part d x)).kind
whole_braces true x is =
    block_by (λ (z : Expr). braces_of (about_expr z).kind) true x
    (λ b c. ap (λ (z : ExprFacts). braces_of z.kind) (expr_block_is None b)
    ∙ sym (ap (λ (z : ExprFacts). braces_of z.kind) (expr_block_is None c))) (not_false (is_bare x) is)
    ∙ sym (ap (λ (z : Expr). braces_of (about_expr z).kind) (body_whole true x is))
whole_braces false x is = refl

pub whole_body : (d : Bool) (x : Expr) → (d && not (is_bare x)) ≡ false
    → body_braces (about_expr x) ≡ body_braces (about_expr (body_part d x))
whole_body true x is =
    block_by (λ (z : Expr). body_braces (about_expr z)) true x
    (λ b c. ap body_braces (expr_block_is None b) ∙ sym (ap body_braces (expr_block_is None c))) (not_false (is_bare x) is)
    ∙ sym (ap (λ (z : Expr). body_braces (about_expr z)) (body_whole true x is))
whole_body false x is = refl

-- ---- statements

bare_stmt : (d : Bool) (x : Stmt) → StmtView x → (about_stmt x).bare ≡ (about_stmt (enclose_stmt d x)).bare
bare_stmt d _ (IsLet attrs pat ty value otherwise) =
    ap (λ (z : StmtFacts). z.bare) (stmt_let_is attrs pat ty value otherwise)
    ∙ sym (ap (λ (z : Stmt). (about_stmt z).bare) (whole_stmt d refl (views.outs-Stmt::Let attrs pat ty value otherwise))
    ∙ ap (λ (z : StmtFacts). z.bare) (stmt_let_is attrs pat ty _ _))
bare_stmt d _ (IsItem item) =
    ap (λ (z : StmtFacts). z.bare) (stmt_item_is item)
    ∙ sym (ap (λ (z : Stmt). (about_stmt z).bare) (whole_stmt d refl (views.outs-Item item))
    ∙ ap (λ (z : StmtFacts). z.bare) (stmt_item_is _))
bare_stmt d _ (IsExpr attrs x ended) =
    ap (λ (z : StmtFacts). z.bare) (stmt_expr_is attrs x ended)
    ∙ sym (ap (λ (z : Stmt). (about_stmt z).bare) (whole_stmt d refl (views.outs-Stmt::Expr attrs x ended))
    ∙ ap (λ (z : StmtFacts). z.bare) (stmt_expr_is attrs _ ended))

-- A block is one expression or it isn't, enclosed or not.
pub single_kept : (d : Bool) (attrs : List Attr) (stmts : List Stmt)
    → is_single attrs (map about_stmt stmts) ≡ is_single attrs (map about_stmt (map (enclose_stmt d) stmts))
single_kept d [] [] = refl
single_kept d [] (x ∷ []) = bare_stmt d x (stmt_view x)
single_kept d [] (x ∷ y ∷ more) = refl
single_kept d (a ∷ attrs) [] = refl
single_kept d (a ∷ attrs) (x ∷ []) = refl
single_kept d (a ∷ attrs) (x ∷ y ∷ more) = refl

-- ---- steps

method_by : (d : Bool) (x : Step) → StepView x → is_method (about_step x).kind ≡ is_method (about_step (enclose_step d x)).kind
method_by d _ (IsFieldStep name) =
    ap (λ (z : StepFacts). is_method z.kind) (step_field_is name)
    ∙ sym (ap (λ (z : Step). is_method (about_step z).kind) (whole_step d refl (views.outs-Field name))
    ∙ ap (λ (z : StepFacts). is_method z.kind) (step_field_is name))
method_by d _ (IsTupleIndexStep index) =
    ap (λ (z : StepFacts). is_method z.kind) (step_tuple_index_is index)
    ∙ sym (ap (λ (z : Step). is_method (about_step z).kind) (whole_step d refl (views.outs-TupleIndex index))
    ∙ ap (λ (z : StepFacts). is_method z.kind) (step_tuple_index_is index))
method_by d _ (IsMethodStep name generics args) =
    ap (λ (z : StepFacts). is_method z.kind) (step_method_is name generics args)
    ∙ sym (ap (λ (z : Step). is_method (about_step z).kind) (whole_step d refl (views.outs-Method name generics args))
    ∙ ap (λ (z : StepFacts). is_method z.kind) (step_method_is name generics _))
method_by d _ (IsApplyStep args) =
    ap (λ (z : StepFacts). is_method z.kind) (step_apply_is args)
    ∙ sym (ap (λ (z : Step). is_method (about_step z).kind) (whole_step d refl (views.outs-Apply args))
    ∙ ap (λ (z : StepFacts). is_method z.kind) (step_apply_is _))
method_by d _ (IsIndexStep index) =
    ap (λ (z : StepFacts). is_method z.kind) (step_index_is index)
    ∙ sym (ap (λ (z : Step). is_method (about_step z).kind) (whole_step d refl (views.outs-Index index))
    ∙ ap (λ (z : StepFacts). is_method z.kind) (step_index_is _))
method_by d _ IsTryStep =
    ap (λ (z : StepFacts). is_method z.kind) step_try_is
    ∙ sym (ap (λ (z : Step). is_method (about_step z).kind) (whole_step d refl views.outs-Try)
    ∙ ap (λ (z : StepFacts). is_method z.kind) step_try_is)
method_by d _ IsAwaitStep =
    ap (λ (z : StepFacts). is_method z.kind) step_await_is
    ∙ sym (ap (λ (z : Step). is_method (about_step z).kind) (whole_step d refl views.outs-Await)
    ∙ ap (λ (z : StepFacts). is_method z.kind) step_await_is)

-- A step is a method or it isn't, enclosed or not.
pub method_kept : (d : Bool) (x : Step) → is_method (about_step x).kind ≡ is_method (about_step (enclose_step d x)).kind
method_kept d x = method_by d x (step_view x)

-- As many of them are methods.
pub methods_kept : (d : Bool) (xs : List Step) → methods (map about_step xs) ≡ methods (map about_step (map (enclose_step d) xs))
methods_kept d [] = refl
methods_kept d (x ∷ xs) =
    ap (λ (b : Bool). (if b then 1 else 0) + methods (map about_step xs)) (method_kept d x)
    ∙ ap (λ (n : ℕ). (if is_method (about_step (enclose_step d x)).kind then 1 else 0) + n) (methods_kept d xs)
