-- What expressions end in, kind by kind.
use Rattle.std.proofs.Common.{◌≡◌, ◌-◌, length, Bool, true, false, List, [], ◌∷◌, map, Option, Some, None, refl, sym, ap, ◌∙◌}
use Rattle.std.specs.Prelude.{slice_get}
use Rattle.lay_node.specs.nodes.Types.{about_path, about_type}
use Rattle.lay_node.specs.declared.types.Path.{Path}
use Rattle.lay_node.specs.declared.types.PathStyle.TheVariants.{Code}
use Rattle.lay_node.specs.declared.types.Ty.{Ty}
use Rattle.lay_code.specs.nodes.Code.{about_expr, about_step}
use Rattle.lay_code.specs.nodes.Exprs.{ExprFacts, StepFacts, Tail, is_field, is_open, is_typed, lacks_args, shut, tail_of_operands, tail_of_steps, type_refuses}
use Rattle.lay_code.specs.nodes.Layers.{ExprNode}
use Rattle.lay_code.specs.declared.blocks.Stmt.TheOpen.{Expr-F}
use Rattle.lay_code.specs.declared.blocks.Stmt.TheViews as views
use Rattle.lay_code.specs.declared.exprs.Expr.{Expr}
use Rattle.lay_code.specs.declared.exprs.Expr.TheVariants as expr
use Rattle.lay_code.specs.declared.operators.Op.{Op}
use Rattle.lay_code.specs.declared.operators.Prefix.{Prefix}
use Rattle.lay_code.proofs.nodes.ExprsLaws as laws
use Rattle.lay_ops.proofs.Last.{last, last_is, no_last}

-- what is asked of an end: that it is open, and that it is a type that lacks arguments
abbrev Ends : Type 0
Ends = Bool × Bool

abbrev ends_of : Tail → Ends
ends_of t = (is_open t, is_typed t)

abbrev range_end : Option Expr → Ends
range_end None = (true, false)
range_end (Some x) = ends_of (about_expr x).tail

abbrev pub ends_in : ExprNode → Ends
ends_in (Expr-F.Path path) = (false, lacks_args (about_path path Code).refuses)
ends_in (Expr-F.Chain x rest) = ends_of (tail_of_operands (map laws.behind_op rest))
ends_in (Expr-F.Cast x types) = (false, lacks_args (type_refuses (map about_type types)))
ends_in (Expr-F.Unary ps x) = ends_of (about_expr x).tail
ends_in (Expr-F.Range start inclusive end) = range_end end
ends_in (Expr-F.Assign targets x) = ends_of (about_expr x).tail
ends_in (Expr-F.Return x) = (true, false)
ends_in (Expr-F.Break label x) = (true, false)
ends_in (Expr-F.Closure is_async moves params x) = (true, false)
ends_in (Expr-F.TypedClosure is_async moves params output b) = (true, false)
ends_in _ = (false, false)

-- Steps end in nothing that is open.
step_ends : (field : Bool) (s : StepFacts) → is_field s.kind ≡ field → ends_of (tail_of_steps (s ∷ [])) ≡ (false, false)
step_ends true s e = rw e refl
step_ends false s e = rw e refl

steps_end : (steps : List StepFacts) → ends_of (tail_of_steps steps) ≡ (false, false)
steps_end [] = refl
steps_end (s ∷ []) = step_ends (is_field s.kind) s refl
steps_end (s ∷ t ∷ more) = steps_end (t ∷ more)

ends_by : (x : Expr) → laws.ExprView x → ends_of (about_expr x).tail ≡ ends_in (views.out-Expr x)
ends_by _ (laws.IsLit l) = rw (laws.expr_lit_is l, views.outs-Lit l) refl
ends_by _ (laws.IsPath path) = rw (laws.expr_path_is path, views.outs-Path path) refl
ends_by _ laws.IsUnderscore = rw (laws.expr_underscore_is, views.outs-Underscore) refl
ends_by _ (laws.IsCall call) = rw (laws.expr_call_is call, views.outs-Expr::Call call) refl
ends_by _ (laws.IsParen x) = rw (laws.expr_paren_is x, views.outs-Paren x) refl
ends_by _ (laws.IsContinue label) = rw (laws.expr_continue_is label, views.outs-Continue label) refl
ends_by _ (laws.IsTuple xs) = rw (laws.expr_tuple_is xs, views.outs-Tuple xs) refl
ends_by _ (laws.IsArray xs) = rw (laws.expr_array_is xs, views.outs-Array xs) refl
ends_by _ (laws.IsRepeat x length) = rw (laws.expr_repeat_is x length, views.outs-Repeat x length) refl
ends_by _ (laws.IsStruct path fields None) = rw (laws.expr_struct_is path fields None, views.outs-Expr::Struct path fields None) refl
ends_by _ (laws.IsStruct path fields (Some None)) = rw (laws.expr_struct_is path fields (Some None), views.outs-Expr::Struct path fields (Some None)) refl
ends_by _ (laws.IsStruct path fields (Some (Some x))) = rw (laws.expr_struct_is path fields (Some (Some x)), views.outs-Expr::Struct path fields (Some (Some x))) refl
ends_by _ (laws.IsChain x rest) = rw (laws.expr_chain_is x rest, views.outs-Chain x rest) refl
ends_by _ (laws.IsCast x types) = rw (laws.expr_cast_is x types, views.outs-Cast x types) refl
ends_by _ (laws.IsUnary ps x) = rw (laws.expr_unary_is ps x, views.outs-Unary ps x) refl
ends_by _ (laws.IsRange None inclusive None) = rw (laws.expr_range_is None inclusive None, views.outs-Range None inclusive None) refl
ends_by _ (laws.IsRange None inclusive (Some y)) = rw (laws.expr_range_is None inclusive (Some y), views.outs-Range None inclusive (Some y)) refl
ends_by _ (laws.IsRange (Some x) inclusive None) = rw (laws.expr_range_is (Some x) inclusive None, views.outs-Range (Some x) inclusive None) refl
ends_by _ (laws.IsRange (Some x) inclusive (Some y)) = rw (laws.expr_range_is (Some x) inclusive (Some y), views.outs-Range (Some x) inclusive (Some y)) refl
ends_by _ (laws.IsAssign targets x) = rw (laws.expr_assign_is targets x, views.outs-Assign targets x) refl
ends_by _ (laws.IsPostfix x steps) = rw (laws.expr_postfix_is x steps, views.outs-Postfix x steps) (steps_end (map about_step steps))
ends_by _ (laws.IsBlock label b) = rw (laws.expr_block_is label b, views.outs-Block label b) refl
ends_by _ (laws.IsUnsafe b) = rw (laws.expr_unsafe_is b, views.outs-Unsafe b) refl
ends_by _ (laws.IsConstBlock b) = rw (laws.expr_const_block_is b, views.outs-ConstBlock b) refl
ends_by _ (laws.IsAsync moves b) = rw (laws.expr_async_is moves b, views.outs-Async moves b) refl
ends_by _ (laws.IsIf branches None) = rw (laws.expr_if_is branches None, views.outs-If branches None) refl
ends_by _ (laws.IsIf branches (Some b)) = rw (laws.expr_if_is branches (Some b), views.outs-If branches (Some b)) refl
ends_by _ (laws.IsMatch x attrs arms) = rw (laws.expr_match_is x attrs arms, views.outs-Match x attrs arms) refl
ends_by _ (laws.IsLoop label b) = rw (laws.expr_loop_is label b, views.outs-Loop label b) refl
ends_by _ (laws.IsWhile label c b) = rw (laws.expr_while_is label c b, views.outs-While label c b) refl
ends_by _ (laws.IsFor label pat x b) = rw (laws.expr_for_is label pat x b, views.outs-For label pat x b) refl
ends_by _ (laws.IsClosure is_async moves params x) = rw (laws.expr_closure_is is_async moves params x, views.outs-Closure is_async moves params x) refl
ends_by _ (laws.IsTypedClosure is_async moves params output b) = rw (laws.expr_typed_closure_is is_async moves params output b, views.outs-TypedClosure is_async moves params output b) refl
ends_by _ (laws.IsReturn None) = rw (laws.expr_return_is None, views.outs-Return None) refl
ends_by _ (laws.IsReturn (Some x)) = rw (laws.expr_return_is (Some x), views.outs-Return (Some x)) refl
ends_by _ (laws.IsBreak label None) = rw (laws.expr_break_is label None, views.outs-Break label None) refl
ends_by _ (laws.IsBreak label (Some x)) = rw (laws.expr_break_is label (Some x), views.outs-Break label (Some x)) refl

ends_are : (x : Expr) → ends_of (about_expr x).tail ≡ ends_in (views.out-Expr x)
ends_are x = ends_by x (laws.expr_view x)

pub open_is : (x : Expr) → is_open (about_expr x).tail ≡ (ends_in (views.out-Expr x)).0
open_is x = ap (λ (e : Ends). e.0) (ends_are x)

pub typed_is : (x : Expr) → is_typed (about_expr x).tail ≡ (ends_in (views.out-Expr x)).1
typed_is x = ap (λ (e : Ends). e.1) (ends_are x)

-- ---- what ends in an operand

chain_last : (rest : List (Op × Expr)) (e : Op × Expr) → Some e ≡ last rest
    → (about_expr e.1).tail ≡ tail_of_operands (map laws.behind_op rest)
chain_last [] e h = absurd (cc)
chain_last (x ∷ []) e h = let same : e ≡ x = cc in ap (λ (y : Op × Expr). (about_expr y.1).tail) same
chain_last (x ∷ y ∷ more) e h = chain_last (y ∷ more) e h

chain_tail : (operand : Expr) (rest : List (Op × Expr))
    → tail_of_operands (map laws.behind_op rest) ≡ (about_expr (expr.Chain operand rest)).tail
chain_tail operand rest = ap (λ (x : ExprFacts). x.tail) (sym (laws.expr_chain_is operand rest))

pub of_chain : (x operand : Expr) (rest slice : List (Op × Expr)) (e : Op × Expr) → x ≡ expr.Chain operand rest
    → slice ≡ rest → Some e ≡ slice_get slice (length slice - 1) → (about_expr e.1).tail ≡ (about_expr x).tail
of_chain x operand rest slice e is same h =
    chain_last slice e (h ∙ last_is slice) ∙ ap (λ xs. tail_of_operands (map laws.behind_op xs)) same ∙ chain_tail operand rest
    ∙ ap (λ (y : Expr). (about_expr y).tail) (sym is)

pub no_chain : (x operand : Expr) (rest slice : List (Op × Expr)) → x ≡ expr.Chain operand rest
    → slice ≡ rest → None ≡ slice_get slice (length slice - 1) → shut ≡ (about_expr x).tail
no_chain x operand rest slice is same h =
    ap (λ xs. tail_of_operands (map laws.behind_op xs)) (sym (no_last slice (h ∙ last_is slice)) ∙ same) ∙ chain_tail operand rest
    ∙ ap (λ (y : Expr). (about_expr y).tail) (sym is)

pub of_assign : (x value lent : Expr) (targets : List (Expr × Op)) → x ≡ expr.Assign targets value → lent ≡ value
    → (about_expr lent).tail ≡ (about_expr x).tail
of_assign x value lent targets is same = rw (is, same, laws.expr_assign_is targets value) refl

pub unary_open : (x operand lent : Expr) (prefixes : List Prefix) → x ≡ expr.Unary prefixes operand → lent ≡ operand
    → is_open (about_expr lent).tail ≡ is_open (about_expr x).tail
unary_open x operand lent prefixes is same = rw (is, same, laws.expr_unary_is prefixes operand) refl

pub unary_typed : (x operand lent : Expr) (prefixes : List Prefix) → x ≡ expr.Unary prefixes operand → lent ≡ operand
    → is_typed (about_expr lent).tail ≡ is_typed (about_expr x).tail
unary_typed x operand lent prefixes is same = rw (is, same, laws.expr_unary_is prefixes operand) refl

-- ---- what ends in a type

pub of_cast : (x operand : Expr) (types slice : List Ty) → x ≡ expr.Cast operand types → slice ≡ types
    → lacks_args (type_refuses (map about_type slice)) ≡ is_typed (about_expr x).tail
of_cast x operand types slice is same = rw (is, same, laws.expr_cast_is operand types) refl

pub of_path : (x : Expr) (path : Path) → x ≡ expr.Path path
    → lacks_args (about_path path Code).refuses ≡ is_typed (about_expr x).tail
of_path x path is = rw (is, laws.expr_path_is path) refl
