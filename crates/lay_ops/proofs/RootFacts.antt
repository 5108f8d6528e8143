-- The facts about an expression by its root, kind by kind.
use Rattle.std.proofs.Common.{◌≡◌, ℕ, Bool, true, false, not, List, [], ◌∷◌, map, Some, None, is_some, length, ◌-◌, refl, sym, ap, ◌∙◌}
use Rattle.std.specs.Prelude.{slice_get}
use Rattle.lay_node.specs.nodes.Types.{about_type}
use Rattle.lay_node.specs.Words.{is_bare_number}
use Rattle.lay_node.specs.declared.token.Literal.{Literal}
use Rattle.lay_node.specs.declared.tokens.MacroCall.{MacroCall}
use Rattle.lay_node.specs.declared.types.Ty.{Ty}
use Rattle.lay_code.specs.nodes.Code.{about_expr}
use Rattle.lay_code.specs.nodes.Exprs.{ExprFacts, is_brace, lacks_args, level_of_chain, type_refuses}
use Rattle.lay_code.specs.nodes.Layers.{ExprNode}
use Rattle.lay_code.specs.declared.blocks.Block.{Block}
use Rattle.lay_code.specs.declared.blocks.Stmt.TheOpen.{Expr-F}
use Rattle.lay_code.specs.declared.blocks.Stmt.TheViews as views
use Rattle.lay_code.specs.declared.exprs.Expr.{Expr}
use Rattle.lay_code.specs.declared.exprs.Expr.TheVariants as expr
use Rattle.lay_code.specs.declared.operators.Op.{Op}
use Rattle.lay_code.proofs.nodes.ExprsLaws as laws
use Rattle.lay_ops.proofs.Last.{last, last_is}
use Rattle.lay_ops.specs.RootFacts.{first_level}

-- its level, and whether it jumps, is a range without an end, a cast to a type that lacks arguments, a struct literal,
-- what ends in a block of its own or a macro call in braces, and a number without suffix
abbrev Root : Type 0
Root = ℕ × Bool × Bool × Bool × Bool × Bool × Bool

abbrev root_of : ExprFacts → Root
root_of x = (x.level, x.jumps, x.endless, x.typed, x.is_struct, x.block_like, x.is_number)

abbrev plain_root : ℕ → Root
plain_root level = (level, false, false, false, false, false, false)

abbrev block_root : Root
block_root = (14, false, false, false, false, true, false)

abbrev pub root_in : ExprNode → Root
root_in (Expr-F.Lit l) = (14, false, false, false, false, false, is_bare_number l.kind l.text)
root_in (Expr-F.Expr::Call call) = (14, false, false, false, false, is_brace call.tokens.delim, false)
root_in (Expr-F.Expr::Struct path fields base) = (14, false, false, false, true, false, false)
root_in (Expr-F.Chain x rest) = plain_root (first_level rest)
root_in (Expr-F.Cast x types) = (11, false, false, lacks_args (type_refuses (map about_type types)), false, false, false)
root_in (Expr-F.Unary ps x) = plain_root 12
root_in (Expr-F.Range start inclusive end) = (1, false, not (is_some end), false, false, false, false)
root_in (Expr-F.Assign targets x) = plain_root 0
root_in (Expr-F.Postfix x steps) = plain_root 13
root_in (Expr-F.Return x) = (12, true, false, false, false, false, false)
root_in (Expr-F.Break label x) = (12, true, false, false, false, false, false)
root_in (Expr-F.Closure is_async moves params x) = (12, true, false, false, false, false, false)
root_in (Expr-F.TypedClosure is_async moves params output b) = (12, true, false, false, false, false, false)
root_in (Expr-F.Block label b) = block_root
root_in (Expr-F.Unsafe b) = block_root
root_in (Expr-F.ConstBlock b) = block_root
root_in (Expr-F.If branches otherwise) = block_root
root_in (Expr-F.Match x attrs arms) = block_root
root_in (Expr-F.Loop label b) = block_root
root_in (Expr-F.While label c b) = block_root
root_in (Expr-F.For label pat x b) = block_root
root_in _ = plain_root 14

chain_level : (rest : List (Op × Expr)) → level_of_chain (map laws.behind_op rest) ≡ first_level rest
chain_level [] = refl
chain_level (x ∷ more) = refl

root_by : (x : Expr) → laws.ExprView x → root_of (about_expr x) ≡ root_in (views.out-Expr x)
root_by _ (laws.IsLit l) = rw (laws.expr_lit_is l, views.outs-Lit l) refl
root_by _ (laws.IsPath path) = rw (laws.expr_path_is path, views.outs-Path path) refl
root_by _ laws.IsUnderscore = rw (laws.expr_underscore_is, views.outs-Underscore) refl
root_by _ (laws.IsCall call) = rw (laws.expr_call_is call, views.outs-Expr::Call call) refl
root_by _ (laws.IsParen x) = rw (laws.expr_paren_is x, views.outs-Paren x) refl
root_by _ (laws.IsContinue label) = rw (laws.expr_continue_is label, views.outs-Continue label) refl
root_by _ (laws.IsTuple xs) = rw (laws.expr_tuple_is xs, views.outs-Tuple xs) refl
root_by _ (laws.IsArray xs) = rw (laws.expr_array_is xs, views.outs-Array xs) refl
root_by _ (laws.IsRepeat x length) = rw (laws.expr_repeat_is x length, views.outs-Repeat x length) refl
root_by _ (laws.IsStruct path fields None) = rw (laws.expr_struct_is path fields None, views.outs-Expr::Struct path fields None) refl
root_by _ (laws.IsStruct path fields (Some None)) = rw (laws.expr_struct_is path fields (Some None), views.outs-Expr::Struct path fields (Some None)) refl
root_by _ (laws.IsStruct path fields (Some (Some x))) = rw (laws.expr_struct_is path fields (Some (Some x)), views.outs-Expr::Struct path fields (Some (Some x))) refl
root_by _ (laws.IsChain x rest) = rw (laws.expr_chain_is x rest, views.outs-Chain x rest, chain_level rest) refl
root_by _ (laws.IsCast x types) = rw (laws.expr_cast_is x types, views.outs-Cast x types) refl
root_by _ (laws.IsUnary ps x) = rw (laws.expr_unary_is ps x, views.outs-Unary ps x) refl
root_by _ (laws.IsRange None inclusive None) = rw (laws.expr_range_is None inclusive None, views.outs-Range None inclusive None) refl
root_by _ (laws.IsRange None inclusive (Some y)) = rw (laws.expr_range_is None inclusive (Some y), views.outs-Range None inclusive (Some y)) refl
root_by _ (laws.IsRange (Some x) inclusive None) = rw (laws.expr_range_is (Some x) inclusive None, views.outs-Range (Some x) inclusive None) refl
root_by _ (laws.IsRange (Some x) inclusive (Some y)) = rw (laws.expr_range_is (Some x) inclusive (Some y), views.outs-Range (Some x) inclusive (Some y)) refl
root_by _ (laws.IsAssign targets x) = rw (laws.expr_assign_is targets x, views.outs-Assign targets x) refl
root_by _ (laws.IsPostfix x steps) = rw (laws.expr_postfix_is x steps, views.outs-Postfix x steps) refl
root_by _ (laws.IsBlock label b) = rw (laws.expr_block_is label b, views.outs-Block label b) refl
root_by _ (laws.IsUnsafe b) = rw (laws.expr_unsafe_is b, views.outs-Unsafe b) refl
root_by _ (laws.IsConstBlock b) = rw (laws.expr_const_block_is b, views.outs-ConstBlock b) refl
root_by _ (laws.IsAsync moves b) = rw (laws.expr_async_is moves b, views.outs-Async moves b) refl
root_by _ (laws.IsIf branches None) = rw (laws.expr_if_is branches None, views.outs-If branches None) refl
root_by _ (laws.IsIf branches (Some b)) = rw (laws.expr_if_is branches (Some b), views.outs-If branches (Some b)) refl
root_by _ (laws.IsMatch x attrs arms) = rw (laws.expr_match_is x attrs arms, views.outs-Match x attrs arms) refl
root_by _ (laws.IsLoop label b) = rw (laws.expr_loop_is label b, views.outs-Loop label b) refl
root_by _ (laws.IsWhile label c b) = rw (laws.expr_while_is label c b, views.outs-While label c b) refl
root_by _ (laws.IsFor label pat x b) = rw (laws.expr_for_is label pat x b, views.outs-For label pat x b) refl
root_by _ (laws.IsClosure is_async moves params x) = rw (laws.expr_closure_is is_async moves params x, views.outs-Closure is_async moves params x) refl
root_by _ (laws.IsTypedClosure is_async moves params output b) = rw (laws.expr_typed_closure_is is_async moves params output b, views.outs-TypedClosure is_async moves params output b) refl
root_by _ (laws.IsReturn None) = rw (laws.expr_return_is None, views.outs-Return None) refl
root_by _ (laws.IsReturn (Some x)) = rw (laws.expr_return_is (Some x), views.outs-Return (Some x)) refl
root_by _ (laws.IsBreak label None) = rw (laws.expr_break_is label None, views.outs-Break label None) refl
root_by _ (laws.IsBreak label (Some x)) = rw (laws.expr_break_is label (Some x), views.outs-Break label (Some x)) refl

root_is : (x : Expr) → root_of (about_expr x) ≡ root_in (views.out-Expr x)
root_is x = root_by x (laws.expr_view x)

pub level_is : (x : Expr) → (about_expr x).level ≡ (root_in (views.out-Expr x)).0
level_is x = ap (λ (r : Root). r.0) (root_is x)

pub jumps_is : (x : Expr) → (about_expr x).jumps ≡ (root_in (views.out-Expr x)).1
jumps_is x = ap (λ (r : Root). r.1) (root_is x)

pub endless_is : (x : Expr) → (about_expr x).endless ≡ (root_in (views.out-Expr x)).2
endless_is x = ap (λ (r : Root). r.2) (root_is x)

pub typed_is : (x : Expr) → (about_expr x).typed ≡ (root_in (views.out-Expr x)).3
typed_is x = ap (λ (r : Root). r.3) (root_is x)

pub is_struct_is : (x : Expr) → (about_expr x).is_struct ≡ (root_in (views.out-Expr x)).4
is_struct_is x = ap (λ (r : Root). r.4) (root_is x)

pub block_like_is : (x : Expr) → (about_expr x).block_like ≡ (root_in (views.out-Expr x)).5
block_like_is x = ap (λ (r : Root). r.5) (root_is x)

pub is_number_is : (x : Expr) → (about_expr x).is_number ≡ (root_in (views.out-Expr x)).6
is_number_is x = ap (λ (r : Root). r.6) (root_is x)

-- ---- the kinds that are more than their name

pub of_chain : (x operand : Expr) (rest slice : List (Op × Expr)) → x ≡ expr.Chain operand rest → slice ≡ rest
    → first_level slice ≡ (about_expr x).level
of_chain x operand rest slice is same = rw (is, same, laws.expr_chain_is operand rest) (sym (chain_level rest))

pub of_cast : (x operand : Expr) (types slice : List Ty) → x ≡ expr.Cast operand types → slice ≡ types
    → lacks_args (type_refuses (map about_type slice)) ≡ (about_expr x).typed
of_cast x operand types slice is same = rw (is, same, laws.expr_cast_is operand types) refl

pub of_call : (x : Expr) (call : MacroCall) → x ≡ expr.Call call → is_brace call.tokens.delim ≡ (about_expr x).block_like
of_call x call is = rw (is, laws.expr_call_is call) refl

types_last : (types : List Ty) (t : Ty) → Some t ≡ last types → (about_type t).told.refuses ≡ type_refuses (map about_type types)
types_last [] t h = absurd (cc)
types_last (x ∷ []) t h = let e : t ≡ x = cc in ap (λ (y : Ty). (about_type y).told.refuses) e
types_last (x ∷ y ∷ more) t h = types_last (y ∷ more) t h

pub of_types : (types : List Ty) (t : Ty) → Some t ≡ slice_get types (length types - 1)
    → lacks_args (about_type t).told.refuses ≡ lacks_args (type_refuses (map about_type types))
of_types types t h = ap lacks_args (types_last types t (h ∙ last_is types))

pub of_literal : (x : Expr) (literal : Literal) → x ≡ expr.Lit literal
    → is_bare_number literal.kind literal.text ≡ (about_expr x).is_number
of_literal x literal is = rw (is, laws.expr_lit_is literal) refl
