-- The facts about the bodies of arms, statements, blocks and items by their roots, kind by kind.
use Rattle.std.proofs.Common.{◌≡◌, ◌&&◌, ◌||◌, Bool, true, false, not, List, [], ◌∷◌, map, Option, Some, None, is_some, refl, sym, ap, ◌∙◌}
use Rattle.lay_node.specs.declared.attr.Attr.{Attr}
use Rattle.lay_node.specs.declared.token.Lifetime.{Lifetime}
use Rattle.lay_code.specs.nodes.Bodies.{BlockBody, BodyKind, MacroBody, OtherBody, is_lone_body, is_macro, sheds}
use Rattle.lay_code.specs.nodes.Blocks.{is_lone, is_plain, stmts_structless}
use Rattle.lay_code.specs.nodes.Code.{about_block, about_expr, about_stmt, told_of_item, told_of_kind}
use Rattle.lay_code.specs.nodes.CodeFacts.{BlockFacts, ItemFacts}
use Rattle.lay_code.specs.nodes.Layers.{ExprNode, KindNode, StmtNode}
use Rattle.lay_code.specs.declared.blocks.Block.{Block}
use Rattle.lay_code.specs.declared.blocks.Stmt.{Stmt}
use Rattle.lay_code.specs.declared.blocks.Stmt.TheOpen.{Expr-F}
use Rattle.lay_code.specs.declared.blocks.Stmt.TheViews as views
use Rattle.lay_code.specs.declared.exprs.Expr.{Expr}
use Rattle.lay_code.specs.declared.exprs.Expr.TheVariants as expr
use Rattle.lay_code.specs.declared.item.Item.{Item}
use Rattle.lay_code.specs.declared.item.ItemKind.{ItemKind}
use Rattle.lay_code.specs.declared.blocks.Stmt.TheOpen.{Stmt-F, ItemKind-F}
use Rattle.lay_code.specs.declared.blocks.Stmt.TheVariants as stmt
use Rattle.lay_code.specs.declared.item.ItemKind.TheVariants as kind
use Rattle.lay_ops.specs.RootFacts.{lone_in, structless_in}
use Rattle.lay_code.proofs.nodes.BlocksLaws as blocks
use Rattle.lay_code.proofs.nodes.ExprsLaws as laws
use Rattle.lay_code.proofs.nodes.ItemLaws as items

-- which body of an arm it is
abbrev pub kind_in : ExprNode → BodyKind
kind_in (Expr-F.Expr::Call call) = MacroBody
kind_in (Expr-F.Block None b) = BlockBody (about_block b).lone (about_block b).structless
kind_in _ = OtherBody

kind_by : (x : Expr) → laws.ExprView x → (about_expr x).kind ≡ kind_in (views.out-Expr x)
kind_by _ (laws.IsLit l) = rw (laws.expr_lit_is l, views.outs-Lit l) refl
kind_by _ (laws.IsPath path) = rw (laws.expr_path_is path, views.outs-Path path) refl
kind_by _ laws.IsUnderscore = rw (laws.expr_underscore_is, views.outs-Underscore) refl
kind_by _ (laws.IsCall call) = rw (laws.expr_call_is call, views.outs-Expr::Call call) refl
kind_by _ (laws.IsParen x) = rw (laws.expr_paren_is x, views.outs-Paren x) refl
kind_by _ (laws.IsContinue label) = rw (laws.expr_continue_is label, views.outs-Continue label) refl
kind_by _ (laws.IsTuple xs) = rw (laws.expr_tuple_is xs, views.outs-Tuple xs) refl
kind_by _ (laws.IsArray xs) = rw (laws.expr_array_is xs, views.outs-Array xs) refl
kind_by _ (laws.IsRepeat x length) = rw (laws.expr_repeat_is x length, views.outs-Repeat x length) refl
kind_by _ (laws.IsStruct path fields None) = rw (laws.expr_struct_is path fields None, views.outs-Expr::Struct path fields None) refl
kind_by _ (laws.IsStruct path fields (Some None)) = rw (laws.expr_struct_is path fields (Some None), views.outs-Expr::Struct path fields (Some None)) refl
kind_by _ (laws.IsStruct path fields (Some (Some x))) = rw (laws.expr_struct_is path fields (Some (Some x)), views.outs-Expr::Struct path fields (Some (Some x))) refl
kind_by _ (laws.IsChain x rest) = rw (laws.expr_chain_is x rest, views.outs-Chain x rest) refl
kind_by _ (laws.IsCast x types) = rw (laws.expr_cast_is x types, views.outs-Cast x types) refl
kind_by _ (laws.IsUnary ps x) = rw (laws.expr_unary_is ps x, views.outs-Unary ps x) refl
kind_by _ (laws.IsRange None inclusive None) = rw (laws.expr_range_is None inclusive None, views.outs-Range None inclusive None) refl
kind_by _ (laws.IsRange None inclusive (Some y)) = rw (laws.expr_range_is None inclusive (Some y), views.outs-Range None inclusive (Some y)) refl
kind_by _ (laws.IsRange (Some x) inclusive None) = rw (laws.expr_range_is (Some x) inclusive None, views.outs-Range (Some x) inclusive None) refl
kind_by _ (laws.IsRange (Some x) inclusive (Some y)) = rw (laws.expr_range_is (Some x) inclusive (Some y), views.outs-Range (Some x) inclusive (Some y)) refl
kind_by _ (laws.IsAssign targets x) = rw (laws.expr_assign_is targets x, views.outs-Assign targets x) refl
kind_by _ (laws.IsPostfix x steps) = rw (laws.expr_postfix_is x steps, views.outs-Postfix x steps) refl
kind_by _ (laws.IsBlock None b) = rw (laws.expr_block_is None b, views.outs-Block None b) refl
kind_by _ (laws.IsBlock (Some l) b) = rw (laws.expr_block_is (Some l) b, views.outs-Block (Some l) b) refl
kind_by _ (laws.IsUnsafe b) = rw (laws.expr_unsafe_is b, views.outs-Unsafe b) refl
kind_by _ (laws.IsConstBlock b) = rw (laws.expr_const_block_is b, views.outs-ConstBlock b) refl
kind_by _ (laws.IsAsync moves b) = rw (laws.expr_async_is moves b, views.outs-Async moves b) refl
kind_by _ (laws.IsIf branches None) = rw (laws.expr_if_is branches None, views.outs-If branches None) refl
kind_by _ (laws.IsIf branches (Some b)) = rw (laws.expr_if_is branches (Some b), views.outs-If branches (Some b)) refl
kind_by _ (laws.IsMatch x attrs arms) = rw (laws.expr_match_is x attrs arms, views.outs-Match x attrs arms) refl
kind_by _ (laws.IsLoop label b) = rw (laws.expr_loop_is label b, views.outs-Loop label b) refl
kind_by _ (laws.IsWhile label c b) = rw (laws.expr_while_is label c b, views.outs-While label c b) refl
kind_by _ (laws.IsFor label pat x b) = rw (laws.expr_for_is label pat x b, views.outs-For label pat x b) refl
kind_by _ (laws.IsClosure is_async moves params x) = rw (laws.expr_closure_is is_async moves params x, views.outs-Closure is_async moves params x) refl
kind_by _ (laws.IsTypedClosure is_async moves params output b) = rw (laws.expr_typed_closure_is is_async moves params output b, views.outs-TypedClosure is_async moves params output b) refl
kind_by _ (laws.IsReturn None) = rw (laws.expr_return_is None, views.outs-Return None) refl
kind_by _ (laws.IsReturn (Some x)) = rw (laws.expr_return_is (Some x), views.outs-Return (Some x)) refl
kind_by _ (laws.IsBreak label None) = rw (laws.expr_break_is label None, views.outs-Break label None) refl
kind_by _ (laws.IsBreak label (Some x)) = rw (laws.expr_break_is label (Some x), views.outs-Break label (Some x)) refl

kind_is : (x : Expr) → (about_expr x).kind ≡ kind_in (views.out-Expr x)
kind_is x = kind_by x (laws.expr_view x)

pub is_macro_is : (x : Expr) → is_macro (about_expr x).kind ≡ is_macro (kind_in (views.out-Expr x))
is_macro_is x = ap is_macro (kind_is x)

-- whether it is a block without a label that holds one expression
abbrev pub lone_body_in : ExprNode → Bool
lone_body_in (Expr-F.Block label b) = not (is_some label) && (about_block b).lone
lone_body_in _ = false

lone_body_by : (x : ExprNode) → is_lone_body (kind_in x) ≡ lone_body_in x
lone_body_by (Expr-F.Expr::Call call) = refl
lone_body_by (Expr-F.Block None b) = refl
lone_body_by (Expr-F.Block (Some l) b) = refl
lone_body_by _ = refl

pub lone_body_is : (x : Expr) → is_lone_body (about_expr x).kind ≡ lone_body_in (views.out-Expr x)
lone_body_is x = ap is_lone_body (kind_is x) ∙ lone_body_by (views.out-Expr x)

-- whether it is one whose expression may stand in the place of a closure's body
abbrev pub sheds_in : ExprNode → Bool → Bool
sheds_in (Expr-F.Block label b) no_struct =
    not (is_some label) && ((about_block b).lone && (not no_struct || (about_block b).structless))
sheds_in _ no_struct = false

sheds_by : (x : ExprNode) (no_struct : Bool) → sheds (kind_in x) no_struct ≡ sheds_in x no_struct
sheds_by (Expr-F.Expr::Call call) no_struct = refl
sheds_by (Expr-F.Block None b) no_struct = refl
sheds_by (Expr-F.Block (Some l) b) no_struct = refl
sheds_by _ no_struct = refl

pub sheds_is : (x : Expr) (no_struct : Bool) → sheds (about_expr x).kind no_struct ≡ sheds_in (views.out-Expr x) no_struct
sheds_is x no_struct = ap (λ k. sheds k no_struct) (kind_is x) ∙ sheds_by (views.out-Expr x) no_struct

-- ---- statements

-- another statement may stand after it
abbrev pub ends_in : StmtNode → Bool
ends_in (Stmt-F.Stmt::Expr attrs x ended) = ended || (about_expr x).block_like
ends_in _ = true

pub ends_is : (s : Stmt) → (about_stmt s).ends ≡ ends_in (views.out-Stmt s)
ends_is s = by s (blocks.stmt_view s)
  where
    by : (s : Stmt) → blocks.StmtView s → (about_stmt s).ends ≡ ends_in (views.out-Stmt s)
    by _ (blocks.IsLet attrs pat ty value otherwise) = rw (blocks.stmt_let_is attrs pat ty value otherwise, views.outs-Stmt::Let attrs pat ty value otherwise) refl
    by _ (blocks.IsItem item) = rw (blocks.stmt_item_is item, views.outs-Item item) refl
    by _ (blocks.IsExpr attrs x ended) = rw (blocks.stmt_expr_is attrs x ended, views.outs-Stmt::Expr attrs x ended) refl

abbrev pub lone_stmt_in : StmtNode → Bool
lone_stmt_in (Stmt-F.Stmt::Expr attrs x ended) = (is_plain attrs && not ended) && not (is_macro (about_expr x).kind)
lone_stmt_in _ = false

pub lone_stmt_is : (s : Stmt) → ((about_stmt s).bare && not (about_stmt s).call) ≡ lone_stmt_in (views.out-Stmt s)
lone_stmt_is s = by s (blocks.stmt_view s)
  where
    by : (s : Stmt) → blocks.StmtView s → ((about_stmt s).bare && not (about_stmt s).call) ≡ lone_stmt_in (views.out-Stmt s)
    by _ (blocks.IsLet attrs pat ty value otherwise) = rw (blocks.stmt_let_is attrs pat ty value otherwise, views.outs-Stmt::Let attrs pat ty value otherwise) refl
    by _ (blocks.IsItem item) = rw (blocks.stmt_item_is item, views.outs-Item item) refl
    by _ (blocks.IsExpr attrs x ended) = rw (blocks.stmt_expr_is attrs x ended, views.outs-Stmt::Expr attrs x ended) refl

-- ---- blocks

lone_by : (attrs : List Attr) (stmts : List Stmt) → is_lone attrs (map about_stmt stmts) ≡ (is_plain attrs && lone_in stmts)
lone_by [] [] = refl
lone_by [] (s ∷ []) = refl
lone_by [] (s ∷ t ∷ more) = refl
lone_by (a ∷ others) [] = refl
lone_by (a ∷ others) (s ∷ []) = refl
lone_by (a ∷ others) (s ∷ t ∷ more) = refl

pub lone_is : (b : Block) → (about_block b).lone ≡ (is_plain b.attrs && lone_in b.stmts)
lone_is b = rw (blocks.block_is b) (lone_by b.attrs b.stmts)

structless_by : (stmts : List Stmt) → stmts_structless (map about_stmt stmts) ≡ structless_in stmts
structless_by [] = refl
structless_by (s ∷ more) = ap (λ b. (about_stmt s).structless && b) (structless_by more)

pub structless_is : (b : Block) → (about_block b).structless ≡ structless_in b.stmts
structless_is b = ap (λ (F : BlockFacts). F.structless) (blocks.block_is b) ∙ structless_by b.stmts

-- a statement that is no expression with a struct literal outside delimiters
abbrev pub structless_stmt_in : StmtNode → Bool
structless_stmt_in (Stmt-F.Stmt::Expr attrs x ended) = (about_expr x).structless
structless_stmt_in _ = true

pub structless_stmt_is : (s : Stmt) → (about_stmt s).structless ≡ structless_stmt_in (views.out-Stmt s)
structless_stmt_is s = by s (blocks.stmt_view s)
  where
    by : (s : Stmt) → blocks.StmtView s → (about_stmt s).structless ≡ structless_stmt_in (views.out-Stmt s)
    by _ (blocks.IsLet attrs pat ty value otherwise) = rw (blocks.stmt_let_is attrs pat ty value otherwise, views.outs-Stmt::Let attrs pat ty value otherwise) refl
    by _ (blocks.IsItem item) = rw (blocks.stmt_item_is item, views.outs-Item item) refl
    by _ (blocks.IsExpr attrs x ended) = rw (blocks.stmt_expr_is attrs x ended, views.outs-Stmt::Expr attrs x ended) refl

-- ---- items

abbrev pub call_in : KindNode → Bool
call_in (ItemKind-F.ItemKind::Call call) = true
call_in _ = false

call_by : (k : ItemKind) → items.KindView k → (told_of_kind k).call ≡ call_in (views.out-ItemKind k)
call_by _ (items.IsExternCrate x) = rw (items.extern_crate_is x, views.outs-ExternCrate x) refl
call_by _ (items.IsImport tree) = rw (items.import_is tree, views.outs-Import tree) refl
call_by _ (items.IsFileModule name) = rw (items.file_module_is name, views.outs-FileModule name) refl
call_by _ (items.IsModule name attrs xs) = rw (items.module_is name attrs xs, views.outs-Module name attrs xs) refl
call_by _ (items.IsFunction head wheres None) = rw (items.function_is head wheres None, views.outs-Function head wheres None) refl
call_by _ (items.IsFunction head wheres (Some b)) = rw (items.function_is head wheres (Some b), views.outs-Function head wheres (Some b)) refl
call_by _ (items.IsAlias x) = rw (items.alias_is x, views.outs-Alias x) refl
call_by _ (items.IsStruct x) = rw (items.struct_is x, views.outs-ItemKind::Struct x) refl
call_by _ (items.IsUnion x) = rw (items.union_is x, views.outs-Union x) refl
call_by _ (items.IsEnum x) = rw (items.enum_is x, views.outs-Enum x) refl
call_by _ (items.IsValue head None) = rw (items.value_is head None, views.outs-Value head None) refl
call_by _ (items.IsValue head (Some x)) = rw (items.value_is head (Some x), views.outs-Value head (Some x)) refl
call_by _ (items.IsTrait head wheres attrs xs) = rw (items.trait_is head wheres attrs xs, views.outs-Trait head wheres attrs xs) refl
call_by _ (items.IsImpl head wheres attrs xs) = rw (items.impl_is head wheres attrs xs, views.outs-Impl head wheres attrs xs) refl
call_by _ (items.IsForeign is_unsafe abi attrs xs) = rw (items.foreign_is is_unsafe abi attrs xs, views.outs-Foreign is_unsafe abi attrs xs) refl
call_by _ (items.IsRules name rules) = rw (items.rules_is name rules, views.outs-MacroRules name rules) refl
call_by _ (items.IsCall call) = rw (items.call_is call, views.outs-ItemKind::Call call) refl

pub call_item_is : (one : Item) → (told_of_item one).call ≡ call_in (views.out-ItemKind one.kind)
call_item_is one = ap (λ (F : ItemFacts). F.call) (items.item_is one) ∙ call_by one.kind (items.kind_view one.kind)

-- ---- the kinds that are more than their name

pub of_stmt : (s : Stmt) (attrs : List Attr) (x : Expr) (ended : Bool) → s ≡ stmt.Expr attrs x ended
    → (about_stmt s).ends ≡ (ended || (about_expr x).block_like)
of_stmt s attrs x ended is = rw (is, blocks.stmt_expr_is attrs x ended) refl

pub of_block : (x : Expr) (label : Option Lifetime) (b : Block) → x ≡ expr.Block label b
    → (not (is_some label) && (about_block b).lone) ≡ is_lone_body (about_expr x).kind
of_block x None b is = rw (is, laws.expr_block_is None b) refl
of_block x (Some l) b is = rw (is, laws.expr_block_is (Some l) b) refl

pub of_lone : (s : Stmt) (attrs slice : List Attr) (x : Expr) (ended : Bool) → s ≡ stmt.Expr attrs x ended → slice ≡ attrs
    → ((is_plain slice && not ended) && not (is_macro (about_expr x).kind)) ≡ ((about_stmt s).bare && not (about_stmt s).call)
of_lone s attrs slice x ended is same = rw (is, same, blocks.stmt_expr_is attrs x ended) refl

pub of_shed : (x : Expr) (label : Option Lifetime) (b : Block) (no_struct : Bool) → x ≡ expr.Block label b
    → (not (is_some label) && ((about_block b).lone && (not no_struct || (about_block b).structless))) ≡ sheds (about_expr x).kind no_struct
of_shed x None b no_struct is = rw (is, laws.expr_block_is None b) refl
of_shed x (Some l) b no_struct is = rw (is, laws.expr_block_is (Some l) b) refl

pub of_structless : (s : Stmt) (attrs : List Attr) (x : Expr) (ended : Bool) → s ≡ stmt.Expr attrs x ended
    → (about_expr x).structless ≡ (about_stmt s).structless
of_structless s attrs x ended is = rw (is, blocks.stmt_expr_is attrs x ended) refl
