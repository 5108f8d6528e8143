-- The streams of what stands before blocks and in the heads of closures, and of what stands round the bodies of arms and of
-- closures.
use Rattle.std.proofs.Common.{◌≡◌, not, ℕ, ◌==◌, ◌&&◌, ◌≢◌, ◌≤◌, ◌<◌, Bool, true, false, cond, if◌then◌else◌, List, [], ◌∷◌, ◌++◌, map, length, get_or, codes, pos, Option, Some, None, refl, sym, ap, ◌∙◌, arith}
use Rattle.std.proofs.Math.Dec.{eqb-suc-zero}
use Rattle.lay_layout.specs.declared.layout.Tok.{Tok}
use Rattle.lay_layout.specs.declared.layout.Tok.TheVariants as tok
use Rattle.lay_form.specs.Form.{ArmComma, Bare, Done, Form, Marked, Never, Nothing, Part, Unseen}
use Rattle.lay_form.specs.Layout.{break_of, closing_break, opening_break}
use Rattle.lay_form.specs.Notation.{comma_list, piece}
use Rattle.lay_form.specs.Stream.{fed, stream_of}
use Rattle.lay_node.specs.nodes.Functions.{self_type}
use Rattle.lay_node.specs.nodes.Patterns.{about_pat}
use Rattle.lay_node.specs.nodes.Types.{param_attrs}
use Rattle.lay_node.specs.declared.attr.Attr.{Attr}
use Rattle.lay_node.specs.declared.token.Lifetime.{Lifetime}
use Rattle.lay_node.specs.declared.tokens.MacroCall.{MacroCall}
use Rattle.lay_node.specs.declared.types.Ty.{Ty}
use Rattle.lay_code.specs.nodes.Bodies.{braces_of}
use Rattle.lay_code.specs.nodes.Blocks.{is_plain, is_single}
use Rattle.lay_code.specs.nodes.Code.{about_expr, about_stmt}
use Rattle.lay_code.specs.nodes.CodeFacts.{StmtFacts}
use Rattle.lay_code.specs.nodes.Exprs.{ExprFacts, bar, behind_async, body_braces, closure_head, closure_param, labelled}
use Rattle.lay_code.specs.declared.blocks.Block.{Block}
use Rattle.lay_code.specs.declared.blocks.Stmt.{Stmt}
use Rattle.lay_code.specs.declared.blocks.Stmt.TheVariants as stmt
use Rattle.lay_code.specs.declared.exprs.ClosureParam.{ClosureParam}
use Rattle.lay_code.specs.declared.exprs.Expr.{Expr}
use Rattle.lay_code.specs.declared.exprs.Expr.TheVariants as expr
use Rattle.lay_code.proofs.nodes.BlocksLaws.{IsExpr, IsItem, IsLet, StmtView, stmt_expr_is, stmt_item_is, stmt_let_is, stmt_view}
use Rattle.lay_code.proofs.nodes.ExprsLaws.{ExprView, IsArray, IsAssign, IsAsync, IsBlock, IsBreak, IsCall, IsCast, IsChain, IsClosure, IsConstBlock, IsContinue, IsFor, IsIf, IsLit, IsLoop, IsMatch, IsParen, IsPath, IsPostfix, IsRange, IsRepeat, IsReturn, IsStruct, IsTuple, IsTypedClosure, IsUnary, IsUnderscore, IsUnsafe, IsWhile, expr_array_is, expr_assign_is, expr_async_is, expr_block_is, expr_break_is, expr_call_is, expr_cast_is, expr_chain_is, expr_closure_is, expr_const_block_is, expr_continue_is, expr_for_is, expr_if_is, expr_lit_is, expr_loop_is, expr_match_is, expr_paren_is, expr_path_is, expr_postfix_is, expr_range_is, expr_repeat_is, expr_return_is, expr_struct_is, expr_tuple_is, expr_typed_closure_is, expr_unary_is, expr_underscore_is, expr_unsafe_is, expr_view, expr_while_is}
use Rattle.lay_out_types.specs.Rows.{comma_between, list_closed, list_opened, row}
use Rattle.lay_out_types.proofs.FormRows.{are_none, list_is, part_more}
use Rattle.lay_out_types.proofs.PartLemmas.{attrs_more}
use Rattle.lay_out_exprs.specs.Bodies.{arm_closed, arm_opened, closure_closed, closure_opened, seen_as}
use Rattle.lay_out_exprs.specs.declared.bodies.BodyBraces.{BodyBraces}
use Rattle.lay_out_exprs.specs.declared.bodies.BodyBraces.TheVariants as body

-- ---- labels

-- a label that is there
pub some_label : (label : Option Lifetime) (l : Lifetime) (put : List ℕ) → label ≡ Some l → put ≡ l.text
    → tok.Text put ∷ tok.Text (codes ": ") ∷ [] ≡ stream_of (labelled label Done)
some_label label l put is e = rw (is, e) refl

-- ---- closures

-- the parameters of a closure
pub bars_are : (es : List Form) (bare : Bool) → bare ≡ are_none es
    → row (list_opened (codes "|")) comma_between es ++ list_closed true bare (codes "||") (codes "|")
    ≡ stream_of (comma_list true bar bar es)
bars_are es bare is =
    list_is true bar bar (codes "|") (codes "||") (codes "|") (λ f more. refl) closes refl es bare is
  where
    closes : (q : Bool) (more : List Tok) → fed q (piece (bar ∷ [])) more ≡ tok.Text (codes "|") ∷ more
    closes true more = refl
    closes false more = refl

typed_any : (ty : Option Ty) (q : Bool) → fed q (Part (self_type ty) Done) [] ≡ stream_of (Part (self_type ty) Done)
typed_any None q = refl
typed_any (Some x) true = refl
typed_any (Some x) false = refl

-- one of them
pub closure_param_is : (p : ClosureParam) (put : List Attr) → put ≡ p.attrs
    → stream_of (param_attrs put Done) ++ (stream_of (about_pat p.pat).told.form ++ stream_of (self_type p.ty))
    ≡ stream_of (closure_param p)
closure_param_is p put e =
    let f = Part (self_type p.ty) Done in
    rw e (ap (λ (s : List Tok). stream_of (param_attrs p.attrs Done) ++ s)
    (part_more (about_pat p.pat).told.form f (typed_any p.ty))
    ∙ attrs_more p.attrs (Part (about_pat p.pat).told.form f))

-- the words before them
behind_async_is : (moves : Bool) (params : List ClosureParam)
    → cond moves (tok.Text (codes "move ") ∷ []) [] ++ stream_of (comma_list true bar bar (map closure_param params))
    ≡ stream_of (behind_async moves params Done)
behind_async_is true params = ap (λ (s : List Tok). tok.Text (codes "move ") ∷ s) (any (map closure_param params))
  where
    any : (es : List Form) → stream_of (comma_list true bar bar es) ≡ stream_of (Part (comma_list true bar bar es) Done)
    any es = refl
behind_async_is false params = refl

pub closure_head_is : (is_async moves : Bool) (params : List ClosureParam)
    → cond is_async (tok.Text (codes "async ") ∷ []) []
    ++ (cond moves (tok.Text (codes "move ") ∷ []) [] ++ stream_of (comma_list true bar bar (map closure_param params)))
    ≡ stream_of (closure_head is_async moves params Done)
closure_head_is true moves params = ap (λ (s : List Tok). tok.Text (codes "async ") ∷ s) (behind_async_is moves params)
closure_head_is false moves params = behind_async_is moves params

-- ---- statements

-- It is of this kind, so it is bare or not.
bare_of : (x : Stmt) {facts : StmtFacts} → about_stmt x ≡ facts → facts.bare ≡ (about_stmt x).bare
bare_of x e = sym (ap (λ (z : StmtFacts). z.bare) e)

plain_is : (attrs : List Attr) → (length attrs == 0) ≡ is_plain attrs
plain_is [] = refl
plain_is (a ∷ attrs) = eqb-suc-zero (length attrs)

-- an expression
pub bare_expr : (x : Stmt) (attrs put : List Attr) (y : Expr) (ended : Bool) → x ≡ stmt.Expr attrs y ended → put ≡ attrs
    → ((length put == 0) && not ended) ≡ (about_stmt x).bare
bare_expr x attrs put y ended is same =
    rw same (ap (λ (b : Bool). b && not ended) (plain_is attrs)
    ∙ bare_of _ (stmt_expr_is attrs y ended) ∙ ap (λ (z : Stmt). (about_stmt z).bare) (sym is))

-- All else is not bare.
pub not_bare : (x : Stmt) → ((attrs : List Attr) (y : Expr) (ended : Bool) → x ≡ stmt.Expr attrs y ended → ⊥)
    → false ≡ (about_stmt x).bare
not_bare x other = by x (stmt_view x) other
  where
    by : (y : Stmt) → StmtView y → ((attrs : List Attr) (z : Expr) (ended : Bool) → y ≡ stmt.Expr attrs z ended → ⊥)
        → false ≡ (about_stmt y).bare
    by _ (IsLet attrs pat ty value otherwise) other = bare_of _ (stmt_let_is attrs pat ty value otherwise)
    by _ (IsItem item) other = bare_of _ (stmt_item_is item)
    by _ (IsExpr attrs y ended) other = absurd (other attrs y ended refl)

-- a block with attributes, of one statement, and of none or several
pub with_attrs : (attrs : List Attr) (stmts : List StmtFacts) → length attrs ≢ 0 → false ≡ is_single attrs stmts
with_attrs [] stmts h = absurd (h refl)
with_attrs (a ∷ attrs) [] h = refl
with_attrs (a ∷ attrs) (s ∷ []) h = refl
with_attrs (a ∷ attrs) (s ∷ t ∷ more) h = refl

pub one_stmt : (attrs : List Attr) (stmts : List Stmt) (only : Stmt) → length attrs ≡ 0 → 1 ≤ length stmts
    → length stmts < 2 → only ≡ get_or stmts 0 only → (about_stmt only).bare ≡ is_single attrs (map about_stmt stmts)
one_stmt (a ∷ attrs) stmts only none some one is = absurd (omega arith)
one_stmt [] [] only none some one is = absurd (omega arith)
one_stmt [] (s ∷ []) only none some one is = rw is refl
one_stmt [] (s ∷ t ∷ more) only none some one is = absurd (omega arith)

pub other_count : (attrs : List Attr) (stmts : List Stmt) → length attrs ≡ 0 → length stmts ≢ 1
    → false ≡ is_single attrs (map about_stmt stmts)
other_count (a ∷ attrs) stmts none h = absurd (omega arith)
other_count [] [] none h = refl
other_count [] (s ∷ []) none h = absurd (h refl)
other_count [] (s ∷ t ∷ more) none h = refl

-- ---- the bodies of arms and of closures

-- how a body of this kind is laid out
braces_from : (x : Expr) {facts : ExprFacts} → about_expr x ≡ facts → braces_of facts.kind ≡ braces_of (about_expr x).kind
braces_from x e = sym (ap (λ (z : ExprFacts). braces_of z.kind) e)

-- a macro call
pub call_braces : (x : Expr) (call : MacroCall) → x ≡ expr.Call call → Bare ≡ braces_of (about_expr x).kind
call_braces x call is = braces_from _ (expr_call_is call) ∙ ap (λ (z : Expr). braces_of (about_expr z).kind) (sym is)

-- a block without a label, and with one
pub block_braces : (x : Expr) (label : Option Lifetime) (b : Block) → x ≡ expr.Block label b → label ≡ None
    → Unseen ≡ braces_of (about_expr x).kind
block_braces x label b is none =
    braces_from _ (expr_block_is None b)
    ∙ ap (λ (z : Expr). braces_of (about_expr z).kind) (sym (is ∙ ap (λ (l : Option Lifetime). expr.Block l b) none))

pub labelled_braces : (x : Expr) (label : Option Lifetime) (b : Block) (l : Lifetime) → x ≡ expr.Block label b → label ≡ Some l
    → Marked ≡ braces_of (about_expr x).kind
labelled_braces x label b l is some =
    braces_from _ (expr_block_is (Some l) b)
    ∙ ap (λ (z : Expr). braces_of (about_expr z).kind) (sym (is ∙ ap (λ (m : Option Lifetime). expr.Block m b) some))

-- all else
other_by : (x : Expr) → ExprView x → ((call : MacroCall) → x ≡ expr.Call call → ⊥)
    → ((label : Option Lifetime) (b : Block) → x ≡ expr.Block label b → ⊥) → Marked ≡ braces_of (about_expr x).kind
other_by _ (IsCall call) no_call no_block = absurd (no_call call refl)
other_by _ (IsBlock label b) no_call no_block = absurd (no_block label b refl)
other_by _ (IsLit l) no_call no_block = braces_from _ (expr_lit_is l)
other_by _ (IsPath p) no_call no_block = braces_from _ (expr_path_is p)
other_by _ IsUnderscore no_call no_block = braces_from _ expr_underscore_is
other_by _ (IsParen inner) no_call no_block = braces_from _ (expr_paren_is inner)
other_by _ (IsContinue label) no_call no_block = braces_from _ (expr_continue_is label)
other_by _ (IsTuple xs) no_call no_block = braces_from _ (expr_tuple_is xs)
other_by _ (IsArray xs) no_call no_block = braces_from _ (expr_array_is xs)
other_by _ (IsRepeat inner size) no_call no_block = braces_from _ (expr_repeat_is inner size)
other_by _ (IsStruct path fields base) no_call no_block = braces_from _ (expr_struct_is path fields base)
other_by _ (IsChain first rest) no_call no_block = braces_from _ (expr_chain_is first rest)
other_by _ (IsCast operand types) no_call no_block = braces_from _ (expr_cast_is operand types)
other_by _ (IsUnary ps operand) no_call no_block = braces_from _ (expr_unary_is ps operand)
other_by _ (IsRange start i end) no_call no_block = braces_from _ (expr_range_is start i end)
other_by _ (IsAssign targets value) no_call no_block = braces_from _ (expr_assign_is targets value)
other_by _ (IsPostfix base steps) no_call no_block = braces_from _ (expr_postfix_is base steps)
other_by _ (IsUnsafe b) no_call no_block = braces_from _ (expr_unsafe_is b)
other_by _ (IsConstBlock b) no_call no_block = braces_from _ (expr_const_block_is b)
other_by _ (IsAsync moves b) no_call no_block = braces_from _ (expr_async_is moves b)
other_by _ (IsIf branches otherwise) no_call no_block = braces_from _ (expr_if_is branches otherwise)
other_by _ (IsMatch x attrs arms) no_call no_block = braces_from _ (expr_match_is x attrs arms)
other_by _ (IsLoop label b) no_call no_block = braces_from _ (expr_loop_is label b)
other_by _ (IsWhile label c b) no_call no_block = braces_from _ (expr_while_is label c b)
other_by _ (IsFor label pat x b) no_call no_block = braces_from _ (expr_for_is label pat x b)
other_by _ (IsClosure is_async moves params inner) no_call no_block = braces_from _ (expr_closure_is is_async moves params inner)
other_by _ (IsTypedClosure is_async moves params output b) no_call no_block = braces_from _ (expr_typed_closure_is is_async moves params output b)
other_by _ (IsReturn operand) no_call no_block = braces_from _ (expr_return_is operand)
other_by _ (IsBreak label operand) no_call no_block = braces_from _ (expr_break_is label operand)

pub other_braces : (x : Expr) → ((call : MacroCall) → x ≡ expr.Call call → ⊥)
    → ((label : Option Lifetime) (b : Block) → x ≡ expr.Block label b → ⊥) → Marked ≡ braces_of (about_expr x).kind
other_braces x no_call no_block = other_by x (expr_view x) no_call no_block

-- the body of a closure, which may stand in braces or not
worn_by : (x : ExprFacts) (worn : Bool) → (x.starts && x.tight) ≡ worn → (if worn then braces_of x.kind else Bare) ≡ body_braces x
worn_by x worn is = sym (ap (λ (b : Bool). if b then braces_of x.kind else Bare) is)

pub worn_braces : (x : Expr) (worn : Bool) → worn ≡ ((about_expr x).starts && (about_expr x).tight) → worn ≡ true
    → braces_of (about_expr x).kind ≡ body_braces (about_expr x)
worn_braces x worn is e = worn_by (about_expr x) true (sym is ∙ e)

pub bare_braces : (x : Expr) (worn : Bool) → worn ≡ ((about_expr x).starts && (about_expr x).tight) → worn ≡ false
    → Bare ≡ body_braces (about_expr x)
bare_braces x worn is e = worn_by (about_expr x) false (sym is ∙ e)

-- what opens and closes the body of an arm in braces
pub arm_marked_opened : (braces : BodyBraces) → braces ≡ body.Marked
    → tok.Begin true (pos 4) ∷ tok.Break opening_break ∷ [] ≡ arm_opened (seen_as braces)
arm_marked_opened braces is = rw is refl

pub arm_marked_closed : (braces : BodyBraces) → braces ≡ body.Marked
    → tok.Break (closing_break (ArmComma true true)) ∷ tok.End ∷ [] ≡ arm_closed (seen_as braces)
arm_marked_closed braces is = rw is refl

-- the same of a closure
pub closure_marked_opened : (braces : BodyBraces) → braces ≡ body.Marked
    → tok.Break (break_of Never) ∷ tok.Begin true (pos 4) ∷ tok.Break opening_break ∷ [] ≡ closure_opened (seen_as braces)
closure_marked_opened braces is = rw is refl

pub closure_marked_closed : (braces : BodyBraces) → braces ≡ body.Marked
    → tok.Break (closing_break Nothing) ∷ tok.End ∷ [] ≡ closure_closed (seen_as braces)
closure_marked_closed braces is = rw is refl
