-- Which expressions end in a `}` or in a closure, kind by kind.
use Rattle.std.proofs.Common.{◌≡◌, ℕ, ◌-◌, ◌&&◌, ◌||◌, Bool, true, false, List, [], ◌∷◌, ◌++◌, length, map, codes, Option, option_map, Some, None, refl, sym, ap, subst, ◌∙◌, arith}
use Rattle.std.specs.Prelude.{slice_get, nat_le, ◌==◌}
use Rattle.std.proofs.lemmas.Bool.{eqb-true}
use Rattle.lay_piece.specs.declared.kind.Delim.TheVariants.{Paren}
use Rattle.lay_form.specs.Form.{Blank, Operator, Braces, Bare, Unseen, Marked, Form, Done, Piece, Part, keyword, opener, closer}
use Rattle.lay_form.specs.Notation.{I0, body, braces}
use Rattle.lay_node.specs.Words.{leaf_of}
use Rattle.lay_node.specs.nodes.Attr.{attr_form}
use Rattle.lay_node.specs.nodes.Facts.{Facts}
use Rattle.lay_node.specs.nodes.Fields.{blank_if}
use Rattle.lay_node.specs.nodes.Patterns.{about_pat, dots, pat_form}
use Rattle.lay_node.specs.nodes.Types.{about_path, about_type}
use Rattle.lay_node.specs.declared.patterns.PatPlace.TheVariants.{Alternatives}
use Rattle.lay_node.specs.declared.token.Lifetime.{Lifetime}
use Rattle.lay_node.specs.declared.token.Literal.{Literal}
use Rattle.lay_node.specs.declared.tokens.MacroCall.{MacroCall}
use Rattle.lay_node.specs.declared.types.Path.{Path}
use Rattle.lay_node.specs.declared.types.PathStyle.TheVariants.{Code}
use Rattle.lay_node.specs.declared.types.Ty.{Ty}
use Rattle.lay_code.specs.nodes.Blocks.{attrs_before, dropped_if, is_plain, stmt_form}
use Rattle.lay_code.specs.nodes.Code.{about_arm, about_block, about_branch, about_condition, about_expr, about_field_expr, about_step, about_stmt}
use Rattle.lay_code.specs.nodes.CodeFacts.{BlockFacts, BranchFacts}
use Rattle.lay_code.specs.nodes.Ends.{brace_bits, brace_behind, ends_in_brace, is_brace_kind}
use Rattle.lay_code.specs.nodes.Exprs.{ExprFacts, StepFacts, args_form, arm_forms, bar, base_form, body_braces, break_if, closure_body, closure_head, closure_param, else_branch_form, end_form, expr_forms, generics_form, group_if, is_brace, is_field, is_method, labelled, methods, more_branches, operands_form, prefix_bits, prefixes_form, steps_form, tail_of_operands, tail_of_steps, targets_form, types_form}
use Rattle.lay_code.specs.nodes.Layers.{ExprNode}
use Rattle.lay_code.specs.declared.blocks.Block.{Block}
use Rattle.lay_code.specs.declared.blocks.Branch.{Branch}
use Rattle.lay_code.specs.declared.blocks.Stmt.TheOpen.{Expr-F}
use Rattle.lay_code.specs.declared.blocks.Stmt.TheViews as views
use Rattle.lay_code.specs.declared.exprs.ClosureParam.{ClosureParam}
use Rattle.lay_code.specs.declared.exprs.Expr.{Expr}
use Rattle.lay_code.specs.declared.exprs.Expr.TheVariants as expr
use Rattle.lay_code.specs.declared.exprs.Step.{Step}
use Rattle.lay_code.specs.declared.operators.Op.{Op}
use Rattle.lay_code.specs.declared.operators.Prefix.{Prefix}
use Rattle.lay_code.specs.declared.operators.Prefix.TheVariants as prefix
use Rattle.lay_code.proofs.nodes.BlocksLaws.{block_is, branch_is}
use Rattle.lay_code.proofs.nodes.ExprsLaws as laws
use Rattle.lay_code.proofs.reader.ElseEnds.{soft_ends}
use Rattle.lay_ops.proofs.Last.{last, last_is, no_last}
use Rattle.lay_ops_ends.specs.BraceEnds.{has_block}
use Rattle.lay_ops_ends.proofs.TypeBraces.{Ends, call_ends, list_ends}

-- ---- blocks

rows_end : (fs : List Form) → Ends (body (Blank ∷ []) [] fs) true
rows_end [] before = refl
rows_end (f ∷ fs) before = refl

body_ends : (lead skips : Bool) (fs : List Form) → Ends (body (blank_if lead) (dropped_if skips) fs) true
body_ends true true [] before = refl
body_ends true false [] before = refl
body_ends false true [] before = refl
body_ends false false [] before = refl
body_ends lead skips (f ∷ fs) before = refl

block_ends : (b : Block) (lead : Bool) → Ends ((about_block b).form lead) true
block_ends b lead =
    subst (λ (F : BlockFacts). Ends (F.form lead) true) (sym (block_is b))
    (body_ends lead (is_plain b.attrs) (attrs_before (map attr_form b.attrs) ++ map stmt_form (map about_stmt b.stmts)))

branch_soft : (b : Branch) → Ends (about_branch b).soft true
branch_soft b = subst (λ (F : BranchFacts). Ends F.soft true) (sym (branch_is b)) (soft_ends b.body)

-- further branches and an `else`, after what ends so
more_end : (bs : List Branch) (o : Option Block) (before : Bool) → before ≡ true
    → brace_behind before (more_branches (map about_branch bs) (else_branch_form (option_map about_block o))) ≡ true
more_end [] None before h = h
more_end [] (Some b) before h = soft_ends b _
more_end (b ∷ bs) o before h = more_end bs o (brace_behind _ (about_branch b).soft) (branch_soft b _)

labelled_ends : (label : Option Lifetime) (f : Form) → Ends f true → Ends (labelled label f) true
labelled_ends None f e before = e before
labelled_ends (Some l) f e before = e _

fields_end : (may : Bool) (fs : List Form) → Ends (braces may fs) true
fields_end may [] before = refl
fields_end may (f ∷ fs) before = refl

-- ---- steps

leaf_ends : (raw : Bool) (text : List ℕ) (f : Form) (v : Bool) → brace_behind false f ≡ v → Ends (leaf_of raw text f) v
leaf_ends true text f v e before = e
leaf_ends false text f v e before = e

rounded : (xs : List ExprFacts) → Ends (args_form xs) false
rounded xs = list_ends true (opener Paren) (closer Paren) (expr_forms xs) (λ b. refl) (λ b. refl)

step_by : (s : Step) → laws.StepView s → Ends (about_step s).form false
step_by _ (laws.IsFieldStep name) before = rw (laws.step_field_is name) (leaf_ends name.raw name.text Done false refl false)
step_by _ (laws.IsTupleIndexStep index) before = rw (laws.step_tuple_index_is index) refl
step_by _ (laws.IsMethodStep name None xs) before =
    let f : Form = Part (args_form (map about_expr xs)) Done in
    rw (laws.step_method_is name None xs)
    (leaf_ends name.raw name.text (generics_form None f) false (rounded (map about_expr xs) false) false)
step_by _ (laws.IsMethodStep name (Some args) xs) before =
    let f : Form = Part (args_form (map about_expr xs)) Done in
    rw (laws.step_method_is name (Some args) xs)
    (leaf_ends name.raw name.text (generics_form (Some args) f) false (rounded (map about_expr xs) _) false)
step_by _ (laws.IsApplyStep xs) before = rw (laws.step_apply_is xs) (rounded (map about_expr xs) before)
step_by _ (laws.IsIndexStep x) before = rw (laws.step_index_is x) refl
step_by _ laws.IsTryStep before = rw (laws.step_try_is) refl
step_by _ laws.IsAwaitStep before = rw (laws.step_await_is) refl

step_ends : (s : Step) → Ends (about_step s).form false
step_ends s = step_by s (laws.step_view s)

break_ends : (breaks : Bool) (f : Form) → Ends f false → Ends (break_if breaks f) false
break_ends true f e before = e before
break_ends false f e before = e before

group_ends : (groups : Bool) (f : Form) → Ends f false → Ends (group_if groups f) false
group_ends true f e before = e before
group_ends false f e before = e before

steps_end : (several behind : Bool) (s : Step) (more : List Step) → Ends (steps_form several behind (map about_step (s ∷ more))) false
steps_end several behind s [] =
    let told = about_step s in
    break_ends (several && (behind && is_method told.kind)) (Part told.form Done) (λ b. step_ends s b)
steps_end several behind s (t ∷ more) =
    let told = about_step s in
    let rest = behind || is_method told.kind in
    break_ends (several && (behind && is_method told.kind)) (Part told.form (steps_form several rest (map about_step (t ∷ more))))
    (λ b. steps_end several rest t more (brace_behind b told.form))

postfix_ends : (x : ExprFacts) (several groups : Bool) (s : Step) (more : List Step)
    → Ends (group_if groups (Part x.form (steps_form several false (map about_step (s ∷ more))))) false
postfix_ends x several groups s more =
    group_ends groups (Part x.form (steps_form several false (map about_step (s ∷ more))))
    (λ b. steps_end several false s more (brace_behind b x.form))

-- ---- operators

prefix_ends : (p : Prefix) → brace_bits false (prefix_bits p) ≡ false
prefix_ends prefix.Neg = refl
prefix_ends prefix.Deref = refl
prefix_ends prefix.Bang = refl
prefix_ends prefix.Amp = refl
prefix_ends prefix.AmpMut = refl
prefix_ends prefix.RawConst = refl
prefix_ends prefix.RawMut = refl

prefixes_end : (ps : List Prefix) (f : Form) → ends_in_brace (prefixes_form ps (Part f Done)) ≡ ends_in_brace f
prefixes_end [] f = refl
prefixes_end (p ∷ ps) f = ap (λ b. brace_behind b (prefixes_form ps (Part f Done))) (prefix_ends p) ∙ prefixes_end ps f

range_ends : (start : Option ExprFacts) (inclusive : Bool) (f : Form)
    → ends_in_brace (end_form start (Piece (dots inclusive) f)) ≡ ends_in_brace f
range_ends None true f = refl
range_ends None false f = refl
range_ends (Some x) true f = refl
range_ends (Some x) false f = refl

targets_end : (ts : List (ExprFacts × Op)) (f : Form) → ends_in_brace (targets_form ts (Part f Done)) ≡ ends_in_brace f
targets_end [] f = refl
targets_end (x ∷ more) f = targets_end more f

-- Braces that aren't in the tree end no body.
unseen_ends : (b : Braces) (f : Form) (before : Bool) → brace_behind before (closure_body b f) ≡ brace_behind before f
unseen_ends Bare f before = refl
unseen_ends Unseen f before = refl
unseen_ends Marked f before = refl

-- What follows the parameters of a closure ends it.
closure_ends : (is_async moves : Bool) (params : List ClosureParam) (f : Form) → ends_in_brace (closure_head is_async moves params f) ≡ ends_in_brace f
closure_ends true true params f =
    ap (λ b. brace_behind b f) (list_ends true bar bar (map closure_param params) (λ b. refl) (λ b. refl) _)
closure_ends true false params f =
    ap (λ b. brace_behind b f) (list_ends true bar bar (map closure_param params) (λ b. refl) (λ b. refl) _)
closure_ends false true params f =
    ap (λ b. brace_behind b f) (list_ends true bar bar (map closure_param params) (λ b. refl) (λ b. refl) _)
closure_ends false false params f =
    ap (λ b. brace_behind b f) (list_ends true bar bar (map closure_param params) (λ b. refl) (λ b. refl) _)

-- ---- all kinds

-- a last operand, if there is one
abbrev pub operand_ends : Option Expr → Bool
operand_ends None = false
operand_ends (Some x) = ends_in_brace (about_expr x).form

abbrev pub steps_in : Expr → List Step → Bool
steps_in x [] = ends_in_brace (about_expr x).form
steps_in x (s ∷ more) = false

abbrev pub brace_in : ExprNode → Bool
brace_in (Expr-F.Lit l) = is_brace_kind l.kind
brace_in (Expr-F.Path path) = ends_in_brace (about_path path Code).form
brace_in (Expr-F.Expr::Call call) = is_brace call.tokens.delim
brace_in (Expr-F.Expr::Struct path fields base) = true
brace_in (Expr-F.Chain x rest) = ends_in_brace (Part (about_expr x).form (operands_form (map laws.behind_op rest)))
brace_in (Expr-F.Cast x types) = ends_in_brace (Part (about_expr x).form (types_form (map about_type types)))
brace_in (Expr-F.Unary ps x) = ends_in_brace (about_expr x).form
brace_in (Expr-F.Range start inclusive end) = operand_ends end
brace_in (Expr-F.Assign targets x) = ends_in_brace (about_expr x).form
brace_in (Expr-F.Postfix x steps) = steps_in x steps
brace_in (Expr-F.Block label b) = true
brace_in (Expr-F.Unsafe b) = true
brace_in (Expr-F.ConstBlock b) = true
brace_in (Expr-F.Async moves b) = true
brace_in (Expr-F.If branches otherwise) = has_block branches otherwise
brace_in (Expr-F.Match x attrs arms) = true
brace_in (Expr-F.Loop label b) = true
brace_in (Expr-F.While label c b) = true
brace_in (Expr-F.For label pat x b) = true
brace_in (Expr-F.Closure is_async moves params x) = ends_in_brace (about_expr x).form
brace_in (Expr-F.TypedClosure is_async moves params output b) = true
brace_in (Expr-F.Return x) = operand_ends x
brace_in (Expr-F.Break label x) = operand_ends x
brace_in _ = false

brace_by : (x : Expr) → laws.ExprView x → ends_in_brace (about_expr x).form ≡ brace_in (views.out-Expr x)
brace_by _ (laws.IsLit l) = rw (laws.expr_lit_is l, views.outs-Lit l) refl
brace_by _ (laws.IsPath path) = rw (laws.expr_path_is path, views.outs-Path path) refl
brace_by _ laws.IsUnderscore = rw (laws.expr_underscore_is, views.outs-Underscore) refl
brace_by _ (laws.IsCall call) = rw (laws.expr_call_is call, views.outs-Expr::Call call) (call_ends call)
brace_by _ (laws.IsParen x) = rw (laws.expr_paren_is x, views.outs-Paren x) refl
brace_by _ (laws.IsContinue None) = rw (laws.expr_continue_is None, views.outs-Continue None) refl
brace_by _ (laws.IsContinue (Some l)) = rw (laws.expr_continue_is (Some l), views.outs-Continue (Some l)) refl
brace_by _ (laws.IsTuple []) = rw (laws.expr_tuple_is [], views.outs-Tuple []) refl
brace_by _ (laws.IsTuple (x ∷ [])) = rw (laws.expr_tuple_is (x ∷ []), views.outs-Tuple (x ∷ [])) refl
brace_by _ (laws.IsTuple (x ∷ y ∷ xs)) = rw (laws.expr_tuple_is (x ∷ y ∷ xs), views.outs-Tuple (x ∷ y ∷ xs)) refl
brace_by _ (laws.IsArray []) = rw (laws.expr_array_is [], views.outs-Array []) refl
brace_by _ (laws.IsArray (x ∷ xs)) = rw (laws.expr_array_is (x ∷ xs), views.outs-Array (x ∷ xs)) refl
brace_by _ (laws.IsRepeat x length) = rw (laws.expr_repeat_is x length, views.outs-Repeat x length) refl
brace_by _ (laws.IsStruct path fields None) =
    let head = ends_in_brace (about_path path Code).form in
    rw (laws.expr_struct_is path fields None, views.outs-Expr::Struct path fields None)
    (fields_end true (map (λ (f : Facts). f.form) (map about_field_expr fields) ++ base_form None) head)
brace_by _ (laws.IsStruct path fields (Some None)) =
    let head = ends_in_brace (about_path path Code).form in
    rw (laws.expr_struct_is path fields (Some None), views.outs-Expr::Struct path fields (Some None))
    (fields_end false (map (λ (f : Facts). f.form) (map about_field_expr fields) ++ base_form (Some None)) head)
brace_by _ (laws.IsStruct path fields (Some (Some x))) =
    let head = ends_in_brace (about_path path Code).form in
    rw (laws.expr_struct_is path fields (Some (Some x)), views.outs-Expr::Struct path fields (Some (Some x)))
    (fields_end false (map (λ (f : Facts). f.form) (map about_field_expr fields) ++ base_form (Some (Some (about_expr x)))) head)
brace_by _ (laws.IsChain x rest) = rw (laws.expr_chain_is x rest, views.outs-Chain x rest) refl
brace_by _ (laws.IsCast x types) = rw (laws.expr_cast_is x types, views.outs-Cast x types) refl
brace_by _ (laws.IsUnary ps x) = rw (laws.expr_unary_is ps x, views.outs-Unary ps x) (prefixes_end ps (about_expr x).form)
brace_by _ (laws.IsRange None inclusive None) =
    rw (laws.expr_range_is None inclusive None, views.outs-Range None inclusive None) (range_ends None inclusive Done)
brace_by _ (laws.IsRange None inclusive (Some y)) =
    rw (laws.expr_range_is None inclusive (Some y), views.outs-Range None inclusive (Some y))
    (range_ends None inclusive (Part (about_expr y).form Done))
brace_by _ (laws.IsRange (Some x) inclusive None) =
    rw (laws.expr_range_is (Some x) inclusive None, views.outs-Range (Some x) inclusive None)
    (range_ends (Some (about_expr x)) inclusive Done)
brace_by _ (laws.IsRange (Some x) inclusive (Some y)) =
    rw (laws.expr_range_is (Some x) inclusive (Some y), views.outs-Range (Some x) inclusive (Some y))
    (range_ends (Some (about_expr x)) inclusive (Part (about_expr y).form Done))
brace_by _ (laws.IsAssign targets x) =
    rw (laws.expr_assign_is targets x, views.outs-Assign targets x) (targets_end (map laws.before_op targets) (about_expr x).form)
brace_by _ (laws.IsPostfix x []) = rw (laws.expr_postfix_is x [], views.outs-Postfix x []) refl
brace_by _ (laws.IsPostfix x (s ∷ more)) =
    let several = nat_le 2 (methods (map about_step (s ∷ more))) in
    rw (laws.expr_postfix_is x (s ∷ more), views.outs-Postfix x (s ∷ more)) (postfix_ends (about_expr x) several several s more false)
brace_by _ (laws.IsBlock label b) =
    rw (laws.expr_block_is label b, views.outs-Block label b) (labelled_ends label ((about_block b).form false) (block_ends b false) false)
brace_by _ (laws.IsUnsafe b) = rw (laws.expr_unsafe_is b, views.outs-Unsafe b) (soft_ends b _)
brace_by _ (laws.IsConstBlock b) = rw (laws.expr_const_block_is b, views.outs-ConstBlock b) (soft_ends b _)
brace_by _ (laws.IsAsync true b) = rw (laws.expr_async_is true b, views.outs-Async true b) (block_ends b true _)
brace_by _ (laws.IsAsync false b) = rw (laws.expr_async_is false b, views.outs-Async false b) (block_ends b true _)
brace_by _ (laws.IsIf [] None) = rw (laws.expr_if_is [] None, views.outs-If [] None) refl
brace_by _ (laws.IsIf [] (Some b)) = rw (laws.expr_if_is [] (Some b), views.outs-If [] (Some b)) (soft_ends b _)
brace_by _ (laws.IsIf (b ∷ bs) None) =
    rw (laws.expr_if_is (b ∷ bs) None, views.outs-If (b ∷ bs) None)
    (more_end bs None (brace_behind _ (about_branch b).soft) (branch_soft b _))
brace_by _ (laws.IsIf (b ∷ bs) (Some o)) =
    rw (laws.expr_if_is (b ∷ bs) (Some o), views.outs-If (b ∷ bs) (Some o))
    (more_end bs (Some o) (brace_behind _ (about_branch b).soft) (branch_soft b _))
brace_by _ (laws.IsMatch x attrs arms) =
    rw (laws.expr_match_is x attrs arms, views.outs-Match x attrs arms)
    (rows_end (map attr_form attrs ++ arm_forms (map about_arm arms)) _)
brace_by _ (laws.IsLoop label b) =
    let f : Form = Piece (keyword (codes "loop") ∷ []) (Part ((about_block b).form true) Done) in
    rw (laws.expr_loop_is label b, views.outs-Loop label b) (labelled_ends label f (λ c. block_ends b true _) false)
brace_by _ (laws.IsWhile label c b) =
    let head : Form = Piece (keyword (codes "while") ∷ Blank ∷ []) (Part (about_condition c).form Done) in
    let f = I0 head (Part ((about_block b).form true) Done) in
    rw (laws.expr_while_is label c b, views.outs-While label c b) (labelled_ends label f (λ before. block_ends b true _) false)
brace_by _ (laws.IsFor label pat x b) =
    let behind : Form = Piece (Blank ∷ keyword (codes "in") ∷ Blank ∷ []) (Part (about_expr x).form Done) in
    let head : Form = Piece (keyword (codes "for") ∷ Blank ∷ []) (Part (pat_form Alternatives (about_pat pat)) behind) in
    let f = I0 head (Part ((about_block b).form true) Done) in
    rw (laws.expr_for_is label pat x b, views.outs-For label pat x b) (labelled_ends label f (λ c. block_ends b true _) false)
brace_by _ (laws.IsClosure is_async moves params x) =
    rw (laws.expr_closure_is is_async moves params x, views.outs-Closure is_async moves params x)
    (closure_ends is_async moves params (Piece (Blank ∷ []) (closure_body (body_braces (about_expr x)) (about_expr x).form))
    ∙ unseen_ends (body_braces (about_expr x)) (about_expr x).form _)
brace_by _ (laws.IsTypedClosure is_async moves params output b) =
    rw (laws.expr_typed_closure_is is_async moves params output b, views.outs-TypedClosure is_async moves params output b)
    (closure_ends is_async moves params
    (Piece (Blank ∷ Operator (codes "->") ∷ Blank ∷ []) (Part (about_type output).told.form (Part ((about_block b).form true) Done)))
    ∙ block_ends b true _)
brace_by _ (laws.IsReturn None) = rw (laws.expr_return_is None, views.outs-Return None) refl
brace_by _ (laws.IsReturn (Some x)) = rw (laws.expr_return_is (Some x), views.outs-Return (Some x)) refl
brace_by _ (laws.IsBreak None None) = rw (laws.expr_break_is None None, views.outs-Break None None) refl
brace_by _ (laws.IsBreak (Some l) None) = rw (laws.expr_break_is (Some l) None, views.outs-Break (Some l) None) refl
brace_by _ (laws.IsBreak None (Some x)) = rw (laws.expr_break_is None (Some x), views.outs-Break None (Some x)) refl
brace_by _ (laws.IsBreak (Some l) (Some x)) = rw (laws.expr_break_is (Some l) (Some x), views.outs-Break (Some l) (Some x)) refl

pub brace_is : (x : Expr) → ends_in_brace (about_expr x).form ≡ brace_in (views.out-Expr x)
brace_is x = brace_by x (laws.expr_view x)

-- ---- what ends in an operand or in a type

chain_last : (before : Bool) (rest : List (Op × Expr)) (e : Op × Expr) → Some e ≡ last rest
    → ends_in_brace (about_expr e.1).form ≡ brace_behind before (operands_form (map laws.behind_op rest))
chain_last before [] e h = absurd (cc)
chain_last before (x ∷ []) e h = let same : e ≡ x = cc in ap (λ (y : Op × Expr). ends_in_brace (about_expr y.1).form) same
chain_last before (x ∷ y ∷ more) e h = chain_last (ends_in_brace (about_expr x.1).form) (y ∷ more) e h

chain_told : (operand : Expr) (rest : List (Op × Expr))
    → ends_in_brace (Part (about_expr operand).form (operands_form (map laws.behind_op rest)))
    ≡ ends_in_brace (about_expr (expr.Chain operand rest)).form
chain_told operand rest = ap (λ (x : ExprFacts). ends_in_brace x.form) (sym (laws.expr_chain_is operand rest))

pub of_chain : (x operand : Expr) (rest slice : List (Op × Expr)) (e : Op × Expr) → x ≡ expr.Chain operand rest
    → slice ≡ rest → Some e ≡ slice_get slice (length slice - 1)
    → ends_in_brace (about_expr e.1).form ≡ ends_in_brace (about_expr x).form
of_chain x operand rest slice e is same h =
    let before = ends_in_brace (about_expr operand).form in
    chain_last before slice e (h ∙ last_is slice)
    ∙ ap (λ xs. brace_behind before (operands_form (map laws.behind_op xs))) same ∙ chain_told operand rest
    ∙ ap (λ (y : Expr). ends_in_brace (about_expr y).form) (sym is)

pub no_chain : (x operand lent : Expr) (rest slice : List (Op × Expr)) → x ≡ expr.Chain operand rest
    → slice ≡ rest → None ≡ slice_get slice (length slice - 1) → lent ≡ operand
    → ends_in_brace (about_expr lent).form ≡ ends_in_brace (about_expr x).form
no_chain x operand lent rest slice is same h e =
    let before = ends_in_brace (about_expr operand).form in
    ap (λ (y : Expr). ends_in_brace (about_expr y).form) e
    ∙ ap (λ xs. brace_behind before (operands_form (map laws.behind_op xs))) (sym (no_last slice (h ∙ last_is slice)) ∙ same)
    ∙ chain_told operand rest ∙ ap (λ (y : Expr). ends_in_brace (about_expr y).form) (sym is)

cast_last : (before : Bool) (types : List Ty) (t : Ty) → Some t ≡ last types
    → ends_in_brace (about_type t).told.form ≡ brace_behind before (types_form (map about_type types))
cast_last before [] t h = absurd (cc)
cast_last before (x ∷ []) t h = let same : t ≡ x = cc in ap (λ (y : Ty). ends_in_brace (about_type y).told.form) same
cast_last before (x ∷ y ∷ more) t h = cast_last (ends_in_brace (about_type x).told.form) (y ∷ more) t h

cast_told : (operand : Expr) (types : List Ty)
    → ends_in_brace (Part (about_expr operand).form (types_form (map about_type types)))
    ≡ ends_in_brace (about_expr (expr.Cast operand types)).form
cast_told operand types = ap (λ (x : ExprFacts). ends_in_brace x.form) (sym (laws.expr_cast_is operand types))

pub of_cast : (x operand : Expr) (types slice : List Ty) (t : Ty) → x ≡ expr.Cast operand types
    → slice ≡ types → Some t ≡ slice_get slice (length slice - 1)
    → ends_in_brace (about_type t).told.form ≡ ends_in_brace (about_expr x).form
of_cast x operand types slice t is same h =
    let before = ends_in_brace (about_expr operand).form in
    cast_last before slice t (h ∙ last_is slice)
    ∙ ap (λ xs. brace_behind before (types_form (map about_type xs))) same ∙ cast_told operand types
    ∙ ap (λ (y : Expr). ends_in_brace (about_expr y).form) (sym is)

pub no_cast : (x operand lent : Expr) (types slice : List Ty) → x ≡ expr.Cast operand types
    → slice ≡ types → None ≡ slice_get slice (length slice - 1) → lent ≡ operand
    → ends_in_brace (about_expr lent).form ≡ ends_in_brace (about_expr x).form
no_cast x operand lent types slice is same h e =
    let before = ends_in_brace (about_expr operand).form in
    ap (λ (y : Expr). ends_in_brace (about_expr y).form) e
    ∙ ap (λ xs. brace_behind before (types_form (map about_type xs))) (sym (no_last slice (h ∙ last_is slice)) ∙ same)
    ∙ cast_told operand types ∙ ap (λ (y : Expr). ends_in_brace (about_expr y).form) (sym is)

-- ---- other kinds

-- What is told of a kind is told of an expression of it.
told_by : (x y : Expr) (F : ExprNode) → x ≡ y → views.out-Expr y ≡ F
    → brace_in F ≡ ends_in_brace (about_expr x).form
told_by x y F is out = sym (brace_is x ∙ ap brace_in (ap views.out-Expr is ∙ out))

pub of_lit : (x : Expr) (l : Literal) → x ≡ expr.Lit l → is_brace_kind l.kind ≡ ends_in_brace (about_expr x).form
of_lit x l is = told_by x (expr.Lit l) (Expr-F.Lit l) is (views.outs-Lit l)

pub of_path : (x : Expr) (path : Path) → x ≡ expr.Path path
    → ends_in_brace (about_path path Code).form ≡ ends_in_brace (about_expr x).form
of_path x path is = told_by x (expr.Path path) (Expr-F.Path path) is (views.outs-Path path)

pub of_call : (x : Expr) (call : MacroCall) → x ≡ expr.Call call
    → is_brace call.tokens.delim ≡ ends_in_brace (about_expr x).form
of_call x call is = told_by x (expr.Call call) (Expr-F.Expr::Call call) is (views.outs-Expr::Call call)

pub of_unary : (x operand lent : Expr) (prefixes : List Prefix) → x ≡ expr.Unary prefixes operand → lent ≡ operand
    → ends_in_brace (about_expr lent).form ≡ ends_in_brace (about_expr x).form
of_unary x operand lent prefixes is same =
    ap (λ (y : Expr). ends_in_brace (about_expr y).form) same
    ∙ told_by x (expr.Unary prefixes operand) (Expr-F.Unary prefixes operand) is (views.outs-Unary prefixes operand)

pub of_assign : (x value lent : Expr) (targets : List (Expr × Op)) → x ≡ expr.Assign targets value → lent ≡ value
    → ends_in_brace (about_expr lent).form ≡ ends_in_brace (about_expr x).form
of_assign x value lent targets is same =
    ap (λ (y : Expr). ends_in_brace (about_expr y).form) same
    ∙ told_by x (expr.Assign targets value) (Expr-F.Assign targets value) is (views.outs-Assign targets value)

pub of_closure : (x inner lent : Expr) (is_async moves : Bool) (params : List ClosureParam) → x ≡ expr.Closure is_async moves params inner → lent ≡ inner
    → ends_in_brace (about_expr lent).form ≡ ends_in_brace (about_expr x).form
of_closure x inner lent is_async moves params is same =
    ap (λ (y : Expr). ends_in_brace (about_expr y).form) same
    ∙ told_by x (expr.Closure is_async moves params inner) (Expr-F.Closure is_async moves params inner) is (views.outs-Closure is_async moves params inner)

no_step : (x : Expr) (steps : List Step) → (length steps == 0) ≡ true → ends_in_brace (about_expr x).form ≡ steps_in x steps
no_step x [] h = refl
no_step x (s ∷ more) h = absurd (omega (arith, eqb-true (length (s ∷ more)) 0 h))

one_step : (x : Expr) (steps : List Step) → (length steps == 0) ≡ false → false ≡ steps_in x steps
one_step x [] h = absurd (cc h)
one_step x (s ∷ more) h = refl

pub no_steps : (x operand lent : Expr) (steps slice : List Step) (empty : Bool) → x ≡ expr.Postfix operand steps → slice ≡ steps
    → empty ≡ (length slice == 0) → empty ≡ true → lent ≡ operand
    → ends_in_brace (about_expr lent).form ≡ ends_in_brace (about_expr x).form
no_steps x operand lent steps slice empty is e test h same =
    ap (λ (y : Expr). ends_in_brace (about_expr y).form) same ∙ no_step operand slice (sym test ∙ h) ∙ ap (steps_in operand) e
    ∙ told_by x (expr.Postfix operand steps) (Expr-F.Postfix operand steps) is (views.outs-Postfix operand steps)

pub some_steps : (x operand : Expr) (steps slice : List Step) (empty : Bool) → x ≡ expr.Postfix operand steps → slice ≡ steps
    → empty ≡ (length slice == 0) → empty ≡ false → false ≡ ends_in_brace (about_expr x).form
some_steps x operand steps slice empty is e test h =
    one_step operand slice (sym test ∙ h) ∙ ap (steps_in operand) e
    ∙ told_by x (expr.Postfix operand steps) (Expr-F.Postfix operand steps) is (views.outs-Postfix operand steps)

pub of_if : (x : Expr) (branches slice : List Branch) (otherwise : Option Block) → x ≡ expr.If branches otherwise → slice ≡ branches
    → has_block slice otherwise ≡ ends_in_brace (about_expr x).form
of_if x branches slice None is e =
    ap (λ bs. has_block bs None) e ∙ told_by x (expr.If branches None) (Expr-F.If branches None) is (views.outs-If branches None)
of_if x branches slice (Some b) is e =
    ap (λ bs. has_block bs (Some b)) e
    ∙ told_by x (expr.If branches (Some b)) (Expr-F.If branches (Some b)) is (views.outs-If branches (Some b))

-- ---- closures

abbrev pub operand_closes : Option Expr → Bool
operand_closes None = false
operand_closes (Some x) = (about_expr x).tail.closure

abbrev pub closure_in : ExprNode → Bool
closure_in (Expr-F.Chain x rest) = (tail_of_operands (map laws.behind_op rest)).closure
closure_in (Expr-F.Unary ps x) = (about_expr x).tail.closure
closure_in (Expr-F.Range start inclusive end) = operand_closes end
closure_in (Expr-F.Assign targets x) = (about_expr x).tail.closure
closure_in (Expr-F.Closure is_async moves params x) = true
closure_in (Expr-F.TypedClosure is_async moves params output b) = true
closure_in (Expr-F.Return x) = operand_closes x
closure_in (Expr-F.Break label x) = operand_closes x
closure_in _ = false

steps_shut : (steps : List StepFacts) → (tail_of_steps steps).closure ≡ false
steps_shut [] = refl
steps_shut (s ∷ []) = by (is_field s.kind) refl
  where
    by : (b : Bool) → is_field s.kind ≡ b → (tail_of_steps (s ∷ [])).closure ≡ false
    by true h = rw h refl
    by false h = rw h refl
steps_shut (s ∷ t ∷ more) = steps_shut (t ∷ more)

closure_by : (x : Expr) → laws.ExprView x → (about_expr x).tail.closure ≡ closure_in (views.out-Expr x)
closure_by _ (laws.IsLit l) = rw (laws.expr_lit_is l, views.outs-Lit l) refl
closure_by _ (laws.IsPath path) = rw (laws.expr_path_is path, views.outs-Path path) refl
closure_by _ laws.IsUnderscore = rw (laws.expr_underscore_is, views.outs-Underscore) refl
closure_by _ (laws.IsCall call) = rw (laws.expr_call_is call, views.outs-Expr::Call call) refl
closure_by _ (laws.IsParen x) = rw (laws.expr_paren_is x, views.outs-Paren x) refl
closure_by _ (laws.IsContinue label) = rw (laws.expr_continue_is label, views.outs-Continue label) refl
closure_by _ (laws.IsTuple xs) = rw (laws.expr_tuple_is xs, views.outs-Tuple xs) refl
closure_by _ (laws.IsArray xs) = rw (laws.expr_array_is xs, views.outs-Array xs) refl
closure_by _ (laws.IsRepeat x length) = rw (laws.expr_repeat_is x length, views.outs-Repeat x length) refl
closure_by _ (laws.IsStruct path fields None) = rw (laws.expr_struct_is path fields None, views.outs-Expr::Struct path fields None) refl
closure_by _ (laws.IsStruct path fields (Some None)) = rw (laws.expr_struct_is path fields (Some None), views.outs-Expr::Struct path fields (Some None)) refl
closure_by _ (laws.IsStruct path fields (Some (Some x))) = rw (laws.expr_struct_is path fields (Some (Some x)), views.outs-Expr::Struct path fields (Some (Some x))) refl
closure_by _ (laws.IsChain x rest) = rw (laws.expr_chain_is x rest, views.outs-Chain x rest) refl
closure_by _ (laws.IsCast x types) = rw (laws.expr_cast_is x types, views.outs-Cast x types) refl
closure_by _ (laws.IsUnary ps x) = rw (laws.expr_unary_is ps x, views.outs-Unary ps x) refl
closure_by _ (laws.IsRange None inclusive None) = rw (laws.expr_range_is None inclusive None, views.outs-Range None inclusive None) refl
closure_by _ (laws.IsRange None inclusive (Some y)) = rw (laws.expr_range_is None inclusive (Some y), views.outs-Range None inclusive (Some y)) refl
closure_by _ (laws.IsRange (Some x) inclusive None) = rw (laws.expr_range_is (Some x) inclusive None, views.outs-Range (Some x) inclusive None) refl
closure_by _ (laws.IsRange (Some x) inclusive (Some y)) = rw (laws.expr_range_is (Some x) inclusive (Some y), views.outs-Range (Some x) inclusive (Some y)) refl
closure_by _ (laws.IsAssign targets x) = rw (laws.expr_assign_is targets x, views.outs-Assign targets x) refl
closure_by _ (laws.IsPostfix x steps) = rw (laws.expr_postfix_is x steps, views.outs-Postfix x steps) (steps_shut (map about_step steps))
closure_by _ (laws.IsBlock label b) = rw (laws.expr_block_is label b, views.outs-Block label b) refl
closure_by _ (laws.IsUnsafe b) = rw (laws.expr_unsafe_is b, views.outs-Unsafe b) refl
closure_by _ (laws.IsConstBlock b) = rw (laws.expr_const_block_is b, views.outs-ConstBlock b) refl
closure_by _ (laws.IsAsync moves b) = rw (laws.expr_async_is moves b, views.outs-Async moves b) refl
closure_by _ (laws.IsIf branches None) = rw (laws.expr_if_is branches None, views.outs-If branches None) refl
closure_by _ (laws.IsIf branches (Some b)) = rw (laws.expr_if_is branches (Some b), views.outs-If branches (Some b)) refl
closure_by _ (laws.IsMatch x attrs arms) = rw (laws.expr_match_is x attrs arms, views.outs-Match x attrs arms) refl
closure_by _ (laws.IsLoop label b) = rw (laws.expr_loop_is label b, views.outs-Loop label b) refl
closure_by _ (laws.IsWhile label c b) = rw (laws.expr_while_is label c b, views.outs-While label c b) refl
closure_by _ (laws.IsFor label pat x b) = rw (laws.expr_for_is label pat x b, views.outs-For label pat x b) refl
closure_by _ (laws.IsClosure is_async moves params x) = rw (laws.expr_closure_is is_async moves params x, views.outs-Closure is_async moves params x) refl
closure_by _ (laws.IsTypedClosure is_async moves params output b) = rw (laws.expr_typed_closure_is is_async moves params output b, views.outs-TypedClosure is_async moves params output b) refl
closure_by _ (laws.IsReturn None) = rw (laws.expr_return_is None, views.outs-Return None) refl
closure_by _ (laws.IsReturn (Some x)) = rw (laws.expr_return_is (Some x), views.outs-Return (Some x)) refl
closure_by _ (laws.IsBreak label None) = rw (laws.expr_break_is label None, views.outs-Break label None) refl
closure_by _ (laws.IsBreak label (Some x)) = rw (laws.expr_break_is label (Some x), views.outs-Break label (Some x)) refl

pub closure_is : (x : Expr) → (about_expr x).tail.closure ≡ closure_in (views.out-Expr x)
closure_is x = closure_by x (laws.expr_view x)

pub unary_closes : (x operand lent : Expr) (prefixes : List Prefix) → x ≡ expr.Unary prefixes operand → lent ≡ operand
    → (about_expr lent).tail.closure ≡ (about_expr x).tail.closure
unary_closes x operand lent prefixes is same = rw (is, same, laws.expr_unary_is prefixes operand) refl
