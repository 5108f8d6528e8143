-- Which expressions end in a point.
use Rattle.std.proofs.Common.{◌≡◌, if◌then◌else◌, ℕ, suc, ◌-◌, ◌==◌, ◌≤◌, ◌<◌, ◌&&◌, ◌||◌, nat_le, not, Bool, true, false, List, [], ◌∷◌, ◌++◌, map, is_some, length, get_or, codes, Option, option_map, Some, None, refl, sym, ap, ◌∙◌, arith}
use Rattle.std.proofs.Math.Dec.{eqb-suc-zero}
use Rattle.lay_piece.specs.declared.kind.Delim.{Delim}
use Rattle.lay_piece.specs.declared.kind.Delim.TheVariants.{Paren, Bracket, Brace}
use Rattle.lay_form.specs.Form.{Bare, Bit, Blank, Braces, Form, Done, Marked, Part, Piece, Unseen, keyword, opener, closer}
use Rattle.lay_form.specs.Layout.{bits_end_in_point, ends_behind_point, token_ends_in_point}
use Rattle.lay_form.specs.Notation.{body, braces, comma_list, soft, when}
use Rattle.lay_node.specs.Words.{leaf_of}
use Rattle.lay_node.specs.nodes.Call.{bang, call_form}
use Rattle.lay_node.specs.nodes.Attr.{attr_form}
use Rattle.lay_node.specs.nodes.Facts.{Facts}
use Rattle.lay_node.specs.nodes.Fields.{blank_if}
use Rattle.lay_node.specs.nodes.Patterns.{dots}
use Rattle.lay_node.specs.nodes.Types.{ArgsFacts, PathFacts, TypeFacts, about_args, about_path, about_start, about_type, in_style, segments_form}
use Rattle.lay_node.specs.tokens.Lists.{group_form}
use Rattle.lay_node.specs.declared.attr.Attr.{Attr}
use Rattle.lay_node.specs.declared.patterns.SpanEnd.TheVariants as span_end
use Rattle.lay_node.specs.declared.token.Lifetime.{Lifetime}
use Rattle.lay_node.specs.declared.token.Literal.{Literal}
use Rattle.lay_node.specs.declared.token.Word.{Word}
use Rattle.lay_node.specs.declared.tokens.MacroCall.{MacroCall}
use Rattle.lay_node.specs.declared.types.Arg.TheViews as views
use Rattle.lay_node.specs.declared.types.Args.{Args}
use Rattle.lay_node.specs.declared.types.Args.TheVariants as args
use Rattle.lay_node.specs.declared.types.Path.{Path}
use Rattle.lay_node.specs.declared.types.PathStart.{PathStart}
use Rattle.lay_node.specs.declared.types.PathStart.TheVariants as start
use Rattle.lay_node.specs.declared.types.PathStyle.TheVariants.{Code}
use Rattle.lay_node.specs.declared.types.Ty.{Ty}
use Rattle.lay_node.specs.declared.types.Ty.TheVariants as ty
use Rattle.lay_node.proofs.nodes.TypesLaws.{IsGlobal, IsLocal, IsQualified, PathStartView, about_segment, args_round_is, path_is, start_global_is, start_local_is, start_qualified_is, start_view, type_call_is}
use Rattle.lay_code.specs.nodes.Blocks.{attrs_before, block_form, dropped_if, is_plain, soft_form, stmt_form}
use Rattle.lay_code.specs.nodes.Code.{about_arm, about_block, about_branch, about_expr, about_field_expr, about_step, about_stmt}
use Rattle.lay_code.specs.nodes.CodeFacts.{BlockFacts, BranchFacts, StmtFacts}
use Rattle.lay_code.specs.nodes.Exprs.{ExprFacts, arm_forms, base_form, body_braces, branches_form, break_if, closure_body, closure_head, else_branch_form, end_form, expr_forms, group_if, is_method, label_form, labelled, methods, more_branches, operand_form, operands_form, prefix_bits, prefixes_form, steps_form, targets_form, tuple_form, types_form}
use Rattle.lay_code.specs.declared.blocks.Block.{Block}
use Rattle.lay_code.specs.declared.blocks.Branch.{Branch}
use Rattle.lay_code.specs.declared.exprs.ClosureParam.{ClosureParam}
use Rattle.lay_code.specs.declared.exprs.Expr.{Expr}
use Rattle.lay_code.specs.declared.exprs.Expr.TheVariants as expr
use Rattle.lay_code.specs.declared.exprs.Step.{Step}
use Rattle.lay_code.specs.declared.operators.Op.{Op}
use Rattle.lay_code.specs.declared.operators.Prefix.{Prefix}
use Rattle.lay_code.specs.declared.operators.Prefix.TheVariants as prefix
use Rattle.lay_code.proofs.nodes.BlocksLaws.{block_is, branch_is}
use Rattle.lay_code.proofs.nodes.ExprsLaws.{ExprView, IsArray, IsAssign, IsAsync, IsBlock, IsBreak, IsCall, IsCast, IsChain, IsClosure, IsConstBlock, IsContinue, IsFor, IsIf, IsLit, IsLoop, IsMatch, IsParen, IsPath, IsPostfix, IsRange, IsRepeat, IsReturn, IsStruct, IsTuple, IsTypedClosure, IsUnary, IsUnderscore, IsUnsafe, IsWhile, expr_array_is, expr_assign_is, expr_async_is, expr_block_is, expr_break_is, expr_call_is, expr_cast_is, expr_chain_is, expr_closure_is, expr_const_block_is, expr_continue_is, expr_for_is, expr_if_is, expr_lit_is, expr_loop_is, expr_match_is, expr_paren_is, expr_path_is, expr_postfix_is, expr_range_is, expr_repeat_is, expr_return_is, expr_struct_is, expr_tuple_is, expr_typed_closure_is, expr_unary_is, expr_underscore_is, expr_unsafe_is, expr_view, expr_while_is}
use Rattle.lay_out_pats.proofs.PathPoints.{path_point}
use Rattle.lay_out_exprs.specs.Parts.{base_facts, before_op, behind_op, expr_told}
use Rattle.lay_out_exprs.proofs.Feeds.{no_point}
use Rattle.lay_out_exprs.proofs.StepLemmas.{step_shuts}

-- the expression ends in a point, where one stands before it or not
abbrev ends : Bool → Expr → Bool
ends q x = ends_behind_point q (expr_told x)

-- it is of this kind
ends_is : (q : Bool) (x y : Expr) (facts : ExprFacts) → x ≡ y → about_expr y ≡ facts → ends_behind_point q facts.form ≡ ends q x
ends_is q x y facts is e = sym (ap (ends q) is ∙ ap (λ (z : ExprFacts). ends_behind_point q z.form) e)

-- ---- paths and types

-- No path ends in a point.
path_ends : (p : Path) → ends_behind_point false (about_path p Code).form ≡ false
path_ends p = sym (path_point (span_end.Path p) p refl)

-- a path that ends in the type
abbrev towards : Ty → Path
towards x = views.roll-Path (record { start = start.Local; segments = (record { raw = false; text = [] }, args.Round [] (Some x)) ∷ [] })

-- So no type ends in a point.
type_ends : (x : Ty) → ends_behind_point false (about_type x).told.form ≡ false
type_ends x =
    ap (λ (a : ArgsFacts). ends_behind_point false (in_style Code a).form) (sym (args_round_is [] (Some x)))
    ∙ ap (λ (p : PathFacts). ends_behind_point false (p Code).form) (sym (path_is (towards x)))
    ∙ path_ends (towards x)

-- Nor does a macro call.
call_ends : (call : MacroCall) → ends_behind_point false (call_form call) ≡ false
call_ends call = ap (λ (z : TypeFacts). ends_behind_point false z.told.form) (sym (type_call_is call)) ∙ type_ends (ty.Call call)

-- After its `!` it does not count what stood before.
bang_shuts : (d : Delim) (q r : Bool) (f : Form) → ends_behind_point q (Piece (bang d) f) ≡ ends_behind_point r (Piece (bang d) f)
bang_shuts Paren q r f = refl
bang_shuts Bracket q r f = refl
bang_shuts Brace q r f = refl

-- So it ends in none, whatever stands before it.
call_shuts : (q : Bool) (call : MacroCall) → ends_behind_point q (call_form call) ≡ false
call_shuts q call = bang_shuts call.tokens.delim _ _ (group_form call.tokens Done) ∙ call_ends call

-- ---- what is empty

-- A point before a path stands at its end where the path is nothing.
nothing_by : (x : PathStart) → PathStartView x → (x ≡ start.Local → ⊥) → (f : Form)
    → ends_behind_point true (Part (about_start x).form f) ≡ ends_behind_point false (Part (about_start x).form f)
nothing_by _ IsLocal other f = absurd (other refl)
nothing_by _ IsGlobal other f = rw start_global_is refl
nothing_by _ (IsQualified inner of) other f = rw (start_qualified_is inner of) refl

-- A path that begins with `::` or a type is something.
pub some_start : (p : Path) → (p.start ≡ start.Local → ⊥) → false ≡ ends_behind_point true (about_path p Code).form
some_start p other = sym (
    ap (λ (x : PathFacts). ends_behind_point true (x Code).form) (path_is p)
    ∙ nothing_by p.start (start_view p.start) other (segments_form Code (map about_segment p.segments))
    ∙ ap (λ (x : PathFacts). ends_behind_point false (x Code).form) (sym (path_is p))
    ∙ path_ends p)

-- Segments end in a point that stands before them where there are none.
segments_by : (ss : List (Word × Args)) → ends_behind_point false (segments_form Code (map about_segment ss)) ≡ false
    → (length ss == 0) ≡ ends_behind_point true (segments_form Code (map about_segment ss))
segments_by [] h = refl
segments_by (s ∷ []) h = eqb-suc-zero 0 ∙ sym h ∙ by s.0.raw
  where
    by : (raw : Bool) → ends_behind_point false (leaf_of raw s.0.text (Part (in_style Code (about_args s.1)).form Done))
        ≡ ends_behind_point true (leaf_of raw s.0.text (Part (in_style Code (about_args s.1)).form Done))
    by true = refl
    by false = refl
segments_by (s ∷ t ∷ ss) h = eqb-suc-zero (length (t ∷ ss)) ∙ sym h ∙ by s.0.raw _
  where
    by : (raw : Bool) (f : Form) → ends_behind_point false (leaf_of raw s.0.text f) ≡ ends_behind_point true (leaf_of raw s.0.text f)
    by true f = refl
    by false f = refl

-- Else it is nothing where it has no segments.
pub local_start : (p : Path) (put : List (Word × Args)) → p.start ≡ start.Local → put ≡ p.segments
    → (length put == 0) ≡ ends_behind_point true (about_path p Code).form
local_start p put is same =
    let from : (q : Bool) → ends_behind_point q (segments_form Code (map about_segment p.segments))
    ≡ ends_behind_point q (about_path p Code).form
    = λ q. ap (λ (x : Facts). ends_behind_point (ends_behind_point q x.form) (segments_form Code (map about_segment p.segments)))
    (sym (ap about_start is ∙ start_local_is))
    ∙ ap (λ (x : PathFacts). ends_behind_point q (x Code).form) (sym (path_is p)) in
    rw same (segments_by p.segments (from false ∙ path_ends p) ∙ from true)

-- ---- leaves

-- a literal
pub lit_point : (q : Bool) (x : Expr) (l : Literal) (b : Bool) → x ≡ expr.Lit l → b ≡ token_ends_in_point l.kind l.text
    → b ≡ ends q x
lit_point q x l b is e = e ∙ ends_is q x (expr.Lit l) _ is (expr_lit_is l)

-- a path
pub path_at_point : (q : Bool) (x : Expr) (p : Path) (b : Bool) → x ≡ expr.Path p → b ≡ ends_behind_point true (about_path p Code).form
    → (q && b) ≡ ends q x
path_at_point true x p b is e = e ∙ ends_is true x (expr.Path p) _ is (expr_path_is p)
path_at_point false x p b is e = sym (path_ends p) ∙ ends_is false x (expr.Path p) _ is (expr_path_is p)

-- ---- operators

-- Operands end as the last one does.
operands_end : (r : Bool) (xs : List (Op × Expr)) (last : Op × Expr) → 1 ≤ length xs
    → ends_behind_point r (operands_form (map behind_op xs)) ≡ ends false (get_or xs (length xs - 1) last).1
operands_end r [] last some = absurd (omega arith)
operands_end r (x ∷ []) last some = refl
operands_end r (x ∷ y ∷ more) last some =
    let e : suc (suc (length more)) - 1 ≡ suc (length more) = omega arith in
    let e' : suc (length more) - 1 ≡ length more = omega arith in
    operands_end (ends false x.1) (y ∷ more) last (omega arith)
    ∙ ap (λ (i : ℕ). ends false (get_or (y ∷ more) i last).1) e'
    ∙ ap (λ (i : ℕ). ends false (get_or (x ∷ y ∷ more) i last).1) (sym e)

-- a chain without operators
pub no_operand : (q : Bool) (x first put : Expr) (rest more : List (Op × Expr)) (b : Bool) → x ≡ expr.Chain first rest
    → put ≡ first → more ≡ rest → length more < 1 → b ≡ ends q put → b ≡ ends q x
no_operand q x first put rest [] b is e f none h =
    h ∙ ap (ends q) e ∙ ends_is q x (expr.Chain first []) _ (is ∙ ap (λ (r : List _). expr.Chain first r) (sym f)) (expr_chain_is first [])
no_operand q x first put rest (y ∷ ys) b is e f none h = absurd (omega arith)

-- a chain
pub last_operand : (q : Bool) (x first : Expr) (rest more : List (Op × Expr)) (last : Op × Expr) (b : Bool)
    → x ≡ expr.Chain first rest → more ≡ rest → 1 ≤ length more → b ≡ ends false (get_or more (length more - 1) last).1
    → b ≡ ends q x
last_operand q x first rest more last b is f some h =
    h ∙ sym (operands_end (ends q first) more last some)
    ∙ ends_is q x (expr.Chain first more) _ (is ∙ ap (λ (r : List _). expr.Chain first r) (sym f)) (expr_chain_is first more)

-- Types after their `as` end in no point.
types_end : (r : Bool) (xs : List Ty) → r ≡ false → ends_behind_point r (types_form (map about_type xs)) ≡ false
types_end r [] e = e
types_end r (x ∷ xs) e = types_end (ends_behind_point false (about_type x).told.form) xs (type_ends x)

-- a cast, of no type or of some
pub cast_point : (q : Bool) (x operand put : Expr) (types more : List Ty) (b : Bool) → x ≡ expr.Cast operand types
    → put ≡ operand → more ≡ types → b ≡ ends q put → ((length more == 0) && b) ≡ ends q x
cast_point q x operand put types [] b is e f h =
    h ∙ ap (ends q) e
    ∙ ends_is q x (expr.Cast operand []) _ (is ∙ ap (λ (r : List _). expr.Cast operand r) (sym f)) (expr_cast_is operand [])
cast_point q x operand put types (y ∷ ys) b is e f h =
    ap (λ (c : Bool). c && b) (eqb-suc-zero (length ys)) ∙ sym (types_end _ ys (type_ends y))
    ∙ ends_is q x (expr.Cast operand (y ∷ ys)) _ (is ∙ ap (λ (r : List _). expr.Cast operand r) (sym f)) (expr_cast_is operand (y ∷ ys))

-- a cast of some type
pub some_types : (q : Bool) (x operand : Expr) (types more : List Ty) → x ≡ expr.Cast operand types → more ≡ types
    → false ≡ (length more == 0) → false ≡ ends q x
some_types q x operand types more is f some =
    ap (λ (c : Bool). c && ends q operand) some ∙ cast_point q x operand operand types more (ends q operand) is refl f refl

-- No operator before an operand ends in a point.
prefix_ends : (q : Bool) (p : Prefix) → bits_end_in_point q (prefix_bits p) ≡ false
prefix_ends q prefix.Neg = refl
prefix_ends q prefix.Deref = refl
prefix_ends q prefix.Bang = refl
prefix_ends q prefix.Amp = refl
prefix_ends q prefix.AmpMut = refl
prefix_ends q prefix.RawConst = refl
prefix_ends q prefix.RawMut = refl

-- After operators an operand ends as by itself.
prefixes_end : (q : Bool) (ps : List Prefix) (f : Form)
    → ends_behind_point (q && (length ps == 0)) f ≡ ends_behind_point q (prefixes_form ps f)
prefixes_end true [] f = refl
prefixes_end false [] f = refl
prefixes_end q (p ∷ ps) f =
    ap (λ (b : Bool). ends_behind_point b f) (no_point q (length ps)) ∙ prefixes_end false ps f
    ∙ ap (λ (b : Bool). ends_behind_point b (prefixes_form ps f)) (sym (prefix_ends q p))

-- an operand after its operators
pub unary_point : (q r : Bool) (x operand put : Expr) (prefixes ps : List Prefix) (b : Bool) → x ≡ expr.Unary prefixes operand
    → ps ≡ prefixes → put ≡ operand → r ≡ (q && (length ps == 0)) → b ≡ ends r put → b ≡ ends q x
unary_point q r x operand put prefixes ps b is e f p h =
    h ∙ rw (p, e, f) (prefixes_end q prefixes (Part (expr_told operand) Done)
    ∙ ends_is q x (expr.Unary prefixes operand) _ is (expr_unary_is prefixes operand))

-- After targets a value ends as by itself.
targets_end : (q : Bool) (ts : List (Expr × Op)) (f : Form)
    → ends_behind_point (q && (length ts == 0)) f ≡ ends_behind_point q (targets_form (map before_op ts) f)
targets_end true [] f = refl
targets_end false [] f = refl
targets_end q (t ∷ ts) f = ap (λ (b : Bool). ends_behind_point b f) (no_point q (length ts)) ∙ targets_end false ts f

-- an assignment
pub assign_point : (q r : Bool) (x value put : Expr) (targets ts : List (Expr × Op)) (b : Bool) → x ≡ expr.Assign targets value
    → ts ≡ targets → put ≡ value → r ≡ (q && (length ts == 0)) → b ≡ ends r put → b ≡ ends q x
assign_point q r x value put targets ts b is e f p h =
    h ∙ rw (p, e, f) (targets_end q targets (Part (expr_told value) Done)
    ∙ ends_is q x (expr.Assign targets value) _ is (expr_assign_is targets value))

-- After its dots a range ends as its end does.
range_by : (q i : Bool) (start end : Option ExprFacts)
    → ends_behind_point (not i) (end_form end Done) ≡ ends_behind_point q (end_form start (Piece (dots i) (end_form end Done)))
range_by q true None end = refl
range_by q false None end = refl
range_by q true (Some x) end = refl
range_by q false (Some x) end = refl

-- a range
pub range_point : (q : Bool) (x : Expr) (start : Option Expr) (i : Bool) (end : Option Expr) (b : Bool) → x ≡ expr.Range start i end
    → b ≡ ends_behind_point (not i) (end_form (option_map about_expr end) Done) → b ≡ ends q x
range_point q x start i end b is h =
    h ∙ range_by q i (option_map about_expr start) (option_map about_expr end)
    ∙ ends_is q x (expr.Range start i end) _ is (expr_range_is start i end)

-- ---- steps

-- A break before a part does not count, where the part ends in no point.
break_ends : (b r : Bool) (f : Form) → ((p : Bool) → ends_behind_point p f ≡ false) → ends_behind_point r (break_if b f) ≡ false
break_ends true r f h = h r
break_ends false r f h = h r

-- Steps end in no point.
steps_end : (several behind r : Bool) (xs : List Step) → r ≡ false
    → ends_behind_point r (steps_form several behind (map about_step xs)) ≡ false
steps_end several behind r [] e = e
steps_end several behind r (x ∷ xs) e =
    let b = behind || is_method (about_step x).kind in
    break_ends (several && (behind && is_method (about_step x).kind)) r
    (Part (about_step x).form (steps_form several b (map about_step xs)))
    (λ p. steps_end several b (ends_behind_point p (about_step x).form) xs (step_shuts p x))

-- So do steps that are there, whatever stands before them.
some_steps : (several r : Bool) (x : Step) (xs : List Step)
    → ends_behind_point r (steps_form several false (map about_step (x ∷ xs))) ≡ false
some_steps true r x xs = steps_end true (is_method (about_step x).kind) _ xs (step_shuts r x)
some_steps false r x xs = steps_end false (is_method (about_step x).kind) _ xs (step_shuts r x)

-- A form ends in a group as by itself.
group_ends : (several q : Bool) (f : Form) → ends_behind_point q (group_if several f) ≡ ends_behind_point q f
group_ends true q f = refl
group_ends false q f = refl

-- a postfix expression, of no step or of some
pub postfix_point : (q : Bool) (x base put : Expr) (steps more : List Step) (b : Bool) → x ≡ expr.Postfix base steps
    → put ≡ base → more ≡ steps → b ≡ ends q put → ((length more == 0) && b) ≡ ends q x
postfix_point q x base put steps [] b is e f h =
    h ∙ ap (ends q) e
    ∙ ends_is q x (expr.Postfix base []) _ (is ∙ ap (λ (r : List _). expr.Postfix base r) (sym f)) (expr_postfix_is base [])
postfix_point q x base put steps (y ∷ ys) b is e f h =
    let several = nat_le 2 (methods (map about_step (y ∷ ys))) in
    ap (λ (c : Bool). c && b) (eqb-suc-zero (length ys))
    ∙ sym (group_ends several q (Part (expr_told base) (steps_form several false (map about_step (y ∷ ys))))
    ∙ some_steps several (ends q base) y ys)
    ∙ ends_is q x (expr.Postfix base (y ∷ ys)) _ (is ∙ ap (λ (r : List _). expr.Postfix base r) (sym f)) (expr_postfix_is base (y ∷ ys))

-- one of some step
pub some_steps_behind : (q : Bool) (x base : Expr) (steps more : List Step) → x ≡ expr.Postfix base steps → more ≡ steps
    → false ≡ (length more == 0) → false ≡ ends q x
some_steps_behind q x base steps more is f some =
    ap (λ (c : Bool). c && ends q base) some ∙ postfix_point q x base base steps more (ends q base) is refl f refl

-- ---- jumps

-- The blank before an operand does not count.
operand_ends : (q : Bool) (operand : Option ExprFacts)
    → ends_behind_point false (end_form operand Done) ≡ ends_behind_point false (operand_form operand)
operand_ends q None = refl
operand_ends q (Some x) = refl

-- `return`
pub return_point : (q : Bool) (x : Expr) (operand : Option Expr) (b : Bool) → x ≡ expr.Return operand
    → b ≡ ends_behind_point false (end_form (option_map about_expr operand) Done) → b ≡ ends q x
return_point q x operand b is h =
    h ∙ operand_ends q (option_map about_expr operand) ∙ ends_is q x (expr.Return operand) _ is (expr_return_is operand)

-- A label before it does not count.
break_by : (label : Option Lifetime) (operand : Option ExprFacts)
    → ends_behind_point false (operand_form operand) ≡ ends_behind_point false (label_form label (operand_form operand))
break_by None operand = refl
break_by (Some l) operand = by operand
  where
    by : (o : Option ExprFacts) → ends_behind_point false (operand_form o) ≡ ends_behind_point false (label_form (Some l) (operand_form o))
    by None = refl
    by (Some x) = refl

-- `break`
pub break_point : (q : Bool) (x : Expr) (label : Option Lifetime) (operand : Option Expr) (b : Bool) → x ≡ expr.Break label operand
    → b ≡ ends_behind_point false (end_form (option_map about_expr operand) Done) → b ≡ ends q x
break_point q x label operand b is h =
    h ∙ operand_ends q (option_map about_expr operand) ∙ break_by label (option_map about_expr operand)
    ∙ ends_is q x (expr.Break label operand) _ is (expr_break_is label operand)

-- ---- what ends in a block

-- Braces end in no point, whatever is in them.
body_shuts : (q lead plain : Bool) (es : List Form) → false ≡ ends_behind_point q (body (blank_if lead) (dropped_if plain) es)
body_shuts q true true [] = refl
body_shuts q true false [] = refl
body_shuts q false true [] = refl
body_shuts q false false [] = refl
body_shuts q true true (e ∷ es) = refl
body_shuts q true false (e ∷ es) = refl
body_shuts q false true (e ∷ es) = refl
body_shuts q false false (e ∷ es) = refl

-- Nor does a block.
block_shuts : (q lead : Bool) (b : Block) → false ≡ ends_behind_point q ((about_block b).form lead)
block_shuts q lead b =
    body_shuts q lead (is_plain b.attrs) (attrs_before (map attr_form b.attrs) ++ map stmt_form (map about_stmt b.stmts))
    ∙ sym (ap (λ (z : BlockFacts). ends_behind_point q (z.form lead)) (block_is b))

soft_by : (q : Bool) (attrs : List Attr) (stmts : List StmtFacts) → false ≡ ends_behind_point q (soft_form attrs stmts)
soft_by q [] [] = body_shuts q true true []
soft_by q [] (s ∷ []) = by s.bare
  where
    by : (b : Bool) → false ≡ ends_behind_point q (if b then soft s.form else block_form [] (s ∷ []) true)
    by true = refl
    by false = body_shuts q true true (stmt_form s ∷ [])
soft_by q [] (s ∷ t ∷ more) = body_shuts q true true (map stmt_form (s ∷ t ∷ more))
soft_by q (a ∷ attrs) stmts = body_shuts q true false (attrs_before (map attr_form (a ∷ attrs)) ++ map stmt_form stmts)

soft_shuts : (q : Bool) (b : Block) → false ≡ ends_behind_point q (about_block b).soft
soft_shuts q b = soft_by q b.attrs (map about_stmt b.stmts) ∙ sym (ap (λ (z : BlockFacts). ends_behind_point q z.soft) (block_is b))

-- A label before it changes nothing.
labelled_shuts : (q : Bool) (label : Option Lifetime) (f : Form) → ((r : Bool) → false ≡ ends_behind_point r f)
    → false ≡ ends_behind_point q (labelled label f)
labelled_shuts q None f shut = shut q
labelled_shuts q (Some l) f shut = shut false

-- a branch
branch_shuts : (q : Bool) (b : Branch) → false ≡ ends_behind_point q (about_branch b).soft
branch_shuts q b = soft_shuts q b.body ∙ sym (ap (λ (z : BranchFacts). ends_behind_point q z.soft) (branch_is b))

-- further branches, and the block after them
more_end : (bs : List Branch) (q : Bool) (otherwise : Option Block) → false ≡ q
    → false ≡ ends_behind_point q (more_branches (map about_branch bs) (else_branch_form (option_map about_block otherwise)))
more_end [] q None e = e
more_end [] q (Some b) e = soft_shuts false b
more_end (b ∷ bs) q otherwise e = more_end bs _ otherwise (branch_shuts _ b)

-- Branches end in a point that stands before them where there are none.
branches_end : (q : Bool) (bs : List Branch)
    → (q && (length bs == 0)) ≡ ends_behind_point q (branches_form (map about_branch bs) Done)
branches_end true [] = refl
branches_end false [] = refl
branches_end q (b ∷ bs) = no_point q (length bs) ∙ more_end bs _ None (branch_shuts _ b)

branches_shut : (q : Bool) (bs : List Branch) (b : Block)
    → false ≡ ends_behind_point q (branches_form (map about_branch bs) (else_branch_form (Some (about_block b))))
branches_shut q [] b = soft_shuts false b
branches_shut q (x ∷ bs) b = more_end bs _ (Some b) (branch_shuts _ x)

-- branches without an `else`, and with one
pub if_point : (q : Bool) (x : Expr) (branches put : List Branch) (otherwise : Option Block) → x ≡ expr.If branches otherwise
    → otherwise ≡ None → put ≡ branches → (q && (length put == 0)) ≡ ends q x
if_point q x branches put otherwise is none same =
    rw same (branches_end q branches
    ∙ ends_is q x (expr.If branches None) _ (is ∙ ap (λ (o : Option Block). expr.If branches o) none) (expr_if_is branches None))

pub else_point : (q : Bool) (x : Expr) (branches : List Branch) (otherwise : Option Block) (b : Block)
    → x ≡ expr.If branches otherwise → otherwise ≡ Some b → false ≡ ends q x
else_point q x branches otherwise b is some =
    branches_shut q branches b
    ∙ ends_is q x (expr.If branches (Some b)) _ (is ∙ ap (λ (o : Option Block). expr.If branches o) some)
    (expr_if_is branches (Some b))

-- a closure, whose body may stand in braces
body_point : (q : Bool) (b : Braces) (f : Form) → ends_behind_point q f ≡ ends_behind_point q (closure_body b f)
body_point q Bare f = refl
body_point q Unseen f = refl
body_point q Marked f = refl

closure_by : (q is_async moves : Bool) (params : List ClosureParam) (f : Form)
    → ends_behind_point false f ≡ ends_behind_point q (closure_head is_async moves params (Piece (Blank ∷ []) f))
closure_by q true true params f = refl
closure_by q true false params f = refl
closure_by q false true params f = refl
closure_by q false false params f = refl

pub closure_point : (q : Bool) (x : Expr) (is_async moves : Bool) (params : List ClosureParam) (inner put : Expr) (b : Bool)
    → x ≡ expr.Closure is_async moves params inner → put ≡ inner → b ≡ ends false put → b ≡ ends q x
closure_point q x is_async moves params inner put b is same h =
    let braces = body_braces (about_expr inner) in
    h ∙ ap (ends false) same ∙ body_point false braces (expr_told inner)
    ∙ closure_by q is_async moves params (closure_body braces (expr_told inner))
    ∙ ends_is q x (expr.Closure is_async moves params inner) _ is (expr_closure_is is_async moves params inner)

head_shuts : (q is_async moves : Bool) (params : List ClosureParam) (bits : List Bit) (f : Form)
    → ((r : Bool) → false ≡ ends_behind_point r (Piece bits f))
    → false ≡ ends_behind_point q (closure_head is_async moves params (Piece bits f))
head_shuts q true true params bits f shut = shut _
head_shuts q true false params bits f shut = shut _
head_shuts q false true params bits f shut = shut _
head_shuts q false false params bits f shut = shut _

-- ---- what ends in no point whatever is in it

-- It is none of the kinds that end in a part of theirs.
pub record Other (x : Expr) : Type 0 where
  pub not_lit : (l : Literal) → x ≡ expr.Lit l → ⊥
  pub not_path : (p : Path) → x ≡ expr.Path p → ⊥
  pub not_chain : (first : Expr) (rest : List (Op × Expr)) → x ≡ expr.Chain first rest → ⊥
  pub not_cast : (operand : Expr) (types : List Ty) → x ≡ expr.Cast operand types → ⊥
  pub not_unary : (ps : List Prefix) (operand : Expr) → x ≡ expr.Unary ps operand → ⊥
  pub not_range : (start : Option Expr) (i : Bool) (end : Option Expr) → x ≡ expr.Range start i end → ⊥
  pub not_assign : (targets : List (Expr × Op)) (value : Expr) → x ≡ expr.Assign targets value → ⊥
  pub not_postfix : (base : Expr) (steps : List Step) → x ≡ expr.Postfix base steps → ⊥
  pub not_if : (branches : List Branch) (otherwise : Option Block) → x ≡ expr.If branches otherwise → ⊥
  pub not_closure : (is_async moves : Bool) (params : List ClosureParam) (inner : Expr) → x ≡ expr.Closure is_async moves params inner → ⊥
  pub not_return : (operand : Option Expr) → x ≡ expr.Return operand → ⊥
  pub not_break : (label : Option Lifetime) (operand : Option Expr) → x ≡ expr.Break label operand → ⊥

-- a tuple
tuple_shuts : (q : Bool) (xs : List ExprFacts) → false ≡ ends_behind_point q (tuple_form xs)
tuple_shuts q [] = refl
tuple_shuts q (x ∷ []) = refl
tuple_shuts q (x ∷ y ∷ xs) = refl

-- an array
array_shuts : (q : Bool) (xs : List ExprFacts)
    → false ≡ ends_behind_point q (comma_list true (opener Bracket) (closer Bracket) (expr_forms xs))
array_shuts q [] = refl
array_shuts q (x ∷ xs) = refl

-- braces
braces_shut : (q may : Bool) (es : List Form) → false ≡ ends_behind_point q (braces may es)
braces_shut q may [] = refl
braces_shut q true (e ∷ es) = refl
braces_shut q false (e ∷ es) = refl

-- a label
label_shuts : (label : Option Lifetime) → false ≡ ends_behind_point false (label_form label Done)
label_shuts None = refl
label_shuts (Some l) = refl

-- an `async` block
async_shuts : (q moves : Bool) (b : Block)
    → false ≡ ends_behind_point q (Piece (keyword (codes "async") ∷ [])
    (when moves (Blank ∷ keyword (codes "move") ∷ []) (Part ((about_block b).form true) Done)))
async_shuts q true b = block_shuts false true b
async_shuts q false b = block_shuts false true b

-- the kinds that are left, one by one
other_by : (q : Bool) (x : Expr) → ExprView x → Other x → false ≡ ends q x
other_by q _ (IsLit l) o = absurd (o.not_lit l refl)
other_by q _ (IsPath p) o = absurd (o.not_path p refl)
other_by q _ (IsChain first rest) o = absurd (o.not_chain first rest refl)
other_by q _ (IsCast operand types) o = absurd (o.not_cast operand types refl)
other_by q _ (IsUnary ps operand) o = absurd (o.not_unary ps operand refl)
other_by q _ (IsRange start i end) o = absurd (o.not_range start i end refl)
other_by q _ (IsAssign targets value) o = absurd (o.not_assign targets value refl)
other_by q _ (IsPostfix base steps) o = absurd (o.not_postfix base steps refl)
other_by q _ (IsIf branches otherwise) o = absurd (o.not_if branches otherwise refl)
other_by q _ (IsClosure is_async moves params inner) o = absurd (o.not_closure is_async moves params inner refl)
other_by q _ (IsBlock label b) o =
    labelled_shuts q label ((about_block b).form false) (λ r. block_shuts r false b)
    ∙ ends_is q (expr.Block label b) (expr.Block label b) _ refl (expr_block_is label b)
other_by q _ (IsUnsafe b) o =
    soft_shuts false b ∙ ends_is q (expr.Unsafe b) (expr.Unsafe b) _ refl (expr_unsafe_is b)
other_by q _ (IsConstBlock b) o =
    soft_shuts false b ∙ ends_is q (expr.ConstBlock b) (expr.ConstBlock b) _ refl (expr_const_block_is b)
other_by q _ (IsAsync moves b) o =
    async_shuts q moves b ∙ ends_is q (expr.Async moves b) (expr.Async moves b) _ refl (expr_async_is moves b)
other_by q _ (IsMatch x attrs arms) o =
    body_shuts _ true false (map attr_form attrs ++ arm_forms (map about_arm arms))
    ∙ ends_is q (expr.Match x attrs arms) (expr.Match x attrs arms) _ refl (expr_match_is x attrs arms)
other_by q _ (IsLoop label b) o =
    labelled_shuts q label _ (λ r. block_shuts false true b)
    ∙ ends_is q (expr.Loop label b) (expr.Loop label b) _ refl (expr_loop_is label b)
other_by q _ (IsWhile label c b) o =
    labelled_shuts q label _ (λ r. block_shuts _ true b)
    ∙ ends_is q (expr.While label c b) (expr.While label c b) _ refl (expr_while_is label c b)
other_by q _ (IsFor label pat x b) o =
    labelled_shuts q label _ (λ r. block_shuts _ true b)
    ∙ ends_is q (expr.For label pat x b) (expr.For label pat x b) _ refl (expr_for_is label pat x b)
other_by q _ (IsTypedClosure is_async moves params output b) o =
    head_shuts q is_async moves params _ _ (λ r. block_shuts _ true b)
    ∙ ends_is q (expr.TypedClosure is_async moves params output b) (expr.TypedClosure is_async moves params output b) _ refl
    (expr_typed_closure_is is_async moves params output b)
other_by q _ (IsReturn operand) o = absurd (o.not_return operand refl)
other_by q _ (IsBreak label operand) o = absurd (o.not_break label operand refl)
other_by q _ IsUnderscore o = ends_is q expr.Underscore expr.Underscore _ refl expr_underscore_is
other_by q _ (IsCall call) o =
    sym (call_shuts q call) ∙ ends_is q (expr.Call call) (expr.Call call) _ refl (expr_call_is call)
other_by q _ (IsParen inner) o = ends_is q (expr.Paren inner) (expr.Paren inner) _ refl (expr_paren_is inner)
other_by q _ (IsContinue label) o =
    label_shuts label ∙ ends_is q (expr.Continue label) (expr.Continue label) _ refl (expr_continue_is label)
other_by q _ (IsTuple xs) o =
    tuple_shuts q (map about_expr xs) ∙ ends_is q (expr.Tuple xs) (expr.Tuple xs) _ refl (expr_tuple_is xs)
other_by q _ (IsArray xs) o =
    array_shuts q (map about_expr xs) ∙ ends_is q (expr.Array xs) (expr.Array xs) _ refl (expr_array_is xs)
other_by q _ (IsRepeat inner size) o =
    ends_is q (expr.Repeat inner size) (expr.Repeat inner size) _ refl (expr_repeat_is inner size)
other_by q _ (IsStruct path fields base) o =
    braces_shut (ends_behind_point q (about_path path Code).form) (not (is_some (base_facts base)))
    (map (λ (x : Facts). x.form) (map about_field_expr fields) ++ base_form (base_facts base))
    ∙ ends_is q (expr.Struct path fields base) (expr.Struct path fields base) _ refl (expr_struct_is path fields base)

pub other_ends : (q : Bool) (x : Expr) → Other x → false ≡ ends q x
other_ends q x o = other_by q x (expr_view x) o
