-- What expressions, the fields of struct literals and steps need.
use Rattle.std.proofs.Common.{◌≡◌, ◌∙◌, ◌⊎◌, inl, inr, ℕ, ◌+◌, nat_le, max, Bool, true, false, not, ◌&&◌, ◌||◌, List, [], ◌∷◌, ◌++◌, map, option_map, Option, Some, None, is_some, refl, ap, arith, codes}
use Rattle.lay_piece.specs.declared.kind.Delim.TheVariants.{Bracket, Paren}
use Rattle.lay_form.specs.Depth.{least_depth}
use Rattle.lay_form.specs.Form.{Bare, Blank, Braces, Form, Done, Marked, Part, Piece, Unseen, keyword, opener, closer}
use Rattle.lay_node.specs.nodes.Attr.{attr_form}
use Rattle.lay_node.specs.nodes.Facts.{Facts, forms}
use Rattle.lay_node.specs.nodes.Functions.{self_type}
use Rattle.lay_node.specs.nodes.Patterns.{about_pat, dots}
use Rattle.lay_node.specs.nodes.Types.{about_arg, about_path, about_type, greater, less, type_forms}
use Rattle.lay_node.specs.declared.attr.Attr.{Attr}
use Rattle.lay_node.specs.declared.patterns.Pat.{Pat}
use Rattle.lay_node.specs.declared.token.Lifetime.{Lifetime}
use Rattle.lay_node.specs.declared.token.Listed.{Listed}
use Rattle.lay_node.specs.declared.token.Literal.{Literal}
use Rattle.lay_node.specs.declared.token.Name.{Name}
use Rattle.lay_node.specs.declared.tokens.MacroCall.{MacroCall}
use Rattle.lay_node.specs.declared.types.Arg.{Arg}
use Rattle.lay_node.specs.declared.types.Path.{Path}
use Rattle.lay_node.specs.declared.types.PathStyle.TheVariants.{Code, Kind}
use Rattle.lay_node.specs.declared.types.Ty.{Ty}
use Rattle.lay_code.specs.nodes.Code.{about_arm, about_block, about_branch, about_condition, about_expr, about_field_expr, about_step}
use Rattle.lay_code.specs.nodes.Exprs.{ExprFacts, ExprLayer, StepFacts, args_form, arm_forms, bar, base_form, body_braces, break_if, closure_body, closure_head, closure_param, else_branch_form, end_form, expr_facts, expr_forms, generics_form, group_if, inside, is_method, label_form, labelled, methods, operand_form, operands_form, postfix_form, prefixes_form, steps_form, targets_form, tuple_form, types_form}
use Rattle.lay_code.specs.declared.blocks.Arm.{Arm}
use Rattle.lay_code.specs.declared.blocks.Block.{Block}
use Rattle.lay_code.specs.declared.blocks.Branch.{Branch}
use Rattle.lay_code.specs.declared.blocks.Stmt.TheOpen.{Expr-F}
use Rattle.lay_code.specs.declared.conditions.Condition.{Condition}
use Rattle.lay_code.specs.declared.exprs.ClosureParam.{ClosureParam}
use Rattle.lay_code.specs.declared.exprs.Expr.{Expr}
use Rattle.lay_code.specs.declared.exprs.Expr.TheVariants as expr
use Rattle.lay_code.specs.declared.exprs.FieldExpr.{FieldExpr}
use Rattle.lay_code.specs.declared.exprs.FieldExpr.TheVariants as field
use Rattle.lay_code.specs.declared.exprs.Step.{Step}
use Rattle.lay_code.specs.declared.exprs.Step.TheVariants as step
use Rattle.lay_code.specs.declared.operators.Op.{Op}
use Rattle.lay_code.specs.declared.operators.Prefix.{Prefix}
use Rattle.lay_code.proofs.nodes.ExprsLaws as laws
use Rattle.lay_code.proofs.nodes.ExprsLaws.{before_op, behind_op}
use Rattle.lay_depth.specs.nodes.Depths.{counted, greatest, type_if}
use Rattle.lay_depth.proofs.nodes_lemmas.Forms.{attrs_are, behind_attrs_is, body_is, both_are, braces_are, call_is, leaf_is, list_is, param_attrs_are, tokens_are, when_is}
use Rattle.lay_depth.proofs.nodes_lemmas.PathLemmas.{style_is}
use Rattle.lay_depth.specs.Parts as parts
use Rattle.lay_depth.specs.Parts.{arm_form, block_if, branch_form, expr_if, step_form, target_form}
use Rattle.lay_depth.proofs.BlockLemmas.{arms_are, block_form_is, branches_are, else_branch_is, soft_is}

-- ---- parts

label_is : (label : Option Lifetime) (f : Form) → least_depth (label_form label f) ≡ least_depth f
label_is None f = refl
label_is (Some l) f = omega arith

labelled_is : (label : Option Lifetime) (f : Form) → least_depth (labelled label f) ≡ least_depth f
labelled_is None f = refl
labelled_is (Some l) f = omega arith

tuple_is_list : (xs : List ExprFacts) → least_depth (tuple_form xs) ≡ greatest (expr_forms xs)
tuple_is_list [] = refl
tuple_is_list (x ∷ []) = refl
tuple_is_list (x ∷ y ∷ more) = list_is true (opener Paren) (closer Paren) (expr_forms (x ∷ y ∷ more))

operands_are : (xs : List (Op × Expr)) → least_depth (operands_form (map behind_op xs)) ≡ greatest (map parts.operand_form xs)
operands_are [] = refl
operands_are (x ∷ more) = let m = operands_are more in omega (arith, m)

targets_are : (xs : List (Expr × Op)) (f : Form)
    → least_depth (targets_form (map before_op xs) f) ≡ max (greatest (map target_form xs)) (least_depth f)
targets_are [] f = omega arith
targets_are (x ∷ more) f = let m = targets_are more f in omega (arith, m)

types_are : (types : List Ty) → least_depth (types_form (map about_type types)) ≡ greatest (type_forms (map about_type types))
types_are [] = refl
types_are (x ∷ more) = let m = types_are more in omega (arith, m)

prefixes_are : (ps : List Prefix) (f : Form) → least_depth (prefixes_form ps f) ≡ least_depth f
prefixes_are [] f = refl
prefixes_are (p ∷ ps) f = prefixes_are ps f

end_is : (x : Option Expr) (f : Form) → least_depth (end_form (option_map about_expr x) f) ≡ max (expr_if x) (least_depth f)
end_is None f = omega arith
end_is (Some x) f = refl

operand_is : (x : Option Expr) → least_depth (operand_form (option_map about_expr x)) ≡ expr_if x
operand_is None = refl
operand_is (Some x) = omega arith

break_is : (there : Bool) (f : Form) → least_depth (break_if there f) ≡ least_depth f
break_is true f = refl
break_is false f = refl

steps_are : (several behind : Bool) (steps : List Step)
    → least_depth (steps_form several behind (map about_step steps)) ≡ greatest (map step_form steps)
steps_are several behind [] = refl
steps_are several behind (s ∷ more) =
    break_is (several && (behind && is_method (about_step s).kind)) _
    ∙ (let m = steps_are several (behind || is_method (about_step s).kind) more in omega (arith, m))

group_if_is : (there : Bool) (f : Form) → least_depth (group_if there f) ≡ least_depth f
group_if_is true f = omega arith
group_if_is false f = refl

postfix_form_is : (base : Expr) (steps : List Step)
    → least_depth (postfix_form (about_expr base) (map about_step steps)) ≡ max (least_depth (about_expr base).form) (greatest (map step_form steps))
postfix_form_is base steps =
    group_if_is (nat_le 2 (methods (map about_step steps))) _
    ∙ (let m = steps_are (nat_le 2 (methods (map about_step steps))) false steps in omega (arith, m))

param_type_is : (ty : Option Ty) → least_depth (self_type ty) ≡ type_if ty
param_type_is None = refl
param_type_is (Some x) = omega arith

pub closure_param_is : (p : ClosureParam) → least_depth (closure_param p) ≡ max (least_depth (about_pat p.pat).told.form) (type_if p.ty)
closure_param_is p =
    param_attrs_are p.attrs _
    ∙ (let m = param_type_is p.ty in omega (arith, m))

closure_head_is : (is_async moves : Bool) (params : List ClosureParam) (f : Form)
    → least_depth (closure_head is_async moves params f) ≡ max (greatest (map closure_param params)) (least_depth f)
closure_head_is is_async moves params f =
    when_is is_async _ _
    ∙ when_is moves _ _
    ∙ (let m = list_is true bar bar (map closure_param params) in omega (arith, m))

-- ---- expressions

-- An expression needs one level more than what is inside.
one_more : (x y : Expr) (layer : ExprLayer) → x ≡ y → about_expr y ≡ expr_facts layer
    → least_depth (about_expr x).form ≡ least_depth (inside layer) + 1
one_more x y layer is told =
    ap (λ (z : Expr). least_depth (about_expr z).form) is ∙ ap (λ (z : ExprFacts). least_depth z.form) told ∙ omega arith

lit_is : (x : Expr) (literal : Literal) → x ≡ expr.Lit literal → least_depth (about_expr x).form ≡ 1
lit_is x literal is = one_more x (expr.Lit literal) (Expr-F.Lit literal) is (laws.expr_lit_is literal)

pub path_is : (x : Expr) (path : Path) → x ≡ expr.Path path → least_depth (about_expr x).form ≡ least_depth (about_path path Kind).form + 1
path_is x path is =
    one_more x (expr.Path path) (Expr-F.Path path) is (laws.expr_path_is path)
    ∙ ap (λ (n : ℕ). n + 1) (style_is path Code)

underscore_is : (x : Expr) → x ≡ expr.Underscore → least_depth (about_expr x).form ≡ 1
underscore_is x is = one_more x expr.Underscore Expr-F.Underscore is laws.expr_underscore_is

macro_is : (x : Expr) (call : MacroCall) → x ≡ expr.Call call → least_depth (about_expr x).form ≡ 1
macro_is x call is =
    one_more x (expr.Call call) (Expr-F.Expr::Call call) is (laws.expr_call_is call)
    ∙ (let m = call_is call in omega (arith, m))

continue_is : (x : Expr) (label : Option Lifetime) → x ≡ expr.Continue label → least_depth (about_expr x).form ≡ 1
continue_is x label is =
    one_more x (expr.Continue label) (Expr-F.Continue label) is (laws.expr_continue_is label)
    ∙ (let m = label_is label Done in omega (arith, m))

tuple_is : (x : Expr) (elements : List Expr) → x ≡ expr.Tuple elements
    → least_depth (about_expr x).form ≡ greatest (expr_forms (map about_expr elements)) + 1
tuple_is x elements is =
    one_more x (expr.Tuple elements) (Expr-F.Tuple (map about_expr elements)) is (laws.expr_tuple_is elements)
    ∙ ap (λ (n : ℕ). n + 1) (tuple_is_list (map about_expr elements))

array_is : (x : Expr) (elements : List Expr) → x ≡ expr.Array elements
    → least_depth (about_expr x).form ≡ greatest (expr_forms (map about_expr elements)) + 1
array_is x elements is =
    one_more x (expr.Array elements) (Expr-F.Array (map about_expr elements)) is (laws.expr_array_is elements)
    ∙ ap (λ (n : ℕ). n + 1) (list_is true (opener Bracket) (closer Bracket) (expr_forms (map about_expr elements)))

paren_is : (x : Expr) (inner : Expr) → x ≡ expr.Paren inner → least_depth (about_expr x).form ≡ least_depth (about_expr inner).form + 1
paren_is x inner is =
    one_more x (expr.Paren inner) (Expr-F.Paren (about_expr inner)) is (laws.expr_paren_is inner) ∙ omega arith

repeat_is : (x : Expr) (element : Expr) (length : List Listed) → x ≡ expr.Repeat element length
    → least_depth (about_expr x).form ≡ least_depth (about_expr element).form + 1
repeat_is x element length is =
    one_more x (expr.Repeat element length) (Expr-F.Repeat (about_expr element) length) is (laws.expr_repeat_is element length)
    ∙ (let m = tokens_are length in omega (arith, m))

unary_is : (x : Expr) (prefixes : List Prefix) (operand : Expr) → x ≡ expr.Unary prefixes operand
    → least_depth (about_expr x).form ≡ least_depth (about_expr operand).form + 1
unary_is x prefixes operand is =
    one_more x (expr.Unary prefixes operand) (Expr-F.Unary prefixes (about_expr operand)) is (laws.expr_unary_is prefixes operand)
    ∙ (let m = prefixes_are prefixes (Part (about_expr operand).form Done) in omega (arith, m))

pub struct_is : (x : Expr) (path : Path) (fields : List FieldExpr) (base : Option (Option Expr)) → x ≡ expr.Struct path fields base
    → least_depth (about_expr x).form
    ≡ max (max (least_depth (about_path path Kind).form) (greatest (forms (map about_field_expr fields))))
    (greatest (base_form (option_map (option_map about_expr) base))) + 1
struct_is x path fields base is =
    one_more x (expr.Struct path fields base) (Expr-F.Expr::Struct path (map about_field_expr fields) (option_map (option_map about_expr) base)) is
    (laws.expr_struct_is path fields base)
    ∙ (let m = style_is path Code in
    let n = braces_are (not (is_some (option_map (option_map about_expr) base)))
    (forms (map about_field_expr fields) ++ base_form (option_map (option_map about_expr) base)) in
    let o = both_are (forms (map about_field_expr fields)) (base_form (option_map (option_map about_expr) base)) in omega (arith, m, n, o))

pub chain_is : (x : Expr) (first : Expr) (rest : List (Op × Expr)) → x ≡ expr.Chain first rest
    → least_depth (about_expr x).form ≡ max (least_depth (about_expr first).form) (greatest (map parts.operand_form rest)) + 1
chain_is x first rest is =
    one_more x (expr.Chain first rest) (Expr-F.Chain (about_expr first) (map behind_op rest)) is (laws.expr_chain_is first rest)
    ∙ (let m = operands_are rest in omega (arith, m))

pub cast_is : (x : Expr) (operand : Expr) (types : List Ty) → x ≡ expr.Cast operand types
    → least_depth (about_expr x).form ≡ max (least_depth (about_expr operand).form) (greatest (type_forms (map about_type types))) + 1
cast_is x operand types is =
    one_more x (expr.Cast operand types) (Expr-F.Cast (about_expr operand) types) is (laws.expr_cast_is operand types)
    ∙ (let m = types_are types in omega (arith, m))

pub range_is : (x : Expr) (start : Option Expr) (inclusive : Bool) (end : Option Expr) → x ≡ expr.Range start inclusive end
    → least_depth (about_expr x).form ≡ max (expr_if start) (expr_if end) + 1
range_is x start inclusive end is =
    one_more x (expr.Range start inclusive end) (Expr-F.Range (option_map about_expr start) inclusive (option_map about_expr end)) is
    (laws.expr_range_is start inclusive end)
    ∙ (let m = end_is start (Piece (dots inclusive) (end_form (option_map about_expr end) Done)) in
    let n = end_is end Done in omega (arith, m, n))

pub assign_is : (x : Expr) (targets : List (Expr × Op)) (value : Expr) → x ≡ expr.Assign targets value
    → least_depth (about_expr x).form ≡ max (greatest (map target_form targets)) (least_depth (about_expr value).form) + 1
assign_is x targets value is =
    one_more x (expr.Assign targets value) (Expr-F.Assign (map before_op targets) (about_expr value)) is (laws.expr_assign_is targets value)
    ∙ (let m = targets_are targets (Part (about_expr value).form Done) in omega (arith, m))

pub postfix_is : (x : Expr) (base : Expr) (steps : List Step) → x ≡ expr.Postfix base steps
    → least_depth (about_expr x).form ≡ max (least_depth (about_expr base).form) (greatest (map step_form steps)) + 1
postfix_is x base steps is =
    one_more x (expr.Postfix base steps) (Expr-F.Postfix (about_expr base) (map about_step steps)) is (laws.expr_postfix_is base steps)
    ∙ ap (λ (n : ℕ). n + 1) (postfix_form_is base steps)

-- ---- those that hold a block

block_is : (x : Expr) (label : Option Lifetime) (body : Block) → x ≡ expr.Block label body
    → least_depth (about_expr x).form ≡ least_depth ((about_block body).form true) + 1
block_is x label body is =
    one_more x (expr.Block label body) (Expr-F.Block label (about_block body)) is (laws.expr_block_is label body)
    ∙ (let m = labelled_is label ((about_block body).form false) in
    let n = block_form_is body false in omega (arith, m, n))

unsafe_is : (x : Expr) (body : Block) → x ≡ expr.Unsafe body
    → least_depth (about_expr x).form ≡ least_depth ((about_block body).form true) + 1
unsafe_is x body is =
    one_more x (expr.Unsafe body) (Expr-F.Unsafe (about_block body)) is (laws.expr_unsafe_is body)
    ∙ (let m = soft_is body in omega (arith, m))

const_block_is : (x : Expr) (body : Block) → x ≡ expr.ConstBlock body
    → least_depth (about_expr x).form ≡ least_depth ((about_block body).form true) + 1
const_block_is x body is =
    one_more x (expr.ConstBlock body) (Expr-F.ConstBlock (about_block body)) is (laws.expr_const_block_is body)
    ∙ (let m = soft_is body in omega (arith, m))

async_is : (x : Expr) (moves : Bool) (body : Block) → x ≡ expr.Async moves body
    → least_depth (about_expr x).form ≡ least_depth ((about_block body).form true) + 1
async_is x moves body is =
    one_more x (expr.Async moves body) (Expr-F.Async moves (about_block body)) is (laws.expr_async_is moves body)
    ∙ (let m = when_is moves (Blank ∷ keyword (codes "move") ∷ []) (Part ((about_block body).form true) Done) in omega (arith, m))

loop_is : (x : Expr) (label : Option Lifetime) (body : Block) → x ≡ expr.Loop label body
    → least_depth (about_expr x).form ≡ least_depth ((about_block body).form true) + 1
loop_is x label body is =
    one_more x (expr.Loop label body) (Expr-F.Loop label (about_block body)) is (laws.expr_loop_is label body)
    ∙ (let m = labelled_is label (Piece (keyword (codes "loop") ∷ []) (Part ((about_block body).form true) Done)) in omega (arith, m))

pub if_is : (x : Expr) (branches : List Branch) (otherwise : Option Block) → x ≡ expr.If branches otherwise
    → least_depth (about_expr x).form ≡ max (greatest (map branch_form branches)) (block_if otherwise) + 1
if_is x branches otherwise is =
    one_more x (expr.If branches otherwise) (Expr-F.If (map about_branch branches) (option_map about_block otherwise)) is
    (laws.expr_if_is branches otherwise)
    ∙ (let m = branches_are branches (else_branch_form (option_map about_block otherwise)) in
    let n = else_branch_is otherwise in omega (arith, m, n))

pub match_is : (x : Expr) (scrutinee : Expr) (attrs : List Attr) (arms : List Arm) → x ≡ expr.Match scrutinee attrs arms
    → least_depth (about_expr x).form ≡ max (least_depth (about_expr scrutinee).form) (greatest (map arm_form arms)) + 1
match_is x scrutinee attrs arms is =
    one_more x (expr.Match scrutinee attrs arms) (Expr-F.Match (about_expr scrutinee) attrs (map about_arm arms)) is
    (laws.expr_match_is scrutinee attrs arms)
    ∙ (let m = body_is (Blank ∷ []) [] (map attr_form attrs ++ arm_forms (map about_arm arms)) in
    let n = both_are (map attr_form attrs) (arm_forms (map about_arm arms)) in
    let o = attrs_are attrs in
    let p = arms_are arms in omega (arith, m, n, o, p))

pub while_is : (x : Expr) (label : Option Lifetime) (condition : Condition) (body : Block) → x ≡ expr.While label condition body
    → least_depth (about_expr x).form ≡ max (least_depth (about_condition condition).form) (least_depth ((about_block body).form true)) + 1
while_is x label condition body is =
    one_more x (expr.While label condition body) (Expr-F.While label (about_condition condition) (about_block body)) is
    (laws.expr_while_is label condition body)
    ∙ ap (λ (n : ℕ). n + 1) (labelled_is label _)
    ∙ omega arith

pub for_is : (x : Expr) (label : Option Lifetime) (pat : Pat) (iterated : Expr) (body : Block) → x ≡ expr.For label pat iterated body
    → least_depth (about_expr x).form
    ≡ max (max (least_depth (about_pat pat).told.form) (least_depth (about_expr iterated).form)) (least_depth ((about_block body).form true)) + 1
for_is x label pat iterated body is =
    one_more x (expr.For label pat iterated body) (Expr-F.For label pat (about_expr iterated) (about_block body)) is
    (laws.expr_for_is label pat iterated body)
    ∙ ap (λ (n : ℕ). n + 1) (labelled_is label _)
    ∙ omega arith

-- The body of a closure stands a level deeper.
closure_body_is : (b : Braces) (f : Form) → least_depth (closure_body b f) ≡ least_depth f + 1
closure_body_is Bare f = omega arith
closure_body_is Unseen f = omega arith
closure_body_is Marked f = omega arith

pub closure_is : (x : Expr) (is_async moves : Bool) (params : List ClosureParam) (body : Expr) → x ≡ expr.Closure is_async moves params body
    → least_depth (about_expr x).form ≡ max (greatest (map closure_param params)) (least_depth (about_expr body).form + 1) + 1
closure_is x is_async moves params body is =
    one_more x (expr.Closure is_async moves params body) (Expr-F.Closure is_async moves params (about_expr body)) is (laws.expr_closure_is is_async moves params body)
    ∙ ap (λ (n : ℕ). n + 1) (closure_head_is is_async moves params _)
    ∙ (let m = closure_body_is (body_braces (about_expr body)) (about_expr body).form in omega (arith, m))

pub typed_closure_is : (x : Expr) (is_async moves : Bool) (params : List ClosureParam) (output : Ty) (body : Block)
    → x ≡ expr.TypedClosure is_async moves params output body
    → least_depth (about_expr x).form
    ≡ max (max (greatest (map closure_param params)) (least_depth (about_type output).told.form)) (least_depth ((about_block body).form true)) + 1
typed_closure_is x is_async moves params output body is =
    one_more x (expr.TypedClosure is_async moves params output body) (Expr-F.TypedClosure is_async moves params output (about_block body)) is
    (laws.expr_typed_closure_is is_async moves params output body)
    ∙ ap (λ (n : ℕ). n + 1) (closure_head_is is_async moves params _)
    ∙ omega arith

return_is : (x : Expr) (operand : Option Expr) → x ≡ expr.Return operand → least_depth (about_expr x).form ≡ expr_if operand + 1
return_is x operand is =
    one_more x (expr.Return operand) (Expr-F.Return (option_map about_expr operand)) is (laws.expr_return_is operand)
    ∙ ap (λ (n : ℕ). n + 1) (operand_is operand)

break_jump_is : (x : Expr) (label : Option Lifetime) (operand : Option Expr) → x ≡ expr.Break label operand
    → least_depth (about_expr x).form ≡ expr_if operand + 1
break_jump_is x label operand is =
    one_more x (expr.Break label operand) (Expr-F.Break label (option_map about_expr operand)) is (laws.expr_break_is label operand)
    ∙ ap (λ (n : ℕ). n + 1) (label_is label _ ∙ operand_is operand)

-- ---- expressions of several kinds

-- those with no part that is counted
pub leaf_is_one : (x : Expr) → ((literal : Literal) × (x ≡ expr.Lit literal)) ⊎ ((x ≡ expr.Underscore)
    ⊎ (((call : MacroCall) × (x ≡ expr.Call call)) ⊎ ((label : Option Lifetime) × (x ≡ expr.Continue label))))
    → 1 ≡ counted (least_depth (about_expr x).form)
leaf_is_one x (inl l) = let m = lit_is x l.0 l.1 in omega (arith, m)
leaf_is_one x (inr (inl is)) = let m = underscore_is x is in omega (arith, m)
leaf_is_one x (inr (inr (inl call))) = let m = macro_is x call.0 call.1 in omega (arith, m)
leaf_is_one x (inr (inr (inr label))) = let m = continue_is x label.0 label.1 in omega (arith, m)

pub elements_are : (x : Expr) (elements : List Expr) → (x ≡ expr.Tuple elements) ⊎ (x ≡ expr.Array elements)
    → least_depth (about_expr x).form ≡ greatest (expr_forms (map about_expr elements)) + 1
elements_are x elements (inl is) = tuple_is x elements is
elements_are x elements (inr is) = array_is x elements is

pub inner_is : (x inner : Expr) → (x ≡ expr.Paren inner) ⊎ (((length : List Listed) × (x ≡ expr.Repeat inner length))
    ⊎ ((prefixes : List Prefix) × (x ≡ expr.Unary prefixes inner)))
    → least_depth (about_expr x).form ≡ least_depth (about_expr inner).form + 1
inner_is x inner (inl is) = paren_is x inner is
inner_is x inner (inr (inl r)) = repeat_is x inner r.0 r.1
inner_is x inner (inr (inr u)) = unary_is x u.0 inner u.1

pub body_depth_is : (x : Expr) (body : Block) → ((label : Option Lifetime) × (x ≡ expr.Block label body)) ⊎ ((x ≡ expr.Unsafe body)
    ⊎ ((x ≡ expr.ConstBlock body) ⊎ (((moves : Bool) × (x ≡ expr.Async moves body)) ⊎ ((label : Option Lifetime) × (x ≡ expr.Loop label body)))))
    → least_depth (about_expr x).form ≡ least_depth ((about_block body).form true) + 1
body_depth_is x body (inl b) = block_is x b.0 body b.1
body_depth_is x body (inr (inl is)) = unsafe_is x body is
body_depth_is x body (inr (inr (inl is))) = const_block_is x body is
body_depth_is x body (inr (inr (inr (inl a)))) = async_is x a.0 body a.1
body_depth_is x body (inr (inr (inr (inr l)))) = loop_is x l.0 body l.1

pub jump_is : (x : Expr) (operand : Option Expr) → (x ≡ expr.Return operand) ⊎ ((label : Option Lifetime) × (x ≡ expr.Break label operand))
    → least_depth (about_expr x).form ≡ expr_if operand + 1
jump_is x operand (inl is) = return_is x operand is
jump_is x operand (inr b) = break_jump_is x b.0 operand b.1

-- ---- lists of expressions

-- the form of an expression
abbrev pub expr_told : Expr → Form
expr_told x = (about_expr x).form

pub exprs_are : (xs : List Expr) → map expr_told xs ≡ expr_forms (map about_expr xs)
exprs_are [] = refl
exprs_are (x ∷ xs) = ap (λ (es : List Form). expr_told x ∷ es) (exprs_are xs)

-- ---- fields of struct literals

field_told : (x y : FieldExpr) (facts : Facts) → x ≡ y → about_field_expr y ≡ facts
    → least_depth (about_field_expr x).form ≡ least_depth facts.form
field_told x y facts is told =
    ap (λ (z : FieldExpr). least_depth (about_field_expr z).form) is ∙ ap (λ (z : Facts). least_depth z.form) told

named_is : (x : FieldExpr) (attrs : List Attr) (name : Name) (value : Expr) → x ≡ field.Named attrs name value
    → least_depth (about_field_expr x).form ≡ least_depth (about_expr value).form
named_is x attrs name value is =
    field_told x (field.Named attrs name value) _ is (laws.field_expr_named_is attrs name value)
    ∙ behind_attrs_is attrs _ ∙ leaf_is name.raw name.text _ ∙ omega arith

numbered_is : (x : FieldExpr) (attrs : List Attr) (index : List ℕ) (value : Expr) → x ≡ field.Numbered attrs index value
    → least_depth (about_field_expr x).form ≡ least_depth (about_expr value).form
numbered_is x attrs index value is =
    field_told x (field.Numbered attrs index value) _ is (laws.field_expr_numbered_is attrs index value)
    ∙ behind_attrs_is attrs _ ∙ omega arith

pub short_is : (x : FieldExpr) (attrs : List Attr) (name : Name) → x ≡ field.Short attrs name → least_depth (about_field_expr x).form ≡ 0
short_is x attrs name is =
    field_told x (field.Short attrs name) _ is (laws.field_expr_short_is attrs name)
    ∙ behind_attrs_is attrs _ ∙ leaf_is name.raw name.text Done

pub field_value_is : (x : FieldExpr) (value : Expr) → ((attrs : List Attr) × (name : Name) × (x ≡ field.Named attrs name value))
    ⊎ ((attrs : List Attr) × (index : List ℕ) × (x ≡ field.Numbered attrs index value))
    → least_depth (about_field_expr x).form ≡ least_depth (about_expr value).form
field_value_is x value (inl n) = named_is x n.0 n.1 value n.2
field_value_is x value (inr n) = numbered_is x n.0 n.1 value n.2

-- ---- steps

step_told : (x y : Step) (facts : StepFacts) → x ≡ y → about_step y ≡ facts → least_depth (about_step x).form ≡ least_depth facts.form
step_told x y facts is told = ap (λ (z : Step). least_depth (about_step z).form) is ∙ ap (λ (z : StepFacts). least_depth z.form) told

field_step_is : (x : Step) (name : Name) → x ≡ step.Field name → least_depth (about_step x).form ≡ 0
field_step_is x name is = step_told x (step.Field name) _ is (laws.step_field_is name) ∙ leaf_is name.raw name.text Done

tuple_index_is : (x : Step) (index : List ℕ) → x ≡ step.TupleIndex index → least_depth (about_step x).form ≡ 0
tuple_index_is x index is = step_told x (step.TupleIndex index) _ is (laws.step_tuple_index_is index)

try_is : (x : Step) → x ≡ step.Try → least_depth (about_step x).form ≡ 0
try_is x is = step_told x step.Try _ is laws.step_try_is

await_is : (x : Step) → x ≡ step.Await → least_depth (about_step x).form ≡ 0
await_is x is = step_told x step.Await _ is laws.step_await_is

-- what generic arguments need that may be left out
abbrev generics_if : Option (List Arg) → ℕ
generics_if None = 0
generics_if (Some args) = greatest (forms (map about_arg args))

method_is : (x : Step) (name : Name) (generics : Option (List Arg)) (args : List Expr) → x ≡ step.Method name generics args
    → least_depth (about_step x).form ≡ max (generics_if generics) (greatest (expr_forms (map about_expr args)))
method_is x name generics args is =
    step_told x (step.Method name generics args) _ is (laws.step_method_is name generics args)
    ∙ leaf_is name.raw name.text _ ∙ by generics
  where
    by : (g : Option (List Arg))
        → least_depth (generics_form g (Part (args_form (map about_expr args)) Done))
        ≡ max (generics_if g) (greatest (expr_forms (map about_expr args)))
    by None = let m = list_is true (opener Paren) (closer Paren) (expr_forms (map about_expr args)) in omega (arith, m)
    by (Some given) =
        let m = list_is true (opener Paren) (closer Paren) (expr_forms (map about_expr args)) in
        let n = list_is true less greater (forms (map about_arg given)) in omega (arith, m, n)

-- without generic arguments, and with some
pub bare_method_is : (x : Step) (name : Name) (generics : Option (List Arg)) (args : List Expr) → x ≡ step.Method name generics args
    → generics ≡ None → least_depth (about_step x).form ≡ greatest (expr_forms (map about_expr args))
bare_method_is x name generics args is none =
    let m = method_is x name generics args is in
    let n = ap generics_if none in omega (arith, m, n)

pub given_method_is : (x : Step) (name : Name) (generics : Option (List Arg)) (args : List Expr) (given : List Arg)
    → x ≡ step.Method name generics args → generics ≡ Some given
    → least_depth (about_step x).form ≡ max (greatest (forms (map about_arg given))) (greatest (expr_forms (map about_expr args)))
given_method_is x name generics args given is some =
    let m = method_is x name generics args is in
    let n = ap generics_if some in omega (arith, m, n)

pub apply_is : (x : Step) (args : List Expr) → x ≡ step.Apply args
    → least_depth (about_step x).form ≡ greatest (expr_forms (map about_expr args))
apply_is x args is =
    step_told x (step.Apply args) _ is (laws.step_apply_is args)
    ∙ list_is true (opener Paren) (closer Paren) (expr_forms (map about_expr args))

pub index_is : (x : Step) (index : Expr) → x ≡ step.Index index → least_depth (about_step x).form ≡ least_depth (about_expr index).form
index_is x index is = step_told x (step.Index index) _ is (laws.step_index_is index) ∙ omega arith

-- those with no part that is counted
pub leaf_step_is : (x : Step) → ((name : Name) × (x ≡ step.Field name)) ⊎ (((index : List ℕ) × (x ≡ step.TupleIndex index))
    ⊎ ((x ≡ step.Try) ⊎ (x ≡ step.Await)))
    → 0 ≡ counted (least_depth (about_step x).form)
leaf_step_is x (inl f) = let m = field_step_is x f.0 f.1 in omega (arith, m)
leaf_step_is x (inr (inl t)) = let m = tuple_index_is x t.0 t.1 in omega (arith, m)
leaf_step_is x (inr (inr (inl is))) = let m = try_is x is in omega (arith, m)
leaf_step_is x (inr (inr (inr is))) = let m = await_is x is in omega (arith, m)
