-- What a place and a slot ask of a node with its parts, told of the node before these have theirs: its root is its own, and what it
-- begins with is found down its left edge.
use Rattle.std.proofs.Common.{◌≡◌, ◌<◌, ◌≤◌, ◌⊎◌, inl, inr, Bool, true, false, not, ◌&&◌, if◌then◌else◌, length, get_or, List, [], ◌∷◌, map, Option, Some, None, refl, sym, ap, ap₂, ◌∙◌, arith}
use Rattle.lay_node.specs.declared.patterns.Pat.{Pat}
use Rattle.lay_node.specs.declared.token.Lifetime.{Lifetime}
use Rattle.lay_node.specs.declared.types.Ty.{Ty}
use Rattle.lay_code.specs.Operands.{ByBlockWord, ByBrace, ByParen, ByRange, ExprLead}
use Rattle.lay_code.specs.nodes.Code.{about_expr, about_step}
use Rattle.lay_code.specs.nodes.Exprs.{ExprFacts, StepFacts, StepKind, expr_facts, first_step, is_dotted, is_tuple_index, label_or, lead_of, may, step_facts}
use Rattle.lay_code.specs.nodes.Layers.{ExprNode, StepNode}
use Rattle.lay_code.specs.nodes.Places.{FREE, before_op, begins, plain}
use Rattle.lay_code.specs.nodes.PlacesTable.{as_node}
use Rattle.lay_code.specs.declared.blocks.Stmt.TheOpen.{Expr-F, Step-F}
use Rattle.lay_code.specs.declared.blocks.Stmt.TheViews as views
use Rattle.lay_code.specs.declared.blocks.Block.{Block}
use Rattle.lay_code.specs.declared.conditions.Condition.{Condition}
use Rattle.lay_code.specs.declared.exprs.Expr.{Expr}
use Rattle.lay_code.specs.declared.exprs.Expr.TheVariants as expr
use Rattle.lay_code.specs.declared.exprs.Place.{Place}
use Rattle.lay_code.specs.declared.exprs.Step.{Step}
use Rattle.lay_code.specs.declared.operators.Op.{Op}
use Rattle.lay_code.proofs.nodes.ExprsLaws as laws
use Rattle.lay_code.proofs.nodes.Layers.{expr_is, expr_told, step_is, step_told}
use Rattle.lay_paren_defs.specs.loose.Slots.{Any, BeforeIndex, Optional, Prefixed, Slot, fits}
use Rattle.lay_paren.specs.Edges.{left_slot}
use Rattle.lay_paren.specs.InPlace.{arm_least, base_least, block_least, block_or_none_least, branch_least, condition_least, exprs_least, field_least, first_place, free_least, least_in, operand_least, operands_least, parts_least, step_least, targets_least}
use Rattle.lay_paren_defs.specs.Traversal.{base_place, base_slot, break_slot, level_by}
use Rattle.lay_paren.proofs.Becoming.{by_fit, expr_in, least_is, parts_become, step_becomes, step_in}
use Rattle.lay_paren.proofs.Roots.{Root, root, root_may}

expr_facts_are : (x : Expr) → about_expr x ≡ expr_facts (expr_told (views.out-Expr x))
expr_facts_are x = ap about_expr (sym (views.roll-out-Expr x)) ∙ expr_is (views.out-Expr x)

-- ---- the root

-- what stands before these steps
abbrev left_of : Place → Expr → List Step → Expr
left_of p x steps = least_in x (base_place p (map about_step steps)) (base_slot (map about_step steps))

root_by : (p : Place) (y : ExprNode) → root (about_expr (expr_in p y)) ≡ root (expr_facts (expr_told y))
root_by p (Expr-F.Lit l) = ap root (laws.expr_lit_is l)
root_by p (Expr-F.Path path) = ap root (laws.expr_path_is path)
root_by p Expr-F.Underscore = ap root laws.expr_underscore_is
root_by p (Expr-F.Expr::Call call) = ap root (laws.expr_call_is call)
root_by p (Expr-F.Paren x) = ap root (laws.expr_paren_is (free_least x))
root_by p (Expr-F.Continue label) = ap root (laws.expr_continue_is label)
root_by p (Expr-F.Tuple xs) = ap root (laws.expr_tuple_is (exprs_least xs))
root_by p (Expr-F.Array xs) = ap root (laws.expr_array_is (exprs_least xs))
root_by p (Expr-F.Repeat x length) = ap root (laws.expr_repeat_is (free_least x) length)
root_by p (Expr-F.Expr::Struct path fields base) = ap root (laws.expr_struct_is path (map field_least fields) (base_least base))
root_by p (Expr-F.Chain x []) = ap root (laws.expr_chain_is (least_in x (first_place p []) Any) [])
root_by p (Expr-F.Chain x (o ∷ more)) = ap root (laws.expr_chain_is (least_in x (first_place p (o ∷ more)) Any) (operands_least p (level_by (o ∷ more)) (o ∷ more)))
root_by p (Expr-F.Cast x types) = ap root (laws.expr_cast_is (least_in x (before_op 12 p.no_struct (begins p.start) false) Any) types)
root_by p (Expr-F.Unary ps x) = ap root (laws.expr_unary_is ps (least_in x (as_node p 12) Prefixed))
root_by p (Expr-F.Range start inclusive None) = ap root (laws.expr_range_is (operand_least (before_op 2 p.no_struct (begins p.start) false) Any start) inclusive None)
root_by p (Expr-F.Range start inclusive (Some x)) = ap root (laws.expr_range_is (operand_least (before_op 2 p.no_struct (begins p.start) false) Any start) inclusive (Some (least_in x (as_node p 2) Optional)))
root_by p (Expr-F.Assign targets x) = ap root (laws.expr_assign_is (targets_least p (begins p.start) targets) (least_in x (as_node p 1) Any))
root_by p (Expr-F.Postfix x steps) = ap root (laws.expr_postfix_is (left_of p x (map step_least steps)) (map step_least steps))
root_by p (Expr-F.Block label b) = ap root (laws.expr_block_is label (block_least b))
root_by p (Expr-F.Unsafe b) = ap root (laws.expr_unsafe_is (block_least b))
root_by p (Expr-F.ConstBlock b) = ap root (laws.expr_const_block_is (block_least b))
root_by p (Expr-F.Async moves b) = ap root (laws.expr_async_is moves (block_least b))
root_by p (Expr-F.If branches otherwise) = ap root (laws.expr_if_is (map branch_least branches) (block_or_none_least otherwise))
root_by p (Expr-F.Match x attrs arms) = ap root (laws.expr_match_is (least_in x (plain 0 true) Any) attrs (map arm_least arms))
root_by p (Expr-F.Loop label b) = ap root (laws.expr_loop_is label (block_least b))
root_by p (Expr-F.While label c b) = ap root (laws.expr_while_is label (condition_least c) (block_least b))
root_by p (Expr-F.For label pat x b) = ap root (laws.expr_for_is label pat (least_in x (plain 0 true) Any) (block_least b))
root_by p (Expr-F.Closure is_async moves params x) = ap root (laws.expr_closure_is is_async moves params (least_in x (plain 0 p.no_struct) Any))
root_by p (Expr-F.TypedClosure is_async moves params output b) = ap root (laws.expr_typed_closure_is is_async moves params output (block_least b))
root_by p (Expr-F.Return x) = ap root (laws.expr_return_is (operand_least (plain 0 p.no_struct) Optional x))
root_by p (Expr-F.Break label x) = ap root (laws.expr_break_is label (operand_least (plain 0 p.no_struct) (break_slot label) x))

pub same_root : (x : Expr) (p : Place) → root (about_expr (parts_least p x)) ≡ root (about_expr x)
same_root x p =
    ap (λ (z : Expr). root (about_expr z)) (parts_become x p)
    ∙ root_by p (views.out-Expr x)
    ∙ sym (ap root (expr_facts_are x))

-- whether it may stand in the place by its root
pub may_is : (x : Expr) (p : Place) → may (about_expr (parts_least p x)) p ≡ may (about_expr x) p
may_is x p = ap (λ (r : Root). root_may r p) (same_root x p)

pub number_is : (x : Expr) (p : Place) → (about_expr (parts_least p x)).is_number ≡ (about_expr x).is_number
number_is x p = ap (λ (r : Root). r.is_number) (same_root x p)

-- ---- steps

abbrev kind : StepFacts → StepKind
kind F = F.kind

kind_by : (y : StepNode) → (about_step (step_in y)).kind ≡ (step_facts (step_told y)).kind
kind_by (Step-F.Field name) = ap kind (laws.step_field_is name)
kind_by (Step-F.TupleIndex index) = ap kind (laws.step_tuple_index_is index)
kind_by (Step-F.Method name generics args) = ap kind (laws.step_method_is name generics (exprs_least args))
kind_by (Step-F.Apply args) = ap kind (laws.step_apply_is (exprs_least args))
kind_by (Step-F.Index x) = ap kind (laws.step_index_is (free_least x))
kind_by Step-F.Try = ap kind laws.step_try_is
kind_by Step-F.Await = ap kind laws.step_await_is

step_facts_are : (x : Step) → about_step x ≡ step_facts (step_told (views.out-Step x))
step_facts_are x = ap about_step (sym (views.roll-out-Step x)) ∙ step_is (views.out-Step x)

pub step_kind : (x : Step) → (about_step x).kind ≡ (step_facts (step_told (views.out-Step x))).kind
step_kind x = ap (λ (F : StepFacts). F.kind) (step_facts_are x)

same_kind : (x : Step) → (about_step (step_least x)).kind ≡ (about_step x).kind
same_kind x =
    ap (λ (z : Step). (about_step z).kind) (step_becomes x) ∙ kind_by (views.out-Step x)
    ∙ sym (step_kind x)

same_first : (test : StepKind → Bool) (steps : List Step) → first_step test (map about_step (map step_least steps)) ≡ first_step test (map about_step steps)
same_first test [] = refl
same_first test (x ∷ more) = ap test (same_kind x)

-- ---- what it begins with

abbrev lead : ExprFacts → ExprLead
lead F = F.lead

abbrev start_lead : Place → Option Expr → ExprLead
start_lead p None = ByRange
start_lead p (Some x) = (about_expr (least_in x (before_op 2 p.no_struct (begins p.start) false) Any)).lead

abbrev targets_lead : Place → List (Expr × Op) → Expr → ExprLead
targets_lead p [] value = (about_expr (least_in value (as_node p 1) Any)).lead
targets_lead p (x ∷ more) value = (about_expr (least_in x.0 (before_op 1 p.no_struct (begins p.start) false) Any)).lead

-- what each kind begins with, where it has a part at its left end
abbrev lead_in : Place → ExprNode → ExprLead
lead_in p (Expr-F.Chain x rest) = (about_expr (least_in x (first_place p rest) Any)).lead
lead_in p (Expr-F.Cast x types) = (about_expr (least_in x (before_op 12 p.no_struct (begins p.start) false) Any)).lead
lead_in p (Expr-F.Range start inclusive end) = start_lead p start
lead_in p (Expr-F.Assign targets x) = targets_lead p targets x
lead_in p (Expr-F.Postfix x steps) =
    (about_expr (least_in x (base_place p (map about_step steps)) (base_slot (map about_step steps)))).lead
lead_in p y = lead_of (expr_told y)

lead_by : (p : Place) (y : ExprNode) → (about_expr (expr_in p y)).lead ≡ lead_in p y
lead_by p (Expr-F.Lit l) = ap lead (laws.expr_lit_is l)
lead_by p (Expr-F.Path path) = ap lead (laws.expr_path_is path)
lead_by p Expr-F.Underscore = ap lead laws.expr_underscore_is
lead_by p (Expr-F.Expr::Call call) = ap lead (laws.expr_call_is call)
lead_by p (Expr-F.Paren x) = ap lead (laws.expr_paren_is (free_least x))
lead_by p (Expr-F.Continue label) = ap lead (laws.expr_continue_is label)
lead_by p (Expr-F.Tuple xs) = ap lead (laws.expr_tuple_is (exprs_least xs))
lead_by p (Expr-F.Array xs) = ap lead (laws.expr_array_is (exprs_least xs))
lead_by p (Expr-F.Repeat x length) = ap lead (laws.expr_repeat_is (free_least x) length)
lead_by p (Expr-F.Expr::Struct path fields base) = ap lead (laws.expr_struct_is path (map field_least fields) (base_least base))
lead_by p (Expr-F.Chain x []) = ap lead (laws.expr_chain_is (least_in x (first_place p []) Any) [])
lead_by p (Expr-F.Chain x (o ∷ more)) = ap lead (laws.expr_chain_is (least_in x (first_place p (o ∷ more)) Any) (operands_least p (level_by (o ∷ more)) (o ∷ more)))
lead_by p (Expr-F.Cast x types) = ap lead (laws.expr_cast_is (least_in x (before_op 12 p.no_struct (begins p.start) false) Any) types)
lead_by p (Expr-F.Unary ps x) = ap lead (laws.expr_unary_is ps (least_in x (as_node p 12) Prefixed))
lead_by p (Expr-F.Block label b) = ap lead (laws.expr_block_is label (block_least b))
lead_by p (Expr-F.Unsafe b) = ap lead (laws.expr_unsafe_is (block_least b))
lead_by p (Expr-F.ConstBlock b) = ap lead (laws.expr_const_block_is (block_least b))
lead_by p (Expr-F.Async moves b) = ap lead (laws.expr_async_is moves (block_least b))
lead_by p (Expr-F.If branches otherwise) = ap lead (laws.expr_if_is (map branch_least branches) (block_or_none_least otherwise))
lead_by p (Expr-F.Match x attrs arms) = ap lead (laws.expr_match_is (least_in x (plain 0 true) Any) attrs (map arm_least arms))
lead_by p (Expr-F.Loop label b) = ap lead (laws.expr_loop_is label (block_least b))
lead_by p (Expr-F.While label c b) = ap lead (laws.expr_while_is label (condition_least c) (block_least b))
lead_by p (Expr-F.For label pat x b) = ap lead (laws.expr_for_is label pat (least_in x (plain 0 true) Any) (block_least b))
lead_by p (Expr-F.Closure is_async moves params x) = ap lead (laws.expr_closure_is is_async moves params (least_in x (plain 0 p.no_struct) Any))
lead_by p (Expr-F.TypedClosure is_async moves params output b) = ap lead (laws.expr_typed_closure_is is_async moves params output (block_least b))
lead_by p (Expr-F.Return x) = ap lead (laws.expr_return_is (operand_least (plain 0 p.no_struct) Optional x))
lead_by p (Expr-F.Break label x) = ap lead (laws.expr_break_is label (operand_least (plain 0 p.no_struct) (break_slot label) x))
lead_by p (Expr-F.Range None inclusive end) = ap lead (laws.expr_range_is None inclusive (operand_least (as_node p 2) Optional end))
lead_by p (Expr-F.Range (Some x) inclusive end) =
    ap lead
    (laws.expr_range_is (Some (least_in x (before_op 2 p.no_struct (begins p.start) false) Any)) inclusive (operand_least (as_node p 2) Optional end))
lead_by p (Expr-F.Assign [] x) = ap lead (laws.expr_assign_is [] (least_in x (as_node p 1) Any))
lead_by p (Expr-F.Assign (y ∷ more) x) = ap lead (laws.expr_assign_is (targets_least p (begins p.start) (y ∷ more)) (least_in x (as_node p 1) Any))
lead_by p (Expr-F.Postfix x steps) =
    ap lead (laws.expr_postfix_is (left_of p x (map step_least steps)) (map step_least steps))
    ∙ ap₂ (λ (dotted index : Bool). (about_expr (least_in x (before_op 14 p.no_struct (begins p.start && not dotted) false) (if index then BeforeIndex else Any))).lead)
    (same_first is_dotted steps) (same_first is_tuple_index steps)

pub lead_is : (x : Expr) (p : Place) → (about_expr (parts_least p x)).lead ≡ lead_in p (views.out-Expr x)
lead_is x p =
    ap (λ (z : Expr). (about_expr z).lead) (parts_become x p)
    ∙ lead_by p (views.out-Expr x)

-- ---- a part at the left end, in parentheses or as it is

pub bare_lead : (x : Expr) (p : Place) (s : Slot) → fits (about_expr (parts_least p x)) p s ≡ true
    → (about_expr (least_in x p s)).lead ≡ (about_expr (parts_least p x)).lead
bare_lead x p s fit =
    ap (λ (z : Expr). (about_expr z).lead) (least_is x p s ∙ ap (λ (b : Bool). by_fit b (parts_least p x) (parts_least FREE x)) fit)

pub paren_lead : (x : Expr) (p : Place) (s : Slot) → fits (about_expr (parts_least p x)) p s ≡ false → (about_expr (least_in x p s)).lead ≡ ByParen
paren_lead x p s fails =
    ap (λ (z : Expr). (about_expr z).lead) (least_is x p s ∙ ap (λ (b : Bool). by_fit b (parts_least p x) (parts_least FREE x)) fails)
    ∙ ap (λ (F : ExprFacts). F.lead) (laws.expr_paren_is (parts_least FREE x))

-- ---- what a kind begins with, in code

-- what is told of an expression is told of what it is
by_kind : (x : Expr) (p : Place) {y : Expr} {layer : ExprNode} → x ≡ y → views.out-Expr y ≡ layer → lead_in p layer ≡ (about_expr (parts_least p x)).lead
by_kind x p is out = sym (ap (λ (z : Expr). (about_expr (parts_least p z)).lead) is ∙ lead_is _ p ∙ ap (lead_in p) out)

-- an expression at the left end, and its place
abbrev part_lead : Expr → Place → Slot → ExprLead
part_lead x place slot = (about_expr (least_in x place slot)).lead

pub of_chain : (x part first : Expr) (rest : List (Op × Expr)) (p place : Place) → x ≡ expr.Chain first rest → part ≡ first
    → place ≡ first_place p rest → part_lead part place Any ≡ (about_expr (parts_least p x)).lead
of_chain x part first rest p place is same at =
    ap₂ (λ (y : Expr) (q : Place). part_lead y q Any) same at ∙ by_kind x p is (views.outs-Chain first rest)

pub of_cast : (x part operand : Expr) (types : List Ty) (p place : Place) (first : Bool) → x ≡ expr.Cast operand types → part ≡ operand
    → place ≡ before_op 12 p.no_struct first false → first ≡ begins p.start → part_lead part place Any ≡ (about_expr (parts_least p x)).lead
of_cast x part operand types p place first is same at begun =
    ap₂ (λ (y : Expr) (q : Place). part_lead y q Any) same (at ∙ ap (λ b. before_op 12 p.no_struct b false) begun)
    ∙ by_kind x p is (views.outs-Cast operand types)

pub of_value : (targets slice : List (Expr × Op)) (x part value : Expr) (p place : Place) → x ≡ expr.Assign targets value → slice ≡ targets
    → length slice < 1 → part ≡ value → place ≡ as_node p 1 → part_lead part place Any ≡ (about_expr (parts_least p x)).lead
of_value targets [] x part value p place is same none value_is at =
    ap₂ (λ (y : Expr) (q : Place). part_lead y q Any) value_is at
    ∙ ap (λ ts. lead_in p (Expr-F.Assign ts value)) same ∙ by_kind x p is (views.outs-Assign targets value)
of_value targets (s ∷ more) x part value p place is same none value_is at = absurd (omega (arith, none))

pub of_target : (targets slice : List (Expr × Op)) (t : Expr × Op) (x part value : Expr) (p place : Place) (first : Bool)
    → x ≡ expr.Assign targets value → slice ≡ targets → 1 ≤ length slice → part ≡ (get_or slice 0 t).0
    → place ≡ before_op 1 p.no_struct first false → first ≡ begins p.start → part_lead part place Any ≡ (about_expr (parts_least p x)).lead
of_target targets [] t x part value p place first is same some part_is at begun = absurd (omega (arith, some))
of_target targets (s ∷ more) t x part value p place first is same some part_is at begun =
    ap₂ (λ (y : Expr) (q : Place). part_lead y q Any) part_is (at ∙ ap (λ b. before_op 1 p.no_struct b false) begun)
    ∙ ap (λ ts. lead_in p (Expr-F.Assign ts value)) same ∙ by_kind x p is (views.outs-Assign targets value)

slot_is : (index : Bool) → left_slot index ≡ (if index then BeforeIndex else Any)
slot_is true = refl
slot_is false = refl

pub of_postfix : (x part base : Expr) (steps : List Step) (p place : Place) (index : Bool) → x ≡ expr.Postfix base steps → part ≡ base
    → place ≡ base_place p (map about_step steps) → index ≡ first_step is_tuple_index (map about_step steps)
    → part_lead part place (left_slot index) ≡ (about_expr (parts_least p x)).lead
of_postfix x part base steps p place index is same at found =
    ap₂ (λ (y : Expr) (q : Place). part_lead y q (left_slot index)) same at
    ∙ ap (λ (s : Slot). part_lead base (base_place p (map about_step steps)) s) (ap left_slot found ∙ slot_is (first_step is_tuple_index (map about_step steps)))
    ∙ by_kind x p is (views.outs-Postfix base steps)

pub of_block : (x : Expr) (label : Option Lifetime) (body : Block) (p : Place) → x ≡ expr.Block label body
    → label_or ByBrace label ≡ (about_expr (parts_least p x)).lead
of_block x label body p is = by_kind x p is (views.outs-Block label body)

-- a loop
pub of_loop : (x : Expr) (label : Option Lifetime) (p : Place)
    → ((body : Block) × (x ≡ expr.Loop label body)) ⊎ (((condition : Condition) × (body : Block) × (x ≡ expr.While label condition body))
    ⊎ ((pat : Pat) × (iterated : Expr) × (body : Block) × (x ≡ expr.For label pat iterated body)))
    → label_or ByBlockWord label ≡ (about_expr (parts_least p x)).lead
of_loop x label p (inl loop) = by_kind x p loop.1 (views.outs-Loop label loop.0)
of_loop x label p (inr (inl loop)) = by_kind x p loop.2 (views.outs-While label loop.0 loop.1)
of_loop x label p (inr (inr loop)) = by_kind x p loop.3 (views.outs-For label loop.0 loop.1 loop.2)
