-- What stands at the edges of expressions, and struct literals in them, kind by kind.
use Rattle.std.proofs.Common.{◌≡◌, ◌-◌, ◌≤◌, ◌<◌, ◌&&◌, ◌⊎◌, inl, inr, not, Bool, true, length, List, [], ◌∷◌, map, get_or, Option, Some, None, is_some, option_map, refl, sym, ap, ◌∙◌, arith}
use Rattle.std.specs.List.{list_all}
use Rattle.std.specs.Prelude.{slice_get}
use Rattle.lay_node.specs.declared.token.Lifetime.{Lifetime}
use Rattle.lay_node.specs.declared.types.Ty.{Ty}
use Rattle.lay_code.specs.Operands.{ByBrace}
use Rattle.lay_code.specs.nodes.Code.{about_expr, about_step}
use Rattle.lay_code.specs.nodes.Exprs.{ExprFacts, begins_part, expr_facts, is_brace_lead, is_dotted, label_or, lead_of, starts_of, step_facts, structless_end, structless_of, tight_of, tight_operands}
use Rattle.lay_code.specs.declared.blocks.Stmt.TheViews as views
use Rattle.lay_code.specs.declared.exprs.ClosureParam.{ClosureParam}
use Rattle.lay_code.specs.declared.exprs.Expr.{Expr}
use Rattle.lay_code.specs.declared.exprs.Expr.TheVariants as expr
use Rattle.lay_code.specs.declared.exprs.Step.{Step}
use Rattle.lay_code.specs.declared.operators.Op.{Op}
use Rattle.lay_code.specs.declared.operators.Prefix.{Prefix}
use Rattle.lay_code.proofs.nodes.ExprsLaws as laws
use Rattle.lay_code.proofs.nodes.Layers.{expr_is, expr_told, step_is, step_told}
use Rattle.lay_ops.specs.Edges.{structless_operands, structless_targets}
use Rattle.lay_ops.proofs.Last.{last, last_is, no_last}

-- ---- what a kind tells by itself

facts_are : (x : Expr) → about_expr x ≡ expr_facts (expr_told (views.out-Expr x))
facts_are x = ap about_expr (sym (views.roll-out-Expr x)) ∙ expr_is (views.out-Expr x)

pub starts_is : (x : Expr) → (about_expr x).starts ≡ starts_of (expr_told (views.out-Expr x))
starts_is x = ap (λ (F : ExprFacts). F.starts) (facts_are x)

pub tight_is : (x : Expr) → (about_expr x).tight ≡ tight_of (expr_told (views.out-Expr x))
tight_is x = ap (λ (F : ExprFacts). F.tight) (facts_are x)

pub braced_is : (x : Expr) → is_brace_lead (about_expr x).lead ≡ is_brace_lead (lead_of (expr_told (views.out-Expr x)))
braced_is x = ap (λ (F : ExprFacts). is_brace_lead F.lead) (facts_are x)

pub structless_is : (x : Expr) → (about_expr x).structless ≡ structless_of (expr_told (views.out-Expr x))
structless_is x = ap (λ (F : ExprFacts). F.structless) (facts_are x)

pub dotted_is : (s : Step) → is_dotted (about_step s).kind ≡ is_dotted (step_facts (step_told (views.out-Step s))).kind
dotted_is s = ap (λ t. is_dotted (about_step t).kind) (sym (views.roll-out-Step s)) ∙ ap (λ F. is_dotted F.kind) (step_is (views.out-Step s))

-- ---- what a kind tells by its operands

-- What is told of an expression is told of what it is.
pub by_kind : (f : ExprFacts → Bool) (x y : Expr) {facts : ExprFacts} → x ≡ y → about_expr y ≡ facts → f facts ≡ f (about_expr x)
by_kind f x y is told = sym (ap (λ (z : Expr). f (about_expr z)) is ∙ ap f told)

-- a chain: its last operand
chain_last : (rest : List (Op × Expr)) (e : Op × Expr) → Some e ≡ last rest
    → (about_expr e.1).tight ≡ tight_operands (map laws.behind_op rest)
chain_last [] e h = absurd (cc)
chain_last (x ∷ []) e h = let same : e ≡ x = cc in ap (λ (y : Op × Expr). (about_expr y.1).tight) same
chain_last (x ∷ y ∷ more) e h = chain_last (y ∷ more) e h

chain_tight : (x operand : Expr) (rest : List (Op × Expr)) → x ≡ expr.Chain operand rest
    → tight_operands (map laws.behind_op rest) ≡ (about_expr x).tight
chain_tight x operand rest is = by_kind (λ F. F.tight) x _ is (laws.expr_chain_is operand rest)

pub of_chain : (x operand : Expr) (rest slice : List (Op × Expr)) (e : Op × Expr) → x ≡ expr.Chain operand rest
    → slice ≡ rest → Some e ≡ slice_get slice (length slice - 1) → (about_expr e.1).tight ≡ (about_expr x).tight
of_chain x operand rest slice e is same h =
    chain_last slice e (h ∙ last_is slice) ∙ ap (λ xs. tight_operands (map laws.behind_op xs)) same ∙ chain_tight x operand rest is

pub no_chain : (x operand : Expr) (rest slice : List (Op × Expr)) → x ≡ expr.Chain operand rest
    → slice ≡ rest → None ≡ slice_get slice (length slice - 1) → true ≡ (about_expr x).tight
no_chain x operand rest slice is same h =
    ap (λ xs. tight_operands (map laws.behind_op xs)) (sym (no_last slice (h ∙ last_is slice)) ∙ same) ∙ chain_tight x operand rest is

-- an assignment: its first target, and its value where it has none
abbrev targets_start : List (Expr × Op) → Bool
targets_start [] = true
targets_start (t ∷ more) = begins_part (about_expr t.0)

start_by : (targets : List (Expr × Op)) (value : Expr) → targets_start targets ≡ (about_expr (expr.Assign targets value)).starts
start_by [] value = by_kind (λ F. F.starts) _ _ refl (laws.expr_assign_is [] value)
start_by (t ∷ more) value = by_kind (λ F. F.starts) _ _ refl (laws.expr_assign_is (t ∷ more) value)

pub first_target : (targets slice : List (Expr × Op)) (t : Expr × Op) (x value : Expr) → x ≡ expr.Assign targets value → slice ≡ targets
    → 1 ≤ length slice → begins_part (about_expr (get_or slice 0 t).0) ≡ (about_expr x).starts
first_target targets [] t x value is same some = absurd (omega arith)
first_target targets (s ∷ more) t x value is same some =
    ap targets_start same ∙ start_by targets value ∙ ap (λ (z : Expr). (about_expr z).starts) (sym is)

pub no_target : (targets slice : List (Expr × Op)) (x value : Expr) → x ≡ expr.Assign targets value → slice ≡ targets → length slice < 1
    → true ≡ (about_expr x).starts
no_target targets [] x value is same none =
    ap targets_start same ∙ start_by targets value ∙ ap (λ (z : Expr). (about_expr z).starts) (sym is)
no_target targets (s ∷ more) x value is same none = absurd (omega arith)

abbrev targets_braced : List (Expr × Op) → Expr → Bool
targets_braced [] value = is_brace_lead (about_expr value).lead
targets_braced (t ∷ more) value = is_brace_lead (about_expr t.0).lead

braced_by : (targets : List (Expr × Op)) (value : Expr)
    → targets_braced targets value ≡ is_brace_lead (about_expr (expr.Assign targets value)).lead
braced_by [] value = by_kind (λ F. is_brace_lead F.lead) _ _ refl (laws.expr_assign_is [] value)
braced_by (t ∷ more) value = by_kind (λ F. is_brace_lead F.lead) _ _ refl (laws.expr_assign_is (t ∷ more) value)

pub first_target_braced : (targets slice : List (Expr × Op)) (t : Expr × Op) (x value : Expr) → x ≡ expr.Assign targets value
    → slice ≡ targets → 1 ≤ length slice → is_brace_lead (about_expr (get_or slice 0 t).0).lead ≡ is_brace_lead (about_expr x).lead
first_target_braced targets [] t x value is same some = absurd (omega arith)
first_target_braced targets (s ∷ more) t x value is same some =
    ap (λ ts. targets_braced ts value) same ∙ braced_by targets value ∙ ap (λ (z : Expr). is_brace_lead (about_expr z).lead) (sym is)

pub value_braced : (targets slice : List (Expr × Op)) (x value : Expr) → x ≡ expr.Assign targets value → slice ≡ targets
    → length slice < 1 → is_brace_lead (about_expr value).lead ≡ is_brace_lead (about_expr x).lead
value_braced targets [] x value is same none =
    ap (λ ts. targets_braced ts value) same ∙ braced_by targets value ∙ ap (λ (z : Expr). is_brace_lead (about_expr z).lead) (sym is)
value_braced targets (s ∷ more) x value is same none = absurd (omega arith)

-- a block
pub unlabelled : (label : Option Lifetime) → not (is_some label) ≡ is_brace_lead (label_or ByBrace label)
unlabelled None = refl
unlabelled (Some l) = refl

-- ---- struct literals in operands

operands_are : (rest : List (Op × Expr)) → structless_operands rest ≡ list_all (λ (y : Op × ExprFacts). y.1.structless) (map laws.behind_op rest)
operands_are [] = refl
operands_are (x ∷ more) = ap (λ b. (about_expr x.1).structless && b) (operands_are more)

pub chain_structless : (x first : Expr) (rest : List (Op × Expr)) → x ≡ expr.Chain first rest
    → ((about_expr first).structless && structless_operands rest) ≡ (about_expr x).structless
chain_structless x first rest is =
    ap (λ b. (about_expr first).structless && b) (operands_are rest)
    ∙ by_kind (λ F. F.structless) _ _ is (laws.expr_chain_is first rest)

targets_are : (targets : List (Expr × Op)) → structless_targets targets ≡ list_all (λ (y : ExprFacts × Op). y.0.structless) (map laws.before_op targets)
targets_are [] = refl
targets_are (x ∷ more) = ap (λ b. (about_expr x.0).structless && b) (targets_are more)

pub assign_structless : (x value : Expr) (targets : List (Expr × Op)) → x ≡ expr.Assign targets value
    → (structless_targets targets && (about_expr value).structless) ≡ (about_expr x).structless
assign_structless x value targets is =
    ap (λ b. b && (about_expr value).structless) (targets_are targets)
    ∙ by_kind (λ F. F.structless) _ _ is (laws.expr_assign_is targets value)

-- a cast, prefixes, steps and a closure
pub part_structless : (x part : Expr) → ((types : List Ty) × (x ≡ expr.Cast part types))
    ⊎ (((prefixes : List Prefix) × (x ≡ expr.Unary prefixes part)) ⊎ (((steps : List Step) × (x ≡ expr.Postfix part steps))
    ⊎ ((is_async : Bool) × (moves : Bool) × (params : List ClosureParam) × (x ≡ expr.Closure is_async moves params part))))
    → (about_expr part).structless ≡ (about_expr x).structless
part_structless x part (inl cast) = by_kind (λ F. F.structless) _ _ cast.1 (laws.expr_cast_is part cast.0)
part_structless x part (inr (inl unary)) = by_kind (λ F. F.structless) _ _ unary.1 (laws.expr_unary_is unary.0 part)
part_structless x part (inr (inr (inl postfix))) = by_kind (λ F. F.structless) _ _ postfix.1 (laws.expr_postfix_is part postfix.0)
part_structless x part (inr (inr (inr closure))) =
    by_kind (λ F. F.structless) _ _ closure.3 (laws.expr_closure_is closure.0 closure.1 closure.2 part)

-- a jump
pub jump_structless : (x : Expr) (operand : Option Expr) → (x ≡ expr.Return operand)
    ⊎ ((label : Option Lifetime) × (x ≡ expr.Break label operand))
    → structless_end (option_map about_expr operand) ≡ (about_expr x).structless
jump_structless x operand (inl is) = by_kind (λ F. F.structless) _ _ is (laws.expr_return_is operand)
jump_structless x operand (inr jump) = by_kind (λ F. F.structless) _ _ jump.1 (laws.expr_break_is jump.0 operand)
