-- What a place asks of the root of a node doesn't hang on the node's parts, and so not on the place from which these have theirs.
use Rattle.std.proofs.Common.{◌≡◌, ℕ, suc, ◌≤◌, Bool, true, false, not, ◌&&◌, ◌||◌, true≢false, List, [], ◌∷◌, map, Option, Some, None, refl, sym, ap, subst, ◌∙◌, arith}
use Rattle.std.specs.Prelude.{nat_le}
use Rattle.std.proofs.lemmas.Bool.{and_parts, and_from, leb-true, le-leb}
use Rattle.lay_node.specs.declared.token.Lifetime.{Lifetime}
use Rattle.lay_node.specs.declared.types.Ty.{Ty}
use Rattle.lay_code.specs.nodes.Code.{about_expr, about_step}
use Rattle.lay_code.specs.nodes.Exprs.{ExprFacts, ExprLayer, expr_facts, is_open, is_typed, level_of_chain, may, placed, stands}
use Rattle.lay_code.specs.nodes.Places.{FREE, before_op, begins, is_part, part_if, plain}
use Rattle.lay_code.specs.nodes.PlacesTable.{as_node}
use Rattle.lay_code.specs.declared.blocks.Stmt.TheOpen.{Expr-F}
use Rattle.lay_code.specs.declared.blocks.Stmt.TheViews as views
use Rattle.lay_code.specs.declared.exprs.ClosureParam.{ClosureParam}
use Rattle.lay_code.specs.declared.exprs.Expr.{Expr}
use Rattle.lay_code.specs.declared.exprs.Expr.TheVariants as expr
use Rattle.lay_code.specs.declared.exprs.Place.{Place}
use Rattle.lay_code.specs.declared.exprs.Step.{Step}
use Rattle.lay_code.specs.declared.operators.Op.{Op}
use Rattle.lay_code.specs.declared.operators.Prefix.{Prefix}
use Rattle.lay_code.proofs.nodes.ExprsLaws.{behind_op, expr_assign_is, expr_break_is, expr_cast_is, expr_chain_is, expr_closure_is, expr_postfix_is, expr_range_is, expr_return_is, expr_unary_is}
use Rattle.lay_code.proofs.nodes.Layers.{expr_is, expr_told}
use Rattle.lay_paren_defs.specs.loose.Slots.{Any, Optional, Prefixed}
use Rattle.lay_paren.specs.Made.{all, making}
use Rattle.lay_paren.proofs.Choice.{refuted}
use Rattle.lay_paren_defs.specs.Traversal.{angle_next, base_place, base_slot, break_slot, level_by, may_at}
use Rattle.lay_paren.specs.Parts.{Parts, expr_made, made_parts, operands_made, targets_made}

-- what a place asks of an expression, and whether it is a number
pub record Root : Type 0 where
  pub level : ℕ
  pub jumps : Bool
  pub endless : Bool
  pub typed : Bool
  pub block_like : Bool
  pub is_struct : Bool
  pub is_number : Bool

abbrev pub root : ExprFacts → Root
root x = record {
  level = x.level;
  jumps = x.jumps;
  endless = x.endless;
  typed = x.typed;
  block_like = x.block_like;
  is_struct = x.is_struct;
  is_number = x.is_number;
}

abbrev pub root_may : Root → Place → Bool
root_may r p =
    nat_le p.level r.level && not (p.op_after && (r.jumps || r.endless)) && not (p.lt_after && r.typed)
    && not (is_part p.start && r.block_like) && not (p.no_struct && r.is_struct)

-- ---- the root of a node, wherever it stands

chain_root : (x y : Expr) (xs ys : List (Op × Expr)) → level_of_chain (map behind_op xs) ≡ level_of_chain (map behind_op ys)
    → root (about_expr (expr.Chain x xs)) ≡ root (about_expr (expr.Chain y ys))
chain_root x y xs ys e =
    ap root (expr_chain_is x xs)
    ∙ ap (λ (n : ℕ). record (root (expr_facts (Expr-F.Chain (about_expr x) (map behind_op xs)))) { level = n }) e
    ∙ sym (ap root (expr_chain_is y ys))

cast_root : (x y : Expr) (types : List Ty) → root (about_expr (expr.Cast x types)) ≡ root (about_expr (expr.Cast y types))
cast_root x y types = ap root (expr_cast_is x types) ∙ sym (ap root (expr_cast_is y types))

unary_root : (ps : List Prefix) (x y : Expr) → root (about_expr (expr.Unary ps x)) ≡ root (about_expr (expr.Unary ps y))
unary_root ps x y = ap root (expr_unary_is ps x) ∙ sym (ap root (expr_unary_is ps y))

-- whether there is an end stays
abbrev same_end : Option Expr → Option Expr → Type 0
same_end None None = Unit {0}
same_end (Some x) (Some y) = Unit {0}
same_end _ _ = ⊥

range_root : (a b : Option Expr) (inclusive : Bool) (x y : Option Expr) → same_end x y
    → root (about_expr (expr.Range a inclusive x)) ≡ root (about_expr (expr.Range b inclusive y))
range_root a b inclusive None None e = ap root (expr_range_is a inclusive None) ∙ sym (ap root (expr_range_is b inclusive None))
range_root a b inclusive (Some x) (Some y) e =
    ap root (expr_range_is a inclusive (Some x)) ∙ sym (ap root (expr_range_is b inclusive (Some y)))
range_root a b inclusive None (Some y) e = absurd e
range_root a b inclusive (Some x) None e = absurd e

assign_root : (xs ys : List (Expr × Op)) (x y : Expr) → root (about_expr (expr.Assign xs x)) ≡ root (about_expr (expr.Assign ys y))
assign_root xs ys x y = ap root (expr_assign_is xs x) ∙ sym (ap root (expr_assign_is ys y))

postfix_root : (x y : Expr) (steps : List Step) → root (about_expr (expr.Postfix x steps)) ≡ root (about_expr (expr.Postfix y steps))
postfix_root x y steps = ap root (expr_postfix_is x steps) ∙ sym (ap root (expr_postfix_is y steps))

closure_root : (is_async moves : Bool) (params : List ClosureParam) (x y : Expr)
    → root (about_expr (expr.Closure is_async moves params x)) ≡ root (about_expr (expr.Closure is_async moves params y))
closure_root is_async moves params x y =
    ap root (expr_closure_is is_async moves params x) ∙ sym (ap root (expr_closure_is is_async moves params y))

return_root : (x y : Option Expr) → root (about_expr (expr.Return x)) ≡ root (about_expr (expr.Return y))
return_root x y = ap root (expr_return_is x) ∙ sym (ap root (expr_return_is y))

break_root : (label : Option Lifetime) (x y : Option Expr) → root (about_expr (expr.Break label x)) ≡ root (about_expr (expr.Break label y))
break_root label x y = ap root (expr_break_is label x) ∙ sym (ap root (expr_break_is label y))

-- The parts of a node with their places from one place or from another: the root stays.
pub root_made : (y : Parts Expr-F) (p q : Place) → root (about_expr (expr_made p y).result) ≡ root (about_expr (expr_made q y).result)
root_made (Expr-F.Chain x []) p q =
    chain_root (x (before_op (suc 0) p.no_struct (begins p.start) false) Any).result
    (x (before_op (suc 0) q.no_struct (begins q.start) false) Any).result [] [] refl
root_made (Expr-F.Chain x (o ∷ more)) p q =
    chain_root (x (before_op (suc (level_by (o ∷ more))) p.no_struct (begins p.start) (angle_next (o ∷ more))) Any).result
    (x (before_op (suc (level_by (o ∷ more))) q.no_struct (begins q.start) (angle_next (o ∷ more))) Any).result
    (operands_made p (level_by (o ∷ more)) (o ∷ more)).result (operands_made q (level_by (o ∷ more)) (o ∷ more)).result refl
root_made (Expr-F.Cast x types) p q =
    cast_root (x (before_op 12 p.no_struct (begins p.start) false) Any).result
    (x (before_op 12 q.no_struct (begins q.start) false) Any).result types
root_made (Expr-F.Unary ps x) p q = unary_root ps (x (as_node p 12) Prefixed).result (x (as_node q 12) Prefixed).result
root_made (Expr-F.Range start inclusive None) p q =
    range_root (may_at making made_parts (before_op 2 p.no_struct (begins p.start) false) Any start).result
    (may_at making made_parts (before_op 2 q.no_struct (begins q.start) false) Any start).result inclusive None None tt
root_made (Expr-F.Range start inclusive (Some x)) p q =
    range_root (may_at making made_parts (before_op 2 p.no_struct (begins p.start) false) Any start).result
    (may_at making made_parts (before_op 2 q.no_struct (begins q.start) false) Any start).result inclusive
    (Some (x (as_node p 2) Optional).result) (Some (x (as_node q 2) Optional).result) tt
root_made (Expr-F.Assign targets x) p q =
    assign_root (targets_made p (begins p.start) targets).result (targets_made q (begins q.start) targets).result
    (x (as_node p 1) Any).result (x (as_node q 1) Any).result
root_made (Expr-F.Postfix x steps) p q =
    let told = map about_step (all steps).result in
    postfix_root (x (base_place p told) (base_slot told)).result (x (base_place q told) (base_slot told)).result (all steps).result
root_made (Expr-F.Closure is_async moves params x) p q =
    closure_root is_async moves params (x (plain 0 p.no_struct) Any).result (x (plain 0 q.no_struct) Any).result
root_made (Expr-F.Return x) p q =
    return_root (may_at making made_parts (plain 0 p.no_struct) Optional x).result (may_at making made_parts (plain 0 q.no_struct) Optional x).result
root_made (Expr-F.Break label x) p q =
    break_root label (may_at making made_parts (plain 0 p.no_struct) (break_slot label) x).result (may_at making made_parts (plain 0 q.no_struct) (break_slot label) x).result
root_made _ p q = refl

-- ---- what is written may stand by its root

-- where an expression is as open as its root says, or more
opened : (F : ExprFacts) → ((F.jumps || F.endless) ≡ true → is_open F.tail ≡ true) → (F.typed ≡ true → is_typed F.tail ≡ true)
    → (p : Place) → stands F p ≡ true → may F p ≡ true
opened F ended typed p h =
    let l = nat_le p.level F.level in
    let o = not (p.op_after && is_open F.tail) in
    let t = not (p.lt_after && is_typed F.tail) in
    let b = not (is_part p.start && F.block_like) in
    let s = not (p.no_struct && F.is_struct) in
    let c = and_parts (l && o && t && b) s h in
    let d = and_parts (l && o && t) b c.0 in
    let e = and_parts (l && o) t d.0 in
    let f = and_parts l o e.0 in
    let o' = not (p.op_after && (F.jumps || F.endless)) in
    let t' = not (p.lt_after && F.typed) in
    and_from (l && o' && t' && b) s
    (and_from (l && o' && t') b
    (and_from (l && o') t'
    (and_from l o' f.0 (less p.op_after (F.jumps || F.endless) (is_open F.tail) ended f.1)) (less p.lt_after F.typed (is_typed F.tail) typed e.1)) d.1) c.1
  where
    less : (a b c : Bool) → (b ≡ true → c ≡ true) → not (a && c) ≡ true → not (a && b) ≡ true
    less false b c f h = refl
    less true b c f h = refuted b c f h

no_root : {A : Type 0} → false ≡ true → A
no_root e = absurd (true≢false (sym e))

layer_opened : (y : ExprLayer) (p : Place) → stands (expr_facts y) p ≡ true → may (expr_facts y) p ≡ true
layer_opened (Expr-F.Cast x types) = opened (expr_facts (Expr-F.Cast x types)) (λ h. no_root h) (λ h. h)
layer_opened (Expr-F.Range start inclusive None) = opened (expr_facts (Expr-F.Range start inclusive None)) (λ h. refl) (λ h. no_root h)
layer_opened (Expr-F.Range start inclusive (Some x)) =
    opened (expr_facts (Expr-F.Range start inclusive (Some x))) (λ h. no_root h) (λ h. no_root h)
layer_opened (Expr-F.Closure is_async moves params x) =
    opened (expr_facts (Expr-F.Closure is_async moves params x)) (λ h. refl) (λ h. no_root h)
layer_opened (Expr-F.TypedClosure is_async moves params output b) =
    opened (expr_facts (Expr-F.TypedClosure is_async moves params output b)) (λ h. refl) (λ h. no_root h)
layer_opened (Expr-F.Return None) = opened (expr_facts (Expr-F.Return None)) (λ h. refl) (λ h. no_root h)
layer_opened (Expr-F.Return (Some x)) = opened (expr_facts (Expr-F.Return (Some x))) (λ h. refl) (λ h. no_root h)
layer_opened (Expr-F.Break label None) = opened (expr_facts (Expr-F.Break label None)) (λ h. refl) (λ h. no_root h)
layer_opened (Expr-F.Break label (Some x)) = opened (expr_facts (Expr-F.Break label (Some x))) (λ h. refl) (λ h. no_root h)
layer_opened y = opened (expr_facts y) (λ h. no_root h) (λ h. no_root h)

pub placed_may : (x : Expr) (p : Place) → placed (about_expr x) p ≡ true → may (about_expr x) p ≡ true
placed_may x p h =
    subst (λ (z : Expr). placed (about_expr z) p ≡ true → may (about_expr z) p ≡ true) (views.roll-out-Expr x)
    (subst (λ (F : ExprFacts). placed F p ≡ true → may F p ≡ true) (sym (expr_is (views.out-Expr x))) by_layer) h
  where
    by_layer : let F = expr_facts (expr_told (views.out-Expr x)) in placed F p ≡ true → may F p ≡ true
    by_layer k =
        let F = expr_facts (expr_told (views.out-Expr x)) in
        layer_opened (expr_told (views.out-Expr x)) p (and_parts (stands F p) (F.within p.no_struct (begins p.start)) k).0

-- ---- places that ask no more

-- The first place asks no more than the second.
pub record Weaker (q p : Place) : Type 0 where
  pub level : q.level ≤ p.level
  pub no_struct : q.no_struct ≡ true → p.no_struct ≡ true
  pub first : begins q.start ≡ true → begins p.start ≡ true
  pub part : is_part q.start ≡ true → is_part p.start ≡ true
  pub op_after : q.op_after ≡ true → p.op_after ≡ true
  pub lt_after : q.lt_after ≡ true → p.lt_after ≡ true

pub may_kept : (r : Root) (p q : Place) → Weaker q p → root_may r p ≡ true → root_may r q ≡ true
may_kept r p q w h =
    let l = nat_le p.level r.level in
    let o = not (p.op_after && (r.jumps || r.endless)) in
    let t = not (p.lt_after && r.typed) in
    let b = not (is_part p.start && r.block_like) in
    let s = not (p.no_struct && r.is_struct) in
    let c = and_parts (l && o && t && b) s h in
    let d = and_parts (l && o && t) b c.0 in
    let e = and_parts (l && o) t d.0 in
    let f = and_parts l o e.0 in
    let l' = nat_le q.level r.level in
    let o' = not (q.op_after && (r.jumps || r.endless)) in
    let t' = not (q.lt_after && r.typed) in
    let b' = not (is_part q.start && r.block_like) in
    let s' = not (q.no_struct && r.is_struct) in
    let above = leb-true p.level r.level f.0 in
    let below = w.level in
    and_from (l' && o' && t' && b') s'
    (and_from (l' && o' && t') b'
    (and_from (l' && o') t'
    (and_from l' o' (le-leb q.level r.level (omega (arith, above, below))) (unless p.op_after q.op_after (r.jumps || r.endless) w.op_after f.1))
    (unless p.lt_after q.lt_after r.typed w.lt_after e.1)) (unless (is_part p.start) (is_part q.start) r.block_like w.part d.1))
    (unless p.no_struct q.no_struct r.is_struct w.no_struct c.1)
  where
    unless : (a b c : Bool) → (b ≡ true → a ≡ true) → not (a && c) ≡ true → not (b && c) ≡ true
    unless a false c imp h = refl
    unless a true c imp h = subst (λ (x : Bool). not (x && c) ≡ true) (imp refl) h

begins_if : (b : Bool) → begins (part_if b) ≡ b
begins_if true = refl
begins_if false = refl

part_is : (b : Bool) → is_part (part_if b) ≡ b
part_is true = refl
part_is false = refl

-- before an operator
pub weaker_op : (level : ℕ) (angle n m f g : Bool) → (n ≡ true → m ≡ true) → (f ≡ true → g ≡ true)
    → Weaker (before_op level n f angle) (before_op level m g angle)
weaker_op level angle n m f g no_struct first = record {
  level = omega arith;
  no_struct = no_struct;
  first = λ h. begins_if g ∙ first (sym (begins_if f) ∙ h);
  part = λ h. part_is g ∙ first (sym (part_is f) ∙ h);
  op_after = λ h. refl;
  lt_after = λ h. h;
}

-- at the end of a node
pub weaker_end : (level : ℕ) (p q : Place) → Weaker q p → Weaker (as_node q level) (as_node p level)
weaker_end level p q w = record {
  level = omega arith;
  no_struct = w.no_struct;
  first = λ h. h;
  part = λ h. h;
  op_after = w.op_after;
  lt_after = w.lt_after;
}

pub weaker_free : (p : Place) → Weaker FREE p
weaker_free p = record {
  level = omega arith;
  no_struct = λ h. no_root h;
  first = λ h. no_root h;
  part = λ h. no_root h;
  op_after = λ h. no_root h;
  lt_after = λ h. no_root h;
}
