-- What begins an expression begins it wherever it stands, if it isn't wrapped there: kind by kind, down the left edge.
use Rattle.std.proofs.Common.{◌≡◌, suc, Bool, true, false, not, ◌&&◌, if◌then◌else◌, [], ◌∷◌, Option, Some, None, sym, ap, subst, ◌∙◌}
use Rattle.std.proofs.lemmas.Bool.{and_parts, and_from}
use Rattle.lay_code.specs.Operands.{ExprLead}
use Rattle.lay_code.specs.Operators.{is_angle_op, op_level}
use Rattle.lay_code.specs.nodes.Code.{about_expr}
use Rattle.lay_code.specs.nodes.Exprs.{ExprFacts, first_step, is_dotted, is_tuple_index}
use Rattle.lay_code.specs.nodes.Places.{before_op, begins, plain}
use Rattle.lay_code.specs.nodes.PlacesTable.{as_node}
use Rattle.lay_code.specs.declared.blocks.Stmt.TheOpen.{Expr-F}
use Rattle.lay_code.specs.declared.exprs.Expr.{Expr}
use Rattle.lay_code.specs.declared.exprs.Expr.TheVariants as expr
use Rattle.lay_code.proofs.nodes.ExprsLaws as laws
use Rattle.lay_paren_defs.specs.loose.Slots.{Any, BeforeIndex, Optional, Prefixed}
use Rattle.lay_paren.specs.Least.{least_made, made_of}
use Rattle.lay_paren_defs.specs.Traversal.{base_place, base_slot, break_slot}
use Rattle.lay_paren.specs.Parts.{operands_made, targets_made}
use Rattle.lay_paren.proofs.ExprStands.{made_operands, made_steps, made_targets, told_steps}
use Rattle.lay_paren.proofs.Kept.{Kept, expr_layer}
use Rattle.lay_paren.proofs.LeadLemmas.{AsksRoot, Leads, PartsLead, Test, lead_at, least_lead}
use Rattle.lay_paren.specs.Nodes.{expr_parts}
use Rattle.lay_paren.proofs.Roots.{weaker_end, weaker_op}

-- what begins two expressions is one thing
moved : (t : Test) (x y : Expr) → (about_expr x).lead ≡ (about_expr y).lead → lead_at t x → lead_at t y
moved t x y e h = subst (λ (l : ExprLead). t.0 l ≡ true) e h

-- A part begins both the node at one place and the node at the other.
by_part : (t : Test) (x y a b : Expr) → (about_expr x).lead ≡ (about_expr a).lead → (about_expr y).lead ≡ (about_expr b).lead
    → (lead_at t a → lead_at t b) → lead_at t x → lead_at t y
by_part t x y a b e f k h = moved t b y (sym f) (k (moved t x a e h))

abbrev lead : ExprFacts → ExprLead
lead F = F.lead

-- a flag that falls with another, beside a third
both_fall : (a b c : Bool) → (a ≡ true → b ≡ true) → (a && c) ≡ true → (b && c) ≡ true
both_fall a b c f h = let d = and_parts a c h in and_from b c (f d.0) d.1

base_asks : (index : Bool) → AsksRoot (if index then BeforeIndex else Any)
base_asks true = tt
base_asks false = tt

pub parts_lead : (y : Kept Expr-F) → PartsLead (expr_parts (expr_layer y))
parts_lead (Expr-F.Chain x []) t p q w =
    let a = before_op (suc 0) p.no_struct (begins p.start) false in
    let b = before_op (suc 0) q.no_struct (begins q.start) false in
    by_part t (expr.Chain (made_of x.0 a Any).result []) (expr.Chain (made_of x.0 b Any).result [])
    (made_of x.0 a Any).result (made_of x.0 b Any).result
    (ap lead (laws.expr_chain_is (made_of x.0 a Any).result [])) (ap lead (laws.expr_chain_is (made_of x.0 b Any).result []))
    (x.1.leads t a b Any tt (weaker_op 1 false q.no_struct p.no_struct (begins q.start) (begins p.start) w.no_struct w.first))
parts_lead (Expr-F.Chain x (o ∷ more)) t p q w =
    let level = op_level o.0 in
    let angle = is_angle_op o.0 in
    let a = before_op (suc level) p.no_struct (begins p.start) angle in
    let b = before_op (suc level) q.no_struct (begins q.start) angle in
    let xs = (operands_made p level (made_operands (o ∷ more))).result in
    let ys = (operands_made q level (made_operands (o ∷ more))).result in
    by_part t (expr.Chain (made_of x.0 a Any).result xs) (expr.Chain (made_of x.0 b Any).result ys)
    (made_of x.0 a Any).result (made_of x.0 b Any).result
    (ap lead (laws.expr_chain_is (made_of x.0 a Any).result xs)) (ap lead (laws.expr_chain_is (made_of x.0 b Any).result ys))
    (x.1.leads t a b Any tt
    (weaker_op (suc level) angle q.no_struct p.no_struct (begins q.start) (begins p.start) w.no_struct w.first))
parts_lead (Expr-F.Cast x types) t p q w =
    let a = before_op 12 p.no_struct (begins p.start) false in
    let b = before_op 12 q.no_struct (begins q.start) false in
    by_part t (expr.Cast (made_of x.0 a Any).result types) (expr.Cast (made_of x.0 b Any).result types)
    (made_of x.0 a Any).result (made_of x.0 b Any).result
    (ap lead (laws.expr_cast_is (made_of x.0 a Any).result types)) (ap lead (laws.expr_cast_is (made_of x.0 b Any).result types))
    (x.1.leads t a b Any tt (weaker_op 12 false q.no_struct p.no_struct (begins q.start) (begins p.start) w.no_struct w.first))
parts_lead (Expr-F.Unary ps x) t p q w =
    let a = (made_of x.0 (as_node p 12) Prefixed).result in
    let b = (made_of x.0 (as_node q 12) Prefixed).result in
    moved t (expr.Unary ps a) (expr.Unary ps b) (ap lead (laws.expr_unary_is ps a) ∙ sym (ap lead (laws.expr_unary_is ps b)))
parts_lead (Expr-F.Range None inclusive None) t p q w = λ h. h
parts_lead (Expr-F.Range None inclusive (Some y)) t p q w =
    let a = Some (made_of y.0 (as_node p 2) Optional).result in
    let b = Some (made_of y.0 (as_node q 2) Optional).result in
    moved t (expr.Range None inclusive a) (expr.Range None inclusive b)
    (ap lead (laws.expr_range_is None inclusive a) ∙ sym (ap lead (laws.expr_range_is None inclusive b)))
parts_lead (Expr-F.Range (Some x) inclusive None) t p q w =
    let a = before_op 2 p.no_struct (begins p.start) false in
    let b = before_op 2 q.no_struct (begins q.start) false in
    let c : Option Expr = None in
    let d : Option Expr = None in
    by_part t (expr.Range (Some (made_of x.0 a Any).result) inclusive c) (expr.Range (Some (made_of x.0 b Any).result) inclusive d)
    (made_of x.0 a Any).result (made_of x.0 b Any).result
    (ap lead (laws.expr_range_is (Some (made_of x.0 a Any).result) inclusive c))
    (ap lead (laws.expr_range_is (Some (made_of x.0 b Any).result) inclusive d))
    (x.1.leads t a b Any tt (weaker_op 2 false q.no_struct p.no_struct (begins q.start) (begins p.start) w.no_struct w.first))
parts_lead (Expr-F.Range (Some x) inclusive (Some y)) t p q w =
    let a = before_op 2 p.no_struct (begins p.start) false in
    let b = before_op 2 q.no_struct (begins q.start) false in
    let c = Some (made_of y.0 (as_node p 2) Optional).result in
    let d = Some (made_of y.0 (as_node q 2) Optional).result in
    by_part t (expr.Range (Some (made_of x.0 a Any).result) inclusive c) (expr.Range (Some (made_of x.0 b Any).result) inclusive d)
    (made_of x.0 a Any).result (made_of x.0 b Any).result
    (ap lead (laws.expr_range_is (Some (made_of x.0 a Any).result) inclusive c))
    (ap lead (laws.expr_range_is (Some (made_of x.0 b Any).result) inclusive d))
    (x.1.leads t a b Any tt (weaker_op 2 false q.no_struct p.no_struct (begins q.start) (begins p.start) w.no_struct w.first))
parts_lead (Expr-F.Assign [] x) t p q w =
    let a = (made_of x.0 (as_node p 1) Any).result in
    let b = (made_of x.0 (as_node q 1) Any).result in
    by_part t (expr.Assign [] a) (expr.Assign [] b) a b (ap lead (laws.expr_assign_is [] a)) (ap lead (laws.expr_assign_is [] b))
    (x.1.leads t (as_node p 1) (as_node q 1) Any tt (weaker_end 1 p q w))
parts_lead (Expr-F.Assign (y ∷ more) x) t p q w =
    let a = before_op 1 p.no_struct (begins p.start) false in
    let b = before_op 1 q.no_struct (begins q.start) false in
    let xs = (targets_made p (begins p.start) (made_targets (y ∷ more))).result in
    let ys = (targets_made q (begins q.start) (made_targets (y ∷ more))).result in
    let c = (made_of x.0 (as_node p 1) Any).result in
    let d = (made_of x.0 (as_node q 1) Any).result in
    by_part t (expr.Assign xs c) (expr.Assign ys d) (made_of y.0.0 a Any).result (made_of y.0.0 b Any).result
    (ap lead (laws.expr_assign_is xs c)) (ap lead (laws.expr_assign_is ys d))
    (y.0.1.leads t a b Any tt (weaker_op 1 false q.no_struct p.no_struct (begins q.start) (begins p.start) w.no_struct w.first))
parts_lead (Expr-F.Postfix x steps) t p q w =
    let told = told_steps steps in
    let made = (made_steps steps).result in
    let dotless = not (first_step is_dotted told) in
    let slot = base_slot told in
    let a = (made_of x.0 (base_place p told) slot).result in
    let b = (made_of x.0 (base_place q told) slot).result in
    by_part t (expr.Postfix a made) (expr.Postfix b made) a b (ap lead (laws.expr_postfix_is a made)) (ap lead (laws.expr_postfix_is b made))
    (x.1.leads t (base_place p told) (base_place q told) slot (base_asks (first_step is_tuple_index told))
    (weaker_op 14 false q.no_struct p.no_struct (begins q.start && dotless) (begins p.start && dotless) w.no_struct
    (both_fall (begins q.start) (begins p.start) dotless w.first)))
parts_lead (Expr-F.Closure is_async moves params x) t p q w =
    let a = (made_of x.0 (plain 0 p.no_struct) Any).result in
    let b = (made_of x.0 (plain 0 q.no_struct) Any).result in
    moved t (expr.Closure is_async moves params a) (expr.Closure is_async moves params b)
    (ap lead (laws.expr_closure_is is_async moves params a) ∙ sym (ap lead (laws.expr_closure_is is_async moves params b)))
parts_lead (Expr-F.Return None) t p q w = λ h. h
parts_lead (Expr-F.Return (Some x)) t p q w =
    let a = Some (made_of x.0 (plain 0 p.no_struct) Optional).result in
    let b = Some (made_of x.0 (plain 0 q.no_struct) Optional).result in
    moved t (expr.Return a) (expr.Return b) (ap lead (laws.expr_return_is a) ∙ sym (ap lead (laws.expr_return_is b)))
parts_lead (Expr-F.Break label None) t p q w = λ h. h
parts_lead (Expr-F.Break label (Some x)) t p q w =
    let a = Some (made_of x.0 (plain 0 p.no_struct) (break_slot label)).result in
    let b = Some (made_of x.0 (plain 0 q.no_struct) (break_slot label)).result in
    moved t (expr.Break label a) (expr.Break label b) (ap lead (laws.expr_break_is label a) ∙ sym (ap lead (laws.expr_break_is label b)))
parts_lead _ t p q w = λ h. h

pub layer_leads : (y : Kept Expr-F) → Leads (least_made (expr_parts (expr_layer y)))
layer_leads y = least_lead (expr_parts (expr_layer y)) (parts_lead y)
