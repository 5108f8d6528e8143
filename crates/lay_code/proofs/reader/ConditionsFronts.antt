-- What links begin with: no link begins with a range, since that stands below their level.
use Rattle.std.proofs.Common.{◌≡◌, ℕ, zero, suc, ◌≤◌, Bool, true, false, not, ◌&&◌, nat_le, List, map, codes, Option, option_map, Some, None, inl, inr, refl, sym, subst, ◌∙◌, arith, le-leb, leb-true}
use Rattle.std.proofs.lemmas.Bool.{and_parts, false_from_ne_true, or_cases}
use Rattle.lay_token.specs.Operators.{is_op}
use Rattle.lay_form.specs.Form.{Form, Part}
use Rattle.lay_form.specs.Spelled.{Spells}
use Rattle.lay_node.specs.Ahead.{Tokens}
use Rattle.lay_node.specs.Follow.{begins_dots}
use Rattle.lay_node.specs.nodes.Types.{about_type, is_there}
use Rattle.lay_node.specs.declared.token.Lifetime.{Lifetime}
use Rattle.lay_node.specs.declared.types.Ty.{Ty}
use Rattle.lay_code.specs.Operands.{ExprLead, ByBlockWord, ByBrace, ByRange, expr_lead_at}
use Rattle.lay_code.specs.nodes.Code.{about_arm, about_block, about_branch, about_condition, about_expr, about_field_expr, about_step}
use Rattle.lay_code.specs.nodes.Exprs.{ExprFacts, ExprLayer, are_steps, expr_facts, first_step, group_if, inside, is_chain_level, is_dotted, is_tuple_index, label_or, lead_of, level_of, level_of_chain, may_chain, methods, next_is_angle, operands_placed, placed, stands, steps_form, types_good, within_of}
use Rattle.lay_code.specs.nodes.Places.{before_op, begins, part_if}
use Rattle.lay_code.specs.declared.blocks.Stmt.TheOpen.{Expr-F}
use Rattle.lay_code.specs.declared.exprs.Expr.{Expr}
use Rattle.lay_code.specs.declared.exprs.Expr.TheVariants as expr
use Rattle.lay_code.specs.declared.exprs.Place.{Place}
use Rattle.lay_code.specs.declared.exprs.Step.{Step}
use Rattle.lay_code.specs.declared.operators.Op.{Op}
use Rattle.lay_code.proofs.nodes.ExprsLaws.{ExprView, IsLit, IsPath, IsUnderscore, IsCall, IsParen, IsContinue, IsTuple, IsArray, IsRepeat, IsStruct, IsChain, IsCast, IsUnary, IsRange, IsAssign, IsPostfix, IsBlock, IsUnsafe, IsConstBlock, IsAsync, IsIf, IsMatch, IsLoop, IsWhile, IsFor, IsClosure, IsTypedClosure, IsReturn, IsBreak, expr_view, behind_op, before_op as target_of, expr_lit_is, expr_path_is, expr_underscore_is, expr_call_is, expr_paren_is, expr_continue_is, expr_tuple_is, expr_array_is, expr_repeat_is, expr_struct_is, expr_chain_is, expr_cast_is, expr_unary_is, expr_range_is, expr_assign_is, expr_postfix_is, expr_block_is, expr_unsafe_is, expr_const_block_is, expr_async_is, expr_if_is, expr_match_is, expr_loop_is, expr_while_is, expr_for_is, expr_closure_is, expr_typed_closure_is, expr_return_is, expr_break_is}
use Rattle.lay_code.proofs.reader.ExprFronts.{no_depth, placed_begins}
use Rattle.lay_code.proofs.reader.ExprLeads.{dots_lead}
use Rattle.lay_code.proofs.reader.ExprOperatorsTails.{before_parts, stands_parts}

abbrev pub is_range_lead : ExprLead → Bool
is_range_lead ByRange = true
is_range_lead _ = false

-- ---- which expressions are below links, or begin as their operand does

pub data Rising : Expr → Type 0 where
  OfChain : (x : Expr) (more : List (Op × Expr)) → Rising (expr.Chain x more)
  OfRange : (start : Option Expr) (inclusive : Bool) (end : Option Expr) → Rising (expr.Range start inclusive end)
  OfAssign : (targets : List (Expr × Op)) (x : Expr) → Rising (expr.Assign targets x)
  OfCast : (x : Expr) (types : List Ty) → Rising (expr.Cast x types)
  OfPostfix : (x : Expr) (steps : List Step) → Rising (expr.Postfix x steps)
  -- It is a link, and begins by itself.
  OfLink : (x : Expr) → nat_le 4 (about_expr x).level ≡ true → is_range_lead (about_expr x).lead ≡ false → Rising x

-- A label begins no range.
label_no_range : (lead : ExprLead) (label : Option Lifetime) → is_range_lead lead ≡ false → is_range_lead (label_or lead label) ≡ false
label_no_range lead None h = h
label_no_range lead (Some l) h = refl

link_of : (x : Expr) (F : ExprLayer) → about_expr x ≡ expr_facts F → nat_le 4 (level_of F) ≡ true → is_range_lead (lead_of F) ≡ false → Rising x
link_of x F e l n =
    OfLink x (subst (λ (G : ExprFacts). nat_le 4 G.level ≡ true) (sym e) l) (subst (λ (G : ExprFacts). is_range_lead G.lead ≡ false) (sym e) n)

pub rising : (x : Expr) → Rising x
rising x = by x (expr_view x)
  where
    by : (x : Expr) → ExprView x → Rising x
    by _ (IsChain x more) = OfChain x more
    by _ (IsCast x types) = OfCast x types
    by _ (IsRange start inclusive end) = OfRange start inclusive end
    by _ (IsAssign targets x) = OfAssign targets x
    by _ (IsPostfix x steps) = OfPostfix x steps
    by _ (IsLit l) = link_of (expr.Lit l) (Expr-F.Lit l) (expr_lit_is l) refl refl
    by _ (IsPath path) = link_of (expr.Path path) (Expr-F.Path path) (expr_path_is path) refl refl
    by _ IsUnderscore = link_of expr.Underscore Expr-F.Underscore expr_underscore_is refl refl
    by _ (IsCall call) = link_of (expr.Call call) (Expr-F.Expr::Call call) (expr_call_is call) refl refl
    by _ (IsParen x) = link_of (expr.Paren x) (Expr-F.Paren (about_expr x)) (expr_paren_is x) refl refl
    by _ (IsContinue label) = link_of (expr.Continue label) (Expr-F.Continue label) (expr_continue_is label) refl refl
    by _ (IsTuple xs) = link_of (expr.Tuple xs) (Expr-F.Tuple (map about_expr xs)) (expr_tuple_is xs) refl refl
    by _ (IsArray xs) = link_of (expr.Array xs) (Expr-F.Array (map about_expr xs)) (expr_array_is xs) refl refl
    by _ (IsRepeat x us) = link_of (expr.Repeat x us) (Expr-F.Repeat (about_expr x) us) (expr_repeat_is x us) refl refl
    by _ (IsStruct path fields base) =
        link_of (expr.Struct path fields base) (Expr-F.Expr::Struct path (map about_field_expr fields) (option_map (option_map about_expr) base))
        (expr_struct_is path fields base) refl refl
    by _ (IsUnary ps x) = link_of (expr.Unary ps x) (Expr-F.Unary ps (about_expr x)) (expr_unary_is ps x) refl refl
    by _ (IsReturn x) = link_of (expr.Return x) (Expr-F.Return (option_map about_expr x)) (expr_return_is x) refl refl
    by _ (IsBreak label x) = link_of (expr.Break label x) (Expr-F.Break label (option_map about_expr x)) (expr_break_is label x) refl refl
    by _ (IsBlock label b) =
        link_of (expr.Block label b) (Expr-F.Block label (about_block b)) (expr_block_is label b) refl (label_no_range ByBrace label refl)
    by _ (IsUnsafe b) = link_of (expr.Unsafe b) (Expr-F.Unsafe (about_block b)) (expr_unsafe_is b) refl refl
    by _ (IsConstBlock b) = link_of (expr.ConstBlock b) (Expr-F.ConstBlock (about_block b)) (expr_const_block_is b) refl refl
    by _ (IsAsync moves b) = link_of (expr.Async moves b) (Expr-F.Async moves (about_block b)) (expr_async_is moves b) refl refl
    by _ (IsIf branches o) =
        link_of (expr.If branches o) (Expr-F.If (map about_branch branches) (option_map about_block o)) (expr_if_is branches o) refl refl
    by _ (IsMatch x attrs arms) =
        link_of (expr.Match x attrs arms) (Expr-F.Match (about_expr x) attrs (map about_arm arms)) (expr_match_is x attrs arms) refl refl
    by _ (IsLoop label b) =
        link_of (expr.Loop label b) (Expr-F.Loop label (about_block b)) (expr_loop_is label b) refl (label_no_range ByBlockWord label refl)
    by _ (IsWhile label c b) =
        link_of (expr.While label c b) (Expr-F.While label (about_condition c) (about_block b)) (expr_while_is label c b) refl
        (label_no_range ByBlockWord label refl)
    by _ (IsFor label pat x b) =
        link_of (expr.For label pat x b) (Expr-F.For label pat (about_expr x) (about_block b)) (expr_for_is label pat x b) refl
        (label_no_range ByBlockWord label refl)
    by _ (IsClosure is_async moves params x) =
        link_of (expr.Closure is_async moves params x) (Expr-F.Closure is_async moves params (about_expr x)) (expr_closure_is is_async moves params x)
        refl refl
    by _ (IsTypedClosure is_async moves params output b) =
        link_of (expr.TypedClosure is_async moves params output b) (Expr-F.TypedClosure is_async moves params output (about_block b))
        (expr_typed_closure_is is_async moves params output b) refl refl

-- ---- what is above the level of ranges begins with none

abbrev NoRange : ℕ → Type 0
NoRange depth =
    (x : Expr) (no_struct first : Bool) (ts rest : Tokens) → Spells (about_expr x).form depth ts rest
    → (about_expr x).within no_struct first ≡ true → nat_le 2 (about_expr x).level ≡ true → is_range_lead (about_expr x).lead ≡ false

module _ (depth : ℕ) (ih : NoRange depth) (no_struct first : Bool) (ts rest : Tokens) where
  abbrev By : ExprFacts → Type 0
  By F = Spells F.form (suc depth) ts rest → F.within no_struct first ≡ true → nat_le 2 F.level ≡ true → is_range_lead F.lead ≡ false

  told : (x : Expr) (F : ExprLayer) → about_expr x ≡ expr_facts F
      → (Spells (inside F) depth ts rest → within_of F no_struct first ≡ true → nat_le 2 (level_of F) ≡ true → is_range_lead (lead_of F) ≡ false)
      → By (about_expr x)
  told x F e f = subst By (sym e) (λ s w l. f (subst (λ us. Spells (inside F) depth ts us) s.2 s.1) w l)

  -- the operand before an operator of a level
  operand : (x : Expr) (level : ℕ) (part angle : Bool) (mid : Tokens) → 2 ≤ level → Spells (about_expr x).form depth ts mid
      → placed (about_expr x) (before_op level no_struct part angle) ≡ true → is_range_lead (about_expr x).lead ≡ false
  operand x level part angle mid le s w =
      let F = about_expr x in
      let p = and_parts (stands F (before_op level no_struct part angle)) (F.within no_struct (begins (part_if part))) w in
      let b = before_parts F level no_struct part angle p.0 in
      let high = leb-true level F.level b.high in
      ih x no_struct (begins (part_if part)) ts mid s p.1 (le-leb 2 F.level (omega (arith, le, high)))

  chain : (x : Expr) (more : List (Op × Expr)) → By (about_expr (expr.Chain x more))
  chain x more = told (expr.Chain x more) (Expr-F.Chain (about_expr x) (map behind_op more)) (expr_chain_is x more) (λ s w l.
      let os = map behind_op more in
      let level = level_of_chain os in
      let place = before_op (suc level) no_struct first (next_is_angle os) in
      let w4 = and_parts (is_chain_level level && may_chain level os && placed (about_expr x) place) (operands_placed level no_struct os) w in
      let w3 = and_parts (is_chain_level level && may_chain level os) (placed (about_expr x) place) w4.0 in
      let least = leb-true 2 level l in
      let t = s.1 in
      operand x (suc level) first (next_is_angle os) t.0 (omega (arith, least)) t.1 w3.1)

  cast : (x : Expr) (types : List Ty) → By (about_expr (expr.Cast x types))
  cast x types = told (expr.Cast x types) (Expr-F.Cast (about_expr x) types) (expr_cast_is x types) (λ s w l.
      let place = before_op 12 no_struct first false in
      let w2 = and_parts (is_there types && placed (about_expr x) place) (types_good (map about_type types)) w in
      operand x 12 first false s.0 (omega arith) s.1 (and_parts (is_there types) (placed (about_expr x) place) w2.0).1)

  postfix : (x : Expr) (steps : List Step) → By (about_expr (expr.Postfix x steps))
  postfix x steps = told (expr.Postfix x steps) (Expr-F.Postfix (about_expr x) (map about_step steps)) (expr_postfix_is x steps) (λ s w l.
      let F = about_expr x in
      let ss = map about_step steps in
      let several = nat_le 2 (methods ss) in
      let part = first && not (first_step is_dotted ss) in
      let w1 = and_parts (is_there ss && are_steps ss && not (F.is_number && first_step is_tuple_index ss)) (placed F (before_op 14 no_struct part false)) w in
      let t = ungrouped several (Part F.form (steps_form several false ss)) s in
      operand x 14 part false t.0 (omega arith) t.1 w1.1)
    where
      ungrouped : (b : Bool) (f : Form) → Spells (group_if b f) depth ts rest → Spells f depth ts rest
      ungrouped true f s = subst (λ us. Spells f depth ts us) s.2 s.1
      ungrouped false f s = s

  by_kind : (x : Expr) → Rising x → By (about_expr x)
  by_kind _ (OfChain x more) = chain x more
  by_kind _ (OfCast x types) = cast x types
  by_kind _ (OfPostfix x steps) = postfix x steps
  by_kind _ (OfRange start inclusive end) =
      told (expr.Range start inclusive end) (Expr-F.Range (option_map about_expr start) inclusive (option_map about_expr end))
      (expr_range_is start inclusive end) (λ s w l. absurd (cc l))
  by_kind _ (OfAssign targets x) =
      told (expr.Assign targets x) (Expr-F.Assign (map target_of targets) (about_expr x)) (expr_assign_is targets x) (λ s w l. absurd (cc l))
  by_kind _ (OfLink x l n) = λ s w h. n

no_range : (depth : ℕ) → NoRange depth
no_range zero x no_struct first ts rest s w l = absurd (no_depth x ts rest s)
no_range (suc depth) x no_struct first ts rest s w l = by_kind depth (no_range depth) no_struct first ts rest x (rising x) s w l

-- ---- at the beginning of the tokens

-- Where `..` or `..=` stands, a range begins.
dots_range : (ts : Tokens) → begins_dots ts ≡ true → expr_lead_at ts ≡ Some ByRange
dots_range ts h = elim (or_cases (is_op (codes "..") ts) (is_op (codes "..=") ts) h) [
  | inl e ↦ dots_lead (codes ".") refl ts e h
  | inr e ↦ dots_lead (codes ".=") refl ts e h
]

lead_no_dots : (ts : Tokens) (l : ExprLead) → expr_lead_at ts ≡ Some l → is_range_lead l ≡ false → begins_dots ts ≡ false
lead_no_dots ts l h n = false_from_ne_true (begins_dots ts) (λ e. other l (sym (dots_range ts e) ∙ h) n)
  where
    other : (l : ExprLead) → Some ByRange ≡ Some l → is_range_lead l ≡ false → ⊥
    other l e f = subst (λ (o : Option ExprLead). led o ≡ false → ⊥) e (λ z. cc) f
      where
        led : Option ExprLead → Bool
        led None = false
        led (Some m) = is_range_lead m

-- What stands above the level of ranges begins with none.
pub link_no_dots : (x : Expr) (place : Place) (depth : ℕ) (ts rest : Tokens) → Spells (about_expr x).form depth ts rest
    → placed (about_expr x) place ≡ true → 2 ≤ place.level → begins_dots ts ≡ false
link_no_dots x place depth ts rest s w le =
    let F = about_expr x in
    let p = and_parts (stands F place) (F.within place.no_struct (begins place.start)) w in
    let high = leb-true place.level F.level (stands_parts F place p.0).level in
    let n = no_range depth x place.no_struct (begins place.start) ts rest s p.1 (le-leb 2 F.level (omega (arith, le, high))) in
    lead_no_dots ts F.lead (placed_begins x place depth ts rest s w).lead n
