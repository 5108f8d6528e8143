-- No expression begins with a `->`: after a `-` an operand stands.
use Rattle.std.proofs.Common.{◌≡◌, ℕ, zero, suc, Bool, true, false, not, ◌&&◌, nat_le, List, [], ◌∷◌, map, codes, Option, option_map, Some, None, if◌then◌else◌, refl, sym, ap, subst, ◌∙◌}
use Rattle.std.specs.Prelude.{◌==◌}
use Rattle.std.proofs.lemmas.Bool.{and_parts, false_from_ne_true}
use Rattle.lay_piece.specs.declared.kind.Kind.TheVariants.{Punct}
use Rattle.lay_token.specs.Operators.{is_op}
use Rattle.lay_form.specs.Form.{Blank, Operator, Form, Done, Piece, Part}
use Rattle.lay_form.specs.Notation.{N}
use Rattle.lay_form.specs.Spelled.{IsOne, AreBits, Spells}
use Rattle.lay_node.specs.Ahead.{Tokens, first, tail, is_mark}
use Rattle.lay_node.specs.Follow.{begins_dots}
use Rattle.lay_node.specs.nodes.Patterns.{dots}
use Rattle.lay_node.specs.nodes.Types.{about_type, is_there}
use Rattle.lay_node.specs.declared.types.Ty.{Ty}
use Rattle.lay_node.proofs.Fronts.{mark_one, one_front, other_op}
use Rattle.lay_node.proofs.reader.TypesFronts.{no_begins, no_other_op, op_behind, op_first}
use Rattle.lay_code.specs.Operands.{ExprLead, ByPrefix, expr_lead_at, is_of}
use Rattle.lay_code.specs.Operators.{op_level, op_text}
use Rattle.lay_code.specs.nodes.Code.{about_arm, about_block, about_branch, about_condition, about_expr, about_field_expr, about_step}
use Rattle.lay_code.specs.nodes.Exprs.{ExprFacts, ExprLayer, are_steps, end_form, end_placed, expr_facts, first_step, group_if, inside, is_chain_level, is_dotted, is_prefix_lead, is_tuple_index, lead_of, level_of_chain, may_chain, methods, next_is_angle, operands_form, operands_placed, placed, prefix_bits, prefixes_form, steps_form, targets_form, targets_placed, types_form, types_good, within_of}
use Rattle.lay_code.specs.nodes.Places.{before_op, begins, plain}
use Rattle.lay_code.specs.declared.blocks.Stmt.TheOpen.{Expr-F}
use Rattle.lay_code.specs.declared.exprs.Expr.{Expr}
use Rattle.lay_code.specs.declared.exprs.Expr.TheVariants as expr
use Rattle.lay_code.specs.declared.exprs.Place.{Place}
use Rattle.lay_code.specs.declared.exprs.Step.{Step}
use Rattle.lay_code.specs.declared.operators.Op.{Op}
use Rattle.lay_code.specs.declared.operators.Prefix.{Prefix}
use Rattle.lay_code.specs.declared.operators.Prefix.TheVariants as before
use Rattle.lay_code.proofs.nodes.ExprsLaws.{ExprView, IsLit, IsPath, IsUnderscore, IsCall, IsParen, IsContinue, IsTuple, IsArray, IsRepeat, IsStruct, IsChain, IsCast, IsUnary, IsRange, IsAssign, IsPostfix, IsReturn, IsBreak, IsBlock, IsUnsafe, IsConstBlock, IsAsync, IsIf, IsMatch, IsLoop, IsWhile, IsFor, IsClosure, IsTypedClosure, expr_view, behind_op, before_op as target_of, expr_lit_is, expr_path_is, expr_underscore_is, expr_call_is, expr_paren_is, expr_continue_is, expr_tuple_is, expr_array_is, expr_repeat_is, expr_struct_is, expr_chain_is, expr_cast_is, expr_unary_is, expr_range_is, expr_assign_is, expr_postfix_is, expr_return_is, expr_break_is, expr_block_is, expr_unsafe_is, expr_const_block_is, expr_async_is, expr_if_is, expr_match_is, expr_loop_is, expr_while_is, expr_for_is, expr_closure_is, expr_typed_closure_is}
use Rattle.lay_code.proofs.reader.ExprFronts.{expr_begins, no_depth, placed_begins}
use Rattle.lay_code.proofs.reader.ExprLeads.{one_lead}
use Rattle.lay_code.proofs.reader.ExprSoundLevel.{within_held}

-- ---- what begins with another lead

abbrev led_by_prefix : Option ExprLead → Bool
led_by_prefix None = false
led_by_prefix (Some l) = is_prefix_lead l

-- What begins with a `->` begins with an operator before an operand, or is no expression.
arrow_lead : (ts : Tokens) (l : ExprLead) → is_op (codes "->") ts ≡ true → expr_lead_at ts ≡ Some l → is_prefix_lead l ≡ true
unfolding expr_lead_at
arrow_lead ts l h e =
    let f = op_first 45 (codes ">") ts h in
    let us : Tokens = record f.0 { kind = Punct; text = 45 ∷ f.2 } ∷ f.1 in
    let n : is_op (codes "::") us ≡ false = subst (λ vs. is_op (codes "::") vs ≡ false) f.3 (other_op (codes "->") (codes "::") refl ts h) in
    let a : is_op (codes "..") us ≡ false = subst (λ vs. is_op (codes "..") vs ≡ false) f.3 (other_op (codes "->") (codes "..") refl ts h) in
    let b : is_op (codes "..=") us ≡ false = subst (λ vs. is_op (codes "..=") vs ≡ false) f.3 (other_op (codes "->") (codes "..=") refl ts h) in
    let words : List (List ℕ) = codes "-" ∷ codes "*" ∷ codes "!" ∷ codes "&" ∷ [] in
    let made : expr_lead_at us ≡ (let found : Option ExprLead = if is_of words (45 ∷ f.2) then Some ByPrefix else None in found) = rw (n, a, b) refl in
    let here : expr_lead_at us ≡ Some l = subst (λ vs. expr_lead_at vs ≡ Some l) f.3 e in
    by (is_of words (45 ∷ f.2)) (sym made ∙ here)
  where
    by : (b : Bool) → (let found : Option ExprLead = if b then Some ByPrefix else None in found) ≡ Some l → is_prefix_lead l ≡ true
    by true k = sym (ap led_by_prefix k)
    by false k = absurd (cc)

lead_no_arrow : (ts : Tokens) (l : ExprLead) → expr_lead_at ts ≡ Some l → is_prefix_lead l ≡ false → is_op (codes "->") ts ≡ false
lead_no_arrow ts l e n = false_from_ne_true (is_op (codes "->") ts) (λ h. let k = arrow_lead ts l h e in absurd (cc))

-- ---- after a `-`

-- A `>` begins no expression.
greater_lead : (ts rest : Tokens) → IsOne Punct (codes ">") ts rest → expr_lead_at ts ≡ None
greater_lead ts rest o =
    let n = no_other_op 58 (codes ":") 62 ts rest refl o in
    let a = no_other_op 46 (codes ".") 62 ts rest refl o in
    let b = no_other_op 46 (codes ".=") 62 ts rest refl o in
    let d : begins_dots ts ≡ false = rw (a, b) refl in
    one_lead Punct (codes ">") ts rest o ∙ (rw (n, d) refl)

lead_no_greater : (ts : Tokens) (l : ExprLead) → expr_lead_at ts ≡ Some l → first (is_mark (codes ">")) ts ≡ false
lead_no_greater ts l h = false_from_ne_true (first (is_mark (codes ">")) ts) (λ e.
    let k : None ≡ Some l = sym (greater_lead ts (tail ts) (mark_one (codes ">") ts e)) ∙ h in absurd (cc))

-- Nor does a further operator.
prefix_no_greater : (p : Prefix) (ts rest : Tokens) → AreBits (prefix_bits p) ts rest → first (is_mark (codes ">")) ts ≡ false
prefix_no_greater before.Neg ts rest b = rw (one_front Punct (codes "-") ts b.0 b.1).1 refl
prefix_no_greater before.Deref ts rest b = rw (one_front Punct (codes "*") ts b.0 b.1).1 refl
prefix_no_greater before.Bang ts rest b = rw (one_front Punct (codes "!") ts b.0 b.1).1 refl
prefix_no_greater before.Amp ts rest b = rw (one_front Punct (codes "&") ts b.0 b.1).1 refl
prefix_no_greater before.AmpMut ts rest b = rw (one_front Punct (codes "&") ts b.0 b.1).1 refl
prefix_no_greater before.RawConst ts rest b = rw (one_front Punct (codes "&") ts b.0 b.1).1 refl
prefix_no_greater before.RawMut ts rest b = rw (one_front Punct (codes "&") ts b.0 b.1).1 refl

minus_no_arrow : (ts rest : Tokens) → IsOne Punct (codes "-") ts rest → first (is_mark (codes ">")) rest ≡ false → is_op (codes "->") ts ≡ false
minus_no_arrow ts rest o n = false_from_ne_true (is_op (codes "->") ts) (λ h.
    let b = op_behind 45 62 [] ts rest o h in let k = no_begins 62 [] rest n in absurd (cc))

prefix_no_arrow : (p : Prefix) (ts rest : Tokens) → AreBits (prefix_bits p) ts rest → first (is_mark (codes ">")) rest ≡ false → is_op (codes "->") ts ≡ false
prefix_no_arrow before.Neg ts rest b n = minus_no_arrow ts rest (subst (λ us. IsOne Punct (codes "-") ts us) b.2 b.1) n
prefix_no_arrow before.Deref ts rest b n = no_other_op 45 (codes ">") 42 ts b.0 refl b.1
prefix_no_arrow before.Bang ts rest b n = no_other_op 45 (codes ">") 33 ts b.0 refl b.1
prefix_no_arrow before.Amp ts rest b n = no_other_op 45 (codes ">") 38 ts b.0 refl b.1
prefix_no_arrow before.AmpMut ts rest b n = no_other_op 45 (codes ">") 38 ts b.0 refl b.1
prefix_no_arrow before.RawConst ts rest b n = no_other_op 45 (codes ">") 38 ts b.0 refl b.1
prefix_no_arrow before.RawMut ts rest b n = no_other_op 45 (codes ">") 38 ts b.0 refl b.1

led_as : (x : Expr) (F : ExprLayer) → about_expr x ≡ expr_facts F → is_prefix_lead (lead_of F) ≡ false → is_prefix_lead (about_expr x).lead ≡ false
led_as x F e n = subst (λ (G : ExprFacts). is_prefix_lead G.lead ≡ false) (sym e) n

-- ---- all kinds

abbrev AllClear : ℕ → Type 0
AllClear depth = (x : Expr) (no_struct first_flag : Bool) (ts rest : Tokens) → Spells (about_expr x).form depth ts rest
    → (about_expr x).within no_struct first_flag ≡ true → is_op (codes "->") ts ≡ false

module _ (depth : ℕ) (ih : AllClear depth) (no_struct first_flag : Bool) (ts rest : Tokens) where
  -- an expression with these facts
  abbrev Clear : ExprFacts → Type 0
  Clear F = Spells F.form (suc depth) ts rest → F.within no_struct first_flag ≡ true → is_op (codes "->") ts ≡ false

  told : (x : Expr) (F : ExprLayer) → about_expr x ≡ expr_facts F
      → (Spells (inside F) depth ts rest → within_of F no_struct first_flag ≡ true → is_op (codes "->") ts ≡ false) → Clear (about_expr x)
  told x F e f = subst Clear (sym e) (λ s w. f (subst (λ us. Spells (inside F) depth ts us) s.2 s.1) w)

  -- one that begins with another
  led : (x : Expr) (place : Place) (f : Form) → placed (about_expr x) place ≡ true → Spells (Part (about_expr x).form f) depth ts rest
      → is_op (codes "->") ts ≡ false
  led x place f w s = ih x place.no_struct (begins place.start) ts s.0 s.1 (within_held (about_expr x) place w)

  chain_clear : (x : Expr) (more : List (Op × Expr)) → Clear (about_expr (expr.Chain x more))
  chain_clear x more = told (expr.Chain x more) (Expr-F.Chain (about_expr x) (map behind_op more)) (expr_chain_is x more) (λ s w.
      let os = map behind_op more in
      let level = level_of_chain os in
      let place = before_op (suc level) no_struct first_flag (next_is_angle os) in
      let w4 = and_parts (is_chain_level level && may_chain level os && placed (about_expr x) place) (operands_placed level no_struct os) w in
      let w3 = and_parts (is_chain_level level && may_chain level os) (placed (about_expr x) place) w4.0 in
      led x place (operands_form os) w3.1 (subst (λ us. Spells (Part (about_expr x).form (operands_form os)) depth ts us) s.2 s.1))

  cast_clear : (x : Expr) (types : List Ty) → Clear (about_expr (expr.Cast x types))
  cast_clear x types = told (expr.Cast x types) (Expr-F.Cast (about_expr x) types) (expr_cast_is x types) (λ s w.
      let place = before_op 12 no_struct first_flag false in
      let w2 = and_parts (is_there types && placed (about_expr x) place) (types_good (map about_type types)) w in
      led x place (types_form (map about_type types)) (and_parts (is_there types) (placed (about_expr x) place) w2.0).1 s)

  postfix_clear : (x : Expr) (steps : List Step) → Clear (about_expr (expr.Postfix x steps))
  postfix_clear x steps = told (expr.Postfix x steps) (Expr-F.Postfix (about_expr x) (map about_step steps)) (expr_postfix_is x steps) (λ s w.
      let F = about_expr x in
      let ss = map about_step steps in
      let several = nat_le 2 (methods ss) in
      let place = before_op 14 no_struct (first_flag && not (first_step is_dotted ss)) false in
      let w1 = and_parts (is_there ss && are_steps ss && not (F.is_number && first_step is_tuple_index ss)) (placed F place) w in
      let form : Form = Part F.form (steps_form several false ss) in
      led x place (steps_form several false ss) w1.1 (ungrouped several form s))
    where
      ungrouped : (b : Bool) (f : Form) → Spells (group_if b f) depth ts rest → Spells f depth ts rest
      ungrouped true f s = subst (λ us. Spells f depth ts us) s.2 s.1
      ungrouped false f s = s

  -- A range with a start begins with it.
  range_clear : (x : Expr) (inclusive : Bool) (end : Option Expr) → Clear (about_expr (expr.Range (Some x) inclusive end))
  range_clear x inclusive end =
      told (expr.Range (Some x) inclusive end) (Expr-F.Range (Some (about_expr x)) inclusive (option_map about_expr end))
      (expr_range_is (Some x) inclusive end) (λ s w.
      let place = before_op 2 no_struct first_flag false in
      led x place (Piece (dots inclusive) (end_form (option_map about_expr end) Done))
      (and_parts (placed (about_expr x) place) (end_placed (option_map about_expr end) inclusive no_struct) w).0 s)

  assign_clear : (targets : List (Expr × Op)) (x : Expr) → Clear (about_expr (expr.Assign targets x))
  assign_clear [] x = told (expr.Assign [] x) (Expr-F.Assign [] (about_expr x)) (expr_assign_is [] x) (λ s w. absurd (cc))
  assign_clear (y ∷ ys) x = told (expr.Assign (y ∷ ys) x) (Expr-F.Assign (map target_of (y ∷ ys)) (about_expr x)) (expr_assign_is (y ∷ ys) x) (λ s w.
      let place = before_op 1 no_struct first_flag false in
      let more = map target_of ys in
      let t = (and_parts (targets_placed (map target_of (y ∷ ys)) no_struct first_flag) (placed (about_expr x) (plain 1 no_struct)) w).0 in
      let p = (and_parts ((op_level y.1 == 0) && placed (about_expr y.0) place) (targets_placed more no_struct false) t).0 in
      let behind : Form = Piece (Blank ∷ [])
      (Piece (Operator (op_text y.1) ∷ []) (Piece (Blank ∷ []) (N (targets_form more (Part (about_expr x).form Done))))) in
      led y.0 place behind (and_parts (op_level y.1 == 0) (placed (about_expr y.0) place) p).1 s)

  unary_clear : (ps : List Prefix) (x : Expr) → Clear (about_expr (expr.Unary ps x))
  unary_clear [] x = told (expr.Unary [] x) (Expr-F.Unary [] (about_expr x)) (expr_unary_is [] x) (λ s w. absurd (cc))
  unary_clear (p ∷ ps) x = told (expr.Unary (p ∷ ps) x) (Expr-F.Unary (p ∷ ps) (about_expr x)) (expr_unary_is (p ∷ ps) x) (λ s w.
      let w2 = and_parts (is_there (p ∷ ps) && placed (about_expr x) (plain 12 no_struct)) (not (is_prefix_lead (about_expr x).lead)) w in
      let w1 = and_parts (is_there (p ∷ ps)) (placed (about_expr x) (plain 12 no_struct)) w2.0 in
      prefix_no_arrow p ts s.0 s.1 (behind ps s.0 s.2 w1.1))
    where
      behind : (ps : List Prefix) (us : Tokens) → Spells (prefixes_form ps (Part (about_expr x).form Done)) depth us rest
          → placed (about_expr x) (plain 12 no_struct) ≡ true → first (is_mark (codes ">")) us ≡ false
      behind [] us t w = lead_no_greater us (about_expr x).lead (placed_begins x (plain 12 no_struct) depth us t.0 t.1 w).lead
      behind (q ∷ qs) us t w = prefix_no_greater q us t.0 t.1

  -- what begins with a lead of another kind
  other : (x : Expr) → is_prefix_lead (about_expr x).lead ≡ false → Clear (about_expr x)
  other x n s w = lead_no_arrow ts (about_expr x).lead (expr_begins x no_struct first_flag (suc depth) ts rest s w).lead n

  -- kind by kind
  clear : (x : Expr) → ExprView x → Clear (about_expr x)
  clear _ (IsChain x more) = chain_clear x more
  clear _ (IsCast x types) = cast_clear x types
  clear _ (IsPostfix x steps) = postfix_clear x steps
  clear _ (IsAssign targets x) = assign_clear targets x
  clear _ (IsUnary ps x) = unary_clear ps x
  clear _ (IsRange (Some x) inclusive end) = range_clear x inclusive end
  clear _ (IsRange None inclusive end) = other (expr.Range None inclusive end) (led_as (expr.Range None inclusive end) (Expr-F.Range None inclusive (option_map about_expr end)) (expr_range_is None inclusive end) refl)
  clear _ (IsLit l) = other (expr.Lit l) (led_as (expr.Lit l) (Expr-F.Lit l) (expr_lit_is l) refl)
  clear _ (IsPath p) = other (expr.Path p) (led_as (expr.Path p) (Expr-F.Path p) (expr_path_is p) refl)
  clear _ IsUnderscore = other expr.Underscore (led_as expr.Underscore Expr-F.Underscore expr_underscore_is refl)
  clear _ (IsCall c) = other (expr.Call c) (led_as (expr.Call c) (Expr-F.Expr::Call c) (expr_call_is c) refl)
  clear _ (IsParen x) = other (expr.Paren x) (led_as (expr.Paren x) (Expr-F.Paren (about_expr x)) (expr_paren_is x) refl)
  clear _ (IsContinue l) = other (expr.Continue l) (led_as (expr.Continue l) (Expr-F.Continue l) (expr_continue_is l) refl)
  clear _ (IsTuple xs) = other (expr.Tuple xs) (led_as (expr.Tuple xs) (Expr-F.Tuple (map about_expr xs)) (expr_tuple_is xs) refl)
  clear _ (IsArray xs) = other (expr.Array xs) (led_as (expr.Array xs) (Expr-F.Array (map about_expr xs)) (expr_array_is xs) refl)
  clear _ (IsRepeat x us) = other (expr.Repeat x us) (led_as (expr.Repeat x us) (Expr-F.Repeat (about_expr x) us) (expr_repeat_is x us) refl)
  clear _ (IsStruct p fs b) = other (expr.Struct p fs b) (led_as (expr.Struct p fs b) (Expr-F.Expr::Struct p (map about_field_expr fs) (option_map (option_map about_expr) b)) (expr_struct_is p fs b) refl)
  clear _ (IsReturn x) = other (expr.Return x) (led_as (expr.Return x) (Expr-F.Return (option_map about_expr x)) (expr_return_is x) refl)
  clear _ (IsBreak l x) = other (expr.Break l x) (led_as (expr.Break l x) (Expr-F.Break l (option_map about_expr x)) (expr_break_is l x) refl)
  clear _ (IsUnsafe b) = other (expr.Unsafe b) (led_as (expr.Unsafe b) (Expr-F.Unsafe (about_block b)) (expr_unsafe_is b) refl)
  clear _ (IsConstBlock b) = other (expr.ConstBlock b) (led_as (expr.ConstBlock b) (Expr-F.ConstBlock (about_block b)) (expr_const_block_is b) refl)
  clear _ (IsAsync m b) = other (expr.Async m b) (led_as (expr.Async m b) (Expr-F.Async m (about_block b)) (expr_async_is m b) refl)
  clear _ (IsIf bs o) = other (expr.If bs o) (led_as (expr.If bs o) (Expr-F.If (map about_branch bs) (option_map about_block o)) (expr_if_is bs o) refl)
  clear _ (IsMatch x attrs arms) = other (expr.Match x attrs arms) (led_as (expr.Match x attrs arms) (Expr-F.Match (about_expr x) attrs (map about_arm arms)) (expr_match_is x attrs arms) refl)
  clear _ (IsClosure a m ps x) = other (expr.Closure a m ps x) (led_as (expr.Closure a m ps x) (Expr-F.Closure a m ps (about_expr x)) (expr_closure_is a m ps x) refl)
  clear _ (IsTypedClosure a m ps y b) = other (expr.TypedClosure a m ps y b) (led_as (expr.TypedClosure a m ps y b) (Expr-F.TypedClosure a m ps y (about_block b)) (expr_typed_closure_is a m ps y b) refl)
  clear _ (IsBlock None b) = other (expr.Block None b) (led_as (expr.Block None b) (Expr-F.Block None (about_block b)) (expr_block_is None b) refl)
  clear _ (IsBlock (Some l) b) = other (expr.Block (Some l) b) (led_as (expr.Block (Some l) b) (Expr-F.Block (Some l) (about_block b)) (expr_block_is (Some l) b) refl)
  clear _ (IsLoop None b) = other (expr.Loop None b) (led_as (expr.Loop None b) (Expr-F.Loop None (about_block b)) (expr_loop_is None b) refl)
  clear _ (IsLoop (Some l) b) = other (expr.Loop (Some l) b) (led_as (expr.Loop (Some l) b) (Expr-F.Loop (Some l) (about_block b)) (expr_loop_is (Some l) b) refl)
  clear _ (IsWhile None c b) = other (expr.While None c b) (led_as (expr.While None c b) (Expr-F.While None (about_condition c) (about_block b)) (expr_while_is None c b) refl)
  clear _ (IsWhile (Some l) c b) = other (expr.While (Some l) c b) (led_as (expr.While (Some l) c b) (Expr-F.While (Some l) (about_condition c) (about_block b)) (expr_while_is (Some l) c b) refl)
  clear _ (IsFor None p x b) = other (expr.For None p x b) (led_as (expr.For None p x b) (Expr-F.For None p (about_expr x) (about_block b)) (expr_for_is None p x b) refl)
  clear _ (IsFor (Some l) p x b) = other (expr.For (Some l) p x b) (led_as (expr.For (Some l) p x b) (Expr-F.For (Some l) p (about_expr x) (about_block b)) (expr_for_is (Some l) p x b) refl)

all_clear : (depth : ℕ) → AllClear depth
all_clear zero x no_struct first_flag ts rest s w = absurd (no_depth x ts rest s)
all_clear (suc depth) x no_struct first_flag ts rest s w = clear depth (all_clear depth) no_struct first_flag ts rest x (expr_view x) s w

pub no_arrow : (x : Expr) (place : Place) (depth : ℕ) (ts rest : Tokens) → Spells (about_expr x).form depth ts rest → placed (about_expr x) place ≡ true
    → is_op (codes "->") ts ≡ false
no_arrow x place depth ts rest s w = all_clear depth x place.no_struct (begins place.start) ts rest s (within_held (about_expr x) place w)
