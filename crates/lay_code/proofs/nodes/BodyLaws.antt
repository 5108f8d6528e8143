-- The body of a closure stands after the parameters, at a place where struct literals may stand or not, and within braces that
-- aren't in the tree as a statement. Of what follows the parameters `starts` and `tight` say whether it may be a statement;
-- of what may be a statement `structless` says whether it may stand after the parameters where no struct literal may.
--
-- What stands within delimiters doesn't see these places. So each layer keeps the law whose operands outside delimiters do, and
-- each tree has it.
use Rattle.std.proofs.Common.{◌≡◌, ℕ, suc, ◌==◌, Bool, true, false, not, ◌&&◌, ◌||◌, true≢false, List, [], ◌∷◌, map, Option, Some, None, refl, sym, ap, ap₂, subst, ◌∙◌, arith}
use Rattle.std.specs.Prelude.{nat_le}
use Rattle.std.specs.List.{list_all}
use Rattle.std.proofs.lemmas.Bool.{and_parts, and_from, and_right, le-leb}
use Rattle.lay_node.specs.nodes.Facts.{Facts}
use Rattle.lay_node.specs.nodes.Types.{about_type, is_there}
use Rattle.lay_node.specs.declared.token.Lifetime.{Lifetime}
use Rattle.lay_node.specs.declared.types.Path.{Path}
use Rattle.lay_node.specs.declared.types.Ty.{Ty}
use Rattle.lay_code.specs.Operators.{op_level, is_angle_op}
use Rattle.lay_code.specs.nodes.Bodies.{BodyKind, MacroBody, BlockBody, OtherBody, is_lone_body, sheds}
use Rattle.lay_code.specs.nodes.Code.{about_expr, about_field_expr, about_step}
use Rattle.lay_code.specs.nodes.Exprs.{ExprFacts, StepFacts, are_steps, begins_free, begins_part, break_placed, end_placed, expr_facts, first_step, is_brace_lead, is_chain_level, is_closure_param, is_dotted, is_open, is_prefix_lead, is_tuple_index, is_typed, level_of_chain, may_chain, next_is_angle, operand_place, operand_placed, operands_placed, placed, stands, start_placed, structless_end, structless_operand, tail_of_end, tail_of_jump, tail_of_operands, targets_placed, tight_operand, tight_operands, types_good}
use Rattle.lay_code.specs.nodes.Layers.{ExprNode}
use Rattle.lay_code.specs.nodes.Places.{before_op, plain, statement}
use Rattle.lay_code.specs.declared.blocks.Arm.{Arm}
use Rattle.lay_code.specs.declared.blocks.Block.{Block}
use Rattle.lay_code.specs.declared.blocks.Branch.{Branch}
use Rattle.lay_code.specs.declared.blocks.Stmt.{Stmt}
use Rattle.lay_code.specs.declared.blocks.Stmt.TheFolds as fold
use Rattle.lay_code.specs.declared.blocks.Stmt.TheOpen.{Expr-F}
use Rattle.lay_code.specs.declared.blocks.Stmt.TheViews as views
use Rattle.lay_code.specs.declared.conditions.Condition.{Condition}
use Rattle.lay_code.specs.declared.conditions.Link.{Link}
use Rattle.lay_code.specs.declared.exprs.ClosureParam.{ClosureParam}
use Rattle.lay_code.specs.declared.exprs.Expr.{Expr}
use Rattle.lay_code.specs.declared.exprs.FieldExpr.{FieldExpr}
use Rattle.lay_code.specs.declared.exprs.Step.{Step}
use Rattle.lay_code.specs.declared.item.Item.{Item}
use Rattle.lay_code.specs.declared.item.ItemKind.{ItemKind}
use Rattle.lay_code.specs.declared.operators.Op.{Op}
use Rattle.lay_code.specs.declared.operators.Prefix.{Prefix}
use Rattle.lay_code.proofs.nodes.ExprsLaws as laws
use Rattle.lay_code.proofs.nodes.Layers.{expr_is, expr_told}

-- ---- tests of several parts

and_yes : (a b : Bool) → b ≡ true → a ≡ (a && b)
and_yes true b e = sym e
and_yes false b e = refl

and_comm : (a b : Bool) → (a && b) ≡ (b && a)
and_comm true b = and_yes b true refl
and_comm false b = sym (and_right b false refl)

and_assoc : (a b c : Bool) → (a && (b && c)) ≡ (a && b && c)
and_assoc true b c = refl
and_assoc false b c = refl

-- A part that holds changes nothing, whether it stands first or last.
with_first : (a b c : Bool) → a ≡ true → b ≡ c → b ≡ (a && c)
with_first a b c h e = e ∙ ap (λ d. d && c) (sym h)

with_last : (a b c : Bool) → a ≡ true → b ≡ c → b ≡ (c && a)
with_last a b c h e = e ∙ and_yes c a h

-- a part of a part goes last
and_out : (a b c d : Bool) → (a && (b && c) && d) ≡ (a && b && d && c)
and_out false b c d = refl
and_out true false c d = refl
and_out true true c d = and_comm c d

-- ---- the law of facts

-- How what is within an expression hangs on its place: on whether it begins a statement there, and on whether a struct literal
-- may stand there.
pub record Lawful (x : ExprFacts) : Type 0 where
  -- What ends in no closure is tight.
  pub held : x.tail.closure ≡ false → x.tight ≡ true
  -- Where it begins a statement, what stands first in it has to be allowed to, and no more than that is asked.
  pub front : (no_struct : Bool) → x.within no_struct true ≡ (x.within no_struct false && x.starts)
  -- What may stand where a struct literal may, may stand where none may if it holds none outside delimiters.
  pub literal : x.within false false ≡ true → x.structless ≡ (not x.is_struct && x.within true false)
  -- What may stand at one of the two, may stand where a struct literal may if it is tight.
  pub closed : (no_struct : Bool) → x.within no_struct false ≡ true → x.tight ≡ x.within false false

abbrev MayBeLawful : Option ExprFacts → Type 0
MayBeLawful None = Unit {0}
MayBeLawful (Some x) = Lawful x

-- ---- an operand at its place

-- `r` are the rules of a place that hang on neither flag.
front_by : (r b s w t : Bool) → (r && not b && s && (w && t)) ≡ (r && true && s && w && (not b && t))
front_by false b s w t = refl
front_by true true s w t = sym (and_right (s && w) false refl)
front_by true false s w t = and_assoc s w t

literal_by : (r s free bound t : Bool) → (free ≡ true → t ≡ (not s && bound)) → (r && true && free) ≡ true → t ≡ (r && not s && bound)
literal_by true s true bound t f h = f refl
literal_by true s false bound t f h = absurd (true≢false (sym h))
literal_by false s free bound t f h = absurd (true≢false (sym h))

closed_by : (r s here free t : Bool) → (here ≡ true → t ≡ free) → (r && s && here) ≡ true → t ≡ (r && true && free)
closed_by true true true free t f h = f refl
closed_by true true false free t f h = absurd (true≢false (sym h))
closed_by true false here free t f h = absurd (true≢false (sym h))
closed_by false s here free t f h = absurd (true≢false (sym h))

last_shut : (a b : Bool) → not (a || b) ≡ true → b ≡ false
last_shut true b h = absurd (true≢false (sym h))
last_shut false true h = absurd (true≢false (sym h))
last_shut false false h = refl

-- An operand before an operator ends in no closure.
no_closure : (x : ExprFacts) (level : ℕ) (no_struct angle : Bool) → placed x (before_op level no_struct false angle) ≡ true
    → x.tail.closure ≡ false
no_closure x level no_struct angle h =
    let l = nat_le level x.level in
    let o = not (is_open x.tail) in
    let t = not (angle && is_typed x.tail) in
    let s = not (no_struct && x.is_struct) in
    let a = and_parts (l && o && t && true && s) (x.within no_struct false) h in
    let b = and_parts (l && o && t && true) s a.0 in
    let c = and_parts (l && o && t) true b.0 in
    let d = and_parts (l && o) t c.0 in
    let e = and_parts l o d.0 in
    last_shut (x.tail.takes_all || x.tail.bare) x.tail.closure e.1

module _ (x : ExprFacts) (is : Lawful x) where
  -- before an operator
  before_front : (level : ℕ) (angle no_struct : Bool)
      → placed x (before_op level no_struct true angle) ≡ (placed x (before_op level no_struct false angle) && begins_part x)
  before_front level angle no_struct =
      let r = nat_le level x.level && not (is_open x.tail) && not (angle && is_typed x.tail) in
      let s = not (no_struct && x.is_struct) in
      ap (λ w. r && not x.block_like && s && w) (is.front no_struct) ∙ front_by r x.block_like s (x.within no_struct false) x.starts

  before_literal : (level : ℕ) (angle : Bool) → placed x (before_op level false false angle) ≡ true
      → x.structless ≡ placed x (before_op level true false angle)
  before_literal level angle h =
      literal_by (nat_le level x.level && not (is_open x.tail) && not (angle && is_typed x.tail) && true) x.is_struct
      (x.within false false) (x.within true false) x.structless is.literal h

  before_closed : (level : ℕ) (angle no_struct : Bool) → placed x (before_op level no_struct false angle) ≡ true
      → placed x (before_op level false false angle) ≡ true
  before_closed level angle no_struct h =
      sym (closed_by (nat_le level x.level && not (is_open x.tail) && not (angle && is_typed x.tail) && true) (not (no_struct && x.is_struct))
      (x.within no_struct false) (x.within false false) x.tight (is.closed no_struct) h)
      ∙ is.held (no_closure x level no_struct angle h)

  -- at the end of a node
  plain_literal : (level : ℕ) → placed x (plain level false) ≡ true → x.structless ≡ placed x (plain level true)
  plain_literal level h =
      literal_by (nat_le level x.level && true && true && true) x.is_struct (x.within false false) (x.within true false)
      x.structless is.literal h

  plain_closed : (level : ℕ) (no_struct : Bool) → placed x (plain level no_struct) ≡ true → x.tight ≡ placed x (plain level false)
  plain_closed level no_struct h =
      closed_by (nat_le level x.level && true && true && true) (not (no_struct && x.is_struct)) (x.within no_struct false)
      (x.within false false) x.tight (is.closed no_struct) h

-- ---- nodes without operands outside delimiters

-- What is within such a node stands in the same places wherever the node does.
still : (x : ExprFacts) → x.tight ≡ true → x.starts ≡ true → x.structless ≡ true → x.is_struct ≡ false
    → ((no_struct first : Bool) → x.within no_struct first ≡ x.within false false) → Lawful x
still x tight starts structless literal within = record {
  held = λ h. tight;
  front = λ no_struct. within no_struct true ∙ sym (within no_struct false) ∙ and_yes (x.within no_struct false) x.starts starts;
  literal = λ h. structless ∙ sym (and_from (not x.is_struct) (x.within true false) (ap not literal) (within true false ∙ h));
  closed = λ no_struct h. tight ∙ sym (sym (within no_struct false) ∙ h);
}

struct_lawful : (path : Path) (fields : List Facts) (base : Option (Option ExprFacts)) → Lawful (expr_facts (Expr-F.Expr::Struct path fields base))
struct_lawful path fields base = record {
  held = λ h. refl;
  front = λ no_struct. and_yes ((expr_facts (Expr-F.Expr::Struct path fields base)).within no_struct false) true refl;
  literal = λ h. refl;
  closed = λ no_struct h. sym h;
}

-- ---- operands of operators

abbrev Operands : List (Op × ExprFacts) → Type 0
Operands [] = Unit {0}
Operands (y ∷ more) = Lawful y.1 × Operands more

operand_literal : (level : ℕ) (x : ExprFacts) (more : List (Op × ExprFacts)) → Lawful x
    → placed x (operand_place level false more) ≡ true → x.structless ≡ placed x (operand_place level true more)
operand_literal level x [] is h = plain_literal x is (suc level) h
operand_literal level x (z ∷ more) is h = before_literal x is (suc level) (is_angle_op z.0) h

operands_literal : (level : ℕ) (ys : List (Op × ExprFacts)) → Operands ys → operands_placed level false ys ≡ true
    → list_all (λ (y : Op × ExprFacts). y.1.structless) ys ≡ operands_placed level true ys
operands_literal level [] are h = refl
operands_literal level (y ∷ more) are h =
    let e = op_level y.0 == level in
    let p = placed y.1 (operand_place level true more) in
    let a = and_parts (e && placed y.1 (operand_place level false more)) (operands_placed level false more) h in
    let b = and_parts e (placed y.1 (operand_place level false more)) a.0 in
    ap₂ (λ c d. c && d) (with_first e y.1.structless p b.0 (operand_literal level y.1 more are.0 b.1)) (operands_literal level more are.1 a.1)

operands_closed : (level : ℕ) (no_struct : Bool) (ys : List (Op × ExprFacts)) → Operands ys → operands_placed level no_struct ys ≡ true
    → tight_operands ys ≡ operands_placed level false ys
operands_closed level no_struct [] are h = refl
operands_closed level no_struct (y ∷ []) are h =
    let e = op_level y.0 == level in
    let p = placed y.1 (plain (suc level) no_struct) in
    let b = and_parts e p (and_parts (e && p) true h).0 in
    with_last true y.1.tight (e && placed y.1 (plain (suc level) false)) refl
    (with_first e y.1.tight (placed y.1 (plain (suc level) false)) b.0 (plain_closed y.1 are.0 (suc level) no_struct b.1))
operands_closed level no_struct (y ∷ z ∷ more) are h =
    let e = op_level y.0 == level in
    let angle = is_angle_op z.0 in
    let p = placed y.1 (before_op (suc level) no_struct false angle) in
    let free = placed y.1 (before_op (suc level) false false angle) in
    let a = and_parts (e && p) (operands_placed level no_struct (z ∷ more)) h in
    let b = and_parts e p a.0 in
    with_first (e && free) (tight_operands (z ∷ more)) (operands_placed level false (z ∷ more))
    (and_from e free b.0 (before_closed y.1 are.0 (suc level) angle no_struct b.1))
    (operands_closed level no_struct (z ∷ more) are.1 a.1)

operands_held : (ys : List (Op × ExprFacts)) → Operands ys → (tail_of_operands ys).closure ≡ false → tight_operands ys ≡ true
operands_held [] are h = refl
operands_held (y ∷ []) are h = are.0.held h
operands_held (y ∷ z ∷ more) are h = operands_held (z ∷ more) are.1 h

chain_lawful : (x : ExprFacts) (ys : List (Op × ExprFacts)) → Lawful x → Operands ys → Lawful (expr_facts (Expr-F.Chain x ys))
chain_lawful x ys is are =
    let l = level_of_chain ys in
    let angle = next_is_angle ys in
    let k = is_chain_level l && may_chain l ys in
    let p = λ (no_struct first : Bool). placed x (before_op (suc l) no_struct first angle) in
    let q = λ (no_struct : Bool). operands_placed l no_struct ys in
    let parts = λ (no_struct : Bool). parts_of k (p no_struct false) (q no_struct) in
    record {
      held = λ h. operands_held ys are h;
      front = λ no_struct.
          ap (λ c. k && c && q no_struct) (before_front x is (suc l) angle no_struct)
          ∙ and_out k (p no_struct false) (begins_part x) (q no_struct);
      literal = λ h.
          let a = parts false h in
          ap₂ (λ c d. c && d) (with_first k x.structless (p true false) a.0 (before_literal x is (suc l) angle a.1))
          (operands_literal l ys are a.2);
      closed = λ no_struct h.
          let a = parts no_struct h in
          with_first (k && p false false) (tight_operands ys) (q false)
          (and_from k (p false false) a.0 (before_closed x is (suc l) angle no_struct a.1))
          (operands_closed l no_struct ys are a.2);
    }
  where
    parts_of : (a b c : Bool) → (a && b && c) ≡ true → (a ≡ true) × (b ≡ true) × (c ≡ true)
    parts_of a b c h = let d = and_parts (a && b) c h in let e = and_parts a b d.0 in (e.0, e.1, d.1)

cast_lawful : (x : ExprFacts) (types : List Ty) → Lawful x → Lawful (expr_facts (Expr-F.Cast x types))
cast_lawful x types is =
    let k = is_there types in
    let g = types_good (map about_type types) in
    let p = λ (no_struct first : Bool). placed x (before_op 12 no_struct first false) in
    record {
      held = λ h. refl;
      front = λ no_struct.
          ap (λ c. k && c && g) (before_front x is 12 false no_struct) ∙ and_out k (p no_struct false) (begins_part x) g;
      literal = λ h.
          let a = and_parts (k && p false false) g h in
          let b = and_parts k (p false false) a.0 in
          with_last g x.structless (k && p true false) a.1
          (with_first k x.structless (p true false) b.0 (before_literal x is 12 false b.1));
      closed = λ no_struct h.
          let a = and_parts (k && p no_struct false) g h in
          let b = and_parts k (p no_struct false) a.0 in
          sym (and_from (k && p false false) g (and_from k (p false false) b.0 (before_closed x is 12 false no_struct b.1)) a.1);
    }

unary_lawful : (ps : List Prefix) (x : ExprFacts) → Lawful x → Lawful (expr_facts (Expr-F.Unary ps x))
unary_lawful ps x is =
    let k = is_there ps in
    let g = not (is_prefix_lead x.lead) in
    let p = λ (no_struct : Bool). placed x (plain 12 no_struct) in
    record {
      held = is.held;
      front = λ no_struct. and_yes (k && p no_struct && g) true refl;
      literal = λ h.
          let a = and_parts (k && p false) g h in
          let b = and_parts k (p false) a.0 in
          with_last g x.structless (k && p true) a.1 (with_first k x.structless (p true) b.0 (plain_literal x is 12 b.1));
      closed = λ no_struct h.
          let a = and_parts (k && p no_struct) g h in
          let b = and_parts k (p no_struct) a.0 in
          with_last g x.tight (k && p false) a.1 (with_first k x.tight (p false) b.0 (plain_closed x is 12 no_struct b.1));
    }

-- ---- ranges, and operands that may be left out

-- where such an operand stands at its level
abbrev led_placed : ℕ → ExprFacts → Bool → Bool
led_placed level x no_struct = placed x (plain level no_struct) && begins_free no_struct x

led_literal : (level : ℕ) (x : ExprFacts) → Lawful x → led_placed level x false ≡ true
    → (x.structless && not (is_brace_lead x.lead)) ≡ led_placed level x true
led_literal level x is h =
    ap (λ c. c && not (is_brace_lead x.lead)) (plain_literal x is level (and_parts (placed x (plain level false)) true h).0)

led_closed : (level : ℕ) (x : ExprFacts) (no_struct : Bool) → Lawful x → led_placed level x no_struct ≡ true
    → x.tight ≡ led_placed level x false
led_closed level x no_struct is h =
    with_last true x.tight (placed x (plain level false)) refl
    (plain_closed x is level no_struct (and_parts (placed x (plain level no_struct)) (begins_free no_struct x) h).0)

start_literal : (start : Option ExprFacts) → MayBeLawful start → start_placed start false false ≡ true
    → structless_operand start ≡ start_placed start true false
start_literal None is h = refl
start_literal (Some x) is h = before_literal x is 2 false h

start_closed : (start : Option ExprFacts) (no_struct : Bool) → MayBeLawful start → start_placed start no_struct false ≡ true
    → start_placed start false false ≡ true
start_closed None no_struct is h = refl
start_closed (Some x) no_struct is h = before_closed x is 2 false no_struct h

end_literal : (end : Option ExprFacts) (inclusive : Bool) → MayBeLawful end → end_placed end inclusive false ≡ true
    → structless_end end ≡ end_placed end inclusive true
end_literal None inclusive is h = sym h
end_literal (Some x) inclusive is h = led_literal 2 x is h

end_closed : (end : Option ExprFacts) (inclusive no_struct : Bool) → MayBeLawful end → end_placed end inclusive no_struct ≡ true
    → tight_operand end ≡ end_placed end inclusive false
end_closed None inclusive no_struct is h = sym h
end_closed (Some x) inclusive no_struct is h = led_closed 2 x no_struct is h

end_held : (end : Option ExprFacts) → MayBeLawful end → (tail_of_end end).closure ≡ false → tight_operand end ≡ true
end_held None is h = refl
end_held (Some x) is h = is.held h

range_front : (start : Option ExprFacts) (inclusive : Bool) (end : Option ExprFacts) → MayBeLawful start → (no_struct : Bool)
    → (start_placed start no_struct true && end_placed end inclusive no_struct)
    ≡ (start_placed start no_struct false && end_placed end inclusive no_struct && (expr_facts (Expr-F.Range start inclusive end)).starts)
range_front None inclusive end is no_struct = and_yes (end_placed end inclusive no_struct) true refl
range_front (Some x) inclusive end is no_struct =
    let e = end_placed end inclusive no_struct in
    ap (λ c. c && e) (before_front x is 2 false no_struct) ∙ and_out true (placed x (before_op 2 no_struct false false)) (begins_part x) e

range_lawful : (start : Option ExprFacts) (inclusive : Bool) (end : Option ExprFacts) → MayBeLawful start → MayBeLawful end
    → Lawful (expr_facts (Expr-F.Range start inclusive end))
range_lawful start inclusive end starts ends = record {
  held = λ h. end_held end ends h;
  front = λ no_struct. range_front start inclusive end starts no_struct;
  literal = λ h.
      let a = and_parts (start_placed start false false) (end_placed end inclusive false) h in
      ap₂ (λ c d. c && d) (start_literal start starts a.0) (end_literal end inclusive ends a.1);
  closed = λ no_struct h.
      let a = and_parts (start_placed start no_struct false) (end_placed end inclusive no_struct) h in
      with_first (start_placed start false false) (tight_operand end) (end_placed end inclusive false)
      (start_closed start no_struct starts a.0) (end_closed end inclusive no_struct ends a.1);
}

operand_is_literal : (x : Option ExprFacts) → MayBeLawful x → operand_placed x false ≡ true → structless_end x ≡ operand_placed x true
operand_is_literal None is h = refl
operand_is_literal (Some x) is h = led_literal 0 x is h

operand_is_closed : (x : Option ExprFacts) (no_struct : Bool) → MayBeLawful x → operand_placed x no_struct ≡ true
    → tight_operand x ≡ operand_placed x false
operand_is_closed None no_struct is h = refl
operand_is_closed (Some x) no_struct is h = led_closed 0 x no_struct is h

jump_held : (x : Option ExprFacts) → MayBeLawful x → (tail_of_jump x).closure ≡ false → tight_operand x ≡ true
jump_held None is h = refl
jump_held (Some x) is h = is.held h

return_lawful : (x : Option ExprFacts) → MayBeLawful x → Lawful (expr_facts (Expr-F.Return x))
return_lawful x is = record {
  held = λ h. jump_held x is h;
  front = λ no_struct. and_yes (operand_placed x no_struct) true refl;
  literal = λ h. operand_is_literal x is h;
  closed = λ no_struct h. operand_is_closed x no_struct is h;
}

break_lawful : (label : Option Lifetime) (x : Option ExprFacts) → MayBeLawful x → Lawful (expr_facts (Expr-F.Break label x))
break_lawful label x is =
    let g = break_placed label x in
    record {
      held = λ h. jump_held x is h;
      front = λ no_struct. and_yes (operand_placed x no_struct && g) true refl;
      literal = λ h.
          let a = and_parts (operand_placed x false) g h in
          with_last g (structless_end x) (operand_placed x true) a.1 (operand_is_literal x is a.0);
      closed = λ no_struct h.
          let a = and_parts (operand_placed x no_struct) g h in
          with_last g (tight_operand x) (operand_placed x false) a.1 (operand_is_closed x no_struct is a.0);
    }

-- ---- assignments

abbrev Targets : List (ExprFacts × Op) → Type 0
Targets [] = Unit {0}
Targets (y ∷ more) = Lawful y.0 × Targets more

targets_literal : (ys : List (ExprFacts × Op)) → Targets ys → targets_placed ys false false ≡ true
    → list_all (λ (y : ExprFacts × Op). y.0.structless) ys ≡ targets_placed ys true false
targets_literal [] are h = refl
targets_literal (y ∷ more) are h =
    let e = op_level y.1 == 0 in
    let p = λ (no_struct : Bool). placed y.0 (before_op 1 no_struct false false) in
    let a = and_parts (e && p false) (targets_placed more false false) h in
    let b = and_parts e (p false) a.0 in
    ap₂ (λ c d. c && d) (with_first e y.0.structless (p true) b.0 (before_literal y.0 are.0 1 false b.1)) (targets_literal more are.1 a.1)

targets_closed : (ys : List (ExprFacts × Op)) (no_struct : Bool) → Targets ys → targets_placed ys no_struct false ≡ true
    → targets_placed ys false false ≡ true
targets_closed [] no_struct are h = refl
targets_closed (y ∷ more) no_struct are h =
    let e = op_level y.1 == 0 in
    let p = λ (no_struct : Bool). placed y.0 (before_op 1 no_struct false false) in
    let a = and_parts (e && p no_struct) (targets_placed more no_struct false) h in
    let b = and_parts e (p no_struct) a.0 in
    and_from (e && p false) (targets_placed more false false) (and_from e (p false) b.0 (before_closed y.0 are.0 1 false no_struct b.1))
    (targets_closed more no_struct are.1 a.1)

assign_front : (ys : List (ExprFacts × Op)) (x : ExprFacts) → Targets ys → (no_struct : Bool) →
    let F = expr_facts (Expr-F.Assign ys x) in F.within no_struct true ≡ (F.within no_struct false && F.starts)
assign_front [] x are no_struct = refl
assign_front (y ∷ more) x are no_struct =
    let e = op_level y.1 == 0 in
    let p = placed y.0 (before_op 1 no_struct false false) in
    let m = targets_placed more no_struct false in
    let v = placed x (plain 1 no_struct) in
    ap (λ c. e && c && m && v) (before_front y.0 are.0 1 false no_struct)
    ∙ ap (λ c. c && v) (and_out e p (begins_part y.0) m)
    ∙ and_out true (e && p && m) (begins_part y.0) v

assign_lawful : (ys : List (ExprFacts × Op)) (x : ExprFacts) → Targets ys → Lawful x → Lawful (expr_facts (Expr-F.Assign ys x))
assign_lawful ys x are is =
    let k = is_there ys in
    let m = λ (no_struct : Bool). targets_placed ys no_struct false in
    let v = λ (no_struct : Bool). placed x (plain 1 no_struct) in
    record {
      held = is.held;
      front = λ no_struct. assign_front ys x are no_struct;
      literal = λ h.
          let a = and_parts (k && m false) (v false) h in
          let b = and_parts k (m false) a.0 in
          ap₂ (λ c d. c && d)
          (with_first k (list_all (λ (y : ExprFacts × Op). y.0.structless) ys) (m true) b.0 (targets_literal ys are b.1))
          (plain_literal x is 1 a.1);
      closed = λ no_struct h.
          let a = and_parts (k && m no_struct) (v no_struct) h in
          let b = and_parts k (m no_struct) a.0 in
          with_first (k && m false) x.tight (v false) (and_from k (m false) b.0 (targets_closed ys no_struct are b.1))
          (plain_closed x is 1 no_struct a.1);
    }

-- ---- steps

-- Before a `.` or a `?` each expression may begin a statement.
base_front : (x : ExprFacts) (dotted no_struct : Bool) → Lawful x
    → placed x (before_op 14 no_struct (not dotted) false) ≡ (placed x (before_op 14 no_struct false false) && (dotted || begins_part x))
base_front x true no_struct is = and_yes (placed x (before_op 14 no_struct false false)) true refl
base_front x false no_struct is = before_front x is 14 false no_struct

postfix_lawful : (x : ExprFacts) (steps : List StepFacts) → Lawful x → Lawful (expr_facts (Expr-F.Postfix x steps))
postfix_lawful x steps is =
    let k = is_there steps && are_steps steps && not (x.is_number && first_step is_tuple_index steps) in
    let dotted = first_step is_dotted steps in
    let p = λ (no_struct : Bool). placed x (before_op 14 no_struct false false) in
    record {
      held = λ h. refl;
      front = λ no_struct.
          ap (λ c. k && c) (base_front x dotted no_struct is) ∙ and_assoc k (p no_struct) (dotted || begins_part x);
      literal = λ h.
          let a = and_parts k (p false) h in with_first k x.structless (p true) a.0 (before_literal x is 14 false a.1);
      closed = λ no_struct h.
          let a = and_parts k (p no_struct) h in sym (and_from k (p false) a.0 (before_closed x is 14 false no_struct a.1));
    }

-- ---- closures

-- A body whose braces stay where nothing is asked isn't lone, and so they stay in each place.
never_shed : (kind : BodyKind) → not (sheds kind false) ≡ true → not (sheds kind true) ≡ true
never_shed MacroBody h = refl
never_shed (BlockBody true structless) h = absurd (true≢false (sym h))
never_shed (BlockBody false structless) h = refl
never_shed OtherBody h = refl

lone_sheds : (kind : BodyKind) → not (is_lone_body kind) ≡ not (sheds kind false)
lone_sheds MacroBody = refl
lone_sheds (BlockBody true structless) = refl
lone_sheds (BlockBody false structless) = refl
lone_sheds OtherBody = refl

closure_lawful : (is_async moves : Bool) (params : List ClosureParam) (x : ExprFacts) → Lawful x
    → Lawful (expr_facts (Expr-F.Closure is_async moves params x))
closure_lawful is_async moves params x is =
    let k = list_all is_closure_param params in
    let p = λ (no_struct : Bool). placed x (plain 0 no_struct) in
    let g = λ (no_struct : Bool). not (sheds x.kind no_struct) in
    record {
      held = λ h. absurd (true≢false h);
      front = λ no_struct. and_yes (k && p no_struct && g no_struct) true refl;
      literal = λ h.
          let a = and_parts (k && p false) (g false) h in
          let b = and_parts k (p false) a.0 in
          with_last (g true) x.structless (k && p true) (never_shed x.kind a.1)
          (with_first k x.structless (p true) b.0 (plain_literal x is 0 b.1));
      closed = λ no_struct h.
          let a = and_parts (k && p no_struct) (g no_struct) h in
          let b = and_parts k (p no_struct) a.0 in
          and_comm (not (is_lone_body x.kind)) x.tight
          ∙ ap₂ (λ c d. c && d) (with_first k x.tight (p false) b.0 (plain_closed x is 0 no_struct b.1)) (lone_sheds x.kind);
    }

-- ---- layers, and so trees

abbrev ExprIs : Expr → Type 0
ExprIs x = Lawful (about_expr x)

abbrev KeptExpr : Type 0
KeptExpr = (x : Expr) × ExprIs x

-- Of the other nodes nothing is asked.
abbrev Any : (A : Type 0) → A → Type 0
Any A x = Unit {0}

abbrev Of : Type 0 → Type 0
Of A = (x : A) × Any A x

abbrev Kept : (Type 0 → Type 0 → Type 0 → Type 0 → Type 0 → Type 0 → Type 0 → Type 0 → Type 0 → Type 0 → Type 0 → Type 0) → Type 0
Kept F = F (Of Stmt) (Of Link) KeptExpr (Of FieldExpr) (Of Step) (Of ItemKind) (Of Arm) (Of Block) (Of Branch) (Of Condition) (Of Item)

abbrev expr_layer : Kept Expr-F → ExprNode
expr_layer y = fold.map-Expr
    (Of Stmt) (Of Link) KeptExpr (Of FieldExpr) (Of Step) (Of ItemKind) (Of Arm) (Of Block) (Of Branch) (Of Condition) (Of Item)
    Stmt Link Expr FieldExpr Step ItemKind Arm Block Branch Condition Item
    (λ y. y.0) (λ y. y.0) (λ y. y.0) (λ y. y.0) (λ y. y.0) (λ y. y.0) (λ y. y.0) (λ y. y.0) (λ y. y.0) (λ y. y.0) (λ y. y.0) y

abbrev fields_told : List (Of FieldExpr) → List Facts
fields_told ys = map about_field_expr (map (λ (y : Of FieldExpr). y.0) ys)

abbrev operands_told : List (Op × KeptExpr) → List (Op × ExprFacts)
operands_told ys = map laws.behind_op (map (λ (y : Op × KeptExpr). (y.0, y.1.0)) ys)

abbrev targets_told : List (KeptExpr × Op) → List (ExprFacts × Op)
targets_told ys = map laws.before_op (map (λ (y : KeptExpr × Op). (y.0.0, y.1)) ys)

kept_operands : (ys : List (Op × KeptExpr)) → Operands (operands_told ys)
kept_operands [] = tt
kept_operands (y ∷ ys) = (y.1.1, kept_operands ys)

kept_targets : (ys : List (KeptExpr × Op)) → Targets (targets_told ys)
kept_targets [] = tt
kept_targets (y ∷ ys) = (y.0.1, kept_targets ys)

abbrev facts_of : Kept Expr-F → ExprFacts
facts_of y = expr_facts (expr_told (expr_layer y))

still_layer : (y : Kept Expr-F) → (facts_of y).tight ≡ true → (facts_of y).starts ≡ true → (facts_of y).structless ≡ true
    → (facts_of y).is_struct ≡ false → ((no_struct first : Bool) → (facts_of y).within no_struct first ≡ (facts_of y).within false false)
    → Lawful (facts_of y)
still_layer y = still (facts_of y)

expr_layer_lawful : (y : Kept Expr-F) → Lawful (facts_of y)
expr_layer_lawful (Expr-F.Lit literal) = still_layer (Expr-F.Lit literal) refl refl refl refl (λ no_struct first. refl)
expr_layer_lawful (Expr-F.Path path) = still_layer (Expr-F.Path path) refl refl refl refl (λ no_struct first. refl)
expr_layer_lawful Expr-F.Underscore = still_layer Expr-F.Underscore refl refl refl refl (λ no_struct first. refl)
expr_layer_lawful (Expr-F.Expr::Call call) = still_layer (Expr-F.Expr::Call call) refl refl refl refl (λ no_struct first. refl)
expr_layer_lawful (Expr-F.Paren x) = still_layer (Expr-F.Paren x) refl refl refl refl (λ no_struct first. refl)
expr_layer_lawful (Expr-F.Continue label) = still_layer (Expr-F.Continue label) refl refl refl refl (λ no_struct first. refl)
expr_layer_lawful (Expr-F.Tuple xs) = still_layer (Expr-F.Tuple xs) refl refl refl refl (λ no_struct first. refl)
expr_layer_lawful (Expr-F.Array xs) = still_layer (Expr-F.Array xs) refl refl refl refl (λ no_struct first. refl)
expr_layer_lawful (Expr-F.Repeat x length) = still_layer (Expr-F.Repeat x length) refl refl refl refl (λ no_struct first. refl)
expr_layer_lawful (Expr-F.Expr::Struct path fields None) = struct_lawful path (fields_told fields) None
expr_layer_lawful (Expr-F.Expr::Struct path fields (Some None)) = struct_lawful path (fields_told fields) (Some None)
expr_layer_lawful (Expr-F.Expr::Struct path fields (Some (Some x))) = struct_lawful path (fields_told fields) (Some (Some (about_expr x.0)))
expr_layer_lawful (Expr-F.Chain x more) = chain_lawful (about_expr x.0) (operands_told more) x.1 (kept_operands more)
expr_layer_lawful (Expr-F.Cast x types) = cast_lawful (about_expr x.0) types x.1
expr_layer_lawful (Expr-F.Unary prefixes x) = unary_lawful prefixes (about_expr x.0) x.1
expr_layer_lawful (Expr-F.Range None inclusive None) = range_lawful None inclusive None tt tt
expr_layer_lawful (Expr-F.Range None inclusive (Some y)) = range_lawful None inclusive (Some (about_expr y.0)) tt y.1
expr_layer_lawful (Expr-F.Range (Some x) inclusive None) = range_lawful (Some (about_expr x.0)) inclusive None x.1 tt
expr_layer_lawful (Expr-F.Range (Some x) inclusive (Some y)) =
    range_lawful (Some (about_expr x.0)) inclusive (Some (about_expr y.0)) x.1 y.1
expr_layer_lawful (Expr-F.Assign targets x) = assign_lawful (targets_told targets) (about_expr x.0) (kept_targets targets) x.1
expr_layer_lawful (Expr-F.Postfix x steps) =
    postfix_lawful (about_expr x.0) (map about_step (map (λ (y : Of Step). y.0) steps)) x.1
expr_layer_lawful (Expr-F.Block label b) = still_layer (Expr-F.Block label b) refl refl refl refl (λ no_struct first. refl)
expr_layer_lawful (Expr-F.Unsafe b) = still_layer (Expr-F.Unsafe b) refl refl refl refl (λ no_struct first. refl)
expr_layer_lawful (Expr-F.ConstBlock b) = still_layer (Expr-F.ConstBlock b) refl refl refl refl (λ no_struct first. refl)
expr_layer_lawful (Expr-F.Async moves b) = still_layer (Expr-F.Async moves b) refl refl refl refl (λ no_struct first. refl)
expr_layer_lawful (Expr-F.If branches otherwise) =
    still_layer (Expr-F.If branches otherwise) refl refl refl refl (λ no_struct first. refl)
expr_layer_lawful (Expr-F.Match x attrs arms) = still_layer (Expr-F.Match x attrs arms) refl refl refl refl (λ no_struct first. refl)
expr_layer_lawful (Expr-F.Loop label b) = still_layer (Expr-F.Loop label b) refl refl refl refl (λ no_struct first. refl)
expr_layer_lawful (Expr-F.While label c b) = still_layer (Expr-F.While label c b) refl refl refl refl (λ no_struct first. refl)
expr_layer_lawful (Expr-F.For label pat x b) = still_layer (Expr-F.For label pat x b) refl refl refl refl (λ no_struct first. refl)
expr_layer_lawful (Expr-F.Closure is_async moves params x) = closure_lawful is_async moves params (about_expr x.0) x.1
expr_layer_lawful (Expr-F.TypedClosure is_async moves params output b) =
    still_layer (Expr-F.TypedClosure is_async moves params output b) refl refl refl refl (λ no_struct first. refl)
expr_layer_lawful (Expr-F.Return None) = return_lawful None tt
expr_layer_lawful (Expr-F.Return (Some x)) = return_lawful (Some (about_expr x.0)) x.1
expr_layer_lawful (Expr-F.Break label None) = break_lawful label None tt
expr_layer_lawful (Expr-F.Break label (Some x)) = break_lawful label (Some (about_expr x.0)) x.1

expr_rolled : (x : ExprNode) (y : Kept Expr-F) → expr_layer y ≡ x → ExprIs (views.roll-Expr x)
expr_rolled x y is = subst (λ z. ExprIs (views.roll-Expr z)) is (subst Lawful (sym (expr_is (expr_layer y))) (expr_layer_lawful y))

pub expr_lawful : (x : Expr) → Lawful (about_expr x)
expr_lawful = fold.ind-Expr
    (Any Stmt) (Any Link) ExprIs (Any FieldExpr) (Any Step) (Any ItemKind) (Any Arm) (Any Block) (Any Branch) (Any Condition) (Any Item)
    (λ x y is. tt) (λ x y is. tt) expr_rolled (λ x y is. tt) (λ x y is. tt) (λ x y is. tt) (λ x y is. tt) (λ x y is. tt) (λ x y is. tt)
    (λ x y is. tt) (λ x y is. tt)

-- ---- the laws

at_lowest : (n : ℕ) → nat_le 0 n ≡ true
at_lowest n = le-leb 0 n (omega arith)

-- what a place of the lowest level asks of the root, where an operator doesn't follow
asks_none : (n : ℕ) → (nat_le 0 n && true && true && true) ≡ true
asks_none n = ap (λ c. c && true && true && true) (at_lowest n)

facts_body : (x : ExprFacts) (no_struct : Bool) → Lawful x → placed x (plain 0 no_struct) ≡ true
    → (x.starts && x.tight) ≡ placed x statement
facts_body x no_struct is h =
    let w = (and_parts (stands x (plain 0 no_struct)) (x.within no_struct false) h).1 in
    with_first (nat_le 0 x.level && true && true && true && true) (x.starts && x.tight) (x.within false true)
    (ap (λ c. c && true) (asks_none x.level))
    (and_comm x.starts x.tight ∙ ap (λ c. c && x.starts) (is.closed no_struct w) ∙ sym (is.front false))

facts_place : (x : ExprFacts) (no_struct : Bool) → Lawful x → placed x statement ≡ true
    → (not no_struct || x.structless) ≡ placed x (plain 0 no_struct)
facts_place x no_struct is h = by no_struct
  where
    free : x.within false false ≡ true
    free = (and_parts (x.within false false) x.starts (sym (is.front false) ∙ (and_parts (stands x statement) (x.within false true) h).1)).0

    low : placed x (plain 0 false) ≡ true
    low = and_from (nat_le 0 x.level && true && true && true && true) (x.within false false) (ap (λ c. c && true) (asks_none x.level)) free

    by : (no_struct : Bool) → (not no_struct || x.structless) ≡ placed x (plain 0 no_struct)
    by false = sym low
    by true = plain_literal x is 0 low

-- What may follow a closure's parameters may be a statement if what stands first in it may begin one, and if no closure ends
-- it whose body keeps braces only since no struct literal may stand there.
pub body_law : (x : Expr) (no_struct : Bool) → placed (about_expr x) (plain 0 no_struct) ≡ true
    → ((about_expr x).starts && (about_expr x).tight) ≡ placed (about_expr x) statement
body_law x no_struct = facts_body (about_expr x) no_struct (expr_lawful x)

-- What may be a statement may stand after a closure's parameters, and where no struct literal may stand it may if it holds none
-- outside delimiters.
pub place_law : (x : Expr) (no_struct : Bool) → placed (about_expr x) statement ≡ true
    → (not no_struct || (about_expr x).structless) ≡ placed (about_expr x) (plain 0 no_struct)
place_law x no_struct = facts_place (about_expr x) no_struct (expr_lawful x)
