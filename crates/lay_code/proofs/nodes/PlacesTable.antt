-- The table of the places of expressions. A place where an operator follows asks that of each expression that ends where
-- the node ends: the definitions ask it of the node's tail, and the table hands it down to the last child. Here both are
-- one, kind by kind.
use Rattle.std.proofs.Common.{◌≡◌, ℕ, suc, ◌≤◌, ◌==◌, Bool, true, false, not, ◌&&◌, ◌||◌, if◌then◌else◌, List, [], ◌∷◌, ◌++◌, map, Option, Some, None, refl, sym, ap, subst, ◌∙◌, arith}
use Rattle.std.specs.Prelude.{nat_le}
use Rattle.std.proofs.lemmas.Bool.{and_parts, and_from, leb-true, le-leb}
use Rattle.lay_node.specs.Ahead.{Tokens}
use Rattle.lay_node.specs.Follow.{OfBang, OfColons}
use Rattle.lay_node.specs.nodes.Facts.{Facts}
use Rattle.lay_node.specs.nodes.Types.{ArgsFacts, PathFacts, about_args, about_path, about_start, is_there, path_facts, segment_good, segments_good, segments_refuse}
use Rattle.lay_node.specs.declared.attr.Attr.{Attr}
use Rattle.lay_node.specs.declared.patterns.Pat.{Pat}
use Rattle.lay_node.specs.declared.token.Lifetime.{Lifetime}
use Rattle.lay_node.specs.declared.token.Listed.{Listed}
use Rattle.lay_node.specs.declared.token.Literal.{Literal}
use Rattle.lay_node.specs.declared.token.Word.{Word}
use Rattle.lay_node.specs.declared.tokens.MacroCall.{MacroCall}
use Rattle.lay_node.specs.declared.types.Args.{Args}
use Rattle.lay_node.specs.declared.types.Path.{Path}
use Rattle.lay_node.specs.declared.types.PathStyle.TheVariants.{Code}
use Rattle.lay_node.specs.declared.types.Ty.{Ty}
use Rattle.lay_node.proofs.nodes.TypesLaws.{ArgsView, IsNone, IsAngle, IsRound, args_view, args_none_is, args_angle_is, args_round_is, path_is, about_segment}
use Rattle.lay_code.specs.Operators.{op_level, is_angle_op, strength}
use Rattle.lay_code.specs.nodes.Exprs.{StepFacts, Tail, ExprFacts, shut, shut_by, is_open, is_typed, is_field, may, stands, placed, root_follows, tail_follows, follows, expr_facts, ends_in_amp, is_prefix_lead, begins_free, start_placed, targets_placed, is_chain_level, may_chain, operands_placed, tail_of_operands, tail_of_steps, lacks_args}
use Rattle.lay_code.specs.nodes.CodeFacts.{ArmFacts, BlockFacts, BranchFacts, ConditionFacts}
use Rattle.lay_code.specs.nodes.Places.{plain, before_op, begins, is_part, is_whole}
use Rattle.lay_code.specs.nodes.PlacesTable.{AssignRow, ByRoot, ChainRow, Iff, OtherOperands, RangeRow, UnaryRow, as_node}
use Rattle.lay_code.specs.declared.blocks.Stmt.TheOpen.{Expr-F}
use Rattle.lay_code.specs.declared.exprs.ClosureParam.{ClosureParam}
use Rattle.lay_code.specs.declared.exprs.Place.{Place}
use Rattle.lay_code.specs.declared.operators.Op.{Op}
use Rattle.lay_code.specs.declared.operators.Prefix.{Prefix}

-- ---- the five rules of a place

-- Each rule that a place asks, where these say whether the expression is open and whether it is open in a type.
pub record Rules (p : Place) (x : ExprFacts) (ended typed : Bool) : Type 0 where
  pub level : nat_le p.level x.level ≡ true
  pub operator : not (p.op_after && ended) ≡ true
  pub angle : not (p.lt_after && typed) ≡ true
  pub part : not (is_part p.start && x.block_like) ≡ true
  pub literal : not (p.no_struct && x.is_struct) ≡ true

abbrev ruled : Place → ExprFacts → Bool → Bool → Bool
ruled p x ended typed =
    nat_le p.level x.level && not (p.op_after && ended) && not (p.lt_after && typed) && not (is_part p.start && x.block_like)
    && not (p.no_struct && x.is_struct)

module _ (p : Place) (x : ExprFacts) (ended typed : Bool) where
  rules_of : ruled p x ended typed ≡ true → Rules p x ended typed
  rules_of h =
      let l = nat_le p.level x.level in
      let o = not (p.op_after && ended) in
      let t = not (p.lt_after && typed) in
      let b = not (is_part p.start && x.block_like) in
      let a = and_parts (l && o && t && b) (not (p.no_struct && x.is_struct)) h in
      let c = and_parts (l && o && t) b a.0 in
      let d = and_parts (l && o) t c.0 in
      let e = and_parts l o d.0 in
      record { level = e.0; operator = e.1; angle = d.1; part = c.1; literal = a.1 }

  of_rules : Rules p x ended typed → ruled p x ended typed ≡ true
  of_rules r =
      let l = nat_le p.level x.level in
      let o = not (p.op_after && ended) in
      let t = not (p.lt_after && typed) in
      let b = not (is_part p.start && x.block_like) in
      and_from (l && o && t && b) (not (p.no_struct && x.is_struct))
      (and_from (l && o && t) b (and_from (l && o) t (and_from l o r.level r.operator) r.angle) r.part) r.literal

and_false : (a : Bool) → not (a && false) ≡ true
and_false true = refl
and_false false = refl

-- An expression at the place that the table hands down stands at the plain one, and is neither open where an operator follows
-- nor open in a type where `<` or `<<` does.
pub record LastChild (p : Place) (level : ℕ) (x : ExprFacts) : Type 0 where
  pub placed_plain : placed x (plain level p.no_struct) ≡ true
  pub operator : not (p.op_after && is_open x.tail) ≡ true
  pub angle : not (p.lt_after && is_typed x.tail) ≡ true

module _ (p : Place) (level : ℕ) (x : ExprFacts) where
  handed_down : LastChild p level x → placed x (as_node p level) ≡ true
  handed_down c =
      let q = plain level p.no_struct in
      let s = and_parts (stands x q) (x.within p.no_struct false) c.placed_plain in
      let r = rules_of q x (is_open x.tail) (is_typed x.tail) s.0 in
      let there : Rules (as_node p level) x (is_open x.tail) (is_typed x.tail) =
      record { level = r.level; operator = c.operator; angle = c.angle; part = refl; literal = r.literal } in
      and_from (stands x (as_node p level)) (x.within p.no_struct false) (of_rules (as_node p level) x (is_open x.tail) (is_typed x.tail) there) s.1

  handed_up : placed x (as_node p level) ≡ true → LastChild p level x
  handed_up h =
      let q = plain level p.no_struct in
      let s = and_parts (stands x (as_node p level)) (x.within p.no_struct false) h in
      let r = rules_of (as_node p level) x (is_open x.tail) (is_typed x.tail) s.0 in
      let there : Rules q x (is_open x.tail) (is_typed x.tail) = record { level = r.level; operator = refl; angle = refl; part = refl; literal = r.literal } in
      record {
        placed_plain = and_from (stands x q) (x.within p.no_struct false) (of_rules q x (is_open x.tail) (is_typed x.tail) there) s.1;
        operator = r.operator;
        angle = r.angle;
      }

-- ---- what has no last child with the rest as the node's

-- Where a node is as open as its root says, it stands where its root may.
module _ (p : Place) (x : ExprFacts) (ended : is_open x.tail ≡ (x.jumps || x.endless)) (typed : is_typed x.tail ≡ x.typed) where
  pub root_row : ByRoot p x
  root_row = rw (ended, typed) refl

-- ---- what ends in a child with the rest as the node's

-- Where the tail is the child's, the root is no more open than the child, and nothing that begins a statement or a struct
-- literal: the node is placed where its root may stand, the child stands as the table says, and all else is as within it.
module _ (p : Place) (F x : ExprFacts) (level : ℕ) (block : F.block_like ≡ false) (literal : F.is_struct ≡ false)
    (ended : is_open F.tail ≡ is_open x.tail) (typed : is_typed F.tail ≡ is_typed x.tail) (shut_root : (F.jumps || F.endless) ≡ false)
    (no_cast : F.typed ≡ false) where
  abbrev Child : Type 0
  Child = (may F p ≡ true) × (placed x (as_node p level) ≡ true)

  stands_down : stands F p ≡ true → placed x (plain level p.no_struct) ≡ true → Child
  stands_down h c =
      let r = rules_of p F (is_open F.tail) (is_typed F.tail) h in
      let root : Rules p F (F.jumps || F.endless) F.typed =
      record { level = r.level; operator = rw shut_root (and_false p.op_after); angle = rw no_cast (and_false p.lt_after); part = r.part; literal = r.literal } in
      let last : LastChild p level x =
      record {
        placed_plain = c;
        operator = subst (λ b. not (p.op_after && b) ≡ true) ended r.operator;
        angle = subst (λ b. not (p.lt_after && b) ≡ true) typed r.angle;
      } in
      (of_rules p F (F.jumps || F.endless) F.typed root, handed_down p level x last)

  stands_up : Child → (stands F p ≡ true) × (placed x (plain level p.no_struct) ≡ true)
  stands_up c =
      let r = rules_of p F (F.jumps || F.endless) F.typed c.0 in
      let last = handed_up p level x c.1 in
      let there : Rules p F (is_open F.tail) (is_typed F.tail) =
      record {
        level = r.level;
        operator = subst (λ b. not (p.op_after && b) ≡ true) (sym ended) last.operator;
        angle = subst (λ b. not (p.lt_after && b) ≡ true) (sym typed) last.angle;
        part = r.part;
        literal = r.literal;
      } in
      (of_rules p F (is_open F.tail) (is_typed F.tail) there, last.placed_plain)

module _ (p : Place) where
  -- Unary: the operand at 12, with the rest as the node's
  pub unary_row : (ps : List Prefix) (x : ExprFacts) → Iff (placed (expr_facts (Expr-F.Unary ps x)) p ≡ true)
      (UnaryRow p ps x)
  unary_row ps x =
      let F = expr_facts (Expr-F.Unary ps x) in
      let down = stands_down p F x 12 refl refl refl refl refl refl in
      let up = stands_up p F x 12 refl refl refl refl refl refl in (
        (λ h.
            let s = and_parts (stands F p) (F.within p.no_struct (begins p.start)) h in
            let w = and_parts (is_there ps && placed x (plain 12 p.no_struct)) (not (is_prefix_lead x.lead)) s.1 in
            let v = and_parts (is_there ps) (placed x (plain 12 p.no_struct)) w.0 in
            let c = down s.0 v.1 in (c.0, v.0, c.1, w.1)),
        (λ t.
            let c = up (t.0, t.2) in
            and_from (stands F p) (F.within p.no_struct (begins p.start)) c.0
            (and_from (is_there ps && placed x (plain 12 p.no_struct)) (not (is_prefix_lead x.lead))
            (and_from (is_there ps) (placed x (plain 12 p.no_struct)) t.1 c.1) t.3)),
      )

  -- Range: the end at 2, with the rest as the node's
  pub range_row : (a : Option ExprFacts) (inclusive : Bool) (x : ExprFacts) → Iff (placed (expr_facts (Expr-F.Range a inclusive (Some x))) p ≡ true)
      (RangeRow p a inclusive x)
  range_row a inclusive x =
      let F = expr_facts (Expr-F.Range a inclusive (Some x)) in
      let begun = start_placed a p.no_struct (begins p.start) in
      let ended = placed x (plain 2 p.no_struct) && begins_free p.no_struct x in
      let down = stands_down p F x 2 refl refl refl refl refl refl in
      let up = stands_up p F x 2 refl refl refl refl refl refl in (
        (λ h.
            let s = and_parts (stands F p) (F.within p.no_struct (begins p.start)) h in
            let w = and_parts begun ended s.1 in
            let v = and_parts (placed x (plain 2 p.no_struct)) (begins_free p.no_struct x) w.1 in
            let c = down s.0 v.0 in (c.0, w.0, c.1, v.1)),
        (λ t.
            let c = up (t.0, t.2) in
            and_from (stands F p) (F.within p.no_struct (begins p.start)) c.0
            (and_from begun ended t.1 (and_from (placed x (plain 2 p.no_struct)) (begins_free p.no_struct x) c.1 t.3))),
      )

  -- Assign: the value at 1, with the rest as the node's
  pub assign_row : (targets : List (ExprFacts × Op)) (x : ExprFacts) → Iff (placed (expr_facts (Expr-F.Assign targets x)) p ≡ true)
      (AssignRow p targets x)
  assign_row targets x =
      let F = expr_facts (Expr-F.Assign targets x) in
      let before = targets_placed targets p.no_struct (begins p.start) in
      let down = stands_down p F x 1 refl refl refl refl refl refl in
      let up = stands_up p F x 1 refl refl refl refl refl refl in (
        (λ h.
            let s = and_parts (stands F p) (F.within p.no_struct (begins p.start)) h in
            let w = and_parts (is_there targets && before) (placed x (plain 1 p.no_struct)) s.1 in
            let v = and_parts (is_there targets) before w.0 in
            let c = down s.0 w.1 in (c.0, v.0, v.1, c.1)),
        (λ t.
            let c = up (t.0, t.3) in
            and_from (stands F p) (F.within p.no_struct (begins p.start)) c.0
            (and_from (is_there targets && before) (placed x (plain 1 p.no_struct)) (and_from (is_there targets) before t.1 t.2) c.1)),
      )

  -- Chain: the operands after the first, the last of them with the rest as the node's
  -- what the place asks of the last operand
  abbrev Asked : Tail → Type 0
  Asked t = (not (p.op_after && is_open t) ≡ true) × (not (p.lt_after && is_typed t) ≡ true)

  others_down : (level : ℕ) (os : List (Op × ExprFacts)) → operands_placed level p.no_struct os ≡ true → Asked (tail_of_operands os) → OtherOperands p level os
  others_down level [] h a = tt
  others_down level (x ∷ []) h a =
      let w = and_parts ((op_level x.0 == level) && placed x.1 (plain (suc level) p.no_struct)) true h in
      let v = and_parts (op_level x.0 == level) (placed x.1 (plain (suc level) p.no_struct)) w.0 in
      (v.0, handed_down p (suc level) x.1 (record { placed_plain = v.1; operator = a.0; angle = a.1 }))
  others_down level (x ∷ y ∷ more) h a =
      let place = before_op (suc level) p.no_struct false (is_angle_op y.0) in
      let w = and_parts ((op_level x.0 == level) && placed x.1 place) (operands_placed level p.no_struct (y ∷ more)) h in
      let v = and_parts (op_level x.0 == level) (placed x.1 place) w.0 in
      (v.0, v.1, others_down level (y ∷ more) w.1 a)

  others_up : (level : ℕ) (o : Op × ExprFacts) (os : List (Op × ExprFacts)) → OtherOperands p level (o ∷ os)
      → (operands_placed level p.no_struct (o ∷ os) ≡ true) × Asked (tail_of_operands (o ∷ os))
  others_up level x [] t =
      let c = handed_up p (suc level) x.1 t.1 in
      let v = and_from (op_level x.0 == level) (placed x.1 (plain (suc level) p.no_struct)) t.0 c.placed_plain in
      (and_from ((op_level x.0 == level) && placed x.1 (plain (suc level) p.no_struct)) true v refl, (c.operator, c.angle))
  others_up level x (y ∷ more) t =
      let place = before_op (suc level) p.no_struct false (is_angle_op y.0) in
      let r = others_up level y more t.2 in
      let v = and_from (op_level x.0 == level) (placed x.1 place) t.0 t.1 in
      (and_from ((op_level x.0 == level) && placed x.1 place) (operands_placed level p.no_struct (y ∷ more)) v r.0, r.1)

  pub chain_row : (x : ExprFacts) (o : Op × ExprFacts) (more : List (Op × ExprFacts)) → Iff (placed (expr_facts (Expr-F.Chain x (o ∷ more))) p ≡ true)
      (ChainRow p x o more)
  chain_row x o more =
      let F = expr_facts (Expr-F.Chain x (o ∷ more)) in
      let level = op_level o.0 in
      let os = o ∷ more in
      let first = placed x (before_op (suc level) p.no_struct (begins p.start) (is_angle_op o.0)) in
      let others = operands_placed level p.no_struct os in
      let t = tail_of_operands os in (
        (λ h.
            let s = and_parts (stands F p) (F.within p.no_struct (begins p.start)) h in
            let a = and_parts (is_chain_level level && may_chain level os && first) others s.1 in
            let b = and_parts (is_chain_level level && may_chain level os) first a.0 in
            let c = and_parts (is_chain_level level) (may_chain level os) b.0 in
            let r = rules_of p F (is_open t) (is_typed t) s.0 in
            let root : Rules p F false false =
            record { level = r.level; operator = and_false p.op_after; angle = and_false p.lt_after; part = r.part; literal = r.literal } in
            (of_rules p F false false root, c.0, c.1, b.1, others_down level os a.1 (r.operator, r.angle))),
        (λ u.
            let r = rules_of p F false false u.0 in
            let v = others_up level o more u.4 in
            let there : Rules p F (is_open t) (is_typed t) =
            record { level = r.level; operator = v.1.0; angle = v.1.1; part = r.part; literal = r.literal } in
            and_from (stands F p) (F.within p.no_struct (begins p.start)) (of_rules p F (is_open t) (is_typed t) there)
            (and_from (is_chain_level level && may_chain level os && first) others
            (and_from (is_chain_level level && may_chain level os) first (and_from (is_chain_level level) (may_chain level os) u.1 u.2) u.3) v.0)),
      )

  -- ---- the other kinds that may be open at their end

  -- A range without an end, a `return` and a `break` stand where no operator follows; a cast asks its last type.
  pub endless_row : (a : Option ExprFacts) (inclusive : Bool) →
      let F = expr_facts (Expr-F.Range a inclusive None) in placed F p ≡ (may F p && F.within p.no_struct (begins p.start))
  endless_row a inclusive = root_row p (expr_facts (Expr-F.Range a inclusive None)) refl refl

  pub return_row : (x : Option ExprFacts) → let F = expr_facts (Expr-F.Return x) in placed F p ≡ (may F p && F.within p.no_struct (begins p.start))
  return_row None = root_row p (expr_facts (Expr-F.Return None)) refl refl
  return_row (Some x) = root_row p (expr_facts (Expr-F.Return (Some x))) refl refl

  pub break_row : (label : Option Lifetime) (x : Option ExprFacts) → let F = expr_facts (Expr-F.Break label x) in placed F p ≡ (may F p && F.within p.no_struct (begins p.start))
  break_row label None = root_row p (expr_facts (Expr-F.Break label None)) refl refl
  break_row label (Some x) = root_row p (expr_facts (Expr-F.Break label (Some x))) refl refl

  -- So does a closure.
  pub closure_row : (is_async moves : Bool) (params : List ClosureParam) (x : ExprFacts) →
      let F = expr_facts (Expr-F.Closure is_async moves params x) in placed F p ≡ (may F p && F.within p.no_struct (begins p.start))
  closure_row is_async moves params x = root_row p (expr_facts (Expr-F.Closure is_async moves params x)) refl refl

  pub typed_closure_row : (is_async moves : Bool) (params : List ClosureParam) (output : Ty) (b : BlockFacts) →
      let F = expr_facts (Expr-F.TypedClosure is_async moves params output b) in placed F p ≡ (may F p && F.within p.no_struct (begins p.start))
  typed_closure_row is_async moves params output b = root_row p (expr_facts (Expr-F.TypedClosure is_async moves params output b)) refl refl

  pub cast_row : (x : ExprFacts) (types : List Ty) → let F = expr_facts (Expr-F.Cast x types) in placed F p ≡ (may F p && F.within p.no_struct (begins p.start))
  cast_row x types = root_row p (expr_facts (Expr-F.Cast x types)) refl refl

  -- ---- the kinds that no operator is asked of

  pub literal_row : (l : Literal) → let F = expr_facts (Expr-F.Lit l) in placed F p ≡ (may F p && F.within p.no_struct (begins p.start))
  literal_row l = root_row p (expr_facts (Expr-F.Lit l)) refl refl

  pub underscore_row : let F = expr_facts Expr-F.Underscore in placed F p ≡ (may F p && F.within p.no_struct (begins p.start))
  underscore_row = root_row p (expr_facts Expr-F.Underscore) refl refl

  pub call_row : (c : MacroCall) → let F = expr_facts (Expr-F.Expr::Call c) in placed F p ≡ (may F p && F.within p.no_struct (begins p.start))
  call_row c = root_row p (expr_facts (Expr-F.Expr::Call c)) refl refl

  pub paren_row : (x : ExprFacts) → let F = expr_facts (Expr-F.Paren x) in placed F p ≡ (may F p && F.within p.no_struct (begins p.start))
  paren_row x = root_row p (expr_facts (Expr-F.Paren x)) refl refl

  pub continue_row : (label : Option Lifetime) → let F = expr_facts (Expr-F.Continue label) in placed F p ≡ (may F p && F.within p.no_struct (begins p.start))
  continue_row label = root_row p (expr_facts (Expr-F.Continue label)) refl refl

  pub tuple_row : (xs : List ExprFacts) → let F = expr_facts (Expr-F.Tuple xs) in placed F p ≡ (may F p && F.within p.no_struct (begins p.start))
  tuple_row xs = root_row p (expr_facts (Expr-F.Tuple xs)) refl refl

  pub array_row : (xs : List ExprFacts) → let F = expr_facts (Expr-F.Array xs) in placed F p ≡ (may F p && F.within p.no_struct (begins p.start))
  array_row xs = root_row p (expr_facts (Expr-F.Array xs)) refl refl

  pub repeat_row : (x : ExprFacts) (length : List Listed) → let F = expr_facts (Expr-F.Repeat x length) in placed F p ≡ (may F p && F.within p.no_struct (begins p.start))
  repeat_row x length = root_row p (expr_facts (Expr-F.Repeat x length)) refl refl

  pub struct_row : (path : Path) (fields : List Facts) (base : Option (Option ExprFacts)) →
      let F = expr_facts (Expr-F.Expr::Struct path fields base) in placed F p ≡ (may F p && F.within p.no_struct (begins p.start))
  struct_row path fields base = root_row p (expr_facts (Expr-F.Expr::Struct path fields base)) refl refl

  -- what holds a block
  pub block_row : (label : Option Lifetime) (b : BlockFacts) →
      let F = expr_facts (Expr-F.Block label b) in placed F p ≡ (may F p && F.within p.no_struct (begins p.start))
  block_row label b = root_row p (expr_facts (Expr-F.Block label b)) refl refl

  pub unsafe_row : (b : BlockFacts) →
      let F = expr_facts (Expr-F.Unsafe b) in placed F p ≡ (may F p && F.within p.no_struct (begins p.start))
  unsafe_row b = root_row p (expr_facts (Expr-F.Unsafe b)) refl refl

  pub const_block_row : (b : BlockFacts) →
      let F = expr_facts (Expr-F.ConstBlock b) in placed F p ≡ (may F p && F.within p.no_struct (begins p.start))
  const_block_row b = root_row p (expr_facts (Expr-F.ConstBlock b)) refl refl

  pub async_row : (moves : Bool) (b : BlockFacts) →
      let F = expr_facts (Expr-F.Async moves b) in placed F p ≡ (may F p && F.within p.no_struct (begins p.start))
  async_row moves b = root_row p (expr_facts (Expr-F.Async moves b)) refl refl

  pub if_row : (branches : List BranchFacts) (otherwise : Option BlockFacts) →
      let F = expr_facts (Expr-F.If branches otherwise) in placed F p ≡ (may F p && F.within p.no_struct (begins p.start))
  if_row branches otherwise = root_row p (expr_facts (Expr-F.If branches otherwise)) refl refl

  pub match_row : (x : ExprFacts) (attrs : List Attr) (arms : List ArmFacts) →
      let F = expr_facts (Expr-F.Match x attrs arms) in placed F p ≡ (may F p && F.within p.no_struct (begins p.start))
  match_row x attrs arms = root_row p (expr_facts (Expr-F.Match x attrs arms)) refl refl

  pub loop_row : (label : Option Lifetime) (b : BlockFacts) →
      let F = expr_facts (Expr-F.Loop label b) in placed F p ≡ (may F p && F.within p.no_struct (begins p.start))
  loop_row label b = root_row p (expr_facts (Expr-F.Loop label b)) refl refl

  pub while_row : (label : Option Lifetime) (c : ConditionFacts) (b : BlockFacts) →
      let F = expr_facts (Expr-F.While label c b) in placed F p ≡ (may F p && F.within p.no_struct (begins p.start))
  while_row label c b = root_row p (expr_facts (Expr-F.While label c b)) refl refl

  pub for_row : (label : Option Lifetime) (pat : Pat) (x : ExprFacts) (b : BlockFacts) →
      let F = expr_facts (Expr-F.For label pat x b) in placed F p ≡ (may F p && F.within p.no_struct (begins p.start))
  for_row label pat x b = root_row p (expr_facts (Expr-F.For label pat x b)) refl refl

  pub postfix_row : (x : ExprFacts) (steps : List StepFacts) → let F = expr_facts (Expr-F.Postfix x steps) in placed F p ≡ (may F p && F.within p.no_struct (begins p.start))
  postfix_row x steps = let t = steps_shut steps in root_row p (expr_facts (Expr-F.Postfix x steps)) t.0 t.1
    where
      last : (b : Bool) → (is_open (if b then shut_by (OfColons ∷ []) else shut) ≡ false) × (is_typed (if b then shut_by (OfColons ∷ []) else shut) ≡ false)
      last true = (refl, refl)
      last false = (refl, refl)

      steps_shut : (steps : List StepFacts) → (is_open (tail_of_steps steps) ≡ false) × (is_typed (tail_of_steps steps) ≡ false)
      steps_shut [] = (refl, refl)
      steps_shut (s ∷ []) = last (is_field s.kind)
      steps_shut (s ∷ t ∷ more) = steps_shut (t ∷ more)

  -- In code a path refuses no generic arguments, as a type does.
  pub path_row : (path : Path) → (about_path path Code).good ≡ true →
      let F = expr_facts (Expr-F.Path path) in placed F p ≡ (may F p && F.within p.no_struct (begins p.start))
  path_row path good = root_row p (expr_facts (Expr-F.Path path)) refl (code_path path good)
    where
      by : (a : Args) → ArgsView a → (about_args a).code.good ≡ true → lacks_args (about_args a).code.refuses ≡ false
      by _ IsNone h = subst (λ (F : ArgsFacts). lacks_args F.code.refuses ≡ false) (sym args_none_is) refl
      by _ (IsAngle xs) h = subst (λ (F : ArgsFacts). lacks_args F.code.refuses ≡ false) (sym (args_angle_is xs)) refl
      by _ (IsRound xs y) h = let e = sym (ap (λ (F : ArgsFacts). F.code.good) (args_round_is xs y)) ∙ h in absurd (cc)

      segments : (ss : List (Word × Args)) → segments_good Code (map about_segment ss) ≡ true → lacks_args (segments_refuse Code (map about_segment ss)) ≡ false
      segments [] h = absurd (cc)
      segments (s ∷ []) h = by s.1 (args_view s.1) (and_parts _ (about_args s.1).code.good h).1
      segments (s ∷ v ∷ more) h =
          segments (v ∷ more)
          (and_parts (segment_good Code (about_segment s) && not (about_args s.1).returns) (segments_good Code (map about_segment (v ∷ more))) h).1

      code_path : (path : Path) → (about_path path Code).good ≡ true → is_typed (expr_facts (Expr-F.Path path)).tail ≡ false
      code_path path g =
          let e = path_is path in
          let F = path_facts (record { start = about_start path.start; segments = map about_segment path.segments }) in
          let goods : (F Code).good ≡ true = sym (ap (λ (x : PathFacts). (x Code).good) e) ∙ g in
          let here : lacks_args (F Code).refuses ≡ false = segments path.segments (and_parts (about_start path.start).good (segments_good Code (map about_segment path.segments)) goods).1 in
          subst (λ (x : PathFacts). lacks_args (OfBang ∷ (x Code).refuses) ≡ false) (sym e) here

-- ---- what may follow

-- What goes on with a node, and with the child that ends where it ends, each at its own place.
module _ (p : Place) (ts : Tokens) where
  -- where the child stands with the rest as the node's, at a level that is no lower
  last_follows : (F x : ExprFacts) (level : ℕ) → F.block_like ≡ false → p.level ≤ level
      → (tail_follows F.tail p.no_struct ts ≡ tail_follows x.tail p.no_struct ts)
      → Iff (follows F p ts ≡ true) ((nat_le (strength ts) p.level ≡ true) × (follows x (as_node p level) ts ≡ true))
  last_follows F x level b le same =
      let root = root_is F b in
      let child : root_follows x (as_node p level) ts ≡ nat_le (strength ts) level = refl in (
        (λ h.
            let s = and_parts (root_follows F p ts) (tail_follows F.tail p.no_struct ts) h in
            let weak = sym root ∙ s.0 in
            let less = leb-true (strength ts) p.level weak in
            (weak, and_from (root_follows x (as_node p level) ts) (tail_follows x.tail p.no_struct ts) (le-leb (strength ts) level (omega (arith, less, le))) (sym same ∙ s.1))),
        (λ h.
            let s = and_parts (root_follows x (as_node p level) ts) (tail_follows x.tail p.no_struct ts) h.1 in
            and_from (root_follows F p ts) (tail_follows F.tail p.no_struct ts) (root ∙ h.0) (same ∙ s.1)),
      )
    where
      no_end : (a : Bool) → (a && false) ≡ false
      no_end true = refl
      no_end false = refl

      root_is : (F : ExprFacts) → F.block_like ≡ false → root_follows F p ts ≡ nat_le (strength ts) p.level
      root_is F b = rw (b, no_end (is_whole p.start)) refl

  pub range_follows : (a : Option ExprFacts) (inclusive : Bool) (x : ExprFacts) → p.level ≤ 1
      → Iff (follows (expr_facts (Expr-F.Range a inclusive (Some x))) p ts ≡ true)
      ((nat_le (strength ts) p.level ≡ true) × (follows x (as_node p 2) ts ≡ true))
  range_follows a inclusive x le = last_follows (expr_facts (Expr-F.Range a inclusive (Some x))) x 2 refl (omega (arith, le)) refl

  pub assign_follows : (targets : List (ExprFacts × Op)) (x : ExprFacts) → p.level ≤ 0
      → Iff (follows (expr_facts (Expr-F.Assign targets x)) p ts ≡ true)
      ((nat_le (strength ts) p.level ≡ true) × (follows x (as_node p 1) ts ≡ true))
  assign_follows targets x le = last_follows (expr_facts (Expr-F.Assign targets x)) x 1 refl (omega (arith, le)) refl

  pub chain_follows : (first : ExprFacts) (more : List (Op × ExprFacts)) (o : Op) (x : ExprFacts) (level : ℕ) → p.level ≤ level
      → Iff (follows (expr_facts (Expr-F.Chain first (more ++ (o, x) ∷ []))) p ts ≡ true)
      ((nat_le (strength ts) p.level ≡ true) × (follows x (as_node p (suc level)) ts ≡ true))
  chain_follows first more o x level le =
      last_follows (expr_facts (Expr-F.Chain first (more ++ (o, x) ∷ []))) x (suc level) refl (omega (arith, le))
      (ap (λ (t : Tail). tail_follows t p.no_struct ts) (last more))
    where
      last : (more : List (Op × ExprFacts)) → tail_of_operands (more ++ (o, x) ∷ []) ≡ x.tail
      last [] = refl
      last (y ∷ []) = refl
      last (y ∷ z ∷ more) = last (z ∷ more)

  -- A unary expression refuses besides, after `&` and the path `raw`, what would make it a raw borrow.
  pub unary_follows : (ps : List Prefix) (x : ExprFacts) → p.level ≤ 12 → (ends_in_amp ps && x.is_raw) ≡ false
      → Iff (follows (expr_facts (Expr-F.Unary ps x)) p ts ≡ true)
      ((nat_le (strength ts) p.level ≡ true) × (follows x (as_node p 12) ts ≡ true))
  unary_follows ps x le not_raw = last_follows (expr_facts (Expr-F.Unary ps x)) x 12 refl le (rw (not_raw, or_no x.tail.raw) refl)
    where
      or_no : (b : Bool) → (b || false) ≡ b
      or_no true = refl
      or_no false = refl
