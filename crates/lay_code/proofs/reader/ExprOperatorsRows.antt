-- Operators and the operands after them, and types after `as`: what is spelled is read.
use Rattle.std.proofs.Common.{◌≡◌, ℕ, suc, ◌≤◌, Bool, true, false, not, inl, ◌||◌, ◌&&◌, List, [], ◌∷◌, map, codes, Some, refl, sym, ap, subst, arith, le-leb, eqb-true, eq-eqb}
use Rattle.std.specs.Prelude.{◌==◌}
use Rattle.std.proofs.lemmas.Bool.{and_parts, and_from, or_left}
use Rattle.lay_piece.specs.declared.kind.Kind.TheVariants.{Ident}
use Rattle.lay_form.specs.Form.{Blank, Operator, Form, Done, Part, Piece, keyword}
use Rattle.lay_form.specs.Notation.{N}
use Rattle.lay_form.specs.Spelled.{IsOne, IsOperator, Spells, Then}
use Rattle.lay_form.proofs.FormLaws.{shorter}
use Rattle.lay_node.specs.Ahead.{Tokens, first, is_keyword}
use Rattle.lay_node.specs.Follow.{may_follow}
use Rattle.lay_node.specs.nodes.Types.{about_type, good_at, is_there}
use Rattle.lay_node.specs.reader.Loops.{nodes, deepest}
use Rattle.lay_node.specs.declared.types.Ty.{Ty}
use Rattle.lay_node.specs.declared.types.TypePlace.TheVariants.{NoBounds}
use Rattle.lay_node.proofs.Fronts.{one_front, one_shorter}
use Rattle.lay_node.proofs.Parts.{Rows, rows_to, bit_alone, behind_blank, before_blank}
use Rattle.lay_node.proofs.reader.TypesComplete.{quiet_fits}
use Rattle.lay_node.proofs.reader.TypesCompleteParts.{blank_left}
use Rattle.lay_node.proofs.reader.TypesFronts.{Clear, follows_clear, as_quiet}
use Rattle.lay_code.specs.Operators.{op_text, op_level, binary, angle_by, is_angle, is_angle_op, strength}
use Rattle.lay_code.specs.nodes.Code.{about_expr}
use Rattle.lay_code.specs.nodes.Exprs.{ExprFacts, Followed, Tail, inside, is_typed, stands, placed, tail_follows, operands_form, types_form, targets_form, operand_place, operands_placed, may_chain, targets_placed, tail_of_operands, type_refuses, types_good}
use Rattle.lay_code.specs.nodes.Places.{plain, before_op}
use Rattle.lay_code.specs.reader.Exprs.{operand_ends, operand, operands, targets_of, value_of, one_type}
use Rattle.lay_code.specs.reader.Within.{ExprWithin}
use Rattle.lay_code.specs.declared.blocks.Stmt.TheOpen.{Expr-F}
use Rattle.lay_code.specs.declared.exprs.Expr.{Expr}
use Rattle.lay_code.specs.declared.operators.Op.{Op}
use Rattle.lay_code.proofs.nodes.ExprsLaws.{behind_op, before_op as target_of}
use Rattle.lay_code.proofs.reader.ExprHeadsJumps.{OperandBefore, plain_followed, plain_follows}
use Rattle.lay_code.proofs.reader.ExprOperators.{AtOp, at_op, not_at_level, no_as, as_there, op_tail, some_text}
use Rattle.lay_code.proofs.reader.ExprOperatorsLoops.{NodeTurn, NodesRead, nodes_repeat}
use Rattle.lay_code.proofs.reader.ExprOperatorsTails.{BeforeOp, before_parts}
use Rattle.lay_code.proofs.reader.ExprReads.{ExprReads}
use Rattle.lay_code.proofs.reader.ExprSoundOperators.{low_no_angle}
use Rattle.lay_code.proofs.reader.Followed.{SpelledBefore, group_parts, last_parts, part_parts, piece_parts, takes, unspelled}

-- ---- places before operators

-- The operator may follow what stands before it.
pub before_tail : (x : ExprFacts) (level : ℕ) (no_struct first angle : Bool) → BeforeOp x level no_struct first angle
    → (ts : Tokens) (o : Op) → binary ts ≡ Some o → is_angle ts ≡ angle → tail_follows x.tail no_struct ts ≡ true
before_tail x level no_struct first angle b ts o h a = op_tail x.tail no_struct ts o h b.shut (by angle a b.typed)
  where
    by : (c : Bool) → is_angle ts ≡ c → (c ≡ true → is_typed x.tail ≡ false) → is_typed x.tail ≡ true → is_angle ts ≡ false
    by true e f t = let g = f refl in absurd (cc)
    by false e f t = e

-- What stands before an operator stands where none follows.
pub before_plain : (x : ExprFacts) (level : ℕ) (no_struct angle : Bool) → placed x (before_op level no_struct false angle) ≡ true
    → placed x (plain level no_struct) ≡ true
before_plain x level no_struct angle w =
    let p = and_parts (stands x (before_op level no_struct false angle)) (x.within no_struct false) w in
    let b = before_parts x level no_struct false angle p.0 in
    rw (b.high, b.struct_free) p.1

-- ---- an operator and the operand after it

-- The operator is spelled, and the operand after it.
abbrev pub OperandSpelled : ℕ → Op × Expr → Tokens → Tokens → Type 0
OperandSpelled depth y ts mid = (at : Tokens) × IsOperator (op_text y.0) ts at × Spells (about_expr y.1).form depth at mid

-- They are spelled one after the other, and what is left may follow the last operand, or that ends within braces that aren't in
-- the tree. The flag says that no struct literal may stand there.
abbrev pub OperandsBefore : ℕ → Bool → Op × Expr → List (Op × Expr) → Tokens → Tokens → Type 0
OperandsBefore depth no_struct y [] ts rest = (at : Tokens) × IsOperator (op_text y.0) ts at × OperandBefore y.1 no_struct depth at rest
OperandsBefore depth no_struct y (z ∷ more) ts rest = (mid : Tokens) × OperandSpelled depth y ts mid × OperandsBefore depth no_struct z more mid rest

-- the first of their operators
pub first_sign : (depth : ℕ) (no_struct : Bool) (y : Op × Expr) (ys : List (Op × Expr)) (ts rest : Tokens) → OperandsBefore depth no_struct y ys ts rest
    → (at : Tokens) × IsOperator (op_text y.0) ts at
first_sign depth no_struct y [] ts rest r = (r.0, r.1)
first_sign depth no_struct y (z ∷ more) ts rest r = let s = r.1 in (s.0, s.1)

-- An operator takes a token at least.
sign_taken : (o : Op) (f : Form) → takes (Piece (Operator (op_text o) ∷ []) f) ≡ true
sign_taken o f = or_left (is_there (op_text o) || false) (takes f) (or_left (is_there (op_text o)) false (some_text o))

module _ (no_struct : Bool) (depth : ℕ) where
  -- They aren't spelled by nothing.
  operands_there : (y : Op × Expr) (ys : List (Op × Expr)) (us : Tokens) → Spells (operands_form (map behind_op (y ∷ ys))) depth us us → ⊥
  operands_there y ys us s =
      let gap : Form = Piece (Blank ∷ []) (Part (about_expr y.1).form (operands_form (map behind_op ys))) in
      unspelled (Piece (Operator (op_text y.0) ∷ []) gap) (sign_taken y.0 gap) depth us s

  operands_before : (y : Op × Expr) (ys : List (Op × Expr)) (ts rest : Tokens)
      → SpelledBefore (tail_of_operands (map behind_op (y ∷ ys))) (operands_form (map behind_op (y ∷ ys))) no_struct depth ts rest
      → OperandsBefore depth no_struct y ys ts rest
  operands_before y [] ts rest s =
      let F = about_expr y.1 in
      let sign = piece_parts F.tail no_struct depth (Operator (op_text y.0) ∷ []) (Piece (Blank ∷ []) (Part F.form Done)) ts rest s in
      let blank = piece_parts F.tail no_struct depth (Blank ∷ []) (Part F.form Done) sign.0 rest sign.2 in
      let here = blank_left sign.0 blank.0 blank.1 in (
        sign.0,
        bit_alone (Operator (op_text y.0)) ts sign.0 sign.1,
        subst (λ us. OperandBefore y.1 no_struct depth us rest) (sym here) (last_parts F.tail no_struct depth F.form blank.0 rest blank.2),
      )
  operands_before y (z ∷ more) ts rest s =
      let f = (about_expr y.1).form in
      let t = tail_of_operands (map behind_op (z ∷ more)) in
      let next : Form = operands_form (map behind_op (z ∷ more)) in
      let sign = piece_parts t no_struct depth (Operator (op_text y.0) ∷ []) (Piece (Blank ∷ []) (Part f next)) ts rest s in
      let blank = piece_parts t no_struct depth (Blank ∷ []) (Part f next) sign.0 rest sign.2 in
      let here = blank_left sign.0 blank.0 blank.1 in
      let p = part_parts t no_struct depth f next (operands_there z more) blank.0 rest blank.2 in (
        p.0,
        (sign.0, bit_alone (Operator (op_text y.0)) ts sign.0 sign.1, subst (λ us. Spells f depth us p.0) (sym here) p.1),
        operands_before z more p.0 rest p.2,
      )

  -- A chain is spelled so: its first operand, and then the others with their operators.
  pub chain_before : (x : Expr) (y : Op × Expr) (ys : List (Op × Expr)) (ts rest : Tokens)
      → SpelledBefore (tail_of_operands (map behind_op (y ∷ ys))) (inside (Expr-F.Chain (about_expr x) (map behind_op (y ∷ ys)))) no_struct depth ts rest
      → Then (Spells (about_expr x).form depth) (OperandsBefore depth no_struct y ys) ts rest
  chain_before x y ys ts rest s =
      let f = (about_expr x).form in
      let t = tail_of_operands (map behind_op (y ∷ ys)) in
      let next : Form = operands_form (map behind_op (y ∷ ys)) in
      let p = part_parts t no_struct depth f next (operands_there y ys) ts rest (group_parts t no_struct depth false 4 (Part f next) ts rest s) in
      (p.0, p.1, operands_before y ys p.0 rest p.2)

-- an operator of a level, or none
abbrev pub at_level : ℕ → Tokens → Bool
at_level level ts = strength ts == suc level

-- An operator of a level and the operand after it are spelled, well placed, and end well.
pub record OperandFits (depth level : ℕ) (no_struct : Bool) (y : Op × Expr) (ts mid : Tokens) : Type 0 where
  pub spelled : OperandSpelled depth y ts mid
  pub at : (op_level y.0 == level) ≡ true
  pub there : placed (about_expr y.1) (plain (suc level) no_struct) ≡ true
  pub follow : Followed (about_expr y.1) (plain (suc level) no_struct) depth spelled.0 mid
  pub ends : operand_ends level no_struct (about_expr y.1) mid ≡ true

module _ (depth level : ℕ) (no_struct : Bool) where
  -- Operands stand each before the next operator, and the last before what is left.
  pub operands_fit : (y : Op × Expr) (ys : List (Op × Expr)) (ts rest : Tokens) → OperandsBefore depth no_struct y ys ts rest
      → operands_placed level no_struct (map behind_op (y ∷ ys)) ≡ true → may_chain level (map behind_op (y ∷ ys)) ≡ true
      → strength rest ≤ level → Rows (OperandFits depth level no_struct) (y ∷ ys) ts rest
  operands_fit y [] ts rest r w c s =
      let p = and_parts ((op_level y.0 == level) && placed (about_expr y.1) (plain (suc level) no_struct)) true w in
      let q = and_parts (op_level y.0 == level) (placed (about_expr y.1) (plain (suc level) no_struct)) p.0 in
      let ends : operand_ends level no_struct (about_expr y.1) rest ≡ true = rw (not_at_level level rest s) refl in
      let before = r.2 in (
        rest,
        record {
          spelled = (r.0, r.1, before.0);
          at = q.0;
          there = q.1;
          follow = plain_followed (about_expr y.1) (suc level) no_struct depth r.0 rest (omega (arith, s)) before.1;
          ends = ends;
        },
        refl,
      )
  operands_fit y (z ∷ more) ts rest r w c s =
      let F = about_expr y.1 in
      let next = r.2 in
      let mid = r.0 in
      let place = before_op (suc level) no_struct false (is_angle_op z.0) in
      let os = map behind_op (z ∷ more) in
      let p = and_parts ((op_level y.0 == level) && placed F place) (operands_placed level no_struct os) w in
      let q = and_parts (op_level y.0 == level) (placed F place) p.0 in
      let operands_more = operands_placed level no_struct (map behind_op more) in
      let head = (op_level z.0 == level) && placed (about_expr z.1) (operand_place level no_struct (map behind_op more)) in
      let l =
      and_parts (op_level z.0 == level) (placed (about_expr z.1) (operand_place level no_struct (map behind_op more)))
      (and_parts head operands_more p.1).0 in
      let sign = first_sign depth no_struct z more mid rest next in
      let a = at_op level z.0 mid sign.0 l.0 sign.1 in
      let angle : is_angle mid ≡ is_angle_op z.0 = ap angle_by a.binary in
      let there = (and_parts (stands F place) (F.within no_struct false) q.1).0 in
      let b = before_parts F (suc level) no_struct false (is_angle_op z.0) there in
      let tail = before_tail F (suc level) no_struct false (is_angle_op z.0) b mid z.0 a.binary angle in
      let here = subst (λ d. stands F (before_op (suc level) no_struct false d) ≡ true) (sym angle) there in
      let ends : operand_ends level no_struct F mid ≡ true =
      rw (eq-eqb (strength mid) (suc level) a.strength)
      (and_from (not (level == 4)) (stands F (before_op (suc level) no_struct false (is_angle mid))) c here) in
      let follow = plain_follows F (suc level) no_struct mid (le-leb (strength mid) (suc level) (omega (arith, a.strength))) tail in (
        mid,
        record { spelled = r.1; at = q.0; there = before_plain F (suc level) no_struct (is_angle_op z.0) q.1; follow = inl follow; ends = ends },
        operands_fit z more mid rest next p.1 (chain_on more c) s,
      )
    where
      chain_on : (xs : List (Op × Expr)) → not (level == 4) ≡ true → may_chain level (map behind_op (z ∷ xs)) ≡ true
      chain_on [] h = refl
      chain_on (x ∷ xs) h = h

module _ (depth : ℕ) (within : ExprWithin) (reads : ExprReads depth within) (level : ℕ) (no_struct : Bool) where
  -- an operator and the operand after it, read
  operand_read : (y : Op × Expr) (ts at mid : Tokens) (need : ℕ) → AtOp level y.0 ts at
      → within.exprs (plain (suc level) no_struct) at ≡ Some ((y.1, need), mid)
      → operand_ends level no_struct (about_expr y.1) mid ≡ true → operand within level no_struct ts ≡ Some ((y, need), mid)
  unfolding operand
  operand_read y ts at mid need a r e = rw (a.binary, a.left, r, e) refl

  -- the same as a turn
  abbrev OperandTurn : Op × Expr → Tokens → Tokens → Type 0
  OperandTurn = NodeTurn (at_level level) (operand within level no_struct) depth

  -- a turn, where the operand's end is well
  operand_turn : (y : Op × Expr) (ts mid : Tokens) → OperandFits depth level no_struct y ts mid → OperandTurn y ts mid
  operand_turn y ts mid f =
      let s = f.spelled in
      let at = s.0 in
      let a = at_op level y.0 ts at f.at s.1 in
      let r = reads.exprs (plain (suc level) no_struct) y.1 at mid s.2 f.there f.follow in (
        r.0,
        r.1,
        (
          eq-eqb (strength ts) (suc level) a.strength,
          operand_read y ts at mid r.0 a r.2 f.ends,
          omega (arith, a.less, shorter (about_expr y.1).form depth at mid s.2),
        ),
      )

  -- Operators of the level and operands that are spelled are read, as long as they are.
  pub operands_read : (y : Op × Expr) (ys : List (Op × Expr)) (ts rest : Tokens) → OperandsBefore depth no_struct y ys ts rest
      → operands_placed level no_struct (map behind_op (y ∷ ys)) ≡ true → may_chain level (map behind_op (y ∷ ys)) ≡ true
      → strength rest ≤ level
      → (found : List ((Op × Expr) × ℕ)) × (nodes found ≡ y ∷ ys) × (deepest found ≤ depth)
      × (operands within level no_struct ts ≡ Some (found, rest))
  unfolding operands
  operands_read y ys ts rest r w c s =
      let fit = operands_fit depth level no_struct y ys ts rest r w c s in
      nodes_repeat (at_level level) (operand within level no_struct) depth (y ∷ ys) ts rest
      (rows_to (OperandFits depth level no_struct) OperandTurn operand_turn (y ∷ ys) ts rest fit)
      (not_at_level level rest s)

-- ---- targets and a value, as operands with operators between them

-- what stands first after an operator
abbrev pub first_of : List (Expr × Op) → Expr → Expr
first_of [] x = x
first_of (z ∷ more) x = z.0

-- the operators and the operands after them
abbrev pub row_of : List (Expr × Op) → Expr → List (Op × Expr)
row_of [] x = []
row_of (z ∷ more) x = (z.1, first_of more x) ∷ row_of more x

-- The targets and the value are those again.
pub row_targets : (more : List (Expr × Op)) (x : Expr)
    → (targets_of (first_of more x) (row_of more x) ≡ more) × (value_of (first_of more x) (row_of more x) ≡ x)
row_targets [] x = (refl, refl)
row_targets (z ∷ more) x = let r = row_targets more x in (ap (λ zs. z ∷ zs) r.0, r.1)

module _ (no_struct : Bool) (depth : ℕ) where
  -- a target, its operator and what follows it
  target_before : (t : Tail) (y : Expr × Op) (more : List (Expr × Op)) (f : Form) (ts rest : Tokens)
      → SpelledBefore t (targets_form (map target_of (y ∷ more)) f) no_struct depth ts rest
      → (mid at : Tokens) × Spells (about_expr y.0).form depth ts mid × IsOperator (op_text y.1) mid at
      × SpelledBefore t (targets_form (map target_of more) f) no_struct depth at rest
  target_before t y more f ts rest s =
      let next : Form = N (targets_form (map target_of more) f) in
      let gap : Form = Piece (Blank ∷ []) next in
      let sign : Form = Piece (Operator (op_text y.1) ∷ []) gap in
      let behind : Form = Piece (Blank ∷ []) sign in
      let never : (us : Tokens) → Spells behind depth us us → ⊥ = λ us e. unspelled behind (sign_taken y.1 gap) depth us e in
      let p = part_parts t no_struct depth (about_expr y.0).form behind never ts rest s in
      let b = piece_parts t no_struct depth (Blank ∷ []) sign p.0 rest p.2 in
      let o = piece_parts t no_struct depth (Operator (op_text y.1) ∷ []) gap b.0 rest b.2 in
      let g = piece_parts t no_struct depth (Blank ∷ []) next o.0 rest o.2 in
      let here : IsOperator (op_text y.1) b.0 o.0 = bit_alone (Operator (op_text y.1)) b.0 o.0 o.1 in
      let before : IsOperator (op_text y.1) p.0 o.0 = subst (λ us. IsOperator (op_text y.1) us o.0) (sym (blank_left p.0 b.0 b.1)) here in
      let there : IsOperator (op_text y.1) p.0 g.0 = subst (λ us. IsOperator (op_text y.1) p.0 us) (blank_left o.0 g.0 g.1) before in
      (p.0, g.0, p.1, there, g.2)

  -- They are spelled as operands are.
  pub row_before : (y : Expr × Op) (more : List (Expr × Op)) (x : Expr) (ts rest : Tokens)
      → SpelledBefore (about_expr x).tail (targets_form (map target_of (y ∷ more)) (Part (about_expr x).form Done)) no_struct depth ts rest
      → Then (Spells (about_expr y.0).form depth) (OperandsBefore depth no_struct (y.1, first_of more x) (row_of more x)) ts rest
  row_before y [] x ts rest s =
      let F = about_expr x in
      let t = target_before F.tail y [] (Part F.form Done) ts rest s in
      (t.0, t.2, (t.1, t.3, last_parts F.tail no_struct depth F.form t.1 rest t.4))
  row_before y (z ∷ more) x ts rest s =
      let F = about_expr x in
      let t = target_before F.tail y (z ∷ more) (Part F.form Done) ts rest s in
      let r = row_before z more x t.1 rest t.4 in
      (t.0, t.2, (r.0, (t.1, t.3, r.1), r.2))

-- what is asked of a target
pub record TargetParts (no_struct first : Bool) (y : Expr × Op) (ys : List (Expr × Op)) : Type 0 where
  pub level : (op_level y.1 == 0) ≡ true
  pub target : placed (about_expr y.0) (before_op 1 no_struct first false) ≡ true
  pub more : targets_placed (map target_of ys) no_struct false ≡ true

-- of a target, and of those after it
pub target_parts : (no_struct first : Bool) (y : Expr × Op) (ys : List (Expr × Op))
    → targets_placed (map target_of (y ∷ ys)) no_struct first ≡ true
    → TargetParts no_struct first y ys
target_parts no_struct first y ys w =
    let place = before_op 1 no_struct first false in
    let p = and_parts ((op_level y.1 == 0) && placed (about_expr y.0) place) (targets_placed (map target_of ys) no_struct false) w in
    let q = and_parts (op_level y.1 == 0) (placed (about_expr y.0) place) p.0 in
    record { level = q.0; target = q.1; more = p.1 }

-- An operator of level 0 is neither `<` nor `<<`.
pub set_no_angle : (o : Op) → (op_level o == 0) ≡ true → is_angle_op o ≡ false
set_no_angle o h = low_no_angle o (omega (arith, eqb-true (op_level o) 0 h))

-- They stand in the places of operands.
pub row_placed : (no_struct first : Bool) (y : Expr × Op) (more : List (Expr × Op)) (x : Expr)
    → targets_placed (map target_of (y ∷ more)) no_struct first ≡ true
    → placed (about_expr x) (plain 1 no_struct) ≡ true → operands_placed 0 no_struct (map behind_op (row_of (y ∷ more) x)) ≡ true
row_placed no_struct first y [] x w v = rw ((target_parts no_struct first y [] w).level, v) refl
row_placed no_struct first y (z ∷ more) x w v =
    let p = target_parts no_struct first y (z ∷ more) w in
    let q = target_parts no_struct false z more p.more in
    let angle = set_no_angle z.1 q.level in
    rw (p.level, angle, q.target) (row_placed no_struct false z more x p.more v)

-- Any number of them may follow each other.
pub row_chains : (y : Expr × Op) (more : List (Expr × Op)) (x : Expr) → may_chain 0 (map behind_op (row_of (y ∷ more) x)) ≡ true
row_chains y [] x = refl
row_chains y (z ∷ more) x = refl

-- ---- types

-- `as` is spelled, and the type after it.
abbrev pub TypeSpelled : ℕ → Ty → Tokens → Tokens → Type 0
TypeSpelled depth x ts mid = (at : Tokens) × IsOne Ident (codes "as") ts at × Spells (about_type x).told.form depth at mid

-- Types are spelled one after the other.
pub types_spelled : (depth : ℕ) (xs : List Ty) (ts rest : Tokens) → Spells (types_form (map about_type xs)) depth ts rest
    → Rows (TypeSpelled depth) xs ts rest
types_spelled depth [] ts rest s = s
types_spelled depth (x ∷ xs) ts rest s =
    let o : IsOne Ident (codes "as") ts s.0 =
    before_blank (keyword (codes "as")) ts s.0 (behind_blank (keyword (codes "as") ∷ Blank ∷ []) ts s.0 s.1) in
    let part = s.2 in
    (part.0, (s.0, o, part.1), types_spelled depth xs part.0 rest part.2)

-- whether `as` stands there
abbrev pub is_as : Tokens → Bool
is_as = first (is_keyword (codes "as"))

module _ (depth : ℕ) (within : ExprWithin) (reads : ExprReads depth within) where
  -- a type after `as`, read
  type_read : (x : Ty) (need : ℕ) (ts at mid : Tokens) → IsOne Ident (codes "as") ts at
      → within.kinds.types NoBounds at ≡ Some ((x, need), mid)
      → one_type within ts ≡ Some ((x, need), mid)
  unfolding one_type
  type_read x need ts at mid o r = rw ((one_front Ident (codes "as") ts at o).1, r) refl

  -- the same as a turn
  abbrev TypeTurn : Ty → Tokens → Tokens → Type 0
  TypeTurn = NodeTurn is_as (one_type within) depth

  -- a type that is spelled is read in its turn
  type_turn : (x : Ty) (ts mid : Tokens) → TypeSpelled depth x ts mid → good_at NoBounds (about_type x) ≡ true
      → Clear (about_type x).told.refuses mid → TypeTurn x ts mid
  type_turn x ts mid s g f =
      let at = s.0 in
      let r = reads.kinds.types NoBounds x at mid s.2 g f in (
        r.0,
        r.1,
        (
          as_there ts at s.1,
          type_read x r.0 ts at mid s.1 r.2,
          omega (arith, one_shorter Ident (codes "as") ts at s.1, shorter (about_type x).told.form depth at mid s.2),
        ),
      )

  -- so are all of them
  type_turns : (x : Ty) (xs : List Ty) (ts rest : Tokens) → Rows (TypeSpelled depth) (x ∷ xs) ts rest
      → types_good (map about_type (x ∷ xs)) ≡ true
      → may_follow (type_refuses (map about_type (x ∷ xs))) rest ≡ true → Rows TypeTurn (x ∷ xs) ts rest
  type_turns x [] ts rest r g f =
      let good = (and_parts (good_at NoBounds (about_type x)) true g).0 in
      let spelled : TypeSpelled depth x ts rest = subst (λ us. TypeSpelled depth x ts us) r.2 r.1 in
      (rest, type_turn x ts rest spelled good (follows_clear (about_type x).told.refuses rest f), refl)
  type_turns x (y ∷ more) ts rest r g f =
      let goods = and_parts (good_at NoBounds (about_type x)) (types_good (map about_type (y ∷ more))) g in
      let next = r.2 in
      let spelled = next.1 in
      let quiet = as_quiet r.0 spelled.0 spelled.1 in
      (r.0, type_turn x ts r.0 r.1 goods.0 (quiet_fits NoBounds (about_type x) r.0 quiet), type_turns y more r.0 rest next goods.1 f)

  -- Types after `as` that are spelled are read, as long as they are.
  pub types_read : (x : Ty) (xs : List Ty) (ts rest : Tokens) → Rows (TypeSpelled depth) (x ∷ xs) ts rest
      → types_good (map about_type (x ∷ xs)) ≡ true
      → strength rest ≤ 11 → may_follow (type_refuses (map about_type (x ∷ xs))) rest ≡ true
      → NodesRead is_as (one_type within) depth (x ∷ xs) ts rest
  types_read x xs ts rest r g s f =
      nodes_repeat is_as (one_type within) depth (x ∷ xs) ts rest (type_turns x xs ts rest r g f) (no_as rest s)
