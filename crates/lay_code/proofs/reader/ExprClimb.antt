-- Reading gets from what begins an expression to the expression itself, operator by operator, from the strongest on.
use Rattle.std.proofs.Common.{◌≡◌, ℕ, zero, suc, ◌≤◌, ◌<◌, Bool, true, false, not, ◌&&◌, nat_le, Some, None, if◌then◌else◌, inl, refl, sym, ap, subst, ◌∙◌, arith, le-leb, eq-eqb, leb-true}
use Rattle.std.specs.Prelude.{◌==◌}
use Rattle.std.proofs.lemmas.Bool.{and_parts, lt-leb, leb-false}
use Rattle.lay_form.specs.Spelled.{Spells}
use Rattle.lay_node.specs.Ahead.{Tokens}
use Rattle.lay_node.specs.reader.Loops.{◌>>=◌}
use Rattle.lay_node.proofs.reader.TypesComplete.{and_none}
use Rattle.lay_code.specs.Operators.{is_angle, is_dot_or_try, strength}
use Rattle.lay_code.specs.nodes.Code.{about_expr}
use Rattle.lay_code.specs.nodes.Exprs.{ExprFacts, stands, placed, tail_follows}
use Rattle.lay_code.specs.nodes.Places.{begins, is_whole, part_if, before_op}
use Rattle.lay_code.specs.reader.Exprs.{stage, left_place, climb, is_ended}
use Rattle.lay_code.specs.reader.Within.{ExprWithin}
use Rattle.lay_code.specs.declared.exprs.Expr.{Expr}
use Rattle.lay_code.specs.declared.exprs.Place.{Place}
use Rattle.lay_code.specs.declared.exprs.Start.{Start}
use Rattle.lay_code.specs.declared.exprs.Start.TheVariants as start
use Rattle.lay_code.proofs.reader.ExprHeads.{Headed, IsHead}
use Rattle.lay_code.proofs.reader.ExprOperators.{not_at_level}
use Rattle.lay_code.proofs.reader.ExprOperatorsTails.{BeforeOp, before_parts}
use Rattle.lay_code.proofs.reader.ExprReads.{head_at}
use Rattle.lay_code.proofs.reader.Followed.{Ended}

-- A part of what begins a statement begins one.
part_begins : (b : Bool) → begins (part_if b) ≡ b
part_begins true = refl
part_begins false = refl

module _ (within : ExprWithin) (place : Place) where
  -- ---- levels

  -- An operator of a level that the place allows is taken, with what it makes of the expression before it.
  climb_taken : (level : ℕ) (x y : Expr) (n m : ℕ) (ts mid : Tokens) → place.level ≤ level → strength ts ≡ suc level
      → stands (about_expr x) (left_place place level ts) ≡ true → stage within level place.no_struct (x, n) ts ≡ Some ((y, m), mid)
      → climb within place (suc level) (x, n) ts ≡ climb within place level (y, m) mid
  unfolding climb
  climb_taken level x y n m ts mid le s g h = rw (le-leb place.level level le, eq-eqb (strength ts) (suc level) s, g, h) refl

  -- A level of which no operator follows is passed.
  climb_passed : (level : ℕ) (lhs : Expr × ℕ) (ts : Tokens) → strength ts ≤ level
      → climb within place (suc level) lhs ts ≡ climb within place level lhs ts
  unfolding climb
  climb_passed level lhs ts le = by (nat_le place.level level)
    where
      no : (strength ts == suc level) ≡ false
      no = not_at_level level ts le

      by : (b : Bool)
          → (if b && strength ts == suc level then
          (if stands (about_expr lhs.0) (left_place place level ts) then
          stage within level place.no_struct lhs ts >>= (λ x. climb within place level x.0 x.1)
          else None)
          else climb within place level lhs ts) ≡ climb within place level lhs ts
      by true = rw no refl
      by false = refl

  -- a level at a time
  skip_by : (level least : ℕ) (lhs : Expr × ℕ) (ts : Tokens) → least ≤ suc level → strength ts ≤ least
      → (least ≤ level → climb within place level lhs ts ≡ climb within place least lhs ts)
      → (b : Bool) → nat_le least level ≡ b → climb within place (suc level) lhs ts ≡ climb within place least lhs ts
  skip_by level least lhs ts le s rec true h =
      let less = leb-true least level h in
      climb_passed level lhs ts (omega (arith, s, less)) ∙ rec less
  skip_by level least lhs ts le s rec false h =
      let same : suc level ≡ least = omega (arith, le, leb-false least level h) in ap (λ i. climb within place i lhs ts) same

  -- So are all levels down to the strength of what follows.
  pub climb_skips : (level least : ℕ) (lhs : Expr × ℕ) (ts : Tokens) → least ≤ level → strength ts ≤ least
      → climb within place level lhs ts ≡ climb within place least lhs ts
  climb_skips zero least lhs ts le s = let same : zero ≡ least = omega (arith, le) in ap (λ i. climb within place i lhs ts) same
  climb_skips (suc level) least lhs ts le s =
      skip_by level least lhs ts le s (λ less. climb_skips level least lhs ts less s) (nat_le least level) refl

  -- Levels that the place doesn't allow end it.
  pub climb_ends : (level : ℕ) (lhs : Expr × ℕ) (ts : Tokens) → level ≤ place.level → climb within place level lhs ts ≡ Some (lhs, ts)
  unfolding climb
  climb_ends zero lhs ts le = refl
  climb_ends (suc level) lhs ts le = rw (lt-leb place.level level (omega (arith, le))) (climb_ends level lhs ts (omega (arith, le)))

  -- ---- what is known of expressions

  -- What is known of an expression with these facts where reading has got to it. The flag says that it begins a part of
  -- what begins a statement, or all of it.
  pub record Known (level depth : ℕ) (x : ExprFacts) (first : Bool) (ts mid : Tokens) : Type 0 where
    pub allowed : place.level ≤ level
    pub high : nat_le level x.level ≡ true
    pub starts : nat_le 14 x.level ≡ false → first ≡ begins place.start
    pub goes_on : is_ended place x mid ≡ false
    pub spelled : Spells x.form depth ts mid
    pub inside : x.within place.no_struct first ≡ true
    pub weak : strength mid ≤ level
    pub tail : Ended x.tail x.form place.no_struct depth ts mid
    pub struct_free : not (place.no_struct && x.is_struct) ≡ true

  -- ---- what reading has got to

  -- Reading begins at a level, with what is read of the first tokens, with its need, and with what is left.
  module _ (top : ℕ) (Begun : Tokens → Expr × ℕ → Tokens → Type 0) where
    -- Reading gets to the expression, with all operators below the level still to come.
    pub record Reach (level depth : ℕ) (x : Expr) (ts mid : Tokens) : Type 0 where
      pub head : Expr × ℕ
      pub behind : Tokens
      pub need : ℕ
      pub least : need ≤ depth
      pub begun : Begun ts head behind
      pub climbs : climb within place top head behind ≡ climb within place level (x, need) mid

    -- all expressions that are spelled at a depth are reached
    abbrev pub Reaches : ℕ → Type 0
    Reaches depth =
        (x : Expr) (level : ℕ) (first : Bool) (ts mid : Tokens) → level ≤ top → Known level depth (about_expr x) first ts mid
        → Reach level depth x ts mid

    -- ---- by an operator after an operand

    -- Where an operand is reached, so is what an operator of its level makes of it.
    pub reach_on : (x y : Expr) (operator level depth : ℕ) (ts mid rest : Tokens) → Reach (suc operator) depth x ts mid
        → place.level ≤ level → level ≤ operator
        → strength rest ≤ level → strength mid ≡ suc operator → stands (about_expr x) (left_place place operator mid) ≡ true
        → ((n : ℕ) → n ≤ depth → (m : ℕ) × (m ≤ suc depth) × (stage within operator place.no_struct (x, n) mid ≡ Some ((y, m), rest)))
        → Reach level (suc depth) y ts rest
    reach_on x y operator level depth ts mid rest r allowed le weak s stand made =
        let t = made r.need r.least in
        let at : place.level ≤ operator = omega (arith, allowed, le) in
        record {
          head = r.head;
          behind = r.behind;
          need = t.0;
          least = t.1;
          begun = r.begun;
          climbs = r.climbs ∙ climb_taken operator x y r.need t.0 mid rest at s stand t.2 ∙ climb_skips operator level (y, t.0) rest le weak;
        }

  -- ---- by what begins it

  -- what begins an expression is read, and operators may go on with it
  pub record AtHead (ts : Tokens) (head : Expr × ℕ) (behind : Tokens) : Type 0 where
    pub read : head_at within place.no_struct ts ≡ Some (head, behind)
    pub goes_on : is_ended place (about_expr head.0) behind ≡ false

  -- What begins an expression by itself is reached, where it is read so.
  pub headed : (x : Expr) (level depth : ℕ) (first : Bool) (ts mid : Tokens) → IsHead depth within x → nat_le (about_expr x).level 14 ≡ true
      → Known level (suc depth) (about_expr x) first ts mid → Reach 14 AtHead level (suc depth) x ts mid
  headed x level depth first ts mid h most k =
      let high = leb-true level (about_expr x).level k.high in
      let top = leb-true (about_expr x).level 14 most in
      let here : Headed depth x place.no_struct first ts mid = record {
        spelled = k.spelled;
        inside = k.inside;
        struct_free = k.struct_free;
        tail = k.tail;
        weak = le-leb (strength mid) (about_expr x).level (omega (arith, k.weak, high));
      } in
      let r = (h place.no_struct first ts mid here).read in
      record {
        head = (x, r.0);
        behind = mid;
        need = r.0;
        least = r.1;
        begun = record { read = r.2; goes_on = k.goes_on };
        climbs = climb_skips 14 level (x, r.0) mid (omega (arith, high, top)) k.weak;
      }

  -- ---- operands

  -- Where a statement goes on, what is block-like there is no more than what `.` or `?` goes on with.
  unended : (s : Start) (block dot : Bool) → (begins s ≡ true → dot ≡ false → block ≡ false) → (is_whole s && block && not dot) ≡ false
  unended start.No block dot h = refl
  unended start.Part block dot h = refl
  unended start.Whole true true h = refl
  unended start.Whole false true h = refl
  unended start.Whole block false h = rw (h refl refl) refl

  -- An operand stands before an operator of a level, spelled and well placed. The flags say that it begins a part of what
  -- begins a statement, and that the operator is `<` or `<<`.
  pub record Operand (operator depth : ℕ) (x : Expr) (first angle : Bool) (ts mid : Tokens) : Type 0 where
    pub allowed : place.level ≤ operator
    pub whole : nat_le 14 (about_expr x).level ≡ false → first ≡ begins place.start
    pub starts : first ≡ (begins place.start && not (operator == 13 && is_dot_or_try mid))
    pub there : placed (about_expr x) (before_op (suc operator) place.no_struct first angle) ≡ true
    pub spelled : Spells (about_expr x).form depth ts mid
    pub next : strength mid ≡ suc operator
    pub angled : is_angle mid ≡ angle
    pub tail : tail_follows (about_expr x).tail place.no_struct mid ≡ true

  module _ (top : ℕ) (Begun : Tokens → Expr × ℕ → Tokens → Type 0) (depth : ℕ) (reaches : Reaches top Begun depth) (operator : ℕ)
      (below : operator < top) (x : Expr) (first angle : Bool) (ts mid : Tokens) (o : Operand operator depth x first angle ts mid) where
    -- it stands before the operator
    stand : stands (about_expr x) (before_op (suc operator) place.no_struct first angle) ≡ true
    stand = (and_parts _ ((about_expr x).within place.no_struct (begins (part_if first))) o.there).0

    -- what that says
    parts : BeforeOp (about_expr x) (suc operator) place.no_struct first angle
    parts = before_parts (about_expr x) (suc operator) place.no_struct first angle stand

    -- An operator goes on with it, also at the start of a statement.
    operand_goes_on : is_ended place (about_expr x) mid ≡ false
    operand_goes_on = unended place.start (about_expr x).block_like (is_dot_or_try mid) (λ b d. parts.part (o.starts ∙ open_start b d))
      where
        open_start : begins place.start ≡ true → is_dot_or_try mid ≡ false
            → (begins place.start && not (operator == 13 && is_dot_or_try mid)) ≡ true
        open_start b d = rw (b, d, and_none (operator == 13)) refl

    -- An operand is reached.
    pub operand_reached : Reach top Begun (suc operator) depth x ts mid
    operand_reached = reaches x (suc operator) first ts mid (omega (arith, below)) (record {
      allowed = omega (arith, o.allowed);
      high = parts.high;
      starts = o.whole;
      goes_on = operand_goes_on;
      spelled = o.spelled;
      inside = subst (λ b. (about_expr x).within place.no_struct b ≡ true) (part_begins first)
          (and_parts (stands (about_expr x) (before_op (suc operator) place.no_struct first angle)) _ o.there).1;
      weak = omega (arith, o.next);
      tail = inl o.tail;
      struct_free = parts.struct_free;
    })

    -- It stands where the operator finds it.
    pub operand_stands : stands (about_expr x) (left_place place operator mid) ≡ true
    operand_stands =
        let At : Bool → Bool → Type 0 = λ b a. stands (about_expr x) (before_op (suc operator) place.no_struct b a) ≡ true in
        subst (λ a. At (begins place.start && not (operator == 13 && is_dot_or_try mid)) a) (sym o.angled)
        (subst (λ b. At b angle) o.starts stand)
