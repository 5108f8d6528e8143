-- A condition of one expression is read: its first operands as links, and then what operators go on with.
use Rattle.std.proofs.Common.{◌≡◌, ℕ, zero, suc, ◌≤◌, ◌<◌, max, Bool, true, false, not, ◌&&◌, nat_le, List, [], ◌∷◌, map, length, drop, codes, Option, option_map, Some, None, if◌then◌else◌, inl, inr, refl, sym, ap, subst, ◌∙◌, arith, le-leb, leb-true, eq-eqb, eqb-true}
use Rattle.std.specs.Prelude.{◌==◌}
use Rattle.std.specs.List.{list_any}
use Rattle.std.proofs.lemmas.Bool.{and_parts, cases_Bool, leb-false}
use Rattle.lay_token.specs.Operators.{is_op}
use Rattle.lay_form.specs.Form.{Operator}
use Rattle.lay_form.specs.Spelled.{AreBits, IsOperator, Spells}
use Rattle.lay_form.proofs.FormLaws.{shorter}
use Rattle.lay_node.specs.Ahead.{Tokens, first, is_keyword}
use Rattle.lay_node.specs.Follow.{begins_dots}
use Rattle.lay_node.specs.nodes.Patterns.{dots}
use Rattle.lay_node.specs.reader.Loops.{nodes, deepest}
use Rattle.lay_node.proofs.Fronts.{other_op}
use Rattle.lay_node.proofs.Parts.{Rows, bit_alone}
use Rattle.lay_node.proofs.reader.Exact.{IsRead}
use Rattle.lay_node.proofs.reader.Loops.{Turn, repeat_complete}
use Rattle.lay_code.specs.Operators.{angle_by, is_angle, op_level, op_text, strength}
use Rattle.lay_code.specs.nodes.Code.{about_expr}
use Rattle.lay_code.specs.nodes.Exprs.{ExprFacts, ExprLayer, expr_facts, inside, is_chain_level, level_of_chain, may_chain, operands_placed, placed, root_follows, stands, tail_follows, tail_of}
use Rattle.lay_code.specs.nodes.Places.{before_op, link_place, plain}
use Rattle.lay_code.specs.reader.Code.{climbed_on}
use Rattle.lay_code.specs.reader.Conditions.{ReadLink, alone, any_let, begins_link, chain_of, condition_by, condition_of, further_links, is_let, link_ends, one_link}
use Rattle.lay_code.specs.reader.Exprs.{accepted, climb, operand_ends}
use Rattle.lay_code.specs.reader.Within.{ExprWithin}
use Rattle.lay_code.specs.declared.blocks.Stmt.TheOpen.{Expr-F}
use Rattle.lay_code.specs.declared.exprs.Expr.{Expr}
use Rattle.lay_code.specs.declared.exprs.Expr.TheVariants as expr
use Rattle.lay_code.specs.declared.exprs.Place.{Place}
use Rattle.lay_code.specs.declared.operators.Op.{Op}
use Rattle.lay_code.specs.declared.operators.Op.TheVariants as op
use Rattle.lay_code.proofs.nodes.ExprsLaws.{behind_op, expr_cast_is, expr_chain_is, expr_postfix_is, expr_range_is}
use Rattle.lay_code.proofs.reader.ConditionsFronts.{Rising, OfAssign, OfCast, OfChain, OfLink, OfPostfix, OfRange, rising}
use Rattle.lay_code.proofs.reader.ExprClimb.{Known, Reach, Reaches, climb_ends, climb_skips}
use Rattle.lay_code.proofs.reader.ExprClimbKinds.{assign_reached, chain_reached, range_reached}
use Rattle.lay_code.proofs.reader.ExprComplete.{accept}
use Rattle.lay_code.proofs.reader.ExprFronts.{no_depth, placed_begins}
use Rattle.lay_code.proofs.reader.ExprHeadsJumps.{plain_followed}
use Rattle.lay_code.proofs.reader.ExprLeads.{expr_no_keyword}
use Rattle.lay_code.proofs.reader.ExprOperators.{at_op, not_at_level}
use Rattle.lay_code.proofs.reader.ExprOperatorsRows.{OperandFits, before_plain, before_tail, chain_before, first_sign, operands_fit}
use Rattle.lay_code.proofs.reader.ExprOperatorsTails.{before_parts, stands_parts}
use Rattle.lay_code.proofs.reader.ExprReads.{ExprReads, ReadsExprs}
use Rattle.lay_code.proofs.reader.ExprSoundStages.{base_within}
use Rattle.lay_code.proofs.reader.Followed.{Ended, ended_of, node_parts, root_of}

-- The one operator of the level of `&&` is `&&`.
pub and_and : (o : Op) → op_level o ≡ 3 → o ≡ op.AndAnd
and_and op.AndAnd h = refl
and_and _ h = absurd (cc)

below_three : (n : ℕ) → n ≤ 3 → (n ≡ 3 → ⊥) → n < 3
below_three n h f = omega (arith, h, f)

-- where a condition that is one expression stands
abbrev condition_place : Place
condition_place = plain 0 true

module _ (most : ℕ) (lower : ExprWithin) (reads : (depth : ℕ) → depth ≤ most → ExprReads depth lower) (within : ExprWithin)
    (exprs : (depth : ℕ) → depth ≤ suc most → ReadsExprs depth within)
    (goes : (lhs : Expr × ℕ) (ts : Tokens) → within.goes_on lhs ts ≡ climbed_on lower (suc most) lhs ts) where
  -- ---- links that are expressions

  -- Links without a `let` are read, which make this of what stands there.
  record LinksRead (ts : Tokens) (made : Expr × ℕ) (behind : Tokens) : Type 0 where
    link : ReadLink × ℕ
    mid : Tokens
    more : List (ReadLink × ℕ)
    read : one_link within ts ≡ Some (link, mid)
    further : further_links within mid ≡ Some (more, behind)
    no_let : any_let link more ≡ false
    made_of : chain_of link more ≡ made

  -- Reading begins with them where no range begins.
  abbrev Begun : Tokens → Expr × ℕ → Tokens → Type 0
  Begun ts made behind = begins_dots ts ≡ false → LinksRead ts made behind

  abbrev Reached : ℕ → ℕ → Expr → Tokens → Tokens → Type 0
  Reached = Reach lower condition_place 3 Begun

  link_made : (x : Expr) (n : ℕ) (ts mid : Tokens) → first (is_keyword (codes "let")) ts ≡ false → within.exprs (plain 4 true) ts ≡ Some ((x, n), mid)
      → link_ends (None, x) mid ≡ true → one_link within ts ≡ Some (((None, x), n), mid)
  unfolding one_link
  link_made x n ts mid l h e = rw (l, h, e) refl

  -- an expression that stands where a link does
  link_there : (depth : ℕ) → depth ≤ suc most → (x : Expr) (ts mid : Tokens) → Spells (about_expr x).form depth ts mid
      → placed (about_expr x) (plain 4 true) ≡ true → strength mid ≤ 4 → Ended (about_expr x).tail (about_expr x).form true depth ts mid
      → link_ends (None, x) mid ≡ true → IsRead depth (one_link within) (None, x) ts mid
  link_there depth le x ts mid s w weak tail ends =
      let follow = plain_followed (about_expr x) 4 true depth ts mid weak tail in
      let r = exprs depth le (plain 4 true) x ts mid s w follow in
      let lead = (placed_begins x (plain 4 true) depth ts mid s w).lead in
      (r.0, r.1, link_made x r.0 ts mid (expr_no_keyword (codes "let") (λ us. refl) ts (about_expr x).lead lead) r.2 ends)

  -- all further links, up to where none begins
  all_further : (found : List (ReadLink × ℕ)) (ts rest : Tokens) → Rows (Turn begins_link (λ us. one_link within (drop 2 us))) found ts rest
      → begins_link rest ≡ false → further_links within ts ≡ Some (found, rest)
  unfolding further_links
  all_further found ts rest r h = repeat_complete (λ us. one_link within (drop 2 us)) begins_link found ts rest r h

  -- What is of the level of links at least is one link.
  one_reached : (depth : ℕ) → depth ≤ suc most → (x : Expr) (level : ℕ) (start : Bool) (ts mid : Tokens) → nat_le 4 (about_expr x).level ≡ true
      → level ≤ 3 → Known lower condition_place level depth (about_expr x) start ts mid → Reached level depth x ts mid
  one_reached depth le x level start ts mid high below k =
      let F = about_expr x in
      let weak : strength mid ≤ 3 = omega (arith, k.weak, below) in
      let no_link : begins_link mid ≡ false = not_at_level 3 mid weak in
      let r = link_there depth le x ts mid k.spelled (rw (high, k.struct_free) within_there) (omega (arith, weak)) k.tail (rw no_link refl) in
      record {
        head = (x, r.0);
        behind = mid;
        need = r.0;
        least = r.1;
        begun = λ d. record {
          link = ((None, x), r.0);
          mid = mid;
          more = [];
          read = r.2;
          further = all_further [] mid mid refl no_link;
          no_let = refl;
          made_of = refl;
        };
        climbs = climb_skips lower condition_place 3 level (x, r.0) mid below k.weak;
      }
    where
      within_there : (about_expr x).within true false ≡ true
      within_there = elim (cases_Bool (nat_le 14 (about_expr x).level)) [
        | inl e ↦ base_within x true start false e k.inside
        | inr e ↦ subst (λ b. (about_expr x).within true b ≡ true) (k.starts e) k.inside
      ]

  -- ---- operands of `&&` as links

  -- Where an operand ends well before an `&&`, so does a link.
  ends_well : (x : ExprFacts) (ts : Tokens) → operand_ends 3 true x ts ≡ true → (if strength ts == 4 then stands x (link_place true) else true) ≡ true
  ends_well x ts h = by (strength ts == 4) h
    where
      by : (b : Bool) → (if b then not (3 == 4) && stands x (before_op 4 true false (is_angle ts)) else true) ≡ true
          → (if b then stands x (link_place true) else true) ≡ true
      by false e = refl
      by true e = let b = before_parts x 4 true false (is_angle ts) e in rw (b.high, b.shut, b.struct_free) refl

  -- operands, as links
  record FurtherRead (depth : ℕ) (ys : List (Op × Expr)) (ts rest : Tokens) : Type 0 where
    found : List (ReadLink × ℕ)
    operands : map (λ (n : ReadLink × ℕ). (op.AndAnd, n.0.1)) found ≡ ys
    no_let : list_any is_let (nodes found) ≡ false
    least : deepest found ≤ depth
    turns : Rows (Turn begins_link (λ us. one_link within (drop 2 us))) found ts rest

  module _ (depth : ℕ) (le : depth ≤ suc most) where
    further_there : (ys : List (Op × Expr)) (ts rest : Tokens) → Rows (OperandFits depth 3 true) ys ts rest → FurtherRead depth ys ts rest
    further_there [] ts rest r = record { found = []; operands = refl; no_let = refl; least = omega arith; turns = r }
    further_there (y ∷ ys) ts rest r =
        let mid = r.0 in
        let f = r.1 in
        let s = f.spelled in
        let at = s.0 in
        let level : op_level y.0 ≡ 3 = eqb-true (op_level y.0) 3 f.at in
        let same = and_and y.0 level in
        let a = at_op 3 y.0 ts at f.at s.1 in
        let left : drop 2 ts ≡ at = subst (λ (o : Op). drop (length (op_text o)) ts ≡ at) same a.left in
        let weak : strength mid ≤ 4 = leb-true (strength mid) 4 (root_of (about_expr y.1) (plain 4 true) depth at mid f.follow) in
        let tail = ended_of (about_expr y.1) (plain 4 true) depth at mid f.follow in
        let one = link_there depth le y.1 at mid s.2 f.there weak tail (ends_well (about_expr y.1) mid f.ends) in
        let more = further_there ys mid rest r.2 in
        record {
          found = ((None, y.1), one.0) ∷ more.found;
          operands = rw more.operands (ap (λ (o : Op). (o, y.1) ∷ ys) (sym same));
          no_let = more.no_let;
          least = omega (arith, one.1, more.least);
          turns = (
            mid,
            (eq-eqb (strength ts) 4 a.strength, rw left one.2, omega (arith, a.less, shorter (about_expr y.1).form depth at mid s.2)),
            more.turns,
          );
        }

  links_made : (x : Expr) (n : ℕ) (y : Op × Expr) (ys : List (Op × Expr)) (found : List (ReadLink × ℕ))
      → map (λ (m : ReadLink × ℕ). (op.AndAnd, m.0.1)) found ≡ y ∷ ys
      → chain_of ((None, x), n) found ≡ (expr.Chain x (y ∷ ys), suc (max n (deepest found)))
  links_made x n y ys [] e = absurd (cc)
  links_made x n y ys (m ∷ found) e = ap (λ (zs : List (Op × Expr)). (expr.Chain x zs, suc (max n (deepest (m ∷ found))))) e

  -- A chain of `&&` is links.
  links_reached : (depth : ℕ) → depth ≤ most → (x z : Expr) (ys : List (Op × Expr)) (level : ℕ) (start : Bool) (ts mid : Tokens) → level ≤ 3
      → Known lower condition_place level (suc depth) (about_expr (expr.Chain x ((op.AndAnd, z) ∷ ys))) start ts mid
      → Reached level (suc depth) (expr.Chain x ((op.AndAnd, z) ∷ ys)) ts mid
  links_reached depth le x z ys level start ts mid below known =
      let y : Op × Expr = (op.AndAnd, z) in
      let F = about_expr x in
      let os = map behind_op (y ∷ ys) in
      let k : Known lower condition_place level (suc depth) (expr_facts (Expr-F.Chain F os)) start ts mid =
      subst (λ (G : ExprFacts). Known lower condition_place level (suc depth) G start ts mid) (expr_chain_is x (y ∷ ys)) known in
      let layer : ExprLayer = Expr-F.Chain F os in
      let parts = chain_before true depth x y ys ts mid (node_parts (tail_of layer) true depth (inside layer) ts mid (k.spelled, k.tail)) in
      let at = parts.0 in
      let w3 = and_parts (is_chain_level 3 && may_chain 3 os && placed F (before_op 4 true start false)) (operands_placed 3 true os) k.inside in
      let w2 = and_parts (is_chain_level 3 && may_chain 3 os) (placed F (before_op 4 true start false)) w3.0 in
      let chains = (and_parts (is_chain_level 3) (may_chain 3 os) w2.0).1 in
      let there = subst (λ b. placed F (before_op 4 true b false) ≡ true) (k.starts refl) w2.1 in
      let stand = (and_parts (stands F (before_op 4 true false false)) (F.within true false) there).0 in
      let b = before_parts F 4 true false false stand in
      let sign = first_sign depth true y ys at mid parts.2 in
      let a = at_op 3 op.AndAnd at sign.0 refl sign.1 in
      let angled : is_angle at ≡ false = ap angle_by a.binary in
      let tail = before_tail F 4 true false false b at op.AndAnd a.binary angled in
      let ends : link_ends (None, x) at ≡ true = rw (eq-eqb (strength at) 4 a.strength) stand in
      let one =
      link_there depth (omega (arith, le)) x ts at parts.1 (before_plain F 4 true false there) (omega (arith, a.strength)) (inl tail) ends in
      let weak : strength mid ≤ 3 = omega (arith, k.weak, below) in
      let fit = operands_fit depth 3 true y ys at mid parts.2 w3.1 chains weak in
      let more = further_there depth (omega (arith, le)) (y ∷ ys) at mid fit in
      let need = suc (max one.0 (deepest more.found)) in
      record {
        head = (expr.Chain x (y ∷ ys), need);
        behind = mid;
        need = need;
        least = omega (arith, one.1, more.least);
        begun = λ d. record {
          link = ((None, x), one.0);
          mid = at;
          more = more.found;
          read = one.2;
          further = all_further more.found at mid more.turns (not_at_level 3 mid weak);
          no_let = more.no_let;
          made_of = links_made x one.0 y ys more.found more.operands;
        };
        climbs = climb_skips lower condition_place 3 level (expr.Chain x (y ∷ ys), need) mid below k.weak;
      }

  -- ---- every expression is reached

  -- `..` and `..=` begin a range.
  dots_there : (inclusive : Bool) (ts rest : Tokens) → AreBits (dots inclusive) ts rest → begins_dots ts ≡ true
  dots_there true ts rest s =
      let o : IsOperator (codes "..=") ts rest = bit_alone (Operator (codes "..=")) ts rest s in
      let n : is_op (codes "..") ts ≡ false = other_op (codes "..=") (codes "..") refl ts o.0 in
      rw (n, o.0) refl
  dots_there false ts rest s = let o : IsOperator (codes "..") ts rest = bit_alone (Operator (codes "..")) ts rest s in rw o.0 refl

  -- A range without a start begins with its operator.
  dots_reached : (inclusive : Bool) (end : Option Expr) (depth level : ℕ) (start : Bool) (ts mid : Tokens) → level ≤ 3
      → Known lower condition_place level (suc depth) (about_expr (expr.Range None inclusive end)) start ts mid
      → Reached level (suc depth) (expr.Range None inclusive end) ts mid
  dots_reached inclusive end depth level start ts mid below known =
      let x = expr.Range None inclusive end in
      let layer : ExprLayer = Expr-F.Range None inclusive (option_map about_expr end) in
      let k : Known lower condition_place level (suc depth) (expr_facts layer) start ts mid =
      subst (λ (G : ExprFacts). Known lower condition_place level (suc depth) G start ts mid) (expr_range_is None inclusive end) known in
      let deep = k.spelled in
      let t : Spells (inside layer) depth ts mid = subst (λ us. Spells (inside layer) depth ts us) deep.2 deep.1 in
      let there = dots_there inclusive ts t.0 t.1 in
      record {
        head = (x, 0);
        behind = mid;
        need = 0;
        least = omega arith;
        begun = λ d. let e = sym there ∙ d in absurd (cc);
        climbs = climb_skips lower condition_place 3 level (x, 0) mid below k.weak;
      }

  module _ (depth : ℕ) (le : depth ≤ most) (reaches : Reaches lower condition_place 3 Begun depth) where
    here : ExprReads depth lower
    here = reads depth le

    chain : (x : Expr) (ys : List (Op × Expr)) (level : ℕ) (start : Bool) (ts mid : Tokens) → level ≤ 3
        → nat_le 4 (about_expr (expr.Chain x ys)).level ≡ false → Known lower condition_place level (suc depth) (about_expr (expr.Chain x ys)) start ts mid
        → Reached level (suc depth) (expr.Chain x ys) ts mid
    chain x ys level start ts mid below low k = by ys low k (level_of_chain (map behind_op ys) == 3) refl
      where
        least : (zs : List (Op × Expr)) → nat_le 4 (about_expr (expr.Chain x zs)).level ≡ false → level_of_chain (map behind_op zs) ≤ 3
        least zs h =
            let e = subst (λ (G : ExprFacts). nat_le 4 G.level ≡ false) (expr_chain_is x zs) h in
            omega (arith, leb-false 4 (level_of_chain (map behind_op zs)) e)

        by : (zs : List (Op × Expr)) → nat_le 4 (about_expr (expr.Chain x zs)).level ≡ false
            → Known lower condition_place level (suc depth) (about_expr (expr.Chain x zs)) start ts mid
            → (b : Bool) → (level_of_chain (map behind_op zs) == 3) ≡ b → Reached level (suc depth) (expr.Chain x zs) ts mid
        by [] h known true e = absurd (cc)
        by ((o, z) ∷ zs) h known true e =
            let same = and_and o (eqb-true (op_level o) 3 e) in
            let Goal : Op → Type 0 =
            λ p. Known lower condition_place level (suc depth) (about_expr (expr.Chain x ((p, z) ∷ zs))) start ts mid
            → Reached level (suc depth) (expr.Chain x ((p, z) ∷ zs)) ts mid in
            subst Goal (sym same) (links_reached depth le x z zs level start ts mid below) known
        by zs h known false e =
            let not_three : level_of_chain (map behind_op zs) ≡ 3 → ⊥ =
            λ f. let g = sym e ∙ eq-eqb (level_of_chain (map behind_op zs)) 3 f in cc in
            chain_reached lower condition_place 3 Begun depth here reaches x zs (λ c. below_three (level_of_chain (map behind_op zs)) (least zs h) not_three)
            level start ts mid known

    reached : (x : Expr) → Rising x → (level : ℕ) (start : Bool) (ts mid : Tokens) → level ≤ 3 → nat_le 4 (about_expr x).level ≡ false
        → Known lower condition_place level (suc depth) (about_expr x) start ts mid → Reached level (suc depth) x ts mid
    reached _ (OfChain x more) level start ts mid below low k = chain x more level start ts mid below low k
    reached _ (OfRange None inclusive end) level start ts mid below low k = dots_reached inclusive end depth level start ts mid below k
    reached _ (OfRange (Some x) inclusive end) level start ts mid below low k =
        range_reached lower condition_place 3 Begun depth here reaches (omega arith) x inclusive end level start ts mid k
    reached _ (OfAssign targets x) level start ts mid below low k =
        assign_reached lower condition_place 3 Begun depth here reaches (omega arith) targets x level start ts mid k
    reached _ (OfCast x types) level start ts mid below low k =
        let e = sym (ap (λ (G : ExprFacts). nat_le 4 G.level) (expr_cast_is x types)) ∙ low in absurd (cc)
    reached _ (OfPostfix x steps) level start ts mid below low k =
        let e = sym (ap (λ (G : ExprFacts). nat_le 4 G.level) (expr_postfix_is x steps)) ∙ low in absurd (cc)
    reached _ (OfLink x high n) level start ts mid below low k = let e = sym high ∙ low in absurd (cc)

  all_reached : (depth : ℕ) → depth ≤ suc most → Reaches lower condition_place 3 Begun depth
  all_reached zero le x level start ts mid below k = absurd (no_depth x ts mid k.spelled)
  all_reached (suc depth) le x level start ts mid below k =
      by (all_reached depth (omega (arith, le))) (nat_le 4 (about_expr x).level) refl
    where
      by : Reaches lower condition_place 3 Begun depth → (b : Bool) → nat_le 4 (about_expr x).level ≡ b → Reached level (suc depth) x ts mid
      by reaches true e = one_reached (suc depth) le x level start ts mid e below k
      by reaches false e = reached depth (omega (arith, le)) reaches x (rising x) level start ts mid below e k

  -- ---- the whole

  -- a range without a start, and what goes on with it
  dots_made : (x : Expr) (n : ℕ) (ts rest : Tokens) → begins_dots ts ≡ true → within.exprs condition_place ts ≡ Some ((x, n), rest)
      → condition_by within ts ≡ Some ((alone x, n), rest)
  unfolding condition_by
  dots_made x n ts rest d h = rw (d, h) refl

  -- links, and what goes on with them
  links_read : (x : Expr) (n : ℕ) (made : Expr × ℕ) (ts behind rest : Tokens) → begins_dots ts ≡ false → LinksRead ts made behind
      → climb lower condition_place 3 made behind ≡ Some ((x, n), rest) → accepted (suc most) condition_place (x, n) rest ≡ Some ((x, n), rest)
      → condition_by within ts ≡ Some ((alone x, n), rest)
  unfolding condition_by condition_of
  links_read x n made ts behind rest d l c a = rw (d, l.read, l.further, l.no_let, l.made_of, goes made behind, c, a) refl

  -- An expression that is a condition is read as one.
  pub whole_read : (depth : ℕ) → depth ≤ suc most → (x : Expr) (ts rest : Tokens) → Spells (about_expr x).form depth ts rest
      → placed (about_expr x) condition_place ≡ true → (root_follows (about_expr x) condition_place rest && tail_follows (about_expr x).tail true rest) ≡ true
      → IsRead depth (condition_by within) (alone x) ts rest
  whole_read depth le x ts rest s w f = by (begins_dots ts) refl
    where
      by : (b : Bool) → begins_dots ts ≡ b → IsRead depth (condition_by within) (alone x) ts rest
      by true d = let r = exprs depth le condition_place x ts rest s w (inl f) in (r.0, r.1, dots_made x r.0 ts rest d r.2)
      by false d =
          let F = about_expr x in
          let p = and_parts (stands F condition_place) (F.within true false) w in
          let q = and_parts (root_follows F condition_place rest) (tail_follows F.tail true rest) f in
          let known : Known lower condition_place 0 depth F false ts rest = record {
            allowed = omega arith;
            high = le-leb 0 F.level (omega arith);
            starts = λ e. refl;
            goes_on = refl;
            spelled = s;
            inside = p.1;
            weak = leb-true (strength rest) 0 q.0;
            tail = inl q.1;
            struct_free = (stands_parts F condition_place p.0).struct_free;
          } in
          let h = all_reached depth le x 0 false ts rest (omega arith) known in
          let climbs = h.climbs ∙ climb_ends lower condition_place 0 (x, h.need) rest (omega arith) in
          let accepts = accept (suc most) condition_place x h.need rest p.0 q.0 (omega (arith, h.least, le)) in
          (h.need, h.least, links_read x h.need h.head ts h.behind rest d (h.begun d) climbs accepts)
