-- Arms up to their comma: reading one within a match goes on from there; what is read stands there, and what stands there is
-- read.
use Rattle.std.proofs.Common.{◌≡◌, ℕ, zero, suc, ◌+◌, ◌-◌, ◌≤◌, max, Bool, true, false, not, ◌&&◌, ◌||◌, List, [], ◌∷◌, map, length, drop, codes, Option, option_map, Some, None, if◌then◌else◌, inl, inr, refl, sym, ap, subst, ◌∙◌, arith}
use Rattle.std.proofs.lemmas.Bool.{and_from, and_parts, not-true}
use Rattle.lay_piece.specs.declared.kind.Kind.TheVariants.{Ident, Punct}
use Rattle.lay_token.specs.Operators.{is_op}
use Rattle.lay_form.specs.Form.{Blank, Fixed, Operator, Form, Done, Part, Piece, comma, keyword}
use Rattle.lay_form.specs.Notation.{I0, when}
use Rattle.lay_form.specs.Spelled.{AreBits, IsOne, IsOperator, MayBrace, Spells, cost}
use Rattle.lay_form.proofs.FormLaws.{deeper as raise}
use Rattle.lay_node.specs.Ahead.{Tokens, at_end, first, is_keyword, is_mark, tail}
use Rattle.lay_node.specs.nodes.Attr.{are_attrs, attr_form}
use Rattle.lay_node.specs.nodes.Patterns.{about_pat, pat_form, pat_good}
use Rattle.lay_node.specs.reader.Attr.{attributes}
use Rattle.lay_node.specs.reader.Exact.{InText}
use Rattle.lay_node.specs.reader.Loops.{Read, ◌>>=◌}
use Rattle.lay_node.specs.reader.Types.{if_read}
use Rattle.lay_node.specs.declared.attr.Attr.{Attr}
use Rattle.lay_node.specs.declared.patterns.Pat.{Pat}
use Rattle.lay_node.specs.declared.patterns.PatPlace.TheVariants.{Alternatives}
use Rattle.lay_node.proofs.Fronts.{keyword_one, one_front, one_no_op, op_front, other_op}
use Rattle.lay_node.proofs.Parts.{before_blank, behind_attrs_spelled, behind_blank, bit_alone, part_alone}
use Rattle.lay_node.proofs.Steps.{bind_some, chosen, same_some}
use Rattle.lay_node.proofs.reader.Attr.{attributes_sound, attrs_spelled}
use Rattle.lay_node.proofs.reader.Exact.{IsRead}
use Rattle.lay_node.proofs.reader.PatternsFronts.{Fits}
use Rattle.lay_node.proofs.reader.TypesCompleteParts.{keyword_there, one_left}
use Rattle.lay_node.proofs.reader.TypesSoundParts.{Out, bit_texts, if_read_sound}
use Rattle.lay_code.specs.Operators.{is_dot_or_try}
use Rattle.lay_code.specs.nodes.Bodies.{braces_of, is_lone_body, is_macro}
use Rattle.lay_code.specs.nodes.Blocks.{guard_form, is_free}
use Rattle.lay_code.specs.nodes.Code.{about_arm, about_expr}
use Rattle.lay_code.specs.nodes.CodeFacts.{ArmFacts}
use Rattle.lay_code.specs.nodes.Exprs.{ExprFacts, Followed, follows, placed, value_placed}
use Rattle.lay_code.specs.nodes.Places.{FREE, statement}
use Rattle.lay_code.specs.reader.Blocks.{arm_body, arm_by, arm_end, body_need, undressed}
use Rattle.lay_code.specs.reader.Within.{ExprWithin}
use Rattle.lay_code.specs.declared.blocks.Arm.{Arm}
use Rattle.lay_code.specs.declared.exprs.Expr.{Expr}
use Rattle.lay_code.proofs.nodes.BlocksLaws.{arm_is}
use Rattle.lay_code.proofs.reader.ArmsComplete.{undress_dressed}
use Rattle.lay_code.proofs.reader.ArmsSoundBodies.{Peeled, peel}
use Rattle.lay_code.proofs.reader.Dressed.{alone_is_free, alone_is_lone, braced_no_macro, dress, dressed, dressed_no_macro, dressed_placed, is_alone, opens_take}
use Rattle.lay_code.proofs.reader.ExprQuiet.{comma_ends_expr, ends_follow}
use Rattle.lay_code.proofs.reader.ExprReads.{ExprReads}
use Rattle.lay_code.proofs.reader.ExprSoundLevel.{SoundExprWithin}
use Rattle.lay_code.proofs.reader.Followed.{root_of}
use Rattle.lay_code.proofs.reader.FrontsHeld.{fronts}
use Rattle.lay_code.proofs.reader.PatternEnds.{arrow_follows, if_follows}
use Rattle.lay_read_shared.specs.alone.ArmFronts.{alone_end, arm_alone, arm_begun, arm_follows, arm_shape, body_begun, in_braces, levels}
use Rattle.lay_read_shared.proofs.alone_lemmas.ArmBlocks.{alone_follows, lone_no_dot}
use Rattle.lay_read_shared.proofs.alone_lemmas.ArmShapes.{ShapeParts, Within, braces_spelled, levels_spelled, shape_parts}
use Rattle.lay_read_shared.proofs.alone_lemmas.Settled.{settled}

-- ---- an arm of a match is an arm up to its comma, and its end

-- A step is the same before what follows it, where each further step is.
bind_step : {A B C : Type 0} (o : Option A) (f : A → Option B) (g : A → Option C) (h : B → Option C)
    → ((x : A) → g x ≡ (f x >>= h)) → (o >>= g) ≡ ((o >>= f) >>= h)
bind_step None f g h e = refl
bind_step (Some x) f g h e = e x

abbrev with_end : ((Arm × Bool) × ℕ) × Tokens → Read Arm
with_end x = arm_end x.0.0.1 x.1 >>= (λ rest. Some ((x.0.0.0, x.0.1), rest))

module _ (within : ExprWithin) (attrs : List Attr) (pat : Pat) (l : ℕ) (guard : Option Expr) (m : ℕ) where
  abbrev whole_made : (Expr × ℕ) × Tokens → Read Arm
  whole_made x = Some ((record { attrs = attrs; pat = pat; guard = guard; body = x.0.0 }, max l (max m x.0.1)), x.1)

  abbrev begun_made : ((Expr × Bool) × ℕ) × Tokens → Read (Arm × Bool)
  begun_made x = Some (((record { attrs = attrs; pat = pat; guard = guard; body = x.0.0.0 }, x.0.0.1), max l (max m x.0.1)), x.1)

  body_is : (us : Tokens) → (arm_body within us >>= whole_made) ≡ ((body_begun within us >>= begun_made) >>= with_end)
  body_is us = by (within.exprs statement us)
    where
      ended : (y : Expr) (need : ℕ) (o : Option Tokens)
          → ((o >>= (λ rest. let found : Read Expr = Some ((y, need), rest) in found)) >>= whole_made)
          ≡ (o >>= (λ rest. let found : Read Arm = Some ((record { attrs = attrs; pat = pat; guard = guard; body = y }, max l (max m need)), rest) in found))
      ended y need None = refl
      ended y need (Some rest) = refl

      by : (o : Read Expr)
          → ((o >>= (λ x. arm_end (is_free (about_expr x.0.0)) x.1
          >>= (λ rest. let found : Read Expr = Some ((undressed (length us) x.0.0, body_need (is_lone_body (about_expr x.0.0).kind) x.0.1), rest) in found)))
          >>= whole_made)
          ≡ (((o >>= (λ x. let found : Read (Expr × Bool) =
          Some (((undressed (length us) x.0.0, is_free (about_expr x.0.0)), body_need (is_lone_body (about_expr x.0.0).kind) x.0.1), x.1) in found))
          >>= begun_made) >>= with_end)
      by None = refl
      by (Some x) =
          ended (undressed (length us) x.0.0) (body_need (is_lone_body (about_expr x.0.0).kind) x.0.1) (arm_end (is_free (about_expr x.0.0)) x.1)

  arrow_is : (b : Bool) (us : Tokens)
      → ((if b then arm_body within us else None) >>= whole_made) ≡ (((if b then body_begun within us else None) >>= begun_made) >>= with_end)
  arrow_is true us = body_is us
  arrow_is false us = refl

pub arm_by_is : (within : ExprWithin) (ts : Tokens)
    → arm_by within ts ≡ (arm_begun within ts >>= (λ x. arm_end x.0.0.1 x.1 >>= (λ rest. Some ((x.0.0.0, x.0.1), rest))))
unfolding arm_by arm_begun
arm_by_is within ts =
    bind_step (attributes false ts) _ _ with_end (λ a.
    bind_step (within.pats Alternatives a.1) _ _ with_end (λ p.
    bind_step (if_read (first (is_keyword (codes "if")) p.1) (λ us. within.exprs FREE (tail us)) p.1) _ _ with_end (λ g.
    arrow_is within a.0 p.0.0 p.0.1 g.0.0 g.0.1 (is_op (codes "=>") g.1) (drop 2 g.1))))

-- ---- what is read stands there

-- What follows a body may follow it without a comma, where the flag or the end lets it lack that.
abbrev Follows : ℕ → Bool → Expr → Tokens → Type 0
Follows pairs free y rest = first (is_mark (codes ",")) rest ≡ false → (free || at_end rest) ≡ true → arm_follows pairs false (about_expr y) rest ≡ true

-- A body stands there, within this many pairs of braces.
record BodyHeld (x : (Expr × Bool) × ℕ) (ts rest : Tokens) : Type 0 where
  pairs : ℕ
  may : MayBrace (braces_of (about_expr x.0.0).kind) pairs
  form : Spells (levels (cost pairs) (in_braces pairs (about_expr x.0.0).form)) x.1 ts rest
  stands : placed (about_expr x.0.0) statement ≡ true
  bare : is_lone_body (about_expr x.0.0).kind ≡ false
  behind : Follows pairs x.0.1 x.0.0 rest

cost_is : (k : ℕ) → 1 ≤ k → cost k ≡ k
cost_is zero le = absurd (omega (arith, le))
cost_is (suc k) le = refl

bare_follows : (y : Expr) (m : ℕ) (ts z : Tokens) → placed (about_expr y) statement ≡ true → Followed (about_expr y) statement m ts z
    → Follows 0 (is_free (about_expr y)) y z
bare_follows y m ts z w f c e =
    let told = about_expr y in
    let fits = follows told statement z in
    let none = not (first (is_mark (codes ",")) z) in
    let ends : (told.block_like || at_end z) ≡ true = by told.block_like (not (is_macro told.kind)) (at_end z) e in
    and_from (none && fits) (is_free told || at_end z) (and_from none fits (ap not c) (settled y m ts z w f ends)) e
  where
    by : (a b end : Bool) → ((a && b) || end) ≡ true → (a || end) ≡ true
    by true b end h = refl
    by false b end h = h

braced_follows : (k : ℕ) (free : Bool) (y : Expr) (z : Tokens) → 1 ≤ k → not (is_dot_or_try z) ≡ true → Follows k free y z
braced_follows zero free y z le d c e = absurd (omega (arith, le))
braced_follows (suc k) free y z le d c e = and_from (not (first (is_mark (codes ",")) z)) (not (is_dot_or_try z)) (ap not c) d

-- A body that is read stands there, at the depth that it needs.
body_by : (x y : Expr) (m : ℕ) (ts z : Tokens) → Peeled x y m ts z → placed (about_expr x) statement ≡ true
    → Followed (about_expr x) statement m ts z → BodyHeld ((y, is_free (about_expr x)), body_need (is_lone_body (about_expr x).kind) m) ts z
body_by x y m ts z p w f = by (is_lone_body (about_expr x).kind) refl
  where
    shape : (n : ℕ) → cost p.pairs ≤ n → m - p.pairs ≡ n - cost p.pairs
        → Spells (levels (cost p.pairs) (in_braces p.pairs (about_expr y).form)) n ts z
    shape n le e =
        let inner = braces_spelled p.pairs (m - p.pairs) (about_expr y).form ts p.at p.end z p.opens p.form p.closes in
        levels_spelled (cost p.pairs) n (in_braces p.pairs (about_expr y).form) ts z le
        (subst (λ d. Spells (in_braces p.pairs (about_expr y).form) d ts z) e inner)

    by : (b : Bool) → is_lone_body (about_expr x).kind ≡ b → BodyHeld ((y, is_free (about_expr x)), body_need b m) ts z
    by true h =
        let one = p.some h in
        let c = cost_is p.pairs one in
        record {
          pairs = p.pairs;
          may = p.may;
          form = shape m (omega (arith, c, p.le)) (omega (arith, c));
          stands = p.stands;
          bare = p.bare;
          behind = braced_follows p.pairs (is_free (about_expr x)) y z one (lone_no_dot x (is_alone x h) z (root_of (about_expr x) statement m ts z f));
        }
    by false h =
        let none = p.none h in
        let c : cost p.pairs ≡ 1 = ap cost none.0 in
        let there : Follows 0 (is_free (about_expr x)) y z =
        subst (λ v. Follows 0 (is_free (about_expr x)) v z) (sym none.1) (bare_follows x m ts z w f) in
        record {
          pairs = p.pairs;
          may = p.may;
          form = shape (suc m) (omega (arith, c)) (omega (arith, c, none.0));
          stands = p.stands;
          bare = p.bare;
          behind = subst (λ k. Follows k (is_free (about_expr x)) y z) (sym none.0) there;
        }

none_some : {A : Type 0} (x : A) (B : Type 0) → None ≡ Some x → B
none_some x B h = absurd (cc h)

-- An arm up to its comma stands there.
pub record ArmHeld (x : (Arm × Bool) × ℕ) (ts rest : Tokens) : Type 0 where
  pub pairs : ℕ
  pub may : MayBrace (braces_of (about_expr x.0.0.body).kind) pairs
  pub form : (ended : Bool) (end : Tokens) → Spells (when ended comma Done) x.1 rest end → Spells (arm_shape pairs ended x.0.0) x.1 ts end
  pub good : (about_arm x.0.0).good ≡ true
  pub behind : Follows pairs x.0.1 x.0.0.body rest

module _ (budget : ℕ) (within : ExprWithin) (sound : SoundExprWithin budget within) where
  body_begun_sound : (ts : Tokens) (x : (Expr × Bool) × ℕ) (rest : Tokens) → InText ts → body_begun within ts ≡ Some (x, rest) → Out BodyHeld ts (x, rest)
  body_begun_sound ts x rest t h =
      let e = bind_some (within.exprs statement ts) _ _ h in
      let s = sound.exprs statement ts e.0.0 e.0.1 t e.1 in
      let inner = e.0.0.0 in
      let y = undressed (length ts) inner in
      let p = peel (length ts) e.0.0.1 inner ts e.0.1 (omega arith) s.0.1 s.0.2 in
      same_some (Out BodyHeld ts) (((y, is_free (about_expr inner)), body_need (is_lone_body (about_expr inner).kind) e.0.0.1), e.0.1) (x, rest) e.2
      (body_by inner y e.0.0.1 ts e.0.1 p s.0.2 s.0.3, s.1)

  -- a guard, if there is one
  abbrev GuardHeld : Option Expr × ℕ → Tokens → Tokens → Type 0
  GuardHeld x ts rest =
      Spells (guard_form (option_map about_expr x.0)) x.1 ts rest × (value_placed (option_map about_expr x.0) ≡ true)

  guard_sound : (ts : Tokens) (x : Option Expr × ℕ) (rest : Tokens) → InText ts
      → if_read (first (is_keyword (codes "if")) ts) (λ us. within.exprs FREE (tail us)) ts ≡ Some (x, rest) → Out GuardHeld ts (x, rest)
  guard_sound ts x rest t h =
      if_read_sound GuardHeld (λ us. within.exprs FREE (tail us)) (first (is_keyword (codes "if")) ts) ts
      (λ b y mid e.
      let at = tail ts in
      let o = keyword_one (codes "if") ts b in
      let s = sound.exprs FREE at y mid (bit_texts (keyword (codes "if")) ts at o t) e in
      (((at, (ts, refl, (at, o, (at, refl, refl))), (mid, s.0.1, refl)), s.0.2), s.1))
      (λ b. (refl, refl)) t x rest h

  arm_good : (attrs : List Attr) → are_attrs false attrs ≡ true → (p : Bool) → p ≡ true → (guard : Option ExprFacts)
      → value_placed guard ≡ true → (told : ExprFacts) → placed told statement ≡ true → is_lone_body told.kind ≡ false
      → (are_attrs false attrs && p && value_placed guard && placed told statement && not (is_lone_body told.kind)) ≡ true
  arm_good attrs a p q guard g told s b =
      let g1 = and_from (are_attrs false attrs) p a q in
      let g2 = and_from (are_attrs false attrs && p) (value_placed guard) g1 g in
      let g3 = and_from (are_attrs false attrs && p && value_placed guard) (placed told statement) g2 s in
      and_from (are_attrs false attrs && p && value_placed guard && placed told statement) (not (is_lone_body told.kind)) g3 (ap not b)

  pub arm_begun_sound : (ts : Tokens) (x : (Arm × Bool) × ℕ) (rest : Tokens) → InText ts → arm_begun within ts ≡ Some (x, rest) → Out ArmHeld ts (x, rest)
  unfolding arm_begun
  arm_begun_sound ts x rest t h =
      let a = bind_some (attributes false ts) _ _ h in
      let p = bind_some (within.pats Alternatives a.0.1) _ _ a.2 in
      let g = bind_some (if_read (first (is_keyword (codes "if")) p.0.1) (λ us. within.exprs FREE (tail us)) p.0.1) _ _ p.2 in
      let at = drop 2 g.0.1 in
      let b = bind_some (if is_op (codes "=>") g.0.1 then body_begun within at else None) _ _ g.2 in
      let attrs = a.0.0 in
      let pat = p.0.0.0 in
      let guard = g.0.0.0 in
      let inner = b.0.0.0.0 in
      let free = b.0.0.0.1 in
      let stop = b.0.1 in
      let most = max p.0.0.1 (max g.0.0.1 b.0.0.1) in
      let outer = attributes_sound false most ts attrs a.0.1 t a.1 in
      let ps = sound.pats Alternatives a.0.1 p.0.0 p.0.1 outer.1 p.1 in
      let gs = guard_sound p.0.1 g.0.0 g.0.1 ps.1 g.1 in
      let before = attrs_spelled false most attrs ts a.0.1 outer.0 in
      let told = about_expr inner in
      let told_guard = option_map about_expr guard in
      elim (chosen (is_op (codes "=>") g.0.1) _ _ _ b.1) [
        | inl f ↦
            let o : IsOperator (codes "=>") g.0.1 at = (f.0, refl) in
            let bs = body_begun_sound at b.0.0 stop (bit_texts (Operator (codes "=>")) g.0.1 at o gs.1) f.1 in
            let P = pat_form Alternatives (about_pat pat) in
            let G = guard_form told_guard in
            let head : Spells (Part P G) most a.0.1 g.0.1 = (
              p.0.1,
              raise P p.0.0.1 most a.0.1 p.0.1 (omega arith) ps.0.1,
              raise G g.0.0.1 most p.0.1 g.0.1 (omega arith) gs.0.0,
            ) in
            let bits : AreBits (Blank ∷ Operator (codes "=>") ∷ Blank ∷ []) g.0.1 at = (g.0.1, refl, (at, o, (at, refl, refl))) in
            let made_arm : Arm = record { attrs = attrs; pat = pat; guard = guard; body = inner } in
            let B : Form = levels (cost bs.0.pairs) (in_braces bs.0.pairs told.form) in
            let body = raise B b.0.0.1 most at stop (omega arith) bs.0.form in
            let held : ArmHeld ((made_arm, free), most) ts stop = record {
              pairs = bs.0.pairs;
              may = bs.0.may;
              form = λ ended end c.
                  behind_attrs_spelled (map attr_form attrs)
                  (I0 (Part P G) (Piece (Blank ∷ Operator (codes "=>") ∷ Blank ∷ []) (Part B (when ended comma Done)))) most ts a.0.1 end before.0
                  (g.0.1, head, (at, bits, (stop, body, c)));
              good = ap (λ (F : ArmFacts). F.good) (arm_is made_arm)
                  ∙ arm_good attrs before.1 (pat_good Alternatives (about_pat pat)) ps.0.2 told_guard gs.0.1 told bs.0.stands bs.0.bare;
              behind = bs.0.behind;
            } in
            same_some (Out ArmHeld ts) (((made_arm, free), most), stop) (x, rest) b.2 (held, bs.1)
        | inr f ↦ none_some b.0 (Out ArmHeld ts (x, rest)) f.1
      ]

-- ---- what stands there is read

guard_word : (ts rest : Tokens) → AreBits (Blank ∷ keyword (codes "if") ∷ Blank ∷ []) ts rest → IsOne Ident (codes "if") ts rest
guard_word ts rest s = before_blank (keyword (codes "if")) ts rest (behind_blank (keyword (codes "if") ∷ Blank ∷ []) ts rest s)

module _ (depth : ℕ) (within : ExprWithin) (reads : (least : ℕ) → least ≤ depth → ExprReads least within) where
  here : ExprReads depth within
  here = reads depth (omega arith)

  body_made : (x y : Expr) (n : ℕ) (ts at : Tokens) → within.exprs statement ts ≡ Some ((x, n), at) → undressed (length ts) x ≡ y
      → body_begun within ts ≡ Some (((y, is_free (about_expr x)), body_need (is_lone_body (about_expr x).kind) n), at)
  body_made x y n ts at h u = rw (h, u) refl

  need_is : (k : ℕ) (y : Expr) (n : ℕ) → is_lone_body (about_expr y).kind ≡ false → (1 ≤ k → is_macro (about_expr y).kind ≡ false)
      → n ≤ (depth - cost k) + k → cost k ≤ depth → body_need (is_lone_body (about_expr (dress k y)).kind) n ≤ depth
  need_is zero y n h m le c = rw h (omega (arith, le, c))
  need_is (suc k) y n h m le c = rw (alone_is_lone (dress k y) (dressed_no_macro k y (m (omega arith)))) (omega (arith, le, c))

  depth_bound : (k : ℕ) → cost k ≤ depth → (depth - cost k) + k ≤ depth
  depth_bound zero h = omega (arith, h)
  depth_bound (suc k) h = omega (arith, h)

  -- A body within this many pairs of braces is read as that many blocks.
  body_read : (y : Expr) (k : ℕ) (ts rest : Tokens) → cost k ≤ depth → MayBrace (braces_of (about_expr y).kind) k
      → Within k (depth - cost k) (about_expr y).form ts rest → placed (about_expr y) statement ≡ true → is_lone_body (about_expr y).kind ≡ false
      → follows (about_expr (dress k y)) statement rest ≡ true
      → IsRead depth (body_begun within) (y, is_free (about_expr (dress k y))) ts rest
  body_read y k ts rest le may w p lone f =
      let x = dress k y in
      let no_macro = braced_no_macro k (about_expr y).kind may in
      let is = dressed k (depth - cost k) y ts w.at w.end rest w.opens w.form w.closes in
      let turns : k ≤ length ts = omega (arith, opens_take k ts w.at w.opens) in
      let bare = undress_dressed k (length ts) y turns lone no_macro in
      let r = (reads ((depth - cost k) + k) (depth_bound k le)).exprs statement x ts rest is (dressed_placed k y ∙ p) (inl f) in
      (body_need (is_lone_body (about_expr x).kind) r.0, need_is k y r.0 lone no_macro r.1 le, body_made x y r.0 ts rest r.2 bare)

  -- ---- what stands before the `=>`

  guard_read : (g : Option Expr) (ts rest : Tokens) → Spells (guard_form (option_map about_expr g)) depth ts rest → value_placed (option_map about_expr g) ≡ true
      → is_op (codes "=>") rest ≡ true → IsRead depth (λ us. if_read (first (is_keyword (codes "if")) us) (λ vs. within.exprs FREE (tail vs)) us) g ts rest
  guard_read None ts rest s g a =
      let no : first (is_keyword (codes "if")) rest ≡ false = rw (op_front (codes "=>") rest a).2 refl in (0, omega arith, rw (s, no) refl)
  guard_read (Some x) ts rest s g a =
      let o = guard_word ts s.0 s.1 in
      let x_spelled = part_alone (about_expr x).form depth s.0 rest s.2 in
      let r = here.exprs FREE x s.0 rest x_spelled g (inl (ends_follow (about_expr x) FREE rest (fronts.arrows rest a))) in
      (r.0, r.1, rw (keyword_there (codes "if") ts s.0 o, one_left Ident (codes "if") ts s.0 o, r.2) refl)

  pat_fits : (a : Arm) (ts rest : Tokens) → Spells (guard_form (option_map about_expr a.guard)) depth ts rest → is_op (codes "=>") rest ≡ true
      → Fits Alternatives (about_pat a.pat) ts
  pat_fits a ts rest s arrow = by a.guard s
    where
      by : (g : Option Expr) → Spells (guard_form (option_map about_expr g)) depth ts rest → Fits Alternatives (about_pat a.pat) ts
      by None t =
          let here : is_op (codes "=>") ts ≡ true = rw t arrow in
          (other_op (codes "=>") (codes "|") refl ts here, arrow_follows (about_pat a.pat) ts here)
      by (Some x) t =
          let o = guard_word ts t.0 t.1 in (one_no_op (codes "|") Ident (codes "if") ts t.0 refl o, if_follows (about_pat a.pat) ts t.0 o)

  -- ---- one arm

  arm_made : (a : Arm) (free : Bool) (l m n : ℕ) (ts p g at behind rest : Tokens) → attributes false ts ≡ Some (a.attrs, p)
      → within.pats Alternatives p ≡ Some ((a.pat, l), g)
      → if_read (first (is_keyword (codes "if")) g) (λ us. within.exprs FREE (tail us)) g ≡ Some ((a.guard, m), at) → IsOperator (codes "=>") at behind
      → body_begun within behind ≡ Some (((a.body, free), n), rest) → arm_begun within ts ≡ Some (((a, free), max l (max m n)), rest)
  unfolding arm_begun
  arm_made a free l m n ts p g at behind rest attrs pat guard o body = rw (attrs, pat, guard, o.0, o.1, body) refl

  arm_begun_read : (a : Arm) (pairs : ℕ) (ended : Bool) (ts rest : Tokens) → MayBrace (braces_of (about_expr a.body).kind) pairs
      → (p : ShapeParts a pairs ended depth ts rest) → follows (about_expr (dress pairs a.body)) statement p.stop ≡ true
      → IsRead depth (arm_begun within) (a, is_free (about_expr (dress pairs a.body))) ts p.stop
  arm_begun_read a pairs ended ts rest may p f =
      let arrow : is_op (codes "=>") p.guard ≡ true = p.is_arrow.0 in
      let pat = here.pats Alternatives a.pat p.seen p.pattern p.pat_there p.pat_held (pat_fits a p.pattern p.guard p.guard_there arrow) in
      let guard = guard_read a.guard p.pattern p.guard p.guard_there p.guard_held arrow in
      let body = body_read a.body pairs p.arrow p.stop p.le may p.body_there p.body_held p.bare f in (
        max pat.0 (max guard.0 body.0),
        omega (arith, pat.1, guard.1, body.1),
        arm_made a (is_free (about_expr (dress pairs a.body))) pat.0 guard.0 body.0 ts p.seen p.pattern p.guard p.arrow p.stop p.read pat.2 guard.2 p.is_arrow body.2,
      )

  -- What follows the body may follow it with its braces, and the end of the arm is read.
  end_read : (y : Expr) (pairs : ℕ) (ended : Bool) (stop rest : Tokens) → Spells (when ended comma Done) depth stop rest
      → arm_follows pairs ended (about_expr y) rest ≡ true
      → (follows (about_expr (dress pairs y)) statement stop ≡ true) × (alone_end (is_free (about_expr (dress pairs y))) stop ≡ Some rest)
  end_read y pairs true stop rest s f =
      let bits : AreBits comma stop rest = subst (λ us. AreBits comma stop us) s.2 s.1 in
      let o : IsOne Punct (codes ",") stop rest = bit_alone (Fixed Punct (codes ",")) stop rest bits in (
        ends_follow (about_expr (dress pairs y)) statement stop (comma_ends_expr false stop rest o),
        rw (one_front Punct (codes ",") stop rest o).1 refl,
      )
  end_read y zero false stop rest s f =
      let there = subst (λ us. arm_follows 0 false (about_expr y) us ≡ true) (sym s) f in
      let fits = follows (about_expr y) statement stop in
      let none = not (first (is_mark (codes ",")) stop) in
      let h = and_parts (none && fits) (is_free (about_expr y) || at_end stop) there in
      let k = and_parts none fits h.0 in
      (k.1, rw (not-true (first (is_mark (codes ",")) stop) k.0, h.1) (ap (λ (us : Tokens). let got : Option Tokens = Some us in got) s))
  end_read y (suc pairs) false stop rest s f =
      let there = subst (λ us. arm_follows (suc pairs) false (about_expr y) us ≡ true) (sym s) f in
      let none = not (first (is_mark (codes ",")) stop) in
      let k = and_parts none (not (is_dot_or_try stop)) there in (
        alone_follows (dress pairs y) stop k.1,
        rw (not-true (first (is_mark (codes ",")) stop) k.0, alone_is_free (dress pairs y)) (ap (λ (us : Tokens). let got : Option Tokens = Some us in got) s),
      )

  alone_made : (a : Arm) (free : Bool) (n : ℕ) (ts stop rest : Tokens) → arm_begun within ts ≡ Some (((a, free), n), stop) → alone_end free stop ≡ Some rest
      → arm_alone within ts ≡ Some ((a, n), rest)
  alone_made a free n ts stop rest h e = rw (h, e) refl

  -- An arm by itself is read.
  pub arm_alone_read : (a : Arm) (pairs : ℕ) (ended : Bool) (ts rest : Tokens) → MayBrace (braces_of (about_expr a.body).kind) pairs
      → Spells (arm_shape pairs ended a) depth ts rest → (about_arm a).good ≡ true → arm_follows pairs ended (about_expr a.body) rest ≡ true
      → IsRead depth (arm_alone within) a ts rest
  arm_alone_read a pairs ended ts rest may s g f =
      let p = shape_parts a pairs ended depth ts rest s g in
      let e = end_read a.body pairs ended p.stop rest p.comma_there f in
      let r = arm_begun_read a pairs ended ts rest may p e.0 in
      (r.0, r.1, alone_made a (is_free (about_expr (dress pairs a.body))) r.0 ts p.stop rest r.2 e.1)
