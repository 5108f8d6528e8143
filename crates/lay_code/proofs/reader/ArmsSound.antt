-- Arms, and the matches that hold them: what is parsed stands there, if that holds one level
-- deeper.
use Rattle.std.proofs.Common.{◌≡◌, ℕ, zero, suc, ◌-◌, ◌≤◌, max, Bool, true, false, not, ◌&&◌, ◌||◌, List, [], ◌∷◌, ◌++◌, inl, inr, map, length, drop, codes, Option, option_map, Some, None, if◌then◌else◌, refl, sym, ap, subst, ◌∙◌, arith}
use Rattle.std.proofs.lemmas.Bool.{and_from}
use Rattle.lay_piece.specs.declared.kind.Delim.TheVariants.{Brace}
use Rattle.lay_piece.specs.declared.kind.Kind.TheVariants as kind
use Rattle.lay_token.specs.Operators.{is_op}
use Rattle.lay_form.specs.Form.{ArmComma, Blank, Body, Done, Fixed, Form, Operator, Part, Piece, closer, keyword, opener}
use Rattle.lay_form.specs.Notation.{I0, N}
use Rattle.lay_form.specs.Spelled.{AreBits, Closes, IsBehind, IsOperator, MayBrace, Opens, Spells, cost}
use Rattle.lay_form.proofs.FormLaws.{deeper as raise}
use Rattle.lay_node.specs.Ahead.{Tokens, first, tail, closes, is_keyword, is_mark, more_items, opens}
use Rattle.lay_node.specs.nodes.Attr.{are_attrs, attr_form}
use Rattle.lay_node.specs.nodes.Patterns.{about_pat, pat_form, pat_good}
use Rattle.lay_node.specs.reader.Attr.{attributes}
use Rattle.lay_node.specs.reader.Exact.{InText}
use Rattle.lay_node.specs.reader.Loops.{deepest, nodes, passed, repeat}
use Rattle.lay_node.specs.reader.Types.{if_read}
use Rattle.lay_node.specs.declared.attr.Attr.{Attr}
use Rattle.lay_node.specs.declared.patterns.PatPlace.TheVariants.{Alternatives}
use Rattle.lay_node.proofs.Fronts.{closer_passed_is, keyword_one, mark_one, opener_passed_is}
use Rattle.lay_node.proofs.Parts.{Rows, SpelledAt, behind_attrs_spelled, body_spelled, rows_joined}
use Rattle.lay_node.proofs.Steps.{bind_some, chosen, same_some}
use Rattle.lay_node.proofs.reader.Attr.{attributes_sound, attrs_spelled}
use Rattle.lay_node.proofs.reader.Loops.{repeat_sound}
use Rattle.lay_node.proofs.reader.TypesSoundParts.{Out, bit_texts, if_read_sound}
use Rattle.lay_code.specs.nodes.Bodies.{braces_of, is_lone_body}
use Rattle.lay_code.specs.nodes.Blocks.{arm_facts, arm_form, guard_form, is_free}
use Rattle.lay_code.specs.nodes.Code.{about_arm, about_expr}
use Rattle.lay_code.specs.nodes.CodeFacts.{ArmFacts}
use Rattle.lay_code.specs.nodes.Exprs.{ExprFacts, arm_forms, arms_good, inside as inside_of, placed, value_placed}
use Rattle.lay_code.specs.nodes.Places.{FREE, plain, statement}
use Rattle.lay_code.specs.reader.Blocks.{arm_body, arm_by, arm_end, body_need, undressed}
use Rattle.lay_code.specs.reader.Exprs.{match_expr}
use Rattle.lay_code.specs.reader.Within.{ExprWithin}
use Rattle.lay_code.specs.declared.blocks.Arm.{Arm}
use Rattle.lay_code.specs.declared.blocks.Stmt.TheOpen.{Expr-F}
use Rattle.lay_code.specs.declared.exprs.Expr.{Expr}
use Rattle.lay_code.specs.declared.exprs.Expr.TheVariants as expr
use Rattle.lay_code.proofs.nodes.BlocksLaws.{arm_is}
use Rattle.lay_code.proofs.nodes.ExprsLaws.{expr_match_is}
use Rattle.lay_code.proofs.reader.ArmsSoundBodies.{Peeled, peel}
use Rattle.lay_code.proofs.reader.ExprSoundLevel.{LeftHeld, SoundExprWithin, made}

none_some : {A : Type 0} (x : A) (B : Type 0) → None ≡ Some x → B
none_some x B h = absurd (cc h)

-- ---- bodies

-- the form of the body of an arm
abbrev body_form : Expr → Bool → Form
body_form y last =
    Body (braces_of (about_expr y).kind) (ArmComma last (is_free (about_expr y))) (about_expr y).form Done

within_pairs : (y : Expr) (last : Bool) (n k : ℕ) (ts a b z mid : Tokens) → MayBrace (braces_of (about_expr y).kind) k → cost k ≤ n
    → Opens k ts a → Spells (about_expr y).form (n - cost k) a b → Closes k b z
    → IsBehind (ArmComma last (is_free (about_expr y))) k z mid → Spells (body_form y last) n ts mid
within_pairs y last n k ts a b z mid may le o s c behind = (k, may, le, (z, (a, o, (b, s, c)), (mid, behind, refl)))

-- A body that is read spells the arm's body at the depth that it needs.
body_by : (x y : Expr) (m : ℕ) (last : Bool) (ts z mid : Tokens) → (p : Peeled x y m ts z)
    → ((k : ℕ) → (k ≡ 0 → y ≡ x) → IsBehind (ArmComma last (is_free (about_expr y))) k z mid)
    → Spells (body_form y last) (body_need (is_lone_body (about_expr x).kind) m) ts mid
body_by x y m last ts z mid p behind = by (is_lone_body (about_expr x).kind) refl
  where
    told : ExprFacts
    told = about_expr y

    braced : (k : ℕ) → 1 ≤ k → k ≤ m → MayBrace (braces_of told.kind) k → Opens k ts p.at → Spells told.form (m - k) p.at p.end
        → Closes k p.end z → Spells (body_form y last) m ts mid
    braced zero one le may o s c = absurd (omega (arith, one))
    braced (suc k) one le may o s c =
        within_pairs y last m (suc k) ts p.at p.end z mid may le o s c (behind (suc k) (λ e. absurd (omega (arith, e))))

    by : (b : Bool) → is_lone_body (about_expr x).kind ≡ b → Spells (body_form y last) (body_need b m) ts mid
    by true h = braced p.pairs (p.some h) p.le p.may p.opens p.form p.closes
    by false h =
        let bare = p.none h in
        let may = subst (MayBrace (braces_of told.kind)) bare.0 p.may in
        let o = subst (λ k. Opens k ts p.at) bare.0 p.opens in
        let c = subst (λ k. Closes k p.end z) bare.0 p.closes in
        let depth : m - p.pairs ≡ suc m - 1 = omega (arith, bare.0) in
        let s = subst (λ d. Spells told.form d p.at p.end) depth p.form in
        within_pairs y last (suc m) 0 ts p.at p.end z mid may (omega arith) o s c (behind 0 (λ e. bare.1))

-- ---- the comma after a body

or_true : (b : Bool) → (b || true) ≡ true
or_true true = refl
or_true false = refl

or_left : (a b : Bool) → (a || b) ≡ true → b ≡ false → (a || false) ≡ true
or_left true b h n = refl
or_left false b h n = absurd (cc (sym n ∙ h))

more_open : (ts : Tokens) → more_items ts ≡ true → first (closes Brace) ts ≡ false
more_open [] h = absurd (cc h)
more_open (t ∷ ts) h = by (closes Brace t) h
  where
    by : (b : Bool) → not b ≡ true → b ≡ false
    by false h = refl
    by true h = absurd (cc h)

no_comma : (x y : Expr) (last : Bool) (k : ℕ) (z : Tokens) → (is_free (about_expr x) || first (closes Brace) z) ≡ true
    → (last ≡ false → more_items z ≡ true) → (k ≡ 0 → y ≡ x) → IsBehind (ArmComma last (is_free (about_expr y))) k z z
no_comma x y true k z f e same = inl (refl, refl)
no_comma x y false (suc k) z f e same = inl (or_true (is_free (about_expr y)), refl)
no_comma x y false zero z f e same =
    let free = or_left (is_free (about_expr x)) (first (closes Brace) z) f (more_open z (e refl)) in
    inl (subst (λ (v : Expr). (is_free (about_expr v) || false) ≡ true) (sym (same refl)) free, refl)

module _ (budget : ℕ) (within : ExprWithin) (sound : SoundExprWithin budget within) where
  -- The body of an arm stands there, whether the arm is the last, where nothing more stands after the last alone.
  record BodyHeld (x : Expr × ℕ) (ts rest : Tokens) : Type 0 where
    form : (last : Bool) → (last ≡ false → more_items rest ≡ true) → Spells (body_form x.0 last) x.1 ts rest
    stands : placed (about_expr x.0) statement ≡ true
    bare : is_lone_body (about_expr x.0).kind ≡ false

  arm_body_sound : (ts : Tokens) (x : Expr × ℕ) (rest : Tokens) → InText ts → arm_body within ts ≡ Some (x, rest)
      → Out BodyHeld ts (x, rest)
  arm_body_sound ts x rest t h =
      let e = bind_some (within.exprs statement ts) _ _ h in
      let c = bind_some (arm_end (is_free (about_expr e.0.0.0)) e.0.1) _ _ e.2 in
      let s = sound.exprs statement ts e.0.0 e.0.1 t e.1 in
      let inner = e.0.0.0 in
      let z = e.0.1 in
      let y = undressed (length ts) inner in
      let need = body_need (is_lone_body (about_expr inner).kind) e.0.0.1 in
      let p = peel (length ts) e.0.0.1 inner ts z (omega arith) s.0.1 s.0.2 in
      elim (chosen (first (is_mark (codes ",")) z) _ _ _ c.1) [
        | inl g ↦
            let mark = mark_one (codes ",") z g.0 in
            let held : BodyHeld (y, need) ts (tail z) = record {
              form = λ last l. body_by inner y e.0.0.1 last ts z (tail z) p (λ k same. inr (tail z, mark, refl));
              stands = p.stands;
              bare = p.bare;
            } in
            let out : Out BodyHeld ts ((y, need), tail z) = (held, bit_texts (Fixed kind.Punct (codes ",")) z (tail z) mark s.1) in
            same_some (Out BodyHeld ts) ((y, need), c.0) (x, rest) c.2
            (same_some (λ us. Out BodyHeld ts ((y, need), us)) (tail z) c.0 g.1 out)
        | inr g ↦ elim (chosen (is_free (about_expr inner) || first (closes Brace) z) _ _ _ g.1) [
          | inl f ↦
              let held : BodyHeld (y, need) ts z = record {
                form = λ last l. body_by inner y e.0.0.1 last ts z z p (λ k same. no_comma inner y last k z f.0 l same);
                stands = p.stands;
                bare = p.bare;
              } in
              let out : Out BodyHeld ts ((y, need), z) = (held, s.1) in
              same_some (Out BodyHeld ts) ((y, need), c.0) (x, rest) c.2
              (same_some (λ us. Out BodyHeld ts ((y, need), us)) z c.0 f.1 out)
          | inr f ↦ absurd (cc f.1)
        ]
      ]

  -- ---- arms

  -- a guard, if there is one
  abbrev GuardHeld : Option Expr × ℕ → Tokens → Tokens → Type 0
  GuardHeld x ts rest =
      Spells (guard_form (option_map about_expr x.0)) x.1 ts rest × (value_placed (option_map about_expr x.0) ≡ true)

  guard_sound : (ts : Tokens) (x : Option Expr × ℕ) (rest : Tokens) → InText ts
      → if_read (first (is_keyword (codes "if")) ts) (λ us. within.exprs FREE (tail us)) ts ≡ Some (x, rest) → Out GuardHeld ts (x, rest)
  guard_sound ts x rest t h =
      if_read_sound GuardHeld (λ us. within.exprs FREE (tail us)) (first (is_keyword (codes "if")) ts) ts
      (λ b y mid e.
      let at = tail ts in
      let o = keyword_one (codes "if") ts b in
      let s = sound.exprs FREE at y mid (bit_texts (keyword (codes "if")) ts at o t) e in
      (((at, (ts, refl, (at, o, (at, refl, refl))), (mid, s.0.1, refl)), s.0.2), s.1))
      (λ b. (refl, refl)) t x rest h

  -- An arm stands there, the last one or not.
  record ArmRow (x : Arm × ℕ) (ts rest : Tokens) : Type 0 where
    more : more_items ts ≡ true
    form : (last : Bool) → (last ≡ false → more_items rest ≡ true) → Spells ((about_arm x.0).form last) x.1 ts rest
    good : (about_arm x.0).good ≡ true

  arm_told : (x : Arm) (n : ℕ) (F : ArmFacts) (ts rest : Tokens) → about_arm x ≡ F → more_items ts ≡ true
      → ((last : Bool) → (last ≡ false → more_items rest ≡ true) → Spells (F.form last) n ts rest) → F.good ≡ true → ArmRow (x, n) ts rest
  arm_told x n F ts rest e m form good =
      let P : ArmFacts → Type 0 =
      λ z. ((last : Bool) → (last ≡ false → more_items rest ≡ true) → Spells (z.form last) n ts rest) × (z.good ≡ true) in
      let both = subst P (sym e) (form, good) in record { more = m; form = both.0; good = both.1 }

  arm_sound : (ts : Tokens) (x : Arm × ℕ) (rest : Tokens) → InText ts → more_items ts ≡ true → arm_by within ts ≡ Some (x, rest)
      → Out ArmRow ts (x, rest)
  unfolding arm_by
  arm_sound ts x rest t m h =
      let a = bind_some (attributes false ts) _ _ h in
      let p = bind_some (within.pats Alternatives a.0.1) _ _ a.2 in
      let g = bind_some (if_read (first (is_keyword (codes "if")) p.0.1) (λ us. within.exprs FREE (tail us)) p.0.1) _ _ p.2 in
      let at = drop 2 g.0.1 in
      let b = bind_some (if is_op (codes "=>") g.0.1 then arm_body within at else None) _ _ g.2 in
      let attrs = a.0.0 in
      let pat = p.0.0.0 in
      let guard = g.0.0.0 in
      let inner = b.0.0.0 in
      let end = b.0.1 in
      let most = max p.0.0.1 (max g.0.0.1 b.0.0.1) in
      let outer = attributes_sound false most ts attrs a.0.1 t a.1 in
      let ps = sound.pats Alternatives a.0.1 p.0.0 p.0.1 outer.1 p.1 in
      let gs = guard_sound p.0.1 g.0.0 g.0.1 ps.1 g.1 in
      let before = attrs_spelled false most attrs ts a.0.1 outer.0 in
      let told = about_expr inner in
      let told_guard = option_map about_expr guard in
      elim (chosen (is_op (codes "=>") g.0.1) _ _ _ b.1) [
        | inl f ↦
            let o : IsOperator (codes "=>") g.0.1 at = (f.0, refl) in
            let bs = arm_body_sound at b.0.0 end (bit_texts (Operator (codes "=>")) g.0.1 at o gs.1) f.1 in
            let P = pat_form Alternatives (about_pat pat) in
            let G = guard_form told_guard in
            let head : Spells (Part P G) most a.0.1 g.0.1 = (
              p.0.1,
              raise P p.0.0.1 most a.0.1 p.0.1 (omega arith) ps.0.1,
              raise G g.0.0.1 most p.0.1 g.0.1 (omega arith) gs.0.0,
            ) in
            let bits : AreBits (Blank ∷ Operator (codes "=>") ∷ Blank ∷ []) g.0.1 at = (g.0.1, refl, (at, o, (at, refl, refl))) in
            let made_arm : Arm = record { attrs = attrs; pat = pat; guard = guard; body = inner } in
            let F = arm_facts (record { attrs = attrs; pat = pat; guard = told_guard; body = told }) in
            let form : (last : Bool) → (last ≡ false → more_items end ≡ true) → Spells (arm_form attrs pat told_guard told last) most ts end =
            λ last l.
            behind_attrs_spelled (map attr_form attrs)
            (I0 (Part P G) (Piece (Blank ∷ Operator (codes "=>") ∷ Blank ∷ []) (N (body_form inner last)))) most ts a.0.1 end before.0
            (g.0.1, head, (at, bits, raise (body_form inner last) b.0.0.1 most at end (omega arith) (bs.0.form last l))) in
            let good = arm_good attrs before.1 (pat_good Alternatives (about_pat pat)) ps.0.2 told_guard gs.0.1 told bs.0.stands bs.0.bare in
            same_some (Out ArmRow ts) ((made_arm, most), end) (x, rest) b.2
            (arm_told made_arm most F ts end (arm_is made_arm) m form good, bs.1)
        | inr f ↦ none_some b.0 (Out ArmRow ts (x, rest)) f.1
      ]
    where
      arm_good : (attrs : List Attr) → are_attrs false attrs ≡ true → (p : Bool) → p ≡ true → (guard : Option ExprFacts)
          → value_placed guard ≡ true → (told : ExprFacts) → placed told statement ≡ true → is_lone_body told.kind ≡ false
          → (are_attrs false attrs && p && value_placed guard && placed told statement && not (is_lone_body told.kind)) ≡ true
      arm_good attrs a p q guard g told s b =
          let g1 = and_from (are_attrs false attrs) p a q in
          let g2 = and_from (are_attrs false attrs && p) (value_placed guard) g1 g in
          let g3 = and_from (are_attrs false attrs && p && value_placed guard) (placed told statement) g2 s in
          and_from (are_attrs false attrs && p && value_placed guard && placed told statement) (not (is_lone_body told.kind)) g3 (ap not b)

  arms_spelled : (most : ℕ) (xs : List (Arm × ℕ)) (ts rest : Tokens) → deepest xs ≤ most → Rows ArmRow xs ts rest
      → Rows (SpelledAt most) (arm_forms (map about_arm (nodes xs))) ts rest
  arms_spelled most [] ts rest le r = r
  arms_spelled most (x ∷ []) ts rest le r =
      let form = r.1.form true (λ e. absurd (cc e)) in
      (r.0, raise ((about_arm x.0).form true) x.1 most ts r.0 (omega (arith, le)) form, r.2)
  arms_spelled most (x ∷ y ∷ xs) ts rest le r =
      let form = r.1.form false (λ e. r.2.1.more) in (
        r.0,
        raise ((about_arm x.0).form false) x.1 most ts r.0 (omega (arith, le)) form,
        arms_spelled most (y ∷ xs) r.0 rest (omega (arith, le)) r.2,
      )

  arms_stand : (xs : List (Arm × ℕ)) (ts rest : Tokens) → Rows ArmRow xs ts rest → arms_good (map about_arm (nodes xs)) ≡ true
  arms_stand [] ts rest r = refl
  arms_stand (x ∷ xs) ts rest r =
      and_from (about_arm x.0).good (arms_good (map about_arm (nodes xs))) r.1.good (arms_stand xs r.0 rest r.2)

  -- ---- matches

  module _ (no_struct starts : Bool) where
    abbrev Left : Expr × ℕ → Tokens → Tokens → Type 0
    Left = LeftHeld no_struct starts

    pub match_head : (ts : Tokens) → InText ts → first (is_keyword (codes "match")) ts ≡ true → (x : Expr × ℕ) (rest : Tokens)
        → match_expr within (tail ts) ≡ Some (x, rest) → Out Left ts (x, rest)
    unfolding match_expr
    match_head ts t g x rest h =
        let at = tail ts in
        let word = keyword_one (codes "match") ts g in
        let e = bind_some (within.exprs (plain 0 true) at) _ _ h in
        let i = bind_some (passed (opens Brace) e.0.1) _ _ e.2 in
        let a = bind_some (attributes true i.0) _ _ i.2 in
        let r = bind_some (repeat more_items (arm_by within) a.0.1) _ _ a.2 in
        let c = bind_some (passed (closes Brace) r.0.1) _ _ r.2 in
        let s = sound.exprs (plain 0 true) at e.0.0 e.0.1 (bit_texts (keyword (codes "match")) ts at word t) e.1 in
        let told = about_expr e.0.0.0 in
        let attrs = a.0.0 in
        let xs = r.0.0 in
        let arms = map about_arm (nodes xs) in
        let most = max e.0.0.1 (deepest xs) in
        let opened = opener_passed_is Brace e.0.1 i.0 s.1 i.1 in
        let outer = attributes_sound true most i.0 attrs a.0.1 (bit_texts (opener Brace) e.0.1 i.0 opened s.1) a.1 in
        let rs = repeat_sound more_items (arm_by within) ArmRow arm_sound a.0.1 xs r.0.1 outer.1 r.1 in
        let shut = closer_passed_is Brace r.0.1 c.0 rs.1 c.1 in
        let before = attrs_spelled true most attrs i.0 a.0.1 outer.0 in
        let lines = map attr_form attrs ++ arm_forms arms in
        let rows = rows_joined (SpelledAt most) (map attr_form attrs) (arm_forms arms) i.0 a.0.1 r.0.1 before.0
        (arms_spelled most xs a.0.1 r.0.1 (omega arith) rs.0) in
        let blank : AreBits (Blank ∷ []) e.0.1 e.0.1 = (e.0.1, refl, refl) in
        let held = body_spelled (Blank ∷ []) [] lines most e.0.1 e.0.1 i.0 i.0 r.0.1 c.0 blank opened refl rows shut in
        let head : Spells (Piece (keyword (codes "match") ∷ Blank ∷ []) (Part told.form Done)) most ts e.0.1 = (
          at,
          (at, word, (at, refl, refl)),
          (e.0.1, raise told.form e.0.0.1 most at e.0.1 (omega arith) s.0.1, refl),
        ) in
        let form : Spells (inside_of (Expr-F.Match told attrs arms)) most ts c.0 = (e.0.1, head, held) in
        let good = and_from (placed told (plain 0 true) && are_attrs true attrs) (arms_good arms)
        (and_from (placed told (plain 0 true)) (are_attrs true attrs) s.0.2 before.1) (arms_stand xs a.0.1 r.0.1 rs.0) in
        same_some (Out Left ts) ((expr.Match e.0.0.0 attrs (nodes xs), suc most), c.0) (x, rest) c.2 (
          made no_struct starts (about_expr (expr.Match e.0.0.0 attrs (nodes xs))) (Expr-F.Match told attrs arms) most ts c.0
              (expr_match_is e.0.0.0 attrs (nodes xs)) form good refl,
          bit_texts (closer Brace) r.0.1 c.0 shut rs.1,
        )
