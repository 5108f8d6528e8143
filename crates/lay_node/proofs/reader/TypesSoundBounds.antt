-- Bounds, and what is asked of a name among arguments: what is read stands there, where what is one level deeper is
-- read so.
use Rattle.std.proofs.Common.{◌≡◌, ℕ, suc, ◌≤◌, Bool, true, false, not, ◌&&◌, List, [], ◌∷◌, inl, inr, map, drop, codes, Option, Some, refl, sym, ap, subst, ◌∙◌, arith}
use Rattle.std.proofs.lemmas.Bool.{and_from}
use Rattle.lay_piece.specs.declared.kind.Delim.TheVariants.{Paren}
use Rattle.lay_piece.specs.declared.kind.Kind.TheVariants as kind
use Rattle.lay_token.specs.Operators.{is_op}
use Rattle.lay_form.specs.Form.{Blank, Fixed, Operator, Form, Done, Piece, Part, keyword, opener, closer}
use Rattle.lay_form.specs.Notation.{B}
use Rattle.lay_form.specs.Spelled.{IsOperator, AreBits, Spells}
use Rattle.lay_node.specs.Ahead.{Tokens, first, tail, is_keyword, is_mark, is_lifetime, opens, closes}
use Rattle.lay_node.specs.Follow.{may_follow}
use Rattle.lay_node.specs.nodes.Facts.{Facts}
use Rattle.lay_node.specs.nodes.Types.{is_several, bounds_form, bounds_good, last_refuses, meets_form, bound_facts, constraint_facts, binder_form, is_binder, about_type, about_path, about_constraint, about_bound, alone, joined}
use Rattle.lay_node.specs.reader.Exact.{InText}
use Rattle.lay_node.specs.reader.Loops.{passed, nodes, deepest}
use Rattle.lay_node.specs.reader.Types.{Within, operator, flag, lifetime, chain, angled, binder_if, one_capture, begins_const, const, path, meets, one_bound, all_bounds, bounds_by, equal, constraint_by}
use Rattle.lay_node.specs.declared.types.Arg.TheOpen.{Bound-F, Constraint-F}
use Rattle.lay_node.specs.declared.types.Binder.{Binder}
use Rattle.lay_node.specs.declared.types.Bound.{Bound}
use Rattle.lay_node.specs.declared.types.Bound.TheVariants as bound
use Rattle.lay_node.specs.declared.types.Constraint.{Constraint}
use Rattle.lay_node.specs.declared.types.Constraint.TheVariants as constraint
use Rattle.lay_node.specs.declared.types.Path.{Path}
use Rattle.lay_node.specs.declared.types.PathStyle.TheVariants.{Kind}
use Rattle.lay_node.specs.declared.types.TypePlace.{TypePlace}
use Rattle.lay_node.specs.declared.types.TypePlace.TheVariants.{Bounds, NoBounds}
use Rattle.lay_node.proofs.Fronts.{keyword_one, mark_one, opens_one, closer_passed_is}
use Rattle.lay_node.proofs.Parts.{Rows}
use Rattle.lay_node.proofs.Steps.{same_some, chosen, bind_some}
use Rattle.lay_node.proofs.nodes.TypesLaws.{constraint_equal_is, constraint_equal_const_is, constraint_limit_is, bound_outlives_is, bound_meets_is, bound_captures_is}
use Rattle.lay_node.proofs.reader.Exact.{Stands}
use Rattle.lay_node.proofs.reader.Loops.{SoundStep}
use Rattle.lay_node.proofs.reader.TypesSoundNeeds.{Held, held, forms_of, goods_of, chained}
use Rattle.lay_node.proofs.reader.TypesSoundParts.{Out, bit_texts, operator_is, flag_leads, flag_texts, BehindOp, Chain, chain_sound, lifetime_sound, binder_if_sound, captured_sound, const_sound}
use Rattle.lay_node.proofs.reader.TypesSoundLevel.{asked, SoundWithin, bounds_refused}
use Rattle.lay_node.proofs.reader.TypesSoundPaths.{path_told, path_sound}

abbrev plus_lead : Form → Form
plus_lead f = B (Piece (Operator (codes "+") ∷ Blank ∷ []) f)

plus_leads : (f : Form) (depth : ℕ) (ts mid rest : Tokens) → IsOperator (codes "+") ts mid → Spells f depth mid rest
    → Spells (plus_lead f) depth ts rest
plus_leads f depth ts mid rest o s = (mid, (mid, o, (mid, refl, refl)), s)

-- Bounds stand there, within the budget.
abbrev pub BoundsHeld : ℕ → List Bound × ℕ → Tokens → Tokens → Type 0
BoundsHeld budget x ts rest =
    (x.1 ≤ budget) × Spells (bounds_form (map about_bound x.0)) x.1 ts rest × (bounds_good (map about_bound x.0) ≡ true)
    × (may_follow (last_refuses (map about_bound x.0)) rest ≡ true)

-- at a place: as many as there are, or one alone
abbrev pub placed : TypePlace → List Bound → Tokens → Bool
placed Bounds bounds rest = not (is_op (codes "+") rest)
placed NoBounds bounds rest = not (is_several (map about_bound bounds))

module _ (budget : ℕ) (within : Within) (sound : SoundWithin budget within) where
  -- ---- one bound

  record IsMeets (parens : Bool) (x : Bound × ℕ) (ts rest : Tokens) : Type 0 where
    maybe : Bool
    binder : Option Binder
    path : Path
    same : x.0 ≡ bound.Meets parens maybe binder path
    need : x.1 ≤ budget
    form : Spells (meets_form maybe binder (path_told Kind path).form) x.1 ts rest
    good : is_binder binder && (path_told Kind path).good ≡ true
    follows : may_follow (path_told Kind path).refuses rest ≡ true

  meets_sound : (parens : Bool) → SoundStep (meets within parens) (IsMeets parens)
  unfolding meets
  meets_sound parens ts x rest t h =
      let mark = is_mark (codes "?") in
      let bits = Fixed kind.Punct (codes "?") ∷ [] in
      let at = (flag mark ts).1 in
      let maybe = (flag mark ts).0 in
      let b = bind_some (binder_if at) _ _ h in
      let p = bind_some (path within Kind b.0.1) _ _ b.2 in
      let are : first mark ts ≡ true → AreBits bits ts (tail ts) = λ e. (tail ts, mark_one (codes "?") ts e, refl) in
      let s = binder_if_sound at b.0.0 b.0.1 (flag_texts mark bits ts are t) b.1 in
      let k = path_sound budget within sound Kind b.0.1 p.0.0 p.0.1 s.1 p.1 in
      let F : Form = Part (path_told Kind p.0.0.0).form Done in
      let led = s.0.0 F p.0.0.1 p.0.1 (p.0.1, k.0.1.0, refl) in
      let found : IsMeets parens (bound.Meets parens maybe b.0.0 p.0.0.0, p.0.0.1) ts p.0.1 = record {
        maybe = maybe;
        binder = b.0.0;
        path = p.0.0.0;
        same = refl;
        need = k.0.0;
        form = flag_leads mark bits ts are (binder_form b.0.0 F) p.0.0.1 p.0.1 led;
        good = and_from (is_binder b.0.0) (path_told Kind p.0.0.0).good s.0.1 k.0.1.1;
        follows = k.0.1.2;
      } in
      same_some (Out (IsMeets parens) ts) ((bound.Meets parens maybe b.0.0 p.0.0.0, p.0.0.1), p.0.1) (x, rest) p.2
      (found, k.1)

  pub bound_sound : SoundStep (one_bound within) (Held about_bound budget)
  unfolding one_bound
  bound_sound ts x rest t h = elim (chosen (first is_lifetime ts) _ _ _ h) [
    | inl g ↦
        let b = bind_some (lifetime ts) _ _ g.1 in
        let s = lifetime_sound ts b.0.0 b.0.1 t b.1 in
        let there : Stands (bound_facts (Bound-F.Outlives b.0.0)) 0 ts b.0.1 = ((b.0.1, s.0, refl), refl, refl) in
        same_some (Out (Held about_bound budget) ts) ((bound.Outlives b.0.0, 0), b.0.1) (x, rest) b.2 (
          held (about_bound (bound.Outlives b.0.0)) (bound_facts (Bound-F.Outlives b.0.0)) budget 0 ts b.0.1
              (bound_outlives_is b.0.0) (omega arith) there,
          s.1,
        )
    | inr g ↦ elim (chosen (first (is_keyword (codes "use")) ts) _ _ _ g.1) [
      | inl u ↦
          let b = bind_some (angled one_capture (tail ts)) _ _ u.1 in
          let o = keyword_one (codes "use") ts u.0 in
          let s = captured_sound (tail ts) b.0.0 b.0.1 (bit_texts (keyword (codes "use")) ts (tail ts) o t) b.1 in
          let there : Stands (bound_facts (Bound-F.Captures b.0.0)) 0 ts b.0.1 =
          ((tail ts, (tail ts, o, refl), (b.0.1, s.0.0, refl)), s.0.1, refl) in
          same_some (Out (Held about_bound budget) ts) ((bound.Captures b.0.0, 0), b.0.1) (x, rest) b.2 (
            held (about_bound (bound.Captures b.0.0)) (bound_facts (Bound-F.Captures b.0.0)) budget 0 ts b.0.1
                (bound_captures_is b.0.0) (omega arith) there,
            s.1,
          )
      | inr u ↦ elim (chosen (first (opens Paren) ts) _ _ _ u.1) [
        | inl f ↦
            let y = bind_some (meets within true (tail ts)) _ _ f.1 in
            let c = bind_some (passed (closes Paren) y.0.1) _ _ y.2 in
            let o = opens_one Paren ts t f.0 in
            let m = meets_sound true (tail ts) y.0.0 y.0.1 (bit_texts (opener Paren) ts (tail ts) o t) y.1 in
            let i = m.0 in
            let shut = closer_passed_is Paren y.0.1 c.0 m.1 c.1 in
            let told = bound_facts (Bound-F.Meets true i.maybe i.binder (about_path i.path)) in
            let there : Stands told y.0.0.1 ts c.0 = (
              (tail ts, (tail ts, o, refl), (y.0.1, i.form, (c.0, (c.0, shut, refl), refl))),
              i.good,
              refl,
            ) in
            same_some (Out (Held about_bound budget) ts) (y.0.0, c.0) (x, rest) c.2 (
              held (about_bound y.0.0.0) told budget y.0.0.1 ts c.0
                  (ap about_bound i.same ∙ bound_meets_is true i.maybe i.binder i.path) i.need there,
              bit_texts (closer Paren) y.0.1 c.0 shut m.1,
            )
        | inr f ↦
            let m = meets_sound false ts x rest t f.1 in
            let i = m.0 in
            let told = bound_facts (Bound-F.Meets false i.maybe i.binder (about_path i.path)) in (
              held (about_bound x.0) told budget x.1 ts rest
                  (ap about_bound i.same ∙ bound_meets_is false i.maybe i.binder i.path) i.need
                  (i.form, i.good, i.follows),
              m.1,
            )
      ]
    ]
  ]

  -- ---- several

  last_follows : (x : Bound × ℕ) (xs : List (Bound × ℕ)) (ts at rest : Tokens) → Held about_bound budget x ts at
      → Rows (BehindOp (codes "+") (Held about_bound budget)) xs at rest
      → may_follow (last_refuses (map about_bound (nodes (x ∷ xs)))) rest ≡ true
  last_follows x [] ts at rest k r = subst (λ us. may_follow (about_bound x.0).refuses us ≡ true) r k.1.2
  last_follows x (y ∷ ys) ts at rest k r = let row = r.1 in last_follows y ys row.0 r.0 rest row.2 r.2

  chain_held : (xs : List (Bound × ℕ)) (ts rest : Tokens) → Chain (codes "+") (Held about_bound budget) xs ts rest
      → BoundsHeld budget (nodes xs, deepest xs) ts rest
  chain_held [] ts rest c = absurd c
  chain_held (x ∷ xs) ts rest c =
      let k = chained budget (λ y. (about_bound y).form) (λ y. (about_bound y).good) (Held about_bound budget)
      (λ y us mid s. (s.0, s.1.0, s.1.1))
      (codes "+") plus_lead plus_leads (x ∷ xs) ts rest c in
      let ys = nodes (x ∷ xs) in (
        k.0,
        (
          rest,
          subst (λ fs. Spells (joined plus_lead fs) (deepest (x ∷ xs)) ts rest) (sym (forms_of about_bound ys)) k.1,
          refl,
        ),
        goods_of about_bound ys ∙ k.2,
        last_follows x xs ts c.0 rest c.1 c.2,
      )

  -- as many as there are
  abbrev pub AllHeld : List Bound × ℕ → Tokens → Tokens → Type 0
  AllHeld x ts rest = BoundsHeld budget x ts rest × (is_op (codes "+") rest ≡ false)

  pub bounds_sound : SoundStep (all_bounds within) AllHeld
  bounds_sound ts x rest t h =
      let xs = bind_some (chain (codes "+") (one_bound within) ts) _ _ h in
      let c = chain_sound (codes "+") (one_bound within) (Held about_bound budget)
      bound_sound ts xs.0.0 xs.0.1 t xs.1 in
      same_some (Out AllHeld ts) ((nodes xs.0.0, deepest xs.0.0), xs.0.1) (x, rest) xs.2
      ((chain_held xs.0.0 ts xs.0.1 c.0, c.2), c.1)

  abbrev pub PlacedHeld : TypePlace → List Bound × ℕ → Tokens → Tokens → Type 0
  PlacedHeld place x ts rest = BoundsHeld budget x ts rest × (placed place x.0 rest ≡ true)

  pub placed_sound : (place : TypePlace) → SoundStep (bounds_by within place) (PlacedHeld place)
  unfolding bounds_by
  placed_sound Bounds ts x rest t h = let s = bounds_sound ts x rest t h in ((s.0.0, ap not s.0.1), s.1)
  placed_sound NoBounds ts x rest t h =
      let y = bind_some (one_bound within ts) _ _ h in
      let s = bound_sound ts y.0.0 y.0.1 t y.1 in
      let k = s.0.1 in
      let one : BoundsHeld budget (y.0.0.0 ∷ [], y.0.0.1) ts y.0.1 = (
        s.0.0,
        (y.0.1, (y.0.1, k.0, refl), refl),
        and_from (about_bound y.0.0.0).good true k.1 refl,
        k.2,
      ) in
      same_some (Out (PlacedHeld NoBounds) ts) ((y.0.0.0 ∷ [], y.0.0.1), y.0.1) (x, rest) y.2 ((one, refl), s.1)

  -- ---- what is asked of a name

  -- a node one level deeper, from the facts about it
  deeper_held : (c : Constraint) (F : Facts) (n : ℕ) (ts rest : Tokens) → about_constraint c ≡ F → n ≤ budget
      → Stands F n ts rest
      → Held asked (suc budget) (c, suc n) ts rest
  deeper_held c F n ts rest e le s =
      held (asked c) (alone F) (suc budget) (suc n) ts rest (ap alone e) (omega (arith, le))
      ((rest, s.0, refl), s.1, s.2)

  equal_sound : (ts at : Tokens) (x : Constraint × ℕ) (rest : Tokens) → IsOperator (codes "=") ts at → InText at
      → equal within at ≡ Some (x, rest)
      → Out (Held asked (suc budget)) ts (x, rest)
  equal_sound ts at x rest o t h = elim (chosen (begins_const at) _ _ _ h) [
    | inl g ↦
        let c = bind_some (const at) _ _ g.1 in
        let s = const_sound at c.0.0 c.0.1 t c.1 in
        let there : Stands (constraint_facts (Constraint-F.EqualConst c.0.0)) 0 ts c.0.1 =
        ((at, (ts, refl, (at, o, (at, refl, refl))), (c.0.1, s.0.0, refl)), s.0.1, refl) in
        same_some (Out (Held asked (suc budget)) ts) ((constraint.EqualConst c.0.0, 1), c.0.1) (x, rest) c.2 (
          deeper_held (constraint.EqualConst c.0.0) (constraint_facts (Constraint-F.EqualConst c.0.0)) 0 ts c.0.1
              (constraint_equal_const_is c.0.0) (omega arith) there,
          s.1,
        )
    | inr g ↦
        let y = bind_some (within.types Bounds at) _ _ g.1 in
        let s = sound.types Bounds at y.0.0 y.0.1 t y.1 in
        let told = about_type y.0.0.0 in
        let there : Stands (constraint_facts (Constraint-F.Equal told)) y.0.0.1 ts y.0.1 =
        ((at, (ts, refl, (at, o, (at, refl, refl))), (y.0.1, s.0.1, refl)), s.0.2, bounds_refused told y.0.1 s.0.3) in
        same_some (Out (Held asked (suc budget)) ts) ((constraint.Equal y.0.0.0, suc y.0.0.1), y.0.1) (x, rest) y.2 (
          deeper_held (constraint.Equal y.0.0.0) (constraint_facts (Constraint-F.Equal told)) y.0.0.1 ts y.0.1
              (constraint_equal_is y.0.0.0) s.0.0 there,
          s.1,
        )
  ]

  pub constraint_sound : SoundStep (constraint_by within) (Held asked (suc budget))
  unfolding constraint_by
  constraint_sound ts x rest t h = elim (chosen (is_op (codes ":") ts) _ _ _ h) [
    | inl g ↦
        let at = drop 1 ts in
        let o : IsOperator (codes ":") ts at = (g.0, refl) in
        let bs = bind_some (all_bounds within at) _ _ g.1 in
        let s = bounds_sound at bs.0.0 bs.0.1 (bit_texts (Operator (codes ":")) ts at o t) bs.1 in
        let k = s.0.0 in
        let told = constraint_facts (Constraint-F.Limit (map about_bound bs.0.0.0)) in
        let there : Stands told bs.0.0.1 ts bs.0.1 = ((at, (at, o, (at, refl, refl)), (bs.0.1, k.1, refl)), k.2, k.3) in
        same_some (Out (Held asked (suc budget)) ts) ((constraint.Limit bs.0.0.0, suc bs.0.0.1), bs.0.1) (x, rest) bs.2
        (deeper_held (constraint.Limit bs.0.0.0) told bs.0.0.1 ts bs.0.1 (constraint_limit_is bs.0.0.0) k.0 there, s.1)
    | inr g ↦
        let o = bind_some (operator (codes "=") ts) _ _ g.1 in
        let mark = operator_is (codes "=") ts o.0 o.1 in
        equal_sound ts o.0 x rest mark (bit_texts (Operator (codes "=")) ts o.0 mark t) o.2
  ]
