-- Where clauses: what is read within a budget stands there, at the depth that it needs.
use Rattle.std.proofs.Common.{drop, ◌≡◌, ℕ, zero, suc, ◌≤◌, max, Bool, true, false, not, ◌&&◌, ◌||◌, List, [], ◌∷◌, ◌⊎◌, inl, inr, map, codes, Option, option_map, Some, None, is_some, refl, sym, ap, subst, arith}
use Rattle.std.proofs.lemmas.Bool.{and_from}
use Rattle.lay_piece.specs.declared.kind.Kind.TheVariants as kind
use Rattle.lay_form.specs.Form.{Blank, Operator, Form, Done, Piece, Part, comma, keyword}
use Rattle.lay_form.specs.Notation.{when, wheres_spelled}
use Rattle.lay_form.specs.LastParts.{last_follows}
use Rattle.lay_form.specs.Spelled.{IsOne, IsOperator, Spells}
use Rattle.lay_form.proofs.FormLaws.{deeper as raise}
use Rattle.lay_node.specs.Ahead.{Tokens, first, tail, is_keyword, is_lifetime, is_mark}
use Rattle.lay_node.specs.Begins.{begins_predicate}
use Rattle.lay_node.specs.nodes.Generics.{are_bounds}
use Rattle.lay_node.specs.nodes.Types as types
use Rattle.lay_node.specs.nodes.Types.{about_type, about_func_param, abi_form, params_form, output_form, binder_form, is_binder, lifetimes_form, good_at}
use Rattle.lay_node.specs.nodes.Where.{WheresAt, outlives_form, meets_form, predicate_form, is_predicate, predicate_follow, last_predicate_follow, begins_last_part, are_predicates}
use Rattle.lay_node.specs.reader.Exact.{InText}
use Rattle.lay_node.specs.reader.Generics.{met}
use Rattle.lay_node.specs.reader.Loops.{nodes, deepest, open_elements}
use Rattle.lay_node.specs.reader.Types.{Within, binder, binder_if, if_there, lifetime, lifetimes, operator}
use Rattle.lay_node.specs.reader.Where.{lifetime_predicate, type_predicate, one_predicate, wheres, wheres_at}
use Rattle.lay_node.specs.declared.generics.Predicate.{Predicate}
use Rattle.lay_node.specs.declared.generics.Predicate.TheVariants as predicate
use Rattle.lay_node.specs.declared.generics.Wheres.{Wheres}
use Rattle.lay_node.specs.declared.token.Lifetime.{Lifetime}
use Rattle.lay_node.specs.declared.types.Binder.{Binder}
use Rattle.lay_node.specs.declared.types.Bound.{Bound}
use Rattle.lay_node.specs.declared.types.Ty.{Ty}
use Rattle.lay_node.specs.declared.types.TypePlace.TheVariants.{Bounds}
use Rattle.lay_node.proofs.Fronts.{keyword_one, one_front}
use Rattle.lay_node.proofs.Parts.{Rows, rows_map, bit_alone, SpelledAt, Further, each_comma_spelled}
use Rattle.lay_node.proofs.Steps.{got_same, same_some, chosen, bind_some}
use Rattle.lay_node.proofs.nodes.TypesLaws.{TyView, IsPath, IsCall, IsParen, IsTuple, IsNever, IsInfer, IsPtr, IsRef, IsSlice, IsArray, IsFunc, IsBounds, type_view, type_path_is, type_call_is, type_paren_is, type_tuple_is, type_never_is, type_infer_is, type_ptr_is, type_ref_is, type_slice_is, type_array_is, type_func_is, type_bounds_is}
use Rattle.lay_node.proofs.reader.Loops.{SoundStep}
use Rattle.lay_node.proofs.reader.GenericsSound.{MetHeld, met_sound}
use Rattle.lay_node.proofs.reader.TypesSound.{counted_sound, Deep, alone_sound}
use Rattle.lay_node.proofs.reader.TypesSoundOpen.{LastOpen, OpenBy, open_sound, open_held}
use Rattle.lay_node.proofs.reader.TypesSoundParts.{Out, bit_texts, operator_is, lifetime_sound, lifetimes_sound, binder_if_sound}
use Rattle.lay_node.proofs.reader.TypesSoundLevel.{SoundWithin}

-- ---- a binder before a function type

-- A type that is spelled where no `for` stands has no binder.
binds_not : (x : Ty) (n : ℕ) (ts rest : Tokens) → Spells (about_type x).told.form n ts rest
    → first (is_keyword (codes "for")) ts ≡ false → (about_type x).binds ≡ false
binds_not x n ts rest s h = by x (type_view x) s
  where
    word_there : (us : Tokens) → IsOne kind.Ident (codes "for") ts us → first (is_keyword (codes "for")) ts ≡ true
    word_there us o = rw (one_front kind.Ident (codes "for") ts us o).1 refl

    binder_there : (b : Binder) (f : Form) (n : ℕ) → Spells (types.deeper (binder_form (Some b) f)) n ts rest
        → first (is_keyword (codes "for")) ts ≡ true
    binder_there b f zero s = absurd s
    binder_there b f (suc k) s =
        let piece = s.1 in
        let word : IsOne kind.Ident (codes "for") ts piece.0 = bit_alone (keyword (codes "for")) ts piece.0 piece.1 in
        word_there piece.0 word

    by : (y : Ty) → TyView y → Spells (about_type y).told.form n ts rest → (about_type y).binds ≡ false
    by _ (IsPath p) s = ap (λ (z : types.TypeFacts). z.binds) (type_path_is p)
    by _ (IsCall c) s = ap (λ (z : types.TypeFacts). z.binds) (type_call_is c)
    by _ (IsParen y) s = ap (λ (z : types.TypeFacts). z.binds) (type_paren_is y)
    by _ (IsTuple ys) s = ap (λ (z : types.TypeFacts). z.binds) (type_tuple_is ys)
    by _ IsNever s = ap (λ (z : types.TypeFacts). z.binds) type_never_is
    by _ IsInfer s = ap (λ (z : types.TypeFacts). z.binds) type_infer_is
    by _ (IsPtr m y) s = ap (λ (z : types.TypeFacts). z.binds) (type_ptr_is m y)
    by _ (IsRef l m y) s = ap (λ (z : types.TypeFacts). z.binds) (type_ref_is l m y)
    by _ (IsSlice y) s = ap (λ (z : types.TypeFacts). z.binds) (type_slice_is y)
    by _ (IsArray y us) s = ap (λ (z : types.TypeFacts). z.binds) (type_array_is y us)
    by _ (IsBounds d bs) s = ap (λ (z : types.TypeFacts). z.binds) (type_bounds_is d bs)
    by _ (IsFunc None u a ps v o) s = ap (λ (z : types.TypeFacts). z.binds) (type_func_is None u a ps v o)
    by _ (IsFunc (Some b) u a ps v o) s =
        let f = subst (λ (z : types.TypeFacts). Spells z.told.form n ts rest) (type_func_is (Some b) u a ps v o) s in
        let there = binder_there b
        (when u (keyword (codes "unsafe") ∷ Blank ∷ []) (abi_form a
        (Piece (keyword (codes "fn") ∷ []) (Part (params_form (map about_func_param ps) v)
        (output_form (option_map about_type o)))))) n f in
        absurd (cc)

-- ---- predicates

-- A predicate stands there, within the budget.
abbrev PredicateHeld : ℕ → Predicate × ℕ → Tokens → Tokens → Type 0
PredicateHeld budget x ts rest =
    (x.1 ≤ budget) × Spells (predicate_form x.0) x.1 ts rest
    × (is_predicate x.0 ≡ true) × (predicate_follow x.0 rest ≡ true)

outlives_spelled : (ls : List Lifetime) (depth : ℕ) (ts at rest : Tokens) → IsOperator (codes ":") ts at
    → Spells (lifetimes_form ls) depth at rest
    → Spells (outlives_form ls) depth ts rest
outlives_spelled [] depth ts at rest o s = (at, (at, o, refl), s)
outlives_spelled (l ∷ ls) depth ts at rest o s = (at, (at, o, (at, refl, refl)), s)

meets_spelled : (budget : ℕ) (bs : List Bound) (n : ℕ) (ts at rest : Tokens) → IsOperator (codes ":") ts at
    → MetHeld budget (bs, n) at rest
    → Spells (meets_form bs) n ts rest
meets_spelled budget [] n ts at rest o k = (at, (at, o, refl), k.1)
meets_spelled budget (b ∷ bs) n ts at rest o k = (at, (at, o, (at, refl, refl)), (rest, k.1, refl))

-- Where no binder is read no `for` stands.
binder_left : (ts : Tokens) (b : Option Binder) (mid : Tokens) → binder_if ts ≡ Some (b, mid)
    → (is_some b ≡ true) ⊎ ((b ≡ None) × (ts ≡ mid) × (first (is_keyword (codes "for")) ts ≡ false))
binder_left ts b mid h = by (first (is_keyword (codes "for")) ts) refl h
  where
    by : (f : Bool) → first (is_keyword (codes "for")) ts ≡ f → if_there f binder ts ≡ Some (b, mid)
        → (is_some b ≡ true) ⊎ ((b ≡ None) × (ts ≡ mid) × (first (is_keyword (codes "for")) ts ≡ false))
    by true e h =
        let r = bind_some (binder ts) _ _ h in
        inl (same_some (λ (z : Option Binder × Tokens). is_some z.0 ≡ true) (Some r.0.0, r.0.1) (b, mid) r.2 refl)
    by false e h = let g = got_same {A = Option Binder} None b ts mid h in inr (sym g.0, g.1, e)

abbrev pub wheres_form : Wheres × Bool → Form
wheres_form x = wheres_spelled x.1 (map predicate_form x.0.predicates)

-- What holds of a where clause that is spelled with its last part or without it, and of what follows it.
abbrev pub GoodWheres : Wheres × Bool → Tokens → Type 0
GoodWheres x rest =
    (are_predicates x.0 ≡ true) × (last_follows x.1 (begins_last_part x.0.predicates) begins_predicate rest ≡ true)

module _ (budget : ℕ) (within : Within) (sound : SoundWithin budget within) where
  lifetime_predicate_sound : (ts : Tokens) (x : Predicate) (rest : Tokens) → InText ts
      → lifetime_predicate ts ≡ Some (x, rest)
      → Out (PredicateHeld budget) ts ((x, 0), rest)
  unfolding lifetime_predicate
  lifetime_predicate_sound ts x rest t h =
      let l = bind_some (lifetime ts) _ _ h in
      let c = bind_some (operator (codes ":") l.0.1) _ _ l.2 in
      let ls = bind_some (lifetimes c.0) _ _ c.2 in
      let s = lifetime_sound ts l.0.0 l.0.1 t l.1 in
      let o = operator_is (codes ":") l.0.1 c.0 c.1 in
      let k = lifetimes_sound c.0 ls.0.0 ls.0.1 (bit_texts (Operator (codes ":")) l.0.1 c.0 o s.1) ls.1 in
      same_some (λ (r : Predicate × Tokens). Out (PredicateHeld budget) ts ((r.0, 0), r.1))
      (predicate.Region l.0.0 ls.0.0, ls.0.1) (x, rest) ls.2
      ((omega arith, (l.0.1, (l.0.1, s.0, refl), outlives_spelled ls.0.0 0 l.0.1 c.0 ls.0.1 o k.0.0), refl, k.0.1), k.1)

  -- A binder before a function type is the predicate's own.
  binder_own : (ts : Tokens) (b : Option Binder) (mid : Tokens) (y : Ty) (n : ℕ) (rest : Tokens)
      → binder_if ts ≡ Some (b, mid)
      → Spells (about_type y).told.form n mid rest → (is_some b || not (about_type y).binds) ≡ true
  binder_own ts b mid y n rest h s = elim (binder_left ts b mid h) [
    | inl e ↦ or_true (is_some b) (not (about_type y).binds) e
    | inr e ↦
        let none = binds_not y n mid rest s (subst (λ us. first (is_keyword (codes "for")) us ≡ false) e.1 e.2) in
        true_or (is_some b) (not (about_type y).binds) (ap not none)
  ]
    where
      or_true : (a c : Bool) → a ≡ true → (a || c) ≡ true
      or_true true c e = refl
      or_true false c e = absurd (cc)

      true_or : (a c : Bool) → c ≡ true → (a || c) ≡ true
      true_or true c e = refl
      true_or false c e = e

  type_predicate_sound : SoundStep (type_predicate within) (PredicateHeld budget)
  unfolding type_predicate
  type_predicate_sound ts x rest t h =
      let b = bind_some (binder_if ts) _ _ h in
      let y = bind_some (within.types Bounds b.0.1) _ _ b.2 in
      let c = bind_some (operator (codes ":") y.0.1) _ _ y.2 in
      let bs = bind_some (met within c.0) _ _ c.2 in
      let bound = binder_if_sound ts b.0.0 b.0.1 t b.1 in
      let s = sound.types Bounds b.0.1 y.0.0 y.0.1 bound.1 y.1 in
      let o = operator_is (codes ":") y.0.1 c.0 c.1 in
      let k = met_sound budget within sound c.0 bs.0.0 bs.0.1 (bit_texts (Operator (codes ":")) y.0.1 c.0 o s.1) bs.1 in
      let told = about_type y.0.0.0 in
      let bounds = bs.0.0.0 in
      let most = max y.0.0.1 bs.0.0.1 in
      let F : Form = Part told.told.form (meets_form bounds) in
      let inner : Spells F most b.0.1 bs.0.1 = (
        y.0.1,
        raise told.told.form y.0.0.1 most b.0.1 y.0.1 (omega arith) s.0.1,
        raise (meets_form bounds) bs.0.0.1 most y.0.1 bs.0.1 (omega arith)
            (meets_spelled budget bounds bs.0.0.1 y.0.1 c.0 bs.0.1 o k.0),
      ) in
      let own = binder_own ts b.0.0 b.0.1 y.0.0.0 y.0.0.1 y.0.1 b.1 s.0.1 in
      let good = and_from (is_binder b.0.0 && good_at Bounds told && (is_some b.0.0 || not told.binds))
      (are_bounds bounds)
      (and_from (is_binder b.0.0 && good_at Bounds told) (is_some b.0.0 || not told.binds)
      (and_from (is_binder b.0.0) (good_at Bounds told) bound.0.1 s.0.2) own) k.0.2 in
      same_some (Out (PredicateHeld budget) ts) ((predicate.Bounded b.0.0 y.0.0.0 bounds, most), bs.0.1) (x, rest) bs.2
      ((omega (arith, s.0.0, k.0.0), bound.0.0 F most bs.0.1 inner, good, k.0.3), k.1)

  predicate_sound : SoundStep (one_predicate within) (PredicateHeld budget)
  predicate_sound ts x rest t h = elim (chosen (first is_lifetime ts) _ _ _ h) [
    | inl g ↦
        let p = bind_some (lifetime_predicate ts) _ _ g.1 in
        same_some (Out (PredicateHeld budget) ts) ((p.0.0, 0), p.0.1) (x, rest) p.2
        (lifetime_predicate_sound ts p.0.0 p.0.1 t p.1)
    | inr g ↦ type_predicate_sound ts x rest t g.1
  ]

  -- ---- a where clause

  last_held : (p : Predicate × ℕ) (ps : List (Predicate × ℕ)) (ts at rest : Tokens) → PredicateHeld budget p ts at
      → Rows (Further (PredicateHeld budget)) ps at rest
      → last_predicate_follow (nodes (p ∷ ps)) rest ≡ true
  last_held p [] ts at rest k r = subst (λ us. predicate_follow p.0 us ≡ true) r k.3
  last_held p (q ∷ qs) ts at rest k r = let row = r.1 in last_held q qs row.0 r.0 rest row.2 r.2

  nothing_more : (a b : Bool) → a ≡ false → b ≡ true → not (a || not b) ≡ true
  nothing_more a b x y = rw (x, y) refl

  comma_spelled : (last : Bool) (depth : ℕ) (ts rest : Tokens) → LastOpen begins_predicate last ts rest
      → Spells (when last comma Done) depth ts rest
  comma_spelled true depth ts rest l = (rest, (rest, l.0, refl), refl)
  comma_spelled false depth ts rest l = l.0

  follows_last : (last : Bool) (p : Predicate) (ps : List Predicate) (mid rest : Tokens)
      → LastOpen begins_predicate last mid rest
      → last_predicate_follow (p ∷ ps) mid ≡ true
      → last_follows last (begins_last_part (p ∷ ps)) begins_predicate rest ≡ true
  follows_last true p ps mid rest l f = ap not l.1
  follows_last false p ps mid rest l f =
      nothing_more (first (is_mark (codes ",")) rest) (last_predicate_follow (p ∷ ps) rest) l.1
      (subst (λ us. last_predicate_follow (p ∷ ps) us ≡ true) l.0 f)

  wheres_held : (ps : List (Predicate × ℕ)) (last : Bool) (ts at rest : Tokens) → IsOne kind.Ident (codes "where") ts at
      → OpenBy begins_predicate (PredicateHeld budget) ps last at rest
      → Deep wheres_form GoodWheres budget ((record { predicates = nodes ps }, last), deepest ps) ts rest
  wheres_held [] last ts at rest w r =
      let spelled : Spells (wheres_spelled true []) 0 ts rest = (at, (at, w, refl), r.1) in
      let good : GoodWheres (record { predicates = [] }, true) rest = (refl, ap not r.2) in (
        omega arith,
        subst (λ b. Spells (wheres_spelled b []) 0 ts rest) (sym r.0) spelled,
        subst (λ b. GoodWheres (record { predicates = [] }, b) rest) (sym r.0) good,
      )
  wheres_held (p ∷ ps) last ts at rest w r =
      let k = open_held begins_predicate budget predicate_form is_predicate (PredicateHeld budget)
      (λ q us mid s. (s.0, s.1, s.2)) (p ∷ ps) last at rest r in
      let depth = deepest (p ∷ ps) in
      let one = k.0 in
      let behind = one.2 in
      let forms = map predicate_form (nodes ps) in
      let rows = rows_map predicate_form (Further (SpelledAt depth)) (nodes ps) one.0 behind.0 behind.1 in
      let end = r.2 in (
        k.1,
        (
          rest,
          (
            at,
            (at, w, refl),
            (
              one.0,
              one.1,
              (
                behind.0,
                each_comma_spelled forms depth one.0 behind.0 rows,
                comma_spelled last depth behind.0 rest behind.2,
              ),
            ),
          ),
          refl,
        ),
        (k.2, follows_last last p.0 (nodes ps) end.0 rest end.2 (last_held p ps at r.0 end.0 r.1 end.1)),
      )

  pub wheres_sound : SoundStep (wheres within) (Deep wheres_form GoodWheres budget)
  unfolding wheres
  wheres_sound ts x rest t h =
      let P = Deep wheres_form GoodWheres budget in
      elim (chosen (first (is_keyword (codes "where")) ts) _ _ _ h) [
        | inl g ↦
            let ps = bind_some (open_elements begins_predicate (one_predicate within) (tail ts)) _ _ g.1 in
            let w = keyword_one (codes "where") ts g.0 in
            let r = open_sound begins_predicate (one_predicate within) (PredicateHeld budget)
            (λ us p end i b e. predicate_sound us p end i e)
            (tail ts) ps.0.0.0 ps.0.0.1 ps.0.1 (bit_texts (keyword (codes "where")) ts (tail ts) w t) ps.1 in
            same_some (Out P ts) (((record { predicates = nodes ps.0.0.0 }, ps.0.0.1), deepest ps.0.0.0), ps.0.1)
            (x, rest) ps.2
            (wheres_held ps.0.0.0 ps.0.0.1 ts (tail ts) ps.0.1 w r.0, r.1)
        | inr g ↦
            same_some (Out P ts) (((record { predicates = [] }, false), 0), ts) (x, rest) g.1
            ((omega arith, refl, (refl, ap not g.0)), t)
      ]

-- A where clause that is read stands there, spelled as the flag says.
abbrev pub WheresAlone : ℕ → (Wheres × Bool) × ℕ → Tokens → Tokens → Type 0
WheresAlone budget x ts rest =
    (x.1 ≤ budget) × Spells (types.deeper (wheres_spelled x.0.1 (map predicate_form x.0.0.predicates))) x.1 ts rest
    × (are_predicates x.0.0 ≡ true)
    × (last_follows x.0.1 (begins_last_part x.0.0.predicates) begins_predicate rest ≡ true)

pub wheres_at_sound : (budget : ℕ) → SoundStep (wheres_at budget) (WheresAlone budget)
wheres_at_sound budget ts x rest t h =
    let s = alone_sound wheres_form GoodWheres wheres wheres_sound budget ts x rest t h in
    let k = s.0 in ((k.0, k.1, k.2.0, k.2.1), s.1)

pub wheres_stand : (budget : ℕ) (ts : Tokens) (x : Wheres × Bool) (need : ℕ) (rest : Tokens) → InText ts
    → wheres_at budget ts ≡ Some ((x, need), rest)
    → (n : ℕ) × (drop n ts ≡ rest) × (need ≤ budget) × WheresAt x.1 x.0 ts n need
wheres_stand =
    counted_sound (λ (x : Wheres × Bool). types.deeper (wheres_form x)) (λ x. are_predicates x.0)
    (λ x. last_follows x.1 (begins_last_part x.0.predicates) begins_predicate) wheres_at wheres_at_sound
