-- Patterns, kind by kind: what is read stands there, where what is one level deeper is read so.
use Rattle.std.proofs.Common.{◌≡◌, ℕ, zero, suc, Bool, true, false, not, ◌&&◌, ◌||◌, List, [], ◌∷◌, inl, inr, map, codes, option_map, Some, None, refl, sym, ap, subst, ◌∙◌, arith}
use Rattle.std.proofs.lemmas.Bool.{and_from}
use Rattle.lay_piece.specs.declared.kind.Delim.TheVariants.{Paren, Bracket}
use Rattle.lay_piece.specs.declared.kind.Kind.{Kind}
use Rattle.lay_piece.specs.declared.kind.Kind.TheVariants as kind
use Rattle.lay_form.specs.Form.{Blank, Fixed, Form, Done, Piece, Part, keyword, opener, closer}
use Rattle.lay_form.specs.Notation.{piece, comma_list}
use Rattle.lay_form.specs.Spelled.{IsOne, IsBit, AreBits, Spells}
use Rattle.lay_form.proofs.FormLaws.{is_end}
use Rattle.lay_node.specs.Ahead.{Tokens, first, tail, is_keyword, is_mark, opens, closes}
use Rattle.lay_node.specs.Begins.{begins_value}
use Rattle.lay_node.specs.Follow.{begins_dots, goes_on_pattern}
use Rattle.lay_node.specs.Words.{leaf_of}
use Rattle.lay_node.specs.nodes.Call.{about_call}
use Rattle.lay_node.specs.nodes.Patterns.{PatFacts, all_pats_good, bound_form, one_form, pat_facts, pat_form, pat_forms, pat_good, tuple_form, about_pat}
use Rattle.lay_node.specs.nodes.Types as types
use Rattle.lay_node.specs.reader.Call.{call}
use Rattle.lay_node.specs.reader.Exact.{InText}
use Rattle.lay_node.specs.reader.Loops.{passed, nodes, deepest, elements}
use Rattle.lay_node.specs.reader.Patterns.{PatWithin, alone_of, begins_bind, call_pat, is_underscore, is_underscore_kind, paren_by, paren_pat, pat_by, ref_pat, single_by, slice_pat, tuple_of, word_led}
use Rattle.lay_node.specs.reader.Types.{begins_call, flag}
use Rattle.lay_node.specs.declared.patterns.FieldPat.TheOpen.{Pat-F}
use Rattle.lay_node.specs.declared.patterns.Pat.{Pat}
use Rattle.lay_node.specs.declared.patterns.Pat.TheVariants as pat
use Rattle.lay_node.specs.declared.patterns.PatPlace.TheVariants.{Alternatives, Single}
use Rattle.lay_node.proofs.Fronts.{texts_behind, keyword_one, mark_one, opens_one, closes_one, one_front, mark_passed_is}
use Rattle.lay_node.proofs.Steps.{same_some, chosen, bind_some}
use Rattle.lay_node.proofs.nodes.PatternsLaws.{PatView, IsOr, IsValue, IsWild, IsRest, IsCall, IsPath, IsBind, IsSpan, IsRef, IsStruct, IsTupleStruct, IsTuple, IsParen, IsSlice, pat_view, pat_or_is, pat_value_is, pat_wild_is, pat_rest_is, pat_call_is, pat_path_is, pat_bind_is, pat_span_is, pat_ref_is, pat_struct_is, pat_tuple_struct_is, pat_tuple_is, pat_paren_is, pat_slice_is}
use Rattle.lay_node.proofs.reader.Call.{call_sound}
use Rattle.lay_node.proofs.reader.Loops.{SoundStep}
use Rattle.lay_node.proofs.reader.PatternsSoundBinds.{marked_bind_sound}
use Rattle.lay_node.proofs.reader.PatternsSoundFields.{path_pat_sound}
use Rattle.lay_node.proofs.reader.PatternsSoundLevel.{SoundPatWithin, PatHeld, PatOpen, follows_parts, open_held, open_told, pat_list, shut_open}
use Rattle.lay_node.proofs.reader.PatternsSoundSpans.{no_start, span_sound, value_pat_sound}
use Rattle.lay_node.proofs.reader.TypesSoundKinds.{bracket_shuts, only_first}
use Rattle.lay_node.proofs.reader.TypesSoundNeeds.{list_held, listed}
use Rattle.lay_node.proofs.reader.TypesSoundParts.{Out, bit_texts, flag_leads, flag_texts, ElementsBy, behind_comma, elements_by}
use Rattle.lay_node.proofs.reader.TypesSoundPaths.{paren_shuts}

-- ---- the first token

underscore_kind : (k : Kind) → is_underscore_kind k ≡ true → k ≡ kind.Underscore
underscore_kind kind.Underscore h = refl
underscore_kind _ h = absurd (cc)

underscore_one : (ts : Tokens) → InText ts → first is_underscore ts ≡ true
    → IsOne kind.Underscore (codes "_") ts (tail ts)
underscore_one [] t h = absurd (cc)
underscore_one (u ∷ us) t h = only_first kind.Underscore (codes "_") refl u us t (underscore_kind u.kind h)

-- ---- a pattern after a `&` that doesn't begin with `mut`

-- A pattern that is spelled where no `mut` stands doesn't begin with it.
begins_not : (x : Pat) (n : ℕ) (ts rest : Tokens) → Spells (about_pat x).told.form n ts rest
    → first (is_keyword (codes "mut")) ts ≡ false → (about_pat x).begins_mut ≡ false
begins_not x n ts rest s h = by x (pat_view x) s
  where
    word_there : (us : Tokens) → IsOne kind.Ident (codes "mut") ts us → first (is_keyword (codes "mut")) ts ≡ true
    word_there us o = rw (one_front kind.Ident (codes "mut") ts us o).1 refl

    mut_there : (f : Form) (n : ℕ)
        → Spells (types.deeper (Piece (keyword (codes "mut") ∷ Blank ∷ []) f)) n ts rest
        → first (is_keyword (codes "mut")) ts ≡ true
    mut_there f zero s = absurd s
    mut_there f (suc k) s = let bits = s.1.1 in word_there bits.0 bits.1

    by : (y : Pat) → PatView y → Spells (about_pat y).told.form n ts rest → (about_pat y).begins_mut ≡ false
    by _ (IsOr xs) s = ap (λ (z : PatFacts). z.begins_mut) (pat_or_is xs)
    by _ (IsValue v) s = ap (λ (z : PatFacts). z.begins_mut) (pat_value_is v)
    by _ IsWild s = ap (λ (z : PatFacts). z.begins_mut) pat_wild_is
    by _ IsRest s = ap (λ (z : PatFacts). z.begins_mut) pat_rest_is
    by _ (IsCall c) s = ap (λ (z : PatFacts). z.begins_mut) (pat_call_is c)
    by _ (IsPath p) s = ap (λ (z : PatFacts). z.begins_mut) (pat_path_is p)
    by _ (IsBind true m w o) s = ap (λ (z : PatFacts). z.begins_mut) (pat_bind_is true m w o)
    by _ (IsBind false false w o) s = ap (λ (z : PatFacts). z.begins_mut) (pat_bind_is false false w o)
    by _ (IsBind false true w o) s =
        let f = subst (λ (z : PatFacts). Spells z.told.form n ts rest) (pat_bind_is false true w o) s in
        let there = mut_there (leaf_of w.raw w.text (bound_form (option_map about_pat o))) n f in
        absurd (cc)
    by _ (IsSpan a i e) s = ap (λ (z : PatFacts). z.begins_mut) (pat_span_is a i e)
    by _ (IsRef m y) s = ap (λ (z : PatFacts). z.begins_mut) (pat_ref_is m y)
    by _ (IsStruct p fs r) s = ap (λ (z : PatFacts). z.begins_mut) (pat_struct_is p fs r)
    by _ (IsTupleStruct p xs) s = ap (λ (z : PatFacts). z.begins_mut) (pat_tuple_struct_is p xs)
    by _ (IsTuple xs) s = ap (λ (z : PatFacts). z.begins_mut) (pat_tuple_is xs)
    by _ (IsParen y) s = ap (λ (z : PatFacts). z.begins_mut) (pat_paren_is y)
    by _ (IsSlice xs) s = ap (λ (z : PatFacts). z.begins_mut) (pat_slice_is xs)

-- the facts about each kind of pattern in parentheses
abbrev paren_form : PatFacts → Form
paren_form x = Piece (opener Paren ∷ []) (Part (pat_form Alternatives x) (piece (closer Paren ∷ [])))

abbrev listed_pats : List Pat → List Form
listed_pats xs = pat_forms Alternatives (map about_pat xs)

module _ (budget : ℕ) (within : PatWithin) (sound : SoundPatWithin budget within) where
  abbrev OpenStep : Tokens → Pat × ℕ → Tokens → Type 0
  OpenStep ts x rest = Out (PatOpen (suc budget)) ts (x, rest)

  call_pat_sound : SoundStep call_pat (PatOpen (suc budget))
  call_pat_sound ts x rest t h =
      let c = bind_some (call ts) _ _ h in
      let s = call_sound 0 ts c.0.0 c.0.1 t c.1 in
      let told = about_call c.0.0 in
      same_some (Out (PatOpen (suc budget)) ts) ((pat.Call c.0.0, 1), c.0.1) (x, rest) c.2 (
        shut_open budget (about_pat (pat.Call c.0.0)) told.form told.good 0 ts c.0.1 (pat_call_is c.0.0) (omega arith)
            s.0 s.1,
        texts_behind ts c.0.1 (is_end told.form 0 ts c.0.1 s.0) t,
      )

  -- ---- references

  -- by whether a `mut` stands after the `&`
  mut_kept : (at : Tokens) (b : Bool) → first (is_keyword (codes "mut")) at ≡ b → (x : Pat) (n : ℕ) (rest : Tokens)
      → Spells (about_pat x).told.form n (flag (is_keyword (codes "mut")) at).1 rest
      → ((flag (is_keyword (codes "mut")) at).0 || not (about_pat x).begins_mut) ≡ true
  mut_kept at true e x n rest s = rw e refl
  mut_kept at false e x n rest s =
      let f : Spells (about_pat x).told.form n at rest = rw e at s in
      rw (e, begins_not x n at rest f e) refl

  ref_sound : (ts at : Tokens) → IsOne kind.Punct (codes "&") ts at → InText at → (x : Pat × ℕ) (rest : Tokens)
      → ref_pat within at ≡ Some (x, rest) → OpenStep ts x rest
  unfolding ref_pat
  ref_sound ts at o t x rest h =
      let mark = is_keyword (codes "mut") in
      let bits = keyword (codes "mut") ∷ Blank ∷ [] in
      let mid = (flag mark at).1 in
      let mutable = (flag mark at).0 in
      let are : first mark at ≡ true → AreBits bits at (tail at) =
      λ e. (tail at, keyword_one (codes "mut") at e, (tail at, refl, refl)) in
      let y = bind_some (within.pats Single mid) _ _ h in
      let s = sound.pats Single mid y.0.0 y.0.1 (flag_texts mark bits at are t) y.1 in
      let inner = y.0.0.0 in
      let need = y.0.0.1 in
      let told = about_pat inner in
      let k = follows_parts told y.0.1 s.0.3 in
      let F : Form = Part (pat_form Single told) Done in
      let led = flag_leads mark bits at are F need y.0.1 (y.0.1, s.0.1, refl) in
      elim (chosen told.span _ _ _ y.2) [
        | inl g ↦ absurd (cc g.1)
        | inr g ↦
            same_some (Out (PatOpen (suc budget)) ts) ((pat.Ref mutable inner, suc need), y.0.1) (x, rest) g.1 (
              open_told (suc budget) (about_pat (pat.Ref mutable inner)) (pat_facts (Pat-F.Ref mutable told))
                  (suc need) ts y.0.1 (pat_ref_is mutable inner) (record {
                    need = omega (arith, s.0.0);
                    form = (y.0.1, (at, (at, o, refl), led), refl);
                    good =
                        and_from (pat_good Single told && not told.span) (mutable || not told.begins_mut)
                        (and_from (pat_good Single told) (not told.span) s.0.2 (ap not g.0))
                        (mut_kept at (first mark at) refl inner need y.0.1 s.0.1);
                    single = refl;
                    no_end = k.no_end;
                    no_bound = k.no_bound;
                    refused = k.refused;
                  }),
              s.1,
            )
      ]

  -- ---- parentheses

  one_held : (x : Pat × ℕ) (ts inside mid at rest : Tokens) → IsBit (opener Paren) ts inside
      → PatHeld Alternatives budget x inside mid → IsOne kind.Punct (codes ",") mid at
      → IsBit (closer Paren) at rest → (about_pat x.0).rest ≡ false
      → Spells (tuple_form (about_pat x.0 ∷ [])) x.1 ts rest
  one_held x ts inside mid at rest o s c d e =
      let told = about_pat x.0 in
      let spelled : Spells (one_form false told) x.1 ts rest =
      (inside, (inside, o, refl), (mid, s.1, (rest, (at, c, (rest, d, refl)), refl))) in
      subst (λ b. Spells (one_form b told) x.1 ts rest) (sym e) spelled

  tuple_of_sound : (ts inside : Tokens) (y : Pat × ℕ) (mid at : Tokens) → IsBit (opener Paren) ts inside
      → PatHeld Alternatives budget y inside mid → IsOne kind.Punct (codes ",") mid at
      → (ys : List (Pat × ℕ)) (end : Tokens) → ElementsBy (closer Paren) (PatHeld Alternatives budget) ys at end
      → InText end → (x : Pat × ℕ) (rest : Tokens) → tuple_of y ys end ≡ Some (x, rest) → OpenStep ts x rest
  tuple_of_sound ts inside y mid at o s c [] end r t x rest h = elim (chosen (about_pat y.0).rest _ _ _ h) [
    | inl g ↦ absurd (cc g.1)
    | inr g ↦
        let told = about_pat y.0 in
        same_some (Out (PatOpen (suc budget)) ts) ((pat.Tuple (y.0 ∷ []), suc y.1), end) (x, rest) g.1 (
          shut_open budget (about_pat (pat.Tuple (y.0 ∷ []))) (tuple_form (told ∷ []))
              (all_pats_good Alternatives (told ∷ [])) y.1 ts end (pat_tuple_is (y.0 ∷ [])) s.0
              (one_held y ts inside mid at end o s c r g.0) (and_from (pat_good Alternatives told) true s.2 refl),
          t,
        )
  ]
  tuple_of_sound ts inside y mid at o s c (z ∷ zs) end r t x rest h =
      let P = PatHeld Alternatives budget in
      let several : ElementsBy (closer Paren) P (y ∷ z ∷ zs) inside end =
      (mid, s, behind_comma (closer Paren) P (z ∷ zs) mid at end c r) in
      let l = list_held budget (λ w. pat_form Alternatives (about_pat w)) (λ w. pat_good Alternatives (about_pat w)) P
      (λ w us left k. (k.0, k.1, k.2)) (opener Paren) (closer Paren) (y ∷ z ∷ zs) ts inside end o several in
      let all = nodes (y ∷ z ∷ zs) in
      let told = pat_list Alternatives all in
      let most = deepest (y ∷ z ∷ zs) in
      let spelled : Spells (comma_list true (opener Paren) (closer Paren) (listed_pats all)) most ts end =
      subst (λ fs. Spells (comma_list true (opener Paren) (closer Paren) fs) most ts end) (sym told.0) l.1 in
      same_some (Out (PatOpen (suc budget)) ts) ((pat.Tuple all, suc most), end) (x, rest) h (
        shut_open budget (about_pat (pat.Tuple all)) (tuple_form (map about_pat all))
            (all_pats_good Alternatives (map about_pat all)) most ts end (pat_tuple_is all) l.0 spelled
            (told.1 ∙ l.2),
        t,
      )

  alone_of_sound : (ts inside : Tokens) (y : Pat × ℕ) (mid at : Tokens) → IsBit (opener Paren) ts inside
      → PatHeld Alternatives budget y inside mid → IsBit (closer Paren) mid at → InText at → (x : Pat × ℕ)
      (rest : Tokens) → alone_of y at ≡ Some (x, rest) → OpenStep ts x rest
  alone_of_sound ts inside y mid at o s c t x rest h =
      let told = about_pat y.0 in
      let spelled : Spells (paren_form told) y.1 ts at =
      (inside, (inside, o, refl), (mid, s.1, (at, (at, c, refl), refl))) in
      elim (chosen told.rest _ _ _ h) [
        | inl g ↦
            let tuple : Spells (tuple_form (told ∷ [])) y.1 ts at =
            subst (λ b. Spells (one_form b told) y.1 ts at) (sym g.0) spelled in
            same_some (Out (PatOpen (suc budget)) ts) ((pat.Tuple (y.0 ∷ []), suc y.1), at) (x, rest) g.1 (
              shut_open budget (about_pat (pat.Tuple (y.0 ∷ []))) (tuple_form (told ∷ []))
                  (all_pats_good Alternatives (told ∷ [])) y.1 ts at (pat_tuple_is (y.0 ∷ [])) s.0 tuple
                  (and_from (pat_good Alternatives told) true s.2 refl),
              t,
            )
        | inr g ↦
            same_some (Out (PatOpen (suc budget)) ts) ((pat.Paren y.0, suc y.1), at) (x, rest) g.1 (
              shut_open budget (about_pat (pat.Paren y.0)) (paren_form told)
                  (pat_good Alternatives told && not told.rest) y.1 ts at (pat_paren_is y.0) s.0 spelled
                  (and_from (pat_good Alternatives told) (not told.rest) s.2 (ap not g.0)),
              t,
            )
      ]

  paren_by_sound : (ts inside : Tokens) (y : Pat × ℕ) (mid : Tokens) → IsBit (opener Paren) ts inside
      → PatHeld Alternatives budget y inside mid → InText mid → (x : Pat × ℕ) (rest : Tokens)
      → paren_by within y mid ≡ Some (x, rest) → OpenStep ts x rest
  paren_by_sound ts inside y mid o s t x rest h = elim (chosen (first (closes Paren) mid) _ _ _ h) [
    | inl g ↦
        let c = closes_one Paren mid t g.0 in
        alone_of_sound ts inside y mid (tail mid) o s c (bit_texts (closer Paren) mid (tail mid) c t) x rest g.1
    | inr g ↦
        let k = bind_some (passed (is_mark (codes ",")) mid) _ _ g.1 in
        let more = bind_some (elements (closes Paren) (within.pats Alternatives) k.0) _ _ k.2 in
        let comma = mark_passed_is (codes ",") mid k.0 k.1 in
        let e = elements_by (within.pats Alternatives) (PatHeld Alternatives budget) (sound.pats Alternatives)
        (closes Paren) (closer Paren) paren_shuts k.0 more.0.0 more.0.1
        (bit_texts (Fixed kind.Punct (codes ",")) mid k.0 comma t) more.1 in
        tuple_of_sound ts inside y mid k.0 o s comma more.0.0 more.0.1 e.0 e.1 x rest more.2
  ]

  paren_sound : (ts inside : Tokens) → IsBit (opener Paren) ts inside → InText inside → (x : Pat × ℕ) (rest : Tokens)
      → paren_pat within inside ≡ Some (x, rest) → OpenStep ts x rest
  unfolding paren_pat
  paren_sound ts inside o t x rest h = elim (chosen (first (closes Paren) inside) _ _ _ h) [
    | inl g ↦
        let c = closes_one Paren inside t g.0 in
        let end = tail inside in
        let spelled : Spells (tuple_form []) 0 ts end = (end, (inside, o, (end, c, refl)), refl) in
        same_some (Out (PatOpen (suc budget)) ts) ((pat.Tuple [], 1), end) (x, rest) g.1 (
          shut_open budget (about_pat (pat.Tuple [])) (tuple_form []) true 0 ts end (pat_tuple_is []) (omega arith)
              spelled refl,
          bit_texts (closer Paren) inside end c t,
        )
    | inr g ↦
        let y = bind_some (within.pats Alternatives inside) _ _ g.1 in
        let s = sound.pats Alternatives inside y.0.0 y.0.1 t y.1 in
        paren_by_sound ts inside y.0.0 y.0.1 o s.0 s.1 x rest y.2
  ]

  -- ---- brackets

  slice_sound : (ts inside : Tokens) → IsBit (opener Bracket) ts inside → InText inside → (x : Pat × ℕ)
      (rest : Tokens) → slice_pat within inside ≡ Some (x, rest) → OpenStep ts x rest
  unfolding slice_pat
  slice_sound ts inside o t x rest h =
      let xs = bind_some (elements (closes Bracket) (within.pats Alternatives) inside) _ _ h in
      let l = listed budget (λ y. pat_form Alternatives (about_pat y)) (λ y. pat_good Alternatives (about_pat y))
      (PatHeld Alternatives budget) (λ y us mid s. (s.0, s.1, s.2)) (closes Bracket) (opener Bracket) (closer Bracket)
      bracket_shuts (within.pats Alternatives) (sound.pats Alternatives) ts inside xs.0.0 xs.0.1 o t xs.1 in
      let all = nodes xs.0.0 in
      let told = pat_list Alternatives all in
      let most = deepest xs.0.0 in
      let list : Form = comma_list true (opener Bracket) (closer Bracket) (listed_pats all) in
      let spelled : Spells list most ts xs.0.1 =
      subst (λ fs. Spells (comma_list true (opener Bracket) (closer Bracket) fs) most ts xs.0.1) (sym told.0) l.1 in
      same_some (Out (PatOpen (suc budget)) ts) ((pat.Slice all, suc most), xs.0.1) (x, rest) xs.2 (
        shut_open budget (about_pat (pat.Slice all)) list (all_pats_good Alternatives (map about_pat all)) most ts
            xs.0.1 (pat_slice_is all) l.0 spelled (told.1 ∙ l.2),
        l.3,
      )

  -- ---- all kinds

  word_led_sound : SoundStep (word_led within) (PatOpen (suc budget))
  word_led_sound ts x rest t h = elim (chosen (begins_bind ts) _ _ _ h) [
    | inl g ↦ marked_bind_sound budget within sound ts x rest t g.1
    | inr g ↦ elim (chosen (begins_call ts) _ _ _ g.1) [
      | inl f ↦ call_pat_sound ts x rest t f.1
      | inr f ↦ path_pat_sound budget within sound ts x rest t f.1
    ]
  ]

  wild_sound : (ts : Tokens) → InText ts → first is_underscore ts ≡ true
      → Out (PatOpen (suc budget)) ts ((pat.Wild, 1), tail ts)
  wild_sound ts t e =
      let o = underscore_one ts t e in
      let bit = Fixed kind.Underscore (codes "_") in
      let spelled : Spells (piece (bit ∷ [])) 0 ts (tail ts) = (tail ts, (tail ts, o, refl), refl) in (
        shut_open budget (about_pat pat.Wild) (piece (bit ∷ [])) true 0 ts (tail ts) pat_wild_is (omega arith) spelled
            refl,
        bit_texts bit ts (tail ts) o t,
      )

  pat_by_sound : SoundStep (pat_by within) (PatOpen (suc budget))
  unfolding pat_by
  pat_by_sound ts x rest t h = elim (chosen (begins_value ts) _ _ _ h) [
    | inl g ↦ value_pat_sound budget within.kinds sound.kinds ts x rest t g.1
    | inr g ↦ elim (chosen (first is_underscore ts) _ _ _ g.1) [
      | inl a ↦ same_some (Out (PatOpen (suc budget)) ts) ((pat.Wild, 1), tail ts) (x, rest) a.1 (wild_sound ts t a.0)
      | inr a ↦ elim (chosen (begins_dots ts) _ _ _ a.1) [
        | inl b ↦
            span_sound budget within.kinds sound.kinds None 0 ts ts (no_start budget ts) t b.0 x rest b.1
        | inr b ↦ elim (chosen (first (is_mark (codes "&")) ts) _ _ _ b.1) [
          | inl c ↦
              let o = mark_one (codes "&") ts c.0 in
              ref_sound ts (tail ts) o (bit_texts (Fixed kind.Punct (codes "&")) ts (tail ts) o t) x rest c.1
          | inr c ↦ elim (chosen (first (opens Paren) ts) _ _ _ c.1) [
            | inl d ↦
                let o = opens_one Paren ts t d.0 in
                paren_sound ts (tail ts) o (bit_texts (opener Paren) ts (tail ts) o t) x rest d.1
            | inr d ↦ elim (chosen (first (opens Bracket) ts) _ _ _ d.1) [
              | inl e ↦
                  let o = opens_one Bracket ts t e.0 in
                  slice_sound ts (tail ts) o (bit_texts (opener Bracket) ts (tail ts) o t) x rest e.1
              | inr e ↦ word_led_sound ts x rest t e.1
            ]
          ]
        ]
      ]
    ]
  ]

  -- A pattern that isn't several alternatives stands there, and none is gone on with after it.
  pub single_by_sound : SoundStep (single_by within) (PatHeld Single (suc budget))
  single_by_sound ts x rest t h =
      let y = bind_some (pat_by within ts) _ _ h in
      let s = pat_by_sound ts y.0.0 y.0.1 t y.1 in
      elim (chosen (goes_on_pattern y.0.1) _ _ _ y.2) [
        | inl g ↦ absurd (cc g.1)
        | inr g ↦
            same_some (Out (PatHeld Single (suc budget)) ts) (y.0.0, y.0.1) (x, rest) g.1
            (open_held (suc budget) (about_pat y.0.0.0) y.0.0.1 ts y.0.1 s.0 g.0, s.1)
      ]
