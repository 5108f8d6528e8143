-- Paths, bounds and what is asked of a name among generic arguments: what is spelled is read, where what is one level deeper is read.
use Rattle.std.proofs.Common.{◌≡◌, ℕ, suc, ◌≤◌, ◌<◌, max, Bool, true, false, not, ◌&&◌, List, [], ◌∷◌, map, length, drop, codes, Option, option_map, Some, None, refl, sym, ap, subst, arith}
use Rattle.std.proofs.lemmas.Bool.{and_parts, and_from, not-true}
use Rattle.lay_piece.specs.Forms.{opening, closing}
use Rattle.lay_piece.specs.declared.kind.Delim.TheVariants.{Paren}
use Rattle.lay_piece.specs.declared.kind.Kind.TheVariants as kind
use Rattle.lay_piece.specs.declared.kind.Kind.TheVariants.{Ident, Punct, Opener, Closer}
use Rattle.lay_token.specs.Operators.{is_op}
use Rattle.lay_form.specs.Form.{Blank, Fixed, Operator, Form, Done, Piece, Part, keyword, opener, closer}
use Rattle.lay_form.specs.Notation.{B, piece, comma_list}
use Rattle.lay_form.specs.Spelled.{IsOne, IsOperator, AreBits, Spells}
use Rattle.lay_form.proofs.FormLaws.{shorter}
use Rattle.lay_node.specs.Ahead.{Tokens, first, tail, is_keyword, is_lifetime, is_mark, opens}
use Rattle.lay_node.specs.Begins.{OfPath, lead_at, begins_bound}
use Rattle.lay_node.specs.Words.{is_path_word, colons}
use Rattle.lay_node.specs.nodes.Facts.{Facts, forms, all_good}
use Rattle.lay_node.specs.nodes.Types.{PathFacts, in_style, less, greater, equals, good_at, joined, is_several, lifetime_param_form, capture_form, bounds_form, bounds_good, last_refuses, meets_form, binder_form, is_binder, segment_form, segments_form, segment_good, segments_good, segments_refuse, of_form, of_good, const_form, about_type, about_path, about_start, about_args, about_constraint, about_bound}
use Rattle.lay_node.specs.reader.Loops.{Read, nodes, deepest}
use Rattle.lay_node.specs.reader.Types.{Within, operator, if_read, binder_if, segment, trait_path, qualified, path_start, returns_last, path, meets, one_bound, all_bounds, bounds_by, constraint_by}
use Rattle.lay_node.specs.declared.token.Word.{Word}
use Rattle.lay_node.specs.declared.types.Args.{Args}
use Rattle.lay_node.specs.declared.types.Binder.{Binder}
use Rattle.lay_node.specs.declared.types.Bound.{Bound}
use Rattle.lay_node.specs.declared.types.Bound.TheVariants as bound
use Rattle.lay_node.specs.declared.types.Constraint.{Constraint}
use Rattle.lay_node.specs.declared.types.Path.{Path}
use Rattle.lay_node.specs.declared.types.PathStart.{PathStart}
use Rattle.lay_node.specs.declared.types.PathStyle.{PathStyle}
use Rattle.lay_node.specs.declared.types.PathStyle.TheVariants.{Kind as InKind}
use Rattle.lay_node.specs.declared.types.Ty.TheVariants as ty
use Rattle.lay_node.specs.declared.types.TypePlace.{TypePlace}
use Rattle.lay_node.specs.declared.types.TypePlace.TheVariants.{Bounds, NoBounds}
use Rattle.lay_node.proofs.Fronts.{one_front, other_op, one_shorter, op_shorter, mark_passed, closer_passed}
use Rattle.lay_node.proofs.Parts.{Rows, bit_alone, behind_blank, before_blank, piece_bit, part_alone, word_kind, leaf_parts}
use Rattle.lay_node.proofs.nodes.TypesLaws.{PathStartView, IsLocal, IsGlobal, IsQualified, ConstraintView, IsEqual, IsEqualConst, IsLimit, BoundView, IsOutlives, IsMeets, IsCaptures, about_segment, type_view, start_view, constraint_view, bound_view, start_local_is, start_global_is, start_qualified_is, constraint_equal_is, constraint_equal_const_is, constraint_limit_is, bound_outlives_is, bound_meets_is, bound_captures_is, path_is}
use Rattle.lay_node.proofs.reader.Exact.{IsRead}
use Rattle.lay_node.proofs.reader.Loops.{Turn}
use Rattle.lay_node.proofs.reader.TypesBegins.{lead_of, path_parts, path_goods, SegmentsFront, segments_front, path_begins, type_begins}
use Rattle.lay_node.proofs.reader.TypesCompleteCaptures.{captured_complete}
use Rattle.lay_node.proofs.reader.TypesCompleteParts.{keyword_there, one_left, lifetime_complete, lifetime_alone, colon_operator, binder_complete, const_complete}
use Rattle.lay_node.proofs.reader.TypesComplete.{Reads, quiet_read, args_read, operator_read, deeper_parts, path_as_type, path_type_good, as_path_is, colons_clear}
use Rattle.lay_node.proofs.reader.TypesFronts.{op_first, lead_no_lifetime, lead_no_keyword, lead_no_question, lead_no_const, path_lead_no_paren, path_lead_no_for, word_no_mark, Clear, free_clear, Quiet, Ends, plus_free, greater_ends, closer_ends, as_quiet}
use Rattle.lay_node.proofs.reader.TypesLists.{chain_complete}
use Rattle.lay_node.proofs.reader.Words.{word_complete, word_no_op}

module _ (depth : ℕ) (within : Within) (reads : Reads depth within) where
  abbrev Has : {A : Type 0} → (Tokens → Read A) → A → Tokens → Tokens → Type 0
  Has one x ts rest = IsRead depth one x ts rest

  -- ---- segments

  segment_read : (style : PathStyle) (s : Word × Args) (f : Form) (ts rest : Tokens) → Spells (segment_form style (about_segment s) f) depth ts rest
      → segment_good style (about_segment s) ≡ true → ((at : Tokens) → Spells f depth at rest → Clear (in_style style (about_args s.1)).refuses at)
      → (at : Tokens) × Has (segment within style) s ts at × Spells f depth at rest × (length at < length ts)
  unfolding segment
  segment_read style s f ts rest t g clear =
      let args = in_style style (about_args s.1) in
      let goods = and_parts (is_path_word s.0.raw s.0.text) args.good g in
      let l = leaf_parts s.0.raw s.0.text (Part args.form f) depth ts rest t in
      let p = l.2 in
      let w = word_complete s.0 ts l.0 (l.1, goods.0) in
      let a = args_read depth within reads style s.1 l.0 p.0 p.1 goods.1 (clear p.0 p.2) in (
        p.0,
        (a.0, a.1, rw (w, a.2) refl),
        p.2,
        omega (arith, one_shorter (word_kind s.0.raw) s.0.text ts l.0 l.1, shorter args.form depth l.0 p.0 p.1),
      )

  abbrev FurtherSegment : PathStyle → (Word × Args) × ℕ → Tokens → Tokens → Type 0
  FurtherSegment style = Turn (is_op (codes "::")) (λ us. segment within style (drop 2 us))

  -- a first segment, and further ones after it
  abbrev SegmentsRead : PathStyle → Word × Args → List (Word × Args) → Tokens → Tokens → Type 0
  SegmentsRead style s ss ts rest = (mid : Tokens) × Has (segment within style) s ts mid × (length mid < length ts)
      × (ys : List ((Word × Args) × ℕ)) × (nodes ys ≡ ss) × (deepest ys ≤ depth) × Rows (FurtherSegment style) ys mid rest

  segments_read : (style : PathStyle) (s : Word × Args) (ss : List (Word × Args)) (ts rest : Tokens)
      → Spells (segments_form style (map about_segment (s ∷ ss))) depth ts rest → segments_good style (map about_segment (s ∷ ss)) ≡ true
      → Clear (segments_refuse style (map about_segment (s ∷ ss))) rest → SegmentsRead style s ss ts rest
  segments_read style s [] ts rest t g f =
      let r = segment_read style s Done ts rest t g (λ at e. subst (Clear (in_style style (about_args s.1)).refuses) (sym e) f) in
      (r.0, r.1, r.3, [], refl, omega arith, r.2)
  segments_read style s (v ∷ more) ts rest t g f =
      let goods = and_parts (segment_good style (about_segment s) && not (about_args s.1).returns) (segments_good style (map about_segment (v ∷ more))) g in
      let kept = and_parts (segment_good style (about_segment s)) (not (about_args s.1).returns) goods.0 in
      let next : Form = segments_form style (map about_segment (v ∷ more)) in
      let clear : (at : Tokens) → Spells (Piece colons next) depth at rest → Clear (in_style style (about_args s.1)).refuses at =
      λ at b.
      let o : IsOperator (codes "::") at b.0 = bit_alone (Operator (codes "::")) at b.0 b.1 in
      let w = first_word v more b.0 b.2 in
      colons_clear style s.1 v.0 at b.0 w.0 (not-true (about_args s.1).returns kept.1) o w.1 in
      let r = segment_read style s (Piece colons next) ts rest t kept.0 clear in
      let at = r.0 in
      let b = r.2 in
      let o : IsOperator (codes "::") at b.0 = bit_alone (Operator (codes "::")) at b.0 b.1 in
      let n = segments_read style v more b.0 rest b.2 goods.1 f in
      let one = n.1 in
      let read : segment within style (drop 2 at) ≡ Some ((v, one.0), n.0) = rw o.1 one.2 in
      let shorter_by : length n.0 < length at = omega (arith, n.2, op_shorter 58 (codes ":") at b.0 o) in
      (at, r.1, r.3, (v, one.0) ∷ n.3, ap (λ zs. v ∷ zs) n.4, omega (arith, one.1, n.5), (n.0, (o.0, read, shorter_by), n.6))
    where
      first_word : (v : Word × Args) (more : List (Word × Args)) (us : Tokens) → Spells (segments_form style (map about_segment (v ∷ more))) depth us rest
          → (mid : Tokens) × IsOne (word_kind v.0.raw) v.0.text us mid
      first_word v [] us t = let l = leaf_parts v.0.raw v.0.text (Part (in_style style (about_args v.1)).form Done) depth us rest t in (l.0, l.1)
      first_word v (w ∷ more) us t =
          let l =
          leaf_parts v.0.raw v.0.text (Part (in_style style (about_args v.1)).form (Piece colons (segments_form style (map about_segment (w ∷ more))))) depth us rest t in
          (l.0, l.1)

  last_returns : (style : PathStyle) (ss : List (Word × Args)) → segments_good style (map about_segment ss) ≡ true → returns_last ss ≡ true
  last_returns style [] g = refl
  last_returns style (s ∷ []) g = refl
  last_returns style (s ∷ v ∷ more) g =
      let goods = and_parts (segment_good style (about_segment s) && not (about_args s.1).returns) (segments_good style (map about_segment (v ∷ more))) g in
      let kept = and_parts (segment_good style (about_segment s)) (not (about_args s.1).returns) goods.0 in
      and_from (not (about_args s.1).returns) (returns_last (v ∷ more)) kept.1 (last_returns style (v ∷ more) goods.1)

  -- ---- what a path begins with

  trait_read : (p : Path) (ts rest : Tokens) (least : ℕ) → depth ≡ suc least → Spells (about_path p InKind).form least ts rest
      → (about_path p InKind).good ≡ true
      → Quiet rest → Has (trait_path within) p ts rest
  trait_read p ts rest least e s g q =
      let r = quiet_read depth within reads NoBounds (ty.Path p) ts rest (path_as_type p depth least ts rest e s) (path_type_good NoBounds p g) q in
      (r.0, r.1, rw (r.2, as_path_is p) refl)

  -- the trait that a type is taken as, and the `>::` after it
  of_read : (of : Option Path) (ts rest : Tokens) → Spells (of_form (option_map about_path of) (piece (greater ∷ colons))) depth ts rest
      → of_good (option_map about_path of) ≡ true
      → Quiet ts × (mid behind : Tokens) × Has (λ us. if_read (first (is_keyword (codes "as")) us) (λ vs. trait_path within (tail vs)) us) of ts mid
      × IsOne Punct (codes ">") mid behind × IsOperator (codes "::") behind rest
  of_read None ts rest s g =
      let bits = s.1 in
      let o : IsOne Punct (codes ">") ts bits.0 = bits.1 in
      let c : IsOperator (codes "::") bits.0 rest = subst (λ us. IsOperator (codes "::") bits.0 us) s.2 (bit_alone (Operator (codes "::")) bits.0 s.0 bits.2) in
      let no_as : first (is_keyword (codes "as")) ts ≡ false = rw (one_front Punct (codes ">") ts bits.0 o).1 refl in
      ((greater_ends ts bits.0 o).quiet, ts, bits.0, (0, omega arith, rw no_as refl), o, c)
  of_read (Some p) ts rest s g =
      let o : IsOne Ident (codes "as") ts s.0 = before_blank (keyword (codes "as")) ts s.0 (behind_blank (keyword (codes "as") ∷ Blank ∷ []) ts s.0 s.1) in
      let d = deeper_parts (about_path p InKind).form (piece (greater ∷ colons)) depth s.0 rest s.2 in
      let mid = d.2 in
      let end = d.4 in
      let bits = end.1 in
      let close : IsOne Punct (codes ">") mid bits.0 = bits.1 in
      let c : IsOperator (codes "::") bits.0 rest =
      subst (λ us. IsOperator (codes "::") bits.0 us) end.2 (bit_alone (Operator (codes "::")) bits.0 end.0 bits.2) in
      let r = trait_read p s.0 mid d.0 d.1 d.3 g (greater_ends mid bits.0 close).quiet in
      let there = keyword_there (codes "as") ts s.0 o in
      let left = one_left Ident (codes "as") ts s.0 o in
      (as_quiet ts s.0 o, mid, bits.0, (r.0, r.1, rw (there, left, r.2) refl), close, c)

  start_read : (b : PathStart) (ts mid rest : Tokens) → Spells (about_start b).form depth ts mid → (about_start b).good ≡ true → SegmentsFront depth mid rest
      → Has (path_start within) b ts mid
  unfolding qualified
  start_read b ts mid rest s g f = by b (start_view b) s g
    where
      by : (b : PathStart) → PathStartView b → Spells (about_start b).form depth ts mid → (about_start b).good ≡ true → Has (path_start within) b ts mid
      by _ IsLocal t h =
          let e : ts ≡ mid = subst (λ (F : Facts). Spells F.form depth ts mid) start_local_is t in
          (0, omega arith, rw e (rw (word_no_mark (codes "<") f.raw f.text mid f.behind f.word, word_no_op (codes "::") f.raw f.text mid f.behind f.word) refl))
      by _ IsGlobal t h =
          let o : IsOperator (codes "::") ts mid =
          piece_bit (Operator (codes "::")) depth ts mid (subst (λ (F : Facts). Spells F.form depth ts mid) start_global_is t) in
          let no_less : first (is_mark (codes "<")) ts ≡ false = rw (op_first 58 (codes ":") ts o.0).3 refl in
          (0, omega arith, rw (no_less, o.0, o.1) refl)
      by _ (IsQualified x of) t h =
          let u = subst (λ (F : Facts). Spells F.form depth ts mid) (start_qualified_is x of) t in
          let goods =
          and_parts (good_at Bounds (about_type x)) (of_good (option_map about_path of)) (subst (λ (F : Facts). F.good ≡ true) (start_qualified_is x of) h) in
          let o : IsOne Punct (codes "<") ts u.0 = bit_alone less ts u.0 u.1 in
          let p = u.2 in
          let q = of_read of p.0 mid p.2 goods.1 in
          let r = quiet_read depth within reads Bounds x u.0 p.0 p.1 goods.0 q.0 in
          let trait = q.3 in
          let less_there : first (is_mark (codes "<")) ts ≡ true = rw (one_front Punct (codes "<") ts u.0 o).1 refl in
          let left = one_left Punct (codes "<") ts u.0 o in
          let close = mark_passed (codes ">") q.1 q.2 q.4 in
          (max r.0 trait.0, omega (arith, r.1, trait.1), rw (less_there, left, r.2, trait.2, close, operator_read (codes "::") q.2 mid q.5) refl)

  -- ---- paths

  pub path_read : (style : PathStyle) (p : Path) (ts rest : Tokens) → Spells (about_path p style).form depth ts rest → (about_path p style).good ≡ true
      → Clear (about_path p style).refuses rest → Has (path within style) p ts rest
  unfolding path
  path_read style p ts rest s g f =
      let t = path_parts style p depth ts rest s in
      let goods = path_goods style p g in
      let c = subst (λ (F : PathFacts). Clear (F style).refuses rest) (path_is p) f in
      let stops = and_parts (not (is_op (codes "::") rest)) _ c in
      by p.segments t.0 t.2 goods.1 stops.1 (not-true (is_op (codes "::") rest) stops.0)
      (start_read p.start ts t.0 rest t.1 goods.0 (segments_front style p.segments depth t.0 rest goods.1 t.2))
    where
      by : (ss : List (Word × Args)) → (mid : Tokens) → Spells (segments_form style (map about_segment ss)) depth mid rest
          → segments_good style (map about_segment ss) ≡ true → Clear (segments_refuse style (map about_segment ss)) rest → is_op (codes "::") rest ≡ false
          → Has (path_start within) p.start ts mid → Has (path within style) (record { start = p.start; segments = ss }) ts rest
      by [] mid t h c stops b = absurd (cc)
      by (w ∷ ws) mid t h c stops b =
          let r = segments_read style w ws mid rest t h c in
          let one = r.1 in
          let chained = chain_complete (codes "::") (segment within style) (w, one.0) r.3 mid r.0 rest one.2 r.6 stops in
          (max b.0 (max one.0 (deepest r.3)), omega (arith, b.1, one.1, r.5), rw (b.2, chained, r.4, last_returns style (w ∷ ws) h) refl)

  -- ---- bounds

  -- What begins a bound that is a path.
  abbrev pub BoundFront : Tokens → Type 0
  BoundFront ts =
      (first is_lifetime ts ≡ false) × (first (is_keyword (codes "use")) ts ≡ false) × (first (opens Paren) ts ≡ false) × (begins_bound ts ≡ true)

  path_front : (ts : Tokens) → lead_at ts ≡ Some OfPath → BoundFront ts
  path_front ts h =
      let l = lead_no_lifetime ts OfPath h in
      let u = lead_no_keyword (codes "use") refl ts OfPath h in
      let p = path_lead_no_paren ts h in
      (l, u, p, rw (l, u, p, lead_no_question ts OfPath h, path_lead_no_for ts h, h) refl)

  for_front : (ts rest : Tokens) → IsOne Ident (codes "for") ts rest → BoundFront ts × (first (is_mark (codes "?")) ts ≡ false)
  for_front ts rest o = let f = (one_front Ident (codes "for") ts rest o).1 in ((rw f refl, rw f refl, rw f refl, rw f refl), rw f refl)

  question_front : (ts rest : Tokens) → IsOne Punct (codes "?") ts rest → BoundFront ts
  question_front ts rest o = let f = (one_front Punct (codes "?") ts rest o).1 in (rw f refl, rw f refl, rw f refl, rw f refl)

  abbrev PathPart : Path → Form
  PathPart p = Part (about_path p InKind).form Done

  bound_front : (b : Option Binder) (p : Path) (ts rest : Tokens) → Spells (binder_form b (PathPart p)) depth ts rest → (about_path p InKind).good ≡ true
      → BoundFront ts × (first (is_mark (codes "?")) ts ≡ false) × (length rest < length ts)
  bound_front None p ts rest s g =
      let b = path_begins InKind p depth ts rest (part_alone (about_path p InKind).form depth ts rest s) g in
      (path_front ts b.lead, lead_no_question ts OfPath b.lead, b.less)
  bound_front (Some b) p ts rest s g =
      let o : IsOne Ident (codes "for") ts s.0 = bit_alone (keyword (codes "for")) ts s.0 s.1 in
      let f = for_front ts s.0 o in
      let behind : Form = Part (comma_list true less greater (map lifetime_param_form b.params)) (Piece (Blank ∷ []) (PathPart p)) in
      (f.0, f.1, omega (arith, one_shorter Ident (codes "for") ts s.0 o, shorter behind depth s.0 rest s.2))

  -- a bound that is a path, without its parentheses
  abbrev MeetsRead : Bool → Bool → Option Binder → Path → Tokens → Tokens → Type 0
  MeetsRead parens maybe b p ts rest = Has (meets within parens) (bound.Meets parens maybe b p) ts rest × BoundFront ts × (length rest < length ts)

  meets_read : (parens maybe : Bool) (b : Option Binder) (p : Path) (ts rest : Tokens) → Spells (meets_form maybe b (about_path p InKind).form) depth ts rest
      → (is_binder b && (about_path p InKind).good) ≡ true → Clear (about_path p InKind).refuses rest → MeetsRead parens maybe b p ts rest
  unfolding meets
  meets_read parens maybe b p ts rest s g f = by maybe s
    where
      goods : (is_binder b ≡ true) × ((about_path p InKind).good ≡ true)
      goods = and_parts (is_binder b) (about_path p InKind).good g

      behind : (us : Tokens) → Spells (binder_form b (PathPart p)) depth us rest
          → (mid : Tokens) × (binder_if us ≡ Some (b, mid)) × Has (path within InKind) p mid rest
      behind us t =
          let d = binder_complete b (PathPart p) depth us rest t goods.0
          (λ vs v. path_lead_no_for vs (path_begins InKind p depth vs rest (part_alone (about_path p InKind).form depth vs rest v) goods.1).lead) in
          (d.0, d.1, path_read InKind p d.0 rest (part_alone (about_path p InKind).form depth d.0 rest d.2) goods.1 f)

      by : (m : Bool) → Spells (meets_form m b (about_path p InKind).form) depth ts rest → MeetsRead parens m b p ts rest
      by true t =
          let o : IsOne Punct (codes "?") ts t.0 = bit_alone (Fixed Punct (codes "?")) ts t.0 t.1 in
          let d = behind t.0 t.2 in
          let r = d.2 in
          let there : first (is_mark (codes "?")) ts ≡ true = rw (one_front Punct (codes "?") ts t.0 o).1 refl in
          let left = one_left Punct (codes "?") ts t.0 o in
          let front = bound_front b p t.0 rest t.2 goods.1 in
          ((r.0, r.1, rw (there, left, d.1, r.2) refl), question_front ts t.0 o, omega (arith, front.2, one_shorter Punct (codes "?") ts t.0 o))
      by false t =
          let d = behind ts t in
          let r = d.2 in
          let front = bound_front b p ts rest t goods.1 in
          ((r.0, r.1, rw (front.1, d.1, r.2) refl), front.0, front.2)

  abbrev pub BoundRead : Bound → Tokens → Tokens → Type 0
  BoundRead b ts rest = Has (one_bound within) b ts rest × (begins_bound ts ≡ true) × (length rest < length ts)

  pub bound_read : (b : Bound) (ts rest : Tokens) → Spells (about_bound b).form depth ts rest → (about_bound b).good ≡ true → Clear (about_bound b).refuses rest
      → BoundRead b ts rest
  unfolding one_bound
  bound_read b ts rest s g f = by b (bound_view b) s g f
    where
      by : (b : Bound) → BoundView b → Spells (about_bound b).form depth ts rest → (about_bound b).good ≡ true → Clear (about_bound b).refuses rest
          → BoundRead b ts rest
      by _ (IsOutlives l) t h k =
          let o = lifetime_alone l depth ts rest (subst (λ (F : Facts). Spells F.form depth ts rest) (bound_outlives_is l) t) in
          let r = lifetime_complete l ts rest o in
          ((0, omega arith, rw (r.1, r.0) refl), rw r.1 refl, one_shorter kind.Lifetime l.text ts rest o)
      by _ (IsMeets true m d p) t h k =
          let u = subst (λ (F : Facts). Spells F.form depth ts rest) (bound_meets_is true m d p) t in
          let good = subst (λ (F : Facts). F.good ≡ true) (bound_meets_is true m d p) h in
          let o : IsOne (Opener Paren) (opening Paren ∷ []) ts u.0 = bit_alone (opener Paren) ts u.0 u.1 in
          let part = u.2 in
          let close : IsOne (Closer Paren) (closing Paren ∷ []) part.0 rest = piece_bit (closer Paren) depth part.0 rest part.2 in
          let r =
          meets_read true m d p u.0 part.0 part.1 good (free_clear (about_path p InKind).refuses part.0 (closer_ends Paren part.0 rest close).quiet.free) in
          let one = r.0 in
          let front = paren_front ts u.0 o in (
            (one.0, one.1, rw (front.0, front.1, front.2, front.3, one.2, closer_passed Paren part.0 rest close) refl),
            rw (front.0, front.1, front.2) refl,
            omega (arith, r.2, one_shorter (Opener Paren) (opening Paren ∷ []) ts u.0 o, shorter (piece (closer Paren ∷ [])) depth part.0 rest part.2),
          )
        where
          paren_front : (us at : Tokens) → IsOne (Opener Paren) (opening Paren ∷ []) us at
              → (first is_lifetime us ≡ false) × (first (is_keyword (codes "use")) us ≡ false) × (first (opens Paren) us ≡ true) × (tail us ≡ at)
          paren_front us at o = let f = (one_front (Opener Paren) (opening Paren ∷ []) us at o).1 in (rw f refl, rw f refl, rw f refl, rw f refl)
      by _ (IsMeets false m d p) t h k =
          let u = subst (λ (F : Facts). Spells F.form depth ts rest) (bound_meets_is false m d p) t in
          let good = subst (λ (F : Facts). F.good ≡ true) (bound_meets_is false m d p) h in
          let c = subst (λ (F : Facts). Clear F.refuses rest) (bound_meets_is false m d p) k in
          let r = meets_read false m d p ts rest u good c in
          let one = r.0 in
          let front = r.1 in
          ((one.0, one.1, rw (front.0, front.1, front.2, one.2) refl), front.3, r.2)
      by _ (IsCaptures cs) t h k =
          let u = subst (λ (F : Facts). Spells F.form depth ts rest) (bound_captures_is cs) t in
          let good = subst (λ (F : Facts). F.good ≡ true) (bound_captures_is cs) h in
          let o : IsOne Ident (codes "use") ts u.0 = bit_alone (keyword (codes "use")) ts u.0 u.1 in
          let list : Form = comma_list true less greater (map capture_form cs) in
          let r = captured_complete cs depth u.0 rest (part_alone list depth u.0 rest u.2) good in
          let front = use_front ts u.0 o in (
            (0, omega arith, rw (front.0, front.1, front.2, r) refl),
            rw (front.0, front.1) refl,
            omega (arith, one_shorter Ident (codes "use") ts u.0 o, shorter (Part list Done) depth u.0 rest u.2),
          )
        where
          use_front : (us at : Tokens) → IsOne Ident (codes "use") us at
              → (first is_lifetime us ≡ false) × (first (is_keyword (codes "use")) us ≡ true) × (tail us ≡ at)
          use_front us at o = let f = (one_front Ident (codes "use") us at o).1 in (rw f refl, rw f refl, rw f refl)

  abbrev plus : Form → Form
  plus f = B (Piece (Operator (codes "+") ∷ Blank ∷ []) f)

  abbrev FurtherBound : Bound × ℕ → Tokens → Tokens → Type 0
  FurtherBound = Turn (is_op (codes "+")) (λ us. one_bound within (drop 1 us))

  abbrev BoundsRead : Bound → List Bound → Tokens → Tokens → Type 0
  BoundsRead b bs ts rest =
      (mid : Tokens) × BoundRead b ts mid × (ys : List (Bound × ℕ)) × (nodes ys ≡ bs) × (deepest ys ≤ depth) × Rows FurtherBound ys mid rest

  bounds_rows : (b : Bound) (bs : List Bound) (ts rest : Tokens) → Spells (joined plus (forms (map about_bound (b ∷ bs)))) depth ts rest
      → all_good (map about_bound (b ∷ bs)) ≡ true → Clear (last_refuses (map about_bound (b ∷ bs))) rest → BoundsRead b bs ts rest
  bounds_rows b [] ts rest t g f =
      let good = (and_parts (about_bound b).good true g).0 in
      let u : Spells (about_bound b).form depth ts rest = subst (λ us. Spells (about_bound b).form depth ts us) t.2 t.1 in
      (rest, bound_read b ts rest u good f, [], refl, omega arith, refl)
  bounds_rows b (y ∷ ys) ts rest t g f =
      let goods = and_parts (about_bound b).good (all_good (map about_bound (y ∷ ys))) g in
      let mid = t.0 in
      let behind = t.2 in
      let o : IsOperator (codes "+") mid behind.0 = before_blank (Operator (codes "+")) mid behind.0 behind.1 in
      let r = bound_read b ts mid t.1 goods.0 (free_clear (about_bound b).refuses mid (plus_free mid o.0)) in
      let n = bounds_rows y ys behind.0 rest behind.2 goods.1 f in
      let next = n.1 in
      let one = next.0 in
      let read : one_bound within (drop 1 mid) ≡ Some ((y, one.0), n.0) = rw o.1 one.2 in
      let shorter_by : length n.0 < length mid = omega (arith, next.2, op_shorter 43 [] mid behind.0 o) in
      (mid, r, (y, one.0) ∷ n.2, ap (λ zs. y ∷ zs) n.3, omega (arith, one.1, n.4), (n.0, (o.0, read, shorter_by), n.5))

  -- as many bounds as there are
  pub all_bounds_read : (b : Bound) (bs : List Bound) (ts rest : Tokens) → Spells (bounds_form (map about_bound (b ∷ bs))) depth ts rest
      → all_good (map about_bound (b ∷ bs)) ≡ true → Clear (last_refuses (map about_bound (b ∷ bs))) rest → is_op (codes "+") rest ≡ false
      → Has (all_bounds within) (b ∷ bs) ts rest × (begins_bound ts ≡ true) × (length rest < length ts)
  all_bounds_read b bs ts rest s g f stops =
      let t = subst (λ us. Spells (joined plus (forms (map about_bound (b ∷ bs)))) depth ts us) s.2 s.1 in
      let r = bounds_rows b bs ts rest t g f in
      let first_read = r.1 in
      let one = first_read.0 in
      let chained = chain_complete (codes "+") (one_bound within) (b, one.0) r.2 ts r.0 rest one.2 r.5 stops in
      let left = rows_shorter r.2 r.0 rest r.5 in
      ((max one.0 (deepest r.2), omega (arith, one.1, r.4), rw (chained, r.3) refl), first_read.1, omega (arith, first_read.2, left))
    where
      rows_shorter : (ys : List (Bound × ℕ)) (us end : Tokens) → Rows FurtherBound ys us end → length end ≤ length us
      rows_shorter [] us end r = omega (arith, ap length r)
      rows_shorter (y ∷ ys) us end r = let t = r.1 in omega (arith, t.2, rows_shorter ys r.0 end r.2)

  -- where several may stand, or one
  abbrev NoMore : TypePlace → Tokens → Type 0
  NoMore Bounds ts = is_op (codes "+") ts ≡ false
  NoMore NoBounds ts = Unit {0}

  abbrev Fitting : TypePlace → List Facts → Type 0
  Fitting Bounds bounds = Unit {0}
  Fitting NoBounds bounds = is_several bounds ≡ false

  pub bounds_read : (place : TypePlace) (bs : List Bound) (ts rest : Tokens) → Spells (bounds_form (map about_bound bs)) depth ts rest
      → bounds_good (map about_bound bs) ≡ true → Fitting place (map about_bound bs) → Clear (last_refuses (map about_bound bs)) rest → NoMore place rest
      → Has (bounds_by within place) bs ts rest
  unfolding bounds_by
  bounds_read place [] ts rest s g fit f stops = absurd (cc)
  bounds_read Bounds (b ∷ bs) ts rest s g fit f stops = (all_bounds_read b bs ts rest s g f stops).0
  bounds_read NoBounds (b ∷ []) ts rest s g fit f stops =
      let t = subst (λ us. Spells (joined plus (forms (map about_bound (b ∷ [])))) depth ts us) s.2 s.1 in
      let u : Spells (about_bound b).form depth ts rest = subst (λ us. Spells (about_bound b).form depth ts us) t.2 t.1 in
      let r = (bound_read b ts rest u (and_parts (about_bound b).good true g).0 f).0 in
      (r.0, r.1, rw r.2 refl)
  bounds_read NoBounds (b ∷ d ∷ bs) ts rest s g fit f stops = absurd (cc)

  -- ---- what is asked of a name, which counts with it

  pub constraint_read : (c : Constraint) (ts rest : Tokens) → Spells (about_constraint c).form depth ts rest → (about_constraint c).good ≡ true → Ends rest
      → IsRead (suc depth) (constraint_by within) c ts rest
  unfolding constraint_by
  constraint_read c ts rest s g e = by c (constraint_view c) s g
    where
      equal_there : (mid : Tokens) → AreBits equals ts mid → (is_op (codes ":") ts ≡ false) × (operator (codes "=") ts ≡ Some mid)
      equal_there mid b =
          let o : IsOperator (codes "=") ts mid = before_blank (Operator (codes "=")) ts mid (behind_blank (Operator (codes "=") ∷ Blank ∷ []) ts mid b) in
          (other_op (codes "=") (codes ":") refl ts o.0, operator_read (codes "=") ts mid o)

      by : (c : Constraint) → ConstraintView c → Spells (about_constraint c).form depth ts rest → (about_constraint c).good ≡ true
          → IsRead (suc depth) (constraint_by within) c ts rest
      by _ (IsEqual x) t h =
          let u = subst (λ (F : Facts). Spells F.form depth ts rest) (constraint_equal_is x) t in
          let good = subst (λ (F : Facts). F.good ≡ true) (constraint_equal_is x) h in
          let o = equal_there u.0 u.1 in
          let spelled = part_alone (about_type x).told.form depth u.0 rest u.2 in
          let b = type_begins x Bounds depth u.0 rest spelled good in
          let r = quiet_read depth within reads Bounds x u.0 rest spelled good e.quiet in
          (suc r.0, omega (arith, r.1), rw (o.0, o.1, lead_no_const u.0 (lead_of x (type_view x)) b.lead, r.2) refl)
      by _ (IsEqualConst value) t h =
          let u = subst (λ (F : Facts). Spells F.form depth ts rest) (constraint_equal_const_is value) t in
          let good = subst (λ (F : Facts). F.good ≡ true) (constraint_equal_const_is value) h in
          let o = equal_there u.0 u.1 in
          let r = const_complete value depth u.0 rest (part_alone (const_form value) depth u.0 rest u.2) good in
          (1, omega arith, rw (o.0, o.1, r.begins, r.read) refl)
      by _ (IsLimit []) t h = let good = subst (λ (F : Facts). F.good ≡ true) (constraint_limit_is []) h in absurd (cc)
      by _ (IsLimit (b ∷ bs)) t h =
          let u = subst (λ (F : Facts). Spells F.form depth ts rest) (constraint_limit_is (b ∷ bs)) t in
          let good = subst (λ (F : Facts). F.good ≡ true) (constraint_limit_is (b ∷ bs)) h in
          let o = colon_operator ts u.0 u.1 in
          let bounds = all_bounds_read b bs u.0 rest (part_alone (bounds_form (map about_bound (b ∷ bs))) depth u.0 rest u.2) good
          (free_clear (last_refuses (map about_bound (b ∷ bs))) rest e.quiet.free) e.quiet.plus in
          let r = bounds.0 in
          (suc r.0, omega (arith, r.1), rw (o.0, o.1, r.2) refl)
