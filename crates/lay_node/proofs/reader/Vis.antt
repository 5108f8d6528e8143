-- Visibilities.
use Rattle.std.proofs.Common.{◌≡◌, ℕ, true, false, not, List, [], ◌∷◌, ◌⊎◌, inl, inr, drop, codes, Some, refl, sym, ap, subst, ◌∙◌}
use Rattle.std.specs.Str.{bytes_eq}
use Rattle.std.proofs.lemmas.Bool.{and_parts, not-true}
use Rattle.lay_piece.specs.Forms.{opening, closing}
use Rattle.lay_piece.specs.declared.kind.Delim.TheVariants.{Paren}
use Rattle.lay_piece.specs.declared.kind.Kind.TheVariants.{Ident, Opener, Closer}
use Rattle.lay_form.specs.Form.{keyword, opener, closer}
use Rattle.lay_form.specs.Notation.{piece}
use Rattle.lay_form.specs.Spelled.{IsOne, Spells}
use Rattle.lay_form.proofs.FormLaws.{is_end}
use Rattle.lay_node.specs.Ahead.{Tokens, first, tail, is_keyword, opens, closes}
use Rattle.lay_node.specs.nodes.Facts.{ToldFront}
use Rattle.lay_node.specs.nodes.SimplePath.{simple_path_form}
use Rattle.lay_node.specs.nodes.Vis.{about_vis, is_vis, restricted, restricts, restricts_in, restricts_to, vis_follows, vis_form}
use Rattle.lay_node.specs.reader.Exact.{InText, Exact, needless}
use Rattle.lay_node.specs.reader.Loops.{Got, passed}
use Rattle.lay_node.specs.reader.SimplePath.{simple_path}
use Rattle.lay_node.specs.reader.Vis.{vis_behind, vis_path, visibility}
use Rattle.lay_node.specs.declared.simple_path.SimplePath.{SimplePath}
use Rattle.lay_node.specs.declared.vis.Vis.{Vis}
use Rattle.lay_node.specs.declared.vis.Vis.TheVariants as vis
use Rattle.lay_node.proofs.Fronts.{closer_first, closer_passed_is, closes_one, keyword_one, one_front, one_no_op, opens_one, texts_behind}
use Rattle.lay_node.proofs.Parts.{before_blank}
use Rattle.lay_node.proofs.Steps.{bind_some, chosen, same_some}
use Rattle.lay_node.proofs.reader.HeadsLevel.{StoodFree, free_exact}
use Rattle.lay_node.proofs.reader.Loops.{SoundStep}
use Rattle.lay_node.proofs.reader.SimplePath.{simple_path_complete, simple_path_sound}
use Rattle.lay_node.proofs.reader.TypesCompleteKinds.{keyword_other}
use Rattle.lay_node.proofs.reader.TypesCompleteParts.{keyword_there, none_left, none_right, one_left}
use Rattle.lay_node.proofs.reader.TypesSoundParts.{Out, bit_texts}

-- ---- what restricts

-- A word in parentheses stands there.
abbrev pub Restriction : List ℕ → Tokens → Tokens → Type 0
Restriction word ts rest =
    (inside end : Tokens) × IsOne (Opener Paren) (opening Paren ∷ []) ts inside × IsOne Ident word inside end
    × IsOne (Closer Paren) (closing Paren ∷ []) end rest

three_left : (ts : Tokens) → tail (tail (tail ts)) ≡ drop 3 ts
three_left [] = refl
three_left (a ∷ []) = refl
three_left (a ∷ b ∷ []) = refl
three_left (a ∷ b ∷ c ∷ ts) = refl

two_left : (ts : Tokens) → tail (tail ts) ≡ drop 2 ts
two_left [] = refl
two_left (a ∷ []) = refl
two_left (a ∷ b ∷ ts) = refl

restriction_is : (word : List ℕ) (ts : Tokens) → InText ts → restricts_to word ts ≡ true → Restriction word ts (drop 3 ts)
restriction_is word ts t h =
    let p = and_parts (first (opens Paren) ts) _ h in
    let q = and_parts (first (is_keyword word) (tail ts)) _ p.1 in
    let o = opens_one Paren ts t p.0 in
    let inside = bit_texts (opener Paren) ts (tail ts) o t in
    let w = keyword_one word (tail ts) q.0 in
    let end = bit_texts (keyword word) (tail ts) (tail (tail ts)) w inside in
    let c = closes_one Paren (tail (tail ts)) end q.1 in
    (tail ts, tail (tail ts), o, w, subst (IsOne (Closer Paren) (closing Paren ∷ []) (tail (tail ts))) (three_left ts) c)

-- ---- what is read stands there

restricted_spelled : (word : List ℕ) (ts at rest : Tokens) → IsOne Ident (codes "pub") ts at → Restriction word at rest
    → Spells (piece (restricted word)) 0 ts rest
restricted_spelled word ts at rest o r = (rest, (at, o, (r.0, r.2, (r.1, r.3, (rest, r.4, (rest, refl, refl))))), refl)

vis_texts : (v : Vis) (ts rest : Tokens) → InText ts → Spells (vis_form v) 0 ts rest → InText rest
vis_texts v ts rest t s = texts_behind ts rest (is_end (vis_form v) 0 ts rest s) t

-- after `pub`
module _ (ts at : Tokens) (word : IsOne Ident (codes "pub") ts at) (whole : InText ts) (t : InText at) where
  stood : (v w : Vis) (mid rest : Tokens) → Spells (vis_form v) 0 ts mid → is_vis v ≡ true → vis_follows v mid ≡ true
      → ◌≡◌ {A = Got Vis} (Some (v, mid)) (Some (w, rest)) → Out (StoodFree about_vis) ts (w, rest)
  stood v w mid rest s g f e = same_some (Out (StoodFree about_vis) ts) (v, mid) (w, rest) e ((s, g, f), vis_texts v ts mid whole s)

  in_sound : (x : Vis) (rest : Tokens) → restricts_in at ≡ true → vis_path (drop 2 at) ≡ Some (x, rest) → Out (StoodFree about_vis) ts (x, rest)
  in_sound x rest g h =
      let p = and_parts (first (opens Paren) at) _ g in
      let q = and_parts (first (is_keyword (codes "in")) (tail at)) _ p.1 in
      let o = opens_one Paren at t p.0 in
      let inside = bit_texts (opener Paren) at (tail at) o t in
      let w = keyword_one (codes "in") (tail at) q.0 in
      let start : IsOne Ident (codes "in") (tail at) (drop 2 at) = subst (IsOne Ident (codes "in") (tail at)) (two_left at) w in
      let left = bit_texts (keyword (codes "in")) (tail at) (drop 2 at) start inside in
      let y = bind_some (simple_path (drop 2 at)) _ _ h in
      let c = bind_some (passed (closes Paren) y.0.1) _ _ y.2 in
      let s = simple_path_sound 0 (drop 2 at) y.0.0 y.0.1 left y.1 in
      let behind = texts_behind (drop 2 at) y.0.1 (is_end (simple_path_form y.0.0) 0 (drop 2 at) y.0.1 s.0) left in
      let close = closer_passed_is Paren y.0.1 c.0 behind c.1 in
      stood (vis.In y.0.0) x c.0 rest (
        drop 2 at,
        (at, word, (tail at, o, (drop 2 at, start, (drop 2 at, refl, refl)))),
        (y.0.1, s.0, (c.0, (c.0, close, (c.0, refl, refl)), refl)),
      ) s.1 refl c.2

  behind_sound : (x : Vis) (rest : Tokens) → vis_behind at ≡ Some (x, rest) → Out (StoodFree about_vis) ts (x, rest)
  behind_sound x rest h = elim (chosen (restricts_to (codes "crate") at) _ _ _ h) [
    | inl g ↦ stood vis.Crate x (drop 3 at) rest (restricted_spelled (codes "crate") ts at (drop 3 at) word (restriction_is (codes "crate") at t g.0)) refl refl g.1
    | inr a ↦ elim (chosen (restricts_to (codes "self") at) _ _ _ a.1) [
      | inl g ↦ stood vis.Own x (drop 3 at) rest (restricted_spelled (codes "self") ts at (drop 3 at) word (restriction_is (codes "self") at t g.0)) refl refl g.1
      | inr b ↦ elim (chosen (restricts_to (codes "super") at) _ _ _ b.1) [
        | inl g ↦ stood vis.Super x (drop 3 at) rest (restricted_spelled (codes "super") ts at (drop 3 at) word (restriction_is (codes "super") at t g.0)) refl refl g.1
        | inr c ↦ elim (chosen (restricts_in at) _ _ _ c.1) [
          | inl g ↦ in_sound x rest g.0 g.1
          | inr d ↦ stood vis.Public x at rest (at, (at, word, (at, refl, refl)), refl) refl (rw (a.0, b.0, c.0, d.0) refl) d.1
        ]
      ]
    ]
  ]

pub vis_sound : SoundStep visibility (StoodFree about_vis)
unfolding visibility
vis_sound ts x rest t h = elim (chosen (first (is_keyword (codes "pub")) ts) _ _ _ h) [
  | inl g ↦
      let o = keyword_one (codes "pub") ts g.0 in
      behind_sound ts (tail ts) o t (bit_texts (keyword (codes "pub")) ts (tail ts) o t) x rest g.1
  | inr g ↦ same_some (Out (StoodFree about_vis) ts) (vis.Inherited, ts) (x, rest) g.1 ((refl, refl, ap not g.0), t)
]

-- ---- what a visibility begins with, and what follows it

-- It is nothing, or begins with `pub`.
pub vis_front : (v : Vis) (depth : ℕ) (ts rest : Tokens) → Spells (vis_form v) depth ts rest
    → ((v ≡ vis.Inherited) × (ts ≡ rest)) ⊎ ((at : Tokens) × IsOne Ident (codes "pub") ts at)
vis_front vis.Inherited depth ts rest s = inl (refl, s)
vis_front vis.Public depth ts rest s = inr (s.0, before_blank (keyword (codes "pub")) ts s.0 s.1)
vis_front vis.Crate depth ts rest s = inr (s.1.0, s.1.1)
vis_front vis.Own depth ts rest s = inr (s.1.0, s.1.1)
vis_front vis.Super depth ts rest s = inr (s.1.0, s.1.1)
vis_front (vis.In path) depth ts rest s = inr (s.1.0, s.1.1)

pub no_restriction : (ts : Tokens) → first (opens Paren) ts ≡ false → restricts ts ≡ false
no_restriction ts h = rw h refl

-- What is neither `pub` nor in parentheses may follow any.
pub vis_may : (v : Vis) (ts : Tokens) → first (is_keyword (codes "pub")) ts ≡ false → first (opens Paren) ts ≡ false → vis_follows v ts ≡ true
vis_may vis.Inherited ts word paren = ap not word
vis_may vis.Public ts word paren = ap not (no_restriction ts paren)
vis_may _ ts word paren = refl

-- ---- what stands there is read

pub vis_none : (ts : Tokens) → first (is_keyword (codes "pub")) ts ≡ false → visibility ts ≡ Some (vis.Inherited, ts)
unfolding visibility
vis_none ts h = rw h refl

restricted_parts : (word : List ℕ) (depth : ℕ) (ts rest : Tokens) → Spells (piece (restricted word)) depth ts rest
    → (at : Tokens) × IsOne Ident (codes "pub") ts at × Restriction word at rest
restricted_parts word depth ts rest s =
    let pub_one = s.1 in
    let paren = pub_one.2 in
    let one = paren.2 in
    let close = one.2 in
    let blank = close.2 in
    let end : close.0 ≡ rest = blank.1 ∙ blank.2 ∙ s.2 in
    (pub_one.0, pub_one.1, (paren.0, one.0, paren.1, one.1, subst (IsOne (Closer Paren) (closing Paren ∷ []) one.0) end close.1))

-- the tests of what restricts
module _ (word : List ℕ) (ts rest : Tokens) (r : Restriction word ts rest) where
  paren_there : first (opens Paren) ts ≡ true
  paren_there = rw (one_front (Opener Paren) (opening Paren ∷ []) ts r.0 r.2).1 refl

  pub restricts_there : restricts_to word ts ≡ true
  restricts_there =
      rw (
        paren_there,
        one_left (Opener Paren) (opening Paren ∷ []) ts r.0 r.2,
        keyword_there word r.0 r.1 r.3,
        one_left Ident word r.0 r.1 r.3,
        (closer_first Paren r.1 rest r.4).0,
      ) refl

  restricts_other : (other : List ℕ) → bytes_eq word other ≡ false → restricts_to other ts ≡ false
  restricts_other other differ =
      rw (paren_there, one_left (Opener Paren) (opening Paren ∷ []) ts r.0 r.2, keyword_other word other differ r.0 r.1 r.3) refl

  restriction_left : drop 3 ts ≡ rest
  restriction_left =
      sym (three_left ts) ∙ ap (λ us. tail (tail us)) (one_left (Opener Paren) (opening Paren ∷ []) ts r.0 r.2)
      ∙ ap tail (one_left Ident word r.0 r.1 r.3) ∙ (closer_first Paren r.1 rest r.4).1

in_there : (path : SimplePath) (depth : ℕ) (ts rest : Tokens) → Spells (vis_form (vis.In path)) depth ts rest → is_vis (vis.In path) ≡ true
    → visibility ts ≡ Some (vis.In path, rest)
unfolding visibility
in_there path depth ts rest s g =
    let word = s.1 in
    let at = word.0 in
    let paren = word.2 in
    let inside = paren.0 in
    let start : IsOne Ident (codes "in") inside s.0 = before_blank (keyword (codes "in")) inside s.0 paren.2 in
    let part = s.2 in
    let end = part.0 in
    let close : IsOne (Closer Paren) (closing Paren ∷ []) end rest =
    subst (IsOne (Closer Paren) (closing Paren ∷ []) end) part.2.2 (before_blank (closer Paren) end part.2.0 part.2.1) in
    let no_colons = one_no_op (codes "::") (Closer Paren) (closing Paren ∷ []) end rest refl close in
    let read = simple_path_complete path depth s.0 end (part.1, g, rw no_colons refl) in
    let opened : first (opens Paren) at ≡ true = rw (one_front (Opener Paren) (opening Paren ∷ []) at inside paren.1).1 refl in
    let left = one_left (Opener Paren) (opening Paren ∷ []) at inside paren.1 in
    let behind : drop 2 at ≡ s.0 = sym (two_left at) ∙ ap tail left ∙ one_left Ident (codes "in") inside s.0 start in
    rw (
      keyword_there (codes "pub") ts at word.1,
      one_left Ident (codes "pub") ts at word.1,
      opened,
      left,
      keyword_other (codes "in") (codes "crate") refl inside s.0 start,
      keyword_other (codes "in") (codes "self") refl inside s.0 start,
      keyword_other (codes "in") (codes "super") refl inside s.0 start,
      keyword_there (codes "in") inside s.0 start,
      one_left Ident (codes "in") inside s.0 start,
      behind,
      read,
      (closer_first Paren end rest close).0,
      (closer_first Paren end rest close).1,
    ) refl

pub vis_complete : (v : Vis) (depth : ℕ) (ts rest : Tokens) → Spells (vis_form v) depth ts rest → is_vis v ≡ true → vis_follows v rest ≡ true
    → visibility ts ≡ Some (v, rest)
unfolding visibility
vis_complete vis.Inherited depth ts rest s g f = rw s (vis_none rest (not-true (first (is_keyword (codes "pub")) rest) f))
vis_complete vis.Public depth ts rest s g f =
    let o : IsOne Ident (codes "pub") ts rest = subst (IsOne Ident (codes "pub") ts) s.2 (before_blank (keyword (codes "pub")) ts s.0 s.1) in
    let a = not-true (restricts rest) f in
    let b = none_right (restricts_to (codes "crate") rest) _ a in
    let c = none_right (restricts_to (codes "self") rest) _ b in
    rw (
      keyword_there (codes "pub") ts rest o,
      one_left Ident (codes "pub") ts rest o,
      none_left (restricts_to (codes "crate") rest) _ a,
      none_left (restricts_to (codes "self") rest) _ b,
      none_left (restricts_to (codes "super") rest) _ c,
      none_right (restricts_to (codes "super") rest) _ c,
    ) refl
vis_complete vis.Crate depth ts rest s g f =
    let p = restricted_parts (codes "crate") depth ts rest s in
    rw (
      keyword_there (codes "pub") ts p.0 p.1,
      one_left Ident (codes "pub") ts p.0 p.1,
      restricts_there (codes "crate") p.0 rest p.2,
      restriction_left (codes "crate") p.0 rest p.2,
    ) refl
vis_complete vis.Own depth ts rest s g f =
    let p = restricted_parts (codes "self") depth ts rest s in
    rw (
      keyword_there (codes "pub") ts p.0 p.1,
      one_left Ident (codes "pub") ts p.0 p.1,
      restricts_other (codes "self") p.0 rest p.2 (codes "crate") refl,
      restricts_there (codes "self") p.0 rest p.2,
      restriction_left (codes "self") p.0 rest p.2,
    ) refl
vis_complete vis.Super depth ts rest s g f =
    let p = restricted_parts (codes "super") depth ts rest s in
    rw (
      keyword_there (codes "pub") ts p.0 p.1,
      one_left Ident (codes "pub") ts p.0 p.1,
      restricts_other (codes "super") p.0 rest p.2 (codes "crate") refl,
      restricts_other (codes "super") p.0 rest p.2 (codes "self") refl,
      restricts_there (codes "super") p.0 rest p.2,
      restriction_left (codes "super") p.0 rest p.2,
    ) refl
vis_complete (vis.In path) depth ts rest s g f = in_there path depth ts rest s g

pub vis_exact : Exact (needless visibility) (λ (v : Vis). ToldFront (about_vis v))
vis_exact = free_exact about_vis visibility vis_sound vis_complete
