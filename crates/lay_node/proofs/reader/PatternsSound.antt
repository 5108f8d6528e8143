-- Patterns: what is read within a budget stands there, at the depth that it needs.
use Rattle.std.proofs.Common.{◌≡◌, ℕ, zero, suc, ◌≤◌, Bool, true, false, not, List, [], ◌∷◌, inl, inr, map, drop, codes, Some, if◌then◌else◌, refl, sym, ap, subst, ◌∙◌}
use Rattle.std.specs.Prelude.{nat_le}
use Rattle.std.proofs.lemmas.Bool.{and_parts, and_from, leb-true}
use Rattle.lay_token.specs.Operators.{is_op}
use Rattle.lay_form.specs.Form.{Blank, Operator, Form, Done, Piece, Part, Optional}
use Rattle.lay_form.specs.Notation.{B}
use Rattle.lay_form.specs.Spelled.{IsOperator, Spells}
use Rattle.lay_node.specs.Ahead.{Tokens}
use Rattle.lay_node.specs.nodes.Patterns.{PatFacts, PatFront, all_pats_good, pat_facts, pat_follows, pat_form, pat_forms, pat_good, single_follows, about_pat}
use Rattle.lay_node.specs.nodes.Types.{joined}
use Rattle.lay_node.specs.reader.Exact.{InText}
use Rattle.lay_node.specs.reader.Loops.{Read, nodes, deepest}
use Rattle.lay_node.specs.reader.Patterns.{PatWithin, alternatives_of, behind_bar, pat_at, pat_in, single_at}
use Rattle.lay_node.specs.reader.Types.{chain, within}
use Rattle.lay_node.specs.declared.patterns.FieldPat.TheOpen.{Pat-F}
use Rattle.lay_node.specs.declared.patterns.Pat.{Pat}
use Rattle.lay_node.specs.declared.patterns.Pat.TheVariants as pat
use Rattle.lay_node.specs.declared.patterns.PatPlace.{PatPlace}
use Rattle.lay_node.specs.declared.patterns.PatPlace.TheVariants.{Alternatives, Single}
use Rattle.lay_node.proofs.Parts.{Rows}
use Rattle.lay_node.proofs.Steps.{same_some, chosen, bind_some}
use Rattle.lay_node.proofs.nodes.PatternsLaws.{pat_or_is}
use Rattle.lay_node.proofs.reader.Loops.{SoundStep}
use Rattle.lay_node.proofs.reader.PatternsSoundKinds.{single_by_sound}
use Rattle.lay_node.proofs.reader.PatternsSoundLevel.{SoundPatWithin, PatHeld, pat_list}
use Rattle.lay_node.proofs.reader.TypesSound.{counted_sound, within_sound}
use Rattle.lay_node.proofs.reader.TypesSoundNeeds.{chained}
use Rattle.lay_node.proofs.reader.TypesSoundParts.{Out, bit_texts, BehindOp, Chain, chain_sound}

-- ---- alternatives

abbrev bar_lead : Form → Form
bar_lead f = B (Piece (Operator (codes "|") ∷ Blank ∷ []) f)

bar_leads : (f : Form) (depth : ℕ) (ts mid rest : Tokens) → IsOperator (codes "|") ts mid → Spells f depth mid rest
    → Spells (bar_lead f) depth ts rest
bar_leads f depth ts mid rest o s = (mid, (mid, o, (mid, refl, refl)), s)

-- The bar before alternatives may be spelled.
bar_spelled : (f : Form) (depth : ℕ) (ts rest : Tokens) → Spells f depth (behind_bar ts) rest
    → Spells (Optional false (Operator (codes "|") ∷ []) (Part f Done)) depth ts rest
bar_spelled f depth ts rest s = by (is_op (codes "|") ts) refl s
  where
    by : (b : Bool) → is_op (codes "|") ts ≡ b → Spells f depth (if b then drop 1 ts else ts) rest
        → Spells (Optional false (Operator (codes "|") ∷ []) (Part f Done)) depth ts rest
    by true e s = (drop 1 ts, inr (drop 1 ts, (e, refl), refl), (rest, s, refl))
    by false e s = (ts, inl refl, (rest, s, refl))

bar_texts : (ts : Tokens) → InText ts → InText (behind_bar ts)
bar_texts ts t = by (is_op (codes "|") ts) refl
  where
    by : (b : Bool) → is_op (codes "|") ts ≡ b → InText (if b then drop 1 ts else ts)
    by true e = bit_texts (Operator (codes "|")) ts (drop 1 ts) (e, refl) t
    by false e = t

-- what may follow several alternatives is what may follow the last of them
abbrev last_follow : List Pat → Tokens → Bool
last_follow xs ts = single_follows (pat_facts (Pat-F.Or (map about_pat xs))) ts

last_held : (budget : ℕ) (x : Pat × ℕ) (xs : List (Pat × ℕ)) (ts at rest : Tokens) → PatHeld Single budget x ts at
    → Rows (BehindOp (codes "|") (PatHeld Single budget)) xs at rest → last_follow (nodes (x ∷ xs)) rest ≡ true
last_held budget x [] ts at rest k r = subst (λ us. single_follows (about_pat x.0) us ≡ true) r k.3
last_held budget x (y ∷ ys) ts at rest k r = let row = r.1 in last_held budget y ys row.0 r.0 rest row.2 r.2

-- at the place of alternatives, after the bar
abbrev BehindBar : ℕ → Pat × ℕ → Tokens → Tokens → Type 0
BehindBar budget x ts rest =
    (x.1 ≤ budget) × Spells (about_pat x.0).told.form x.1 ts rest × ((about_pat x.0).told.good ≡ true)
    × (pat_follows Alternatives (about_pat x.0) rest ≡ true)

several_held : (budget : ℕ) (x y : Pat × ℕ) (ys : List (Pat × ℕ)) (ts rest : Tokens)
    → Chain (codes "|") (PatHeld Single budget) (x ∷ y ∷ ys) ts rest → is_op (codes "|") rest ≡ false
    → suc (deepest (x ∷ y ∷ ys)) ≤ budget
    → BehindBar budget (pat.Or (nodes (x ∷ y ∷ ys)), suc (deepest (x ∷ y ∷ ys))) ts rest
several_held budget x y ys ts rest c b le =
    let xs = x ∷ y ∷ ys in
    let k = chained budget (λ z. pat_form Single (about_pat z)) (λ z. pat_good Single (about_pat z))
    (PatHeld Single budget) (λ z us mid s. (s.0, s.1, s.2)) (codes "|") bar_lead bar_leads xs ts rest c in
    let all = nodes xs in
    let told = pat_list Single all in
    let most = deepest xs in
    let F = pat_facts (Pat-F.Or (map about_pat all)) in
    let spelled : Spells (joined bar_lead (pat_forms Single (map about_pat all))) most ts rest =
    subst (λ fs. Spells (joined bar_lead fs) most ts rest) (sym told.0) k.1 in
    let form : Spells F.told.form (suc most) ts rest = (rest, (rest, spelled, refl), refl) in
    let follow = and_from (not (is_op (codes "|") rest)) (single_follows F rest) (ap not b)
    (last_held budget x (y ∷ ys) ts c.0 rest c.1 c.2) in
    let P : PatFacts → Type 0 =
    λ z. (suc most ≤ budget) × Spells z.told.form (suc most) ts rest × (z.told.good ≡ true)
    × (pat_follows Alternatives z rest ≡ true) in
    let there : P F =
    (le, form, and_from true (all_pats_good Single (map about_pat all)) refl (told.1 ∙ k.2), follow) in
    subst P (sym (pat_or_is all)) there

alternatives_held : (budget : ℕ) (xs : List (Pat × ℕ)) (ts at : Tokens)
    → Chain (codes "|") (PatHeld Single budget) xs ts at → is_op (codes "|") at ≡ false → InText at
    → (x : Pat × ℕ) (rest : Tokens) → alternatives_of budget xs at ≡ Some (x, rest)
    → Out (BehindBar budget) ts (x, rest)
alternatives_held budget [] ts at c b t x rest h = absurd c
alternatives_held budget (y ∷ []) ts at c b t x rest h =
    let s : PatHeld Single budget y ts at = subst (λ us. PatHeld Single budget y ts us) c.2 c.1 in
    let told = about_pat y.0 in
    same_some (Out (BehindBar budget) ts) (y, at) (x, rest) h (
      (
        s.0,
        s.1,
        (and_parts told.told.good (not told.several) s.2).0,
        and_from (not (is_op (codes "|") at)) (single_follows told at) (ap not b) s.3,
      ),
      t,
    )
alternatives_held budget (y ∷ z ∷ zs) ts at c b t x rest h =
    let need = suc (deepest (y ∷ z ∷ zs)) in
    elim (chosen (nat_le need budget) _ _ _ h) [
      | inl g ↦
          same_some (Out (BehindBar budget) ts) ((pat.Or (nodes (y ∷ z ∷ zs)), need), at) (x, rest) g.1
          (several_held budget y z zs ts at c b (leb-true need budget g.0), t)
      | inr g ↦ absurd (cc g.1)
    ]

-- A pattern at its place stands there, where one that isn't several alternatives is read so.
pub pat_in_sound : (budget : ℕ) (one : Tokens → Read Pat) → SoundStep one (PatHeld Single budget) → (place : PatPlace)
    → SoundStep (pat_in budget one place) (PatHeld place budget)
pat_in_sound budget one sound Single ts x rest t h = sound ts x rest t h
pat_in_sound budget one sound Alternatives ts x rest t h =
    let at = behind_bar ts in
    let xs = bind_some (chain (codes "|") one at) _ _ h in
    let c = chain_sound (codes "|") one (PatHeld Single budget) sound at xs.0.0 xs.0.1 (bar_texts ts t) xs.1 in
    let s = alternatives_held budget xs.0.0 at xs.0.1 c.0 c.2 c.1 x rest xs.2 in
    let k = s.0 in ((k.0, bar_spelled (about_pat x.0).told.form x.1 ts rest k.1, k.2, k.3), s.1)

-- ---- within a budget

pub single_at_sound : (budget : ℕ) → SoundStep (single_at budget) (PatHeld Single budget)
unfolding single_at
single_at_sound zero ts x rest t h = absurd (cc)
single_at_sound (suc budget) ts x rest t h =
    let inner : PatWithin =
    record { pats = λ place us. pat_in budget (single_at budget) place us; kinds = within budget } in
    let sound : SoundPatWithin budget inner = record {
      pats = λ place. pat_in_sound budget (single_at budget) (single_at_sound budget) place;
      kinds = within_sound budget;
    } in
    single_by_sound budget inner sound ts x rest t h

-- A pattern that is read stands there, at the depth that it needs, and the tokens after it may follow it at its place.
pub pat_at_sound : (place : PatPlace) (budget : ℕ) → SoundStep (pat_at place budget) (PatHeld place budget)
pat_at_sound place budget = pat_in_sound budget (single_at budget) (single_at_sound budget) place

pub pats_stand : (place : PatPlace) (budget : ℕ) (ts : Tokens) (x : Pat) (need : ℕ) (rest : Tokens) → InText ts
    → pat_at place budget ts ≡ Some ((x, need), rest)
    → (n : ℕ) × (drop n ts ≡ rest) × (need ≤ budget) × PatFront place (about_pat x) ts n need
pats_stand place =
    counted_sound (λ x. pat_form place (about_pat x)) (λ x. pat_good place (about_pat x))
    (λ x. pat_follows place (about_pat x)) (pat_at place) (pat_at_sound place)
