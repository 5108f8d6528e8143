-- Patterns at their places: what is held of those that are read, one level deeper and at their own level.
use Rattle.std.proofs.Common.{◌≡◌, ℕ, suc, ◌≤◌, Bool, true, false, not, ◌&&◌, List, [], ◌∷◌, map, codes, refl, sym, ap, subst, arith}
use Rattle.std.specs.List.{list_all}
use Rattle.std.proofs.lemmas.Bool.{and_parts, and_from}
use Rattle.std.proofs.lemmas.List.Folds.{list_all-map}
use Rattle.lay_token.specs.Operators.{is_op}
use Rattle.lay_form.specs.Form.{Form}
use Rattle.lay_form.specs.Spelled.{Spells}
use Rattle.lay_node.specs.Ahead.{Tokens}
use Rattle.lay_node.specs.Begins.{begins_span_end}
use Rattle.lay_node.specs.Follow.{goes_on_pattern, may_follow}
use Rattle.lay_node.specs.nodes.Patterns.{PatFacts, about_pat, all_pats_good, pat_follows, pat_form, pat_forms, pat_good, shut_pat, single_follows}
use Rattle.lay_node.specs.reader.Patterns.{PatWithin}
use Rattle.lay_node.specs.declared.patterns.Pat.{Pat}
use Rattle.lay_node.specs.declared.patterns.PatPlace.{PatPlace}
use Rattle.lay_node.specs.declared.patterns.PatPlace.TheVariants.{Alternatives, Single}
use Rattle.lay_node.proofs.reader.Loops.{SoundStep}
use Rattle.lay_node.proofs.reader.TypesSoundLevel.{SoundWithin}

-- ---- patterns one level deeper

-- A pattern with these facts stands at the place, at this depth, which is within the budget.
abbrev pub IsPat : PatPlace → ℕ → PatFacts → ℕ → Tokens → Tokens → Type 0
IsPat place budget x n ts rest =
    (n ≤ budget) × Spells (pat_form place x) n ts rest × (pat_good place x ≡ true) × (pat_follows place x rest ≡ true)

abbrev pub PatHeld : PatPlace → ℕ → Pat × ℕ → Tokens → Tokens → Type 0
PatHeld place budget x ts rest = IsPat place budget (about_pat x.0) x.1 ts rest

-- What is read one level deeper stands there within the budget.
pub record SoundPatWithin (budget : ℕ) (within : PatWithin) : Type 0 where
  pub pats : (place : PatPlace) → SoundStep (within.pats place) (PatHeld place budget)
  pub kinds : SoundWithin budget within.kinds

-- the forms of patterns at a place, and the test of all of them
pub pat_list : (place : PatPlace) (xs : List Pat)
    → (pat_forms place (map about_pat xs) ≡ map (λ x. pat_form place (about_pat x)) xs)
    × (all_pats_good place (map about_pat xs) ≡ list_all (λ x. pat_good place (about_pat x)) xs)
pat_list place xs = (forms_are xs, list_all-map (pat_good place) about_pat xs)
  where
    forms_are : (xs : List Pat) → pat_forms place (map about_pat xs) ≡ map (λ x. pat_form place (about_pat x)) xs
    forms_are [] = refl
    forms_are (x ∷ xs) = ap (λ fs. pat_form place (about_pat x) ∷ fs) (forms_are xs)

-- ---- what follows a pattern

-- what the rules of what may follow a pattern that isn't several alternatives say, one by one
pub record SingleFollows (x : PatFacts) (ts : Tokens) : Type 0 where
  pub ended : not (goes_on_pattern ts) ≡ true
  pub no_end : not (x.lacks_end && begins_span_end ts) ≡ true
  pub no_bound : not (x.lacks_bound && is_op (codes "@") ts) ≡ true
  pub refused : may_follow x.told.refuses ts ≡ true

pub follows_parts : (x : PatFacts) (ts : Tokens) → single_follows x ts ≡ true → SingleFollows x ts
follows_parts x ts h =
    let a = not (goes_on_pattern ts) in
    let b = not (x.lacks_end && begins_span_end ts) in
    let c = not (x.lacks_bound && is_op (codes "@") ts) in
    let last = and_parts (a && b && c) (may_follow x.told.refuses ts) h in
    let three = and_parts (a && b) c last.0 in
    let two = and_parts a b three.0 in
    record { ended = two.0; no_end = two.1; no_bound = three.1; refused = last.1 }

-- the refusals alone, where alternatives may stand
pub alternatives_refused : (x : PatFacts) (ts : Tokens) → pat_follows Alternatives x ts ≡ true
    → may_follow x.told.refuses ts ≡ true
alternatives_refused x ts h =
    (follows_parts x ts (and_parts (not (is_op (codes "|") ts)) (single_follows x ts) h).1).refused

-- ---- a pattern, one level above what is within it

-- A pattern that isn't several alternatives is spelled at the depth, which is within the budget, and what follows
-- it is none of its own last parts that are left out, nor what it refuses.
pub record IsOpen (budget : ℕ) (x : PatFacts) (n : ℕ) (ts rest : Tokens) : Type 0 where
  pub need : n ≤ budget
  pub form : Spells x.told.form n ts rest
  pub good : x.told.good ≡ true
  pub single : x.several ≡ false
  pub no_end : not (x.lacks_end && begins_span_end rest) ≡ true
  pub no_bound : not (x.lacks_bound && is_op (codes "@") rest) ≡ true
  pub refused : may_follow x.told.refuses rest ≡ true

abbrev pub PatOpen : ℕ → Pat × ℕ → Tokens → Tokens → Type 0
PatOpen budget x ts rest = IsOpen budget (about_pat x.0) x.1 ts rest

pub open_told : (budget : ℕ) (X F : PatFacts) (n : ℕ) (ts rest : Tokens) → X ≡ F → IsOpen budget F n ts rest
    → IsOpen budget X n ts rest
open_told budget X F n ts rest e s = subst (λ (z : PatFacts). IsOpen budget z n ts rest) (sym e) s

-- one that anything may follow
pub shut_open : (budget : ℕ) (X : PatFacts) (form : Form) (good : Bool) (n : ℕ) (ts rest : Tokens)
    → X ≡ shut_pat form good → n ≤ budget → Spells form n ts rest → good ≡ true
    → IsOpen (suc budget) X (suc n) ts rest
shut_open budget X form good n ts rest e le s g =
    open_told (suc budget) X (shut_pat form good) (suc n) ts rest e (record {
      need = omega (arith, le);
      form = (rest, s, refl);
      good = g;
      single = refl;
      no_end = refl;
      no_bound = refl;
      refused = refl;
    })

-- Where no pattern is gone on with, it stands there.
pub open_held : (budget : ℕ) (x : PatFacts) (n : ℕ) (ts rest : Tokens) → IsOpen budget x n ts rest
    → goes_on_pattern rest ≡ false → IsPat Single budget x n ts rest
open_held budget x n ts rest s g =
    let a = not (goes_on_pattern rest) in
    let b = not (x.lacks_end && begins_span_end rest) in
    let c = not (x.lacks_bound && is_op (codes "@") rest) in (
      s.need,
      s.form,
      and_from x.told.good (not x.several) s.good (ap not s.single),
      and_from (a && b && c) (may_follow x.told.refuses rest)
          (and_from (a && b) c (and_from a b (ap not g) s.no_end) s.no_bound) s.refused,
    )
