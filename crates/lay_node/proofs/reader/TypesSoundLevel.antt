-- Types at their places: what is held of those that are read, one level deeper and at their own level.
use Rattle.std.proofs.Common.{◌≡◌, ℕ, suc, ◌≤◌, Bool, true, false, not, ◌&&◌, List, [], codes, refl, sym, subst, arith}
use Rattle.std.proofs.lemmas.Bool.{and_parts, and_from}
use Rattle.lay_token.specs.Operators.{is_op}
use Rattle.lay_form.specs.Form.{Form}
use Rattle.lay_form.specs.Spelled.{Spells}
use Rattle.lay_node.specs.Ahead.{Tokens}
use Rattle.lay_node.specs.Follow.{Begin, may_follow}
use Rattle.lay_node.specs.nodes.Facts.{Facts}
use Rattle.lay_node.specs.nodes.Types as types
use Rattle.lay_node.specs.nodes.Types.{TypeFacts, good_at, type_follows, about_type, about_constraint, alone}
use Rattle.lay_node.specs.reader.Types.{Within}
use Rattle.lay_node.specs.declared.types.Constraint.{Constraint}
use Rattle.lay_node.specs.declared.types.Ty.{Ty}
use Rattle.lay_node.specs.declared.types.TypePlace.{TypePlace}
use Rattle.lay_node.specs.declared.types.TypePlace.TheVariants.{Bounds, NoBounds}
use Rattle.lay_node.proofs.reader.Loops.{SoundStep}
use Rattle.lay_node.proofs.reader.TypesSoundNeeds.{Held}

-- ---- types one level deeper

-- A type with these facts stands at the place, at this depth, which is within the budget.
abbrev pub IsType : TypePlace → ℕ → TypeFacts → ℕ → Tokens → Tokens → Type 0
IsType place budget x n ts rest =
    (n ≤ budget) × Spells x.told.form n ts rest × (good_at place x ≡ true) × (type_follows place x rest ≡ true)

abbrev pub TypeHeld : TypePlace → ℕ → Ty × ℕ → Tokens → Tokens → Type 0
TypeHeld place budget x ts rest = IsType place budget (about_type x.0) x.1 ts rest

-- What is asked of a name stands one level deeper, as the name does.
abbrev pub asked : Constraint → Facts
asked c = alone (about_constraint c)

-- What is read one level deeper stands there within the budget.
pub record SoundWithin (budget : ℕ) (within : Within) : Type 0 where
  pub types : (place : TypePlace) → SoundStep (within.types place) (TypeHeld place budget)
  pub constraints : SoundStep within.constraints (Held asked budget)

pub type_told : (place : TypePlace) (budget : ℕ) (F G : TypeFacts) (n : ℕ) (ts rest : Tokens) → F ≡ G
    → IsType place budget F n ts rest
    → IsType place budget G n ts rest
type_told place budget F G n ts rest e s = subst (λ (x : TypeFacts). IsType place budget x n ts rest) e s

pub bounds_refused : (x : TypeFacts) (rest : Tokens) → type_follows Bounds x rest ≡ true
    → may_follow x.told.refuses rest ≡ true
bounds_refused x rest h = (and_parts (not (x.bounded && is_op (codes "+") rest)) (may_follow x.told.refuses rest) h).1

pub lone_good : (x : TypeFacts) → good_at NoBounds x ≡ true → x.told.good ≡ true
lone_good x h = (and_parts x.told.good (not x.several) h).0

-- ---- a type, one level above what is within it

-- the facts about a type that isn't bounds
abbrev pub unbounded : Form → Bool → List Begin → Bool → TypeFacts
unbounded form good refuses binds =
    record {
      told = record {
        form = types.deeper form;
        good = good;
        refuses = refuses;
      };
      bounded = false;
      several = false;
      binds = binds;
    }

unbounded_good : (place : TypePlace) (form : Form) (good : Bool) (refuses : List Begin) (binds : Bool) → good ≡ true
    → good_at place (unbounded form good refuses binds) ≡ true
unbounded_good Bounds form good refuses binds g = g
unbounded_good NoBounds form good refuses binds g = and_from good true g refl

unbounded_follows : (place : TypePlace) (form : Form) (good : Bool) (refuses : List Begin) (binds : Bool)
    (rest : Tokens) → may_follow refuses rest ≡ true
    → type_follows place (unbounded form good refuses binds) rest ≡ true
unbounded_follows Bounds form good refuses binds rest f = f
unbounded_follows NoBounds form good refuses binds rest f = f

pub type_held : (place : TypePlace) (budget : ℕ) (X : TypeFacts) (form : Form) (good : Bool) (refuses : List Begin)
    (binds : Bool) (n : ℕ) (ts rest : Tokens)
    → X ≡ unbounded form good refuses binds → n ≤ budget → Spells form n ts rest → good ≡ true
    → may_follow refuses rest ≡ true
    → IsType place (suc budget) X (suc n) ts rest
type_held place budget X form good refuses binds n ts rest e le s g f =
    let there : IsType place (suc budget) (unbounded form good refuses binds) (suc n) ts rest = (
      omega (arith, le),
      (rest, s, refl),
      unbounded_good place form good refuses binds g,
      unbounded_follows place form good refuses binds rest f,
    ) in
    subst (λ (z : TypeFacts). IsType place (suc budget) z (suc n) ts rest) (sym e) there

-- one that anything may follow
pub shut_held : (place : TypePlace) (budget : ℕ) (X : TypeFacts) (form : Form) (good : Bool) (n : ℕ) (ts rest : Tokens)
    → X ≡ unbounded form good [] false
    → n ≤ budget → Spells form n ts rest → good ≡ true → IsType place (suc budget) X (suc n) ts rest
shut_held place budget X form good n ts rest e le s g =
    type_held place budget X form good [] false n ts rest e le s g refl
