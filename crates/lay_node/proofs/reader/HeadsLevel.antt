-- What is within the heads of items, and heads by themselves, with what is within them one level deeper.
use Rattle.std.proofs.Common.{◌≡◌, ℕ, zero, suc, ◌≤◌, true, drop, Some, refl, arith}
use Rattle.lay_form.specs.Spelled.{Spells}
use Rattle.lay_node.specs.Ahead.{Tokens}
use Rattle.lay_node.specs.nodes.Facts.{Told, ToldFront, by_itself}
use Rattle.lay_node.specs.reader.Exact.{Exact, needless}
use Rattle.lay_node.specs.reader.Functions.{head_at, insides}
use Rattle.lay_node.specs.reader.Loops.{Got, Read}
use Rattle.lay_node.specs.reader.Patterns.{PatWithin, single_at}
use Rattle.lay_node.proofs.Steps.{same_some, bind_some}
use Rattle.lay_node.proofs.reader.Exact.{IsRead}
use Rattle.lay_node.proofs.reader.Loops.{SoundStep}
use Rattle.lay_node.proofs.reader.PatternsComplete.{place_read, single_reads}
use Rattle.lay_node.proofs.reader.PatternsCompletePaths.{PatReads}
use Rattle.lay_node.proofs.reader.PatternsSound.{pat_at_sound}
use Rattle.lay_node.proofs.reader.PatternsSoundLevel.{SoundPatWithin}
use Rattle.lay_node.proofs.reader.TypesCompleteKinds.{inner_of, within_reads}
use Rattle.lay_node.proofs.reader.TypesSound.{counted_sound, within_sound}
use Rattle.lay_node.proofs.reader.TypesSoundParts.{Out}

-- ---- what is within them

pub insides_sound : (budget : ℕ) → SoundPatWithin budget (insides budget)
insides_sound budget = record {
  pats = λ place. pat_at_sound place budget;
  kinds = within_sound budget;
}

pub insides_reads : (depth budget : ℕ) → depth ≤ budget → PatReads depth (insides budget)
insides_reads depth budget h = record {
  pats = λ place x ts rest s g f.
      place_read depth budget h (single_at budget) (λ least le. single_reads depth least budget le (omega (arith, le, h))) place x ts rest s g f;
  kinds = within_reads depth budget h;
}

-- ---- heads

-- A head with these facts stands before the rest, at the depth that it needs, which is within the budget.
abbrev pub Stood : {A : Type 0} → (A → Told) → ℕ → A × ℕ → Tokens → Tokens → Type 0
Stood about budget x ts rest =
    (x.1 ≤ budget) × Spells (about x.0).form x.1 ts rest × ((about x.0).good ≡ true) × ((about x.0).follows rest ≡ true)

-- What is read stands there, wherever what is within it is.
abbrev pub SoundHead : {A : Type 0} → (A → Told) → (PatWithin → Tokens → Read A) → Type 0
SoundHead about one = (budget : ℕ) (inner : PatWithin) → SoundPatWithin budget inner → SoundStep (one inner) (Stood about budget)

-- What stands there is read, wherever what is within it is.
abbrev pub CompleteHead : {A : Type 0} → (A → Told) → (PatWithin → Tokens → Read A) → Type 0
CompleteHead {A} about one = (depth : ℕ) (inner : PatWithin) → PatReads depth inner → (x : A) (ts rest : Tokens)
    → Spells (about x).form depth ts rest → (about x).good ≡ true → (about x).follows rest ≡ true → IsRead depth (one inner) x ts rest

module _ {A : Type 0} (about : A → Told) (one : PatWithin → Tokens → Read A) where
  head_sound : SoundHead about one → (budget : ℕ) → SoundStep (head_at one budget) (Stood (λ x. by_itself (about x)) budget)
  head_sound sound zero ts x rest t h = absurd (cc)
  head_sound sound (suc budget) ts x rest t h =
      let y = bind_some (one (insides budget) ts) _ _ h in
      let s = sound budget (insides budget) (insides_sound budget) ts y.0.0 y.0.1 t y.1 in
      let k = s.0 in
      same_some (Out (Stood (λ x. by_itself (about x)) (suc budget)) ts) ((y.0.0.0, suc y.0.0.1), y.0.1) (x, rest) y.2
      ((omega (arith, k.0), (y.0.1, k.1, refl), k.2, k.3), s.1)

  head_read : CompleteHead about one → (x : A) (depth budget : ℕ) → depth ≤ budget → (ts rest : Tokens)
      → Spells (by_itself (about x)).form depth ts rest → (about x).good ≡ true → (about x).follows rest ≡ true → IsRead depth (head_at one budget) x ts rest
  head_read complete x zero budget h ts rest s g f = absurd s
  head_read complete x (suc depth) zero h ts rest s g f = absurd (omega arith)
  head_read complete x (suc depth) (suc budget) h ts rest s g f =
      let r = complete depth (insides budget) (insides_reads depth budget (omega arith)) x ts rest (inner_of (about x).form depth ts rest s) g f in
      (suc r.0, omega (arith, r.1), rw r.2 refl)

  -- So a head by itself is read exactly where it stands.
  pub head_exact : SoundHead about one → CompleteHead about one → Exact (head_at one) (λ x. ToldFront (by_itself (about x)))
  head_exact sound complete = record {
    sound = counted_sound (λ x. (by_itself (about x)).form) (λ x. (by_itself (about x)).good) (λ x. (by_itself (about x)).follows)
        (head_at one) (head_sound sound);
    complete = λ x ts n depth f budget h. head_read complete x depth budget h ts (drop n ts) f.1 f.2 f.3;
  }

-- ---- nodes with no nodes within them

-- It stands before the rest, at every depth.
abbrev pub StoodFree : {A : Type 0} → (A → Told) → A → Tokens → Tokens → Type 0
StoodFree about x ts rest = Spells (about x).form 0 ts rest × ((about x).good ≡ true) × ((about x).follows rest ≡ true)

module _ {A : Type 0} (about : A → Told) (one : Tokens → Got A) where
  free_sound : SoundStep one (StoodFree about) → (budget : ℕ) → SoundStep (needless one budget) (Stood about budget)
  free_sound sound budget ts x rest t h =
      let y = bind_some (one ts) _ _ h in
      let s = sound ts y.0.0 y.0.1 t y.1 in
      same_some (Out (Stood about budget) ts) ((y.0.0, 0), y.0.1) (x, rest) y.2 ((omega arith, s.0.0, s.0.1, s.0.2), s.1)

  pub free_exact : SoundStep one (StoodFree about)
      → ((x : A) (depth : ℕ) (ts rest : Tokens) → Spells (about x).form depth ts rest → (about x).good ≡ true → (about x).follows rest ≡ true
      → one ts ≡ Some (x, rest))
      → Exact (needless one) (λ x. ToldFront (about x))
  free_exact sound complete = record {
    sound = counted_sound (λ x. (about x).form) (λ x. (about x).good) (λ x. (about x).follows) (needless one) (free_sound sound);
    complete = λ x ts n depth f budget h. (0, omega arith, rw (complete x depth ts (drop n ts) f.1 f.2 f.3) refl);
  }
