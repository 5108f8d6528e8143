-- What was found after something else, which is kept beside it.
use Rattle.std.proofs.Common.{◌≡◌, ℕ, ◌≤◌, Some, Result, Ok, Err, IfErr, IfOk, MatchResult, ap}
use Rattle.lay_node.specs.Ahead.{Tokens}
use Rattle.lay_node.specs.reader.Loops.{Got, Read}
use Rattle.lay_read_tokens.specs.Answers.{IsFound, IsHeld, Stopped}
use Rattle.lay_read_tokens.specs.declared.found.Found.{Found}
use Rattle.lay_read_tokens.specs.declared.stop.ReadNone.{ReadNone}
use Rattle.lay_read_tokens.specs.declared.stop.ReadNone.TheVariants.{NoMemory}

module _ {A B : Type 0} (read : Read B) (first : A) (rest : Tokens) where
  pub second_stopped : (r : Result (Found B) ReadNone) (none : ReadNone)
      → MatchResult r (λ b. ◌≡◌ {A = Result (A × Found B) ReadNone} (Err none) (Ok (first, b))) (λ e. ◌≡◌ {A = Result (A × Found B) ReadNone} (Err none) (Err e))
      → IsFound read r rest → Stopped read none
  second_stopped (Ok b) none m h = absurd (cc)
  second_stopped (Err e) none m h = let same : none ≡ e = cc in rw same h

  pub second_found : (r : Result (Found B) ReadNone) (a : A) (b : Found B)
      → MatchResult r (λ x. ◌≡◌ {A = Result (A × Found B) ReadNone} (Ok (a, b)) (Ok (first, x))) (λ e. ◌≡◌ {A = Result (A × Found B) ReadNone} (Ok (a, b)) (Err e))
      → IsFound read r rest → (a ≡ first) × (read ≡ Some ((b.node, b.need), rest))
  second_found (Ok x) a b m h =
      let pair : ◌≡◌ {A = A × Found B} (a, b) (first, x) = cc in
      (ap (λ p. p.0) pair, rw (ap (λ p. p.1) pair) h)
  second_found (Err e) a b m h = absurd (cc)

-- It needs no more than what was read.
pub second_within : {A B : Type 0} (first : A) (depth : ℕ) (r : Result (Found B) ReadNone) (a : A) (b : Found B)
    → MatchResult r (λ x. ◌≡◌ {A = Result (A × Found B) ReadNone} (Ok (a, b)) (Ok (first, x))) (λ e. ◌≡◌ {A = Result (A × Found B) ReadNone} (Ok (a, b)) (Err e))
    → IfOk r (λ found. found.need ≤ depth) → b.need ≤ depth
second_within {A} {B} first depth (Ok x) a b m h =
    let pair : ◌≡◌ {A = A × Found B} (a, b) (first, x) = cc in
    let same : b ≡ x = ap (λ p. p.1) pair in
    rw same h
second_within first depth (Err e) a b m h = absurd (cc)

-- What was read one by one after it is some list.
pub second_held : {A B C : Type 0} (Holds : C → B → Type 0) (read : Got C) (first : A) (rest : Tokens) (r : Result B ReadNone) (a : A) (b : B)
    → MatchResult r (λ x. ◌≡◌ {A = Result (A × B) ReadNone} (Ok (a, b)) (Ok (first, x))) (λ e. ◌≡◌ {A = Result (A × B) ReadNone} (Ok (a, b)) (Err e))
    → IsHeld Holds read r rest → (c : C) × (read ≡ Some (c, rest))
second_held Holds read first rest (Ok x) a b m h = (h.0, h.1)
second_held Holds read first rest (Err e) a b m h = absurd (cc)

-- What was read is found, unless memory ran out for its box.
pub boxed_read : {A : Type 0} (read : Read A) (node : A) (need : ℕ) (left : Tokens) (r : Result (Found A) ReadNone) → read ≡ Some ((node, need), left)
    → IfOk r (λ found. found.node ≡ node) → IfOk r (λ found. found.need ≡ need) → IfErr r (λ none. none ≡ NoMemory) → IsFound read r left
boxed_read read node need left (Ok found) h n m e = rw (n, m) h
boxed_read read node need left (Err none) h n m e = rw e tt
