-- What is read within a depth, unless it is deeper than may be.
use Rattle.std.proofs.Common.{◌≡◌, ℕ, ◌≤◌, Some, Result, Ok, Err, refl}
use Rattle.std.specs.Prelude.{IfErr, IfOk}
use Rattle.std.proofs.lemmas.Bool.{le-leb}
use Rattle.lay_node.specs.Ahead.{Tokens}
use Rattle.lay_node.specs.reader.Loops.{Read}
use Rattle.lay_read_tokens.specs.Answers.{IsFound}
use Rattle.lay_read_tokens.specs.declared.found.Found.{Found}
use Rattle.lay_read_tokens.specs.declared.stop.ReadNone.{ReadNone}
use Rattle.lay_read_tokens.specs.declared.stop.ReadNone.TheVariants.{NoReading, NoMemory}
use Rattle.lay_read_blocks.specs.Answers.{fits}

-- What is no deeper than may be is read as it is.
pub fitting : {A : Type 0} (budget : ℕ) (read : Read A) (r : Result (Found A) ReadNone) (left : Tokens)
    → IsFound read r left → IfOk r (λ found. found.need ≤ budget) → IsFound (fits budget read) r left
fitting budget read (Ok found) left h le = rw (h, le-leb found.need budget le) refl
fitting budget read (Err NoReading) left h le = rw h refl
fitting budget read (Err NoMemory) left h le = tt

-- The same of what is read and put into a box, unless memory ran out for that.
pub boxed_fitting : {A : Type 0} (budget : ℕ) (read : Read A) (node : A) (need : ℕ) (left : Tokens) (r : Result (Found A) ReadNone)
    → read ≡ Some ((node, need), left) → need ≤ budget → IfOk r (λ found. found.node ≡ node) → IfOk r (λ found. found.need ≡ need)
    → IfErr r (λ none. none ≡ NoMemory) → IsFound (fits budget read) r left
boxed_fitting budget read node need left (Ok found) h le n m e = rw (n, m, h, le-leb need budget le) refl
boxed_fitting budget read node need left (Err none) h le n m e = rw e tt
