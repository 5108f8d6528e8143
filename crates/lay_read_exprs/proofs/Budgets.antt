-- What begins an expression, unless it is deeper than may be.
use Rattle.std.proofs.Common.{◌≡◌, ℕ, ◌≤◌, true, nat_le, Result, Ok, Err, IfOk, refl, arith}
use Rattle.std.proofs.lemmas.Bool.Decides.{nat_tests}
use Rattle.lay_node.specs.Ahead.{Tokens}
use Rattle.lay_node.specs.reader.Loops.{Read}
use Rattle.lay_read_tokens.specs.Answers.{IsFound}
use Rattle.lay_read_tokens.specs.declared.found.Found.{Found}
use Rattle.lay_read_tokens.specs.declared.stop.ReadNone.{ReadNone}
use Rattle.lay_read_tokens.proofs.Steps.{lost}
use Rattle.lay_read_blocks.specs.Answers.{fits}

-- What is read within the budget fits it.
pub found_fits : {A : Type 0} (budget : ℕ) (read : Read A) (r : Result (Found A) ReadNone) (left : Tokens) → IsFound read r left
    → IfOk r (λ found. found.need ≤ budget) → IsFound (fits budget read) r left
found_fits budget read (Ok found) left e within =
    let test : nat_le found.need budget ≡ true = grind (arith, nat_tests) in rw (e, test) refl
found_fits budget read (Err none) left e within = lost read (fits budget read) none e (λ h. rw h refl)
