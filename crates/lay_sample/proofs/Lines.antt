-- Lines, piece by piece.
use Rattle.std.proofs.Common.{◌≡◌, ℕ, List, ◌++◌, Result, OnOk, ap, ◌∙◌, append_assoc}
use Rattle.std.proofs.lemmas.Result.{IfOk-equal}

-- a piece, a number and a piece after a text are a line after it
pub one_number : {T E : Type 0} (r : Result T E) (old before number behind middle new : List ℕ)
    → middle ≡ old ++ before ++ number → OnOk r (new ≡ middle ++ behind)
    → OnOk r (new ≡ old ++ (before ++ number ++ behind))
one_number r old before number behind middle new e h =
    IfOk-equal r new (middle ++ behind) (old ++ (before ++ number ++ behind)) h
    (ap (λ text. text ++ behind) e ∙ simp append_assoc)

-- the same with two numbers
pub two_numbers : {T E : Type 0} (r : Result T E) (old before first between second behind start middle new : List ℕ)
    → start ≡ old ++ before ++ first → middle ≡ start ++ between ++ second → OnOk r (new ≡ middle ++ behind)
    → OnOk r (new ≡ old ++ (before ++ first ++ between ++ second ++ behind))
two_numbers r old before first between second behind start middle new e f h =
    IfOk-equal r new (middle ++ behind) (old ++ (before ++ first ++ between ++ second ++ behind)) h
    (ap (λ text. text ++ behind) (f ∙ ap (λ text. text ++ between ++ second) e) ∙ simp append_assoc)
