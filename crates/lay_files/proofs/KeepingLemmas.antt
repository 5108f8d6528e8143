-- What was written to a sink that keeps it.
use Rattle.std.proofs.Common.{◌≡◌, ℕ, List, [], ◌++◌, Some, ap, ◌∙◌, sym}
use Rattle.lay_io.specs.Told.{GrewBy}

-- What was written to a sink that kept nothing before is what it keeps.
pub kept : (before now text given : List ℕ) → before ≡ [] → GrewBy (Some before) (Some now) text → given ≡ now → given ≡ text
kept before now text given empty grew is =
    let joined : before ++ text ≡ now = cc in
    let bare : before ++ text ≡ text = ap (λ (front : List ℕ). front ++ text) empty in
    is ∙ sym joined ∙ bare
