-- Tokens that a parser skips, keeping nothing of them.
use Rattle.std.specs.Prelude.{◌≡◌, Bool, true, false, Some, None}
use Rattle.lay_node.specs.Ahead.{Tokens}
use Rattle.lay_node.specs.reader.Loops.{Got}

-- Something was read, and these tokens are left; or nothing was.
abbrev pub IsPassed : {A : Type 0} → Got A → Bool → Tokens → Type 0
IsPassed {A} got true left = (a : A) × (got ≡ Some (a, left))
IsPassed got false left = got ≡ None
