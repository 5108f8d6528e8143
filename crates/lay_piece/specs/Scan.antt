-- Scanning by an automaton: each character moves the state, until one ends the form or can't belong
-- to it.
use Rattle.std.specs.Prelude.{ℕ, List, [], ◌∷◌, Option, Some, None}

pub data Next (S : Type 0) : Type 0 where
  -- The form goes on.
  Go : S → Next S
  -- The character is the form's last.
  End : Next S
  -- The form can't go on with the character.
  Bad : Next S

-- the rest after the form, if the text begins with it
unfoldable pub run : {S : Type 0} → (S → ℕ → Next S) → S → List ℕ → Option (List ℕ)
run step s [] = None
run step s (c ∷ cs) = elim (step s c) [ Go t ↦ run step t cs | End ↦ Some cs | Bad ↦ None ]
