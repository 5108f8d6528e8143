-- The loops of the readers, turn by turn: what reading gives in all is what the turns that are left make of what is
-- found.
use Rattle.std.proofs.Common.{◌≡◌, ℕ, zero, suc, ◌<◌, ◌≤◌, Bool, true, false, List, [], ◌∷◌, ◌++◌, length, Some, None, refl, ◌∙◌, arith}
use Rattle.lay_token.specs.declared.token.Token.{Token}
use Rattle.lay_node.specs.Ahead.{Tokens, first, tail}
use Rattle.lay_node.specs.reader.Loops.{Got, element_end, repeat_from, repeat, elements_from, elements}

-- This many turns after this one suffice, and make this of what is found.
pub record Turn {A : Type 0} (turns_make : ℕ → List A → Tokens → Got (List A)) (whole : Got (List A))
    (found : List A) (ts : Tokens) : Type 0 where
  pub turns : ℕ
  pub enough : length ts ≤ turns
  pub same : whole ≡ turns_make (suc turns) found ts

module _ {A : Type 0} (turns_make : ℕ → List A → Tokens → Got (List A)) where
  some_turns : (n : ℕ) (whole : Got (List A)) (found : List A) (ts : Tokens) → length ts < n
      → whole ≡ turns_make n found ts
      → Turn turns_make whole found ts
  some_turns zero whole found ts lt e = absurd (omega arith)
  some_turns (suc n) whole found ts lt e = record { turns = n; enough = omega arith; same = e }

-- ---- parts as long as a test holds

module _ {A : Type 0} (more : Tokens → Bool) (one : Tokens → Got A) where
  pub repeat-start : (ts : Tokens) → Turn (repeat_from more one) (repeat more one ts) [] ts
  unfolding repeat
  repeat-start ts = record { turns = length ts; enough = omega arith; same = refl }

  module _ (whole : Got (List A)) (found : List A) (ts : Tokens) (t : Turn (repeat_from more one) whole found ts) where
    pub repeat-end : more ts ≡ false → whole ≡ Some (found, ts)
    unfolding repeat_from
    repeat-end h = t.same ∙ rw h refl

    pub repeat-none : more ts ≡ true → one ts ≡ None → whole ≡ None
    unfolding repeat_from
    repeat-none h e = t.same ∙ rw (h, e) refl

    pub repeat-step : (x : A) (rest : Tokens) → more ts ≡ true → one ts ≡ Some (x, rest) → length rest < length ts
        → Turn (repeat_from more one) whole (found ++ x ∷ []) rest
    unfolding repeat_from
    repeat-step x rest h e less =
        let fewer : length rest < t.turns = omega (arith, t.enough) in
        some_turns (repeat_from more one) t.turns whole (found ++ x ∷ []) rest fewer (t.same ∙ rw (h, e) refl)

-- ---- elements with commas

module _ {A : Type 0} (closing : Token → Bool) (one : Tokens → Got A) where
  pub elements-start : (ts : Tokens) → Turn (elements_from closing one) (elements closing one ts) [] ts
  unfolding elements
  elements-start ts = record { turns = length ts; enough = omega arith; same = refl }

  module _ (whole : Got (List A)) (found : List A) (ts : Tokens)
      (t : Turn (elements_from closing one) whole found ts) where
    pub elements-end : first closing ts ≡ true → whole ≡ Some (found, tail ts)
    unfolding elements_from
    elements-end h = t.same ∙ rw h refl

    pub elements-none : first closing ts ≡ false → one ts ≡ None → whole ≡ None
    unfolding elements_from
    elements-none h e = t.same ∙ rw (h, e) refl

    pub elements-open : (x : A) (mid : Tokens) → first closing ts ≡ false → one ts ≡ Some (x, mid)
        → element_end closing mid ≡ None → whole ≡ None
    unfolding elements_from
    elements-open x mid h e g = t.same ∙ rw (h, e, g) refl

    pub elements-step : (x : A) (mid behind : Tokens) → first closing ts ≡ false → one ts ≡ Some (x, mid)
        → element_end closing mid ≡ Some behind
        → length behind < length ts → Turn (elements_from closing one) whole (found ++ x ∷ []) behind
    unfolding elements_from
    elements-step x mid behind h e g less =
        let fewer : length behind < t.turns = omega (arith, t.enough) in
        some_turns (elements_from closing one) t.turns whole (found ++ x ∷ []) behind fewer (t.same ∙ rw (h, e, g) refl)

-- ---- where a loop holds what is found in its own way

pub record Held {A : Type 0} (Turns : List A → Type 0) (Holds : List A → Type 0) : Type 0 where
  pub found : List A
  pub turn : Turns found
  pub holds : Holds found
