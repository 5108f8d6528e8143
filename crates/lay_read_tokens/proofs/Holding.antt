-- What the loops of nodes with nodes within them hold.
use Rattle.std.proofs.Common.{◌≡◌, ℕ, max, List, [], ◌∷◌, ◌++◌, ap, ◌∙◌, arith}
use Rattle.std.proofs.lemmas.List.{map-append}
use Rattle.lay_node.specs.reader.Loops.{deepest}
use Rattle.lay_read_tokens.specs.Answers.{AreFound}

-- nodes, and the greatest need of theirs
abbrev pub Holding : {A : Type 0} → List A → ℕ → List (A × ℕ) → Type 0
Holding held need read = AreFound read (record { node = held; need = need })

deepest-append : {A : Type 0} (read : List (A × ℕ)) (x : A) (n : ℕ)
    → deepest (read ++ (x, n) ∷ []) ≡ max (deepest read) n
deepest-append [] x n = omega arith
deepest-append (y ∷ read) x n = ap (max y.1) (deepest-append read x n) ∙ omega arith

pub holding_more : {A : Type 0} (held : List A) (need : ℕ) (read : List (A × ℕ)) (x : A) (n : ℕ)
    → Holding held need read
    → Holding (held ++ x ∷ []) (max need n) (read ++ (x, n) ∷ [])
holding_more held need read x n h =
    (map-append (λ y. y.0) read _ ∙ ap (λ xs. xs ++ x ∷ []) h.0, deepest-append read x n ∙ ap (λ m. max m n) h.1)
