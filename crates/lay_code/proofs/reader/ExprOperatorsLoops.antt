-- Loops over nodes of which each is read with its need.
use Rattle.std.proofs.Common.{◌≡◌, ℕ, ◌≤◌, Bool, false, List, [], ◌∷◌, Some, refl, ap, arith}
use Rattle.lay_node.specs.Ahead.{Tokens}
use Rattle.lay_node.specs.reader.Loops.{Read, nodes, deepest, repeat}
use Rattle.lay_node.proofs.Parts.{Rows}
use Rattle.lay_node.proofs.reader.Loops.{Turn, repeat_complete}

-- a turn of a loop that reads a node, which needs no more than the depth
abbrev pub NodeTurn : {A : Type 0} → (Tokens → Bool) → (Tokens → Read A) → ℕ → A → Tokens → Tokens → Type 0
NodeTurn more read depth x ts mid = (need : ℕ) × (need ≤ depth) × Turn more read (x, need) ts mid

module _ {A : Type 0} (more : Tokens → Bool) (read : Tokens → Read A) (depth : ℕ) where
  -- The loop reads these nodes, and none of them needs more than the depth.
  abbrev pub NodesRead : List A → Tokens → Tokens → Type 0
  NodesRead xs ts rest = (ys : List (A × ℕ)) × (nodes ys ≡ xs) × (deepest ys ≤ depth) × (repeat more read ts ≡ Some (ys, rest))

  -- turns that read nodes, with their needs
  turns_needs : (xs : List A) (ts rest : Tokens) → Rows (NodeTurn more read depth) xs ts rest
      → (ys : List (A × ℕ)) × (nodes ys ≡ xs) × (deepest ys ≤ depth) × Rows (Turn more read) ys ts rest
  turns_needs [] ts rest r = ([], refl, omega arith, r)
  turns_needs (x ∷ xs) ts rest r =
      let turn = r.1 in
      let s = turns_needs xs r.0 rest r.2 in
      ((x, turn.0) ∷ s.0, ap (λ l. x ∷ l) s.1, omega (arith, turn.1, s.2), (r.0, turn.2, s.3))

  -- Nodes that are read one after the other, up to where the loop doesn't go on, are what the loop reads.
  pub nodes_repeat : (xs : List A) (ts rest : Tokens) → Rows (NodeTurn more read depth) xs ts rest → more rest ≡ false
      → NodesRead xs ts rest
  nodes_repeat xs ts rest r h =
      let s = turns_needs xs ts rest r in (s.0, s.1, s.2, repeat_complete read more s.0 ts rest s.3 h)
