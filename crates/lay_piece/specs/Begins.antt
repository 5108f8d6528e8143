-- What it means that a text begins with no gap, and that it begins with no piece.
use Rattle.std.specs.Prelude.{◌≡◌, ℕ, Bool, List, [], ◌++◌, IsTrue, IsFalse}
use Rattle.lay_piece.specs.Forms.{Had}
use Rattle.lay_piece.specs.Gap.{is_gap, is_last_gap}
use Rattle.lay_piece.specs.declared.kind.Kind.{Kind}

-- The text begins with no gap but the empty one, and as a whole it is no last gap.
pub record BeginsNoGap (text : List ℕ) : Type 0 where
  pub none : (gap rest : List ℕ) → text ≡ gap ++ rest → IsTrue (is_gap gap) → gap ≡ []
  pub unended : IsFalse (is_last_gap text)

-- The text begins with no piece.
abbrev pub BeginsNoPiece : List ℕ → Bool → Type 0
BeginsNoPiece text index =
    (k : Kind) (piece rest : List ℕ) → text ≡ piece ++ rest → Had k piece rest index → ⊥
