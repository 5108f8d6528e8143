-- The effect of one read and of one write.
use Rattle.std.specs.Prelude.{ℕ, ◌≡◌, ◌<◌, List, [], length, take, Option, None, Some, MatchResult, Result}
use Rattle.lay_io.specs.Told.{put_before, TellsAs, GrewBy, GrewByPrefix}
use Rattle.lay_io.specs.declared.outside.Which.{Which}

-- what is shown of the chosen input, if one is chosen
abbrev pub left_of : Option Which → (Which → Option (List ℕ)) → Option (List ℕ)
left_of None left = None
left_of (Some which) left = left which

-- Ok takes bytes from the start of what is left. It takes none only at the end, or where the buffer
-- is empty. Err takes none.
abbrev pub Takes : {E : Type 0} → Option (List ℕ) → Option (List ℕ) → Result ℕ E → List ℕ → Type 0
Takes before now result buf = MatchResult result
    (λ count. (before ≡ put_before (take count buf) now) × (count ≡ 0 → 0 < length buf → TellsAs now []))
    (λ _. now ≡ before)

-- Ok appends the piece, and Err appends a prefix of it.
abbrev pub Writes : {T E : Type 0} → Option (List ℕ) → Option (List ℕ) → Result T E → List ℕ → Type 0
Writes before now result piece = MatchResult result (λ _. GrewBy before now piece) (λ _. GrewByPrefix before now piece)
