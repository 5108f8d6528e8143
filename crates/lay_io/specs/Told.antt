-- What an object shows: the bytes that it has left, or those written to it. None means that it
-- shows nothing.
use Rattle.std.specs.Prelude.{ℕ, ◌≡◌, List, take, ◌++◌, IfSome, Option, Some, option_map}

-- bytes, followed by what is shown
abbrev pub put_before : List ℕ → Option (List ℕ) → Option (List ℕ)
put_before bytes told = option_map (λ rest. bytes ++ rest) told

-- what is shown, followed by bytes
abbrev pub put_behind : Option (List ℕ) → List ℕ → Option (List ℕ)
put_behind told bytes = option_map (λ start. start ++ bytes) told

-- If bytes are shown, then they are these.
abbrev pub TellsAs : Option (List ℕ) → List ℕ → Type 0
TellsAs told bytes = IfSome told (λ all. all ≡ bytes)

-- What is shown now is a suffix of what was shown before.
abbrev pub IsEnd : Option (List ℕ) → Option (List ℕ) → Type 0
IsEnd before now = (taken : List ℕ) × (before ≡ put_before taken now)

-- If the content is shown now, it was shown before, and these bytes were appended.
abbrev pub GrewBy : Option (List ℕ) → Option (List ℕ) → List ℕ → Type 0
GrewBy before now bytes = IfSome now (λ all. put_behind before bytes ≡ Some all)

-- If the content is shown now, it was shown before, and a prefix of these bytes was appended.
abbrev pub GrewByPrefix : Option (List ℕ) → Option (List ℕ) → List ℕ → Type 0
GrewByPrefix before now bytes = (count : ℕ) × GrewBy before now (take count bytes)
