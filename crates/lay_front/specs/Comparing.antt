-- The bytes that were written to a sink that compares them with others.
use Rattle.std.specs.Prelude.{ℕ, List, [], ◌∷◌, ◌++◌, take, Option, Some, None}
use Rattle.lay_front.specs.declared.compare.Comparer.{Comparer}

-- the bytes, and after them a wrong one if there is one
abbrev pub and_wrong : List ℕ → Option ℕ → List ℕ
and_wrong bytes None = bytes
and_wrong bytes (Some wrong) = bytes ++ wrong ∷ []

-- the bytes that a comparer expects
abbrev pub expected_by : Comparer → List ℕ
expected_by comparer = comparer.expected

-- The bytes that were written: the expected ones, and then the first wrong one if there was one.
-- After that one the sink takes no more.
abbrev pub written_to : Comparer → List ℕ
written_to comparer = and_wrong (take comparer.met comparer.expected) comparer.wrong
