-- The characters of an operator at the start of a list of tokens.
use Rattle.std.specs.Prelude.{ℕ, ◌==◌, Bool, true, false, ◌&&◌, cond, List, [], ◌∷◌, take, drop}
use Rattle.lay_token.specs.Lexes.{is_punct}
use Rattle.lay_token.specs.Operators.{operators}
use Rattle.lay_token.specs.declared.token.Token.{Token}

-- the operators of three characters, and those of two
abbrev pub threes : List (List ℕ)
threes = take 4 operators

abbrev pub twos : List (List ℕ)
twos = drop 4 operators

-- the character of a text that has just one, or else 0, which no operator has
abbrev pub one : List ℕ → ℕ
one [] = 0
one (c ∷ []) = c
one (c ∷ d ∷ ds) = 0

-- the character of a punctuation token, or else 0
abbrev pub mark : Token → ℕ
mark t = cond (is_punct t.kind) (one t.text) 0

-- the character of the first token
abbrev pub first_mark : List Token → ℕ
first_mark [] = 0
first_mark (t ∷ ts) = mark t

-- the character of the second token, where the first is joint
abbrev pub second_mark : List Token → ℕ
second_mark [] = 0
second_mark (t ∷ ts) = cond t.joint (first_mark ts) 0

-- The texts have the same first byte, or both are empty.
abbrev pub is_same_first : List ℕ → List ℕ → Bool
is_same_first [] [] = true
is_same_first (c ∷ cs) (d ∷ ds) = c == d
is_same_first _ _ = false

-- The token may be the first of the operator.
abbrev pub may_begin : Token → List ℕ → Bool
may_begin t op = is_punct t.kind && is_same_first t.text op
