-- The result of a parser, and the loops that all parsers use: parts as long as a test holds, and
-- elements with commas, in delimiters or not.
use Rattle.std.specs.Prelude.{ℕ, zero, suc, max, Bool, true, false, if◌then◌else◌, List, [], ◌∷◌, ◌++◌, length, map, codes, Option, Some, None, option_and_then}
use Rattle.lay_token.specs.declared.token.Token.{Token}
use Rattle.lay_node.specs.Ahead.{Tokens, first, tail, is_mark}

-- what was parsed, and the tokens after it
abbrev pub Got : Type 0 → Type 0
Got A = Option (A × Tokens)

-- A node with nodes within it is parsed within a budget, which bounds the recursion: each level
-- takes one. The result holds the least depth that the spelling needs, since the depth at which the
-- node stands may not be known yet.
abbrev pub Read : Type 0 → Type 0
Read A = Got (A × ℕ)

infixl 10 ◌>>=◌
abbrev pub ◌>>=◌ : {A B : Type 0} → Option A → (A → Option B) → Option B
o >>= f = option_and_then f o

-- what follows the first token, if it passes the test
abbrev pub passed : (Token → Bool) → Tokens → Option Tokens
passed p ts = if first p ts then Some (tail ts) else None

-- the nodes that were parsed, and the greatest of their needs
abbrev pub nodes : {A : Type 0} → List (A × ℕ) → List A
nodes {A} read = map (λ (x : A × ℕ). x.0) read

abbrev pub deepest : {A : Type 0} → List (A × ℕ) → ℕ
deepest [] = 0
deepest (x ∷ xs) = max x.1 (deepest xs)

-- Parts are parsed as long as the test holds, after those already found, in at most this many
-- turns. In each loop every turn but the last leaves fewer tokens, so more turns than there are
-- tokens suffice.
unfoldable pub repeat_from : {A : Type 0} → (Tokens → Bool) → (Tokens → Got A) → ℕ → List A → Tokens → Got (List A)
repeat_from more one zero found ts = None
repeat_from more one (suc n) found ts =
    if more ts then (do x ← one ts; repeat_from more one n (found ++ x.0 ∷ []) x.1) else Some (found, ts)

unfoldable pub repeat : {A : Type 0} → (Tokens → Bool) → (Tokens → Got A) → Tokens → Got (List A)
repeat more one ts = repeat_from more one (suc (length ts)) [] ts

-- what follows an element of a list: a `,` is passed; else what closes the list has to come next
abbrev pub element_end : (Token → Bool) → Tokens → Option Tokens
element_end closes ts =
    if first (is_mark (codes ",")) ts then Some (tail ts) else (if first closes ts then Some ts else None)

-- the elements of a list after those already found, and then what closes the list
unfoldable pub elements_from : {A : Type 0} → (Token → Bool) → (Tokens → Got A) → ℕ → List A → Tokens → Got (List A)
elements_from closes one zero found ts = None
elements_from closes one (suc n) found ts =
    if first closes ts then Some (found, tail ts)
    else (do x ← one ts; behind ← element_end closes x.1; elements_from closes one n (found ++ x.0 ∷ []) behind)

unfoldable pub elements : {A : Type 0} → (Token → Bool) → (Tokens → Got A) → Tokens → Got (List A)
elements closes one ts = elements_from closes one (suc (length ts)) [] ts

-- Elements with commas that nothing closes, as long as one begins, after those already found. The
-- flag says that a `,` stands after the last of them, or that there is none.
abbrev pub behind_open : {A : Type 0} → (Tokens → Got (List A × Bool)) → List A → Tokens → Got (List A × Bool)
behind_open go_on found ts = if first (is_mark (codes ",")) ts then go_on (tail ts) else Some ((found, false), ts)

unfoldable pub open_elements_from : {A : Type 0} → (Tokens → Bool) → (Tokens → Got A) → ℕ → List A → Tokens → Got (List A × Bool)
open_elements_from begins one zero found ts = None
open_elements_from begins one (suc n) found ts =
    if begins ts then (do x ← one ts; behind_open (open_elements_from begins one n (found ++ x.0 ∷ [])) (found ++ x.0 ∷ []) x.1)
    else Some ((found, true), ts)

unfoldable pub open_elements : {A : Type 0} → (Tokens → Bool) → (Tokens → Got A) → Tokens → Got (List A × Bool)
open_elements begins one ts = open_elements_from begins one (suc (length ts)) [] ts
