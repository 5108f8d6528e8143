-- The neighbours that the code's neighbours stand for, and the facts that are computed about each
-- once.
use Rattle.std.specs.Prelude.{ℕ, List, [], ◌∷◌, cond}
use Rattle.lay_token.specs.Lexes.{is_punct}
use Rattle.lay_node.specs.tokens.Listing.{kind_of, text_of}
use Rattle.lay_node.specs.tokens.Pairs as pairs
use Rattle.lay_out_tokens.specs.declared.neighbours.Neighbour.{Neighbour}
use Rattle.lay_out_tokens.specs.declared.neighbours.Neighbour.TheVariants as neighbour

abbrev pub neighbour_of : Neighbour → pairs.Neighbour
neighbour_of neighbour.Nothing = pairs.Nothing
neighbour_of (neighbour.Single t) = pairs.Single t.now
neighbour_of (neighbour.Enclosed d) = pairs.Enclosed d

-- the one character of a text, or else 0
abbrev pub one : List ℕ → ℕ
one [] = 0
one (c ∷ []) = c
one (c ∷ d ∷ ds) = 0

-- the character of a neighbour that is punctuation of one character, or else 0
abbrev pub mark_of : pairs.Neighbour → ℕ
mark_of (pairs.Single t) = cond (is_punct (kind_of t)) (one (text_of t)) 0
mark_of _ = 0
