-- The token of a piece, and how it changes the tokens before it.
use Rattle.std.specs.Prelude.{ℕ, ◌-◌, Bool, true, false, cond, ◌&&◌, not, List, [], ◌∷◌, codes, length, take, drop, encode_utf8_all}
use Rattle.std.specs.Str.{bytes_eq}
use Rattle.lay_token.specs.Lexes as lexes
use Rattle.lay_token.specs.Lexes.{is_punct, is_point, is_separator, size, text_of_piece}
use Rattle.lay_piece.specs.declared.kind.Kind.{Kind}
use Rattle.lay_token.specs.declared.token.Token.{Token}
use Rattle.lay_lex.specs.declared.tokens.Before.{Before}
use Rattle.lay_lex.specs.declared.tokens.Before.TheVariants as place

-- what stands before a place, as a value of the definition
abbrev pub before : Before → lexes.Before
before place.Other = lexes.Other
before place.Point = lexes.Point
before place.Points = lexes.Points

abbrev pub is_point_token : Token → Bool
is_point_token t = is_punct t.kind && bytes_eq t.text (codes ".")

-- what stands before the place after the token; `touches` says that no gap is before the token
abbrev pub behind : lexes.Before → Bool → Token → lexes.Before
behind b touches t = cond (is_point_token t) (cond (is_point b && touches) lexes.Points lexes.Point) lexes.Other

-- The token may be joint, or may follow a joint one.
abbrev pub is_mark : Token → Bool
is_mark t = is_punct t.kind && not (is_separator t.text)

-- the token of a piece, not joint yet
abbrev pub token_of : ℕ → Kind → List ℕ → Token
token_of at kind piece = record {
  kind = kind;
  text = encode_utf8_all (text_of_piece kind piece);
  joint = false;
  at = at;
  len = size piece;
}

abbrev pub joined : Bool → Token → Token → Token
joined touches next t = record t { joint = touches && is_mark next && is_mark t }

-- the tokens with the next one after them; it decides whether the last of them is joint
abbrev pub added : Bool → Token → List Token → List Token
added touches next [] = next ∷ []
added touches next (t ∷ []) = joined touches next t ∷ next ∷ []
added touches next (t ∷ u ∷ us) = t ∷ added touches next (u ∷ us)

-- The last of the tokens may be joint.
abbrev pub ends_in_mark : List Token → Bool
ends_in_mark [] = false
ends_in_mark (t ∷ []) = is_mark t
ends_in_mark (t ∷ u ∷ us) = ends_in_mark (u ∷ us)

-- The last of the tokens is joint.
abbrev pub ends_joint : List Token → Bool
ends_joint [] = false
ends_joint (t ∷ []) = t.joint
ends_joint (t ∷ u ∷ us) = ends_joint (u ∷ us)

-- the tokens, the last of them made joint
abbrev pub last_joint : List Token → List Token
last_joint [] = []
last_joint (t ∷ []) = record t { joint = true } ∷ []
last_joint (t ∷ u ∷ us) = t ∷ last_joint (u ∷ us)

-- a documentation comment without its opening, and without the end of a block
abbrev pub within : Bool → List ℕ → List ℕ
within block piece = cond block (take (length piece - 5) (drop 3 piece)) (drop 3 piece)
