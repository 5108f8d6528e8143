-- Operators: longest runs of joint punctuation (Rust Reference, "Punctuation").
use Rattle.std.specs.Prelude.{ℕ, Bool, true, false, cond, ◌&&◌, ◌||◌, List, [], ◌∷◌, codes, Option, Some, None}
use Rattle.std.specs.Str.{bytes_eq}
use Rattle.lay_piece.specs.Chars.{is_nil}
use Rattle.lay_token.specs.Lexes.{is_punct}
use Rattle.lay_token.specs.declared.token.Token.{Token}

-- the operators of more than one character, the longer ones first
abbrev pub operators : List (List ℕ)
operators =
    codes "<<=" ∷ codes ">>=" ∷ codes "..." ∷ codes "..=" ∷ codes "&&" ∷ codes "||" ∷ codes "==" ∷ codes "!="
    ∷ codes "<=" ∷ codes ">=" ∷ codes "<<" ∷ codes ">>" ∷ codes "+=" ∷ codes "-=" ∷ codes "*=" ∷ codes "/="
    ∷ codes "%=" ∷ codes "^=" ∷ codes "&=" ∷ codes "|=" ∷ codes "->" ∷ codes "<-" ∷ codes "=>" ∷ codes "::"
    ∷ codes ".." ∷ []

-- The tokens begin with punctuation of these characters, all but the last joint.
abbrev pub begins_op : List ℕ → List Token → Bool
begins_op [] ts = true
begins_op (c ∷ cs) [] = false
begins_op (c ∷ cs) (t ∷ ts) = is_punct t.kind && bytes_eq t.text (c ∷ []) && (is_nil cs || t.joint && begins_op cs ts)

-- the first of these operators that the tokens begin with
abbrev pub first_op : List (List ℕ) → List Token → Option (List ℕ)
first_op [] ts = None
first_op (op ∷ ops) ts = cond (begins_op op ts) (Some op) (first_op ops ts)

-- a single character
abbrev pub lone_op : List Token → Option (List ℕ)
lone_op [] = None
lone_op (t ∷ ts) = cond (is_punct t.kind) (Some t.text) None

abbrev pub or_lone : Option (List ℕ) → List Token → Option (List ℕ)
or_lone (Some op) ts = Some op
or_lone None ts = lone_op ts

-- the operator at the beginning of the tokens: the longest that they begin with
unfoldable pub op_at : List Token → Option (List ℕ)
op_at ts = or_lone (first_op operators ts) ts

abbrev pub is_op_of : List ℕ → Option (List ℕ) → Bool
is_op_of op None = false
is_op_of op (Some other) = bytes_eq op other

-- The operator at the beginning of the tokens is this one.
abbrev pub is_op : List ℕ → List Token → Bool
is_op op ts = is_op_of op (op_at ts)
