-- Token lists that some text lexes to.
use Rattle.std.specs.Prelude.{ℕ, ◌≡◌, Bool, true, List, [], ◌∷◌, ◌++◌, ◌&&◌, ◌||◌, not, codes, IsTrue, IsFalse, IsUtf8}
use Rattle.std.specs.List.{list_all}
use Rattle.std.specs.Str.{chars, is_utf8}
use Rattle.lay_token.specs.Delimiters.{Balanced}
use Rattle.lay_piece.specs.Forms.{had}
use Rattle.lay_token.specs.Lexes.{Lexes}
use Rattle.lay_piece.specs.declared.kind.Kind.{Kind}
use Rattle.lay_piece.specs.declared.kind.Kind.TheVariants.{RawIdent, Doc}
use Rattle.lay_token.specs.declared.token.Token.{Token}
use Rattle.lay_node.specs.tokens.Listing.{is_doc_kind, is_doc_text, is_balanced}
use Rattle.lay_node.specs.tokens.Pairs.{Neighbour, Nothing, Single, is_mark, is_punct_neighbour, is_joint_neighbour, is_index_place}
use Rattle.lay_node.specs.declared.token.Listed.{Listed}
use Rattle.lay_node.specs.declared.token.Listed.TheVariants as listed

-- ---- as a sentence

-- The element of a token list is this token. They have the same kind, text and joint mark. For
-- documentation they have the same text, and both are inner or both are outer.
abbrev pub IsToken : Listed → Token → Type 0
IsToken (listed.Token kind text joint) t = IsFalse (is_doc_kind kind) × (t.kind ≡ kind) × (t.text ≡ text) × (t.joint ≡ joint)
IsToken (listed.Doc inner text) t = (block : Bool) × (t.kind ≡ Doc inner block) × (t.text ≡ text)

abbrev pub AreTokens : List Listed → List Token → Type 0
AreTokens [] [] = Unit {0}
AreTokens [] (t ∷ ts) = ⊥
AreTokens (u ∷ us) [] = ⊥
AreTokens (u ∷ us) (t ∷ ts) = IsToken u t × AreTokens us ts

-- The bytes are a text that lexes to balanced tokens, which are those of the list.
pub record ReadsTokens (bytes : List ℕ) (us : List Listed) : Type 0 where
  pub tokens : List Token
  pub lexes : Lexes bytes 0 tokens
  pub balanced : Balanced tokens
  pub same : AreTokens us tokens

-- Documentation has a text that can be laid out.
abbrev pub may_be_laid : Listed → Bool
may_be_laid (listed.Token kind text joint) = true
may_be_laid (listed.Doc inner text) = is_doc_text inner text

-- Some text lexes to the list, and its documentation can be laid out.
pub record IsTokenList (us : List Listed) : Type 0 where
  pub bytes : List ℕ
  pub utf8 : IsUtf8 bytes
  pub reads : ReadsTokens bytes us
  pub docs : IsTrue (list_all may_be_laid us)

-- ---- as a test, token by token

-- the characters of the piece
abbrev pub piece_of : Kind → List ℕ → List ℕ
piece_of RawIdent text = codes "r#" ++ chars text
piece_of kind text = chars text

-- The token is a piece of its kind; `place` says that a number may be a tuple index there.
abbrev pub is_had : Bool → Listed → Bool
is_had place (listed.Token kind text joint) = not (is_doc_kind kind) && is_utf8 text && had kind (piece_of kind text) [] place
is_had place (listed.Doc inner text) = is_utf8 text

-- Only punctuation is joint to punctuation, and no `,` or `;` is; and no `/` begins a comment.
abbrev pub is_joinable : Neighbour → Bool
is_joinable n = is_punct_neighbour n && not (is_mark (codes ",") n || is_mark (codes ";") n)

abbrev pub may_join : Neighbour → Neighbour → Bool
may_join l r =
    is_joinable l && is_joinable r && not (is_mark (codes "/") l && (is_mark (codes "/") r || is_mark (codes "*") r))

-- The tokens may stand in a text after these two, one after the other.
abbrev pub fits : Neighbour → Neighbour → List Listed → Bool
fits before last [] = true
fits before last (t ∷ ts) =
    (not (is_joint_neighbour last) || may_join last (Single t)) && is_had (is_index_place before last) t && fits last (Single t) ts

-- The last token isn't joint.
abbrev pub ends_apart : Neighbour → List Listed → Bool
ends_apart last [] = not (is_joint_neighbour last)
ends_apart last (t ∷ ts) = ends_apart (Single t) ts

abbrev pub is_token_list : List Listed → Bool
is_token_list us = fits Nothing Nothing us && ends_apart Nothing us && is_balanced us && list_all may_be_laid us
