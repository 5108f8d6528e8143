-- Cooking: the value of a string token, with its escapes resolved.
use Rattle.std.specs.Prelude.{◌≡◌, ℕ, Bool, List, IsUtf8, encode_utf8_all, Option, Some, None}
use Rattle.lay_piece.specs.Forms.{Had}
use Rattle.lay_piece.specs.declared.kind.Kind.{Kind}
use Rattle.lay_piece.specs.declared.kind.Kind.TheVariants.{Str, RawStr}
use Rattle.lay_token.specs.declared.token.Token.{Token}
use Rattle.lay_cook.specs.declared.cooking.Cooked.{Cooked}
use Rattle.lay_cook.specs.declared.cooking.Cooked.TheVariants as cooked

-- The result is the value in UTF-8, or that the token is no text where there is no value.
abbrev pub CookedAs : Option (List ℕ) → Cooked → Type 0
CookedAs (Some value) (cooked.Str text) = text ≡ encode_utf8_all value
CookedAs (Some value) cooked.NotText = ⊥
CookedAs None (cooked.Str text) = ⊥
CookedAs None cooked.NotText = Unit {0}

-- The text is a piece of the kind, as it stands before some rest.
pub record IsPiece (kind : Kind) (text : List ℕ) : Type 0 where
  pub piece : List ℕ
  pub rest : List ℕ
  pub index : Bool
  pub utf8 : IsUtf8 text
  pub spelt : text ≡ encode_utf8_all piece
  pub had : Had kind piece rest index

-- If the token is a string, its text is a piece of its kind.
pub record IsString (token : Token) : Type 0 where
  pub string : token.kind ≡ Str → IsPiece Str token.text
  pub raw : token.kind ≡ RawStr → IsPiece RawStr token.text
