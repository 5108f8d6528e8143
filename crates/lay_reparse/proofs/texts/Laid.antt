-- Tokens as they are laid out: the kind that the text's token has, its characters, and its bytes.
use Rattle.std.proofs.Common.{◌≡◌, ℕ, List, [], ◌++◌, Bool, true, false, cond, ◌&&◌, refl, ap, ◌∙◌}
use Rattle.std.specs.Prelude.{codes}
use Rattle.std.specs.Str.{chars, encode_utf8_all, is_utf8}
use Rattle.std.proofs.lemmas.Str.{encodes-append, encodes-chars, IsUtf8-from_is_utf8}
use Rattle.lay_piece.specs.Docs.{doc_form}
use Rattle.lay_piece.specs.Forms.{doc_opening}
use Rattle.lay_token.specs.Lexes.{text_of_piece}
use Rattle.lay_piece.specs.declared.kind.Kind.{Kind}
use Rattle.lay_piece.specs.declared.kind.Kind.TheVariants.{RawIdent, Punct, Opener, Closer, Doc}
use Rattle.lay_form.specs.Layout.{is_block}
use Rattle.lay_node.specs.tokens.Listing.{is_doc_kind}
use Rattle.lay_reparse.proofs.borders.Need.{Text}
use Rattle.lay_reparse.proofs.texts.Characters.{is_clean, low_encodes}

-- documentation is a block or a line by its text
abbrev pub as_block : Bool → List ℕ → Bool
as_block inner t = is_block (doc_form inner t)

abbrev pub laid : Kind → List ℕ → Kind
laid (Doc inner block) t = Doc inner (as_block inner t)
laid k t = k

abbrev pub block_end : Bool → Text
block_end block = cond block (codes "*/") []

-- the characters of a token of this text
abbrev pub raw : Kind → List ℕ → Text
raw RawIdent t = codes "r#" ++ chars t
raw (Doc inner block) t = doc_opening inner (as_block inner t) ++ (chars t ++ block_end (as_block inner t))
raw k t = chars t

-- and its bytes
abbrev pub bytes_of : Kind → List ℕ → List ℕ
bytes_of RawIdent t = codes "r#" ++ t
bytes_of (Doc inner block) t = doc_opening inner (as_block inner t) ++ (t ++ block_end (as_block inner t))
bytes_of k t = t

-- The text is UTF-8, and its characters may be laid out.
abbrev pub is_laid : Kind → List ℕ → Bool
is_laid k t = is_utf8 t && is_clean (raw k t)

pub text_chars : (t : List ℕ) → is_utf8 t ≡ true → encode_utf8_all (chars t) ≡ t
text_chars t h = encodes-chars t (IsUtf8-from_is_utf8 t h)

around : (a x b t : List ℕ) → encode_utf8_all a ≡ a → encode_utf8_all b ≡ b → encode_utf8_all x ≡ t
    → encode_utf8_all (a ++ (x ++ b)) ≡ a ++ (t ++ b)
around a x b t p q r =
    encodes-append a (x ++ b) ∙ (λ i. p i ++ encodes-append x b i) ∙ ap (λ z. a ++ z) (λ i. r i ++ q i)

opening_low : (inner block : Bool) → encode_utf8_all (doc_opening inner block) ≡ doc_opening inner block
opening_low true true = low_encodes (doc_opening true true) refl
opening_low true false = low_encodes (doc_opening true false) refl
opening_low false true = low_encodes (doc_opening false true) refl
opening_low false false = low_encodes (doc_opening false false) refl

end_low : (block : Bool) → encode_utf8_all (block_end block) ≡ block_end block
end_low true = low_encodes (codes "*/") refl
end_low false = refl

pub raw_bytes : (k : Kind) (t : List ℕ) → is_utf8 t ≡ true → encode_utf8_all (raw k t) ≡ bytes_of k t
raw_bytes RawIdent t h =
    encodes-append (codes "r#") (chars t) ∙ (λ i. low_encodes (codes "r#") refl i ++ text_chars t h i)
raw_bytes (Doc inner block) t h =
    around (doc_opening inner (as_block inner t)) (chars t) (block_end (as_block inner t)) t
    (opening_low inner (as_block inner t)) (end_low (as_block inner t)) (text_chars t h)
raw_bytes k t h = text_chars t h

-- a token of the tree
abbrev pub is_leaf_kind : Kind → Bool
is_leaf_kind Punct = false
is_leaf_kind (Opener d) = false
is_leaf_kind (Closer d) = false
is_leaf_kind (Doc inner block) = false
is_leaf_kind _ = true

pub leaf_shown : (k : Kind) (t : List ℕ) → is_utf8 t ≡ true → is_leaf_kind k ≡ true
    → encode_utf8_all (text_of_piece k (raw k t)) ≡ t
leaf_shown Punct t u h = cc
leaf_shown (Opener d) t u h = cc
leaf_shown (Closer d) t u h = cc
leaf_shown (Doc inner block) t u h = cc
leaf_shown _ t u h = text_chars t u

pub laid_same : (k : Kind) (t : List ℕ) → is_doc_kind k ≡ false → laid k t ≡ k
laid_same (Doc inner block) t h = cc
laid_same _ t h = refl
