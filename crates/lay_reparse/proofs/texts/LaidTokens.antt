-- A token that has the form of its kind may be laid out, and so may documentation that has a text of its own.
use Rattle.std.proofs.Common.{◌≡◌, ℕ, List, [], ◌++◌, Bool, true, false, refl, codes}
use Rattle.std.specs.Str.{chars, encode_utf8_all, is_utf8}
use Rattle.std.proofs.lemmas.Bool.{and_parts, and_from}
use Rattle.std.proofs.lemmas.Str.{scalars-chars, IsUtf8-from_is_utf8}
use lib.Utf8.{scalars}
use Rattle.lay_piece.specs.Forms.{has_form, doc_opening}
use Rattle.lay_token.specs.Lexes.{text_of_piece}
use Rattle.lay_piece.specs.declared.kind.Kind.{Kind}
use Rattle.lay_piece.specs.declared.kind.Kind.TheVariants.{RawIdent, Doc}
use Rattle.lay_form.specs.Pieces.{is_text_of}
use Rattle.lay_node.specs.tokens.Listing.{is_doc_kind, is_doc_text}
use Rattle.lay_node.proofs.Scalars.{scalars_append}
use Rattle.lay_reparse.proofs.texts.Laid.{as_block, block_end, raw, is_laid, is_leaf_kind}
use Rattle.lay_reparse.proofs.texts.CleanPieces.{form_clean}
use Rattle.lay_reparse.proofs.texts.DocTexts.{doc_fine}

-- ---- any token but documentation

scalars_raw : (k : Kind) (t : List ℕ) → is_doc_kind k ≡ false → scalars (chars t) ≡ true → scalars (raw k t) ≡ true
scalars_raw (Doc inner block) t n h = cc
scalars_raw RawIdent t n h = h
scalars_raw _ t n h = h

pub form_laid : (k : Kind) (t : List ℕ) → is_doc_kind k ≡ false → is_utf8 t ≡ true → has_form k (raw k t) ≡ true
    → is_laid k t ≡ true
form_laid k t n u h =
    and_from (is_utf8 t) _ u (form_clean k (raw k t) h (scalars_raw k t n (scalars-chars t (IsUtf8-from_is_utf8 t u))))

-- ---- a token of the tree

text_form : (k : Kind) (t : List ℕ) → is_leaf_kind k ≡ true → is_text_of k t ≡ true
    → (is_utf8 t ≡ true) × (has_form k (raw k t) ≡ true)
unfolding is_text_of
text_form (Doc inner block) t l h = cc
text_form RawIdent t l h = and_parts (is_utf8 t) _ h
text_form _ t l h = and_parts (is_utf8 t) _ h

leaf_plain : (k : Kind) → is_leaf_kind k ≡ true → is_doc_kind k ≡ false
leaf_plain (Doc inner block) l = cc
leaf_plain _ l = refl

-- It is a piece of its kind.
pub text_laid : (k : Kind) (t : List ℕ) → is_leaf_kind k ≡ true → is_text_of k t ≡ true
    → (has_form k (raw k t) ≡ true) × (is_laid k t ≡ true)
text_laid k t l h = let a = text_form k t l h in (a.1, form_laid k t (leaf_plain k l) a.0 a.1)

-- ---- documentation

scalars_doc : (inner block : Bool) (x : List ℕ) → scalars x ≡ true
    → scalars (doc_opening inner block ++ (x ++ block_end block)) ≡ true
scalars_doc true true x h = scalars_append x (codes "*/") h refl
scalars_doc false true x h = scalars_append x (codes "*/") h refl
scalars_doc true false x h = scalars_append x [] h refl
scalars_doc false false x h = scalars_append x [] h refl

pub record DocLaid (inner : Bool) (t : List ℕ) : Type 0 where
  pub form : has_form (Doc inner (as_block inner t)) (raw (Doc inner false) t) ≡ true
  pub text : encode_utf8_all (text_of_piece (Doc inner (as_block inner t)) (raw (Doc inner false) t)) ≡ t
  pub laid : is_laid (Doc inner false) t ≡ true

pub doc_laid : (inner : Bool) (t : List ℕ) → is_utf8 t ≡ true → is_doc_text inner t ≡ true → DocLaid inner t
doc_laid inner t u h =
    let f = doc_fine inner t u h in
    record {
      form = f.form;
      text = f.text;
      laid = and_from (is_utf8 t) _ u (form_clean (Doc inner (as_block inner t)) (raw (Doc inner false) t) f.form
          (scalars_doc inner (as_block inner t) (chars t) (scalars-chars t (IsUtf8-from_is_utf8 t u))));
    }
