-- Texts that are names.
use Rattle.std.proofs.Common.{◌≡◌, ◌∙◌, inl, inr, ◌≤◌, ℕ, ◌+◌, Bool, true, false, not, if◌then◌else◌, ◌&&◌, ◌||◌, List, [], ◌∷◌, ◌++◌, length, Some, IsUtf8, refl, sym, ap, subst, arith, length-append}
use Rattle.std.specs.Prelude.{codes, encode_utf8_all}
use Rattle.std.specs.Str.{chars, is_utf8}
use Rattle.std.proofs.lemmas.Bool.{and_parts, and_from, not-true}
use Rattle.std.proofs.lemmas.Str.{IsUtf8-from_is_utf8, encodes-chars}
use Rattle.lay_piece.specs.Chars.{is_lone_underscore, is_suffix, is_word}
use Rattle.lay_piece.specs.Forms.{has_form}
use Rattle.lay_piece.specs.Word.{class_of, is_among, is_path_word, reserved_words, strict_words}
use Rattle.lay_piece.specs.declared.kind.Kind.TheVariants.{Ident, RawIdent}
use Rattle.lay_piece.specs.declared.word.Class.{Class}
use Rattle.lay_piece.specs.declared.word.Class.TheVariants as class
use Rattle.lay_form.specs.Pieces.{are_pieces, is_text_of}
use Rattle.lay_form.specs.Form.{Done}
use Rattle.lay_node.specs.Words.{is_plain, leaf_of}
use Rattle.lay_node.specs.declared.token.Name.{Name}
use Rattle.lay_build_types.specs.Answers.{IsMade}
use Rattle.lay_build_types.specs.Kinds.{IsName, form_of_name}
use Rattle.lay_build_types.specs.Nodes as node
use Rattle.lay_build_types.proofs.PieceLemmas.{ended}

-- An identifier that is no word of a path is a raw identifier after `r#`.
raw_piece : (text : List ℕ) → is_text_of Ident text ≡ true → is_path_word text ≡ false → is_text_of RawIdent text ≡ true
unfolding is_text_of has_form
raw_piece text h other =
    let parts = and_parts (is_utf8 text) (has_form Ident (chars text)) h in
    let utf8 = IsUtf8-from_is_utf8 text parts.0 in
    let path : is_path_word (encode_utf8_all (chars text)) ≡ false = ap is_path_word (encodes-chars text utf8) ∙ other in
    and_from (is_utf8 text) (has_form RawIdent (codes "r#" ++ chars text)) parts.0
    (and_from (is_suffix (chars text)) (not (is_path_word (encode_utf8_all (chars text)))) parts.1 (ap not path))

-- the class of a word that is no word of a path
abbrev others : Bool → Bool → Class
others strict reserved = if strict then class.Strict else (if reserved then class.Reserved else class.Plain)

other_class : (text : List ℕ) → is_path_word text ≡ false → class_of text ≡ others (is_among strict_words text) (is_among reserved_words text)
other_class text h = rw h refl

no_other : (strict reserved : Bool) → others strict reserved ≡ class.PathWord → ⊥
no_other true reserved h = cc
no_other false true h = cc
no_other false false h = cc

no_path : (text : List ℕ) → class_of text ≡ class.PathWord → is_path_word text ≡ false → ⊥
no_path text is other = no_other (is_among strict_words text) (is_among reserved_words text) (sym (other_class text other) ∙ is)

-- It is a name as it is, or raw.
class_name : (c : Class) (text : List ℕ) → class_of text ≡ c → is_path_word text ≡ false → node.is_raw c || is_plain (class_of text) ≡ true
class_name class.Plain text is other = rw is refl
class_name class.PathWord text is other = absurd (no_path text is other)
class_name class.Strict text is other = refl
class_name class.Reserved text is other = refl

module _ (text : List ℕ) (good : node.may_be_name text ≡ true) where
  parts : (is_text_of Ident text ≡ true) × (is_path_word text ≡ false)
  parts = let h = and_parts (is_text_of Ident text) (not (is_path_word text)) good in (h.0, not-true (is_path_word text) h.1)

  pub name_made : IsMade form_of_name IsName (node.name text)
  name_made = record { pieces = by (node.is_raw (class_of text)); holding = class_name (class_of text) text refl parts.1 }
    where
      by : (raw : Bool) → are_pieces (leaf_of raw text Done) ≡ true
      by true = ended (is_text_of RawIdent text) (raw_piece text parts.0 parts.1)
      by false = ended (is_text_of Ident text) parts.0

-- The name that is made is that one.
abbrev name_of : Bool → List ℕ → Name
name_of raw text = record { raw = raw; text = text }

pub same_name : (raw : Bool) (copy text : List ℕ) → raw ≡ node.is_raw (class_of text) → copy ≡ text → name_of raw copy ≡ node.name text
same_name raw copy text is same = ap (λ (b : Bool). name_of b copy) is ∙ ap (name_of (node.is_raw (class_of text))) same
