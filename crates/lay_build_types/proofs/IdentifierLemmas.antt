-- Which texts are identifiers, by the piece at their beginning.
use Rattle.std.proofs.Common.{◌≡◌, ◌∙◌, ◌≤◌, ℕ, Bool, true, false, ◌&&◌, List, [], ◌∷◌, ◌++◌, length, IsUtf8, refl, sym, ap, arith, length-append}
use Rattle.std.specs.Prelude.{encode_utf8_all, nat_eq}
use Rattle.std.specs.Str.{chars, is_utf8}
use Rattle.std.proofs.lemmas.Bool.{and_parts, and_from, eq-eqb, eqb-true, false_from_ne_true}
use Rattle.std.proofs.lemmas.List.{append-nil}
use Rattle.std.proofs.lemmas.Str.{IsUtf8-from_is_utf8, is_utf8-from_IsUtf8, encodes-append, encodes-chars, length-le-encodes}
use Rattle.lay_piece.specs.Forms.{Had, had, has_form, may_precede}
use Rattle.lay_piece.specs.declared.kind.Kind.TheVariants.{Ident}
use Rattle.lay_form.specs.Pieces.{is_text_of}

-- The whole text is an identifier where it is had before nothing.
alone : (cs rest : List ℕ) → Had Ident cs rest false → has_form Ident cs ≡ true
unfolding had
alone cs rest h = (and_parts (has_form Ident cs) _ h).0

before_nothing : (cs : List ℕ) → has_form Ident cs ≡ true → Had Ident cs [] false
unfolding had may_precede
before_nothing cs h = and_from (has_form Ident cs) true h refl

pub clash : false ≡ true → ⊥
clash h = cc

module _ (text : List ℕ) (utf8 : IsUtf8 text) where
  -- The piece at its beginning is all of it.
  by_piece : (piece more : List ℕ) → chars text ≡ piece ++ more → Had Ident piece more false → length (encode_utf8_all piece) ≡ length text
      → is_text_of Ident text ≡ true
  unfolding is_text_of
  by_piece piece more split h size =
      let bytes = sym (encodes-chars text utf8) ∙ ap encode_utf8_all split ∙ encodes-append piece more in
      let sizes = ap length bytes ∙ length-append (encode_utf8_all piece) (encode_utf8_all more) in
      let few = length-le-encodes more in
      let none : more ≡ [] = empty more (omega (arith, sizes, size, few)) in
      let whole : chars text ≡ piece = split ∙ ap (λ (l : List ℕ). piece ++ l) none ∙ append-nil piece in
      and_from (is_utf8 text) (has_form Ident (chars text)) (is_utf8-from_IsUtf8 text utf8) (ap (has_form Ident) whole ∙ alone piece more h)
    where
      empty : (l : List ℕ) → length l ≤ 0 → l ≡ []
      empty [] h = refl
      empty (c ∷ l) h = absurd (omega (arith, h))

  -- An identifier is had before nothing.
  had_whole : is_text_of Ident text ≡ true → Had Ident (chars text) [] false
  unfolding is_text_of
  had_whole h = before_nothing (chars text) (and_parts (is_utf8 text) (has_form Ident (chars text)) h).1

  -- The identifier at its beginning is as long as it, exactly where it is an identifier.
  pub is_by_length : (piece more : List ℕ) (size : ℕ) → chars text ≡ piece ++ more → Had Ident piece more false
      → size ≡ length (encode_utf8_all piece)
      → (Had Ident (chars text) [] false → size ≡ length (encode_utf8_all (chars text))) → nat_eq size (length text) ≡ is_text_of Ident text
  is_by_length piece more size split h is only = told (is_text_of Ident text) refl
    where
      told : (b : Bool) → is_text_of Ident text ≡ b → nat_eq size (length text) ≡ b
      told true e = eq-eqb size (length text) (only (had_whole e) ∙ ap length (encodes-chars text utf8))
      told false e =
          false_from_ne_true (nat_eq size (length text)) (λ same.
          clash (sym e ∙ by_piece piece more split h (sym is ∙ eqb-true size (length text) same)))

  -- Where none is had before nothing it is none.
  pub no_identifier : (Had Ident (chars text) [] false → ⊥) → false ≡ is_text_of Ident text
  no_identifier never = sym (false_from_ne_true (is_text_of Ident text) (λ h. never (had_whole h)))

pub not_utf8 : (text : List ℕ) → (IsUtf8 text → ⊥) → false ≡ is_text_of Ident text
unfolding is_text_of
not_utf8 text never =
    sym (false_from_ne_true (is_text_of Ident text) (λ h.
    never (IsUtf8-from_is_utf8 text (and_parts (is_utf8 text) (has_form Ident (chars text)) h).0)))
