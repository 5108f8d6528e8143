-- The scan is exact: it finds what `Had` accepts, and nothing else.
use Rattle.std.proofs.Common.{◌≡◌, ℕ, List, [], ◌∷◌, ◌++◌, Bool, Some, None, refl, ap, subst}
use Rattle.std.specs.Prelude.{◌==◌}
use Rattle.std.specs.Char.{is_ascii_digit}
use Rattle.lay_piece.specs.Chars.{starts_word}
use Rattle.lay_piece.specs.Forms.{Had, after_literal}
use Rattle.lay_piece.specs.Found.{FrontPiece, found, front_of, other}
use Rattle.lay_piece.specs.declared.kind.Kind.{Kind}
use Rattle.lay_piece.specs.declared.kind.Kind.TheVariants.{Ident, RawIdent, Underscore, Lifetime, Char, Str, RawStr, Byte, ByteStr, RawByteStr, CStr, RawCStr, Int, Float, Punct, Opener, Closer, Doc}
use Rattle.lay_piece.proofs.Sound.{Stands, Sound, sound_cond, sound_at, literal_sound, word_sound, quote_sound, slash_sound, single_sound}
use Rattle.lay_piece.proofs.NumberSound.{number_sound}
use Rattle.lay_piece.proofs.NumberFound.{number_found}
use Rattle.lay_piece.proofs.Complete.{ident_found, raw_ident_found, underscore_found, lifetime_found, literal_front, punct_found, opener_found, closer_found, doc_found}

other_sound : (i : Bool) (c : ℕ) (cs : List ℕ) → Sound i (c ∷ cs) (other c cs)
unfolding after_literal
other_sound i c cs =
    sound_cond i _ (c == 34) _ _ (λ e. sound_at i c 34 [] cs _ e (literal_sound Str i (34 ∷ cs) _ refl refl)) (λ n.
    sound_cond i _ (c == 39) _ _ (λ e. sound_at i c 39 [] cs _ e (quote_sound i cs)) (λ n.
    sound_cond i _ (c == 47) _ _ (λ e. sound_at i c 47 [] cs _ e (slash_sound i cs)) (λ n. single_sound i c cs n)))

-- What is found is had.
pub front_sound : (i : Bool) (cs : List ℕ) → Sound i cs (front_of i cs)
unfolding front_of
front_sound i [] = tt
front_sound i (c ∷ cs) =
    sound_cond i _ (starts_word c) _ _ (λ h. word_sound i c cs h) (λ h.
    sound_cond i _ (is_ascii_digit c) _ _ (λ d. number_sound i (c ∷ cs) d) (λ d. other_sound i c cs))

-- What is had is found.
pub front_complete : (k : Kind) (p r : List ℕ) (i : Bool) → Had k p r i → front_of i (p ++ r) ≡ found k r
front_complete Ident p r i h = ident_found p r i h
front_complete RawIdent p r i h = raw_ident_found p r i h
front_complete Underscore p r i h = underscore_found p r i h
front_complete Lifetime p r i h = lifetime_found p r i h
front_complete Char p r i h = literal_front Char p r i refl h
front_complete Str p r i h = literal_front Str p r i refl h
front_complete RawStr p r i h = literal_front RawStr p r i refl h
front_complete Byte p r i h = literal_front Byte p r i refl h
front_complete ByteStr p r i h = literal_front ByteStr p r i refl h
front_complete RawByteStr p r i h = literal_front RawByteStr p r i refl h
front_complete CStr p r i h = literal_front CStr p r i refl h
front_complete RawCStr p r i h = literal_front RawCStr p r i refl h
front_complete Int p r i h = number_found Int p r i refl h
front_complete Float p r i h = number_found Float p r i refl h
front_complete Punct p r i h = punct_found p r i h
front_complete (Opener d) p r i h = opener_found d p r i h
front_complete (Closer d) p r i h = closer_found d p r i h
front_complete (Doc inner block) p r i h = doc_found inner block p r i h

abbrev kind_in : Kind → FrontPiece → Kind
kind_in k None = k
kind_in k (Some f) = f.0

abbrev rest_in : List ℕ → FrontPiece → List ℕ
rest_in r None = r
rest_in r (Some f) = f.1

pub found_kind : (k l : Kind) (r t : List ℕ) → found k r ≡ found l t → k ≡ l
found_kind k l r t e = ap (kind_in k) e

pub found_rest : (k l : Kind) (r t : List ℕ) → found k r ≡ found l t → r ≡ t
found_rest k l r t e = ap (rest_in r) e

pub stands_at : (i : Bool) (cs : List ℕ) (k : Kind) (r : List ℕ) → front_of i cs ≡ found k r → Stands i cs k r
stands_at i cs k r e = let P : FrontPiece → Type 0 = λ x. Sound i cs x in subst P e (front_sound i cs)
