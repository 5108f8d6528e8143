-- Parts of a text, one list after another.
use Rattle.std.proofs.Common.{◌≡◌, List, [], ◌∷◌, ◌++◌, ℕ, Bool, true, false, refl, ap, ◌∙◌, append_assoc}
use Rattle.lay_piece.specs.Forms.{had, has_form, after_literal}
use Rattle.lay_token.specs.Lexes.{Part, Before, spell, step, steps}
use Rattle.lay_piece.specs.declared.kind.Kind.{Kind}
use Rattle.lay_piece.specs.declared.kind.Kind.TheVariants.{Ident, RawIdent, Underscore, Lifetime, Char, Str, RawStr, Byte, ByteStr, RawByteStr, CStr, RawCStr, Int, Float, Punct, Opener, Closer, Doc}

pub spell-append : (ps qs : List Part) (last : List ℕ) → spell (ps ++ qs) last ≡ spell ps (spell qs last)
spell-append [] qs last = refl
spell-append (p ∷ ps) qs last = ap (λ l. p.gap ++ (p.piece ++ l)) (spell-append ps qs last)

pub steps-append : (b : Before) (ps qs : List Part) → steps b (ps ++ qs) ≡ steps (steps b ps) qs
steps-append b [] qs = refl
steps-append b (p ∷ ps) qs = steps-append (step b p) ps qs

pub spell-out : (ps : List Part) (x y : List ℕ) → spell ps (x ++ y) ≡ spell ps x ++ y
spell-out [] x y = refl
spell-out (p ∷ ps) x y = ap (λ l. p.gap ++ (p.piece ++ l)) (spell-out ps x y) ∙ simp append_assoc

-- a piece isn't empty
pub had_some : (k : Kind) (rest : List ℕ) (i : Bool) → had k [] rest i ≡ false
unfolding had has_form after_literal
had_some Ident rest i = refl
had_some RawIdent rest i = refl
had_some Underscore rest i = refl
had_some Lifetime rest i = refl
had_some Int rest true = refl
had_some Int rest false = refl
had_some Float rest true = refl
had_some Float rest false = refl
had_some Punct rest i = refl
had_some (Opener e) rest i = refl
had_some (Closer e) rest i = refl
had_some (Doc true true) rest i = refl
had_some (Doc true false) rest i = refl
had_some (Doc false true) rest i = refl
had_some (Doc false false) rest i = refl
had_some Char rest i = refl
had_some Str rest i = refl
had_some RawStr rest i = refl
had_some Byte rest i = refl
had_some ByteStr rest i = refl
had_some RawByteStr rest i = refl
had_some CStr rest i = refl
had_some RawCStr rest i = refl
