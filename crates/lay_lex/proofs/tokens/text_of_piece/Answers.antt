use Rattle.std.proofs.Common.{◌≡◌, ℕ, List, [], ◌∷◌, drop, refl, sym, ap, ◌∙◌}
use Rattle.std.specs.Str.{chars, encode_utf8_all}
use Rattle.std.proofs.lemmas.Str.{encodes-chars}
use Rattle.lay_token.specs.Lexes.{text_of_piece}
use Rattle.lay_piece.specs.declared.kind.Kind.{Kind}
use Rattle.lay_piece.specs.declared.kind.Kind.TheVariants.{RawIdent, Doc}
use Rattle.lay_lex.proofs.tokens.text_of_piece.Goals as goal

two_less : (cs : List ℕ) → drop 1 (drop 1 cs) ≡ drop 2 cs
two_less [] = refl
two_less (c ∷ []) = refl
two_less (c ∷ d ∷ cs) = refl

whole_piece : (k : Kind) (cs : List ℕ) → (k ≡ RawIdent → ⊥) → ((inner block : _) → k ≡ Doc inner block → ⊥)
    → text_of_piece k cs ≡ cs
whole_piece RawIdent cs r d = absurd (r refl)
whole_piece (Doc inner block) cs r d = absurd (d inner block refl)
whole_piece _ cs r d = refl

pub returns-in-RawIdent : goal.returns-in-RawIdent
returns-in-RawIdent c =
    let cs = chars c.args.piece.now in
    let text : chars c.behind_first-in-RawIdent.result.now ≡ drop 2 cs =
    c.behind_first-in-RawIdent.ensures ∙ ap (drop 1) c.behind_first.ensures ∙ two_less cs in
    c.as_bytes.ensures.value ∙ sym (encodes-chars c.behind_first-in-RawIdent.result.now c.behind_first-in-RawIdent.utf8)
    ∙ ap encode_utf8_all text ∙ ap (λ k. encode_utf8_all (text_of_piece k cs)) (sym c.in-RawIdent.is)

pub returns-in_default : goal.returns-in_default
returns-in_default c =
    c.as_bytes-in_default.ensures.value ∙ sym (encodes-chars c.args.piece.now c.utf8.piece)
    ∙ ap encode_utf8_all (sym (whole_piece c.args.kind (chars c.args.piece.now) c.in_default.not-RawIdent c.in_default.not-Doc))
