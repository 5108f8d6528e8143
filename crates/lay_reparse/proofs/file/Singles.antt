-- In what a text lexes to, each token of punctuation is one character.
use Rattle.std.proofs.Common.{◌≡◌, inl, inr, ℕ, ◌+◌, List, [], ◌∷◌, Bool, true, not, ◌||◌, refl, ap, subst}
use Rattle.std.specs.Prelude.{◌==◌, codes}
use Rattle.std.specs.List.{list_all, list_any}
use Rattle.std.specs.Str.{encode_utf8_all}
use Rattle.std.proofs.lemmas.Bool.{and_parts, and_from, or_cases, eqb-true}
use Rattle.lay_piece.specs.Chars.{is_nil}
use Rattle.lay_piece.specs.Forms.{had, Had, has_form, is_one, is_punct_char}
use Rattle.lay_token.specs.Lexes.{Part, Before, spell, step, is_index_place, is_punct, Fit, size, text_of_piece, tokens_from}
use Rattle.lay_piece.specs.declared.kind.Kind.{Kind}
use Rattle.lay_piece.specs.declared.kind.Kind.TheVariants.{Punct}
use Rattle.lay_reparse.proofs.texts.Characters.{is_low, is_low_char, low_encodes}
use Rattle.lay_reparse.proofs.borders.OperatorRuns.{is_lone}
use Rattle.lay_reparse.proofs.forms.Balance.{are_single}

pub low_among : (xs : List ℕ) (c : ℕ) → list_all is_low_char xs ≡ true → list_any (λ d. d == c) xs ≡ true
    → is_low_char c ≡ true
low_among [] c h g = cc
low_among (x ∷ xs) c h g =
    let a = and_parts (is_low_char x) _ h in
    elim (or_cases (x == c) _ g) [
      | inl e ↦ subst (λ z. is_low_char z ≡ true) (eqb-true x c e) a.0
      | inr e ↦ low_among xs c a.1 e
    ]

one_lone : (x : List ℕ) → is_one is_punct_char x ≡ true → is_lone (encode_utf8_all x) ≡ true
one_lone [] h = cc
one_lone (c ∷ x) h =
    let a = and_parts (is_punct_char c) _ h in
    let l : is_low (c ∷ []) ≡ true = and_from (is_low_char c) true
    (low_among (codes "=<>!~+-*/%^&@.,;:#$?|") c refl a.0) refl in
    by x a.1 l
  where
    by : (x : List ℕ) → is_nil x ≡ true → is_low (c ∷ []) ≡ true → is_lone (encode_utf8_all (c ∷ x)) ≡ true
    by [] n l = ap is_lone (low_encodes (c ∷ []) l)
    by (d ∷ x) n l = cc

punct_single : (piece rest : List ℕ) (index : Bool) → Had Punct piece rest index
    → is_lone (encode_utf8_all piece) ≡ true
unfolding had has_form
punct_single piece rest index h = one_lone piece (and_parts (is_one is_punct_char piece) _ h).0

piece_single : (k : Kind) (piece rest : List ℕ) (index : Bool) → Had k piece rest index
    → not (is_punct k) || is_lone (encode_utf8_all (text_of_piece k piece)) ≡ true
piece_single Punct piece rest index h = punct_single piece rest index h
piece_single k piece rest index h = refl

pub parts_single : (b : Before) (parts : List Part) (rest : List ℕ) (at : ℕ) → Fit b parts rest
    → are_single (tokens_from at parts) ≡ true
parts_single b [] rest at f = refl
parts_single b (p ∷ ps) rest at f =
    let place = at + size p.gap in
    and_from _ (are_single (tokens_from (place + size p.piece) ps))
    (piece_single p.kind p.piece (spell ps rest) (is_index_place b) f.1)
    (parts_single (step b p) ps rest (place + size p.piece) f.2)
