-- What the text of a token says about its piece: whether it is a point, and whether it may be
-- joint.
use Rattle.std.proofs.Common.{◌≡◌, ℕ, ◌<◌, List, [], ◌∷◌, Bool, true, false, cond, not, ◌&&◌, ◌||◌, sym, refl, ap, ◌∙◌, arith}
use Rattle.std.specs.Prelude.{codes}
use Rattle.std.specs.Str.{bytes_eq, encode_utf8_all}
use Rattle.std.proofs.lemmas.Bool.Decides.{same_from_decides, Decides-like}
use Rattle.std.proofs.lemmas.List.{append-nil}
use Rattle.std.proofs.lemmas.Slice.Eq.{bytes_eq-Decides}
use Rattle.std.proofs.lemmas.Str.{encodes_same, encode_ascii}
use Rattle.lay_piece.specs.Chars.{is_nil}
use Rattle.lay_token.specs.Lexes.{Part, Before, Other, Point, Points, is_punct, is_point, is_separator, is_joint, step, text_of_piece}
use Rattle.lay_piece.specs.declared.kind.Kind.{Kind}
use Rattle.lay_piece.specs.declared.kind.Kind.TheVariants.{Punct}
use Rattle.lay_lex.specs.Added.{behind, is_mark, token_of}

one_byte : (d : ℕ) → d < 128 → encode_utf8_all (d ∷ []) ≡ d ∷ []
one_byte d h = append-nil _ ∙ encode_ascii d h

-- one ASCII character is told from its byte
pub same_test : (d : ℕ) (cs : List ℕ) → d < 128 → bytes_eq (encode_utf8_all cs) (d ∷ []) ≡ bytes_eq cs (d ∷ [])
same_test d cs h =
    same_from_decides {P = encode_utf8_all cs ≡ d ∷ []} _ _ (bytes_eq-Decides (encode_utf8_all cs) (d ∷ []))
    (Decides-like (bytes_eq cs (d ∷ [])) (λ e. ap encode_utf8_all e ∙ one_byte d h)
    (λ e. encodes_same cs (d ∷ []) (e ∙ sym (one_byte d h))) (bytes_eq-Decides cs (d ∷ [])))

separator_bytes : (cs : List ℕ) → is_separator (encode_utf8_all cs) ≡ is_separator cs
separator_bytes cs =
    ap (λ b. b || bytes_eq (encode_utf8_all cs) (codes ";")) (same_test 44 cs (omega arith))
    ∙ ap (λ b. bytes_eq cs (codes ",") || b) (same_test 59 cs (omega arith))

mark_text : (k : Kind) (cs : List ℕ)
    → is_punct k && not (is_separator (encode_utf8_all (text_of_piece k cs))) ≡ is_punct k && not (is_separator cs)
mark_text Punct cs = ap not (separator_bytes cs)
mark_text _ cs = refl

point_text : (k : Kind) (cs : List ℕ)
    → is_punct k && bytes_eq (encode_utf8_all (text_of_piece k cs)) (codes ".") ≡ is_punct k && bytes_eq cs (codes ".")
point_text Punct cs = same_test 46 cs (omega arith)
point_text _ cs = refl

pub behind-token_of : (b : Before) (p : Part) (at : ℕ) → behind b (is_nil p.gap) (token_of at p.kind p.piece) ≡ step b p
unfolding step
behind-token_of b p at = ap (λ t. cond t (cond (is_point b && is_nil p.gap) Points Point) Other) (point_text p.kind p.piece)

and_order : (a b n s t : Bool) → a && b && n && s && t ≡ n && (b && t) && (a && s)
and_order true true true true true = refl
and_order true true true true false = refl
and_order true true true false true = refl
and_order true true true false false = refl
and_order true true false s t = refl
and_order true false true s t = refl
and_order true false false s t = refl
and_order false true true s true = refl
and_order false true true s false = refl
and_order false true false s t = refl
and_order false false true s t = refl
and_order false false false s t = refl

pub is_joint-tokens : (p q : Part) (qs : List Part) (at place : ℕ)
    → is_joint p (q ∷ qs) ≡ is_nil q.gap && is_mark (token_of place q.kind q.piece) && is_mark (token_of at p.kind p.piece)
is_joint-tokens p q qs at place =
    and_order (is_punct p.kind) (is_punct q.kind) (is_nil q.gap) (not (is_separator p.piece)) (not (is_separator q.piece))
    ∙ ap (λ b. is_nil q.gap && b && (is_punct p.kind && not (is_separator p.piece))) (sym (mark_text q.kind q.piece))
    ∙ ap (λ b. is_nil q.gap && is_mark (token_of place q.kind q.piece) && b) (sym (mark_text p.kind p.piece))
