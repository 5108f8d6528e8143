-- The tokens of the parts that are found.
use Rattle.std.proofs.Common.{◌≡◌, ℕ, ◌+◌, ◌-◌, ◌≤◌, Bool, false, cond, ◌&&◌, List, [], ◌∷◌, ◌++◌, None, Some, length, drop, sym, refl, ap, ◌∙◌, arith, IsUtf8}
use Rattle.std.specs.Prelude.{◌==◌, codes, encode_utf8_all}
use Rattle.std.specs.Str.{bytes_eq, chars}
use Rattle.std.proofs.lemmas.Bool.{eq-eqb, ne_eqb}
use Rattle.std.proofs.lemmas.Str.{encodes-chars, length-le-encodes}
use Rattle.lay_piece.specs.Chars.{is_nil}
use Rattle.lay_piece.specs.Forms.{Had}
use Rattle.lay_piece.specs.Found.{front_of}
use Rattle.lay_piece.specs.Gap.{Outside}
use Rattle.lay_piece.specs.declared.kind.Kind.{Kind}
use Rattle.lay_piece.specs.declared.kind.Kind.TheVariants.{Punct}
use Rattle.lay_piece.proofs.Exact.{front_complete}
use Rattle.lay_piece.proofs.Texts.{length_parts}
use Rattle.lay_token.specs.Lexes.{Before, Lexes, Other, Part, Point, Points, is_index_place, is_joint, is_point, is_punct, size, step, text_of_piece, tokens_from}
use Rattle.lay_token.specs.declared.token.Token.{Token}
use Rattle.lay_lex.specs.Gap.{rest_of}
use Rattle.lay_lex.proofs.Gaps.{longest}
use Rattle.lay_lex.proofs.Marks.{same_test}
use Rattle.lay_lex.specs.one_by_one.Ahead.{next_part, parts_of}
use Rattle.lay_lex.proofs.one_by_one_lemmas.PartLemmas.{next_found, parts_are, parts_more, parts_none}

-- What a text lexes to is found.
pub lexed : (bytes : List ℕ) (start : ℕ) (ts : List Token) → Lexes bytes start ts
    → tokens_from start (parts_of Other (chars (drop start bytes))) ≡ ts
lexed bytes start ts l =
    ap (λ (cs : List ℕ). tokens_from start (parts_of Other cs)) l.2.whole
    ∙ ap (tokens_from start) (parts_are Other l.0 l.1 l.2.fit l.2.end)
    ∙ sym l.3

pub none_ahead : (b : Before) (at : ℕ) (cs : List ℕ) → next_part b cs ≡ None → tokens_from at (parts_of b cs) ≡ []
none_ahead b at cs n = ap (tokens_from at) (parts_none b cs n)

-- A gap is empty where it takes no bytes.
touch : (gap : List ℕ) (ahead rest : ℕ) → ahead ≡ size gap + rest → rest == ahead ≡ is_nil gap
touch [] ahead rest e = eq-eqb rest ahead (omega arith)
touch (c ∷ gap) ahead rest e = ne_eqb rest ahead (λ h. absurd (omega (arith, length-le-encodes (c ∷ gap))))

-- ---- what follows a piece

point_bytes : (bytes : List ℕ) → IsUtf8 bytes → bytes_eq bytes (codes ".") ≡ bytes_eq (chars bytes) (codes ".")
point_bytes bytes u =
    ap (λ (x : List ℕ). bytes_eq x (codes ".")) (sym (encodes-chars bytes u)) ∙ same_test 46 (chars bytes) (omega arith)

pub stepped : (b r : Before) (kind : Kind) (bytes : List ℕ) (touches point : Bool) (part : Part) → kind ≡ Punct → IsUtf8 bytes → part.kind ≡ kind
    → part.piece ≡ chars bytes → touches ≡ is_nil part.gap → point ≡ bytes_eq bytes (codes ".")
    → r ≡ cond point (cond (is_point b && touches) Points Point) Other → r ≡ step b part
unfolding step
stepped b r kind bytes touches point part p u k w t h e =
    e
    ∙ ap (λ (x : Bool). cond x (cond (is_point b && touches) Points Point) Other) (h ∙ point_bytes bytes u ∙ ap (λ (x : List ℕ). bytes_eq x (codes ".")) (sym w))
    ∙ ap (λ (x : Bool). cond (bytes_eq part.piece (codes ".")) (cond (is_point b && x) Points Point) Other) t
    ∙ ap (λ (x : Kind). cond (is_punct x && bytes_eq part.piece (codes ".")) (cond (is_point b && is_nil part.gap) Points Point) Other) (sym (k ∙ p))

no_punct : (k : Kind) → (k ≡ Punct → ⊥) → is_punct k ≡ false
no_punct Punct n = absurd (n refl)
no_punct _ n = refl

pub stepped_other : (b : Before) (kind : Kind) (part : Part) → (kind ≡ Punct → ⊥) → part.kind ≡ kind → Other ≡ step b part
unfolding step
stepped_other b kind part n k =
    sym (ap (λ (x : Bool). cond (x && bytes_eq part.piece (codes ".")) (cond (is_point b && is_nil part.gap) Points Point) Other)
    (ap is_punct k ∙ no_punct kind n))

-- ---- the next token

-- The next token, and what is ahead after it: after a gap stands a piece, in a text that ends at this byte.
pub record Turned (b : Before) (end : ℕ) (ahead rest behind : List ℕ) (kind : Kind) (piece : List ℕ) : Type 0 where
  pub part : Part
  pub kind_is : part.kind ≡ kind
  pub piece_is : part.piece ≡ piece
  pub touches : length rest == length ahead ≡ is_nil part.gap
  pub within : length rest ≤ end
  pub behind_within : length behind ≤ end
  pub tokens : tokens_from (end - length ahead) (parts_of b (chars ahead))
      ≡ record {
        kind = kind;
        text = encode_utf8_all (text_of_piece kind piece);
        joint = is_joint part (parts_of (step b part) (chars behind));
        at = end - length rest;
        len = size piece;
      } ∷ tokens_from (end - length behind) (parts_of (step b part) (chars behind))

pub turned : (b : Before) (end : ℕ) (ahead rest behind piece : List ℕ) (kind : Kind) → rest_of Outside (chars ahead) (chars ahead) ≡ Some (chars rest)
    → chars rest ≡ piece ++ chars behind → Had kind piece (chars behind) (is_index_place b) → length ahead ≤ end
    → IsUtf8 ahead → IsUtf8 rest → IsUtf8 behind → Turned b end ahead rest behind kind piece
turned b end ahead rest behind piece kind r w h k ua ur ub =
    let l = longest (chars ahead) (chars rest) r in
    let part : Part = record { gap = l.gap; kind = kind; piece = piece } in
    let gap_size : length ahead ≡ size l.gap + length rest = length_parts ahead rest l.gap ua ur l.whole in
    let piece_size : length rest ≡ size piece + length behind = length_parts rest behind piece ur ub w in
    let front = ap (λ (x : List ℕ). front_of (is_index_place b) x) w ∙ front_complete kind piece (chars behind) (is_index_place b) h in
    let found = next_found b l.gap piece (chars behind) (chars rest) (chars ahead) kind r front l.whole w in
    let place : end - length ahead + size l.gap ≡ end - length rest = omega (arith, gap_size, k) in
    let beyond : end - length rest + size piece ≡ end - length behind = omega (arith, gap_size, piece_size, k) in
    let more : List Part = parts_of (step b part) (chars behind) in
    record {
      part = part;
      kind_is = refl;
      piece_is = refl;
      touches = touch l.gap (length ahead) (length rest) gap_size;
      within = omega (arith, gap_size, k);
      behind_within = omega (arith, gap_size, piece_size, k);
      tokens = ap (tokens_from (end - length ahead)) (parts_more b (chars ahead) part (chars behind) found)
          ∙ ap (λ (n : ℕ). record {
            kind = kind;
            text = encode_utf8_all (text_of_piece kind piece);
            joint = is_joint part more;
            at = n;
            len = size piece;
          } ∷ tokens_from (n + size piece) more) place
          ∙ ap (λ (n : ℕ). record {
            kind = kind;
            text = encode_utf8_all (text_of_piece kind piece);
            joint = is_joint part more;
            at = end - length rest;
            len = size piece;
          } ∷ tokens_from n more) beyond;
    }
