-- Tokens of pieces, for those who call `cook`.
use Rattle.std.proofs.Common.{◌≡◌, ℕ, ◌+◌, ◌≤◌, List, [], ◌∷◌, ◌++◌, length, take, drop, Bool, true, IsUtf8, sym, refl, ap, ◌∙◌, subst, arith, length-append}
use Rattle.std.specs.List.{AllByRecursion}
use Rattle.std.specs.Str.{chars, encode_utf8_all}
use Rattle.std.proofs.Math.Seq.{take-append_seam}
use Rattle.std.proofs.lemmas.Bool.{and_parts, and_from}
use Rattle.std.proofs.lemmas.Str.{encodes-append, encodes-chars, scalars-chars}
use lib.Utf8.{scalar, scalars}
use Rattle.lay_piece.specs.Forms.{Had}
use Rattle.lay_token.specs.Lexes.{Part, Before, Other, Lexes, Fit, spell, step, is_index_place, size, text_of_piece, tokens_from}
use Rattle.lay_piece.specs.declared.kind.Kind.TheVariants.{Str, RawStr}
use Rattle.lay_piece.specs.declared.kind.Kind.{Kind}
use Rattle.lay_token.specs.declared.token.Token.{Token}
use Rattle.lay_cook.specs.Cooking.{IsPiece, IsString}

scalars_front : (x y : List ℕ) → scalars (x ++ y) ≡ true → scalars x ≡ true
scalars_front [] y h = refl
scalars_front (c ∷ x) y h =
    let p = and_parts (scalar c) (scalars (x ++ y)) h in and_from (scalar c) (scalars x) p.0 (scalars_front x y p.1)

-- a piece at the beginning of a text
pub piece_of_text : (k : Kind) (s piece more text : List ℕ) (index : Bool) → IsUtf8 s → chars s ≡ piece ++ more
    → Had k piece more index → text ≡ encode_utf8_all piece → IsPiece k text
piece_of_text k s piece more text index u e h f = record {
  piece = piece;
  rest = more;
  index = index;
  utf8 = (piece, (scalars_front piece more (sym (ap scalars e) ∙ scalars-chars s u), sym f));
  spelt = f;
  had = h;
}

pub string_of_piece : (token : Token) → IsPiece token.kind token.text → IsString token
string_of_piece token p = record {
  string = λ e. subst (λ k. IsPiece k token.text) e p;
  raw = λ e. subst (λ k. IsPiece k token.text) e p;
}

-- its bytes
text_bytes : (s piece more : List ℕ) → IsUtf8 s → chars s ≡ piece ++ more
    → s ≡ encode_utf8_all piece ++ encode_utf8_all more
text_bytes s piece more u e = sym (encodes-chars s u) ∙ ap encode_utf8_all e ∙ encodes-append piece more

pub piece_fits : (s piece more : List ℕ) (n : ℕ) → IsUtf8 s → chars s ≡ piece ++ more
    → n ≡ length (encode_utf8_all piece) → n ≤ length s
piece_fits s piece more n u e f =
    let size = ap length (text_bytes s piece more u e) ∙ length-append (encode_utf8_all piece) (encode_utf8_all more) in
    omega (arith, size, f)

pub piece_bytes : (s piece more : List ℕ) (n : ℕ) → IsUtf8 s → chars s ≡ piece ++ more
    → n ≡ length (encode_utf8_all piece) → take n s ≡ encode_utf8_all piece
piece_bytes s piece more n u e f =
    ap (λ k. take k s) f ∙ ap (take (length (encode_utf8_all piece))) (text_bytes s piece more u e)
    ∙ take-append_seam (encode_utf8_all piece) (encode_utf8_all more)

-- the tokens of a text that lexes
scalars_back : (x y : List ℕ) → scalars (x ++ y) ≡ true → scalars y ≡ true
scalars_back [] y h = h
scalars_back (c ∷ x) y h = scalars_back x y (and_parts (scalar c) (scalars (x ++ y)) h).1

string_text : (k : Kind) (cs : List ℕ) → k ≡ Str → text_of_piece k cs ≡ cs
string_text k cs e = ap (λ j. text_of_piece j cs) e

raw_text : (k : Kind) (cs : List ℕ) → k ≡ RawStr → text_of_piece k cs ≡ cs
raw_text k cs e = ap (λ j. text_of_piece j cs) e

piece_as : (j k : Kind) (piece rest : List ℕ) (index : Bool) → j ≡ k → scalars (piece ++ rest) ≡ true
    → Had j piece rest index → text_of_piece j piece ≡ piece → IsPiece k (encode_utf8_all (text_of_piece j piece))
piece_as j k piece rest index e s h f = record {
  piece = piece;
  rest = rest;
  index = index;
  utf8 = (piece, (scalars_front piece rest s, ap encode_utf8_all (sym f)));
  spelt = ap encode_utf8_all f;
  had = subst (λ i. Had i piece rest index) e h;
}

strings_from : (b : Before) (at : ℕ) (parts : List Part) (last : List ℕ) → scalars (spell parts last) ≡ true
    → Fit b parts last → AllByRecursion IsString (tokens_from at parts)
strings_from b at [] last s f = tt
strings_from b at (p ∷ ps) last s f =
    let behind = scalars_back p.gap (p.piece ++ spell ps last) s in (
      record {
        string = λ e. piece_as p.kind Str p.piece (spell ps last) (is_index_place b) e behind f.1 (string_text p.kind p.piece e);
        raw = λ e. piece_as p.kind RawStr p.piece (spell ps last) (is_index_place b) e behind f.1 (raw_text p.kind p.piece e);
      },
      strings_from (step b p) (at + size p.gap + size p.piece) ps last (scalars_back p.piece (spell ps last) behind) f.2,
    )

-- Each of them may be passed to `cook`.
pub strings_of_lexed : (bytes : List ℕ) (start : ℕ) (tokens : List Token) → IsUtf8 (drop start bytes)
    → Lexes bytes start tokens → AllByRecursion IsString tokens
strings_of_lexed bytes start tokens u l =
    let r = l.2 in
    let s : scalars (spell l.0 l.1) ≡ true = sym (ap scalars r.whole) ∙ scalars-chars (drop start bytes) u in
    subst (AllByRecursion IsString) (sym l.3) (strings_from Other start l.0 l.1 s r.fit)
