-- Lexing of one piece, which is a lexeme: the kind of the piece that a text begins with, and the
-- rest after it. The contracts inside the crate use these definitions. The laws of the crate say
-- that they find exactly what `Had` accepts.
use Rattle.std.specs.Prelude.{ℕ, zero, suc, ◌≡◌, Bool, true, false, cond, ◌&&◌, ◌||◌, ◌==◌, not, List, [], ◌∷◌, codes, drop, encode_utf8_all, Option, Some, None, MatchOption, option_and_then}
use Rattle.std.specs.Borrow.{Bor}
use Rattle.std.specs.Str.{chars}
use Rattle.std.specs.Char.{is_ascii_digit}
use Rattle.lay_piece.specs.Characters as char
use Rattle.lay_piece.specs.Chars.{begins, front, after, behind, begins_suffix, starts_word, in_word, in_digits}
use Rattle.lay_piece.specs.Scan.{run}
use Rattle.lay_piece.specs.Quoted.{Deep, doc_step, is_skipped}
use Rattle.lay_piece.specs.Number.{base_of, digits_of, in_base, in_run, is_decimal, is_exponent_letter, is_sign, begins_point}
use Rattle.lay_piece.specs.Forms.{after_string, after_char, after_raw, is_punct_char}
use Rattle.lay_piece.specs.Word.{is_path_word}
use Rattle.lay_piece.specs.declared.piece.quoted.Contents.TheVariants as of
use Rattle.lay_piece.specs.declared.piece.chars.CharSet.{CharSet}
use Rattle.lay_piece.specs.declared.piece.chars.CharSet.TheVariants as set
use Rattle.lay_piece.specs.declared.piece.numbers.Base.{Base}
use Rattle.lay_piece.specs.declared.piece.numbers.Base.TheVariants.{Decimal}
use Rattle.lay_piece.specs.declared.kind.Delim.TheVariants.{Paren, Bracket, Brace}
use Rattle.lay_piece.specs.declared.kind.Kind.{Kind}
use Rattle.lay_piece.specs.declared.kind.Kind.TheVariants.{Ident, RawIdent, Underscore, Lifetime, Char, Str, RawStr, Byte, ByteStr, RawByteStr, CStr, RawCStr, Int, Float, Punct, Opener, Closer, Doc}

-- a character before which a word is the prefix of a literal, or no token
abbrev pub is_mark : ℕ → Bool
is_mark c = c == char.quote || c == char.apostrophe || c == char.hash

-- a character that may not follow a lifetime
abbrev pub is_tick : ℕ → Bool
is_tick c = c == char.apostrophe || c == char.hash

-- a character that a documentation line may hold
abbrev pub in_doc_line : ℕ → Bool
in_doc_line c = not (c == char.line_feed || c == char.carriage_return)

-- a character after which /** opens no documentation
abbrev pub is_star_or_slash : ℕ → Bool
is_star_or_slash c = c == char.star || c == char.slash

-- The character is in the set.
abbrev pub in_set : CharSet → ℕ → Bool
in_set set.WordStart c = starts_word c
in_set set.Word c = in_word c
in_set set.Mark c = is_mark c
in_set set.Tick c = is_tick c
in_set set.Sign c = is_sign c
in_set set.ExponentLetter c = is_exponent_letter c
in_set set.DocLine c = in_doc_line c
in_set set.Skipped c = is_skipped c
in_set set.StarOrSlash c = is_star_or_slash c
in_set (set.Digit base) c = in_base base c
in_set (set.Digits base) c = in_base base c || c == char.underscore
in_set (set.Run base) c = in_run base c
in_set (set.Only d) c = c == d

-- the kind of a piece and the rest after it, if the text begins with a piece
abbrev pub FrontPiece : Type 0
FrontPiece = Option (Kind × List ℕ)

abbrev pub found : Kind → List ℕ → FrontPiece
found k rest = Some (k, rest)

-- The call returns this rest, or none.
abbrev pub Leaves : Option (List ℕ) → Option (Bor (List ℕ)) → Type 0
Leaves rest result = MatchOption result (rest ≡ None) (λ r. rest ≡ Some (chars r.now))

-- The call returns this kind and rest, or none.
abbrev pub Finds : FrontPiece → Option (Kind × Bor (List ℕ)) → Type 0
Finds front result = MatchOption result (front ≡ None) (λ p. front ≡ found p.0 (chars p.1.now))

-- the first result if there is one, else the second
abbrev pub or_else : FrontPiece → FrontPiece → FrontPiece
or_else None other = other
or_else (Some f) other = Some f

-- how many hashes the text begins with, up to a limit, and what follows them
abbrev pub hashes : ℕ → List ℕ → ℕ
hashes zero cs = 0
hashes (suc n) [] = 0
hashes (suc n) (c ∷ cs) = cond (c == char.hash) (suc (hashes n cs)) 0

abbrev pub behind_hashes : ℕ → List ℕ → List ℕ
behind_hashes zero cs = cs
behind_hashes (suc n) [] = []
behind_hashes (suc n) (c ∷ cs) = cond (c == char.hash) (behind_hashes n cs) (c ∷ cs)

-- words and lifetimes

abbrev pub after_suffix : List ℕ → List ℕ
after_suffix cs = cond (begins_suffix cs) (after in_word cs) cs

-- a literal, with its suffix if one follows
abbrev pub literal : Kind → Option (List ℕ) → FrontPiece
literal k None = None
literal k (Some cs) = found k (after_suffix cs)

-- a raw identifier after its r#
abbrev pub raw_name : List ℕ → FrontPiece
raw_name cs =
    cond (begins_suffix cs && not (is_path_word (encode_utf8_all (front in_word cs))))
    (found RawIdent (after in_word cs)) None

abbrev pub raw_word : List ℕ → FrontPiece
raw_word cs = or_else (literal RawStr (after_raw of.Chars cs)) (behind None (codes "#") raw_name cs)

abbrev pub byte_word : List ℕ → FrontPiece
byte_word [] = None
byte_word (c ∷ cs) =
    cond (c == char.apostrophe) (literal Byte (after_char of.Bytes cs))
    (cond (c == char.quote) (literal ByteStr (after_string of.Bytes cs))
    (cond (c == char.letter_r) (literal RawByteStr (after_raw of.Bytes cs)) None))

abbrev pub c_word : List ℕ → FrontPiece
c_word [] = None
c_word (c ∷ cs) =
    cond (c == char.quote) (literal CStr (after_string of.CChars cs))
    (cond (c == char.letter_r) (literal RawCStr (after_raw of.CChars cs)) None)

abbrev pub prefixed : ℕ → List ℕ → FrontPiece
prefixed c cs = cond (c == char.letter_r) (raw_word cs) (cond (c == char.letter_b) (byte_word cs) (cond (c == char.letter_c) (c_word cs) None))

abbrev pub word : ℕ → List ℕ → FrontPiece
word c cs = cond (begins is_mark (after in_word cs)) (prefixed c cs)
    (found (cond (c == char.underscore && not (begins in_word cs)) Underscore Ident) (after in_word cs))

abbrev pub lifetime : List ℕ → FrontPiece
lifetime [] = None
lifetime (c ∷ cs) =
    cond (starts_word c && not (begins is_tick (after in_word cs))) (found Lifetime (after in_word cs)) None

abbrev pub quote : List ℕ → FrontPiece
quote cs = or_else (literal Char (after_char of.Chars cs)) (lifetime cs)

-- documentation, and the slash

abbrev pub line_doc : Bool → List ℕ → FrontPiece
line_doc inner cs =
    cond (begins (λ c. c == char.carriage_return) (after in_doc_line cs)) None (found (Doc inner false) (after in_doc_line cs))

abbrev pub block_doc : Bool → List ℕ → FrontPiece
block_doc inner cs = option_and_then (λ rest. found (Doc inner true) rest) (run doc_step (Deep 0) cs)

-- after //
abbrev pub line_comment : List ℕ → FrontPiece
line_comment [] = None
line_comment (c ∷ cs) =
    cond (c == char.bang) (line_doc true cs) (cond (c == char.slash && not (begins (λ d. d == char.slash) cs)) (line_doc false cs) None)

-- after /*
abbrev pub block_comment : List ℕ → FrontPiece
block_comment [] = None
block_comment (c ∷ cs) =
    cond (c == char.bang) (block_doc true cs)
    (cond (c == char.star && not (begins is_star_or_slash cs)) (block_doc false cs) None)

abbrev pub slash : List ℕ → FrontPiece
slash [] = found Punct []
slash (c ∷ cs) = cond (c == char.slash) (line_comment cs) (cond (c == char.star) (block_comment cs) (found Punct (c ∷ cs)))

-- single characters
abbrev pub single : ℕ → List ℕ → FrontPiece
single c cs =
    cond (c == char.open_paren) (found (Opener Paren) cs) (cond (c == char.close_paren) (found (Closer Paren) cs)
    (cond (c == char.open_bracket) (found (Opener Bracket) cs) (cond (c == char.close_bracket) (found (Closer Bracket) cs)
    (cond (c == char.open_brace) (found (Opener Brace) cs) (cond (c == char.close_brace) (found (Closer Brace) cs)
    (cond (is_punct_char c) (found Punct cs) None))))))

-- numbers

abbrev pub is_underscore : ℕ → Bool
is_underscore c = c == char.underscore

-- the rest after a run of digits and underscores, if the run holds a digit, and none outside of the
-- base
abbrev pub after_run : Base → List ℕ → Option (List ℕ)
after_run base cs =
    let rest = after (λ c. in_base base c || c == char.underscore) cs in
    cond (begins (in_base base) (after is_underscore cs) && not (begins (in_run base) rest)) (Some rest) None

abbrev pub suffixed : Kind → List ℕ → FrontPiece
suffixed k cs =
    cond (begins starts_word cs) (found k (after in_word cs)) (cond (begins in_word cs) None (found k cs))

abbrev pub exponent_run : List ℕ → FrontPiece
exponent_run cs = option_and_then (suffixed Float) (after_run Decimal cs)

-- after the letter of an exponent
abbrev pub exponent : List ℕ → FrontPiece
exponent [] = None
exponent (c ∷ cs) = cond (is_sign c) (exponent_run cs) (exponent_run (c ∷ cs))

-- after the digits of a fraction
abbrev pub fraction : List ℕ → FrontPiece
fraction cs = cond (begins is_exponent_letter cs) (exponent (drop 1 cs)) (suffixed Float cs)

-- after the point of a Float
abbrev pub point : List ℕ → FrontPiece
point cs = cond (begins is_ascii_digit cs) (fraction (after in_digits cs)) (found Float cs)

-- after the digits of a number
abbrev pub whole : Base → List ℕ → FrontPiece
whole base cs =
    cond (begins_point cs) (cond (is_decimal base) (point (drop 1 cs)) None)
    (cond (begins is_exponent_letter cs) (cond (is_decimal base) (exponent (drop 1 cs)) None) (suffixed Int cs))

abbrev pub plain_number : List ℕ → FrontPiece
plain_number cs = option_and_then (whole (base_of cs)) (after_run (base_of cs) (digits_of (base_of cs) cs))

abbrev pub number : Bool → List ℕ → FrontPiece
number index cs =
    cond (index && not (begins in_word (after is_ascii_digit cs))) (found Int (after is_ascii_digit cs))
    (plain_number cs)

-- any first character

abbrev pub other : ℕ → List ℕ → FrontPiece
other c cs =
    cond (c == char.quote) (literal Str (after_string of.Chars cs))
    (cond (c == char.apostrophe) (quote cs) (cond (c == char.slash) (slash cs) (single c cs)))

unfoldable pub front_of : Bool → List ℕ → FrontPiece
front_of index [] = None
front_of index (c ∷ cs) =
    cond (starts_word c) (word c cs) (cond (is_ascii_digit c) (number index (c ∷ cs)) (other c cs))
