-- The lexical grammar: what a piece (a lexeme) of each kind looks like, and what may follow it
-- (Rust Reference, "Tokens").
use Rattle.std.specs.Prelude.{ℕ, Bool, true, false, cond, ◌&&◌, ◌||◌, ◌==◌, not, List, [], ◌∷◌, codes, encode_utf8_all, IsTrue, Option, Some, None}
use Rattle.std.specs.List.{list_any}
use Rattle.std.specs.Char.{is_ascii_digit}
use Rattle.lay_piece.specs.Characters as char
use Rattle.lay_piece.specs.Chars.{begins, behind, is_nil, is_word, is_suffix, is_lone_underscore, begins_suffix, starts_word, in_word}
use Rattle.lay_piece.specs.Scan.{run}
use Rattle.lay_piece.specs.Quoted.{Plain, First, Hashes, Deep, string_step, char_step, raw_step, doc_step}
use Rattle.lay_piece.specs.Number.{is_int, is_float, is_index, fronts_index, is_bare_int, ends_in_point, begins_point}
use Rattle.lay_piece.specs.Word.{is_path_word}
use Rattle.lay_piece.specs.declared.piece.quoted.Contents.{Contents}
use Rattle.lay_piece.specs.declared.piece.quoted.Contents.TheVariants as of
use Rattle.lay_piece.specs.declared.kind.Delim.{Delim}
use Rattle.lay_piece.specs.declared.kind.Delim.TheVariants.{Paren, Bracket, Brace}
use Rattle.lay_piece.specs.declared.kind.Kind.{Kind}
use Rattle.lay_piece.specs.declared.kind.Kind.TheVariants.{Ident, RawIdent, Underscore, Lifetime, Char, Str, RawStr, Byte, ByteStr, RawByteStr, CStr, RawCStr, Int, Float, Punct, Opener, Closer, Doc}

-- the rest after a string, a character or a raw string, if the text begins with it; its opening is
-- left out
abbrev pub after_string : Contents → List ℕ → Option (List ℕ)
after_string y = run (string_step y) Plain

abbrev pub after_char : Contents → List ℕ → Option (List ℕ)
after_char y = run (char_step y) First

abbrev pub after_raw : Contents → List ℕ → Option (List ℕ)
after_raw y = run (raw_step y) (Hashes 0)

-- what follows the closing quote of a literal of this kind, or the hashes after that quote
unfoldable pub after_literal : Kind → List ℕ → Option (List ℕ)
after_literal Char cs = behind None (codes "'") (after_char of.Chars) cs
after_literal Str cs = behind None (codes "\"") (after_string of.Chars) cs
after_literal RawStr cs = behind None (codes "r") (after_raw of.Chars) cs
after_literal Byte cs = behind None (codes "b'") (after_char of.Bytes) cs
after_literal ByteStr cs = behind None (codes "b\"") (after_string of.Bytes) cs
after_literal RawByteStr cs = behind None (codes "br") (after_raw of.Bytes) cs
after_literal CStr cs = behind None (codes "c\"") (after_string of.CChars) cs
after_literal RawCStr cs = behind None (codes "cr") (after_raw of.CChars) cs
after_literal _ cs = None

-- Nothing follows the literal, or a suffix and nothing more does.
abbrev pub is_literal_end : Option (List ℕ) → Bool
is_literal_end None = false
is_literal_end (Some cs) = is_nil cs || is_suffix cs

-- The form is the whole text.
abbrev pub is_whole : Option (List ℕ) → Bool
is_whole None = false
is_whole (Some cs) = is_nil cs

abbrev pub is_punct_char : ℕ → Bool
is_punct_char c = list_any (λ d. d == c) (codes "=<>!~+-*/%^&@.,;:#$?|")

abbrev pub is_one : (ℕ → Bool) → List ℕ → Bool
is_one p [] = false
is_one p (c ∷ cs) = p c && is_nil cs

abbrev pub opening : Delim → ℕ
opening Paren = char.open_paren
opening Bracket = char.open_bracket
opening Brace = char.open_brace

abbrev pub closing : Delim → ℕ
closing Paren = char.close_paren
closing Bracket = char.close_bracket
closing Brace = char.close_brace

-- what opens a documentation comment (Rust Reference, "Doc comments")
abbrev pub doc_opening : Bool → Bool → List ℕ
doc_opening true true = codes "/*!"
doc_opening false true = codes "/**"
doc_opening true false = codes "//!"
doc_opening false false = codes "///"

-- The text may follow the opening of a documentation line. After an outer opening it doesn't begin
-- with a slash. No line holds an LF or a CR.
abbrev pub is_line_doc : Bool → List ℕ → Bool
is_line_doc inner cs = (inner || not (begins (λ c. c == char.slash) cs)) && not (list_any (λ c. c == char.line_feed || c == char.carriage_return) cs)

-- The text may follow the opening of a documentation block. After an outer opening it begins
-- neither with a star nor with a slash. It ends with the */ that matches the opening.
abbrev pub is_block_doc : Bool → List ℕ → Bool
is_block_doc inner cs = (inner || not (begins (λ c. c == char.star || c == char.slash) cs)) && is_whole (run doc_step (Deep 0) cs)

-- The piece has the form of the kind.
unfoldable pub has_form : Kind → List ℕ → Bool
has_form Ident cs = is_word cs && not (is_lone_underscore cs)
has_form RawIdent cs = behind false (codes "r#") (λ ds. is_suffix ds && not (is_path_word (encode_utf8_all ds))) cs
has_form Underscore cs = is_lone_underscore cs
has_form Lifetime cs = behind false (codes "'") is_word cs
has_form Int cs = is_int cs
has_form Float cs = is_float cs
has_form Punct cs = is_one is_punct_char cs
has_form (Opener d) cs = is_one (λ c. c == opening d) cs
has_form (Closer d) cs = is_one (λ c. c == closing d) cs
has_form (Doc inner block) cs =
    behind false (doc_opening inner block) (cond block (is_block_doc inner) (is_line_doc inner)) cs
has_form k cs = is_literal_end (after_literal k cs)

-- A literal without a suffix isn't followed by one, and one with a suffix isn't followed by XID_Continue.
abbrev pub literal_may_stop : Bool → List ℕ → Bool
literal_may_stop bare rest = cond bare (not (begins_suffix rest)) (not (begins in_word rest))

-- The rest may follow the piece.
unfoldable pub may_precede : Kind → List ℕ → List ℕ → Bool
may_precede Ident piece rest = not (begins (λ c. in_word c || c == char.quote || c == char.apostrophe || c == char.hash) rest)
may_precede RawIdent piece rest = not (begins in_word rest)
may_precede Underscore piece rest = not (begins (λ c. in_word c || c == char.quote || c == char.apostrophe || c == char.hash) rest)
may_precede Lifetime piece rest = not (begins (λ c. in_word c || c == char.apostrophe || c == char.hash) rest)
may_precede Int piece rest = not (begins in_word rest) && not (is_bare_int piece && begins_point rest)
may_precede Float piece rest =
    cond (ends_in_point piece) (not (begins (λ c. is_ascii_digit c || c == char.point || starts_word c) rest))
    (not (begins in_word rest))
may_precede Punct piece rest = not (begins (λ c. c == char.slash) piece && begins (λ c. c == char.slash || c == char.star) rest)
may_precede (Opener d) piece rest = true
may_precede (Closer d) piece rest = true
may_precede (Doc inner block) piece rest = block || not (begins (λ c. not (c == char.line_feed)) rest)
may_precede k piece rest = literal_may_stop (is_whole (after_literal k piece)) rest

abbrev pub is_int_kind : Kind → Bool
is_int_kind Int = true
is_int_kind _ = false

abbrev pub is_number_kind : Kind → Bool
is_number_kind Int = true
is_number_kind Float = true
is_number_kind _ = false

-- The text is a piece of the kind and then the rest. `index` is true where a tuple index may stand,
-- as after the `.` of a field. There, a number whose digits aren't followed by XID_Continue has the
-- form of an index and no other (Rust Reference, "Tuple index").
unfoldable pub had : Kind → List ℕ → List ℕ → Bool → Bool
had k piece rest index =
    cond (is_number_kind k && index && fronts_index piece rest)
    (is_int_kind k && is_index piece && not (begins in_word rest))
    (has_form k piece && may_precede k piece rest)

abbrev pub Had : Kind → List ℕ → List ℕ → Bool → Type 0
Had k piece rest index = IsTrue (had k piece rest index)
