-- The value of a string without suffix: its text with the escapes resolved (Rust Reference, "String literals",
-- "Raw string literals").
use Rattle.std.specs.Prelude.{ℕ, ◌+◌, ◌*◌, ◌-◌, Bool, cond, ◌==◌, List, [], ◌∷◌, ◌++◌, length, take, drop, Option, Some, None}
use Rattle.lay_piece.specs.Characters as char
use Rattle.lay_piece.specs.Chars.{front, hex_value}
use Rattle.lay_piece.specs.Scan.{Go, End, Bad}
use Rattle.lay_piece.specs.Quoted.{Backslash, Hex, HexTwo, Open, Digits, InString, Plain, Turned, Escape, Skip, string_step, is_skipped}
use Rattle.lay_piece.specs.Forms.{after_literal, is_whole}
use Rattle.lay_piece.specs.declared.piece.quoted.Contents.TheVariants as of
use Rattle.lay_piece.specs.declared.kind.Kind.{Kind}
use Rattle.lay_piece.specs.declared.kind.Kind.TheVariants.{Str, RawStr}

-- what an escape of one character stands for, by the character after the backslash; else nothing
abbrev pub short_escape : ℕ → List ℕ
short_escape c =
    cond (c == char.letter_n) (10 ∷ []) (cond (c == char.letter_r) (13 ∷ []) (cond (c == char.letter_t) (9 ∷ []) (cond (c == char.zero) (0 ∷ [])
    (cond (c == char.backslash) (92 ∷ []) (cond (c == char.apostrophe) (39 ∷ []) (cond (c == char.quote) (34 ∷ []) []))))))

abbrev pub plain_adds : ℕ → List ℕ
plain_adds c = cond (c == char.backslash) [] (c ∷ [])

-- what a character adds to the value, by the state before it
unfoldable pub adds : InString → ℕ → List ℕ
adds Plain c = plain_adds c
adds Turned c = short_escape c
adds (Escape Backslash) c = short_escape c
adds (Escape Hex) c = []
adds (Escape (HexTwo h)) c = (16 * h + hex_value c) ∷ []
adds (Escape Open) c = []
adds (Escape (Digits n v)) c = cond (c == char.close_brace) (v ∷ []) []
adds Skip c = cond (is_skipped c) [] (plain_adds c)

-- the value of a string, by what follows its opening quote
unfoldable pub string_value : InString → List ℕ → List ℕ
string_value s [] = []
string_value s (c ∷ cs) =
    elim (string_step of.Chars s c) [ Go t ↦ adds s c ++ string_value t cs | End ↦ [] | Bad ↦ [] ]

abbrev pub is_hash : ℕ → Bool
is_hash c = c == char.hash

-- The value of a raw string, by what follows its r: the text between the quotes. As many hashes
-- stand before the quotes as after them.
abbrev pub raw_value : List ℕ → List ℕ
raw_value cs = let around = length (front is_hash cs) + 1 in take (length cs - 2 * around) (drop around cs)

-- the value of a literal, if it is a Str or a RawStr without a suffix
abbrev pub value_of : Kind → List ℕ → Option (List ℕ)
value_of Str piece = cond (is_whole (after_literal Str piece)) (Some (string_value Plain (drop 1 piece))) None
value_of RawStr piece = cond (is_whole (after_literal RawStr piece)) (Some (raw_value (drop 1 piece))) None
value_of _ piece = None
